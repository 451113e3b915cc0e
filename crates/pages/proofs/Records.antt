-- Laws of records: their lengths, their bytes one behind the other, and that the pairs are read back from them.
use mathlib.Core.Path.{◌≡◌, refl, sym, ap, ◌∙◌}
use mathlib.Core.Bool.{Bool, true}
use mathlib.Core.List.{List, [], ◌∷◌, ◌++◌, append_assoc, append-nil}
use Prim.Native.Nat.{ℕ, suc, ◌+◌, ◌<◌}
use native.Mathlib.Omega.{arith}
use lib.Dec.{ltb}
use lib.ListN.{length, take, drop, get_or, length-append}
use lib.Seq.{take-append_seam, drop_at, get_or-append-add}
use borrow.Author.Tests.{ltb-true}
use Rattle.cells.specs.Occurrences.{all}
use Rattle.cells.specs.Word.{word_at}
use Rattle.cells.proofs.Choice.{all_head, all_tail}
use Rattle.cells.proofs.Words.{word_agree, recombine}
use Rattle.trees.specs.Entries.{Entry}
use Rattle.pages.specs.Record.{word_bytes, record_of, records_of, pair_in, pairs_in}

-- a value that four bytes hold
abbrev pub four_bytes : Entry → Bool
four_bytes entry = ltb entry.value 4294967296

-- a record has a length byte and four bytes of value beside its key
pub record_length : (entry : Entry) → length (record_of entry) ≡ length entry.key + 5
record_length entry = omega (arith, length-append entry.key (word_bytes entry.value))

-- the records of none, of one more, and of two lists
pub records_none : records_of [] ≡ []
unfolding records_of
records_none = refl

pub records_more : (entry : Entry) (l : List Entry) → records_of (entry ∷ l) ≡ record_of entry ++ records_of l
unfolding records_of
records_more entry l = refl

pub records_append : (a b : List Entry) → records_of (a ++ b) ≡ records_of a ++ records_of b
records_append [] b = ap (λ (l : List ℕ). l ++ records_of b) (sym records_none)
records_append (entry ∷ a) b =
    records_more entry (a ++ b)
    ∙ ap (λ (l : List ℕ). record_of entry ++ l) (records_append a b)
    ∙ sym (append_assoc (record_of entry) (records_of a) (records_of b))
    ∙ ap (λ (l : List ℕ). l ++ records_of b) (sym (records_more entry a))

-- four bytes give back the value that they hold
word_back : (value : ℕ) (rest : List ℕ) → value < 4294967296 → word_at (word_bytes value ++ rest) 0 ≡ value
unfolding word_at
word_back value rest small = recombine value small

-- the first record of some bytes gives back its pair
module _ (entry : Entry) (rest : List ℕ) where
  abbrev behind_key : List ℕ
  behind_key = word_bytes entry.value ++ rest

  joined_key : (entry.key ++ word_bytes entry.value) ++ rest ≡ entry.key ++ behind_key
  joined_key = append_assoc entry.key (word_bytes entry.value) rest

  key_back : (pair_in (record_of entry ++ rest)).key ≡ entry.key
  key_back = ap (take (length entry.key)) joined_key ∙ take-append_seam entry.key behind_key

  value_back : entry.value < 4294967296 → (pair_in (record_of entry ++ rest)).value ≡ entry.value
  value_back small =
      let size : ℕ = length entry.key in
      ap (λ (l : List ℕ). word_at (size ∷ l) (size + 1)) joined_key
      ∙ word_agree (size ∷ (entry.key ++ behind_key)) behind_key (size + 1) 0
      (λ r near.
      let past : size + 1 + r ≡ suc (size + r) = omega arith in
      let same : r ≡ 0 + r = omega arith in
      ap (λ (i : ℕ). get_or (size ∷ (entry.key ++ behind_key)) i 0) past
      ∙ get_or-append-add entry.key behind_key r 0
      ∙ ap (λ (i : ℕ). get_or behind_key i 0) same)
      ∙ word_back entry.value rest small

  pair_back : entry.value < 4294967296 → pair_in (record_of entry ++ rest) ≡ entry
  pair_back small =
      let value = value_back small in
      λ i. record { key = key_back i; value = value i }

  rest_back : drop (get_or (record_of entry ++ rest) 0 0 + 5) (record_of entry ++ rest) ≡ rest
  rest_back = drop_at (record_of entry) rest (length entry.key + 5) (record_length entry)

-- so many records as there are pairs give back the pairs, whatever is behind them
pub records_read : (l : List Entry) (rest : List ℕ) → all four_bytes l ≡ true → pairs_in (length l) (records_of l ++ rest) ≡ l
unfolding pairs_in records_of
records_read [] rest small = refl
records_read (entry ∷ l) rest small =
    let bytes : (record_of entry ++ records_of l) ++ rest ≡ record_of entry ++ (records_of l ++ rest) = append_assoc (record_of entry) (records_of l) rest in
    let value : entry.value < 4294967296 = ltb-true entry.value 4294967296 (all_head four_bytes entry l small) in
    ap (pairs_in (suc (length l))) bytes
    ∙ ap (λ (e : Entry). e ∷ pairs_in (length l) (drop (get_or (record_of entry ++ (records_of l ++ rest)) 0 0 + 5) (record_of entry ++ (records_of l ++ rest))))
    (pair_back entry (records_of l ++ rest) value)
    ∙ ap (λ (bs : List ℕ). entry ∷ pairs_in (length l) bs) (rest_back entry (records_of l ++ rest))
    ∙ ap (λ (es : List Entry). entry ∷ es) (records_read l rest (all_tail four_bytes entry l small))

-- the same with nothing behind them
pub records_alone : (l : List Entry) → all four_bytes l ≡ true → pairs_in (length l) (records_of l) ≡ l
records_alone l small = ap (pairs_in (length l)) (sym (append-nil (records_of l))) ∙ records_read l [] small
