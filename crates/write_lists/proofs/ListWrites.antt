-- The writes of a build one by one: how many they are, that each is a position and a word, and what the one at a place stores.
use mathlib.Core.Path.{◌≡◌, refl, sym, ap, ◌∙◌}
use mathlib.Core.List.{List, [], ◌∷◌, ◌++◌}
use Prim.Native.Nat.{ℕ, zero, suc, ◌+◌, ◌*◌, ◌≤◌, ◌<◌}
use native.Mathlib.Decide.{ℕ_discrete}
use native.Mathlib.Nat.{zero-add}
use native.Mathlib.Omega.{arith}
use lib.ListN.{length, get_or, length-append, get_or-append}
use lib.Seq.{get_or-append-add, get_or_at}
use Rattle.cells.specs.Bytes.{IsBytes}
use Rattle.cells.specs.Word.{word_at}
use Rattle.cells.specs.Memory.{Memory}
use Rattle.cells.specs.Writes.{Write, word_writes, cell_writes}
use Rattle.cells.proofs.Words.{word_bound}
use Rattle.nodes.specs.Layout.{Layout, cell_limit}
use Rattle.updates.specs.Built.{Built}
use Rattle.updates.specs.Commit.{build_writes}
use Rattle.updates.proofs.BuildBytes.{Whole}
use Rattle.updates.proofs.Claims.{CellsStand}
use Rattle.updates.proofs.Count.{Numbering}
use Rattle.blocks.specs.Trailer.{root_at}
use Rattle.store.specs.Committed.{commit_writes}
use Rattle.write_lists.specs.WriteList.{records_for}
use Rattle.write_lists.proofs.Records.{AllSmall, no_write}

-- eight writes for each cell, and one for the root word
words_length : (c : ℕ) (bytes : List ℕ) (left i : ℕ) → length (word_writes c bytes left i) ≡ left
unfolding word_writes
words_length c bytes zero i = refl
words_length c bytes (suc left) i = ap suc (words_length c bytes left (i + 1))

pub build_writes-length : (number : ℕ → ℕ) (cells : List (List ℕ)) → length (build_writes number cells) ≡ 8 * length cells
unfolding build_writes
build_writes-length number [] = refl
build_writes-length number (newest ∷ rest) =
    let c : ℕ = number (length rest) in
    omega (
      arith,
      length-append (build_writes number rest) (cell_writes c newest),
      build_writes-length number rest,
      words_length c newest 8 0,
    )

pub commit_writes-length : (layout : Layout) (number : ℕ → ℕ) (x : Built) → length (commit_writes layout number x) ≡ records_for (length x.cells)
unfolding commit_writes
commit_writes-length layout number x =
    length-append (build_writes number x.cells) (record { at = root_at layout; word = x.word } ∷ [])
    ∙ ap (λ (n : ℕ). n + 1) (build_writes-length number x.cells)

-- every position and every word of them is a word
small_append : (xs ys : List Write) → AllSmall xs → AllSmall ys → AllSmall (xs ++ ys)
small_append [] ys a b = b
small_append (w ∷ ws) ys a b = (a.0, small_append ws ys a.1 b)

words_small : (c : ℕ) (bytes : List ℕ) → c < 67108864 → IsBytes bytes → (left i : ℕ) → i + left ≤ 8 → AllSmall (word_writes c bytes left i)
unfolding word_writes
words_small c bytes low is_bytes zero i fits = tt
words_small c bytes low is_bytes (suc left) i fits =
    (record { position = omega arith; word = word_bound bytes (4 * i) is_bytes }, words_small c bytes low is_bytes left (i + 1) (omega arith))

build_small : (number : ℕ → ℕ) → Numbering number → (cells : List (List ℕ)) → Whole cells → AllSmall (build_writes number cells)
unfolding build_writes
build_small number n [] whole = tt
build_small number n (newest ∷ rest) whole =
    small_append (build_writes number rest) (cell_writes (number (length rest)) newest) (build_small number n rest whole.1)
    (words_small (number (length rest)) newest (n.high (length rest)) whole.0.bytes 8 0 (omega arith))

pub commit_small : (layout : Layout) → layout.cells ≤ cell_limit → (number : ℕ → ℕ) → Numbering number → (x : Built) → Whole x.cells → x.word < 4294967296
    → AllSmall (commit_writes layout number x)
unfolding commit_writes
commit_small layout most number n x whole word =
    small_append (build_writes number x.cells) (record { at = root_at layout; word = x.word } ∷ []) (build_small number n x.cells whole)
    (record { position = omega arith; word = word }, tt)

-- the write of a word of a cell
word_write : (c : ℕ) (bytes : List ℕ) (left i j : ℕ) → j < left
    → get_or (word_writes c bytes left i) j no_write ≡ record { at = c * 32 + 4 * (i + j); word = word_at bytes (4 * (i + j)) }
unfolding word_writes
word_write c bytes zero i j inside = absurd (omega arith)
word_write c bytes (suc left) i zero inside =
    let e : i ≡ i + 0 = omega arith in
    ap (λ (k : ℕ). record { at = c * 32 + 4 * k; word = word_at bytes (4 * k) }) e
word_write c bytes (suc left) i (suc j) inside =
    let e : i + 1 + j ≡ i + suc j = omega arith in
    word_write c bytes left (i + 1) j (omega arith) ∙ ap (λ (k : ℕ). record { at = c * 32 + 4 * k; word = word_at bytes (4 * k) }) e

-- the write of a word of a cell that was allocated at a place, by the memory where the cells stand
module _ (layout : Layout) (number : ℕ → ℕ) (m : Memory) where
  abbrev word_of_cell : ℕ → ℕ → Write
  word_of_cell place i = record { at = number place * 32 + 4 * i; word = word_at (m (number place)) (4 * i) }

  newest_write : (newest : List ℕ) (rest : List (List ℕ)) (i : ℕ) → i < 8 → m (number (length rest)) ≡ newest
      → get_or (build_writes number rest ++ cell_writes (number (length rest)) newest) (8 * length rest + i) no_write ≡ word_of_cell (length rest) i
  newest_write newest rest i near stands =
      let c : ℕ = number (length rest) in
      let at : 8 * length rest + i ≡ length (build_writes number rest) + i = omega (arith, build_writes-length number rest) in
      ap (λ (k : ℕ). get_or (build_writes number rest ++ cell_writes c newest) k no_write) at
      ∙ get_or-append-add (build_writes number rest) (cell_writes c newest) i no_write
      ∙ word_write c newest 8 0 i near
      ∙ (λ j. record { at = c * 32 + 4 * (zero-add i j); word = word_at (sym stands j) (4 * (zero-add i j)) })

  build_write : (cells : List (List ℕ)) → CellsStand layout number m cells → (place i : ℕ) → place < length cells → i < 8
      → get_or (build_writes number cells) (8 * place + i) no_write ≡ word_of_cell place i
  unfolding build_writes
  build_write [] standing place i inside near = absurd (omega arith)
  build_write (newest ∷ rest) standing place i inside near = elim (ℕ_discrete place (length rest)) [
    | yes last ↦
        ap (λ (k : ℕ). get_or (build_writes number rest ++ cell_writes (number (length rest)) newest) (8 * k + i) no_write) last
        ∙ newest_write newest rest i near standing.0.bytes ∙ ap (λ (k : ℕ). word_of_cell k i) (sym last)
    | no before ↦
        get_or-append (build_writes number rest) (cell_writes (number (length rest)) newest) no_write (8 * place + i)
        (omega (arith, build_writes-length number rest))
        ∙ build_write rest standing.1 place i (omega arith) near
  ]

-- the same among all writes, and the last of them
module _ (layout : Layout) (number : ℕ → ℕ) (x : Built) where
  pub cell_write : (m : Memory) → CellsStand layout number m x.cells → (place i : ℕ) → place < length x.cells → i < 8
      → get_or (commit_writes layout number x) (8 * place + i) no_write ≡ record { at = number place * 32 + 4 * i; word = word_at (m (number place)) (4 * i) }
  unfolding commit_writes
  cell_write m standing place i inside near =
      get_or-append (build_writes number x.cells) (record { at = root_at layout; word = x.word } ∷ []) no_write (8 * place + i)
      (omega (arith, build_writes-length number x.cells))
      ∙ build_write layout number m x.cells standing place i inside near

  pub root_write : get_or (commit_writes layout number x) (8 * length x.cells) no_write ≡ record { at = root_at layout; word = x.word }
  unfolding commit_writes
  root_write = get_or_at (build_writes number x.cells) (record { at = root_at layout; word = x.word }) [] no_write (8 * length x.cells) (build_writes-length number x.cells)
