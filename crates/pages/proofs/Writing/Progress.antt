-- Laws of records written one after the other, and that they are a page.
use mathlib.Core.Path.{◌≡◌, refl, sym, ap, ◌∙◌}
use mathlib.Core.Bool.{Bool, true, false}
use mathlib.Core.List.{List, [], ◌∷◌, ◌++◌, append_assoc}
use Prim.Native.Nat.compare
use Prim.Native.Nat.{ℕ, suc, ◌+◌, ◌-◌, ◌≤◌, ◌<◌}
use native.Mathlib.Decide.{dec_le}
use native.Mathlib.Nat.{add-zero, zero-add}
use native.Mathlib.Omega.{arith}
use lib.Dec.{ltb}
use lib.ListN.{length, drop, length-append, length-drop}
use lib.Seq.{length-take-le, take-append_seam, drop-append-add, drop-drop}
use borrow.Author.Tests.{le-leb, lt-leb, lt-ltb}
use Rattle.trees.specs.Entries.{Entry}
use Rattle.pages.specs.Record.{record_of, records_of}
use Rattle.pages.specs.Page.{fitting, page_of}
use Rattle.pages.specs.Code.Progress.{Written, put_bytes, with_record, stopped, put_record, put_records}
use Rattle.pages.proofs.Fitting.{fitting_none, fitting_more, fitting_stops}

-- bytes put inside a list leave its length
pub put_bytes-length : (buffer : List ℕ) (at : ℕ) (bytes : List ℕ) → at + length bytes ≤ length buffer → length (put_bytes buffer at bytes) ≡ length buffer
unfolding put_bytes
put_bytes-length buffer at bytes inside =
    simp (length-append, length-drop, length-take-le at buffer (omega arith)) (omega arith)

-- the three ways of a record: none is written where one did not fit before, or it fits, or it does not
module _ (s : Written) (entry : Entry) where
  pub put_full : s.full ≡ true → put_record s entry ≡ s
  unfolding put_record
  put_full full = rw full

  pub put_fits : s.full ≡ false → s.used + length (record_of entry) ≤ length s.buffer → put_record s entry ≡ with_record s entry
  unfolding put_record
  put_fits going fits = rw (going, le-leb (s.used + length (record_of entry)) (length s.buffer) fits)

  pub put_over : s.full ≡ false → length s.buffer < s.used + length (record_of entry) → put_record s entry ≡ stopped s
  unfolding put_record
  put_over going over = rw (going, lt-leb (s.used + length (record_of entry)) (length s.buffer) over)

  -- what holds after each of them holds after a record
  put_ways : (P : Written → Type 0) → P s → (s.used + length (record_of entry) ≤ length s.buffer → P (with_record s entry)) → P (stopped s) → P (put_record s entry)
  put_ways P same more none = go s.full refl
    where
      go : (t : Bool) → s.full ≡ t → P (put_record s entry)
      go true full = rw (put_full full) same
      go false going = elim (dec_le (s.used + length (record_of entry)) (length s.buffer)) [
        | yes fits ↦ rw (put_fits going fits) (more fits)
        | no over ↦ rw (put_over going (omega arith)) none
      ]

  -- the bounds of a page and the length of its buffer are kept
  pub record_counted : s.records ≤ s.used → (put_record s entry).records ≤ (put_record s entry).used
  record_counted counted = put_ways (λ w. w.records ≤ w.used) counted (λ fits. omega arith) counted

  pub record_inside : s.used ≤ length s.buffer → (put_record s entry).used ≤ length (put_record s entry).buffer
  record_inside inside =
      put_ways (λ w. w.used ≤ length w.buffer) inside
      (λ fits. omega (arith, put_bytes-length s.buffer s.used (record_of entry) fits)) inside

  pub record_length : length (put_record s entry).buffer ≡ length s.buffer
  record_length =
      put_ways (λ w. length w.buffer ≡ length s.buffer) refl (put_bytes-length s.buffer s.used (record_of entry)) refl

-- the records of two lists are those of the first, then those of the second
pub put_append : (s : Written) (l more : List Entry) → put_records s (l ++ more) ≡ put_records (put_records s l) more
unfolding put_records
put_append s [] more = refl
put_append s (entry ∷ l) more = put_append (put_record s entry) l more

pub put_one : (s : Written) (entry : Entry) → put_records s (entry ∷ []) ≡ put_record s entry
unfolding put_records
put_one s entry = refl

-- nothing is written after a record that did not fit
pub put_stopped : (s : Written) (l : List Entry) → s.full ≡ true → put_records s l ≡ s
unfolding put_records
put_stopped s [] full = refl
put_stopped s (entry ∷ l) full = ap (λ (w : Written). put_records w l) (put_full s entry full) ∙ put_stopped s l full

-- there are no more records than bytes used, these are within the buffer, and the buffer keeps its length
pub put_counted : (s : Written) (l : List Entry) → s.records ≤ s.used → (put_records s l).records ≤ (put_records s l).used
unfolding put_records
put_counted s [] counted = counted
put_counted s (entry ∷ l) counted = put_counted (put_record s entry) l (record_counted s entry counted)

pub put_inside : (s : Written) (l : List Entry) → s.used ≤ length s.buffer → (put_records s l).used ≤ length (put_records s l).buffer
unfolding put_records
put_inside s [] inside = inside
put_inside s (entry ∷ l) inside = put_inside (put_record s entry) l (record_inside s entry inside)

pub put_length : (s : Written) (l : List Entry) → length (put_records s l).buffer ≡ length s.buffer
unfolding put_records
put_length s [] = refl
put_length s (entry ∷ l) = put_length (put_record s entry) l ∙ record_length s entry

-- bytes put behind some that are written
put_behind : (w rest bytes : List ℕ) → put_bytes (w ++ rest) (length w) bytes ≡ (w ++ bytes) ++ drop (length bytes) rest
unfolding put_bytes
put_behind w rest bytes = rw (take-append_seam, drop-append-add, append_assoc)

-- bytes and more behind them, put behind some that are written
put_both : (w bytes more rest : List ℕ)
    → (w ++ bytes) ++ (more ++ drop (length more) (drop (length bytes) rest)) ≡ w ++ ((bytes ++ more) ++ drop (length (bytes ++ more)) rest)
put_both w bytes more rest = simp (append_assoc, drop-drop, length-append)

-- what records written behind some bytes leave: those of the pairs that fit
abbrev filled_from : ℕ → List ℕ → List ℕ → List Entry → List Entry → Written
filled_from count w rest left fit =
    record {
      records = count + length fit;
      used = length w + length (records_of fit);
      full = ltb (length fit) (length left);
      buffer = w ++ (records_of fit ++ drop (length (records_of fit)) rest);
    }

abbrev going_from : ℕ → List ℕ → List ℕ → Written
going_from count w rest = record { records = count; used = length w; full = false; buffer = w ++ rest }

compared_suc : (a b : ℕ) → ltb (suc a) (suc b) ≡ ltb a b
compared_suc a b = rw compare.suc-suc

-- one pair more that fits
module _ (count : ℕ) (w rest : List ℕ) (entry : Entry) where
  abbrev bytes : List ℕ
  bytes = record_of entry

  added_behind : with_record (going_from count w rest) entry ≡ going_from (count + 1) (w ++ bytes) (drop (length bytes) rest)
  added_behind =
      let used : length w + length bytes ≡ length (w ++ bytes) = sym (length-append w bytes) in
      let buffer = put_behind w rest bytes in
      λ i. record { records = count + 1; used = used i; full = false; buffer = buffer i }

  filled_more : (left fit : List Entry)
      → filled_from (count + 1) (w ++ bytes) (drop (length bytes) rest) left fit ≡ filled_from count w rest (entry ∷ left) (entry ∷ fit)
  unfolding records_of
  filled_more left fit =
      let records : count + 1 + length fit ≡ count + suc (length fit) = omega arith in
      let used : length (w ++ bytes) + length (records_of fit) ≡ length w + length (bytes ++ records_of fit) =
      omega (arith, length-append w bytes, length-append bytes (records_of fit)) in
      let full : ltb (length fit) (length left) ≡ ltb (suc (length fit)) (suc (length left)) = sym (compared_suc (length fit) (length left)) in
      let buffer = put_both w bytes (records_of fit) rest in
      λ i. record { records = records i; used = used i; full = full i; buffer = buffer i }

-- where the first pair does not fit, nothing is written and something is left
none_filled : (count : ℕ) (w rest : List ℕ) (entry : Entry) (left : List Entry)
    → stopped (going_from count w rest) ≡ filled_from count w rest (entry ∷ left) []
unfolding records_of
none_filled count w rest entry left =
    let more : ltb 0 (suc (length left)) ≡ true = lt-ltb 0 (suc (length left)) (omega arith) in
    λ i. record { records = sym (add-zero count) i; used = sym (add-zero (length w)) i; full = sym more i; buffer = w ++ rest }

-- records written behind some bytes, with room behind them, are those of the pairs that fit
put_from : (left : List Entry) (count : ℕ) (w rest : List ℕ) → put_records (going_from count w rest) left ≡ filled_from count w rest left (fitting (length rest) left)
unfolding put_records records_of
put_from [] count w rest = rw (fitting_none, add-zero count, add-zero (length w))
put_from (entry ∷ left) count w rest = elim (dec_le (length (record_of entry)) (length rest)) [
  | yes fits ↦
      ap (λ (s : Written). put_records s left) (put_fits (going_from count w rest) entry refl (omega (arith, length-append w rest)) ∙ added_behind count w rest entry)
      ∙ put_from left (count + 1) (w ++ record_of entry) (drop (length (record_of entry)) rest)
      ∙ ap (λ (room : ℕ). filled_from (count + 1) (w ++ record_of entry) (drop (length (record_of entry)) rest) left (fitting room left)) (length-drop (length (record_of entry)) rest)
      ∙ filled_more count w rest entry left (fitting (length rest - length (record_of entry)) left)
      ∙ ap (filled_from count w rest (entry ∷ left)) (sym (fitting_more (length rest) entry left fits))
  | no over ↦
      ap (λ (s : Written). put_records s left) (put_over (going_from count w rest) entry refl (omega (arith, length-append w rest)))
      ∙ put_stopped (stopped (going_from count w rest)) left refl
      ∙ none_filled count w rest entry left
      ∙ ap (filled_from count w rest (entry ∷ left)) (sym (fitting_stops (length rest) entry left (omega arith)))
]

-- the records of pairs, written into a buffer from its start on, are a page of them
pub put_page : (left : List Entry) (buffer : List ℕ)
    → put_records (record { records = 0; used = 0; full = false; buffer = buffer }) left
    ≡ record {
      records = (page_of left buffer).records;
      used = (page_of left buffer).used;
      full = (page_of left buffer).more;
      buffer = (page_of left buffer).buffer;
    }
unfolding page_of
put_page left buffer =
    let fit : List Entry = fitting (length buffer) left in
    let count = zero-add (length fit) in
    let size = zero-add (length (records_of fit)) in
    put_from left 0 [] buffer
    ∙ (λ i. record { records = count i; used = size i; full = ltb (length fit) (length left); buffer = records_of fit ++ drop (length (records_of fit)) buffer })
