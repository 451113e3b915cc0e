-- Laws of the pairs whose records fit into a page: they are the longest first part of the pairs whose records fit.
use mathlib.Core.Path.{◌≡◌, refl, sym, ap, ◌∙◌, subst}
use mathlib.Core.List.{List, [], ◌∷◌, ◌++◌, append-nil}
use Prim.Native.Nat.{ℕ, ◌+◌, ◌-◌, ◌≤◌, ◌<◌}
use native.Mathlib.Decide.{dec_le}
use native.Mathlib.Omega.{arith}
use lib.ListN.{length, drop, length-append}
use lib.Seq.{drop-append_seam}
use borrow.Author.Tests.{le-leb, lt-leb}
use Rattle.trees.specs.Entries.{Entry}
use Rattle.pages.specs.Record.{record_of, records_of}
use Rattle.pages.specs.Page.{fitting}
use Rattle.pages.proofs.Records.{records_none, records_more}

-- none of none fits; a pair fits, or it does not and none after it is looked at
pub fitting_none : (room : ℕ) → fitting room [] ≡ []
unfolding fitting
fitting_none room = refl

module _ (room : ℕ) (entry : Entry) (rest : List Entry) where
  pub fitting_more : length (record_of entry) ≤ room → fitting room (entry ∷ rest) ≡ entry ∷ fitting (room - length (record_of entry)) rest
  unfolding fitting
  fitting_more fits = rw (le-leb (length (record_of entry)) room fits)

  pub fitting_stops : room < length (record_of entry) → fitting room (entry ∷ rest) ≡ []
  unfolding fitting
  fitting_stops over = rw (lt-leb (length (record_of entry)) room over)

-- pairs cut where the next record does not fit any more
pub record Greedy (room : ℕ) (left here later : List Entry) : Type 0 where
  pub in_order : here ++ later ≡ left
  pub fits : length (records_of here) ≤ room
  pub next : (entry : Entry) (rest : List Entry) → later ≡ entry ∷ rest → room < length (records_of here) + length (record_of entry)

-- the bytes of one record more
pub records_size : (entry : Entry) (l : List Entry) → length (records_of (entry ∷ l)) ≡ length (record_of entry) + length (records_of l)
records_size entry l =
    ap (λ (bytes : List ℕ). length bytes) (records_more entry l) ∙ length-append (record_of entry) (records_of l)

none_size : length (records_of []) ≡ 0
none_size = ap (λ (bytes : List ℕ). length bytes) records_none

-- such a cut of none, before a record that does not fit, and behind one that does
greedy_none : (room : ℕ) → Greedy room [] [] []
greedy_none room =
    record {
      in_order = refl;
      fits = omega (arith, none_size);
      next = λ entry rest e. let clash : ◌≡◌ {A = ℕ} 0 1 = cc in absurd (omega arith);
    }

module _ (room : ℕ) (entry : Entry) (rest : List Entry) where
  greedy_stops : room < length (record_of entry) → Greedy room (entry ∷ rest) [] (entry ∷ rest)
  greedy_stops over =
      record {
        in_order = refl;
        fits = omega (arith, none_size);
        next = λ first others e.
            let same : entry ≡ first = cc in
            subst (λ (z : Entry). room < length (records_of []) + length (record_of z)) same (omega (arith, none_size));
      }

  greedy_more : (here later : List Entry) → length (record_of entry) ≤ room → Greedy (room - length (record_of entry)) rest here later
      → Greedy room (entry ∷ rest) (entry ∷ here) later
  greedy_more here later small g =
      record {
        in_order = ap (λ (l : List Entry). entry ∷ l) g.in_order;
        fits = omega (arith, records_size entry here, g.fits);
        next = λ first others e. omega (arith, records_size entry here, g.next first others e);
      }

-- what fits is such a cut
pub fitting-greedy : (room : ℕ) (left : List Entry) → Greedy room left (fitting room left) (drop (length (fitting room left)) left)
fitting-greedy room [] = rw (fitting_none room) (greedy_none room)
fitting-greedy room (entry ∷ rest) = elim (dec_le (length (record_of entry)) room) [
  | yes small ↦
      let more = fitting_more room entry rest small in
      subst (λ (fit : List Entry). Greedy room (entry ∷ rest) fit (drop (length fit) (entry ∷ rest))) (sym more)
      (greedy_more room entry rest (fitting (room - length (record_of entry)) rest) (drop (length (fitting (room - length (record_of entry)) rest)) rest)
      small (fitting-greedy (room - length (record_of entry)) rest))
  | no over ↦
      let stops = fitting_stops room entry rest (omega arith) in
      subst (λ (fit : List Entry). Greedy room (entry ∷ rest) fit (drop (length fit) (entry ∷ rest))) (sym stops)
      (greedy_stops room entry rest (omega arith))
]

-- and there is no other
pub greedy-fitting : (room : ℕ) (left here later : List Entry) → Greedy room left here later → here ≡ fitting room left
greedy-fitting room [] [] later g = sym (fitting_none room)
greedy-fitting room [] (first ∷ here) later g =
    let e = g.in_order in
    let clash : ◌≡◌ {A = ℕ} 0 1 = cc in absurd (omega arith)
greedy-fitting room (entry ∷ rest) [] later g =
    sym (fitting_stops room entry rest (omega (arith, none_size, g.next entry rest g.in_order)))
greedy-fitting room (entry ∷ rest) (first ∷ here) later g =
    let e = g.in_order in
    let same : first ≡ entry = cc in
    let others : here ++ later ≡ rest = cc in
    let size : length (record_of first) ≡ length (record_of entry) = ap (λ (z : Entry). length (record_of z)) same in
    let small : length (record_of entry) ≤ room = omega (arith, records_size first here, g.fits) in
    let cut : Greedy (room - length (record_of entry)) rest here later = record {
      in_order = others;
      fits = omega (arith, records_size first here, g.fits);
      next = λ z zs is. omega (arith, records_size first here, g.fits, g.next z zs is);
    } in
    ap (λ (z : Entry). z ∷ here) same
    ∙ ap (λ (l : List Entry). entry ∷ l) (greedy-fitting (room - length (record_of entry)) rest here later cut)
    ∙ sym (fitting_more room entry rest small)

-- what remains behind the first part of some pairs
pub greedy_later : {room : ℕ} {left here later : List Entry} → Greedy room left here later → later ≡ drop (length here) left
greedy_later {here = here} {later = later} g =
    sym (drop-append_seam here later) ∙ ap (drop (length here)) g.in_order

-- where the records of all pairs fit, none remains
pub all_fit : (room : ℕ) (left : List Entry) → length (records_of left) ≤ room → fitting room left ≡ left
all_fit room left small = sym (greedy-fitting room left left [] whole)
  where
    whole : Greedy room left left []
    whole =
        record {
          in_order = append-nil left;
          fits = small;
          next = λ entry rest e. let clash : ◌≡◌ {A = ℕ} 0 1 = cc in absurd (omega arith);
        }
