-- What a page answered, told in numbers.
use mathlib.Core.Path.{◌≡◌, refl, sym, ap, ◌∙◌}
use mathlib.Core.Bool.{Bool, true, false, cond}
use mathlib.Core.List.{List, [], ◌++◌}
use Prim.Native.Nat.{ℕ, ◌≤◌, ◌<◌, min}
use mir.Val.{bool_byte}
use native.Mathlib.Decide.{dec_le}
use native.Mathlib.Omega.{arith}
use lib.ListN.{length, take, drop, drop_of_length-le}
use lib.Seq.{length-take-le, take_all}
use borrow.Author.Tests.{le-leb, lt-leb}
use Rattle.std.specs.Prelude.{Result, Ok, Err}
use Rattle.std.specs.Result.{result_unwrap_or}
use Rattle.std.proofs.Math.Nat.{min-eq_left, min-eq_right}
use Rattle.blocks.specs.declared.answer.Refusal.{Refusal}
use Rattle.blocks.specs.Answers.{answer_number}
use Rattle.pages.specs.declared.page.PageEnd.{PageEnd}
use Rattle.pages.specs.Answers.{page_outcome}
use Rattle.pages.specs.Page.{Page, page}
use Rattle.pages.proofs.Bounds.{page_inside, page_counted}
use Rattle.exports.specs.PageNumbers.{countable, numbers_of, page_numbers}

-- what can be counted: all, or the most that there is a number for
countable_all : (size : ℕ) → size ≤ 4294967295 → countable size ≡ size
unfolding countable
countable_all size small = rw (le-leb size 4294967295 small)

countable_most : (size : ℕ) → 4294967295 < size → countable size ≡ 4294967295
unfolding countable
countable_most size over = rw (lt-leb size 4294967295 over)

pub countable_fits : (size : ℕ) → (countable size ≤ size) × (countable size ≤ 4294967295)
countable_fits size = elim (dec_le size 4294967295) [
  | yes small ↦ let all = countable_all size small in (omega (arith, all), omega (arith, all))
  | no other ↦ let most = countable_most size (omega arith) in (omega (arith, most), omega (arith, most))
]

-- the least of both is what can be counted
countable_min : (size : ℕ) → min size 4294967295 ≡ countable size
countable_min size = elim (dec_le size 4294967295) [
  | yes small ↦ min-eq_left small ∙ sym (countable_all size small)
  | no other ↦ min-eq_right (omega arith) ∙ sym (countable_most size (omega arith))
]

-- a page's answer in its parts, zeros beside a refusal
abbrev ended : Result PageEnd Refusal → List ℕ → Page
ended answer part =
    let end : PageEnd = result_unwrap_or answer (record { records = 0; used = 0; more = false }) in
    record { answer = answer_number answer; records = end.records; used = end.used; more = end.more; buffer = part }

outcome_told : (answer : Result PageEnd Refusal) (part : List ℕ) → page_outcome answer part ≡ ended answer part
outcome_told (Ok end) part = refl
outcome_told (Err refusal) part = refl

bit_told : (more : Bool) → bool_byte more ≡ cond more 1 0
bit_told true = refl
bit_told false = refl

module _ (buffer : List ℕ) (end : ℕ) (least : end ≡ min (length buffer) 4294967295) where
  is : end ≡ countable (length buffer)
  is = least ∙ countable_min (length buffer)

  part_length : end ≡ length (take end buffer)
  part_length = sym (length-take-le end buffer (omega (arith, is, (countable_fits (length buffer)).0)))

  module _ (b key : List ℕ) (answer : Result PageEnd Refusal) (part : List ℕ)
      (given : page b key (take end buffer) ≡ page_outcome answer part)
      (told : PageEnd) (or_zero : told ≡ result_unwrap_or answer (record { records = 0; used = 0; more = false })) where
    e : page b key (take end buffer)
        ≡ record { answer = answer_number answer; records = told.records; used = told.used; more = told.more; buffer = part }
    e = given ∙ outcome_told answer part
        ∙ (λ i. record {
          answer = answer_number answer;
          records = (sym or_zero i).records;
          used = (sym or_zero i).used;
          more = (sym or_zero i).more;
          buffer = part;
        })

    -- both counts have a number of 32 bits
    pub used_fits : told.used ≤ 4294967295
    used_fits =
        let used : (page b key (take end buffer)).used ≡ told.used = ap (λ (p : Page). p.used) e in
        omega (arith, used, page_inside b key (take end buffer), part_length, is, (countable_fits (length buffer)).1)

    pub records_fit : told.records ≤ 4294967295
    records_fit =
        let used : (page b key (take end buffer)).used ≡ told.used = ap (λ (p : Page). p.used) e in
        let records : (page b key (take end buffer)).records ≡ told.records = ap (λ (p : Page). p.records) e in
        omega (arith, used, records, page_counted b key (take end buffer), used_fits)

    -- the page by its numbers
    pub page_told : (number more : ℕ) → number ≡ answer_number answer → more ≡ bool_byte told.more
        → page_numbers b key buffer ≡ record {
          answer = number;
          records = told.records;
          used = told.used;
          more = more;
          buffer = part ++ drop end buffer;
        }
    page_told number more n bit =
        ap (λ (n : ℕ). numbers_of (page b key (take n buffer)) (drop n buffer)) (sym is)
        ∙ ap (λ (p : Page). numbers_of p (drop end buffer)) e
        ∙ (λ i. record {
          answer = sym n i;
          records = told.records;
          used = told.used;
          more = sym (bit ∙ bit_told told.more) i;
          buffer = part ++ drop end buffer;
        })

-- a buffer that can be counted is lent whole
pub counted_whole : (b key buffer : List ℕ) → length buffer ≤ 4294967295 → page_numbers b key buffer ≡ numbers_of (page b key buffer) []
counted_whole b key buffer small =
    let all = countable_all (length buffer) small in
    ap (λ (n : ℕ). numbers_of (page b key (take n buffer)) (drop n buffer)) all
    ∙ ap (λ (l : List ℕ). numbers_of (page b key l) (drop (length buffer) buffer)) (take_all (length buffer) buffer (omega arith))
    ∙ ap (λ (rest : List ℕ). numbers_of (page b key buffer) rest) (drop_of_length-le buffer {i = length buffer} (omega arith))
