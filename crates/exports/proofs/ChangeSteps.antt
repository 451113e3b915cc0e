-- What a callee answered, told in numbers.
use mathlib.Core.Path.{◌≡◌, refl, sym, ap, ◌∙◌}
use mathlib.Core.Bool.{Bool, true, false, cond}
use mathlib.Core.List.{List, []}
use mathlib.Core.Option.{Option, none, some}
use Prim.Native.Nat.{ℕ, ◌≤◌}
use native.Mathlib.Omega.{arith}
use lib.Dec.{eqb}
use lib.ListN.{length}
use Rattle.std.specs.Prelude.{Result, Ok, Err}
use Rattle.std.specs.Result.{result_unwrap_or}
use Rattle.cells.specs.Bytes.{zeros}
use Rattle.cells.specs.Memory.{memory_of}
use Rattle.nodes.specs.Layout.{key_limit}
use Rattle.trees.specs.Entries.{Entry, next_entry}
use Rattle.trees.proofs.NextKey.Next.{next_short}
use Rattle.blocks.specs.declared.answer.Refusal.{Refusal}
use Rattle.blocks.specs.declared.answer.NextKey.{NextKey}
use Rattle.blocks.specs.Answers.{answer_number, next_outcome}
use Rattle.blocks.specs.Trailer.{layout_of, root_word}
use Rattle.blocks.specs.Refusal.{first_refusal}
use Rattle.blocks.specs.Read.{Next, padded, shown_entries, key_or, next_refusals, next_key}

-- the next key's answer in its parts, zeros beside a refusal
outcome_told : (answer : Result NextKey Refusal) → next_outcome answer
    ≡ record {
      answer = answer_number answer;
      size = (result_unwrap_or answer (record { size = 0; key = zeros key_limit })).size;
      key = (result_unwrap_or answer (record { size = 0; key = zeros key_limit })).key;
    }
unfolding padded zeros
outcome_told (Ok next) = refl
outcome_told (Err refusal) = refl

-- no key is longer than the limit
short : (there : Bool) (o : Option Entry) → ((e : Entry) → o ≡ some e → length e.key ≤ key_limit) → length (cond there (key_or o) []) ≤ key_limit
unfolding key_or
short true none fits = omega arith
short true (some e) fits = fits e refl
short false o fits = omega arith

next_size : (block key : List ℕ) → (next_key block key).size ≤ key_limit
unfolding next_key
next_size block key =
    short (eqb (first_refusal (next_refusals block key)) 0) (next_entry key (shown_entries block))
    (next_short (layout_of block) (memory_of block) key_limit (root_word (layout_of block) block) key)

module _ (block key : List ℕ) (answer : Result NextKey Refusal) (given : next_key block key ≡ next_outcome answer)
    (next : NextKey) (or_zero : next ≡ result_unwrap_or answer (record { size = 0; key = zeros key_limit })) where
  -- the next key by its number
  pub next_told : (number : ℕ) → number ≡ answer_number answer
      → next_key block key ≡ record { answer = number; size = next.size; key = next.key }
  next_told number is =
      given ∙ outcome_told answer ∙ (λ i. record { answer = sym is i; size = (sym or_zero i).size; key = (sym or_zero i).key })

  pub size_fits : next.size ≤ key_limit
  size_fits =
      let size : (next_key block key).size ≡ next.size = ap (λ (n : Next). n.size) (next_told (answer_number answer) refl) in
      omega (arith, size, next_size block key)
