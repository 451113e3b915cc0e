-- The ways through the code of the next key.
use mathlib.Core.Path.{◌≡◌, refl, sym, ap, ◌∙◌}
use mathlib.Core.Logic.{◌≢◌}
use mathlib.Core.Bool.{true, false}
use mathlib.Core.List.{List, [], ◌∷◌, ◌++◌}
use mathlib.Core.Option.{Option, none, some}
use Prim.Native.Nat.{ℕ, ◌+◌, ◌-◌, ◌≤◌}
use native.Mathlib.Omega.{arith}
use lib.ListN.{length, take, drop, replicate}
use lib.Seq.{length-take-le}
use borrow.Author.Tests.{ne_eqb}
use Rattle.cells.specs.Bytes.{IsBytes, zeros}
use Rattle.cells.proofs.Choice.{never}
use Rattle.cells.proofs.Memory.{memory_bytes}
use Rattle.nodes.specs.Layout.{key_limit}
use Rattle.trees.specs.Entries.{Entry, next_entry}
use Rattle.trees.specs.Code.NextWalk.{key_of, next_from}
use Rattle.trees.specs.Code.Coded.{told_key, KeyWritten}
use Rattle.std.specs.Prelude.{Option as CodedOption, Some, None, ok_or, Ok, Err}
use Rattle.std.proofs.lemmas.List.{take-replicate, drop_all, length-drop, append-nil}
use Rattle.std.proofs.Math.Seq.{take-append-add}
use borrow.Rule.Slice.PartMut.{put_mid}
use Rattle.trees.proofs.NextKey.NextWalk.{next_key_lem}
use Rattle.blocks.specs.Trailer.{root_word}
use Rattle.blocks.specs.Refusal.{refusal, first_refusal, over_long}
use Rattle.blocks.specs.Read.{validate, missing, shown_entries, padded, key_or, next_refusals, next_key}
use Rattle.blocks.specs.Answers.{refused_next, refusal_number}
use Rattle.blocks.specs.declared.answer.Refusal.{Refusal}
use Rattle.blocks.specs.declared.answer.Refusal.TheVariants.{Missing}
use Rattle.blocks.proofs.Refusals.{first_holds, first_fails}
use Rattle.nodes.specs.Code.Cells.{memory}
use Rattle.nodes.specs.declared.memory.Cells.{Cells}
use Rattle.blocks.specs.declared.block.Sound.{Sound}
use Rattle.blocks.proofs.ReadSteps.{block_refused, block_passed, sound_grown}

-- a key in 48 bytes, zero past it
padded_is : (key : List ℕ) (rest : ℕ) → length key + rest ≡ key_limit → padded key ≡ key ++ replicate rest 0
unfolding padded zeros
padded_is key rest whole =
    ap (λ (n : ℕ). take n (key ++ replicate key_limit 0)) (sym whole) ∙ take-append-add key (replicate key_limit 0) rest
    ∙ ap (λ (l : List ℕ). key ++ l) (take-replicate rest key_limit 0 (omega (arith, whole)))

module _ (before : List ℕ) (size : ℕ) (whole : length before ≡ key_limit) (room : size ≤ key_limit) where
  pub key_size : length (take size before) ≡ size
  key_size = length-take-le size before (omega arith)

  -- the key's bytes kept, and those past it filled
  pub filled_padded : (filled : List ℕ) → filled ≡ replicate (length (take (key_limit - size) (drop size before))) 0
      → put_mid size (key_limit - size) before filled ≡ padded (take size before)
  filled_padded filled zero =
      let none : drop (key_limit - size) (drop size before) ≡ [] = drop_all (key_limit - size) (drop size before)
      (omega (arith, length-drop size before)) in
      let past : length (take (key_limit - size) (drop size before)) ≡ key_limit - size =
      length-take-le (key_limit - size) (drop size before) (omega (arith, length-drop size before)) in
      rw (zero, past, none, append-nil) (sym (padded_is (take size before) (key_limit - size) (omega (arith, key_size))))

-- the answers
module _ (b key : List ℕ) where
  pub next_refused : (k : ℕ) → validate b ≡ k → k ≢ 0 → next_key b key ≡ refused_next k
  unfolding next_key
  next_refused k given other =
      let answer : first_refusal (next_refusals b key) ≡ k = block_refused b _ k given other in
      rw (answer, ne_eqb k 0 other)

  module _ (done : validate b ≡ 0) where
    pub next_over_long : over_long key ≡ true → next_key b key ≡ refused_next 3
    unfolding next_key
    next_over_long over =
        let answer : first_refusal (next_refusals b key) ≡ 3 = block_passed b _ done ∙ first_holds (refusal 3 (over_long key)) _ over in
        rw answer

    module _ (good : over_long key ≡ false) where
      asked : first_refusal (next_refusals b key) ≡ first_refusal (refusal 11 (missing (next_entry key (shown_entries b))) ∷ [])
      asked = block_passed b _ done ∙ first_fails (refusal 3 (over_long key)) _ good

      no_next : next_entry key (shown_entries b) ≡ none → next_key b key ≡ refused_next 11
      unfolding next_key missing
      no_next e =
          let answer : first_refusal (next_refusals b key) ≡ 11 =
          asked ∙ first_holds (refusal 11 (missing (next_entry key (shown_entries b)))) [] (ap missing e) in
          rw answer

      some_next : (entry : Entry) → next_entry key (shown_entries b) ≡ some entry
          → next_key b key ≡ record { answer = 0; size = length entry.key; key = padded entry.key }
      unfolding next_key missing first_refusal key_or
      some_next entry e =
          let answer : first_refusal (next_refusals b key) ≡ 0 =
          asked ∙ first_fails (refusal 11 (missing (next_entry key (shown_entries b)))) [] (ap missing e) in
          rw (answer, e)

      -- what the walk found
      module _ (block : Sound) (same : block.block.bytes.now ≡ b) (cells : Cells) (layout_is : cells.layout ≡ block.block.layout)
          (bytes_are : cells.bytes.now ≡ block.block.bytes.now) (word : ℕ) (is : word ≡ root_word block.block.layout block.block.bytes.now)
          (characters : IsBytes key) (next : List ℕ) (told : CodedOption ℕ)
          (written : KeyWritten next 0 told (next_from cells.layout (memory cells) key_limit word key)) where
        walked : told_key next 0 told ≡ key_of (next_entry key (shown_entries b))
        walked =
            let grown = sound_grown block cells layout_is bytes_are word is in
            written.tells ∙ next_key_lem cells.layout (memory cells) (λ c. memory_bytes cells.bytes.now c cells.are_bytes) key_limit word
            grown.0 grown.1 key characters
            ∙ rw (layout_is, bytes_are, is, block.stated, same)

        missing_told : told ≡ None → next_key b key ≡ refused_next 11
        unfolding key_of told_key
        missing_told none_told = no_next (go (next_entry key (shown_entries b)) (rw none_told at walked))
          where
            go : (o : Option Entry) → none ≡ key_of o → o ≡ none
            go none e = refl
            go (some entry) e = never e

        found_told : (size : ℕ) → told ≡ Some size → (found : List ℕ) → length (take size next) ≡ size
            → found ≡ padded (take size next) → next_key b key ≡ record { answer = 0; size = size; key = found }
        unfolding key_of told_key
        found_told size some_told found long pads =
            go (next_entry key (shown_entries b)) refl (rw some_told at walked)
          where
            go : (o : Option Entry) → next_entry key (shown_entries b) ≡ o → some (take size next) ≡ key_of o
                → next_key b key ≡ record { answer = 0; size = size; key = found }
            go none e k = never (sym k)
            go (some entry) e k =
                let here : entry.key ≡ take size next = cc in
                some_next entry e ∙ rw (here, long, ← pads)

        -- what is made of it: a refusal where there is none
        pub next_missing : (why : Refusal) → Err why ≡ ok_or told Missing → next_key b key ≡ refused_next (refusal_number why)
        next_missing why = go told refl
          where
            go : (o : CodedOption ℕ) → told ≡ o → Err why ≡ ok_or o Missing → next_key b key ≡ refused_next (refusal_number why)
            go None none_told e = let same : why ≡ Missing = cc in missing_told none_told ∙ rw same
            go (Some size) some_told e = cc

        pub next_found : (size : ℕ) → Ok size ≡ ok_or told Missing → (found : List ℕ) → length (take size next) ≡ size
            → found ≡ padded (take size next) → next_key b key ≡ record { answer = 0; size = size; key = found }
        next_found size = go told refl
          where
            go : (o : CodedOption ℕ) → told ≡ o → Ok size ≡ ok_or o Missing → (found : List ℕ) → length (take size next) ≡ size
                → found ≡ padded (take size next) → next_key b key ≡ record { answer = 0; size = size; key = found }
            go None none_told e = cc
            go (Some other) some_told e = let same : size ≡ other = cc in found_told size (some_told ∙ rw same)
