-- Laws of the records of a list: how they stand in its bytes, that they are read back, and what a driver makes of them.
use mathlib.Core.Path.{◌≡◌, refl, sym, ap, ◌∙◌}
use mathlib.Core.Logic.{◌⊎◌, inl, inr, ⊎_elim}
use mathlib.Core.List.{List, [], ◌∷◌, ◌++◌}
use Prim.Native.Nat.{ℕ, zero, suc, ◌+◌, ◌*◌, ◌≤◌, ◌<◌}
use native.Mathlib.Omega.{arith}
use lib.ListN.{length, get_or, take}
use lib.Seq.{take-suc}
use Rattle.cells.specs.Bytes.{IsBytes}
use Rattle.cells.specs.Word.{word_at, with_word}
use Rattle.cells.specs.Writes.{Write, written}
use Rattle.cells.proofs.Words.{length-with_word, with_word_bytes, byte_other, word_agree, word_same, word_other}
use Rattle.cells.proofs.CellWrites.{written-append}
use Rattle.write_lists.specs.Records.{with_record, with_records, record_at}
use Rattle.write_lists.specs.Driven.{driven}

-- records keep the length, and bytes stay bytes
pub records_length : (list : List ℕ) (place : ℕ) (ws : List Write) → length (with_records list place ws) ≡ length list
unfolding with_records
records_length list place [] = refl
records_length list place (w ∷ ws) =
    records_length (with_record list place w) (place + 1) ws
    ∙ length-with_word (with_word list (8 * place) w.at) (8 * place + 4) w.word ∙ length-with_word list (8 * place) w.at

pub records_bytes : (list : List ℕ) (place : ℕ) (ws : List Write) → IsBytes list → IsBytes (with_records list place ws)
unfolding with_records
records_bytes list place [] h = h
records_bytes list place (w ∷ ws) h =
    records_bytes (with_record list place w) (place + 1) ws
    (with_word_bytes (with_word list (8 * place) w.at) (8 * place + 4) w.word (with_word_bytes list (8 * place) w.at h))

-- records one behind the other
pub records_append : (list : List ℕ) (place : ℕ) (xs ys : List Write)
    → with_records list place (xs ++ ys) ≡ with_records (with_records list place xs) (place + length xs) ys
unfolding with_records
records_append list place [] ys = ap (λ (p : ℕ). with_records list p ys) (omega arith)
records_append list place (w ∷ xs) ys =
    records_append (with_record list place w) (place + 1) xs ys
    ∙ ap (λ (p : ℕ). with_records (with_records (with_record list place w) (place + 1) xs) p ys) (omega arith)

-- a byte before the first record or behind the last is as it was
pub records_other : (list : List ℕ) (place : ℕ) (ws : List Write) (i : ℕ) → (i < 8 * place) ⊎ (8 * (place + length ws) ≤ i)
    → get_or (with_records list place ws) i 0 ≡ get_or list i 0
unfolding with_records
records_other list place [] i far = refl
records_other list place (w ∷ ws) i far =
    records_other (with_record list place w) (place + 1) ws i (⊎_elim (λ before. inl (omega arith)) (λ behind. inr (omega arith)) far)
    ∙ byte_other (with_word list (8 * place) w.at) (8 * place + 4) w.word i (⊎_elim (λ before. inl (omega arith)) (λ behind. inr (omega arith)) far)
    ∙ byte_other list (8 * place) w.at i (⊎_elim (λ before. inl (omega arith)) (λ behind. inr (omega arith)) far)

-- a write whose position and word are words
pub record Small (w : Write) : Type 0 where
  pub position : w.at < 4294967296
  pub word : w.word < 4294967296

abbrev pub AllSmall : List Write → Type 0
AllSmall [] = Unit {0}
AllSmall (w ∷ ws) = Small w × AllSmall ws

-- what stands at a place past the end of some writes
abbrev pub no_write : Write
no_write = record { at = 0; word = 0 }

-- a record is read back where it was written, and a later one leaves it
record_here : (list : List ℕ) (place : ℕ) (w : Write) → 8 * place + 8 ≤ length list → Small w → record_at (with_record list place w) place ≡ w
record_here list place w fits small =
    let at : word_at (with_record list place w) (8 * place) ≡ w.at =
    word_other (with_word list (8 * place) w.at) (8 * place + 4) w.word (8 * place) (inl (omega arith))
    ∙ word_same list (8 * place) w.at (omega arith) small.position in
    let word : word_at (with_record list place w) (8 * place + 4) ≡ w.word =
    word_same (with_word list (8 * place) w.at) (8 * place + 4) w.word (omega (arith, fits, length-with_word list (8 * place) w.at)) small.word in
    λ i. record { at = at i; word = word i }

record_kept : (list : List ℕ) (place : ℕ) (ws : List Write) (j : ℕ) → j < place → record_at (with_records list place ws) j ≡ record_at list j
record_kept list place ws j before =
    let kept : (at : ℕ) → at + 4 ≤ 8 * place → word_at (with_records list place ws) at ≡ word_at list at =
    λ at low. word_agree (with_records list place ws) list at at (λ r near. records_other list place ws (at + r) (inl (omega arith))) in
    let at = kept (8 * j) (omega arith) in
    let word = kept (8 * j + 4) (omega arith) in
    λ i. record { at = at i; word = word i }

-- the records of a list are the writes that it was made of
pub record_read : (ws : List Write) (list : List ℕ) (place k : ℕ) → k < length ws → 8 * (place + length ws) ≤ length list → AllSmall ws
    → record_at (with_records list place ws) (place + k) ≡ get_or ws k no_write
unfolding with_records
record_read [] list place k inside fits small = absurd (omega arith)
record_read (w ∷ ws) list place zero inside fits small =
    ap (record_at (with_records (with_record list place w) (place + 1) ws)) (omega arith)
    ∙ record_kept (with_record list place w) (place + 1) ws place (omega arith) ∙ record_here list place w (omega arith) small.0
record_read (w ∷ ws) list place (suc k) inside fits small =
    ap (record_at (with_records (with_record list place w) (place + 1) ws)) (omega arith)
    ∙ record_read ws (with_record list place w) (place + 1) k (omega arith)
    (omega (arith, fits, length-with_word (with_word list (8 * place) w.at) (8 * place + 4) w.word, length-with_word list (8 * place) w.at)) small.1

-- what a driver makes of the first so many of them
pub driven_is : (b list : List ℕ) (ws : List Write) → 8 * length ws ≤ length list → AllSmall ws → (k : ℕ) → k ≤ length ws
    → driven b (with_records list 0 ws) k ≡ written b (take k ws)
unfolding driven written
driven_is b list ws fits small zero inside = refl
driven_is b list ws fits small (suc k) inside =
    let so_far = driven_is b list ws fits small k (omega arith) in
    let next : record_at (with_records list 0 ws) k ≡ get_or ws k no_write = ap (record_at (with_records list 0 ws)) (omega arith) ∙ record_read ws list 0 k (omega arith) (omega arith) small in
    (λ i. with_word (so_far i) (next i).at (next i).word)
    ∙ sym (written-append b (take k ws) (get_or ws k no_write ∷ []))
    ∙ ap (written b) (sym (take-suc ws k no_write (omega arith)))
