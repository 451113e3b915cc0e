-- Calls encoded in bytes, so that a list of them can be lent to a function. A call is a tag byte and its arguments:
-- 1, an insertion: one byte size of the key, the key, four bytes value; 2, 3 and 4, a snapshot, a return to one and the
-- release of one: four bytes slot; 5, a removal: one byte size of the key, the key. Words are highest byte first, as in 01.
use Rattle.std.specs.Prelude.{◌≡◌, refl, List, [], ◌∷◌, ◌++◌, ℕ, zero, suc, ◌+◌, leb, eqb, length, get_or, take, drop, cond}
use Rattle.std.proofs.Math.Option.{Option, none, some}
use Rattle.cells.specs.Word.{word_at}
use Rattle.history.specs.Calls.{Call, inserting, removing, snapshotting, restoring, releasing}
use Rattle.history.specs.declared.runner.Stop.{Stop}

-- a call and how many bytes encode it
pub record Decoded : Type 0 where
  pub call : Call
  pub taken : ℕ

-- an insertion at the front of some bytes, past the tag's test; none where they are too few
unfoldable pub decode_insert : List ℕ → Option Decoded
decode_insert bytes =
    let size = get_or bytes 1 0 in
    cond (leb (size + 6) (length bytes))
    (some (record { call = inserting (take size (drop 2 bytes)) (word_at bytes (size + 2)); taken = size + 6 }))
    none

-- a removal, likewise
unfoldable pub decode_remove : List ℕ → Option Decoded
decode_remove bytes =
    let size = get_or bytes 1 0 in
    cond (leb (size + 2) (length bytes)) (some (record { call = removing (take size (drop 2 bytes)); taken = size + 2 })) none

-- a call on a slot, likewise
unfoldable pub decode_slot : (ℕ → Call) → List ℕ → Option Decoded
decode_slot call bytes = cond (leb 5 (length bytes)) (some (record { call = call (word_at bytes 1); taken = 5 })) none

-- the call at the front of some bytes; none where they encode none: another tag, or too few bytes
unfoldable pub decode_call : List ℕ → Option Decoded
decode_call bytes =
    let tag = get_or bytes 0 0 in
    cond (eqb tag 1) (decode_insert bytes)
    (cond (eqb tag 2) (decode_slot snapshotting bytes)
    (cond (eqb tag 3) (decode_slot restoring bytes)
    (cond (eqb tag 4) (decode_slot releasing bytes)
    (cond (eqb tag 5) (decode_remove bytes) none))))

-- what follows a decoded call, or what is said where there is none
unfoldable pub following : {A : Type 0} → A → Option Decoded → (Decoded → A) → A
following nothing none next = nothing
following nothing (some d) next = next d

-- the calls that some bytes encode one after another: at most so many, up to the first bytes that encode none
unfoldable pub decoded : ℕ → List ℕ → List Call
decoded zero bytes = []
decoded (suc room) bytes = following [] (decode_call bytes) (λ d. d.call ∷ decoded room (drop d.taken bytes))

-- why there are no more calls than that: the bytes are at their end; there is no room for one more answer; or the bytes
-- that are left encode no call
unfoldable pub stopped : ℕ → List ℕ → Stop
stopped zero bytes = cond (eqb (length bytes) 0) Stop.AtEnd Stop.Full
stopped (suc room) bytes =
    let later = following Stop.NoCall (decode_call bytes) (λ d. stopped room (drop d.taken bytes)) in
    cond (eqb (length bytes) 0) Stop.AtEnd later

-- computed: 41 with 0, a snapshot in slot 1, the removal of 41 and of no key at all; then a byte that is no tag, or a removal cut short
abbrev sample : List ℕ
sample = 1 ∷ 1 ∷ 0x41 ∷ 0 ∷ 0 ∷ 0 ∷ 0 ∷ 2 ∷ 0 ∷ 0 ∷ 0 ∷ 1 ∷ 5 ∷ 1 ∷ 0x41 ∷ 5 ∷ 0 ∷ []

abbrev cut_short : List ℕ
cut_short = sample ++ 5 ∷ 2 ∷ 0x42 ∷ []

abbrev sample_calls : List Call
sample_calls = inserting (0x41 ∷ []) 0 ∷ snapshotting 1 ∷ removing (0x41 ∷ []) ∷ removing [] ∷ []

pub sample_calls_lem :
    ◌≡◌ {A = List (List Call)}
    (decoded 6 (sample ++ 9 ∷ []) ∷ decoded 6 cut_short ∷ decoded 6 (cut_short ++ 0x43 ∷ []) ∷ [])
    (sample_calls ∷ sample_calls ∷ (sample_calls ++ removing (0x42 ∷ 0x43 ∷ []) ∷ []) ∷ [])
unfolding word_at decode_insert decode_remove decode_slot decode_call following decoded
sample_calls_lem = refl

-- why each run stops; with room for three answers; and the bytes used up
pub sample_stops :
    ◌≡◌ {A = List Stop}
    (stopped 6 (sample ++ 9 ∷ []) ∷ stopped 6 cut_short ∷ stopped 3 sample ∷ stopped 4 sample ∷ [])
    (Stop.NoCall ∷ Stop.NoCall ∷ Stop.Full ∷ Stop.AtEnd ∷ [])
unfolding word_at decode_insert decode_remove decode_slot decode_call following decoded stopped
sample_stops = refl
