-- Laws of encoded calls: what the bytes at the front say, by the tests that the code makes, and that keys are bytes.
use mathlib.Core.Path.{◌≡◌, refl, subst}
use mathlib.Core.Logic.{◌≢◌}
use mathlib.Core.Bool.{Bool, true, false, cond}
use mathlib.Core.List.{List, [], ◌∷◌}
use mathlib.Core.Option.{Option, none, some}
use Prim.Native.Nat.{ℕ, zero, suc, ◌+◌, ◌≤◌, ◌<◌}
use native.Mathlib.Omega.{arith}
use lib.Dec.{leb, eqb}
use lib.ListN.{length, get_or, take, drop}
use borrow.Author.Tests.{le-leb, lt-leb, leb-true, ne_eqb}
use Rattle.cells.specs.Bytes.{IsBytes}
use Rattle.cells.specs.Word.{word_at}
use Rattle.cells.proofs.Words.{bytes_take, bytes_drop}
use Rattle.history.specs.Calls.{Call, inserting, removing, snapshotting, restoring, releasing, KeyIsBytes, KeysAreBytes}
use Rattle.history.specs.Code.Encoded.{Decoded, decode_insert, decode_remove, decode_slot, decode_call, following, decoded}

-- a choice between nothing and nothing
cond_none : (t : Bool) {a b : Option Decoded} → a ≡ none → b ≡ none → cond t a b ≡ none
cond_none true a b = a
cond_none false a b = b

module _ (bytes : List ℕ) where
  -- too few bytes, and enough of them
  pub insert_short : length bytes < get_or bytes 1 0 + 6 → decode_insert bytes ≡ none
  unfolding decode_insert
  insert_short h = rw (lt-leb (get_or bytes 1 0 + 6) (length bytes) h)

  pub insert_there : get_or bytes 1 0 + 6 ≤ length bytes
      → decode_insert bytes ≡ some (record { call = inserting (take (get_or bytes 1 0) (drop 2 bytes)) (word_at bytes (get_or bytes 1 0 + 2)); taken = get_or bytes 1 0 + 6 })
  unfolding decode_insert
  insert_there h = rw (le-leb (get_or bytes 1 0 + 6) (length bytes) h)

  pub remove_short : length bytes < get_or bytes 1 0 + 2 → decode_remove bytes ≡ none
  unfolding decode_remove
  remove_short h = rw (lt-leb (get_or bytes 1 0 + 2) (length bytes) h)

  pub remove_there : get_or bytes 1 0 + 2 ≤ length bytes
      → decode_remove bytes ≡ some (record { call = removing (take (get_or bytes 1 0) (drop 2 bytes)); taken = get_or bytes 1 0 + 2 })
  unfolding decode_remove
  remove_there h = rw (le-leb (get_or bytes 1 0 + 2) (length bytes) h)

  slot_short : (call : ℕ → Call) → length bytes < 5 → decode_slot call bytes ≡ none
  unfolding decode_slot
  slot_short call h = rw (lt-leb 5 (length bytes) h)

  pub slot_there : (call : ℕ → Call) → 5 ≤ length bytes → decode_slot call bytes ≡ some (record { call = call (word_at bytes 1); taken = 5 })
  unfolding decode_slot
  slot_there call h = rw (le-leb 5 (length bytes) h)

  -- the tags of calls on a slot, with too few bytes for one
  slots_short : length bytes < 5 → (rest : Option Decoded) → rest ≡ none
      → cond (eqb (get_or bytes 0 0) 2) (decode_slot snapshotting bytes)
      (cond (eqb (get_or bytes 0 0) 3) (decode_slot restoring bytes)
      (cond (eqb (get_or bytes 0 0) 4) (decode_slot releasing bytes) rest)) ≡ none
  slots_short h rest e =
      cond_none (eqb (get_or bytes 0 0) 2) (slot_short snapshotting h)
      (cond_none (eqb (get_or bytes 0 0) 3) (slot_short restoring h)
      (cond_none (eqb (get_or bytes 0 0) 4) (slot_short releasing h) e))

  -- too few bytes for any call
  pub call_short : length bytes < 2 → decode_call bytes ≡ none
  unfolding decode_call
  call_short h =
      cond_none (eqb (get_or bytes 0 0) 1) (insert_short (omega (arith, h)))
      (slots_short (omega (arith, h)) _ (cond_none (eqb (get_or bytes 0 0) 5) (remove_short (omega (arith, h))) refl))

  -- too few for a call that is neither an insertion nor a removal
  pub call_on_slot_short : get_or bytes 0 0 ≢ 1 → get_or bytes 0 0 ≢ 5 → length bytes < 5 → decode_call bytes ≡ none
  unfolding decode_call
  call_on_slot_short a e h = rw (ne_eqb (get_or bytes 0 0) 1 a, ne_eqb (get_or bytes 0 0) 5 e) (slots_short h none refl)

  -- the tags
  pub tag_insert : get_or bytes 0 0 ≡ 1 → decode_call bytes ≡ decode_insert bytes
  unfolding decode_call
  tag_insert e = rw e

  pub tag_snapshot : get_or bytes 0 0 ≡ 2 → decode_call bytes ≡ decode_slot snapshotting bytes
  unfolding decode_call
  tag_snapshot e = rw e

  pub tag_restore : get_or bytes 0 0 ≡ 3 → decode_call bytes ≡ decode_slot restoring bytes
  unfolding decode_call
  tag_restore e = rw e

  pub tag_release : get_or bytes 0 0 ≡ 4 → decode_call bytes ≡ decode_slot releasing bytes
  unfolding decode_call
  tag_release e = rw e

  pub tag_remove : get_or bytes 0 0 ≡ 5 → decode_call bytes ≡ decode_remove bytes
  unfolding decode_call
  tag_remove e = rw e

  pub tag_none : get_or bytes 0 0 ≢ 1 → get_or bytes 0 0 ≢ 2 → get_or bytes 0 0 ≢ 3 → get_or bytes 0 0 ≢ 4 → get_or bytes 0 0 ≢ 5 → decode_call bytes ≡ none
  unfolding decode_call
  tag_none a b c d e =
      rw (ne_eqb (get_or bytes 0 0) 1 a, ne_eqb (get_or bytes 0 0) 2 b, ne_eqb (get_or bytes 0 0) 3 c, ne_eqb (get_or bytes 0 0) 4 d, ne_eqb (get_or bytes 0 0) 5 e)

-- what holds of a decoded call: it takes some of the bytes, and its key is bytes where they are
pub record Taken (bytes : List ℕ) (d : Decoded) : Type 0 where
  pub least : 1 ≤ d.taken
  pub most : d.taken ≤ length bytes
  pub key : IsBytes bytes → KeyIsBytes d.call

abbrev TakenIf : List ℕ → Option Decoded → Type 0
TakenIf bytes none = Unit {0}
TakenIf bytes (some d) = Taken bytes d

cond_taken : (bytes : List ℕ) (t : Bool) (a b : Option Decoded) → TakenIf bytes a → TakenIf bytes b → TakenIf bytes (cond t a b)
cond_taken bytes true a b first second = first
cond_taken bytes false a b first second = second

test_taken : (bytes : List ℕ) (n m : ℕ) (d : Decoded) → (n ≤ m → Taken bytes d) → TakenIf bytes (cond (leb n m) (some d) none)
test_taken bytes n m d f = go (leb n m) refl
  where
    go : (t : Bool) → leb n m ≡ t → TakenIf bytes (cond t (some d) none)
    go true e = f (leb-true n m e)
    go false e = tt

module _ (bytes : List ℕ) where
  insert_taken : TakenIf bytes (decode_insert bytes)
  unfolding decode_insert
  insert_taken =
      let size : ℕ = get_or bytes 1 0 in
      let d : Decoded = record { call = inserting (take size (drop 2 bytes)) (word_at bytes (size + 2)); taken = size + 6 } in
      test_taken bytes (size + 6) (length bytes) d
      (λ h. record { least = omega arith; most = h; key = λ all. bytes_take size (drop 2 bytes) (bytes_drop 2 bytes all) })

  remove_taken : TakenIf bytes (decode_remove bytes)
  unfolding decode_remove
  remove_taken =
      let size : ℕ = get_or bytes 1 0 in
      let d : Decoded = record { call = removing (take size (drop 2 bytes)); taken = size + 2 } in
      test_taken bytes (size + 2) (length bytes) d
      (λ h. record { least = omega arith; most = h; key = λ all. bytes_take size (drop 2 bytes) (bytes_drop 2 bytes all) })

  slot_taken : (call : ℕ → Call) → KeyIsBytes (call (word_at bytes 1)) → TakenIf bytes (decode_slot call bytes)
  unfolding decode_slot
  slot_taken call key =
      let d : Decoded = record { call = call (word_at bytes 1); taken = 5 } in
      test_taken bytes 5 (length bytes) d (λ h. record { least = omega arith; most = h; key = λ all. key })

  call_taken : TakenIf bytes (decode_call bytes)
  unfolding decode_call
  call_taken =
      let tag : ℕ = get_or bytes 0 0 in
      let fifth : Option Decoded = cond (eqb tag 5) (decode_remove bytes) none in
      let fourth : Option Decoded = cond (eqb tag 4) (decode_slot releasing bytes) fifth in
      let third : Option Decoded = cond (eqb tag 3) (decode_slot restoring bytes) fourth in
      let second : Option Decoded = cond (eqb tag 2) (decode_slot snapshotting bytes) third in
      cond_taken bytes (eqb tag 1) (decode_insert bytes) second insert_taken
      (cond_taken bytes (eqb tag 2) (decode_slot snapshotting bytes) third (slot_taken snapshotting tt)
      (cond_taken bytes (eqb tag 3) (decode_slot restoring bytes) fourth (slot_taken restoring tt)
      (cond_taken bytes (eqb tag 4) (decode_slot releasing bytes) fifth (slot_taken releasing tt)
      (cond_taken bytes (eqb tag 5) (decode_remove bytes) none remove_taken tt))))

  pub call_takes : (d : Decoded) → decode_call bytes ≡ some d → Taken bytes d
  call_takes d e = subst (λ (o : Option Decoded). TakenIf bytes o) e call_taken

-- the keys of decoded calls are bytes
keys_step : (rest : List ℕ → List Call) (bytes : List ℕ) → IsBytes bytes → ((left : List ℕ) → IsBytes left → KeysAreBytes (rest left))
    → (o : Option Decoded) → decode_call bytes ≡ o → KeysAreBytes (following [] o (λ d. d.call ∷ rest (drop d.taken bytes)))
unfolding following
keys_step rest bytes all later none e = tt
keys_step rest bytes all later (some d) e = ((call_takes bytes d e).key all, later (drop d.taken bytes) (bytes_drop d.taken bytes all))

pub decoded_keys : (room : ℕ) (bytes : List ℕ) → IsBytes bytes → KeysAreBytes (decoded room bytes)
unfolding decoded
decoded_keys zero bytes all = tt
decoded_keys (suc room) bytes all = keys_step (decoded room) bytes all (decoded_keys room) (decode_call bytes) refl
