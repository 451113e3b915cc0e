-- 01: "Bytes with no meaning": which bytes of a cell have one, by the kind that it is read as.
use Rattle.std.specs.Prelude.{◌≡◌, ◌⊎◌, Bool, true, ℕ, ◌+◌, ◌≤◌, ◌<◌}
use Rattle.std.proofs.Common.{⊎_elim, arith}

-- a chain: the characters from the place named on, and the word where the run ends
abbrev pub InChain : ℕ → ℕ → Type 0
InChain place i = (place ≤ i) × (i < 32)

-- a sparse cell of so many children: the six child words, as many characters, the order word
abbrev pub InSparse : ℕ → ℕ → Type 0
InSparse count i = (i < 0x18 + count) ⊎ ((0x1E ≤ i) × (i < 32))

-- a split's head: its four words
abbrev pub InHead : ℕ → Type 0
InHead i = (0x10 ≤ i) × (i < 32)

-- a mid or an end: all eight words
abbrev pub InBranch : ℕ → Type 0
InBranch i = i < 32

-- a prefix: its value and the byte at 04; where it has its cell for itself, the linked pointer
abbrev pub InPrefix : Bool → ℕ → Type 0
InPrefix alone i = (i < 5) ⊎ ((alone ≡ true) × (0x1C ≤ i) × (i < 32))

-- 01, "How a pointer reads": the bytes that the text of each kind does not name have no meaning. A chain: those before its first character
pub outside_chain : (place i : ℕ) → i < place → InChain place i → ⊥
outside_chain place i low meant = omega (arith, meant.1)

-- a sparse cell: the characters past its children, up to 1D
pub outside_sparse : (count i : ℕ) → 0x18 + count ≤ i → i < 0x1E → InSparse count i → ⊥
outside_sparse count i low high meant = ⊎_elim (λ before. omega arith) (λ after. omega (arith, after.1)) meant

-- a head: 00 to 0F
pub outside_head : (i : ℕ) → i < 0x10 → InHead i → ⊥
outside_head i low meant = omega (arith, meant.1)

-- a prefix: 05 to 1B, and behind these what is not the linked node's
pub outside_prefix : (alone : Bool) (i : ℕ) → 0x05 ≤ i → i < 0x1C → InPrefix alone i → ⊥
outside_prefix alone i low high meant = ⊎_elim (λ before. omega arith) (λ after. omega (arith, after.1)) meant
