-- Clean cells, by the words known to lead to them.
use mathlib.Core.Path.{◌≡◌, refl, sym, ap, ◌∙◌, subst}
use mathlib.Core.Logic.{◌≢◌, ◌⊎◌, inl, inr}
use mathlib.Core.List.{List, [], ◌∷◌}
use Prim.Native.Nat.{ℕ, ◌+◌, ◌%◌, ◌≤◌, ◌<◌}
use native.Mathlib.Decide.{dec_lt}
use native.Mathlib.Omega.{arith}
use lib.ListN.{length, get_or}
use Rattle.cells.proofs.Pointers.{kind_of_made}
use Rattle.nodes.specs.Pointer.{word_to}
use Rattle.nodes.specs.Sparse.{sparse_count}
use Rattle.nodes.specs.Prefix.{prefix_offset}
use Rattle.updates.specs.Built.{Built, allocate}
use Rattle.updates.specs.Zeros.{Use, kind_of, part, part_below, Proper, Holds, Clean, Leads, EachClean, AllClean, CleanBuild}
use Rattle.updates.specs.Zeros.Use.{chain_from, sparse_use, head_use, mid_use, end_use, prefix_use, embedded_chain, embedded_head}
use Rattle.updates.proofs.Count.{Numbering}

-- a byte that no use has is zero where those between the low bytes and the high bytes of the use are
zero_between : (low high : ℕ) (s : List ℕ) {Used : ℕ → Type 0} → ((i : ℕ) → i < low → Used i) → ((i : ℕ) → high ≤ i → i < 32 → Used i)
    → ((i : ℕ) → low ≤ i → i < high → get_or s i 0 ≡ 0) → (i : ℕ) → i < 32 → (Used i → ⊥) → get_or s i 0 ≡ 0
zero_between low high s below above between i small none = elim (dec_lt i low) [
  | yes h ↦ absurd (none (below i h))
  | no h ↦ elim (dec_lt i high) [
    | yes l ↦ between i (omega arith) l
    | no l ↦ absurd (none (above i (omega arith) small))
  ]
]

-- a cell is clean where the bytes outside its use are zero
pub chain_clean : (place : ℕ) (s : List ℕ) → place < 28 → ((i : ℕ) → i < place → get_or s i 0 ≡ 0) → Clean (chain_from place) s
chain_clean place s inside before =
    record { proper = inside; zeros = zero_between 0 place s (λ i h. absurd (omega arith)) (λ i h small. (h, small)) (λ i _ h. before i h) }

pub sparse_clean : (s : List ℕ) → ((i : ℕ) → 24 + sparse_count s ≤ i → i < 30 → get_or s i 0 ≡ 0) → Clean sparse_use s
sparse_clean s between =
    record { proper = tt; zeros = zero_between (24 + sparse_count s) 30 s (λ i h. inl h) (λ i h small. inr (h, small)) between }

pub head_clean : (s : List ℕ) → ((i : ℕ) → i < 16 → get_or s i 0 ≡ 0) → Clean head_use s
head_clean s before =
    record { proper = tt; zeros = zero_between 0 16 s (λ i h. absurd (omega arith)) (λ i h small. (h, small)) (λ i _ h. before i h) }

pub mid_clean : (s : List ℕ) → Clean mid_use s
mid_clean s = record { proper = tt; zeros = λ i small none. absurd (none small) }

pub end_clean : (s : List ℕ) → Clean end_use s
end_clean s = record { proper = tt; zeros = λ i small none. absurd (none small) }

pub prefix_clean : (s : List ℕ) → prefix_offset s ≡ 0xFF → ((i : ℕ) → 5 ≤ i → i < 28 → get_or s i 0 ≡ 0) → Clean prefix_use s
prefix_clean s alone between =
    record { proper = alone; zeros = zero_between 5 28 s (λ i h. inl h) (λ i h small. inr (refl, h, small)) between }

pub embedded_chain_clean : (place : ℕ) (s : List ℕ) → prefix_offset s ≡ place → 5 ≤ place → place < 28
    → ((i : ℕ) → 5 ≤ i → i < place → get_or s i 0 ≡ 0) → Clean (embedded_chain place) s
embedded_chain_clean place s offset room inside between =
    record { proper = (offset, room, inside); zeros = zero_between 5 place s (λ i h. inl (inl h)) (λ i h small. inr (h, small)) between }

pub embedded_head_clean : (s : List ℕ) → prefix_offset s ≡ 0x1C → ((i : ℕ) → 5 ≤ i → i < 16 → get_or s i 0 ≡ 0) → Clean embedded_head s
embedded_head_clean s offset between =
    record { proper = offset; zeros = zero_between 5 16 s (λ i h. inl (inl h)) (λ i h small. inr (h, small)) between }

-- a kind is below 32
pub kind_small : (role : Use) (s : List ℕ) → Proper role s → kind_of role < 32
kind_small (chain_from place) s proper = omega arith
kind_small sparse_use s proper = omega arith
kind_small head_use s proper = omega arith
kind_small mid_use s proper = omega arith
kind_small end_use s proper = omega arith
kind_small prefix_use s proper = omega arith
kind_small (embedded_chain place) s proper = omega arith
kind_small embedded_head s proper = omega arith

-- the word of a build, as one that leads to a node
abbrev pub ByWord : ℕ → ℕ → ℕ → Type 0
ByWord known to word = (to ≡ 0) × (word ≡ known)

-- one of two
abbrev pub Either : (ℕ → ℕ → Type 0) → (ℕ → ℕ → Type 0) → ℕ → ℕ → Type 0
Either P Q to word = P to word ⊎ Q to word

either : {A B C D : Type 0} → (A → C) → (B → D) → A ⊎ B → C ⊎ D
either f g (inl a) = inl (f a)
either f g (inr b) = inr (g b)

-- the newest cell is 32 bytes
abbrev pub NewestWhole : List (List ℕ) → Type 0
NewestWhole [] = Unit {0}
NewestWhole (s ∷ older) = length s ≡ 32

module _ (number : ℕ → ℕ) (n : Numbering number) where
  -- whatever else is known may take the place of what is known; the words asked for are not NONE
  pub known_else : (P Q : ℕ → ℕ → Type 0) → ((to word : ℕ) → word ≢ 0 → word < 4294967296 → P to word → Q to word)
      → (cells : List (List ℕ)) → EachClean number P cells → EachClean number Q cells
  known_else P Q other [] each = tt
  known_else P Q other (s ∷ older) each =
      let role : Use = each.0 in
      let c : ℕ = number (length older) in
      let kind : kind_of role < 32 = kind_small role s each.1.proper in
      let nonzero : word_to c (kind_of role) ≢ 0 = omega (arith, n.low (length older)) in
      let bounded : word_to c (kind_of role) < 4294967296 = omega (arith, kind, n.high (length older)) in (
        role,
        each.1,
        other (part role) (word_to c (kind_of role)) nonzero bounded each.2,
        known_else (Either (Leads role s) P) (Either (Leads role s) Q) (λ to word some small. either (λ h. h) (other to word some small)) older each.3,
      )

  -- the cells of a build, where its word is known
  pub clean_each : (known : ℕ) (cells : List (List ℕ)) → AllClean number known cells → EachClean number (ByWord known) cells
  clean_each known [] all = tt
  clean_each known (s ∷ older) all = (
    all.0,
    all.1,
    (all.2, sym all.3),
    known_else (Leads all.0 s) (Either (Leads all.0 s) (ByWord known)) (λ to word some small h. inl h) older all.4,
  )

  -- a build's word is one, and its cells are clean; a cell that may take a value before its node is whole
  pub record CleanBuilt (b : Built) : Type 0 where
    pub nonzero : b.word ≢ 0
    pub small : b.word < 4294967296
    pub clean : CleanBuild number b
    pub whole : b.word % 32 < 0x1D → NewestWhole b.cells

  -- the kind in a build's word is that of its newest cell's use
  pub newest_kind : (word : ℕ) (s : List ℕ) (older : List (List ℕ)) (all : AllClean number word (s ∷ older)) → kind_of all.0 ≡ word % 32
  newest_kind word s older all =
      sym (kind_of_made (number (length older)) (kind_of all.0) (kind_small all.0 s all.1.proper)) ∙ ap (λ w. w % 32) (sym all.3)

  -- a cell allocated over cells that it leads to
  pub allocate_each : (role : Use) (s : List ℕ) (cells : List (List ℕ)) → (kind_of role < 0x1D → length s ≡ 32) → Clean role s → part role ≡ 0
      → EachClean number (Leads role s) cells → CleanBuilt (allocate number (kind_of role) s cells)
  unfolding allocate
  allocate_each role s cells size is node each =
      let kind : kind_of role < 32 = kind_small role s is.proper in
      record {
        nonzero = omega (arith, n.low (length cells));
        small = omega (arith, kind, n.high (length cells));
        clean = (role, is, node, refl, each);
        whole = λ low. size (omega (arith, low, kind_of_made (number (length cells)) (kind_of role) kind));
      }

  -- a cell over a build whose word it has
  pub over_clean : (role : Use) (s : List ℕ) (b : Built) → (kind_of role < 0x1D → length s ≡ 32) → Clean role s → part role ≡ 0 → part_below role ≡ 0
      → Holds role s b.word → CleanBuilt b → CleanBuilt (allocate number (kind_of role) s b.cells)
  over_clean role s b size is node below holds built =
      allocate_each role s b.cells size is node
      (known_else (ByWord b.word) (Leads role s)
      (λ to word some small h. (h.0 ∙ sym below, subst (Holds role s) (sym h.1) holds)) b.cells (clean_each b.word b.cells built.clean))
