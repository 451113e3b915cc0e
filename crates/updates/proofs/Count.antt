-- A build under two numberings: as many cells, whatever the value, and the same build where both give the numbers taken.
use mathlib.Core.Path.{◌≡◌, refl, sym, ap, ◌∙◌}
use mathlib.Core.Logic.{◌≢◌}
use mathlib.Core.Bool.{Bool, true, false}
use mathlib.Core.List.{List, [], ◌∷◌}
use native.Mathlib.Omega.{arith}
use Prim.Native.Nat.{ℕ, suc, ◌-◌, ◌*◌, ◌+◌, ◌≤◌, ◌<◌}
use lib.Dec.{eqb}
use lib.ListN.{length}
use borrow.Author.Tests.{ne_eqb, lt-ltb}
use Rattle.cells.specs.Memory.{Memory}
use Rattle.cells.proofs.Pointers.{kind_of_made}
use Rattle.nodes.specs.Layout.{Layout}
use Rattle.nodes.specs.Pointer.{leaf_word, word_to}
use Rattle.staging.specs.NewCells.{prefix_cell}
use Rattle.updates.specs.Built.{room, first_used}
use Rattle.updates.specs.Build.{build, cells_needed}
use Rattle.updates.proofs.FreeBytes.{room_leaf, first_leaf}
use Rattle.updates.proofs.Related.{Contents, Characters, Relation, Related, related_count, same_built, build-related}

-- a numbering: no cell has the number 0, and a pointer into any has its top bit clear
pub record Numbering (number : ℕ → ℕ) : Type 0 where
  pub low : (i : ℕ) → 1 ≤ number i
  pub high : (i : ℕ) → number i < 67108864

pub numbering_one : Numbering (λ _. 1)
numbering_one = record { low = λ i. omega arith; high = λ i. omega arith }

-- the room before a word depends only on its kind
room_same : (c c' k : ℕ) (own : Bool) → c < 67108864 → c' < 67108864 → k < 32 → room own (word_to c k) ≡ room own (word_to c' k)
unfolding room
room_same c c' k false small small' h = refl
room_same c c' k true small small' h =
    rw (lt-ltb (c * 32 + k) 2147483648 (omega arith), kind_of_made c k h, lt-ltb (c' * 32 + k) 2147483648 (omega arith), kind_of_made c' k h)

-- and so does the first byte used
first_same : (c c' k : ℕ) (own : Bool) → c < 67108864 → c' < 67108864 → k < 32 → first_used own (word_to c k) ≡ first_used own (word_to c' k)
unfolding first_used room
first_same c c' k false small small' h = refl
first_same c c' k true small small' h =
    rw (lt-ltb (c * 32 + k) 2147483648 (omega arith), kind_of_made c k h, lt-ltb (c' * 32 + k) 2147483648 (omega arith), kind_of_made c' k h)

-- nothing is asked of a cell's bytes or of a key's characters
abbrev pub Any : {A : Type 0} → A → Type 0
Any x = Unit {0}

pub any_contents : (m : Memory) → Contents m Any Any
any_contents m =
    record {
      chain = λ x w _. tt;
      character = λ s k x _ _. tt;
      pair = λ c k x w u _. tt;
      replaced = λ c p w. tt;
      appended = λ c x w _. tt;
      words = λ ws count from. tt;
      branch_copied = λ u at w. tt;
      head_copied = λ c at w. tt;
      prefixed = λ v w. tt;
      embedded = λ s v w _. tt;
    }

pub any-characters : (key : List ℕ) → Characters Any key
any-characters [] = tt
any-characters (x ∷ key) = (tt, any-characters key)

-- two words both NONE or both not, with equal room and first byte used, and the same where so many cells are within a limit
pub record WordsAlike (Within : ℕ → Type 0) (count word word' : ℕ) : Type 0 where
  pub both_none : eqb word 0 ≡ eqb word' 0
  pub room : (own : Bool) → room own word ≡ room own word'
  pub first_used : (own : Bool) → first_used own word ≡ first_used own word'
  pub same : Within count → word ≡ word'

-- two cells of a place that are the same where the count past it is within a limit
abbrev pub CellsAlike : (ℕ → Type 0) → ℕ → List ℕ → List ℕ → Type 0
CellsAlike Within place s s' = Within (suc place) → s ≡ s'

pub word_nonzero : (c k : ℕ) → 1 ≤ c → eqb (word_to c k) 0 ≡ false
word_nonzero c k low = let some_word : c * 32 + k ≢ 0 = omega arith in ne_eqb (c * 32 + k) 0 some_word

-- both numberings give the same numbers to the places within a limit
module _ (number number' : ℕ → ℕ) (n : Numbering number) (n' : Numbering number') (Within : ℕ → Type 0)
    (fewer : (i k : ℕ) → i ≤ k → Within k → Within i) (agree : (i : ℕ) → Within (suc i) → number i ≡ number' i) where
  pub alike : Relation number number' Any (WordsAlike Within) (CellsAlike Within)
  alike =
      record {
        old = λ count w. record { both_none = refl; room = λ own. refl; first_used = λ own. refl; same = λ _. refl };
        later = λ i k w w' less h. record { both_none = h.both_none; room = h.room; first_used = h.first_used; same = λ within. h.same (fewer i k less within) };
        new = λ i kind small. record {
          both_none = word_nonzero (number i) kind (n.low i) ∙ sym (word_nonzero (number' i) kind (n'.low i));
          room = λ own. room_same (number i) (number' i) kind own (n.high i) (n'.high i) small;
          first_used = λ own. first_same (number i) (number' i) kind own (n.high i) (n'.high i) small;
          same = λ within. ap (λ c. word_to c kind) (agree i within);
        };
        both_none = λ i w w' h. h.both_none;
        room = λ i w w' own h. h.room own;
        first_used = λ i w w' own h. h.first_used own;
        of_word = λ i w w' f _ h within. ap f (h.same (fewer i (suc i) (omega arith) within));
        of_words = λ i ws ws' f _ h within. ap f (λ t y. (h y).same (fewer i (suc i) (omega arith) within) t);
        of_cell = λ i s s' f _ h within. ap f (h within);
      }

  module _ (layout : Layout) (m : Memory) (root : ℕ) (key : List ℕ) where
    build_alike : (value value' : ℕ) → WordsAlike Within 0 (leaf_word value) (leaf_word value') → (Within 1 → value ≡ value')
        → Related (WordsAlike Within) (CellsAlike Within) (build layout number m root key value) (build layout number' m root key value')
    build_alike value value' leaves same =
        build-related (WordsAlike Within) (CellsAlike Within) number number' m Any Any (any_contents m) alike layout value value' leaves
        (λ word within. ap (λ v. prefix_cell v word) (same within)) root key (any-characters key)

-- a build asks only for the numbers that it takes
pub build_numbers : (number number' : ℕ → ℕ) → Numbering number → Numbering number' → (limit : ℕ) → ((i : ℕ) → i < limit → number i ≡ number' i)
    → (layout : Layout) (m : Memory) (root : ℕ) (key : List ℕ) (value : ℕ) → length (build layout number m root key value).cells ≤ limit
    → build layout number m root key value ≡ build layout number' m root key value
build_numbers number number' n n' limit agree layout m root key value fits =
    let Within : ℕ → Type 0 = λ count. count ≤ limit in
    let fewer : (i k : ℕ) → i ≤ k → k ≤ limit → i ≤ limit = λ i k less h. omega arith in
    let agree' : (i : ℕ) → suc i ≤ limit → number i ≡ number' i = λ i h. agree i (omega arith) in
    same_built (WordsAlike Within) (CellsAlike Within) Within fewer (λ i w w' h. h.same) (λ i s s' h. h) _ _
    (build_alike number number' n n' Within fewer agree' layout m root key value value
    ((alike number number' n n' Within fewer agree').old 0 (leaf_word value)) (λ _. refl)) fits

pub leaf_nonzero : (value : ℕ) → value < 2147483648 → eqb (leaf_word value) 0 ≡ false
unfolding leaf_word
leaf_nonzero value clear = let some_word : 4294967295 - value ≢ 0 = omega arith in ne_eqb (4294967295 - value) 0 some_word

leaf_top : (value : ℕ) → value < 2147483648 → 2147483648 ≤ leaf_word value
unfolding leaf_word
leaf_top value clear = omega arith

-- the cells that a build allocates are as many as it is counted to need, whatever their numbers and the value
pub count_needed : (layout : Layout) (number : ℕ → ℕ) → Numbering number → (m : Memory) (root : ℕ) (key : List ℕ) (value : ℕ) → value < 2147483648
    → length (build layout number m root key value).cells ≡ cells_needed layout m root key
unfolding cells_needed
count_needed layout number n m root key value clear =
    related_count _ _ _ _
    (build_alike number (λ _. 1) n numbering_one (λ _. ⊥) (λ i k less h. h) (λ i h. absurd h) layout m root key value 0
    (record {
      both_none = leaf_nonzero value clear ∙ sym (leaf_nonzero 0 (omega arith));
      room = λ own. room_leaf own _ (leaf_top value clear) ∙ sym (room_leaf own _ (leaf_top 0 (omega arith)));
      first_used = λ own. first_leaf own _ (leaf_top value clear) ∙ sym (first_leaf own _ (leaf_top 0 (omega arith)));
      same = λ h. absurd h;
    }) (λ h. absurd h))
