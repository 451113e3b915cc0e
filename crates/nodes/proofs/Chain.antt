-- Laws of the nodes of a chain cell.
use mathlib.Core.Path.{◌≡◌, refl, ◌∙◌}
use mathlib.Core.Logic.{◌≢◌}
use mathlib.Core.List.{List, [], ◌∷◌}
use mathlib.Core.Option.{none}
use Prim.Native.Nat.{ℕ, ◌+◌}
use borrow.Author.Tests.{eq-eqb, ne_eqb}
use Rattle.nodes.specs.Pointer.{word_to}
use Rattle.nodes.specs.Chain.{chain_character, chain_end, chain_child}
use Rattle.nodes.specs.Node.{one_child, chain_node}

-- the child of one character, and of any other
pub one_child_here : (x w : ℕ) → one_child x w x ≡ w
one_child_here x w = rw (eq-eqb x x refl)

pub one_child_other : (x w y : ℕ) → y ≢ x → one_child x w y ≡ 0
one_child_other x w y other = rw (ne_eqb y x other)

-- the child of a place is the next place, and of the last one the word where the run ends
pub chain_child_inside : (bytes : List ℕ) (c k : ℕ) → k ≢ 27 → chain_child bytes c k ≡ word_to c (k + 1)
unfolding chain_child
chain_child_inside bytes c k inside = rw (ne_eqb k 27 inside)

pub chain_child_end : (bytes : List ℕ) (c : ℕ) → chain_child bytes c 27 ≡ chain_end bytes
unfolding chain_child
chain_child_end bytes c = refl

-- the parts of a node of a chain; the cell is visited at the last place only
pub chain_value : (bytes : List ℕ) (c k : ℕ) → (chain_node bytes c k).value ≡ none
unfolding chain_node
chain_value bytes c k = refl

pub chain_child_lem : (bytes : List ℕ) (c k x : ℕ) → (chain_node bytes c k).child x ≡ one_child (chain_character bytes k) (chain_child bytes c k) x
unfolding chain_node
chain_child_lem bytes c k x = refl

pub chain_footprint : (bytes : List ℕ) (c k : ℕ) → (chain_node bytes c k).footprint ≡ c ∷ []
unfolding chain_node
chain_footprint bytes c k = refl

pub chain_cells_inside : (bytes : List ℕ) (c k : ℕ) → k ≢ 27 → (chain_node bytes c k).cells ≡ []
unfolding chain_node
chain_cells_inside bytes c k inside = rw (ne_eqb k 27 inside)

pub chain_cells_end : (bytes : List ℕ) (c : ℕ) → (chain_node bytes c 27).cells ≡ c ∷ []
unfolding chain_node
chain_cells_end bytes c = refl

-- followed by its own character
pub chain_next : (bytes : List ℕ) (c k : ℕ) → k ≢ 27 → (chain_node bytes c k).child (chain_character bytes k) ≡ word_to c (k + 1)
chain_next bytes c k inside =
    chain_child_lem bytes c k (chain_character bytes k) ∙ one_child_here (chain_character bytes k) (chain_child bytes c k) ∙ chain_child_inside bytes c k inside
