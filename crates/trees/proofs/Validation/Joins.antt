-- Laws of steps that may have no result, and of two lists found one after the other.
use mathlib.Core.Path.{◌≡◌, refl, ap, ◌∙◌}
use mathlib.Core.Bool.{Bool, true, false}
use mathlib.Core.List.{List, [], ◌∷◌, ◌++◌, append_assoc, append-nil}
use mathlib.Core.Option.{Option, none, some, bind}
use Prim.Native.Nat.{ℕ}
use Rattle.trees.specs.Code.Visit.{cell_if}

-- steps after steps
pub bind_assoc : {A B C : Type 0} (o : Option A) (f : A → Option B) (g : B → Option C) → bind (bind o f) g ≡ bind o (λ a. bind (f a) g)
unfolding bind
bind_assoc none f g = refl
bind_assoc (some a) f g = refl

pub bind_same : {A B : Type 0} (o : Option A) (f g : A → Option B) → ((a : A) → f a ≡ g a) → bind o f ≡ bind o g
unfolding bind
bind_same none f g same = refl
bind_same (some a) f g same = same a

pub bind_swap : {A B C : Type 0} (o : Option A) (p : Option B) (k : A → B → Option C)
    → bind o (λ a. bind p (λ b. k a b)) ≡ bind p (λ b. bind o (λ a. k a b))
unfolding bind
bind_swap none none k = refl
bind_swap none (some b) k = refl
bind_swap (some a) none k = refl
bind_swap (some a) (some b) k = refl

pub bind_of : {A B : Type 0} (a : A) (f : A → Option B) → bind (some a) f ≡ f a
unfolding bind
bind_of a f = refl

pub bind_none : {A B : Type 0} (f : A → Option B) → bind none f ≡ none
unfolding bind
bind_none f = refl

pub bind_some : {A : Type 0} (o : Option A) → bind o some ≡ o
unfolding bind
bind_some none = refl
bind_some (some a) = refl

pub bind_to_none : {A B : Type 0} (o : Option A) → ◌≡◌ {A = Option B} (bind o (λ _. none)) none
unfolding bind
bind_to_none none = refl
bind_to_none (some a) = refl

-- two lists found, one behind the other
abbrev pub joined : Option (List ℕ) → Option (List ℕ) → Option (List ℕ)
joined o p = bind o (λ a. bind p (λ b. some (a ++ b)))

pub joined_nil : (p : Option (List ℕ)) → joined (some []) p ≡ p
unfolding bind
joined_nil none = refl
joined_nil (some b) = refl

pub joined_end : (o : Option (List ℕ)) → joined o (some []) ≡ o
unfolding bind
joined_end none = refl
joined_end (some a) = ap some (append-nil a)

pub joined_assoc : (o p q : Option (List ℕ)) → joined (joined o p) q ≡ joined o (joined p q)
unfolding bind
joined_assoc none p q = refl
joined_assoc (some a) none q = refl
joined_assoc (some a) (some b) none = refl
joined_assoc (some a) (some b) (some c) = ap some (append_assoc a b c)

-- cells before the cells found, as one list where these are known
pub joined_some : (a : List ℕ) (p : Option (List ℕ)) → joined (some a) p ≡ bind p (λ b. some (a ++ b))
unfolding bind
joined_some a p = refl

-- a cell that is visited where it is valid, before the cells found
pub cell_kept : (valid : Bool) (c : ℕ) (p : Option (List ℕ)) → valid ≡ true → joined (cell_if valid c) p ≡ joined (some (c ∷ [])) p
cell_kept valid c p t = ap (λ b. joined (cell_if b c) p) t

pub cell_dropped : (valid : Bool) (c : ℕ) (p : Option (List ℕ)) → valid ≡ false → joined (cell_if valid c) p ≡ none
cell_dropped valid c p t = ap (λ b. joined (cell_if b c) p) t ∙ bind_none (λ a. bind p (λ b. some (a ++ b)))
