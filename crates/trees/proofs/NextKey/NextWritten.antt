-- The answer of each way through the walk for the next key.
use mathlib.Core.Path.{◌≡◌, sym, ap, ◌∙◌}
use mathlib.Core.List.{List, [], ◌∷◌}
use mathlib.Core.Option.{Option, none, some}
use Prim.Native.Nat.{ℕ, suc, ◌+◌, ◌≤◌, ◌<◌}
use native.Mathlib.Numerals.{add-one}
use native.Mathlib.Omega.{arith}
use lib.ListN.{length, take, drop, set, length-set}
use lib.Seq.{drop-cons, drop-set-lt, get_or-set_same}
use Rattle.std.specs.Prelude.{Option as CodedOption, Some, None}
use Rattle.nodes.specs.Layout.{key_limit}
use Rattle.trees.specs.Code.NextWalk.{behind}
use Rattle.trees.specs.Code.Coded.{told_key, KeyWritten}

-- a character written before others is read before them
put_before : (characters : List ℕ) (at x n : ℕ) → at < length characters
    → take (suc n) (drop at (set characters at x)) ≡ x ∷ take n (drop (at + 1) characters)
put_before characters at x n room =
    let long : at < length (set characters at x) = simp length-set room in
    ap (take (suc n)) (drop-cons (set characters at x) at 0 long)
    ∙ ap (λ y. y ∷ take n (drop (suc at) (set characters at x))) (get_or-set_same characters at x 0 room)
    ∙ ap (λ l. x ∷ take n l) (drop-set-lt (suc at) characters at x (omega arith) ∙ ap (λ i. drop i characters) (sym (add-one at)))

-- an answer tells an equal key too
pub told_same : (characters : List ℕ) (at : ℕ) (told : CodedOption ℕ) (key other : Option (List ℕ)) → KeyWritten characters at told key
    → other ≡ key
    → KeyWritten characters at told other
told_same characters at told key other k e = record { tells = k.tells ∙ sym e; fits = k.fits }

-- an answer without a key
pub told_none : (characters : List ℕ) (at : ℕ) (key : Option (List ℕ)) → at ≤ key_limit → key ≡ none → KeyWritten characters at None key
unfolding told_key
told_none characters at key room e = record { tells = sym e; fits = omega arith }

pub no_key_told : (characters : List ℕ) (at : ℕ) (key : Option (List ℕ)) → KeyWritten characters at None key → key ≡ none
unfolding told_key
no_key_told characters at key told = sym told.tells

-- an answer with one
pub key_told : (characters : List ℕ) (at size : ℕ) (key : Option (List ℕ)) → KeyWritten characters at (Some size) key
    → (key ≡ some (take size (drop at characters))) × (at + size ≤ key_limit)
unfolding told_key
key_told characters at size key told = (sym told.tells, told.fits)

-- the empty key
pub told_empty : (characters : List ℕ) (at : ℕ) (key : Option (List ℕ)) → at ≤ key_limit → key ≡ some []
    → KeyWritten characters at (Some 0) key
unfolding told_key
told_empty characters at key room e = record { tells = sym e; fits = omega arith }

-- a character before a key
pub told_more : (characters : List ℕ) (at x size : ℕ) (inner key : Option (List ℕ)) → at < key_limit → length characters ≡ key_limit
    → KeyWritten characters (at + 1) (Some size) inner → key ≡ behind x inner → KeyWritten (set characters at x) at (Some (size + 1)) key
unfolding told_key behind
told_more characters at x size inner key room long told e =
    let more : size + 1 ≡ suc size = omega arith in record {
      tells =
          ap (λ k. some (take k (drop at (set characters at x)))) more ∙ ap some (put_before characters at x size (omega (arith, long)))
          ∙ ap (behind x) told.tells ∙ sym e;
      fits = omega (arith, told.fits);
    }
