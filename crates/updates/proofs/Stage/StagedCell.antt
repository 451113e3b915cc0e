-- One cell allocated in the stage is one cell allocated by the definition, and the newest written again the newest.
use mathlib.Core.Path.{◌≡◌, refl, sym, ap, ◌∙◌}
use mathlib.Core.Bool.{true}
use mathlib.Core.List.{List, ◌∷◌}
use Prim.Native.Nat.{ℕ, suc, ◌+◌}
use Rattle.nodes.specs.Pointer.{word_to}
use Rattle.staging.specs.Code.Stage.{staged, Put, allocated}
use Rattle.staging.specs.declared.stage.BuildState.{BuildState}
use Rattle.staging.proofs.StageLaws.{staged-length, put_next, put_newest}
use Rattle.updates.specs.Built.{allocate}
use Rattle.updates.specs.Code.Staged.{built_of}

pub put_allocate : {before after : List ℕ} {at : ℕ} {bytes : List ℕ} → Put before after at bytes → (number : ℕ → ℕ) (kind : ℕ) (r : BuildState)
    → r ≡ allocated number kind at → built_of r after ≡ allocate number kind bytes (staged before at)
unfolding allocate
put_allocate {before} {after} {at} put number kind r is =
    ap (λ (m : BuildState). built_of m after) is ∙ (λ i. record {
      word = word_to (number (sym (staged-length before at) i)) kind;
      own = true;
      cells = put_newest put (at + 1) refl i;
    })

-- the newest cell written again, with a node of a kind in it
pub put_again : {before after : List ℕ} {at : ℕ} {bytes : List ℕ} → Put before after at bytes → (number : ℕ → ℕ) (kind n word count : ℕ) → count ≡ suc at
    → word ≡ word_to n kind → n ≡ number at
    → built_of (record { word = word; own = true; count = count }) after ≡ record { word = word_to (number at) kind; own = true; cells = bytes ∷ staged before at }
put_again {before} {after} {at} {bytes} put number kind n word count last made listed =
    let named : word ≡ word_to (number at) kind = made ∙ ap (λ (m : ℕ). word_to m kind) listed in
    let cells : staged after count ≡ bytes ∷ staged before at = ap (staged after) last ∙ put_next put in
    λ i. record { word = named i; own = true; cells = cells i }
