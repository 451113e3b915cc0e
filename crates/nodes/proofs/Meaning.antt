-- 01: "Bytes with no meaning aren't judged.": two cells that are alike at the bytes with a meaning are judged and read alike.
use mathlib.Core.Path.{◌≡◌, refl, sym, ap, ◌∙◌}
use mathlib.Core.Logic.{inl, inr}
use mathlib.Core.Bool.{Bool, true, false, ◌&&◌, ◌||◌, not, cond}
use mathlib.Core.List.{List, [], ◌∷◌, map}
use Prim.Native.Nat.{ℕ, zero, suc, ◌+◌, ◌-◌, ◌*◌, ◌≤◌, ◌<◌}
use native.Mathlib.Decide.{ℕ_discrete}
use native.Mathlib.Omega.{arith}
use lib.Dec.{ltb, eqb}
use lib.ListN.{length, get_or}
use Rattle.cells.specs.Word.{word_at}
use Rattle.cells.proofs.Words.{word_agree}
use Rattle.order_words.specs.Digits.{order_digits}
use Rattle.order_words.specs.Order.{valid_digits, rising}
use Rattle.order_words.proofs.Rising.{map_same}
use Rattle.order_words.proofs.Valid.{at_most_six, digit_below}
use Rattle.nodes.specs.Meaning.{InChain, InSparse, InHead, InBranch, InPrefix}
use Rattle.nodes.specs.Chain.{chain_character, chain_child}
use Rattle.nodes.specs.Sparse.{some_word, every_word, sparse_word, sparse_character, sparse_digits, sparse_count, valid_sparse, child_from, sparse_child}
use Rattle.nodes.specs.Split.{head_word, branch_word, valid_head, valid_branch}
use Rattle.nodes.specs.Layout.{Layout}
use Rattle.nodes.specs.Pointer.{word_to}
use Rattle.nodes.specs.Prefix.{prefix_value, prefix_offset, standalone, prefix_link, prefix_cells, valid_offset, valid_prefix}
use Rattle.nodes.proofs.Chain.{chain_child_inside}
use Rattle.nodes.proofs.Prefixes.{link_alone, link_embedded}
use Rattle.nodes.proofs.SparseNodes.SparseSteps.{count_small}

-- two cells are alike at some offsets
abbrev pub Alike : (ℕ → Type 0) → List ℕ → List ℕ → Type 0
Alike Meant s t = (i : ℕ) → Meant i → get_or s i 0 ≡ get_or t i 0

-- rows of words that are the same from one position on, so many
some_alike : (f g : ℕ → ℕ) (count from : ℕ) → ((p : ℕ) → from ≤ p → p < from + count → f p ≡ g p) → some_word f count from ≡ some_word g count from
unfolding some_word
some_alike f g zero from same = refl
some_alike f g (suc count) from same =
    let here : f from ≡ g from = same from (omega arith) (omega arith) in
    let later = some_alike f g count (from + 1) (λ p low high. same p (omega arith) (omega arith)) in
    λ i. cond (eqb (here i) 0) (later i) true

every_alike : (f g : ℕ → ℕ) (count from : ℕ) → ((p : ℕ) → from ≤ p → p < from + count → f p ≡ g p) → every_word f count from ≡ every_word g count from
unfolding every_word
every_alike f g zero from same = refl
every_alike f g (suc count) from same =
    let here : f from ≡ g from = same from (omega arith) (omega arith) in
    let later = every_alike f g count (from + 1) (λ p low high. same p (omega arith) (omega arith)) in
    λ i. cond (eqb (here i) 0) false (later i)

-- a chain at a place
module _ (s t : List ℕ) (place : ℕ) (inside : place < 28) (alike : Alike (InChain place) s t) where
  pub chain_character_alike : chain_character s place ≡ chain_character t place
  chain_character_alike = alike place (omega arith, omega arith)

  pub chain_child_alike : (c : ℕ) → chain_child s c place ≡ chain_child t c place
  unfolding chain_child
  chain_child_alike c = elim (ℕ_discrete place 27) [
    | yes last ↦
        let end : word_at s 28 ≡ word_at t 28 = word_agree s t 28 28 (λ r near. alike (28 + r) (omega arith, omega arith)) in
        ap (λ w. cond (eqb place 27) w (c * 32 + (place + 1))) end
    | no other ↦ chain_child_inside s c place other ∙ sym (chain_child_inside t c place other)
  ]

-- a sparse cell
module _ (s t : List ℕ) (alike : Alike (InSparse (sparse_count s)) s t) where
  pub digits_alike : sparse_digits s ≡ sparse_digits t
  unfolding sparse_digits
  digits_alike =
      let high : get_or s 30 0 ≡ get_or t 30 0 = alike 30 (inr (omega arith, omega arith)) in
      let low : get_or s 31 0 ≡ get_or t 31 0 = alike 31 (inr (omega arith, omega arith)) in
      λ i. order_digits (high i * 256 + low i)

  character_alike : (p : ℕ) → p < sparse_count s → sparse_character s p ≡ sparse_character t p
  character_alike p near = alike (24 + p) (inl (omega arith))

  word_alike : (p : ℕ) → 4 * p + 3 < 24 + sparse_count s → sparse_word s p ≡ sparse_word t p
  word_alike p near = word_agree s t (4 * p) (4 * p) (λ r less. alike (4 * p + r) (inl (omega arith)))

  -- what is judged, by the digits, the words and the characters
  abbrev judged : List ℕ → (ℕ → ℕ) → (ℕ → ℕ) → Bool
  judged ds words characters =
      valid_digits ds && every_word words (length ds) 0 && not (some_word words (6 - length ds) (length ds)) && rising (map characters ds)

  answers_alike : (v : Bool) → valid_digits (sparse_digits s) ≡ v
      → judged (sparse_digits s) (sparse_word s) (sparse_character s) ≡ judged (sparse_digits s) (sparse_word t) (sparse_character t)
  answers_alike false e = rw e
  answers_alike true e =
      let six : sparse_count s ≤ 6 = at_most_six (sparse_digits s) e in
      let every = every_alike (sparse_word s) (sparse_word t) (sparse_count s) 0 (λ p low high. word_alike p (omega arith)) in
      let some = some_alike (sparse_word s) (sparse_word t) (6 - sparse_count s) (sparse_count s) (λ p low high. word_alike p (omega arith)) in
      let order = map_same (sparse_character s) (sparse_character t) (sparse_digits s) (λ d there. character_alike d (digit_below (sparse_digits s) e d there)) in
      λ i. valid_digits (sparse_digits s) && every i && not (some i) && rising (order i)

  pub valid_sparse_alike : valid_sparse s ≡ valid_sparse t
  unfolding valid_sparse
  valid_sparse_alike = answers_alike (valid_digits (sparse_digits s)) refl ∙ ap (λ ds. judged ds (sparse_word t) (sparse_character t)) digits_alike

  child_from_alike : (count from x : ℕ) → from + count ≤ sparse_count s → child_from s count from x ≡ child_from t count from x
  unfolding child_from
  child_from_alike zero from x most = refl
  child_from_alike (suc count) from x most =
      let small : sparse_count s ≤ 7 = count_small s in
      let character = character_alike from (omega arith) in
      let word = word_alike from (omega arith) in
      let later = child_from_alike count (from + 1) x (omega arith) in
      λ i. cond (eqb x (character i)) (word i) (later i)

  pub sparse_child_alike : (x : ℕ) → sparse_child s x ≡ sparse_child t x
  sparse_child_alike x = child_from_alike (sparse_count s) 0 x (omega arith) ∙ ap (λ ds. child_from t (length ds) 0 x) digits_alike

-- a split's head
module _ (s t : List ℕ) (alike : Alike InHead s t) where
  pub head_word_alike : (j : ℕ) → j < 4 → head_word s j ≡ head_word t j
  head_word_alike j near = word_agree s t (16 + 4 * j) (16 + 4 * j) (λ r less. alike (16 + 4 * j + r) (omega arith, omega arith))

  pub valid_head_alike : valid_head s ≡ valid_head t
  valid_head_alike = some_alike (head_word s) (head_word t) 4 0 (λ p low high. head_word_alike p (omega arith))

-- a mid or an end
module _ (s t : List ℕ) (alike : Alike InBranch s t) where
  pub branch_word_alike : (j : ℕ) → j < 8 → branch_word s j ≡ branch_word t j
  branch_word_alike j near = word_agree s t (4 * j) (4 * j) (λ r less. alike (4 * j + r) (omega arith))

  pub valid_branch_alike : valid_branch s ≡ valid_branch t
  valid_branch_alike = some_alike (branch_word s) (branch_word t) 8 0 (λ p low high. branch_word_alike p (omega arith))

-- a prefix
module _ (layout : Layout) (c : ℕ) (s t : List ℕ) (alike : Alike (InPrefix (standalone s)) s t) where
  pub prefix_value_alike : prefix_value s ≡ prefix_value t
  prefix_value_alike = word_agree s t 0 0 (λ r less. alike (0 + r) (inl (omega arith)))

  pub prefix_offset_alike : prefix_offset s ≡ prefix_offset t
  prefix_offset_alike = alike 4 (inl (omega arith))

  pub prefix_link_alike : prefix_link c s ≡ prefix_link c t
  prefix_link_alike = by (standalone s) refl
    where
      same : standalone s ≡ standalone t
      same = ap (λ offset. eqb offset 255) prefix_offset_alike

      by : (alone : Bool) → standalone s ≡ alone → prefix_link c s ≡ prefix_link c t
      by true alone =
          link_alone c s alone ∙ word_agree s t 28 28 (λ r less. alike (28 + r) (inr (alone, omega arith, omega arith)))
          ∙ sym (link_alone c t (sym same ∙ alone))
      by false other = link_embedded c s other ∙ ap (word_to c) prefix_offset_alike ∙ sym (link_embedded c t (sym same ∙ other))

  pub prefix_cells_alike : prefix_cells c s ≡ prefix_cells c t
  unfolding prefix_cells
  prefix_cells_alike = ap (λ offset. cond (eqb offset 255) (c ∷ []) []) prefix_offset_alike

  pub valid_prefix_alike : valid_prefix layout s ≡ valid_prefix layout t
  unfolding valid_prefix
  valid_prefix_alike =
      let value = prefix_value_alike in
      let offset = prefix_offset_alike in
      λ i. ltb (value i) 2147483648 && (eqb (offset i) 255 || valid_offset layout (offset i))
