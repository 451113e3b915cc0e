-- Laws of judgements: a part that fails, parts one after the other, and a walk along a range.
use mathlib.Core.Path.{◌≡◌, refl, sym, ap, ◌∙◌, subst}
use mathlib.Core.Logic.{◌≢◌}
use mathlib.Core.Bool.{Bool, true, false}
use mathlib.Core.List.{List, [], ◌∷◌, ◌++◌}
use mathlib.Core.Option.{Option, none, some, bind}
use Prim.Native.Nat.{ℕ, suc, ◌+◌}
use native.Mathlib.Omega.{arith}
use lib.ListN.{get_or, set}
use Rattle.cells.proofs.Choice.{absurd_bool, absurd_false}
use Rattle.nodes.specs.Layout.{Layout}
use Rattle.nodes.specs.Split.{gather}
use Rattle.nodes.specs.Prefix.{standalone, prefix_cells, valid_prefix}
use Rattle.nodes.proofs.Prefixes.{cells_alone, cells_embedded}
use Rattle.trees.specs.Code.Visit.{stamp_each, visit, cells_if, cell_if, VisitAnswer}
use Rattle.trees.proofs.Validation.Joins.{joined, bind_assoc, bind_same, bind_swap, bind_of, bind_none, joined_nil, joined_end, joined_assoc}
use Rattle.trees.proofs.Validation.Gathered.{gather_none, gather_first}
use Rattle.trees.proofs.Validation.Stamping.{stamp_each_none, stamp_each_twice, stamp_each_new, stamp_each-append}

module _ (stamp : ℕ) where
  -- nothing found, no cells found, one cell, and one list behind the other
  pub visit_nothing : (stamps : List ℕ) → visit stamp none stamps ≡ none
  visit_nothing stamps = bind_none (λ cs. stamp_each stamp cs stamps)

  pub visit_found : (cs stamps : List ℕ) → visit stamp (some cs) stamps ≡ stamp_each stamp cs stamps
  visit_found cs stamps = bind_of cs (λ cs. stamp_each stamp cs stamps)

  pub visit_empty : (stamps : List ℕ) → visit stamp (some []) stamps ≡ some stamps
  visit_empty stamps = visit_found [] stamps ∙ stamp_each_none stamp stamps

  pub visit-joined : (o p : Option (List ℕ)) (stamps : List ℕ)
      → visit stamp (joined o p) stamps ≡ bind (visit stamp o stamps) (λ after. visit stamp p after)
  visit-joined o p stamps =
      bind_assoc o (λ a. bind p (λ b. some (a ++ b))) (λ cs. stamp_each stamp cs stamps)
      ∙ bind_same o _ _ first ∙ sym (bind_assoc o (λ a. stamp_each stamp a stamps) (λ after. visit stamp p after))
    where
      first : (a : List ℕ) → visit stamp (bind p (λ b. some (a ++ b))) stamps ≡ bind (stamp_each stamp a stamps) (λ after. visit stamp p after)
      first a =
          bind_assoc p (λ b. some (a ++ b)) (λ cs. stamp_each stamp cs stamps)
          ∙ bind_same p _ _ (λ b. visit_found (a ++ b) stamps ∙ stamp_each-append stamp a b stamps)
          ∙ bind_swap p (stamp_each stamp a stamps) (λ b after. stamp_each stamp b after)

-- a judgement from the visit itself, and from a visit that comes to the same
module _ (cells : Option (List ℕ)) (stamp : ℕ) (before after : List ℕ) where
  pub judged_passed : visit stamp cells before ≡ some after → VisitAnswer cells stamp before after true
  judged_passed e = record { accepted = λ t. e; refused = λ t. absurd_bool t }

  pub judged_failed : visit stamp cells before ≡ none → VisitAnswer cells stamp before after false
  judged_failed e = record { accepted = λ t. absurd_false t; refused = λ t. e }

  pub judged_by : (other : Option (List ℕ)) (between : List ℕ) (passed : Bool) → visit stamp cells before ≡ visit stamp other between
      → VisitAnswer other stamp between after passed → VisitAnswer cells stamp before after passed
  judged_by other between passed e judged =
      record { accepted = λ t. e ∙ judged.accepted t; refused = λ t. e ∙ judged.refused t }

  pub judged_same : (other : Option (List ℕ)) (passed : Bool) → cells ≡ other → VisitAnswer other stamp before after passed
      → VisitAnswer cells stamp before after passed
  judged_same other passed e judged = judged_by other before passed (ap (λ o. visit stamp o before) e) judged

  -- nothing found fails, and no cells pass
  pub judged_none : cells ≡ none → VisitAnswer cells stamp before after false
  judged_none e = judged_failed (ap (λ o. visit stamp o before) e ∙ visit_nothing stamp before)

pub judged_empty : (cells : Option (List ℕ)) (stamp : ℕ) (stamps : List ℕ) → cells ≡ some [] → VisitAnswer cells stamp stamps stamps true
judged_empty cells stamp stamps e =
    judged_passed cells stamp stamps stamps (ap (λ o. visit stamp o stamps) e ∙ visit_empty stamp stamps)

-- a judgement from stamps that are the same
pub judged_from : {cells : Option (List ℕ)} {stamp : ℕ} {before other after : List ℕ} {passed : Bool} → before ≡ other
    → VisitAnswer cells stamp before after passed → VisitAnswer cells stamp other after passed
judged_from {cells} {stamp} {before} {other} {after} {passed} same = subst (λ s. VisitAnswer cells stamp s after passed) same

-- one cell that is valid, or is not
pub cell_invalid : (c stamp : ℕ) (before after : List ℕ) (valid : Bool) → valid ≡ false → VisitAnswer (cell_if valid c) stamp before after false
cell_invalid c stamp before after valid t = judged_none (cell_if valid c) stamp before after (ap (λ b. cell_if b c) t)

pub cell_valid : (c stamp : ℕ) (before after : List ℕ) (valid passed : Bool) → valid ≡ true → VisitAnswer (some (c ∷ [])) stamp before after passed
    → VisitAnswer (cell_if valid c) stamp before after passed
cell_valid c stamp before after valid passed t = judged_same (cell_if valid c) stamp before after (some (c ∷ [])) passed (ap (λ b. cell_if b c) t)

pub cell_twice : (c stamp : ℕ) (before after : List ℕ) → get_or before c 0 ≡ stamp → VisitAnswer (some (c ∷ [])) stamp before after false
cell_twice c stamp before after has =
    judged_failed (some (c ∷ [])) stamp before after (visit_found stamp (c ∷ []) before ∙ stamp_each_twice stamp c [] before has)

pub cell_new : (c stamp : ℕ) (before : List ℕ) → get_or before c 0 ≢ stamp → VisitAnswer (some (c ∷ [])) stamp before (set before c stamp) true
cell_new c stamp before other =
    judged_passed (some (c ∷ [])) stamp before (set before c stamp)
    (visit_found stamp (c ∷ []) before ∙ stamp_each_new stamp c [] before other ∙ stamp_each_none stamp (set before c stamp))

-- the cells of a prefix: its own where it has one for itself, else none
module _ (layout : Layout) (c : ℕ) (bytes : List ℕ) (stamp : ℕ) (before : List ℕ) (valid : Bool) (told : valid ≡ valid_prefix layout bytes)
    (alone : Bool) (kind : alone ≡ standalone bytes) where
  abbrev OfPrefix : List ℕ → Bool → Type 0
  OfPrefix after passed = VisitAnswer (cells_if (valid_prefix layout bytes) (prefix_cells c bytes)) stamp before after passed

  pub judged_alone : alone ≡ true → (after : List ℕ) (passed : Bool) → VisitAnswer (cell_if valid c) stamp before after passed → OfPrefix after passed
  judged_alone t after passed =
      judged_same _ stamp before after (cell_if valid c) passed
      (ap (λ cells. cells_if (valid_prefix layout bytes) cells) (cells_alone c bytes (sym kind ∙ t)) ∙ ap (λ v. cell_if v c) (sym told))

  pub judged_embedded : alone ≡ false → OfPrefix before valid
  judged_embedded t =
      judged_same _ stamp before before (cells_if valid []) valid
      (ap (λ cells. cells_if (valid_prefix layout bytes) cells) (cells_embedded c bytes (sym kind ∙ t)) ∙ ap (λ v. cells_if v []) (sym told)) (by valid)
    where
      by : (valid : Bool) → VisitAnswer (cells_if valid []) stamp before before valid
      by true = judged_empty (some []) stamp before refl
      by false = judged_none none stamp before before refl

-- two parts, of which the first fails, or passes and leaves the verdict to the second
module _ (cells first second : Option (List ℕ)) (stamp : ℕ) (before between after : List ℕ) (passed : Bool)
    (parts : cells ≡ joined first second) (judged : VisitAnswer first stamp before between passed) where
  parts_visit : visit stamp cells before ≡ bind (visit stamp first before) (λ after. visit stamp second after)
  parts_visit = ap (λ o. visit stamp o before) parts ∙ visit-joined stamp first second before

  pub first_failed : passed ≡ false → VisitAnswer cells stamp before after false
  first_failed t =
      judged_failed cells stamp before after
      (parts_visit ∙ ap (λ o. bind o (λ after. visit stamp second after)) (judged.refused t) ∙ bind_none (λ after. visit stamp second after))

  pub then_second : (result : Bool) → passed ≡ true → VisitAnswer second stamp between after result → VisitAnswer cells stamp before after result
  then_second result t =
      judged_by cells stamp before after second between result
      (parts_visit ∙ ap (λ o. bind o (λ after. visit stamp second after)) (judged.accepted t) ∙ bind_of between (λ after. visit stamp second after))

-- a walk along a range, with what is left of it and what comes behind
module _ (cells : Option (List ℕ)) (f : ℕ → Option (List ℕ)) (rest : Option (List ℕ)) (stamp : ℕ) (before : List ℕ) (i count : ℕ) (here : List ℕ)
    (walked : visit stamp cells before ≡ visit stamp (joined (gather f count i) rest) here) where
  pub walk_leaves : count ≡ 0 → visit stamp cells before ≡ visit stamp rest here
  walk_leaves z =
      walked ∙ ap (λ n. visit stamp (joined (gather f n i) rest) here) z ∙ ap (λ o. visit stamp (joined o rest) here) (gather_none f i)
      ∙ ap (λ o. visit stamp o here) (joined_nil rest)

  module _ (left : ℕ) (more : count ≡ left + 1) where
    -- what is found at the place has two parts, of which the first is judged
    module _ (first inner : Option (List ℕ)) (parts : f i ≡ joined first inner) (next : List ℕ) (passed : Bool) (judged : VisitAnswer first stamp here next passed) where
      abbrev behind : Option (List ℕ)
      behind = joined inner (joined (gather f left (i + 1)) rest)

      part_visit : visit stamp cells before ≡ bind (visit stamp first here) (λ after. visit stamp behind after)
      part_visit =
          let one : count ≡ suc left = omega arith in
          walked ∙ ap (λ n. visit stamp (joined (gather f n i) rest) here) one
          ∙ ap (λ o. visit stamp o here)
          (ap (λ o. joined o rest) (gather_first f left i) ∙ joined_assoc (f i) (gather f left (i + 1)) rest
          ∙ ap (λ o. joined o (joined (gather f left (i + 1)) rest)) parts ∙ joined_assoc first inner (joined (gather f left (i + 1)) rest))
          ∙ visit-joined stamp first behind here

      pub part_fails : (after : List ℕ) → passed ≡ false → VisitAnswer cells stamp before after false
      part_fails after t =
          judged_failed cells stamp before after
          (part_visit ∙ ap (λ o. bind o (λ after. visit stamp behind after)) (judged.refused t) ∙ bind_none (λ after. visit stamp behind after))

      pub part_passed : passed ≡ true → visit stamp cells before ≡ visit stamp (joined inner (joined (gather f left (i + 1)) rest)) next
      part_passed t =
          part_visit ∙ ap (λ o. bind o (λ after. visit stamp behind after)) (judged.accepted t) ∙ bind_of next (λ after. visit stamp behind after)

    -- all of it is judged
    module _ (next : List ℕ) (passed : Bool) (judged : VisitAnswer (f i) stamp here next passed) where
      pub walk_fails : (after : List ℕ) → passed ≡ false → VisitAnswer cells stamp before after false
      walk_fails = part_fails (f i) (some []) (sym (joined_end (f i))) next passed judged

      pub walk_goes_on : passed ≡ true → visit stamp cells before ≡ visit stamp (joined (gather f left (i + 1)) rest) next
      walk_goes_on t =
          part_passed (f i) (some []) (sym (joined_end (f i))) next passed judged t
          ∙ ap (λ o. visit stamp o next) (joined_nil (joined (gather f left (i + 1)) rest))

    -- nothing is there
    pub walk_passes : f i ≡ some [] → visit stamp cells before ≡ visit stamp (joined (gather f left (i + 1)) rest) here
    walk_passes e = walk_goes_on here true (judged_empty (f i) stamp here e) refl

-- a walk with nothing behind it begins, and ends
module _ (cells : Option (List ℕ)) (f : ℕ → Option (List ℕ)) (stamp : ℕ) (before : List ℕ) where
  pub walk_starts : (all left : ℕ) → cells ≡ gather f all 0 → left ≡ all
      → visit stamp cells before ≡ visit stamp (joined (gather f left 0) (some [])) before
  walk_starts all left e whole =
      ap (λ o. visit stamp o before) (e ∙ sym (joined_end (gather f all 0))) ∙ ap (λ n. visit stamp (joined (gather f n 0) (some [])) before) (sym whole)

  pub walk_ends : (i count : ℕ) (here : List ℕ) → visit stamp cells before ≡ visit stamp (joined (gather f count i) (some [])) here → count ≡ 0
      → VisitAnswer cells stamp before here true
  walk_ends i count here walked z =
      judged_passed cells stamp before here (walk_leaves cells f (some []) stamp before i count here walked z ∙ visit_empty stamp here)
