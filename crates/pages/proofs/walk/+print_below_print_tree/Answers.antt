-- The two walks that call each other meet their contracts.
use native.Mathlib.Omega.{arith}
use mathlib.Core.Path.{sym, ap, ◌∙◌}
use Rattle.cells.specs.Optional.{option_of}
use Rattle.trees.proofs.NextKey.NextAnswers.{first_grown}
use Rattle.pages.proofs.Walking.WalkParts.{grown_known, still_open, once_open}
use Rattle.pages.proofs.Walking.WalkSteps.{below_done, below_near, below_kept, below_goes, below_full, tree_below, tree_full, tree_leaf, tree_goes}
use Rattle.pages.proofs.walk.+print_below_print_tree.Goals as goal

pub print_below-known_child-requires : goal.print_below-known_child-requires
print_below-known_child-requires t c = grown_known _ _ _ _ c.requires.1

pub print_below-returns-in_default : goal.print_below-returns-in_default
print_below-returns-in_default t c = record {
  kept = c.loop-character.invariant.0;
  written =
      below_done _ _ _ _ c.requires.1 _ _ _ _ c.loop-character.invariant.3 c.known_child.result c.known_child.ensures
      c.in_default.not-Found;
}

pub print_below-put_character-requires : goal.print_below-put_character-requires
print_below-put_character-requires t c =
    (first_grown _ _ _ _ _ c.requires.0 c.requires.1 c.known_child.result c.known_child.ensures _ _ c.in-Found.is).0

pub print_below-print_tree-next-requires : goal.print_below-print_tree-next-requires
print_below-print_tree-next-requires t c =
    let child = first_grown _ _ _ _ _ c.requires.0 c.requires.1 c.known_child.result c.known_child.ensures _ _ c.in-Found.is in
    (omega (arith, child.0), (omega (arith, child.0), child.1, c.loop-character.invariant.2))

pub print_below-returns-then-progress : goal.print_below-returns-then-progress
print_below-returns-then-progress t c = record {
  kept =
      below_kept _ _ _ _ c.requires.1 _ _ _ _ c.loop-character.invariant.3 c.known_child.result c.known_child.ensures _ _ c.in-Found.is
      c.requires.0 _ _ _ c.put_character.ensures c.loop-character.invariant.0 _ c.print_tree-next.ensures;
  written =
      below_full _ _ _ _ c.requires.1 _ _ _ _ c.loop-character.invariant.3 c.known_child.result c.known_child.ensures _ _ c.in-Found.is
      c.requires.0 _ _ _ c.put_character.ensures c.loop-character.invariant.0 _ c.print_tree-next.ensures c.if-progress.true;
}

pub print_below-loop-character-smaller : goal.print_below-loop-character-smaller
print_below-loop-character-smaller t c =
    let near = below_near _ _ _ _ c.requires.1 _ _ _ _ c.loop-character.invariant.3 c.known_child.result c.known_child.ensures _ _
    c.in-Found.is in
    omega (arith, near.0, near.1)

pub print_below-loop-character-preserved : goal.print_below-loop-character-preserved
print_below-loop-character-preserved t c = (
  below_kept _ _ _ _ c.requires.1 _ _ _ _ c.loop-character.invariant.3 c.known_child.result c.known_child.ensures _ _ c.in-Found.is
      c.requires.0 _ _ _ c.put_character.ensures c.loop-character.invariant.0 _ c.print_tree-next.ensures,
  c.print_tree-next.auto.buffer ∙ c.loop-character.invariant.1,
  still_open _ _ _ _ _ c.loop-character.invariant.2 c.print_tree-next.ensures.written c.if-progress.false,
  below_goes _ _ _ _ c.requires.1 _ _ _ _ c.loop-character.invariant.3 c.known_child.result c.known_child.ensures _ _ c.in-Found.is
      c.requires.0 _ _ _ c.put_character.ensures c.loop-character.invariant.0 _ c.print_tree-next.ensures,
)

pub print_tree-returns-in_default : goal.print_tree-returns-in_default
print_tree-returns-in_default t c =
    tree_below _ _ _ _ _ _ c.run_down-stand.result c.run_down-stand.ensures (ap option_of (sym c.in_default.is) ∙ c.value_at.ensures)
    _ _ _ c.print_below.ensures

pub print_tree-returns-then-progress : goal.print_tree-returns-then-progress
print_tree-returns-then-progress t c =
    tree_full _ _ _ _ _ _ c.run_down-stand.result c.run_down-stand.ensures _ (ap option_of (sym c.in-Some.is) ∙ c.value_at.ensures)
    _ _ c.put_record-progress.ensures c.if-progress.true

pub print_tree-returns-then-below-ge2147483648 : goal.print_tree-returns-then-below-ge2147483648
print_tree-returns-then-below-ge2147483648 t c =
    tree_leaf _ _ _ _ _ _ c.run_down-stand.result c.run_down-stand.ensures _ (ap option_of (sym c.in-Some.is) ∙ c.value_at.ensures)
    _ _ c.put_record-progress.ensures c.if-below-ge2147483648.true

pub print_tree-print_below-requires-2 : goal.print_tree-print_below-requires-2
print_tree-print_below-requires-2 t c = (
  omega (arith, c.run_down-stand.ensures.onward),
  (
    c.run_down-stand.ensures.inside,
    c.run_down-stand.ensures.grown,
    once_open _ _ _ _ _ c.requires.2 c.put_record-progress.ensures c.if-progress.false,
  ),
)

pub print_tree-returns : goal.print_tree-returns
print_tree-returns t c =
    tree_goes _ _ _ _ _ _ c.run_down-stand.result c.run_down-stand.ensures _ (ap option_of (sym c.in-Some.is) ∙ c.value_at.ensures)
    _ _ c.put_record-progress.ensures _ _ c.print_below-2.ensures
