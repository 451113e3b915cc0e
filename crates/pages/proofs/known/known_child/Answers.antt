use borrow.Enum.Refused.{opened}
use Rattle.nodes.proofs.Steps.LeastWays.{least_past, least_nothing, least_leaf, least_plain}
use Rattle.pages.proofs.Walking.KnownNode.{known_plain, known_linked, known_prefix}
use Rattle.pages.proofs.known.known_child.Goals as goal

pub returns-then-from-ge256 : goal.returns-then-from-ge256
returns-then-from-ge256 c = least_past _ _ _ _ c.if-from-ge256.true

pub plain_known-requires : goal.plain_known-requires
plain_known-requires c = (
  c.if-from-ge256.false,
  c.pointer.ensures.inside,
  known_linked _ _ _ c.requires _ c.pointer-pointer.ensures.names _ c.in-Prefix.is _ c.link_at.ensures c.pointer.result
      c.pointer.ensures.names,
)

pub plain_known-requires-in_default : goal.plain_known-requires-in_default
plain_known-requires-in_default c = (
  c.if-from-ge256.false,
  c.pointer-pointer.ensures.inside,
  known_plain _ _ _ c.requires c.pointer-pointer.result c.pointer-pointer.ensures.names (opened c.in_default.in_default-own.keys4),
)

pub returns-in-Nothing : goal.returns-in-Nothing
returns-in-Nothing c = least_nothing _ _ _ _ _ c.pointer-pointer.ensures.names c.if-from-ge256.false c.in-Nothing.is

pub returns-in-Leaf : goal.returns-in-Leaf
returns-in-Leaf c = least_leaf _ _ _ _ _ c.pointer-pointer.ensures.names c.if-from-ge256.false _ c.in-Leaf.is

pub returns-in-Prefix : goal.returns-in-Prefix
returns-in-Prefix c =
    known_prefix _ _ _ c.requires _ c.pointer-pointer.ensures.names _ c.in-Prefix.is _ c.link_at.ensures c.pointer.result
    c.pointer.ensures.names
    _ _ c.plain_known.ensures

pub returns-in_default : goal.returns-in_default
returns-in_default c =
    least_plain _ _ _ _ c.pointer-pointer.result c.pointer-pointer.ensures.names (opened c.in_default.in_default-own.keys4) _
    c.plain_known-in_default.ensures
