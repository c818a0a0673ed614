use Rattle.dpe_tree.proofs.Rooting.{arena_empty, empty_nodes, no_live}
use Rattle.dpe_tree.proofs.tree.Tree.make.Goals as goal

pub invariant_of-result : goal.invariant_of-result
invariant_of-result c = (
  arena_empty c.in_ok-links.field-0.items c.in_ok-unused_states.field-0.items c.in_ok-places_below.field-0.items
      c.in_ok-links.ensures c.in_ok-unused_states.ensures.length c.in_ok-unused_states.ensures.unused c.in_ok-places_below.ensures.places,
  c.in_ok-places_below.ensures.capacity,
)

pub returns-clause-empty : goal.returns-clause-empty
returns-clause-empty c =
    empty_nodes c.in_ok-links.field-0.items c.in_ok-unused_states.field-0.items c.in_ok-places_below.field-0.items
    c.in_ok-links.ensures c.in_ok-unused_states.ensures.length c.in_ok-unused_states.ensures.unused c.in_ok-places_below.ensures.places

pub returns-clause-live : goal.returns-clause-live
returns-clause-live c =
    no_live c.in_ok-links.field-0.items c.in_ok-unused_states.field-0.items c.in_ok-places_below.field-0.items
    c.in_ok-links.ensures c.in_ok-unused_states.ensures.length c.in_ok-unused_states.ensures.unused c.in_ok-places_below.ensures.places
