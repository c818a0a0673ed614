use Rattle.std.proofs.Common.{rules}
use Rattle.std.proofs.lemmas.List.Elements.{All-drop}
use Rattle.dpe_io.proofs.stock.Stock.open.Goals as goal

pub invariant_of-self-in-Some : goal.invariant_of-self-in-Some
invariant_of-self-in-Some g c = (
  search rules,
  search rules,
  search rules,
  rw c.pop_front.ensures.rest (All-drop g.T.Counted.is_new 1 c.self.inside.unopened.items c.self.invariant.3),
)
