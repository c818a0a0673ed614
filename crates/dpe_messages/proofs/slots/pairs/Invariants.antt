use Rattle.dpe_messages.proofs.SlotLemmas.{Filled}
use Rattle.dpe_messages.proofs.slots.pairs.Given as goal

abbrev pub invariant-loop : goal.invariant-loop
invariant-loop l = Filled l.table l.count l.counter l.last l.reader.rest l.fn.reader.rest l.slots
