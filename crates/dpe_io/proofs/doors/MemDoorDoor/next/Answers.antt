use Rattle.std.proofs.Common.{rules}
use Rattle.std.proofs.lemmas.List.Elements.{All-drop}
use Rattle.dpe_io.specs.Memory.{IsFaultless}
use Rattle.dpe_io.proofs.doors.MemDoorDoor.next.Goals as goal

pub invariant_of-self-in-Some : goal.invariant_of-self-in-Some
invariant_of-self-in-Some c =
    (search rules, rw c.pop_front.ensures.rest (All-drop IsFaultless 1 c.self.inside.waiting.items c.self.invariant.1))
