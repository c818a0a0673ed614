use Rattle.std.proofs.lemmas.List.{get_or-replicate}
use Rattle.dpe_tape.proofs.tally.Tally.new.Goals as goal

pub returns : goal.returns
returns c = record { counts = λ code lt. get_or-replicate 30 code 0 0 lt; frames = c.new.ensures }
