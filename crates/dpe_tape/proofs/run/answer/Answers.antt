use Rattle.std.proofs.Common.{ℕ, List, take, subst}
use Rattle.dpe_link.specs.Frames.{frame}
use Rattle.dpe_tape.specs.Reading.{AppendsFront}
use Rattle.dpe_text.proofs.Fronts.{front_of}
use Rattle.dpe_tape.proofs.run.answer.Goals as goal

pub returns-in-Err-clause-front : goal.returns-in-Err-clause-front
returns-in-Err-clause-front g c =
    subst (λ (p : List ℕ). AppendsFront (g.K.Sink.bytes c.args.sink.now) (g.K.Sink.bytes c.append_frame.new.sink) (frame p)) c.execute-len.ensures.reply.1
    (front_of (g.K.Sink.bytes c.args.sink.now) (g.K.Sink.bytes c.append_frame.new.sink) (frame (take c.execute-len.result c.execute-len.new.out)) c.in-Err.field-0.written c.in-Err.ensures.fault.1)
