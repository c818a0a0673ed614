use Rattle.shared_book.specs.Acting.{Acted}
use Rattle.shared_book.proofs.share.act_often.Given as goal

-- so many calls were made so far
abbrev pub invariant-loop-time : goal.invariant-loop-time
invariant-loop-time g l = Acted l.desk l.initial.pass l.pass l.call l._time
