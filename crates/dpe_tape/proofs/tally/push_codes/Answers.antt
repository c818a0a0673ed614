use Rattle.std.proofs.Common.{get_or, string_bytes, arith}
use Rattle.dpe_tape.proofs.Tallied.{no_lines, lines_more, all_lines}
use Rattle.dpe_tape.proofs.tally.push_codes.Goals as goal

pub loop-code-init : goal.loop-code-init
loop-code-init c rs has = no_lines (string_bytes c.args.text.now) rs

pub loop-code-preserved : goal.loop-code-preserved
loop-code-preserved c rs has =
    lines_more (string_bytes c.args.text.now) (string_bytes c.loop-code.text) (string_bytes c.push_code.new.text) c.loop-code.code (get_or c.args.counts.now c.loop-code.code 0) rs
    (c.loop-code.invariant rs has) c.in_ok-push_code.ensures (has c.loop-code.code (omega arith))

pub returns : goal.returns
returns c rs has =
    all_lines (string_bytes c.args.text.now) (string_bytes c.loop-code.text) c.loop-code.code rs (omega arith) (c.loop-code.invariant rs has)
