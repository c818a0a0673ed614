use Rattle.std.proofs.Common.{rules, ◌≡◌, ◌++◌, string_bytes}
use Rattle.std.specs.Prelude.{codes}
use Rattle.std.specs.Fmt.{decimal}
use Rattle.dpe_tape.specs.LoadText.{line, reply_frames}
use Rattle.dpe_tape.proofs.Tallied.{told_is}
use Rattle.dpe_tape.proofs.tally.Tally.told.Goals as goal

pub returns : goal.returns
returns c rs is =
    let first : string_bytes c.writeln.new.self ≡ line (codes "commands " ++ decimal c.args.commands) = search rules in
    told_is c.args.commands c.finalize.result (string_bytes c.writeln.new.self) (string_bytes c.push_codes.new.text) (string_bytes c.push_digest.new.text) rs
    first (c.in_ok-push_codes.ensures rs is.counts) c.in_ok-push_digest.ensures (c.finalize.ensures (reply_frames rs) is.frames)
