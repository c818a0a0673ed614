use Rattle.dpe_tape.proofs.Divisions.{whole_not_malformed, whole_not_overlong, malformed_not_overlong}
use Rattle.dpe_tape.proofs.SomeKind.{some_kind}
use Rattle.dpe_tape.proofs.law.one_kind.Goals as goal

pub returns : goal.returns
returns c bytes = record {
  kind = some_kind bytes;
  not_malformed = whole_not_malformed bytes;
  not_overlong = whole_not_overlong bytes;
  not_both = malformed_not_overlong bytes;
}
