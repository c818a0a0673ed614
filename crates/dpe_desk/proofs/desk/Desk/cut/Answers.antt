use Rattle.std.proofs.Common.{rules, arith, length, ap}
use Rattle.dpe_desk.proofs.Splitting.{splits}
use Rattle.dpe_desk.proofs.desk.Desk.cut.Goals as goal

pub split_seat-requires : goal.split_seat-requires
split_seat-requires g c = (
  search rules,
  search rules,
  splits _ _ _ _ g.met.O.Sequential.legal_prefix _ _ _ _ (let a = c.requires.stake.0 in let b = c.requires.given in omega arith) (λ e. let h = ap length e in let a = c.requires.stake.1 in absurd (omega arith)),
)
