use Rattle.std.proofs.Common.{rules, arith, length, ap}
use Rattle.dpe_desk.proofs.Joining.{joins, compares, longer_length}
use Rattle.dpe_desk.proofs.desk.Desk.take_in.Goals as goal

pub join_seat-requires : goal.join_seat-requires
join_seat-requires g c =
    let mine = c.requires.idle in let theirs = c.requires.other in
    (search rules, search rules, search rules, search rules, joins _ _ _ _ g.met.O.Sequential.legal_prefix _ _ _ _ _ (λ e. let h = ap length e in let a = mine.1 in absurd (omega arith)) mine.0.0 mine.0.1 theirs.0.0 theirs.0.1)

pub load-requires : goal.load-requires
load-requires g c =
    let me = c.join_seat.ensures.2 in
    let most = longer_length c.args.seat.now.me.0.seen c.args.other.me.0.seen in (
      search rules,
      search rules,
      compares _ _ _ _ g.met.O.Sequential.legal_prefix _ _ _ _
          (rw me most.0)
          (rw me most.1),
    )
