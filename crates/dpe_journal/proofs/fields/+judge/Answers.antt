use Rattle.std.proofs.Common.{length, sym}
use Rattle.std.proofs.lemmas.Bool.{eqb-false}
use Rattle.dpe_journal.proofs.Judging.{wrong_at, short_at, wrong_behind, short_behind, whole_behind}
use Rattle.dpe_journal.proofs.fields.+judge.Goals as goal

pub returns-in-Short : goal.returns-in-Short
returns-in-Short t c =
    short_at c.args.fields.now _ c.args.bytes.now c.in-Short.need (eqb-false (length c.args.fields.now) 0 (sym c.if-is_empty.ensures)) c.requires c.in-Short.ensures

pub returns-in-Wrong : goal.returns-in-Wrong
returns-in-Wrong t c = wrong_at c.args.fields.now _ c.args.bytes.now (eqb-false (length c.args.fields.now) 0 (sym c.if-is_empty.ensures)) c.in-Wrong.ensures

pub returns-in-Whole-judge : goal.returns-in-Whole-judge
returns-in-Whole-judge t c =
    whole_behind c.split_at.result.1.now c.in-Whole.size c.split_at-2.result.1.now c.args.fields.now _ c.args.bytes.now c.in-Whole-judge.more
    (eqb-false (length c.args.fields.now) 0 (sym c.if-is_empty.ensures)) c.split_at.ensures.back c.split_at-2.ensures.back c.in-Whole.ensures c.in-Whole-judge.ensures

pub returns-in-Short-judge : goal.returns-in-Short-judge
returns-in-Short-judge t c =
    short_behind c.split_at.result.1.now c.in-Whole.size c.split_at-2.result.1.now c.args.fields.now _ c.args.bytes.now c.in-Short-judge.need
    (eqb-false (length c.args.fields.now) 0 (sym c.if-is_empty.ensures)) c.split_at.ensures.back c.split_at-2.ensures.back c.in-Whole.ensures c.in-Short-judge.ensures

pub returns-in-Wrong-judge : goal.returns-in-Wrong-judge
returns-in-Wrong-judge t c =
    wrong_behind c.split_at.result.1.now c.in-Whole.size c.split_at-2.result.1.now c.args.fields.now _ c.args.bytes.now
    (eqb-false (length c.args.fields.now) 0 (sym c.if-is_empty.ensures)) c.split_at.ensures.back c.split_at-2.ensures.back c.in-Whole.ensures c.in-Wrong-judge.ensures
