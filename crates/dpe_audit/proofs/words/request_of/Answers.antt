use Rattle.std.proofs.Common.{codes, sym}
use Rattle.clap.specs.Words.{found_of, rows_of}
use Rattle.dpe_audit.proofs.Parsing.{none_asked, unnamed}
use Rattle.dpe_audit.proofs.words.request_of.Goals as goal

pub returns-clause-none : goal.returns-clause-none
returns-clause-none c =
    let name = c.in-Some.name.now in
    none_asked c.args.matches.now name (rows_of (found_of c.in-Some.matches.now)) (sym c.in-Some.ensures.name) (sym c.in-Some.ensures.rows) c.connection_of.result
    (unnamed name (codes "check") c.if-eq.ensures) (unnamed name (codes "live") c.if-eq-2.ensures) (unnamed name (codes "list") c.if-eq-3.ensures) c.connection_of.ensures.none
