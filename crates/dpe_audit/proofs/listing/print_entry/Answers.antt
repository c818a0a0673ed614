use Rattle.std.proofs.Common.{sym, subst}
use Rattle.std.specs.Prelude.{OnOk, OnErr}
use Rattle.std.specs.Io.KnownBytes.{Appends}
use Rattle.dpe_text.specs.Writing.{AppendsFront}
use Rattle.dpe_journal.specs.Stored.{entry_of}
use Rattle.dpe_audit.specs.Listing.{mode_of}
use Rattle.dpe_audit.specs.Printed.{entry_line}
use Rattle.dpe_audit.specs.declared.listing.Choice.{Choice}
use Rattle.dpe_audit.proofs.listing.print_entry.Goals as goal

pub returns-in-All-clause-front : goal.returns-in-All-clause-front
returns-in-All-clause-front g c =
    subst (λ (choice : Choice). OnErr c.print_record.result (AppendsFront (g.O.Sink.bytes c.args.out.now) (g.O.Sink.bytes c.print_record.new.out) (entry_line (mode_of choice) c.args.number (entry_of c.args.entry.now))))
    (sym c.in-All.is) c.print_record.ensures.front

pub returns-in-Connection-clause-ok : goal.returns-in-Connection-clause-ok
returns-in-Connection-clause-ok g c =
    subst (λ (choice : Choice). OnOk c.print_reply_of.result (Appends (g.O.Sink.bytes c.args.out.now) (g.O.Sink.bytes c.print_reply_of.new.out) (entry_line (mode_of choice) c.args.number (entry_of c.args.entry.now))))
    (sym c.in-Connection.is) (c.print_reply_of.ensures.ok c.args.number)

pub returns-in-Connection-clause-front : goal.returns-in-Connection-clause-front
returns-in-Connection-clause-front g c =
    subst (λ (choice : Choice). OnErr c.print_reply_of.result (AppendsFront (g.O.Sink.bytes c.args.out.now) (g.O.Sink.bytes c.print_reply_of.new.out) (entry_line (mode_of choice) c.args.number (entry_of c.args.entry.now))))
    (sym c.in-Connection.is) (c.print_reply_of.ensures.front c.args.number)
