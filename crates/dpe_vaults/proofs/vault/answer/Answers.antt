use Rattle.std.proofs.Common.{◌≡◌, ℕ, List, Bool, cond, is_some, refl, ap, sym, ◌∙◌}
use Rattle.dpe_vaults.specs.declared.call.Op.TheVariants.{Put, Get, Remove, Names}
use Rattle.dpe_vaults.specs.Kept.{box_or_none}
use Rattle.dpe_vaults.specs.Named.{found}
use Rattle.dpe_vaults.specs.Tables.{box_at, boxed}
use Rattle.dpe_vaults.proofs.Boxed.{replied_by, names_image}
use Rattle.dpe_vaults.proofs.vault.answer.Goals as goal

pub returns-in-Put-clause-reply : goal.returns-in-Put-clause-reply
returns-in-Put-clause-reply c =
    replied_by c.args.stored.now.entries c.args.table.now c.args.call.now Put c.put_box-reply.result c.truncate.new.self (sym c.in-Put.is ∙ c.op.ensures)
    c.put_box-reply.ensures.code c.truncate.ensures

pub returns-in-Get-clause-reply : goal.returns-in-Get-clause-reply
returns-in-Get-clause-reply c =
    replied_by c.args.stored.now.entries c.args.table.now c.args.call.now Get c.give_box-reply.result c.give_box-reply.new.out (sym c.in-Get.is ∙ c.op.ensures)
    (c.give_box-reply.ensures.code ∙ ap (λ (n : List ℕ). cond (is_some (found c.args.table.now n)) 0 30) c.name-name.ensures.name)
    (c.give_box-reply.ensures.sealed ∙ ap (λ (n : List ℕ). box_or_none (found (boxed c.args.stored.now.entries c.args.table.now) n)) c.name-name.ensures.name)

pub returns-in-Remove-clause-reply : goal.returns-in-Remove-clause-reply
returns-in-Remove-clause-reply c =
    replied_by c.args.stored.now.entries c.args.table.now c.args.call.now Remove c.take_out-reply.result c.truncate.new.self (sym c.in-Remove.is ∙ c.op.ensures)
    (c.take_out-reply.ensures.code ∙ ap (λ (n : List ℕ). cond (is_some (found c.args.table.now n)) 0 30) c.name-name.ensures.name) c.truncate.ensures

pub returns-in-Names-clause-reply : goal.returns-in-Names-clause-reply
returns-in-Names-clause-reply c =
    replied_by c.args.stored.now.entries c.args.table.now c.args.call.now Names 0 c.names.new.out (sym c.in-Names.is ∙ c.op.ensures) refl
    (c.names.ensures ∙ sym (names_image (box_at c.args.stored.now.entries) c.args.table.now))
