use Rattle.std.proofs.Common.{sym, subst, set, ◌∙◌}
use Rattle.dpe_vaults.specs.Kept.{Legal}
use Rattle.dpe_vaults.specs.Vaults.{AreHeld}
use Rattle.dpe_vaults.specs.Views.{VaultView}
use Rattle.dpe_vaults.proofs.Held.{Stepped, stepped}
use Rattle.dpe_vaults.proofs.vault.Vault.step.Goals as goal

pub invariant_of-self : goal.invariant_of-self
invariant_of-self c =
    let did : Stepped c.self.inside.stored.entries c.self.inside.tables.items c.args.caller c.args.call.now c.answer.new.reply c.from-locality.result c.answer.new.table =
    stepped c.self.inside.stored.entries c.self.inside.tables.items c.args.caller c.args.call.now c.answer.new.reply c.from-locality.result c.index_mut.result.now
    c.answer.new.table (c.from-locality.ensures ∙ c.locality.ensures.locality) c.locality.ensures.near c.self.invariant.legal c.self.invariant.held
    c.index_mut.ensures.value c.answer.ensures.rows c.answer.ensures.reply in record {
      legal = subst (λ (s : VaultView). Legal s.entries) (sym c.append.ensures) did.legal;
      held =
          subst (λ (s : VaultView). AreHeld s.entries (set c.self.inside.tables.items c.from-locality.result c.answer.new.table)) (sym c.append.ensures) did.held;
    }

pub returns-clause-legal : goal.returns-clause-legal
returns-clause-legal c =
    let did : Stepped c.self.inside.stored.entries c.self.inside.tables.items c.args.caller c.args.call.now c.answer.new.reply c.from-locality.result c.answer.new.table =
    stepped c.self.inside.stored.entries c.self.inside.tables.items c.args.caller c.args.call.now c.answer.new.reply c.from-locality.result c.index_mut.result.now
    c.answer.new.table (c.from-locality.ensures ∙ c.locality.ensures.locality) c.locality.ensures.near c.self.invariant.legal c.self.invariant.held
    c.index_mut.ensures.value c.answer.ensures.rows c.answer.ensures.reply in
    subst (λ (s : VaultView). Legal s.entries) (sym c.append.ensures) did.legal
