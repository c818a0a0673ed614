use Rattle.std.proofs.Common.{◌≡◌, List, ℕ, [], ◌∷◌, get_or, subst, sym, ap, ◌∙◌}
use Rattle.std.specs.Int.{to_be_bytes, w64}
use Rattle.dpe_journal.specs.Journal.{end_bytes}
use Rattle.dpe_journal.specs.Fields.{Words}
use Rattle.dpe_journal.specs.declared.fields.Field.TheVariants.{Exact}
use Rattle.dpe_journal.proofs.Parts.{all_told}
use Rattle.dpe_journal.proofs.records.end_fields.Goals as goal

pub returns : goal.returns
returns c =
    subst
    (λ (t : List ℕ). Words (λ b. b ≡ end_bytes c.args.records)
    (Exact 255 ∷ Exact (get_or t 0 0) ∷ Exact (get_or t 1 0) ∷ Exact (get_or t 2 0) ∷ Exact (get_or t 3 0) ∷ Exact (get_or t 4 0) ∷ Exact (get_or t 5 0) ∷ Exact (get_or t 6 0) ∷ Exact (get_or t 7 0) ∷ []))
    (sym (c.to_be_bytes-count.ensures ∙ ap (to_be_bytes w64) c.from.ensures)) (all_told (end_bytes c.args.records))
