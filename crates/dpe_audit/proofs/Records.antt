-- One record more behind those that were read.
use Rattle.std.proofs.Common.{◌≡◌, ℕ, ◌+◌, ◌<◌, List, [], ◌∷◌, ◌++◌, length, Option, refl, sym, ap, subst, ◌∙◌, append_assoc, append-nil, flat_map, arith}
use Rattle.std.proofs.lemmas.List.{length-append}
use Rattle.std.specs.Io.KnownBytes.{Consumes}
use Rattle.std.proofs.KnownBytes.{Consumes-nil, Consumes-trans}
use Rattle.dpe_model.specs.History.{Entry, IsEntry}
use Rattle.dpe_model.proofs.Runs.{append_all}
use Rattle.dpe_journal.specs.Journal.{most_records, record_bytes}
use Rattle.dpe_journal.specs.Stages.{Stage, behind}
use Rattle.dpe_audit.specs.Taking.{HasRead}

pub records_more : (H : List Entry) (e : Entry) → flat_map record_bytes (H ++ e ∷ []) ≡ flat_map record_bytes H ++ record_bytes e
records_more [] e = append-nil (record_bytes e)
records_more (x ∷ H) e = ap (λ (t : List ℕ). record_bytes x ++ t) (records_more H e) ∙ sym (append_assoc (record_bytes x) (flat_map record_bytes H) (record_bytes e))

pub has_read_none : (old : Option (List ℕ)) (start : ℕ) (stage : Stage) → stage ≡ behind 0 → HasRead old old start start stage []
has_read_none old start stage is = record { each = tt; few = omega arith; read = Consumes-nil old; place = omega arith; stands = is }

pub has_read_more : (old left new : Option (List ℕ)) (start at place : ℕ) (stage now : Stage) (H : List Entry) (e : Entry) → HasRead old left start at stage H
    → length H < most_records → IsEntry e → Consumes left new (record_bytes e) → place ≡ at + length (record_bytes e) → now ≡ behind (length H + 1)
    → HasRead old new start place now (H ++ e ∷ [])
has_read_more old left new start at place stage now H e r few is taken long stands =
    let bytes = records_more H e in
    let count : length (H ++ e ∷ []) ≡ length H + 1 = length-append H (e ∷ []) in
    record {
      each = append_all IsEntry H (e ∷ []) r.each (is, tt);
      few = omega (arith, few, count);
      read = subst (λ (t : List ℕ). Consumes old new t) (sym bytes) (Consumes-trans old left new (flat_map record_bytes H) (record_bytes e) r.read taken);
      place = omega (arith, long, r.place, ap length bytes, length-append (flat_map record_bytes H) (record_bytes e));
      stands = stands ∙ ap behind (sym count);
    }

-- where the reader stands is told by the records
pub standing : (old now : Option (List ℕ)) (start at : ℕ) (stage : Stage) (H : List Entry) → HasRead old now start at stage H → HasRead old now start at (behind (length H)) H
standing old now start at stage H r = record { each = r.each; few = r.few; read = r.read; place = r.place; stands = refl }
