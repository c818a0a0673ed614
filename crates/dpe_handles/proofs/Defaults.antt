-- The serials that are kept for the marked rows of the localities.
use Rattle.std.proofs.Common.{◌≡◌, ℕ, ◌<◌, true, false, List, [], ◌∷◌, ◌++◌, All, length, get_or, set, if◌then◌else◌, remove, sym, ◌∙◌, refl, arith}
use Rattle.std.proofs.lemmas.List.{get_or-set_same, get_or-set_other, length-set}
use Rattle.std.proofs.lemmas.List.Elements.{All-push}
use Rattle.std.proofs.lemmas.Option.{slice_get-get_or}
use Rattle.dpe_handles.specs.declared.row.Row.{Row}
use Rattle.dpe_handles.specs.Rows.{serial, locality_count, AreKept, HasNoDefault, with_default}
use Rattle.dpe_handles.proofs.Slots.{all_remove}

-- the serial of a marked row is the one that is kept for its locality
abbrev pub IsMarked : List ℕ → Row → Type 0
IsMarked defaults row = row.default ≡ true → serial row.handle ≡ get_or defaults row.locality 0

pub kept_made : (defaults : List ℕ) → length defaults ≡ locality_count → AreKept [] defaults
kept_made defaults many = record { localities = many; marks = λ k d within. absurd (omega arith) }

module _ (rows : List Row) (defaults : List ℕ) (kept : AreKept rows defaults) where
  pub kept_spent : (at : ℕ) → at < length rows → AreKept (remove rows at) defaults
  kept_spent at lt = record { localities = kept.localities; marks = all_remove (IsMarked defaults) rows at lt kept.marks }

  -- the marked rows are of other localities than the new one
  others_kept : (locality number : ℕ) → HasNoDefault rows locality → All (IsMarked (set defaults locality number)) rows
  others_kept locality number none k d within marked =
      let apart = none k (get_or rows k d) (slice_get-get_or rows k d within) marked in
      kept.marks k d within marked ∙ sym (get_or-set_other defaults locality (get_or rows k d).locality number 0 apart)

  pub kept_issued : (row : Row) (number : ℕ) → number ≡ serial row.handle → row.locality < locality_count → (row.default ≡ true → HasNoDefault rows row.locality)
      → AreKept (rows ++ row ∷ []) (with_default defaults row number)
  kept_issued row number is fits free =
      let many = kept.localities in
      let new = set defaults row.locality number in
      elim row.default as (λ b. row.default ≡ b → AreKept (rows ++ row ∷ []) (if b then new else defaults)) [
        | true ↦ (λ marked. record {
          localities = length-set defaults row.locality number ∙ many;
          marks = All-push (IsMarked new) rows row (others_kept row.locality number (free marked)) (λ _. sym (get_or-set_same defaults row.locality number 0 (omega arith) ∙ is));
        })
        | false ↦ (λ unmarked. record { localities = many; marks = All-push (IsMarked defaults) rows row kept.marks (λ marked. cc) })
      ] refl
