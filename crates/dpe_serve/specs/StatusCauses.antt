-- What is behind each status of the server.
use Rattle.std.specs.Prelude.{ℕ, ◌≡◌, ◌≢◌, ◌⊎◌, List, [], ◌∷◌, length, Contains, Option, Some}
use Rattle.dpe_io.specs.Causes.{Rose}
use Rattle.dpe_io.specs.Told.{Kind}
use Rattle.dpe_serve.specs.Headline.{HouseView}
use Rattle.dpe_serve.specs.Setting.{Setting, Spell}

abbrev pub IsStatus : ℕ → Type 0
IsStatus status = Contains (0 ∷ 2 ∷ 3 ∷ 4 ∷ 5 ∷ 6 ∷ 7 ∷ 8 ∷ []) status

module _ {T : Type 0} where
  -- an opening of the kind failed, or an object of it that was handed back has faults
  abbrev pub RoseIn : Kind T → Kind T → Type 0
  RoseIn old new = Rose old.failed new.failed ⊎ Rose old.faults new.faults

  abbrev pub KeptIn : Kind T → Kind T → Type 0
  KeptIn old new = (new.failed ≡ old.failed) × (new.faults ≡ old.faults)

module _ {S D J E : Type 0} where
  -- an opening failed, or a seed, a door or a journal that was handed back has faults
  abbrev pub AnyRose : HouseView S D J E → HouseView S D J E → Type 0
  AnyRose before after =
      RoseIn before.seeds after.seeds
      ⊎ RoseIn before.service.doors after.service.doors
      ⊎ RoseIn before.service.journals after.service.journals
      ⊎ Rose before.service.entropies.failed after.service.entropies.failed

  -- none of these did
  abbrev pub AllKept : HouseView S D J E → HouseView S D J E → Type 0
  AllKept before after =
      KeptIn before.seeds after.seeds
      × KeptIn before.service.doors after.service.doors
      × KeptIn before.service.journals after.service.journals
      × (after.service.entropies.failed ≡ before.service.entropies.failed)

  -- Which count rose behind each status, and which stayed.
  pub record StatusCause (status : ℕ) (before after : HouseView S D J E) (out_before out_after : ℕ) : Type 0 where
    pub seed : status ≡ 4 → RoseIn before.seeds after.seeds
    pub door :
        status ≡ 5
        → Rose before.service.entropies.failed after.service.entropies.failed
        ⊎ RoseIn before.service.doors after.service.doors
    pub journal : status ≡ 6 → RoseIn before.service.journals after.service.journals
    pub output : status ≡ 7 → Rose out_before out_after
    pub output_kept : status ≢ 7 → out_after ≡ out_before
    pub kept : (status ≡ 0) ⊎ (status ≡ 7) → AllKept before after

  -- as many objects of each kind are out as before
  pub record AllBack (before after : HouseView S D J E) : Type 0 where
    pub seeds : after.seeds.out ≡ before.seeds.out
    pub doors : after.service.doors.out ≡ before.service.doors.out
    pub journals : after.service.journals.out ≡ before.service.journals.out
    pub entropies : after.service.entropies.out ≡ before.service.entropies.out

  -- the next seed tells these bytes
  abbrev pub NextSeed : (S → Option (List ℕ)) → HouseView S D J E → List ℕ → Type 0
  NextSeed left house seed =
      (first : S) × (later : List S) × (house.seeds.unopened ≡ Some (first ∷ later)) × (left first ≡ Some seed)

  module _ (left : S → Option (List ℕ)) (words : List (List ℕ)) (status : ℕ) where
    -- Words of the form, a seed of 32 bytes and no count that rose: the status is 0 or 3. Another seed: it is 8.
    pub record Completes (before after : HouseView S D J E) (out_before out_after : ℕ) : Type 0 where
      pub served :
          (s : Setting) (seed : List ℕ) → Spell words s → NextSeed left before seed → length seed ≡ 32 →
          ¬ AnyRose before after → ¬ Rose out_before out_after → (status ≡ 0) ⊎ (status ≡ 3)
      pub wrong_seed :
          (s : Setting) (seed : List ℕ) → Spell words s → NextSeed left before seed → length seed ≢ 32 →
          ¬ RoseIn before.seeds after.seeds → status ≡ 8
