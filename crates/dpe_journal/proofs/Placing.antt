-- Where a reader stands after a part.
use Rattle.std.proofs.Common.{◌≡◌, ℕ, ◌+◌, ◌<◌, ◌≤◌, refl, arith}
use Rattle.dpe_model.specs.History.{Entry}
use Rattle.dpe_journal.specs.Stages.{header, entry, closing, behind, MayStand}
use Rattle.dpe_journal.specs.Places.{stage_of, IsPlace}
use Rattle.dpe_journal.specs.Reading.{stage_behind}
use Rattle.dpe_journal.specs.declared.records.Expected.{Expected}
use Rattle.dpe_journal.specs.declared.records.Expected.TheVariants.{Header, Part, Nothing}
use Rattle.dpe_journal.specs.declared.records.Next.TheVariants as nexts

module _ (at records : ℕ) where
  pub place_header : (e : Expected) (first : ℕ) → IsPlace (record { at = at; expected = e; records = records }) → MayStand (stage_of e records) (header first)
      → IsPlace (record { at = at + 13; expected = Part; records = 0 })
  place_header Header first i right = record {
    few = omega arith;
    near = let z = i.front refl in omega (arith, z.0);
    front = λ h. let no : ⊥ = cc in absurd no;
    open_end = λ h. let z = i.front refl in omega (arith, z.0);
  }
  place_header Part first i right = absurd right
  place_header Nothing first i right = absurd right

  pub place_entry : (e : Expected) (x : Entry) (size : ℕ) → IsPlace (record { at = at; expected = e; records = records }) → MayStand (stage_of e records) (entry x) → size ≤ 8242
      → IsPlace (record { at = at + size; expected = Part; records = records + 1 })
  place_entry Header x size i right few = absurd right
  place_entry Part x size i right few = record {
    few = let h = right.0 in omega arith;
    near = let h = i.open_end refl in omega arith;
    front = λ h. let no : ⊥ = cc in absurd no;
    open_end = λ p. let h = i.open_end refl in omega arith;
  }
  place_entry Nothing x size i right few = absurd right

  pub place_end : (e : Expected) (count : ℕ) → IsPlace (record { at = at; expected = e; records = records }) → MayStand (stage_of e records) (closing count)
      → IsPlace (record { at = at + 9; expected = Nothing; records = records })
  place_end Header count i right = absurd right
  place_end Part count i right = record {
    few = i.few;
    near = let h = i.open_end refl in omega arith;
    front = λ h. let no : ⊥ = cc in absurd no;
    open_end = λ h. let no : ⊥ = cc in absurd no;
  }
  place_end Nothing count i right = absurd right

-- a record stands behind fewer than the most, and the next part behind one more
pub few_before : (records : ℕ) (e : Expected) (x : Entry) → MayStand (stage_of e records) (entry x) → records < 65536
few_before records Header x right = absurd right
few_before records Part x right = right.0
few_before records Nothing x right = absurd right

pub stage_entry : (records : ℕ) (e : Expected) (x : Entry) → MayStand (stage_of e records) (entry x) → behind (records + 1) ≡ stage_behind (stage_of e records) nexts.Entry
stage_entry records Header x right = absurd right
stage_entry records Part x right = refl
stage_entry records Nothing x right = absurd right
