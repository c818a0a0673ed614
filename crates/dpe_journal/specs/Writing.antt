-- What a call gave of a text to a sink that tells its bytes.
use Rattle.std.specs.Prelude.{ℕ, ◌+◌, ◌≤◌, ◌≡◌, List, ◌++◌, length, take, Option, Result, IfErr}
use Rattle.std.specs.Io.KnownBytes.{Appends}
use Rattle.dpe_journal.specs.declared.write.SinkFault.{SinkFault}

-- exactly the first bytes of the text were written, as many as the fault tells
abbrev pub WritesFront : {T : Type 0} → Option (List ℕ) → Option (List ℕ) → List ℕ → Result T SinkFault → Type 0
WritesFront old new text result =
    IfErr result (λ fault. (fault.written ≤ length text) × Appends old new (take fault.written text))

-- the same of a text behind so many bytes, which the fault counts too
abbrev pub WritesFrontBehind : {T : Type 0} → ℕ → Option (List ℕ) → Option (List ℕ) → List ℕ → Result T SinkFault → Type 0
WritesFrontBehind before old new text result =
    IfErr result (λ fault. (count : ℕ) × (fault.written ≡ before + count) × (count ≤ length text) × Appends old new (take count text))

-- the text but for a rest was written, and the count of bytes written went from one number to the other
pub record Sends (old new : Option (List ℕ)) (text rest : List ℕ) (before written : ℕ) : Type 0 where
  pub sent : List ℕ
  pub given : Appends old new sent
  pub parts : text ≡ sent ++ rest
  pub count : written ≡ before + length sent
