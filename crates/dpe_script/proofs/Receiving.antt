-- A link that gave no frame.
use Rattle.std.proofs.Common.{◌≡◌, ◌<◌, ℕ, List, [], Option, inl, inr, refl, sym, subst}
use Rattle.std.specs.Io.KnownBytes.{Consumes, IsAtEnd}
use Rattle.dpe_io.specs.Told.{Told}
use Rattle.dpe_link.specs.Reading.{TakesNoFrame, FaultCause}
use Rattle.dpe_link.specs.declared.read.FrameFault.{FrameFault}
use Rattle.dpe_link.specs.declared.read.FrameFault.TheVariants.{Cut, TooLong, ReadFault}
use Rattle.dpe_grammar.specs.Acts.{Act}
use Rattle.dpe_script.specs.Run.{ended, too_long, HasNoFrame, CausedBy, cause_at}
use Rattle.dpe_script.specs.declared.run.Cause.{Cause}
use Rattle.dpe_script.specs.declared.run.Cause.TheVariants.{Reply}

module _ (act : Act) (old new : Told) where
  fault_taken : (fault : FrameFault) → TakesNoFrame old.left new.left fault → HasNoFrame act (cause_at fault) old new
  fault_taken (Cut have) (part, read, unfinished, len, at_end) = (part, ended (inr unfinished) at_end, read)
  fault_taken (TooLong told) (head, read, four, is, much) = (head, too_long four (subst (λ (n : ℕ). 4096 < n) (sym is) much), read)
  fault_taken ReadFault (part, read, none) = (part, none, read)

  -- the answer of a read that gave no frame
  pub no_frame : (fault : FrameFault) (cause : Cause) (a b : Option (List ℕ)) → old.left ≡ a → new.left ≡ b → cause ≡ cause_at fault → TakesNoFrame a b fault
      → HasNoFrame act cause old new
  no_frame fault cause a b before after is taken =
      let told : TakesNoFrame old.left new.left fault =
      subst (λ (x : Option (List ℕ)). TakesNoFrame x new.left fault) (sym before) (subst (λ (y : Option (List ℕ)). TakesNoFrame a y fault) (sym after) taken)
      in
      subst (λ (c : Cause). HasNoFrame act c old new) (sym is) (fault_taken fault told)

  pub none_left : Consumes old.left new.left [] → IsAtEnd new.left → HasNoFrame act Reply old new
  none_left read at_end = ([], ended (inl refl) at_end, read)

module _ (old new : Told) (kept : new.write_faults ≡ old.write_faults) where
  fault_caused : (fault : FrameFault) → FaultCause old.read_faults new.read_faults fault → CausedBy (cause_at fault) old new 0 0
  fault_caused (Cut have) same = ((same, kept), refl)
  fault_caused (TooLong told) same = ((same, kept), refl)
  fault_caused ReadFault rose = (inl rose, refl)

  pub read_caused : (fault : FrameFault) (cause : Cause) (a b : ℕ) → old.read_faults ≡ a → new.read_faults ≡ b → cause ≡ cause_at fault → FaultCause a b fault
      → CausedBy cause old new 0 0
  read_caused fault cause a b before after is caused =
      let told : FaultCause old.read_faults new.read_faults fault =
      subst (λ (x : ℕ). FaultCause x new.read_faults fault) (sym before) (subst (λ (y : ℕ). FaultCause a y fault) (sym after) caused)
      in
      subst (λ (c : Cause). CausedBy c old new 0 0) (sym is) (fault_caused fault told)
