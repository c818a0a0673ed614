-- From what stands at each outcome to what stands at each status, and what may have brought it.
use Rattle.std.proofs.Common.{◌≡◌, ◌≢◌, ℕ, ◌⊎◌, inl, inr, List, [], length, Option, refl, ap, arith}
use Rattle.dpe_io.specs.Causes.{Rose}
use Rattle.dpe_serve.specs.Headline.{HouseView, Tells, ForSeed, ServesOneHistory, ServesUnprinted, FailsToServe, FailsToWrite, NothingOpened, Headline, Stands}
use Rattle.dpe_serve.specs.Outcomes.{status_at, Ends, Prints}
use Rattle.dpe_serve.specs.Seeds.{HasNoSeed, HasWrongSize}
use Rattle.dpe_serve.specs.Setting.{Setting, Spell, SpellNone}
use Rattle.dpe_serve.specs.StatusCauses.{IsStatus, RoseIn, KeptIn, AnyRose, AllKept, StatusCause, AllBack, NextSeed, Completes}
use Rattle.dpe_serve.specs.declared.serve.Outcome.{Outcome}
use Rattle.dpe_serve.specs.declared.serve.Outcome.TheVariants as outcomes
use Rattle.dpe_serve.proofs.Rising.{seed_kept, seed_rose, no_seed_out, size_is, size_is_not, doors_kept, whole_kept, service_rose, journal_rose, whole_back, unserved_back, unwritten_back, nothing_back}

pub is_status : (o : Outcome) → IsStatus (status_at o)
is_status outcomes.Done = (0, omega arith, refl)
is_status outcomes.NoMemory = (2, omega arith, refl)
is_status outcomes.UnreadSeed = (3, omega arith, refl)
is_status outcomes.NoService = (4, omega arith, refl)
is_status outcomes.NoJournal = (5, omega arith, refl)
is_status outcomes.NoOutput = (6, omega arith, refl)
is_status outcomes.WrongSeed = (7, omega arith, refl)

pub not_two : (o : Outcome) → status_at o ≢ 2
not_two outcomes.Done is = omega (arith, is)
not_two outcome is = omega (arith, is)

-- ## The output

module _ {O : Type 0} (faults : O → ℕ) (old new : O) where
  out_rose : (o : Outcome) → Prints faults o old new → status_at o ≡ 7 → Rose (faults old) (faults new)
  out_rose outcomes.NoOutput p is = p
  out_rose outcome p is = absurd (omega (arith, is))

  out_kept : (o : Outcome) → Prints faults o old new → status_at o ≢ 7 → faults new ≡ faults old
  out_kept outcomes.Done p is_not = p
  out_kept outcomes.NoOutput p is_not = absurd (is_not refl)
  out_kept outcome p is_not = ap faults p

  pub out_silent : (o : Outcome) → Prints faults o old new → status_at o ≢ 0 → status_at o ≢ 7 → new ≡ old
  out_silent outcomes.Done p not_done not_cut = absurd (not_done refl)
  out_silent outcomes.NoOutput p not_done not_cut = absurd (not_cut refl)
  out_silent outcome p not_done not_cut = p

module _ {S D J E C : Type 0} (tells : Tells S D J E C) (s : Setting) (old new : Option (List ℕ)) (before after : HouseView S D J E) where
  -- ## What stands

  headline_of : (o : Outcome) → Ends tells s old new before after o → status_at o ≡ 0 → ForSeed tells before after (λ seed. ServesOneHistory tells s seed old new before.service after.service)
  headline_of outcomes.Done e is = e
  headline_of outcome e is = absurd (omega (arith, is))

  unprinted_of : (o : Outcome) → Ends tells s old new before after o → status_at o ≡ 7 → ForSeed tells before after (λ seed. ServesUnprinted tells s seed old new before.service after.service)
  unprinted_of outcomes.NoOutput e is = e
  unprinted_of outcome e is = absurd (omega (arith, is))

  unserved_of : (o : Outcome) → Ends tells s old new before after o → status_at o ≡ 5 → ForSeed tells before after (λ seed. FailsToServe tells s seed before.service after.service)
  unserved_of outcomes.NoService e is = e
  unserved_of outcome e is = absurd (omega (arith, is))

  unwritten_of : (o : Outcome) → Ends tells s old new before after o → status_at o ≡ 6 → ForSeed tells before after (λ seed. FailsToWrite tells s seed before.service after.service)
  unwritten_of outcomes.NoJournal e is = e
  unwritten_of outcome e is = absurd (omega (arith, is))

  no_memory_of : (o : Outcome) → Ends tells s old new before after o → status_at o ≡ 3 → ForSeed tells before after (λ seed. NothingOpened before.service after.service)
  no_memory_of outcomes.NoMemory e is = e
  no_memory_of outcome e is = absurd (omega (arith, is))

  unread_of : (o : Outcome) → Ends tells s old new before after o → status_at o ≡ 4 → HasNoSeed tells.left tells.read_faults before.seeds after.seeds × NothingOpened before.service after.service
  unread_of outcomes.UnreadSeed e is = e
  unread_of outcome e is = absurd (omega (arith, is))

  wrong_seed_of : (o : Outcome) → Ends tells s old new before after o → status_at o ≡ 8 → HasWrongSize tells.left tells.read_faults before.seeds after.seeds × NothingOpened before.service after.service
  wrong_seed_of outcomes.WrongSeed e is = e
  wrong_seed_of outcome e is = absurd (omega (arith, is))

  pub stands : (words : List (List ℕ)) (o : Outcome) → Spell words s → Ends tells s old new before after o → Stands tells words (status_at o) old new before after
  stands words o spell e = record {
    unprinted = λ is. (s, spell, unprinted_of o e is);
    unserved = λ is. (s, spell, unserved_of o e is);
    unwritten = λ is. (s, spell, unwritten_of o e is);
    no_memory = λ is. (s, spell, no_memory_of o e is);
    unread = λ is. (s, spell, unread_of o e is);
    wrong_seed = λ is. (s, spell, wrong_seed_of o e is);
  }

  pub headline : (words : List (List ℕ)) (o : Outcome) → Spell words s → Ends tells s old new before after o → status_at o ≡ 0 → Headline tells words old new before after
  headline words o spell e is = (s, spell, headline_of o e is)

  -- ## What rose

  seed_part : (P : List ℕ → Type 0) → ForSeed tells before after P → KeptIn before.seeds after.seeds
  seed_part P (seed, read, p) = seed_kept tells.left tells.read_faults before.seeds after.seeds seed read

  done_kept : (o : Outcome) → Ends tells s old new before after o → (status_at o ≡ 0) ⊎ (status_at o ≡ 7) → AllKept before after
  done_kept outcomes.Done (seed, read, e) is = (
    seed_kept tells.left tells.read_faults before.seeds after.seeds seed read,
    doors_kept tells s seed before.service after.service _ e.run e.whole,
    whole_kept tells s seed before.service after.service _ e.run.journal,
    e.run.served.are_gates.lent_entropies.failed,
  )
  done_kept outcomes.NoOutput (seed, read, e) is = (
    seed_kept tells.left tells.read_faults before.seeds after.seeds seed read,
    doors_kept tells s seed before.service after.service _ e.run e.whole,
    whole_kept tells s seed before.service after.service _ e.run.journal,
    e.run.served.are_gates.lent_entropies.failed,
  )
  done_kept outcome e (inl is) = absurd (omega (arith, is))
  done_kept outcome e (inr is) = absurd (omega (arith, is))

  seed_cause : (o : Outcome) → Ends tells s old new before after o → status_at o ≡ 4 → RoseIn before.seeds after.seeds
  seed_cause outcomes.UnreadSeed e is = seed_rose tells.left tells.read_faults before.seeds after.seeds e.0
  seed_cause outcome e is = absurd (omega (arith, is))

  door_cause : (o : Outcome) → Ends tells s old new before after o → status_at o ≡ 5 → Rose before.service.entropies.failed after.service.entropies.failed ⊎ RoseIn before.service.doors after.service.doors
  door_cause outcomes.NoService e is = service_rose tells s e.0 before.service after.service e.2
  door_cause outcome e is = absurd (omega (arith, is))

  journal_cause : (o : Outcome) → Ends tells s old new before after o → status_at o ≡ 6 → RoseIn before.service.journals after.service.journals
  journal_cause outcomes.NoJournal e is = journal_rose tells s e.0 before.service after.service e.2
  journal_cause outcome e is = absurd (omega (arith, is))

  pub cause : {O : Type 0} (faults : O → ℕ) (x y : O) (o : Outcome) → Ends tells s old new before after o → Prints faults o x y → StatusCause (status_at o) before after (faults x) (faults y)
  cause faults x y o e p = record {
    seed = λ is. seed_cause o e is;
    door = λ is. door_cause o e is;
    journal = λ is. journal_cause o e is;
    output = λ is. out_rose faults x y o p is;
    output_kept = λ is_not. out_kept faults x y o p is_not;
    kept = λ is. done_kept o e is;
  }

  -- ## What is out

  all_back : after.seeds.out ≡ before.seeds.out → (after.service.doors.out ≡ before.service.doors.out) × (after.service.journals.out ≡ before.service.journals.out) × (after.service.entropies.out ≡ before.service.entropies.out) → AllBack before after
  all_back seeds others = record { seeds = seeds; doors = others.0; journals = others.1; entropies = others.2 }

  pub back : (o : Outcome) → Ends tells s old new before after o → AllBack before after
  back outcomes.Done (seed, read, e) = all_back read.lends.lends.out (whole_back tells s seed before.service after.service e.run)
  back outcomes.NoOutput (seed, read, e) = all_back read.lends.lends.out (whole_back tells s seed before.service after.service e.run)
  back outcomes.NoService (seed, read, e) = all_back read.lends.lends.out (unserved_back tells s seed before.service after.service e)
  back outcomes.NoJournal (seed, read, e) = all_back read.lends.lends.out (unwritten_back tells s seed before.service after.service e)
  back outcomes.NoMemory (seed, read, e) = all_back read.lends.lends.out (nothing_back tells s seed before.service after.service e)
  back outcomes.UnreadSeed e =
      all_back (no_seed_out tells.left tells.read_faults before.seeds after.seeds e.0) (nothing_back tells s [] before.service after.service e.1)
  back outcomes.WrongSeed e = all_back e.0.lends.lends.out (nothing_back tells s [] before.service after.service e.1)

  -- ## What must come

  module _ {O : Type 0} (faults : O → ℕ) (x y : O) where
    complete : (seed : List ℕ) (o : Outcome) → Ends tells s old new before after o → Prints faults o x y → NextSeed tells.left before seed → length seed ≡ 32
        → ¬ AnyRose before after → ¬ Rose (faults x) (faults y) → (status_at o ≡ 0) ⊎ (status_at o ≡ 3)
    complete seed outcomes.Done e p next size none out_none = inl refl
    complete seed outcomes.NoMemory e p next size none out_none = inr refl
    complete seed outcomes.UnreadSeed e p next size none out_none = absurd (none (inl (seed_cause outcomes.UnreadSeed e refl)))
    complete seed outcomes.NoService e p next size none out_none =
        elim (door_cause outcomes.NoService e refl) [ inl rose ↦ absurd (none (inr (inr (inr rose)))) | inr rose ↦ absurd (none (inr (inl rose))) ]
    complete seed outcomes.NoJournal e p next size none out_none = absurd (none (inr (inr (inl (journal_cause outcomes.NoJournal e refl)))))
    complete seed outcomes.NoOutput e p next size none out_none = absurd (out_none p)
    complete seed outcomes.WrongSeed e p (first, later, is, told) size none out_none =
        absurd (size_is_not tells.left tells.read_faults before.seeds after.seeds seed first later e.0 is told size)

    not_its_size : (P : List ℕ → Type 0) (seed : List ℕ) → ForSeed tells before after P → NextSeed tells.left before seed → length seed ≡ 32
    not_its_size P seed (own, read, e) (first, later, is, told) = size_is tells.left tells.read_faults before.seeds after.seeds own seed first later read is told

    another : (seed : List ℕ) (o : Outcome) → Ends tells s old new before after o → NextSeed tells.left before seed → length seed ≢ 32
        → ¬ RoseIn before.seeds after.seeds → status_at o ≡ 8
    another seed outcomes.Done e next size none = absurd (size (not_its_size _ seed e next))
    another seed outcomes.NoMemory e next size none = absurd (size (not_its_size _ seed e next))
    another seed outcomes.UnreadSeed e next size none = absurd (none (seed_cause outcomes.UnreadSeed e refl))
    another seed outcomes.NoService e next size none = absurd (size (not_its_size _ seed e next))
    another seed outcomes.NoJournal e next size none = absurd (size (not_its_size _ seed e next))
    another seed outcomes.NoOutput e next size none = absurd (size (not_its_size _ seed e next))
    another seed outcomes.WrongSeed e next size none = refl

    pub completes : (words : List (List ℕ)) (o : Outcome) → Ends tells s old new before after o → Prints faults o x y
        → Completes tells.left words (status_at o) before after (faults x) (faults y)
    completes words o e p = record {
      served = λ t seed spell next size none out_none. complete seed o e p next size none out_none;
      wrong_seed = λ t seed spell next size none. another seed o e next size none;
    }

-- ## Where the words spell nothing

module _ {S D J E C : Type 0} (tells : Tells S D J E C) (words : List (List ℕ)) (old new : Option (List ℕ)) (view : HouseView S D J E) (out : ℕ) where
  pub stands_none : Stands tells words 2 old new view view
  stands_none = record {
    unprinted = λ is. absurd (omega (arith, is));
    unserved = λ is. absurd (omega (arith, is));
    unwritten = λ is. absurd (omega (arith, is));
    no_memory = λ is. absurd (omega (arith, is));
    unread = λ is. absurd (omega (arith, is));
    wrong_seed = λ is. absurd (omega (arith, is));
  }

  pub cause_none : StatusCause 2 view view out out
  cause_none = record {
    seed = λ is. absurd (omega (arith, is));
    door = λ is. absurd (omega (arith, is));
    journal = λ is. absurd (omega (arith, is));
    output = λ is. absurd (omega (arith, is));
    output_kept = λ is_not. refl;
    kept = λ is. ((refl, refl), (refl, refl), (refl, refl), refl);
  }

  pub completes_none : (left : S → Option (List ℕ)) → SpellNone words → Completes left words 2 view view out out
  completes_none left none = record {
    served = λ s seed spell next size kept out_kept. absurd (none s spell);
    wrong_seed = λ s seed spell next size kept. absurd (none s spell);
  }
