-- Which counts rose and which stayed, behind what stands at an outcome.
use Rattle.std.proofs.Common.{◌≡◌, ◌≢◌, ℕ, ◌<◌, ◌⊎◌, inl, inr, Bool, true, false, ◌||◌, List, [], ◌∷◌, ◌++◌, length, map, Option, Some, None, refl, ap, subst, ◌∙◌, arith}
use Rattle.std.specs.Bool.{OnTrue, OnFalse}
use Rattle.std.specs.List.{AllByRecursion}
use Rattle.dpe_io.specs.Causes.{Rose}
use Rattle.dpe_io.specs.Told.{Kind, IfTold}
use Rattle.dpe_model.specs.History.{Entry}
use Rattle.dpe_serve.specs.Gates.{Gate, IsServed}
use Rattle.dpe_serve.specs.Headline.{ServiceView, Tells, Serves, Unopened, WritesWhole, WritesPart}
use Rattle.dpe_serve.specs.Headline.{IsOpened, any_failed, door_faults, FailsToServe, FailsToWrite, NothingOpened}
use Rattle.dpe_serve.specs.Lending.{HaveNoFault, HaveFault, LendsOne}
use Rattle.dpe_serve.specs.Seeds.{HasSeed, HasNoSeed, HasWrongSize}
use Rattle.dpe_serve.specs.Setting.{Setting}
use Rattle.dpe_serve.specs.StatusCauses.{RoseIn, KeptIn}
use Rattle.dpe_serve.proofs.Lendings.{opens_none_out}

rose_some : (n : ℕ) → Rose 0 n → 0 < n
rose_some n h = omega (arith, h)

either_false : (a b : Bool) → a || b ≡ false → (a ≡ false) × (b ≡ false)
either_false true b h = cc
either_false false b h = (refl, h)

either_true : (a b : Bool) → a || b ≡ true → (a ≡ true) ⊎ (b ≡ true)
either_true true b h = inl refl
either_true false b h = inr h

-- ## Counts of one kind

module _ {T : Type 0} (faults : T → ℕ) (old new : Kind T) where
  one_kept : (x y : T) → LendsOne faults old x y new → faults y ≡ 0 → KeptIn old new
  one_kept x y l none = (l.failed, l.lends.faultless (none, tt))

  one_rose : (x y : T) → LendsOne faults old x y new → Rose 0 (faults y) → RoseIn old new
  one_rose x y l rose = inr (l.lends.faulty (inl (rose_some (faults y) rose)))

-- ## The seed

module _ {S : Type 0} (left : S → Option (List ℕ)) (faults : S → ℕ) (old new : Kind S) where
  pub seed_kept : (seed : List ℕ) → HasSeed left faults old new seed → KeptIn old new
  seed_kept seed h = one_kept faults old new h.source h.after h.lends h.kept

  pub seed_rose : HasNoSeed left faults old new → RoseIn old new
  seed_rose (inl none) = inl none.rose
  seed_rose (inr u) = one_rose faults old new u.source u.after u.lends u.rose

  pub no_seed_out : HasNoSeed left faults old new → new.out ≡ old.out
  no_seed_out (inl none) = opens_none_out old new none
  no_seed_out (inr u) = u.lends.lends.out

  -- the source that was opened is the next one
  told_first : (told : Option (List S)) (source first : S) (later : List S) → IfTold (λ xs ys. xs ≡ (source ∷ []) ++ ys) old.unopened told → old.unopened ≡ Some (first ∷ later) → source ≡ first
  told_first told source first later next is = first_of told (subst (λ (o : Option (List S)). IfTold (λ xs ys. xs ≡ (source ∷ []) ++ ys) o told) is next)
    where
      first_of : (t : Option (List S)) → IfTold (λ xs ys. xs ≡ (source ∷ []) ++ ys) (Some (first ∷ later)) t → source ≡ first
      first_of None h = absurd h
      first_of (Some ys) h = cc

  pub size_is : (seed bytes : List ℕ) (first : S) (later : List S) → HasSeed left faults old new seed → old.unopened ≡ Some (first ∷ later) → left first ≡ Some bytes → length bytes ≡ 32
  size_is seed bytes first later h is told =
      let same = told_first new.unopened h.source first later h.lends.lends.next is in
      ap length (h.bytes bytes (ap left same ∙ told)) ∙ h.size

  pub size_is_not : (bytes : List ℕ) (first : S) (later : List S) → HasWrongSize left faults old new → old.unopened ≡ Some (first ∷ later) → left first ≡ Some bytes → length bytes ≢ 32
  size_is_not bytes first later h is told =
      let same = told_first new.unopened h.source first later h.lends.lends.next is in
      h.size bytes (ap left same ∙ told)

module _ {S D J E C : Type 0} (tells : Tells S D J E C) where
  -- ## Doors

  gates_kept : (capacity each : ℕ) (H : List Entry) (gates : List (Gate D E)) → AllByRecursion (λ g. IsOpened tells g.opened g.drawn_from) gates
      → AllByRecursion (IsServed tells.conn tells.entrance tells.random capacity each H) gates → any_failed tells gates ≡ false → HaveNoFault (door_faults tells) (map (λ g. g.closed) gates)
  gates_kept capacity each H [] fresh served none = tt
  gates_kept capacity each H (g ∷ gs) fresh served none =
      let both = either_false g.tally.door_failed (any_failed tells gs) none in
      let kept : (tells.entrance g.closed).faults ≡ (tells.entrance g.opened).faults =
      subst (λ (b : Bool). OnFalse b ((tells.entrance g.closed).faults ≡ (tells.entrance g.opened).faults)) both.0 served.0.up_to.door_kept in
      (kept ∙ fresh.0.door_kept, gates_kept capacity each H gs fresh.1 served.1 both.1)

  gates_failed : (capacity each : ℕ) (H : List Entry) (gates : List (Gate D E)) → AllByRecursion (λ g. IsOpened tells g.opened g.drawn_from) gates
      → AllByRecursion (IsServed tells.conn tells.entrance tells.random capacity each H) gates → any_failed tells gates ≡ true → HaveFault (door_faults tells) (map (λ g. g.closed) gates)
  gates_failed capacity each H [] fresh served some = cc
  gates_failed capacity each H (g ∷ gs) fresh served some =
      elim (either_true g.tally.door_failed (any_failed tells gs) some) [
        | inl failed ↦
            let rose : Rose (tells.entrance g.opened).faults (tells.entrance g.closed).faults =
            subst (λ (b : Bool). OnTrue b (Rose (tells.entrance g.opened).faults (tells.entrance g.closed).faults)) failed served.0.up_to.door_failed in
            inl (rose_some (door_faults tells g.closed) (subst (λ (n : ℕ). Rose n (tells.entrance g.closed).faults) fresh.0.door_kept rose))
        | inr later ↦ inr (gates_failed capacity each H gs fresh.1 served.1 later)
      ]

  module _ (s : Setting) (seed : List ℕ) (before after : ServiceView D J E) where
    pub doors_kept : (Writes : List ℕ → Kind J → Kind J → Type 0) (r : Serves tells Writes s seed before after) → any_failed tells r.served.gates ≡ false → KeptIn before.doors after.doors
    doors_kept Writes r none =
        let a = r.served.are_gates in
        (a.lent_doors.failed, a.lent_doors.lends.faultless (gates_kept s.entries s.each r.H r.served.gates a.fresh r.served.history.served none))

    doors_rose : (Writes : List ℕ → Kind J → Kind J → Type 0) (r : Serves tells Writes s seed before after) → any_failed tells r.served.gates ≡ true → RoseIn before.doors after.doors
    doors_rose Writes r some =
        let a = r.served.are_gates in
        inr (a.lent_doors.lends.faulty (gates_failed s.entries s.each r.H r.served.gates a.fresh r.served.history.served some))

    pub whole_kept : (text : List ℕ) → WritesWhole tells text before.journals after.journals → KeptIn before.journals after.journals
    whole_kept text w = one_kept tells.write_faults before.journals after.journals w.opened w.after w.lends w.kept

    part_rose : (text : List ℕ) → WritesPart tells text before.journals after.journals → RoseIn before.journals after.journals
    part_rose text w = one_rose tells.write_faults before.journals after.journals w.opened w.after w.lends w.rose

    none_rose : Unopened tells s before.doors after.doors before.entropies after.entropies → Rose before.entropies.failed after.entropies.failed ⊎ RoseIn before.doors after.doors
    none_rose (inl e) = inl e.lent_entropies.rose
    none_rose (inr d) = inr (inl d.lent_doors.rose)

    pub service_rose : FailsToServe tells s seed before after → Rose before.entropies.failed after.entropies.failed ⊎ RoseIn before.doors after.doors
    service_rose (inl p) = inr (doors_rose (WritesWhole tells) p.run p.failed)
    service_rose (inr n) = none_rose n.unopened

    pub journal_rose : FailsToWrite tells s seed before after → RoseIn before.journals after.journals
    journal_rose (inl r) = part_rose _ r.journal
    journal_rose (inr (inl n)) = part_rose _ n.journal
    journal_rose (inr (inr u)) = inl u.journal.rose

    -- ## As many out as before

    abbrev pub IsBack : Type 0
    IsBack = (after.doors.out ≡ before.doors.out) × (after.journals.out ≡ before.journals.out) × (after.entropies.out ≡ before.entropies.out)

    served_back : (Writes : List ℕ → Kind J → Kind J → Type 0) (r : Serves tells Writes s seed before after) → after.journals.out ≡ before.journals.out → IsBack
    served_back Writes r journals = (r.served.are_gates.lent_doors.lends.out, journals, r.served.are_gates.lent_entropies.lends.out)

    none_back : Unopened tells s before.doors after.doors before.entropies after.entropies → after.journals.out ≡ before.journals.out → IsBack
    none_back (inl e) journals = (e.lent_doors.lends.out, journals, e.lent_entropies.lends.out)
    none_back (inr d) journals = (d.lent_doors.lends.out, journals, d.lent_entropies.lends.out)

    pub whole_back : Serves tells (WritesWhole tells) s seed before after → IsBack
    whole_back r = served_back (WritesWhole tells) r r.journal.lends.lends.out

    pub unserved_back : FailsToServe tells s seed before after → IsBack
    unserved_back (inl p) = whole_back p.run
    unserved_back (inr n) = none_back n.unopened n.journal.lends.lends.out

    pub unwritten_back : FailsToWrite tells s seed before after → IsBack
    unwritten_back (inl r) = served_back (WritesPart tells) r r.journal.lends.lends.out
    unwritten_back (inr (inl n)) = none_back n.unopened n.journal.lends.lends.out
    unwritten_back (inr (inr u)) =
        (ap (λ (k : Kind D). k.out) u.doors, opens_none_out before.journals after.journals u.journal, ap (λ (k : Kind E). k.out) u.entropies)

    pub nothing_back : NothingOpened before after → IsBack
    nothing_back same =
        (ap (λ (v : ServiceView D J E). v.doors.out) same, ap (λ (v : ServiceView D J E). v.journals.out) same, ap (λ (v : ServiceView D J E). v.entropies.out) same)
