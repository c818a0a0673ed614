-- From what the parts of the server tell to what stands at its end.
use Rattle.std.proofs.Common.{◌≡◌, ℕ, inl, inr, List, [], Option, sym, ap, subst, ◌∙◌}
use Rattle.std.specs.Prelude.{IfSome}
use Rattle.std.specs.Io.KnownBytes.{Appends}
use Rattle.dpe_io.specs.Causes.{Rose}
use Rattle.dpe_io.specs.Told.{Kind, Opens}
use Rattle.dpe_journal.specs.BookViews.{BookView}
use Rattle.dpe_journal.specs.Journal.{journal_bytes}
use Rattle.dpe_model.specs.History.{Entry}
use Rattle.dpe_text.specs.Writing.{AppendsFront}
use Rattle.dpe_serve.specs.Closings.{HandsBackWhole, HandsBackPart}
use Rattle.dpe_serve.specs.Headline.{ServiceView, HouseView, Tells, Serves, WritesWhole, WritesPart}
use Rattle.dpe_serve.specs.Outcomes.{RunsDoors, RunsNone, Finishes, FinishesEmpty, EndsFrom, Ends}
use Rattle.dpe_serve.specs.Seeds.{HasSeed}
use Rattle.dpe_serve.specs.Setting.{Setting}
use Rattle.dpe_serve.specs.Summary.{summary_text}
use Rattle.dpe_serve.specs.declared.serve.Outcome.{Outcome}
use Rattle.dpe_serve.specs.declared.serve.Outcome.TheVariants as outcomes
use Rattle.dpe_serve.specs.declared.serve.Served.{Served}
use Rattle.dpe_serve.specs.declared.summary.Totals.{Totals}
use Rattle.dpe_serve.proofs.Lent.{lends_one}

-- ## The journal

module _ {S D J E C : Type 0} (tells : Tells S D J E C) (text : List ℕ) (old lent later new : Kind J) (journal : J) where
  pub writes_whole : Opens old journal lent → tells.write_faults journal ≡ 0 → IfSome (tells.bytes journal) (λ bytes. bytes ≡ []) → later ≡ lent
      → HandsBackWhole tells.bytes tells.write_faults text later journal new → WritesWhole tells text old new
  writes_whole opens none empty same h =
      record {
        opened = journal;
        after = h.after;
        lends =
            lends_one tells.write_faults old later new journal h.after (subst (λ (k : Kind J). Opens old journal k) (sym same) opens) h.returned h.places;
        empty = empty;
        written = h.written;
        kept = h.kept ∙ none;
      }

  pub writes_part : Opens old journal lent → tells.write_faults journal ≡ 0 → IfSome (tells.bytes journal) (λ bytes. bytes ≡ []) → later ≡ lent
      → HandsBackPart tells.bytes tells.write_faults text later journal new → WritesPart tells text old new
  writes_part opens none empty same h =
      record {
        opened = journal;
        after = h.after;
        lends =
            lends_one tells.write_faults old later new journal h.after (subst (λ (k : Kind J). Opens old journal k) (sym same) opens) h.returned h.places;
        empty = empty;
        written = h.written;
        rose = subst (λ (n : ℕ). Rose n (tells.write_faults h.after)) none h.rose;
      }

-- ## From the seed on

module _ {S D J E C : Type 0} (tells : Tells S D J E C) (s : Setting) (seed : List ℕ) (out_old out_new : Option (List ℕ)) (before after : ServiceView D J E) (lent later : Kind J) (journal : J)
    (opens : Opens before.journals journal lent) (none : tells.write_faults journal ≡ 0) (empty : IfSome (tells.bytes journal) (λ bytes. bytes ≡ [])) (same : later ≡ lent) where
  -- the journal's text is that of the setting's first serial
  text_is : (first : ℕ) (H : List Entry) → first ≡ s.first → journal_bytes first H ≡ journal_bytes s.first H
  text_is first H is = ap (λ (n : ℕ). journal_bytes n H) is

  module _ (served : Served) (r : RunsDoors tells s seed before.doors after.doors before.entropies after.entropies served) where
    served_whole : HandsBackWhole tells.bytes tells.write_faults (journal_bytes served.book.first served.book.history) later journal after.journals → Serves tells (WritesWhole tells) s seed before after
    served_whole h = record {
      H = served.book.history;
      served = r.run;
      journal =
          writes_whole tells (journal_bytes s.first served.book.history) before.journals lent later after.journals journal opens none empty same
          (subst (λ (text : List ℕ). HandsBackWhole tells.bytes tells.write_faults text later journal after.journals) (text_is served.book.first served.book.history r.first) h);
    }

    served_part : HandsBackPart tells.bytes tells.write_faults (journal_bytes served.book.first served.book.history) later journal after.journals → Serves tells (WritesPart tells) s seed before after
    served_part h = record {
      H = served.book.history;
      served = r.run;
      journal =
          writes_part tells (journal_bytes s.first served.book.history) before.journals lent later after.journals journal opens none empty same
          (subst (λ (text : List ℕ). HandsBackPart tells.bytes tells.write_faults text later journal after.journals) (text_is served.book.first served.book.history r.first) h);
    }

    pub ends_served : (o : Outcome) → Finishes tells.bytes tells.write_faults served later journal after.journals out_old out_new o → EndsFrom tells s seed out_old out_new before after o
    unfolding served_whole
    ends_served outcomes.Done f = record {
      run = served_whole f.0;
      whole = sym r.failed ∙ f.1;
      printed = subst (λ (t : Totals). Appends out_old out_new (summary_text t)) r.totals f.2;
    }
    ends_served outcomes.NoOutput f = record {
      run = served_whole f.0;
      whole = sym r.failed ∙ f.1;
      printed = subst (λ (t : Totals). AppendsFront out_old out_new (summary_text t)) r.totals f.2;
    }
    ends_served outcomes.NoService f = inl (record { run = served_whole f.0; failed = sym r.failed ∙ f.1 })
    ends_served outcomes.NoJournal f = inl (served_part f)
    ends_served outcome f = absurd f

  module _ (book : BookView) (r : RunsNone tells s before.doors after.doors before.entropies after.entropies book) where
    empty_text : journal_bytes book.first book.history ≡ journal_bytes s.first []
    empty_text = ap (λ (H : List Entry). journal_bytes book.first H) r.empty ∙ text_is book.first [] r.first

    pub ends_unserved : (o : Outcome) → FinishesEmpty tells.bytes tells.write_faults book later journal after.journals o → EndsFrom tells s seed out_old out_new before after o
    ends_unserved outcomes.NoService f =
        inr (record {
          unopened = r.unopened;
          journal =
              writes_whole tells (journal_bytes s.first []) before.journals lent later after.journals journal opens none empty same
              (subst (λ (text : List ℕ). HandsBackWhole tells.bytes tells.write_faults text later journal after.journals) empty_text f);
        })
    ends_unserved outcomes.NoJournal f =
        inr (inl (record {
          unopened = r.unopened;
          journal =
              writes_part tells (journal_bytes s.first []) before.journals lent later after.journals journal opens none empty same
              (subst (λ (text : List ℕ). HandsBackPart tells.bytes tells.write_faults text later journal after.journals) empty_text f);
        }))
    ends_unserved outcome f = absurd f

-- ## Kinds that stayed as they were

module _ {A B : Type 0} where
  pub moved : (P : A → A → B → B → Type 0) (a a' b b' : A) (c c' d d' : B) → a' ≡ a → b' ≡ b → c' ≡ c → d' ≡ d → P a b c d → P a' b' c' d'
  moved P a a' b b' c c' d d' ea eb ec ed p =
      subst (λ (x : A). P x b' c' d') (sym ea)
      (subst (λ (x : A). P a x c' d') (sym eb) (subst (λ (x : B). P a b x d') (sym ec) (subst (λ (x : B). P a b c x) (sym ed) p)))

pub same_service : {D J E : Type 0} (d d' : Kind D) (j j' : Kind J) (e e' : Kind E) → d ≡ d' → j ≡ j' → e ≡ e'
    → ◌≡◌ {A = ServiceView D J E} (record { doors = d; journals = j; entropies = e }) (record { doors = d'; journals = j'; entropies = e' })
same_service {D} {J} {E} d d' j j' e e' ed ej ee =
    let V = ServiceView D J E in
    let with_doors : Kind D → V = λ x. record { doors = x; journals = j; entropies = e } in
    let with_journals : Kind J → V = λ x. record { doors = d'; journals = x; entropies = e } in
    let with_entropies : Kind E → V = λ x. record { doors = d'; journals = j'; entropies = x } in
    ap with_doors ed ∙ (ap with_journals ej ∙ ap with_entropies ee)

-- ## With the seed

module _ {S D J E C : Type 0} (tells : Tells S D J E C) (s : Setting) (seed : List ℕ) (out_old out_new : Option (List ℕ)) (before after : HouseView S D J E) (read : HasSeed tells.left tells.read_faults before.seeds after.seeds seed) where
  pub ends_from : (o : Outcome) → EndsFrom tells s seed out_old out_new before.service after.service o → Ends tells s out_old out_new before after o
  ends_from outcomes.UnreadSeed e = absurd e
  ends_from outcomes.WrongSeed e = absurd e
  ends_from outcome e = (seed, read, e)
