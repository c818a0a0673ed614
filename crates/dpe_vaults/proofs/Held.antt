-- A vault with one entry more.
use Rattle.std.proofs.Common.{◌≡◌, ◌≢◌, ℕ, ◌+◌, ◌<◌, ◌≤◌, Bool, true, false, cond, List, [], ◌∷◌, ◌++◌, length, map, get_or, set, refl, sym, ap, subst, ◌∙◌, append_assoc, append-nil, arith}
use native.Mathlib.Decide.{ℕ_discrete}
use Rattle.std.specs.Prelude.{◌==◌, filter}
use Rattle.std.proofs.lemmas.Bool.Decides.{nat_tests}
use Rattle.std.proofs.lemmas.List.{map-append, length-append, length-set, get_or-set_same, get_or-set_other, get_or_read}
use Rattle.std.proofs.lemmas.List.Elements.{filter-append}
use Rattle.dpe_desk.specs.Entries.{entry}
use Rattle.dpe_vaults.specs.declared.reply.VaultReply.{VaultReply}
use Rattle.dpe_vaults.specs.Calls.{Call}
use Rattle.dpe_vaults.specs.Named.{Named}
use Rattle.dpe_vaults.specs.Kept.{Called, Pair, after_by, after_one, after, kept, reply_from, vault_reply, reply_to, calls_at, calls_of, LegalAfter, Legal}
use Rattle.dpe_vaults.specs.Tables.{box_at, boxed, AreStored}
use Rattle.dpe_vaults.specs.Vaults.{Holds, AreHeld}
use Rattle.dpe_vaults.proofs.Boxed.{after_image, box_new, boxed_more, stored_more, after_stored}

-- ---- one call more

pub after_more : (ps : List Pair) (cs : List Call) (c : Call) → after ps (cs ++ c ∷ []) ≡ after_one (after ps cs) c
after_more ps [] c = refl
after_more ps (x ∷ cs) c = after_more (after_one ps x) cs c

pub own_more : (l : ℕ) (cs : List Call) (c : Call) → c.locality ≡ l → calls_at l (cs ++ c ∷ []) ≡ calls_at l cs ++ c ∷ []
own_more l cs c is =
    let own : (c.locality == l) ≡ true = grind (arith, nat_tests) in
    filter-append (λ (c : Call). c.locality == l) cs (c ∷ []) ∙ ap (λ (t : Bool). calls_at l cs ++ cond t (c ∷ []) []) own

pub other_more : (l : ℕ) (cs : List Call) (c : Call) → c.locality ≢ l → calls_at l (cs ++ c ∷ []) ≡ calls_at l cs
other_more l cs c is =
    let other : (c.locality == l) ≡ false = grind (arith, nat_tests) in
    filter-append (λ (c : Call). c.locality == l) cs (c ∷ []) ∙ ap (λ (t : Bool). calls_at l cs ++ cond t (c ∷ []) []) other
    ∙ append-nil (calls_at l cs)

pub calls_more : (es : List Called) (e : Called) → calls_of (es ++ e ∷ []) ≡ calls_of es ++ e.call ∷ []
calls_more es e = map-append (λ (e : Called). e.call) es (e ∷ [])

-- ---- legal lists

pub legal_more : (before : List Call) (es : List Called) (e : Called) → LegalAfter before es → e.reply ≡ reply_to (before ++ calls_of es) e.call
    → LegalAfter before (es ++ e ∷ [])
legal_more before [] e legal is = (is ∙ ap (λ (cs : List Call). reply_to cs e.call) (append-nil before), tt)
legal_more before (x ∷ es) e legal is = (
  legal.0,
  legal_more (before ++ x.call ∷ []) es e legal.1
      (is ∙ ap (λ (cs : List Call). reply_to cs e.call) (sym (append_assoc before (x.call ∷ []) (calls_of es)))),
)

-- ---- tables

-- what is replied by the rows of the locality is what its earlier calls lead to
pub replied : (es : List Called) (rows : List (Named ℕ)) (c : Call) (reply : VaultReply) → Holds es c.locality rows → reply ≡ reply_from (boxed es rows) c
    → reply ≡ reply_to (calls_of es) c
replied es rows c reply holds is = is ∙ ap (λ (ps : List Pair). reply_from ps c) holds.pairs

module _ (es : List Called) (caller : ℕ) (c : Call) (reply : VaultReply) where
  abbrev new : Called
  new = entry caller c reply

  own_holds : (rows : List (Named ℕ)) → Holds es c.locality rows → Holds (es ++ new ∷ []) c.locality (after_by c.op (length es) rows c)
  own_holds rows holds = record {
    pairs =
        sym (after_image (box_at (es ++ new ∷ [])) c.op (length es) rows c)
        ∙ ap (λ (b : List ℕ). after_by c.op b (boxed (es ++ new ∷ []) rows) c) (box_new es new)
        ∙ ap (λ (ps : List Pair). after_one ps c) (boxed_more es new rows holds.stored ∙ holds.pairs)
        ∙ sym (ap (λ (cs : List Call). kept cs) (ap (λ (cs : List Call). calls_at c.locality cs) (calls_more es new) ∙ own_more c.locality (calls_of es) c refl)
        ∙ after_more [] (calls_at c.locality (calls_of es)) c);
    stored =
        subst (λ (n : ℕ). AreStored n (after_by c.op (length es) rows c)) (sym (length-append es (new ∷ [])))
        (after_stored c.op (length es) rows c holds.stored);
  }

  other_holds : (l : ℕ) (rows : List (Named ℕ)) → c.locality ≢ l → Holds es l rows → Holds (es ++ new ∷ []) l rows
  other_holds l rows other holds = record {
    pairs =
        boxed_more es new rows holds.stored ∙ holds.pairs
        ∙ sym (ap (λ (cs : List Call). kept (calls_at l cs)) (calls_more es new) ∙ ap (λ (cs : List Call). kept cs) (other_more l (calls_of es) c other));
    stored = subst (λ (n : ℕ). AreStored n rows) (sym (length-append es (new ∷ []))) (stored_more (length es) rows holds.stored);
  }

  pub held_more : (tables : List (List (Named ℕ))) (rows : List (Named ℕ)) → c.locality ≤ 7 → AreHeld es tables
      → rows ≡ after_by c.op (length es) (get_or tables c.locality []) c → AreHeld (es ++ new ∷ []) (set tables c.locality rows)
  held_more tables rows near held is = record {
    eight = length-set tables c.locality rows ∙ held.eight;
    each = λ l lt.
        elim (ℕ_discrete c.locality l) [
          | yes same ↦
              subst (λ (k : ℕ). Holds (es ++ new ∷ []) k (get_or (set tables c.locality rows) k [])) same
              (subst (λ (rs : List (Named ℕ)). Holds (es ++ new ∷ []) c.locality rs)
              (sym (get_or-set_same tables c.locality rows [] (omega (arith, near, held.eight)) ∙ is))
              (own_holds (get_or tables c.locality []) (held.each c.locality (omega (arith, near)))))
          | no other ↦
              subst (λ (rs : List (Named ℕ)). Holds (es ++ new ∷ []) l rs)
              (sym (get_or-set_other tables c.locality l rows [] (λ e. other (sym e))))
              (other_holds l (get_or tables l []) other (held.each l lt))
        ];
  }

-- nothing is held at first
pub held_first : (tables : List (List (Named ℕ))) → length tables ≡ 8 → ((l : ℕ) → l < 8 → get_or tables l [] ≡ []) → AreHeld [] tables
held_first tables eight none = record {
  eight = eight;
  each = λ l lt. subst (λ (rows : List (Named ℕ)). Holds [] l rows) (sym (none l lt)) (record { pairs = refl; stored = tt });
}

-- ---- one step

-- the rows that were read of a locality's table are held
pub holds_there : (es : List Called) (tables : List (List (Named ℕ))) (at : ℕ) (rows : List (Named ℕ)) → at ≤ 7 → AreHeld es tables → rows ≡ get_or tables at rows
    → Holds es at rows
holds_there es tables at rows near held read =
    subst (λ (rs : List (Named ℕ)). Holds es at rs) (sym (get_or_read tables at rows (omega (arith, near, held.eight)) read []))
    (held.each at (omega (arith, near)))

pub record Stepped (es : List Called) (tables : List (List (Named ℕ))) (caller : ℕ) (c : Call) (reply : VaultReply) (at : ℕ) (rows : List (Named ℕ)) : Type 0 where
  pub replies : reply ≡ reply_to (calls_of es) c
  pub legal : Legal (es ++ entry caller c reply ∷ [])
  pub held : AreHeld (es ++ entry caller c reply ∷ []) (set tables at rows)

pub stepped : (es : List Called) (tables : List (List (Named ℕ))) (caller : ℕ) (c : Call) (reply : VaultReply) (at : ℕ) (old rows : List (Named ℕ))
    → at ≡ c.locality → c.locality ≤ 7 → Legal es → AreHeld es tables → old ≡ get_or tables at old → rows ≡ after_by c.op (length es) old c
    → reply ≡ reply_from (boxed es old) c → Stepped es tables caller c reply at rows
stepped es tables caller c reply at old rows is near legal held read becomes replies =
    let here : Holds es at old = holds_there es tables at old (omega (arith, is, near)) held read in
    let answered : reply ≡ reply_to (calls_of es) c = replied es old c reply (subst (λ (l : ℕ). Holds es l old) is here) replies in
    let first : get_or tables at [] ≡ old = sym (get_or_read tables at old (omega (arith, is, near, held.eight)) read []) in
    let row : rows ≡ after_by c.op (length es) (get_or tables c.locality []) c =
    becomes ∙ ap (λ (rs : List (Named ℕ)). after_by c.op (length es) rs c) (sym first ∙ ap (λ (l : ℕ). get_or tables l []) is) in
    record {
      replies = answered;
      legal = legal_more [] es (entry caller c reply) legal answered;
      held =
          subst (λ (l : ℕ). AreHeld (es ++ entry caller c reply ∷ []) (set tables l rows)) (sym is)
          (held_more es caller c reply tables rows near held row);
    }
