-- Names stay known while others are added.
use Rattle.std.proofs.Common.{◌≡◌, ℕ, zero, Bool, true, false, ◌||◌, List, [], ◌∷◌, ◌++◌, suc, get_or, arith, Option, Some, None, refl, sym, ap, subst, ◌∙◌}
use Rattle.std.specs.Prelude.{bytes_eq, if◌then◌else◌, All}
use Rattle.std.proofs.lemmas.List.Folds.{list_any-append}
use Rattle.std.proofs.lemmas.List.Elements.{All-append}
use Rattle.std.proofs.lemmas.Slice.Eq.{bytes_eq-Decides}
use Rattle.dpe_grammar.specs.Acts.{Act, act_of}
use Rattle.dpe_script.specs.Names.{Names, HasNames, is_among, is_known, with_name, introduced, fresh_of, keep_of, sealed_of}
use Rattle.dpe_script.specs.CodeScript.{IsLineKnown}
use Rattle.dpe_script.specs.declared.script.Line as code_line

or_true : (b : Bool) → (b || true) ≡ true
or_true true = refl
or_true false = refl

kept_among : (names : List (List ℕ)) (n name : List ℕ) → is_among names name ≡ true → is_among (names ++ n ∷ []) name ≡ true
kept_among names n name e = list_any-append (λ (m : List ℕ). bytes_eq m name) names (n ∷ []) ∙ ap (λ (b : Bool). b || is_among (n ∷ []) name) e

new_among : (names : List (List ℕ)) (name : List ℕ) → is_among (names ++ name ∷ []) name ≡ true
new_among names name =
    list_any-append (λ (m : List ℕ). bytes_eq m name) names (name ∷ [])
    ∙ ap (λ (b : Bool). is_among names name || (b || false)) ((bytes_eq-Decides name name).1 refl)
    ∙ or_true (is_among names name)

still_among : (names : List (List ℕ)) (added : Option (List ℕ)) (name : List ℕ) → is_among names name ≡ true → is_among (with_name names added) name ≡ true
still_among names None name e = e
still_among names (Some n) name e = by_test (is_among names n)
  where
    by_test : (b : Bool) → is_among (if b then names else names ++ n ∷ []) name ≡ true
    by_test true = e
    by_test false = kept_among names n name e

now_among : (names : List (List ℕ)) (name : List ℕ) → is_among (with_name names (Some name)) name ≡ true
now_among names name = by_test (is_among names name) refl
  where
    by_test : (b : Bool) → is_among names name ≡ b → is_among (if b then names else names ++ name ∷ []) name ≡ true
    by_test true e = e
    by_test false e = new_among names name

still_known : (names : List (List ℕ)) (added used : Option (List ℕ)) → is_known names used ≡ true → is_known (with_name names added) used ≡ true
still_known names added None e = refl
still_known names added (Some name) e = still_among names added name e

now_known : (names : List (List ℕ)) (added : Option (List ℕ)) → is_known (with_name names added) added ≡ true
now_known names None = refl
now_known names (Some name) = now_among names name

known_kept : (names : Names) (act other : Act) → HasNames names other → HasNames (introduced names act) other
known_kept names act other h = record {
  fresh = still_known (with_name names.handles (fresh_of act)) (keep_of act) (fresh_of other) (still_known names.handles (fresh_of act) (fresh_of other) h.fresh);
  keep = still_known (with_name names.handles (fresh_of act)) (keep_of act) (keep_of other) (still_known names.handles (fresh_of act) (keep_of other) h.keep);
  sealed = still_known names.boxes (sealed_of act) (sealed_of other) h.sealed;
}

known_new : (names : Names) (act : Act) → HasNames (introduced names act) act
known_new names act = record {
  fresh = still_known (with_name names.handles (fresh_of act)) (keep_of act) (fresh_of act) (now_known names.handles (fresh_of act));
  keep = now_known (with_name names.handles (fresh_of act)) (keep_of act);
  sealed = now_known names.boxes (sealed_of act);
}

one_known : (names : Names) (line : code_line.Line) → IsLineKnown names line → All (IsLineKnown names) (line ∷ [])
one_known names line h zero d lt = h
one_known names line h (suc k) d lt = absurd (omega arith)

-- a command line behind others
pub known_more : (old : Names) (lines : List code_line.Line) (line : code_line.Line) → All (IsLineKnown old) lines
    → All (IsLineKnown (introduced old (act_of line.act))) (lines ++ line ∷ [])
known_more old lines line all =
    All-append (IsLineKnown (introduced old (act_of line.act))) lines (line ∷ [])
    (λ k d lt. known_kept old (act_of line.act) (act_of (get_or lines k d).act) (all k d lt))
    (one_known (introduced old (act_of line.act)) line (known_new old (act_of line.act)))

pub known_after : (old new : Names) (lines after : List code_line.Line) (line : code_line.Line) → new ≡ introduced old (act_of line.act) → after ≡ lines ++ line ∷ []
    → All (IsLineKnown old) lines → All (IsLineKnown new) after
known_after old new lines after line is items all =
    subst (λ (n : Names). All (IsLineKnown n) after) (sym is)
    (subst (λ (ls : List code_line.Line). All (IsLineKnown (introduced old (act_of line.act))) ls) (sym items) (known_more old lines line all))
