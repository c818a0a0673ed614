-- A pass over several calls.
use Rattle.std.proofs.Common.{◌≡◌, ℕ, ◌<◌, List, refl, ap, sym, subst, ◌∙◌, arith}
use Rattle.dpe_desk.specs.Entries.{times}
use Rattle.dpe_desk.specs.Passes.{PassView, Grows, own_name, first_of}
use Rattle.dpe_desk.proofs.Lists.{prefix_self, prefix_trans}

module _ {K C R : Type 0} where
  pub grows_self : (p : PassView K C R) → Grows p p
  grows_self p = record { desk = refl; terms = refl; seen = prefix_self p.view.seen; known = omega arith; full = λ t h. h }

  pub grows_both : (p q r : PassView K C R) → Grows p q → Grows q r → Grows p r
  grows_both p q r g h =
      let a = g.known in
      let b = h.known in
      record {
        desk = h.desk ∙ g.desk;
        terms = h.terms ∙ g.terms;
        seen = prefix_trans p.view.seen q.view.seen r.view.seen g.seen h.seen;
        known = omega arith;
        full = λ t k. h.full t (g.full t k);
      }

  pub name_stays : (p q : PassView K C R) → q.view.names ≡ p.view.names → own_name q.view ≡ own_name p.view
  name_stays p q same = ap first_of same

  -- the pass's own name is one of its names
  pub own_stays : (p q : PassView K C R) (name : ℕ) → name ≡ own_name p.view → 0 < times name p.view.names → q.view.names ≡ p.view.names → 0 < times (own_name q.view) q.view.names
  own_stays p q name is own same =
      subst (λ (ns : List ℕ). 0 < times (first_of ns) ns) (sym same) (subst (λ (m : ℕ). 0 < times m p.view.names) is own)
