-- Which handle an entry accepts.
use Rattle.std.proofs.Common.{◌≡◌, ℕ, List, ◌∷◌, refl, ap, sym, ◌∙◌, subst, Bool, true, false, cond, Option, Some, None, ◌&&◌, is_some, IsSomeAnd, Contains, option_and_then}
use Rattle.std.specs.Str.{bytes_eq}
use Rattle.std.specs.Option.{option_map}
use Rattle.std.proofs.lemmas.Bool.{eqb-true}
use Rattle.std.proofs.lemmas.Slice.Eq.{bytes_eq-Decides}
use Rattle.std.proofs.lemmas.List.Elements.{All-contains_itself, recursion_from_All}
use Rattle.dpe_messages.specs.Request.{Request, get_profile, initialize, derive, sign, seal, unseal, rotate, destroy}
use Rattle.dpe_model.specs.State.{Row, State, start}
use Rattle.dpe_model.specs.Verdict.{used, uses_row, row_for, is_default_of, named}
use Rattle.dpe_model.specs.History.{Entry, Legal, state_after, is_accepted, request_at, accepted}
use Rattle.dpe_model.specs.Laws.{AcceptsUsed, IsDefaultHandle}
use Rattle.dpe_model.proofs.Accepted.{passed}
use Rattle.dpe_model.proofs.Issues.{row_used}
use Rattle.dpe_model.proofs.Spent.{found_all}
use Rattle.dpe_model.proofs.Answered.{answered}
use Rattle.dpe_model.proofs.Runs.{legal_rest}

-- the handle of a row, if there is one
abbrev handle_in : Option Row → Option (List ℕ)
handle_in o = option_map (λ (row : Row). row.handle) o

-- what an accepted entry accepts
accepts_used : (S : State) (e : Entry) (request : Request) → is_accepted e ≡ true → request_at e ≡ Some request → accepted S e ≡ handle_in (used S e.locality request)
accepts_used S e request a c =
    ap (λ b. handle_in (cond b (option_and_then (used S e.locality) (request_at e)) None)) a ∙ ap (λ r. handle_in (option_and_then (used S e.locality) r)) c

none_there : (b : Bool) (o : Option Row) → o ≡ None → handle_in (cond b o None) ≡ None
none_there true o h = ap handle_in h
none_there false o h = refl

-- what a name finds has the name
name_found : (rows : List Row) (l : ℕ) (handle : List ℕ) (o : Option Row) → row_for rows l (Some handle) ≡ o → true ≡ is_some o → handle_in o ≡ Some handle
name_found rows l handle None f t = cc
name_found rows l handle (Some row) f t =
    let all = recursion_from_All (Contains rows) rows (All-contains_itself rows) in
    ap Some ((bytes_eq-Decides row.handle handle).0 (found_all (Contains rows) (λ (r : Row). bytes_eq r.handle handle) rows row all f).1)

both_true : (a b : Bool) → (a && b) ≡ true → (a ≡ true) × (b ≡ true)
both_true true b h = (refl, h)
both_true false b h = cc

-- what is found without a name is the default
default_found : (S : State) (e : Entry) (o : Option Row) → row_for S.rows e.locality None ≡ o → true ≡ is_some o → IsSomeAnd (handle_in o) (IsDefaultHandle S e)
default_found S e None f t = cc
default_found S e (Some row) f t =
    let all = recursion_from_All (Contains S.rows) S.rows (All-contains_itself S.rows) in
    let found = found_all (Contains S.rows) (is_default_of e.locality) S.rows row all f in
    let is = both_true row.default _ found.1 in
    (row, found.0, is.0, eqb-true row.locality e.locality is.1, refl)

-- the used row, where the command uses one, and its name
used_for : (S : State) (l : ℕ) (request : Request) (name : Option (List ℕ)) → uses_row request ≡ true → named request ≡ name → used S l request ≡ row_for S.rows l name
used_for S l request name u n = (λ i. cond (u i) (row_for S.rows l (n i)) None)

-- a command that names a handle uses a row
names_row : (request : Request) (handle : List ℕ) → named request ≡ Some handle → uses_row request ≡ true
names_row get_profile handle n = cc
names_row (initialize m) handle n = cc
names_row (derive d) handle n = refl
names_row (sign d) handle n = refl
names_row (seal d) handle n = refl
names_row (unseal d) handle n = refl
names_row (rotate h m) handle n = refl
names_row (destroy h r) handle n = refl

pub accepts_is_used : (seed : List ℕ) (first : ℕ) (H : List Entry) → Legal seed first H → AcceptsUsed seed first H
accepts_is_used seed first H h before rest e is = record {
  refused = λ a. ap (λ b. handle_in (cond b (option_and_then (used S e.locality) (request_at e)) None)) a;
  unread = λ r. none_there (is_accepted e) (option_and_then (used S e.locality) (request_at e)) (ap (option_and_then (used S e.locality)) r);
  rowless = λ request r u. none_there (is_accepted e) (option_and_then (used S e.locality) (request_at e))
      (ap (option_and_then (used S e.locality)) r ∙ ap (λ b. cond b (row_for S.rows e.locality (named request)) None) u);
  by_name = λ request handle a r n.
      let u = names_row request handle n in
      accepts_used S e request a r ∙ name_found S.rows e.locality handle (used S e.locality request) (sym (used_for S e.locality request (Some handle) u n)) (sym u ∙ there a request r);
  by_default = λ request a r u n.
      subst (λ o. IsSomeAnd o (IsDefaultHandle S e)) (sym (accepts_used S e request a r))
      (default_found S e (used S e.locality request) (sym (used_for S e.locality request None u n)) (sym u ∙ there a request r));
}
  where
    S : State
    S = state_after seed first before

    there : is_accepted e ≡ true → (request : Request) → request_at e ≡ Some request → uses_row request ≡ is_some (used S e.locality request)
    there a request r =
        let from_e = legal_rest seed (start first) before (e ∷ rest) (subst (Legal seed first) is h) in
        let k = answered seed S e rest request from_e a r in
        row_used seed S e.locality request (passed seed S e.locality request (used S e.locality request) k.ok)
