use Rattle.std.proofs.Common.{◌≡◌, ◌==◌, List, [], ◌∷◌, Bool, true, false, ◌&&◌, cond, refl, ap}
use Rattle.std.specs.List.{filter}
use Rattle.std.proofs.lemmas.List.Elements.{filter-append}
use Rattle.dpe_model.proofs.laws.parts_of_histories.Goals as goal

filter_cons : {X : Type 0} (q : X → Bool) (kept : Bool) (x : X) (both rest : List X) → both ≡ filter q rest → cond (kept && q x) (x ∷ both) both ≡ filter q (cond kept (x ∷ rest) rest)
filter_cons q true x both rest h = ap (λ xs. cond (q x) (x ∷ xs) xs) h
filter_cons q false x both rest h = h

-- what two tests let through, one after the other
filter_both : {X : Type 0} (p q : X → Bool) (xs : List X) → filter (λ x. p x && q x) xs ≡ filter q (filter p xs)
filter_both p q [] = refl
filter_both p q (x ∷ xs) = filter_cons q (p x) x (filter (λ y. p y && q y) xs) (filter p xs) (filter_both p q xs)

pub returns : goal.returns
returns c H e caller connection =
    (refl, filter-append (λ x. x.caller == caller) H (e ∷ []), filter_both (λ x. x.caller == caller) (λ x. x.connection == connection) H)
