-- Runs of legal entries, put together and taken apart.
use Rattle.std.proofs.Common.{◌≡◌, ℕ, List, [], ◌∷◌, ◌++◌, refl}
use Rattle.std.specs.List.{AllByRecursion}
use Rattle.dpe_model.specs.State.{State}
use Rattle.dpe_model.specs.History.{Entry, IsEntry, LegalFrom, after, after_all, reply_to}

-- a front of a list of which each element has P
pub front_all : {X : Type 0} (P : X → Type 0) (xs ys : List X) → AllByRecursion P (xs ++ ys) → AllByRecursion P xs
front_all P [] ys h = tt
front_all P (x ∷ xs) ys h = (h.0, front_all P xs ys h.1)

pub rest_all : {X : Type 0} (P : X → Type 0) (xs ys : List X) → AllByRecursion P (xs ++ ys) → AllByRecursion P ys
rest_all P [] ys h = h
rest_all P (x ∷ xs) ys h = rest_all P xs ys h.1

pub append_all : {X : Type 0} (P : X → Type 0) (xs ys : List X) → AllByRecursion P xs → AllByRecursion P ys → AllByRecursion P (xs ++ ys)
append_all P [] ys h k = k
append_all P (x ∷ xs) ys h k = (h.0, append_all P xs ys h.1 k)

-- the legal run goes on from the state after its first entry
pub legal_head : (seed : List ℕ) (S : State) (e : Entry) (es : List Entry) → LegalFrom seed S (e ∷ es) → e.reply ≡ reply_to seed S e
legal_head seed S e es h = let p = h.replied in cc

pub legal_tail : (seed : List ℕ) (S : State) (e : Entry) (es : List Entry) → LegalFrom seed S (e ∷ es) → LegalFrom seed (after seed S e) es
legal_tail seed S e es h = record { entries = h.entries.1; replied = let p = h.replied in cc }

pub legal_cons : (seed : List ℕ) (S : State) (e : Entry) (es : List Entry) → IsEntry e → e.reply ≡ reply_to seed S e → LegalFrom seed (after seed S e) es → LegalFrom seed S (e ∷ es)
legal_cons seed S e es i r h = record { entries = (i, h.entries); replied = let p = h.replied in cc }

pub legal_front : (seed : List ℕ) (S : State) (xs ys : List Entry) → LegalFrom seed S (xs ++ ys) → LegalFrom seed S xs
legal_front seed S [] ys h = record { entries = tt; replied = refl }
legal_front seed S (x ∷ xs) ys h =
    legal_cons seed S x xs h.entries.0 (legal_head seed S x (xs ++ ys) h) (legal_front seed (after seed S x) xs ys (legal_tail seed S x (xs ++ ys) h))

pub legal_rest : (seed : List ℕ) (S : State) (xs ys : List Entry) → LegalFrom seed S (xs ++ ys) → LegalFrom seed (after_all seed S xs) ys
legal_rest seed S [] ys h = h
legal_rest seed S (x ∷ xs) ys h = legal_rest seed (after seed S x) xs ys (legal_tail seed S x (xs ++ ys) h)

pub after_append : (seed : List ℕ) (S : State) (xs ys : List Entry) → after_all seed S (xs ++ ys) ≡ after_all seed (after_all seed S xs) ys
after_append seed S [] ys = refl
after_append seed S (x ∷ xs) ys = after_append seed (after seed S x) xs ys

pub legal_one : (seed : List ℕ) (S : State) (e : Entry) → IsEntry e → e.reply ≡ reply_to seed S e → LegalFrom seed S (e ∷ [])
legal_one seed S e i r = legal_cons seed S e [] i r (record { entries = tt; replied = refl })

pub legal_append : (seed : List ℕ) (S : State) (xs ys : List Entry) → LegalFrom seed S xs → LegalFrom seed (after_all seed S xs) ys → LegalFrom seed S (xs ++ ys)
legal_append seed S [] ys h k = k
legal_append seed S (x ∷ xs) ys h k =
    legal_cons seed S x (xs ++ ys) h.entries.0 (legal_head seed S x xs h) (legal_append seed (after seed S x) xs ys (legal_tail seed S x xs h) k)
