-- Fronts of a text that were written.
use Rattle.std.proofs.Common.{◌≡◌, ℕ, List, [], ◌∷◌, ◌++◌, take, drop, Option, Some, None, Result, Ok, Err, OnErr, refl, sym, ap, subst, ◌∙◌, append_assoc, append-nil}
use Rattle.std.proofs.lemmas.List.{take-append-drop}
use Rattle.std.specs.Io.KnownBytes.{Appends, Keeps}
use Rattle.std.proofs.KnownBytes.{Appends-trans, Appends-kept, Appends-nil}
use Rattle.dpe_text.specs.Writing.{AppendsFront}

pub front_of : (a b : Option (List ℕ)) (text : List ℕ) (n : ℕ) → Appends a b (take n text) → AppendsFront a b text
front_of a b text n given = (take n text, drop n text, sym (take-append-drop n text), given)

pub front_kept : (a b d : Option (List ℕ)) (text : List ℕ) (n : ℕ) → Appends a b (take n text) → Keeps b d → AppendsFront a d text
front_kept a b d text n given kept = front_of a d text n (Appends-kept a b d (take n text) given kept)

-- an appended text, and then a front of another, are a front of both
pub then_front : (a b d : Option (List ℕ)) (first second : List ℕ) → Appends a b first → AppendsFront b d second → AppendsFront a d (first ++ second)
then_front a b d first second all (front, rest, is, given) =
    (first ++ front, rest, ap (λ (t : List ℕ). first ++ t) is ∙ sym (append_assoc first front rest), Appends-trans a b d first front all given)

-- what was appended is a front of it and more
pub front_more : (a b : Option (List ℕ)) (first second : List ℕ) → Appends a b first → AppendsFront a b (first ++ second)
front_more a b first second all = (first, second, refl, all)

-- a text that was written whole, and a call after it that wrote nothing and may have failed
pub whole_front : {T E : Type 0} (result : Result T E) (a b d : Option (List ℕ)) (text : List ℕ) → Appends a b text → Keeps b d
    → OnErr result (AppendsFront a d text)
whole_front (Ok x) a b d text h k = tt
whole_front (Err e) a b d text h k = (text, [], sym (append-nil text), Appends-kept a b d text h k)
