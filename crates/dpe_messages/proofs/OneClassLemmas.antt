-- A payload has one class, which the function gives.
use Rattle.std.proofs.Common.{◌≡◌, ℕ, Bool, true, false, cond, eqb, List, [], ◌++◌, length, Option, Some, None, refl, sym, ap, ◌∙◌, inl, inr}
use Rattle.std.proofs.lemmas.Bool.{eqb-true, eqb-false, eq-eqb, ne_eqb}
use Rattle.std.proofs.lemmas.List.{append-nil}
use Rattle.dpe_cbor.specs.Encoding.{head}
use Rattle.dpe_cbor.specs.Decoding.{AreBytes}
use Rattle.dpe_cbor.proofs.DecoderLemmas.{AreBytes-rest}
use Rattle.dpe_messages.specs.FlatMap.{FlatMap}
use Rattle.dpe_messages.specs.Layers.{IsOuter, IsInner}
use Rattle.dpe_messages.specs.Reading.{outer_of, inner_of}
use Rattle.dpe_messages.specs.Class.{Class, refused, IsClass, IsClassOfInner, IsClassOfOuter, class_of_inner, class_of_outer, class, OneClass}
use Rattle.dpe_messages.proofs.Decoders.{outer_sound, outer_complete, inner_sound, inner_complete}

-- the bytes in a payload are bytes
pub inner_bytes : (p : List ℕ) (session : ℕ) (b : List ℕ) → AreBytes p → IsOuter p session b → AreBytes b
inner_bytes p session b fits is =
    let string = (head 2 (length b) ++ b) ++ [] in
    let items = AreBytes-rest (head 4 2) (head 0 session ++ string) p fits is.1 in
    let last = AreBytes-rest (head 0 session) string (head 0 session ++ string) items refl in
    AreBytes-rest (head 2 (length b)) b string last (append-nil (head 2 (length b) ++ b))

no_inner : (b : List ℕ) → AreBytes b → ((n : ℕ) (m : FlatMap) → ¬ IsInner b n m) → inner_of b ≡ None
no_inner b fits not = go (inner_of b) refl where
  go : (o : Option (ℕ × FlatMap)) → inner_of b ≡ o → o ≡ None
  go None e = refl
  go (Some i) e = absurd (not i.0 i.1 (inner_sound b i.0 i.1 fits e))

no_outer : (p : List ℕ) → AreBytes p → ((session : ℕ) (b : List ℕ) → ¬ IsOuter p session b) → outer_of p ≡ None
no_outer p fits not = go (outer_of p) refl where
  go : (o : Option (ℕ × List ℕ)) → outer_of p ≡ o → o ≡ None
  go None e = refl
  go (Some i) e = absurd (not i.0 i.1 (outer_sound p i.0 i.1 fits e))

abbrev none_of : {X : Type 0} → Option X → Option X
none_of o = o

is_class_of_inner : (b : List ℕ) → AreBytes b → (o : Option (ℕ × FlatMap)) → inner_of b ≡ o → IsClassOfInner b (class_of_inner o)
is_class_of_inner b fits None e = inl (λ n m is. (let some = inner_complete b n m is in absurd (cc (some, e))), refl)
is_class_of_inner b fits (Some i) e = inr (i.0, i.1, inner_sound b i.0 i.1 fits e, refl)

is_class_of_outer : (b : List ℕ) (session : ℕ) (t : Bool) → AreBytes b → eqb session 0 ≡ t → IsClassOfOuter session b (cond t (class_of_inner (inner_of b)) (refused 16))
is_class_of_outer b session true fits e = inr (eqb-true session 0 e, is_class_of_inner b fits (inner_of b) refl)
is_class_of_outer b session false fits e = inl (eqb-false session 0 e, refl)

is_class : (p : List ℕ) → AreBytes p → (o : Option (ℕ × List ℕ)) → outer_of p ≡ o → IsClass p (class_of_outer o)
is_class p fits None e = inl (λ session b is. (let some = outer_complete p session b is in absurd (cc (some, e))), refl)
is_class p fits (Some o) e =
    let is = outer_sound p o.0 o.1 fits e in
    inr (o.0, o.1, is, is_class_of_outer o.1 o.0 (eqb o.0 0) (inner_bytes p o.0 o.1 fits is) refl)

one_of_inner : (b : List ℕ) (c : Class) → AreBytes b → IsClassOfInner b c → c ≡ class_of_inner (inner_of b)
one_of_inner b c fits (inl is) = is.1 ∙ ap class_of_inner (sym (no_inner b fits is.0))
one_of_inner b c fits (inr is) = is.3 ∙ ap class_of_inner (sym (inner_complete b is.0 is.1 is.2))

one_of_outer : (session : ℕ) (b : List ℕ) (c : Class) → AreBytes b → IsClassOfOuter session b c → c ≡ cond (eqb session 0) (class_of_inner (inner_of b)) (refused 16)
one_of_outer session b c fits (inl is) = is.1 ∙ ap (λ (t : Bool). cond t (class_of_inner (inner_of b)) (refused 16)) (sym (ne_eqb session 0 is.0))
one_of_outer session b c fits (inr is) = one_of_inner b c fits is.1 ∙ ap (λ (t : Bool). cond t (class_of_inner (inner_of b)) (refused 16)) (sym (eq-eqb session 0 is.0))

one : (p : List ℕ) (c : Class) → AreBytes p → IsClass p c → c ≡ class_of_outer (outer_of p)
one p c fits (inl is) = is.1 ∙ ap class_of_outer (sym (no_outer p fits is.0))
one p c fits (inr is) = one_of_outer is.0 is.1 c (inner_bytes p is.0 is.1 fits is.2) is.3 ∙ ap class_of_outer (sym (outer_complete p is.0 is.1 is.2))

pub one_class : OneClass
unfolding class
one_class p fits = (is_class p fits (outer_of p) refl, λ c is. one p c fits is)
