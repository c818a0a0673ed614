-- The number that a decoder reads is the one that is encoded.
use Rattle.std.proofs.Common.{◌≡◌, ℕ, cond, eqb, leb, ◌&&◌, List, Option, Some, None, IfSome, IfNone, refl, sym, subst}
use Rattle.std.proofs.lemmas.Bool.{eqb-true, leb-true, le-leb}
use Rattle.dpe_cbor.specs.Decoding.{◌>>=◌, AreBytes}
use Rattle.dpe_cbor.proofs.DecoderLemmas.{bind_some, some_is, passed}
use Rattle.dpe_messages.specs.Layers.{IsOuter, IsInner, HasNumber, HasCommandNumber}
use Rattle.dpe_messages.specs.Reading.{outer_of, inner_of, number_of, command_of}
use Rattle.dpe_messages.proofs.Decoders.{outer_sound, outer_complete, inner_sound, inner_complete}
use Rattle.dpe_messages.proofs.OneClassLemmas.{inner_bytes}
use Rattle.dpe_messages.proofs.RangeLemmas.{and_left, and_right}

number_sound : (p : List ℕ) (n : ℕ) → AreBytes p → number_of p ≡ Some n → HasNumber p n
number_sound p n fits e =
    let first = bind_some (outer_of p) (λ o. cond (eqb o.0 0) (inner_of o.1) None >>= λ i. Some i.0) n e in
    let second = bind_some (cond (eqb first.0.0 0) (inner_of first.0.1) None) (λ i. Some i.0) n first.2 in
    let test = passed (eqb first.0.0 0) (inner_of first.0.1) second.0 second.1 in
    let outer = outer_sound p first.0.0 first.0.1 fits first.1 in
    let inner = inner_sound first.0.1 second.0.0 second.0.1 (inner_bytes p first.0.0 first.0.1 fits outer) test.1 in
    let number_is : second.0.0 ≡ n = some_is second.0.0 n second.2 in
    (first.0.1, second.0.1, subst (λ (s : ℕ). IsOuter p s first.0.1) (eqb-true first.0.0 0 test.0) outer, subst (λ (k : ℕ). IsInner first.0.1 k second.0.1) number_is inner)

number_complete : (p : List ℕ) (n : ℕ) → HasNumber p n → number_of p ≡ Some n
number_complete p n is = rw (outer_complete p 0 is.0 is.2, inner_complete is.0 n is.1 is.3) refl

pub number_some : (p : List ℕ) (o : Option ℕ) → AreBytes p → o ≡ number_of p → IfSome o (HasNumber p)
number_some p None fits e = tt
number_some p (Some n) fits e = number_sound p n fits (sym e)

pub number_none : (p : List ℕ) (o : Option ℕ) → o ≡ number_of p → IfNone o ((n : ℕ) → ¬ HasNumber p n)
number_none p None e = λ n is. (let found = number_complete p n is in absurd cc)
number_none p (Some n) e = tt

command_sound : (p : List ℕ) (n : ℕ) → AreBytes p → command_of p ≡ Some n → HasCommandNumber p n
command_sound p n fits e =
    let first = bind_some (number_of p) (λ n. cond (leb 1 n && leb n 16) (Some n) None) n e in
    let test = passed (leb 1 first.0 && leb first.0 16) (Some first.0) n first.2 in
    subst (HasCommandNumber p) (some_is first.0 n test.1) (number_sound p first.0 fits first.1, leb-true 1 first.0 (and_left (leb 1 first.0) (leb first.0 16) test.0), leb-true first.0 16 (and_right (leb 1 first.0) (leb first.0 16) test.0))

command_complete : (p : List ℕ) (n : ℕ) → HasCommandNumber p n → command_of p ≡ Some n
command_complete p n is = rw (number_complete p n is.0, le-leb 1 n is.1, le-leb n 16 is.2) refl

pub command_some : (p : List ℕ) (o : Option ℕ) → AreBytes p → o ≡ command_of p → IfSome o (HasCommandNumber p)
command_some p None fits e = tt
command_some p (Some n) fits e = command_sound p n fits (sym e)

pub command_none : (p : List ℕ) (o : Option ℕ) → o ≡ command_of p → IfNone o ((n : ℕ) → ¬ HasCommandNumber p n)
command_none p None e = λ n is. (let found = command_complete p n is in absurd cc)
command_none p (Some n) e = tt
