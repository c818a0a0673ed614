-- What is read of a part is what is encoded there, and what is encoded there is read.
use Rattle.std.proofs.Common.{◌≡◌, ℕ, ◌+◌, ◌-◌, ◌^◌, ◌<◌, ◌≤◌, Bool, true, false, cond, leb, List, ◌++◌, length, Option, Some, None, Result, Ok, Err, refl, sym, ap, subst, ◌∙◌, append_assoc}
use Rattle.std.proofs.lemmas.Bool.{leb-true, le-leb}
use Rattle.dpe_cbor.specs.Encoding.{head, IsHead}
use Rattle.dpe_cbor.specs.Source.{Source}
use Rattle.dpe_cbor.specs.Decoding.{Decoder, AreBytes, IsDecoder, argument_of, content_of}
use Rattle.dpe_cbor.proofs.DecoderLemmas.{AreBytes-rest, argument_decoder, content_decoder, IsString}
use Rattle.dpe_messages.proofs.Choices.{both_true}
use Rattle.dpe_quotes.specs.Reading.{Found, ◌>>=◌, found, between, array_in, string_in, number_in}

-- ---- a step of a reading

pub bind_ok : {A B : Type 0} → (r : Result A ℕ) (f : A → Result B ℕ) (y : B) → (r >>= f) ≡ Ok y → (x : A) × (r ≡ Ok x) × (f x ≡ Ok y)
bind_ok (Ok x) f y e = (x, refl, e)
bind_ok (Err at) f y e = absurd cc

abbrev pub fine : {A : Type 0} → A → Result A ℕ
fine x = Ok x

pub ok_is : {A : Type 0} → (x y : A) → fine x ≡ fine y → x ≡ y
ok_is x y e = cc

pub ok_passed : {A : Type 0} → (b : Bool) (r : Result A ℕ) (at : ℕ) (y : A) → cond b r (Err at) ≡ Ok y → (b ≡ true) × (r ≡ Ok y)
ok_passed true r at y e = (refl, e)
ok_passed false r at y e = absurd cc

pub between_is : (least most n : ℕ) → between least most n ≡ true → (least ≤ n) × (n ≤ most)
between_is least most n e =
    let both = both_true (leb least n) (leb n most) e in (leb-true least n both.0, leb-true n most both.1)

pub is_between : (least most n : ℕ) → least ≤ n → n ≤ most → between least most n ≡ true
is_between least most n low high = let one = le-leb least n low in let two = le-leb n most high in rw (one, two) refl

-- the source behind a part
abbrev pub behind : Source → List ℕ → Source
behind s after = record { at = s.at + (length s.rest - length after); rest = after }

-- the bytes between two sources
abbrev pub Begun : (List ℕ → Type 0) → Source → Source → Type 0
Begun P s t = (e : List ℕ) × P e × (s.rest ≡ e ++ t.rest)

abbrev pub Passed : {X : Type 0} → (X → Bool) → Source → Source → X → Option (X × List ℕ) → Type 0
Passed asked s t x o = (asked x ≡ true) × (o ≡ Some (x, t.rest))

found_passed : {X : Type 0} → (asked : X → Bool) (s t : Source) (x : X) (o : Option (X × List ℕ)) → found asked s o ≡ Ok (x, t) → Passed asked s t x o
found_passed asked s t x None e = absurd cc
found_passed {X} asked s t x (Some y) e =
    let test = ok_passed (asked y.0) (Ok (y.0, behind s y.1)) s.at (x, t) e in
    let same : (y.0, behind s y.1) ≡ (x, t) = ok_is (y.0, behind s y.1) (x, t) test.1 in
    subst (λ (p : X × Source). Passed asked s p.1 p.0 (Some y)) same (test.0, refl)

module _ {X : Type 0} (asked : X → Bool) (d : Decoder X) (P : X → List ℕ → Type 0) (laws : IsDecoder d P) where
  found_sound : (s t : Source) (x : X) → AreBytes s.rest → found asked s (d s.rest) ≡ Ok (x, t) → (asked x ≡ true) × Begun (P x) s t
  found_sound s t x fits e =
      let is = found_passed asked s t x (d s.rest) e in (is.0, laws.sound s.rest x t.rest fits is.1)

  found_complete : (s : Source) (x : X) (e after : List ℕ) → asked x ≡ true → P x e → s.rest ≡ e ++ after → found asked s (d s.rest) ≡ Ok (x, behind s after)
  found_complete s x e after test is parts =
      ap (found asked s) (ap d parts ∙ laws.complete x e after is)
      ∙ ap (λ (t : Bool). cond {A = Found X} t (Ok (x, behind s after)) (Err s.at)) test

-- ---- the parts

-- where e stands before what is left
abbrev pub Stands : List ℕ → Source → Source → Type 0
Stands e s t = s.rest ≡ e ++ t.rest

pub array_sound : (least most : ℕ) (s t : Source) (n : ℕ) → AreBytes s.rest → array_in least most s ≡ Ok (n, t) → (least ≤ n) × (n ≤ most) × Stands (head 4 n) s t
array_sound least most s t n fits e =
    let is = found_sound (between least most) (argument_of 4) (IsHead 4) (argument_decoder 4) s t n fits e in
    let range = between_is least most n is.0 in
    (range.0, range.1, is.1.2 ∙ ap (λ (x : List ℕ). x ++ t.rest) is.1.1.1)

pub number_sound : (least most : ℕ) (s t : Source) (n : ℕ) → AreBytes s.rest → number_in least most s ≡ Ok (n, t) → (least ≤ n) × (n ≤ most) × Stands (head 0 n) s t
number_sound least most s t n fits e =
    let is = found_sound (between least most) (argument_of 0) (IsHead 0) (argument_decoder 0) s t n fits e in
    let range = between_is least most n is.0 in
    (range.0, range.1, is.1.2 ∙ ap (λ (x : List ℕ). x ++ t.rest) is.1.1.1)

pub string_sound : (least most : ℕ) (s t : Source) (b : List ℕ) → AreBytes s.rest → string_in least most s ≡ Ok (b, t)
    → (least ≤ length b) × (length b ≤ most) × Stands (head 2 (length b) ++ b) s t
string_sound least most s t b fits e =
    let is = found_sound (λ (b : List ℕ). between least most (length b)) (content_of 2) (IsString 2) (content_decoder 2) s t b fits e in
    let range = between_is least most (length b) is.0 in
    (range.0, range.1, is.1.2 ∙ ap (λ (x : List ℕ). x ++ t.rest) is.1.1.1)

pub array_complete : (least most : ℕ) (s : Source) (n : ℕ) (after : List ℕ) → least ≤ n → n ≤ most → n < 2 ^ 64 → s.rest ≡ head 4 n ++ after
    → array_in least most s ≡ Ok (n, behind s after)
array_complete least most s n after low high fits is =
    found_complete (between least most) (argument_of 4) (IsHead 4) (argument_decoder 4) s n (head 4 n) after (is_between least most n low high) (fits, refl) is

pub number_complete : (least most : ℕ) (s : Source) (n : ℕ) (after : List ℕ) → least ≤ n → n ≤ most → n < 2 ^ 64 → s.rest ≡ head 0 n ++ after
    → number_in least most s ≡ Ok (n, behind s after)
number_complete least most s n after low high fits is =
    found_complete (between least most) (argument_of 0) (IsHead 0) (argument_decoder 0) s n (head 0 n) after (is_between least most n low high) (fits, refl) is

pub string_complete : (least most : ℕ) (s : Source) (b after : List ℕ) → least ≤ length b → length b ≤ most → length b < 2 ^ 64 → s.rest ≡ (head 2 (length b) ++ b) ++ after
    → string_in least most s ≡ Ok (b, behind s after)
string_complete least most s b after low high fits is =
    found_complete (λ (b : List ℕ). between least most (length b)) (content_of 2) (IsString 2) (content_decoder 2) s b (head 2 (length b) ++ b) after
    (is_between least most (length b) low high) (fits, refl) is

-- ---- parts in a row

pub bytes_behind : (e : List ℕ) (s t : Source) → AreBytes s.rest → Stands e s t → AreBytes t.rest
bytes_behind e s t fits is = AreBytes-rest e t.rest s.rest fits is

pub joined : (a b : List ℕ) (s t u : Source) → Stands a s t → Stands b t u → Stands (a ++ b) s u
joined a b s t u one two = one ∙ ap (λ (x : List ℕ). a ++ x) two ∙ sym (append_assoc a b u.rest)

pub apart : (a b after r : List ℕ) → r ≡ (a ++ b) ++ after → r ≡ a ++ (b ++ after)
apart a b after r e = e ∙ append_assoc a b after
