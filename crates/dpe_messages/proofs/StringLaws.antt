-- What is read of a reply's map that has byte strings alone is what is encoded there.
use Rattle.std.proofs.Common.{◌≡◌, ℕ, ◌^◌, ◌<◌, cond, eqb, ◌&&◌, List, [], ◌++◌, length, Some, None, refl, sym, ap, subst, ◌∙◌, append_assoc, arith, inl, inr}
use Rattle.std.specs.Prelude.{IfSome}
use Rattle.std.proofs.lemmas.Bool.{eqb-true}
use Rattle.std.proofs.lemmas.List.{append-nil}
use Rattle.dpe_cbor.specs.Encoding.{head, pairs_encoding, IsHead}
use Rattle.dpe_cbor.specs.Decoding.{◌>>=◌, AreBytes, IsDecoder, argument_of, content_of}
use Rattle.dpe_cbor.proofs.DecoderLemmas.{bind_some, some_is, passed, AreBytes-rest, argument_decoder, content_decoder, IsString, Both, both_decoder, whole_sound, whole_complete}
use Rattle.dpe_messages.specs.FlatMap.{FlatMap, pairs_of}
use Rattle.dpe_messages.specs.Message.{present, inner, message}
use Rattle.dpe_messages.specs.Reading.{two_of, outer_of}
use Rattle.dpe_messages.specs.ReplyFields.{Strings, string_rows, field_of, one_field_of, two_fields_of, fields_of, strings_map_of, inner_strings_of, reply_strings_of}
use Rattle.dpe_messages.proofs.Choices.{chosen, both_true}
use Rattle.dpe_messages.proofs.Decoders.{Two, two_decoder, outer_sound, outer_complete}
use Rattle.dpe_messages.proofs.OneClassLemmas.{inner_bytes}
use Rattle.dpe_messages.proofs.Writing.{map_is}

-- the lengths have 64 bits
abbrev pub Fit : Strings → Type 0
Fit s = IfSome s.0 (λ b. length b < 2 ^ 64) × IfSome s.1 (λ b. length b < 2 ^ 64)

abbrev pub map_of : Strings → FlatMap
map_of s = present (string_rows s)

abbrev spelled : Strings → List ℕ
spelled s = pairs_encoding (pairs_of (map_of s))

-- ---- a key and a byte string

abbrev field_bytes : ℕ → List ℕ → List ℕ
field_bytes k b = head 0 k ++ (head 2 (length b) ++ b)

abbrev IsField : ℕ × List ℕ → List ℕ → Type 0
IsField = Both (argument_of 0) (content_of 2) (IsHead 0) (IsString 2)

field_decoder : IsDecoder field_of IsField
field_decoder = both_decoder (argument_of 0) (content_of 2) (IsHead 0) (IsString 2) (argument_decoder 0) (content_decoder 2)

field_sound : (b : List ℕ) (f : ℕ × List ℕ) (after : List ℕ) → AreBytes b → field_of b ≡ Some (f, after) → (length f.1 < 2 ^ 64) × (b ≡ field_bytes f.0 f.1 ++ after)
field_sound b f after fits e =
    let is = field_decoder.sound b f after fits e in
    let parts = is.1 in
    (parts.3.0, is.2 ∙ ap (λ (x : List ℕ). x ++ after) (parts.4 ∙ ap (λ (x : List ℕ). x ++ parts.1) parts.2.1 ∙ ap (λ (x : List ℕ). head 0 f.0 ++ x) parts.3.1))

field_complete : (k : ℕ) (b after : List ℕ) → k < 2 ^ 64 → length b < 2 ^ 64 → field_of (field_bytes k b ++ after) ≡ Some ((k, b), after)
field_complete k b after key_fits fits = field_decoder.complete (k, b) (field_bytes k b) after (head 0 k, head 2 (length b) ++ b, (key_fits, refl), (fits, refl), refl)

-- ---- so many fields

first_spelled : (f : List ℕ) → spelled (Some f, None) ≡ field_bytes 1 f
first_spelled f = ap (λ (x : List ℕ). head 0 1 ++ x) (append-nil (head 2 (length f) ++ f))

second_spelled : (g : List ℕ) → spelled (None, Some g) ≡ field_bytes 2 g
second_spelled g = ap (λ (x : List ℕ). head 0 2 ++ x) (append-nil (head 2 (length g) ++ g))

both_spelled : (f g : List ℕ) → spelled (Some f, Some g) ≡ field_bytes 1 f ++ field_bytes 2 g
both_spelled f g =
    ap (λ (x : List ℕ). head 0 1 ++ ((head 2 (length f) ++ f) ++ x)) (second_spelled g) ∙ sym (append_assoc (head 0 1) (head 2 (length f) ++ f) (field_bytes 2 g))

abbrev IsStrings : ℕ → Strings → List ℕ → Type 0
IsStrings count s e = (length (map_of s) ≡ count) × Fit s × (e ≡ spelled s)

abbrev Begun : ℕ → List ℕ → Strings × List ℕ → Type 0
Begun count b p = (e : List ℕ) × IsStrings count p.0 e × (b ≡ e ++ p.1)

one_sound : (b : List ℕ) (s : Strings) (after : List ℕ) → AreBytes b → one_field_of b ≡ Some (s, after) → Begun 1 b (s, after)
one_sound b s after fits e =
    let step = bind_some (field_of b) (λ f. cond (eqb f.0.0 1) (Some ((Some f.0.1, None), f.1)) (cond (eqb f.0.0 2) (Some ((None, Some f.0.1), f.1)) None)) (s, after) e in
    let k = step.0.0.0 in
    let x = step.0.0.1 in
    let r = step.0.1 in
    let is = field_sound b step.0.0 r fits step.1 in
    elim (chosen (eqb k 1) (Some ((Some x, None), r)) (cond (eqb k 2) (Some ((None, Some x), r)) None) (Some (s, after)) step.2) [
      | inl u ↦
          subst (Begun 1 b) (some_is ((Some x, None), r) (s, after) u.1)
          (field_bytes 1 x, (refl, (is.0, tt), sym (first_spelled x)), is.1 ∙ ap (λ (n : ℕ). field_bytes n x ++ r) (eqb-true k 1 u.0))
      | inr u ↦
          let test = passed (eqb k 2) (Some ((None, Some x), r)) (s, after) u.1 in
          subst (Begun 1 b) (some_is ((None, Some x), r) (s, after) test.1)
          (field_bytes 2 x, (refl, (tt, is.0), sym (second_spelled x)), is.1 ∙ ap (λ (n : ℕ). field_bytes n x ++ r) (eqb-true k 2 test.0))
    ]

two_sound : (b : List ℕ) (s : Strings) (after : List ℕ) → AreBytes b → two_fields_of b ≡ Some (s, after) → Begun 2 b (s, after)
two_sound b s after fits e =
    let step = bind_some (field_of b) (λ f. field_of f.1 >>= λ g. cond (eqb f.0.0 1 && eqb g.0.0 2) (Some ((Some f.0.1, Some g.0.1), g.1)) None) (s, after) e in
    let k = step.0.0.0 in
    let x = step.0.0.1 in
    let next = bind_some (field_of step.0.1) (λ g. cond (eqb k 1 && eqb g.0.0 2) (Some ((Some x, Some g.0.1), g.1)) None) (s, after) step.2 in
    let l = next.0.0.0 in
    let y = next.0.0.1 in
    let r = next.0.1 in
    let test = passed (eqb k 1 && eqb l 2) (Some ((Some x, Some y), r)) (s, after) next.2 in
    let keys = both_true (eqb k 1) (eqb l 2) test.0 in
    let one = field_sound b step.0.0 step.0.1 fits step.1 in
    let two = field_sound step.0.1 next.0.0 r (AreBytes-rest (field_bytes k x) step.0.1 b fits one.1) next.1 in
    let first : b ≡ field_bytes 1 x ++ step.0.1 = one.1 ∙ ap (λ (n : ℕ). field_bytes n x ++ step.0.1) (eqb-true k 1 keys.0) in
    let second : step.0.1 ≡ field_bytes 2 y ++ r = two.1 ∙ ap (λ (n : ℕ). field_bytes n y ++ r) (eqb-true l 2 keys.1) in
    subst (Begun 2 b) (some_is ((Some x, Some y), r) (s, after) test.1) (
      field_bytes 1 x ++ field_bytes 2 y,
      (refl, (one.0, two.0), sym (both_spelled x y)),
      first ∙ ap (λ (z : List ℕ). field_bytes 1 x ++ z) second ∙ sym (append_assoc (field_bytes 1 x) (field_bytes 2 y) r),
    )

fields_sound : (count : ℕ) (b : List ℕ) (s : Strings) (after : List ℕ) → AreBytes b → fields_of count b ≡ Some (s, after) → Begun count b (s, after)
fields_sound count b s after fits e =
    elim (chosen (eqb count 0) (Some ((None, None), b)) (cond (eqb count 1) (one_field_of b) (cond (eqb count 2) (two_fields_of b) None)) (Some (s, after)) e) [
      | inl t ↦ subst (Begun count b) (some_is ((None, None), b) (s, after) t.1) ([], (sym (eqb-true count 0 t.0), (tt, tt), refl), refl)
      | inr t ↦ elim (chosen (eqb count 1) (one_field_of b) (cond (eqb count 2) (two_fields_of b) None) (Some (s, after)) t.1) [
        | inl u ↦ subst (λ (n : ℕ). Begun n b (s, after)) (sym (eqb-true count 1 u.0)) (one_sound b s after fits u.1)
        | inr u ↦
            let test = passed (eqb count 2) (two_fields_of b) (s, after) u.1 in
            subst (λ (n : ℕ). Begun n b (s, after)) (sym (eqb-true count 2 test.0)) (two_sound b s after fits test.1)
      ]
    ]

strings_complete : (s : Strings) (after : List ℕ) → Fit s → fields_of (length (map_of s)) (spelled s ++ after) ≡ Some (s, after)
strings_complete (None, None) after fit = refl
strings_complete (Some f, None) after fit = rw (first_spelled f, field_complete 1 f after (omega arith) fit.0) refl
strings_complete (None, Some g) after fit = rw (second_spelled g, field_complete 2 g after (omega arith) fit.1) refl
strings_complete (Some f, Some g) after fit =
    let grouped : spelled (Some f, Some g) ++ after ≡ field_bytes 1 f ++ (field_bytes 2 g ++ after) =
    ap (λ (x : List ℕ). x ++ after) (both_spelled f g) ∙ append_assoc (field_bytes 1 f) (field_bytes 2 g) after in
    rw (grouped, field_complete 1 f (field_bytes 2 g ++ after) (omega arith) fit.0, field_complete 2 g after (omega arith) fit.1) refl

-- ---- the map

abbrev IsStringsMap : Strings → List ℕ → Type 0
IsStringsMap s e = Fit s × (e ≡ head 5 (length (map_of s)) ++ spelled s)

count_small : (s : Strings) → length (map_of s) < 2 ^ 64
count_small (None, None) = omega arith
count_small (Some f, None) = omega arith
count_small (None, Some g) = omega arith
count_small (Some f, Some g) = omega arith

strings_map_decoder : IsDecoder strings_map_of IsStringsMap
unfolding strings_map_of
strings_map_decoder = record {
  sound = λ b s after fits e.
      let count = bind_some (argument_of 5 b) (λ count. fields_of count.0 count.1) (s, after) e in
      let at_head = (argument_decoder 5).sound b count.0.0 count.0.1 fits count.1 in
      let at_fields = fields_sound count.0.0 count.0.1 s after (AreBytes-rest at_head.0 count.0.1 b fits at_head.2) count.2 in
      let len = at_fields.1.0 in (
        head 5 (length (map_of s)) ++ at_fields.0,
        (at_fields.1.1, ap (λ (x : List ℕ). head 5 (length (map_of s)) ++ x) at_fields.1.2),
        at_head.2 ∙ ap (λ (x : List ℕ). x ++ count.0.1) (at_head.1.1 ∙ ap (head 5) (sym len)) ∙ ap (λ (r : List ℕ). head 5 (length (map_of s)) ++ r) at_fields.2 ∙ sym (append_assoc (head 5 (length (map_of s))) at_fields.0 after),
      );
  complete = λ s e after is.
      let grouped : e ++ after ≡ head 5 (length (map_of s)) ++ (spelled s ++ after) = ap (λ (x : List ℕ). x ++ after) is.1 ∙ append_assoc (head 5 (length (map_of s))) (spelled s) after in
      rw (grouped, (argument_decoder 5).complete (length (map_of s)) (head 5 (length (map_of s))) (spelled s ++ after) (count_small s, refl)) (strings_complete s after is.0);
}

-- ---- the inner bytes

abbrev IsTwoInner : ℕ × Strings → List ℕ → Type 0
IsTwoInner = Two (argument_of 0) strings_map_of (IsHead 0) IsStringsMap

inner_decoder : IsDecoder (two_of (argument_of 0) strings_map_of) IsTwoInner
inner_decoder = two_decoder (argument_of 0) strings_map_of (IsHead 0) IsStringsMap (argument_decoder 0) strings_map_decoder

inner_sound : (b : List ℕ) (code : ℕ) (s : Strings) → AreBytes b → inner_strings_of b ≡ Some (code, s) → b ≡ inner code (map_of s)
unfolding inner_strings_of
inner_sound b code s fits e =
    let is = whole_sound (two_of (argument_of 0) strings_map_of) IsTwoInner inner_decoder b (code, s) fits e in
    let items = is.1 in
    is.2 ∙ ap (λ (x : List ℕ). head 4 2 ++ x) (items.4 ∙ ap (λ (x : List ℕ). x ++ items.1) items.2.1 ∙ ap (λ (x : List ℕ). head 0 code ++ x) items.3.1) ∙ sym (map_is code (map_of s))

inner_complete : (code : ℕ) (s : Strings) → code < 2 ^ 64 → Fit s → inner_strings_of (inner code (map_of s)) ≡ Some (code, s)
unfolding inner_strings_of
inner_complete code s lt fit =
    let map = head 5 (length (map_of s)) ++ spelled s in
    whole_complete (two_of (argument_of 0) strings_map_of) IsTwoInner inner_decoder (inner code (map_of s)) (code, s)
    (head 0 code ++ map, (head 0 code, map, (lt, refl), (fit, refl), refl), map_is code (map_of s))

-- ---- the payload

pub payload_sound : (p : List ℕ) (code : ℕ) (s : Strings) → AreBytes p → reply_strings_of p ≡ Some (code, s) → p ≡ message code (map_of s)
unfolding message
payload_sound p code s fits e =
    let step = bind_some (outer_of p) (λ o. cond (eqb o.0 0) (inner_strings_of o.1) None) (code, s) e in
    let test = passed (eqb step.0.0 0) (inner_strings_of step.0.1) (code, s) step.2 in
    let outer = outer_sound p step.0.0 step.0.1 fits step.1 in
    let b = step.0.1 in
    let is = inner_sound b code s (inner_bytes p step.0.0 b fits outer) test.1 in
    outer.1 ∙ ap (λ (n : ℕ). head 4 2 ++ (head 0 n ++ ((head 2 (length b) ++ b) ++ []))) (eqb-true step.0.0 0 test.0)
    ∙ ap (λ (x : List ℕ). head 4 2 ++ (head 0 0 ++ ((head 2 (length x) ++ x) ++ []))) is

pub payload_complete : (code : ℕ) (s : Strings) → code < 2 ^ 64 → Fit s → length (inner code (map_of s)) < 2 ^ 64 → reply_strings_of (message code (map_of s)) ≡ Some (code, s)
unfolding message
payload_complete code s lt fit short =
    let b = inner code (map_of s) in
    rw (outer_complete (message code (map_of s)) 0 b ((omega arith, (omega arith, (short, tt))), refl)) (inner_complete code s lt fit)
