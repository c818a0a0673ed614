-- What a payload has to be for its class to be a command.
use Rattle.std.proofs.Common.{◌≡◌, ℕ, Bool, true, false, cond, eqb, not, List, [], ◌∷◌, ◌++◌, length, Option, Some, None, unwrap_or, refl, subst, arith, inl, inr}
use Rattle.std.proofs.lemmas.Bool.{cases_lt}
use Rattle.std.proofs.lemmas.List.{append-nil, get_or_past, get_or_append_left}
use Rattle.dpe_cbor.specs.Item.{pair_count}
use Rattle.dpe_cbor.specs.Encoding.{head, encoding, pairs_encoding}
use Rattle.dpe_cbor.specs.Decoding.{AreBytes}
use Rattle.dpe_cbor.proofs.DecoderLemmas.{AreBytes-rest}
use Rattle.dpe_messages.specs.FlatMap.{Value, number, byte_string, text_string, truth, FlatMap, item_of, pairs_of, value_at}
use Rattle.dpe_messages.specs.Arguments.{arguments, is_outside, is_right}
use Rattle.dpe_messages.specs.Request.{Request, bytes_or, bytes_if, config_of, request_from, request}
use Rattle.dpe_messages.specs.Layers.{IsInner}
use Rattle.dpe_messages.specs.Reading.{outer_of, inner_of}
use Rattle.dpe_messages.specs.Class.{refused, accepted, class_of, class_of_inner, class_of_outer, class, is_command_number, is_unsupported}
use Rattle.dpe_messages.specs.Ranges.{InRanges, AcceptedInRanges, byte_strings, configuration_bytes, AllAreBytes, AcceptedAreBytes}
use Rattle.dpe_messages.proofs.Decoders.{outer_sound, inner_sound}
use Rattle.dpe_messages.proofs.OneClassLemmas.{inner_bytes}
use Rattle.dpe_messages.proofs.RangeLemmas.{right_in_ranges, by_number}

-- a right map in the payload, of which the request is made
pub record IsAccepted (p : List ℕ) (r : Request) : Type 0 where
  pub session : ℕ
  pub inner : List ℕ
  pub number : ℕ
  pub map : FlatMap
  pub outer_is : outer_of p ≡ Some (session, inner)
  pub inner_is : inner_of inner ≡ Some (number, map)
  pub right : is_right (arguments number) map ≡ true
  pub made : request number map ≡ r

same_request : (r s : Request) → accepted r ≡ accepted s → r ≡ s
same_request r s e = cc

of_lines : (n : ℕ) (m : FlatMap) (r : Request) (number out asks right : Bool) → is_right (arguments n) m ≡ right
    → cond (not number) (refused 2) (cond out (refused 16) (cond asks (refused 16) (cond (not right) (refused 3) (accepted (request n m))))) ≡ accepted r
    → (is_right (arguments n) m ≡ true) × (request n m ≡ r)
of_lines n m r false out asks right is e = absurd cc
of_lines n m r true true asks right is e = absurd cc
of_lines n m r true false true right is e = absurd cc
of_lines n m r true false false false is e = absurd cc
of_lines n m r true false false true is e = (is, same_request (request n m) r e)

of_map : (n : ℕ) (m : FlatMap) (r : Request) → class_of n m ≡ accepted r → (is_right (arguments n) m ≡ true) × (request n m ≡ r)
unfolding class_of
of_map n m r e = of_lines n m r (is_command_number n) (is_unsupported n) (is_outside (arguments n) m) (is_right (arguments n) m) refl e

of_inner : (p : List ℕ) (session : ℕ) (b : List ℕ) (o : Option (ℕ × FlatMap)) (r : Request) → outer_of p ≡ Some (session, b) → inner_of b ≡ o → class_of_inner o ≡ accepted r → IsAccepted p r
of_inner p session b None r outer inner e = absurd cc
of_inner p session b (Some i) r outer inner e =
    let lines = of_map i.0 i.1 r e in
    record { session = session; inner = b; number = i.0; map = i.1; outer_is = outer; inner_is = inner; right = lines.0; made = lines.1 }

of_session : (p : List ℕ) (session : ℕ) (inner : List ℕ) (zero : Bool) (r : Request) → outer_of p ≡ Some (session, inner) → cond zero (class_of_inner (inner_of inner)) (refused 16) ≡ accepted r → IsAccepted p r
of_session p session inner true r outer e = of_inner p session inner (inner_of inner) r outer refl e
of_session p session inner false r outer e = absurd cc

of_outer : (p : List ℕ) (o : Option (ℕ × List ℕ)) (r : Request) → outer_of p ≡ o → class_of_outer o ≡ accepted r → IsAccepted p r
of_outer p None r outer e = absurd cc
of_outer p (Some o) r outer e = of_session p o.0 o.1 (eqb o.0 0) r outer e

pub is_accepted : (p : List ℕ) (r : Request) → class p ≡ accepted r → IsAccepted p r
unfolding class
is_accepted p r e = of_outer p (outer_of p) r refl e

pub accepted_in_ranges : AcceptedInRanges
unfolding request
accepted_in_ranges p r e =
    let is = is_accepted p r e in
    subst InRanges is.made (right_in_ranges is.number is.map is.right)

-- ---- the byte strings of a payload of bytes are of bytes

AreBytes-front : (e after : List ℕ) → AreBytes (e ++ after) → AreBytes e
AreBytes-front e after fits i =
    elim (cases_lt i (length e)) [
      | inl lt ↦ rw (← get_or_append_left e after 0 i lt) (fits i)
      | inr le ↦ rw (get_or_past e i 0 le) (omega arith)
    ]

abbrev IsOfBytes : Value → Type 0
IsOfBytes (number n) = Unit {0}
IsOfBytes (byte_string b) = AreBytes b
IsOfBytes (text_string t) = Unit {0}
IsOfBytes (truth b) = Unit {0}

value_bytes : (v : Value) → AreBytes (encoding (item_of v)) → IsOfBytes v
value_bytes (number n) fits = tt
value_bytes (byte_string b) fits = AreBytes-rest (head 2 (length b)) b (head 2 (length b) ++ b) fits refl
value_bytes (text_string t) fits = tt
value_bytes (truth b) fits = tt

abbrev IfOfBytes : Option Value → Type 0
IfOfBytes None = Unit {0}
IfOfBytes (Some v) = IsOfBytes v

if_cond : (b : Bool) (v : Value) (o : Option Value) → IsOfBytes v → IfOfBytes o → IfOfBytes (cond b (Some v) o)
if_cond true v o first others = first
if_cond false v o first others = others

map_bytes : (m : FlatMap) → AreBytes (pairs_encoding (pairs_of m)) → (key : ℕ) → IfOfBytes (value_at key m)
map_bytes [] fits key = tt
map_bytes (e ∷ m) fits key =
    let others = pairs_encoding (pairs_of m) in
    let after_key = AreBytes-rest (head 0 e.0) (encoding (item_of e.1) ++ others) (pairs_encoding (pairs_of (e ∷ m))) fits refl in
    if_cond (eqb e.0 key) e.1 (value_at key m)
    (value_bytes e.1 (AreBytes-front (encoding (item_of e.1)) others after_key))
    (map_bytes m (AreBytes-rest (encoding (item_of e.1)) others (encoding (item_of e.1) ++ others) after_key refl) key)

no_bytes : AreBytes []
no_bytes i = omega arith

bytes_or_of : (o : Option Value) → IfOfBytes o → AreBytes (bytes_or [] o)
bytes_or_of None is = no_bytes
bytes_or_of (Some (number n)) is = no_bytes
bytes_or_of (Some (byte_string b)) is = is
bytes_or_of (Some (text_string t)) is = no_bytes
bytes_or_of (Some (truth b)) is = no_bytes

bytes_if_of : (o : Option Value) → IfOfBytes o → AreBytes (unwrap_or (bytes_if o) [])
bytes_if_of None is = no_bytes
bytes_if_of (Some (number n)) is = no_bytes
bytes_if_of (Some (byte_string b)) is = is
bytes_if_of (Some (text_string t)) is = no_bytes
bytes_if_of (Some (truth b)) is = no_bytes

config_bytes : (o d : Option Value) → IfOfBytes o → IfOfBytes d → AreBytes (configuration_bytes (config_of o d))
config_bytes None d is is_d = bytes_or_of d is_d
config_bytes (Some (number n)) d is is_d = bytes_or_of d is_d
config_bytes (Some (byte_string b)) d is is_d = is
config_bytes (Some (text_string t)) d is is_d = bytes_or_of d is_d
config_bytes (Some (truth b)) d is is_d = bytes_or_of d is_d

module _ (at : ℕ → Option Value) (is : (key : ℕ) → IfOfBytes (at key)) where
  string : (key : ℕ) → AreBytes (bytes_or [] (at key))
  string key = bytes_or_of (at key) (is key)

  named : AreBytes (unwrap_or (bytes_if (at 1)) [])
  named = bytes_if_of (at 1) (is 1)

  request_bytes : (n : ℕ) → AllAreBytes (byte_strings (request_from n at))
  request_bytes n =
      by_number (λ table made. AllAreBytes (byte_strings (made at)))
      tt
      (named, (string 2, (config_bytes (at 3) (at 4) (is 3) (is 4), (string 5, (bytes_if_of (at 7) (is 7), tt)))))
      (named, (string 2, (string 5, tt)))
      (named, (string 2, (string 6, tt)))
      (named, (string 2, (string 5, tt)))
      (named, tt)
      (named, tt)
      tt
      n

inner_map_bytes : (b : List ℕ) (n : ℕ) (m : FlatMap) → AreBytes b → IsInner b n m → AreBytes (pairs_encoding (pairs_of m))
inner_map_bytes b n m fits is =
    let whole_map = head 5 (pair_count (pairs_of m)) ++ pairs_encoding (pairs_of m) in
    let items = AreBytes-rest (head 4 2) (head 0 n ++ (whole_map ++ [])) b fits is.1 in
    let last = AreBytes-rest (head 0 n) (whole_map ++ []) (head 0 n ++ (whole_map ++ [])) items refl in
    AreBytes-rest (head 5 (pair_count (pairs_of m))) (pairs_encoding (pairs_of m)) (whole_map ++ []) last (append-nil whole_map)

pub accepted_are_bytes : AcceptedAreBytes
unfolding request
accepted_are_bytes p r fits e =
    let is = is_accepted p r e in
    let inner_fits = inner_bytes p is.session is.inner fits (outer_sound p is.session is.inner fits is.outer_is) in
    let map_fits = inner_map_bytes is.inner is.number is.map inner_fits (inner_sound is.inner is.number is.map inner_fits is.inner_is) in
    subst (λ (q : Request). AllAreBytes (byte_strings q)) is.made (request_bytes (λ key. value_at key is.map) (map_bytes is.map map_fits) is.number)
