-- What is used of the messages.
use Rattle.std.proofs.Common.{◌≡◌, ℕ, ◌≤◌, ◌<◌, ◌^◌, Bool, true, false, cond, eqb, not, length-append, List, [], ◌++◌, length, Option, Some, None, refl, ap, subst, ◌∙◌, inl, inr, arith}
use Rattle.std.specs.Option.{option_map}
use Rattle.std.proofs.lemmas.Str.{IsUtf8-from_ascii}
use Rattle.std.specs.Str.{IsAscii}
use Rattle.std.proofs.lemmas.List.Elements.{All-from_recursion}
use Rattle.std.proofs.lemmas.Str.Ascii.{IsAscii-from_all}
use Rattle.dpe_cbor.specs.Item.{IsItem, uint, map}
use Rattle.dpe_cbor.specs.Encoding.{head}
use Rattle.dpe_cbor.specs.Decoding.{◌>>=◌}
use Rattle.dpe_messages.specs.FlatMap.{FlatMap, pairs_of}
use Rattle.dpe_messages.specs.Layers.{two}
use Rattle.dpe_messages.specs.Reading.{outer_of, inner_of}
use Rattle.dpe_messages.specs.Message.{present, message, inner}
use Rattle.dpe_messages.specs.Class.{Class, refused, accepted, class, class_of, class_of_outer, class_of_inner, is_command_number, is_unsupported}
use Rattle.dpe_messages.specs.Arguments.{arguments, is_outside, is_right}
use Rattle.dpe_messages.specs.Request.{request}
use Rattle.dpe_messages.specs.Replies as replies
use Rattle.dpe_messages.proofs.Decoders.{outer_complete, inner_complete}
use Rattle.dpe_messages.proofs.ReplySizes.{reply_fits}
use Rattle.dpe_model.specs.History.{reply_of, reply_code}

-- ## A reply is read back

inner_within : (n : ℕ) (m : FlatMap) → length (inner n m) ≤ length (message n m)
unfolding message
inner_within n m =
    let b = inner n m in
    let h = head 2 (length b) in
    omega (arith, length-append (head 4 2) (head 0 0 ++ ((h ++ b) ++ [])), length-append (head 0 0) ((h ++ b) ++ []), length-append (h ++ b) [], length-append h b)

outer_is : (n : ℕ) (m : FlatMap) → length (inner n m) < 2 ^ 64 → outer_of (message n m) ≡ Some (0, inner n m)
unfolding message
outer_is n m short = outer_complete (message n m) 0 (inner n m) ((omega arith, (omega arith, (short, tt))), refl)

inner_is : (n : ℕ) (m : FlatMap) → IsItem (two (uint n) (map (pairs_of m))) → inner_of (inner n m) ≡ Some (n, m)
unfolding inner
inner_is n m is = inner_complete (inner n m) n m (is, refl)

message_read : (n : ℕ) (m : FlatMap) → length (message n m) ≤ 4096 → IsItem (two (uint n) (map (pairs_of m))) → reply_of (message n m) ≡ Some (n, m)
message_read n m fits is =
    let outer = outer_is n m (let short = inner_within n m in omega arith) in
    ap (λ o. o >>= λ x. cond (eqb x.0 0) (inner_of x.1) None) outer ∙ inner_is n m is

small_code : (code : ℕ) → replies.IsRefusalCode code → code < 2 ^ 64
small_code code (inl h) = omega arith
small_code code (inr (inl h)) = omega arith
small_code code (inr (inr (inl h))) = omega arith
small_code code (inr (inr (inr h))) = let high = h.1 in omega arith

name_is_ascii : IsAscii replies.profile_name
name_is_ascii = IsAscii-from_all replies.profile_name (All-from_recursion (λ b. b < 128) replies.profile_name
    (omega arith, (omega arith, (omega arith, (omega arith, (omega arith, (omega arith, (omega arith, (omega arith, (omega arith, (omega arith, (omega arith, (omega arith, (omega arith, (omega arith, (omega arith, tt))))))))))))))))

-- the number and the map of a reply are an item
reply_is_item : (r : replies.Response) → replies.IsSendable r → IsItem (two (uint (replies.code_of r)) (map (pairs_of (present (replies.reply_rows r)))))
reply_is_item (replies.refused code) h = (omega arith, (small_code code h, ((omega arith, tt, tt), tt)))
reply_is_item replies.profile h = (
  omega arith,
  (
    omega arith,
    (
      (
        omega arith,
        (omega arith, (omega arith, IsUtf8-from_ascii replies.profile_name name_is_ascii), (omega arith, omega arith, (omega arith, omega arith, (omega arith, omega arith, tt)))),
        (tt, (omega arith, (omega arith, (omega arith, tt)))),
      ),
      tt,
    ),
  ),
)
reply_is_item (replies.handle a) h = (omega arith, (omega arith, ((omega arith, (omega arith, omega (arith, h), tt), (tt, tt)), tt)))
reply_is_item (replies.derived c None) h = (omega arith, (omega arith, ((omega arith, (omega arith, omega (arith, h.0), tt), (tt, tt)), tt)))
reply_is_item (replies.derived c (Some p)) h =
    (omega arith, (omega arith, ((omega arith, (omega arith, omega (arith, h.0), (omega arith, omega (arith, h.1), tt)), (tt, (omega arith, tt))), tt)))
reply_is_item (replies.made None b) h = (omega arith, (omega arith, ((omega arith, (omega arith, omega (arith, h.1), tt), (tt, tt)), tt)))
reply_is_item (replies.made (Some a) b) h =
    (omega arith, (omega arith, ((omega arith, (omega arith, omega (arith, h.0), (omega arith, omega (arith, h.1), tt)), (tt, (omega arith, tt))), tt)))
reply_is_item replies.done h = (omega arith, (omega arith, ((omega arith, tt, tt), tt)))

-- A reply that may be sent is read back.
pub reply_read : (r : replies.Response) → replies.IsSendable r → reply_of (replies.reply_payload r) ≡ Some (replies.code_of r, present (replies.reply_rows r))
reply_read r h = message_read (replies.code_of r) (present (replies.reply_rows r)) (reply_fits r h) (reply_is_item r h)

pub code_read : (r : replies.Response) → replies.IsSendable r → reply_code (replies.reply_payload r) ≡ Some (replies.code_of r)
code_read r h = ap (option_map (λ r. r.0)) (reply_read r h)

-- a class that is a refusal has one of its codes
abbrev IsClassCode : Class → Type 0
IsClassCode (refused code) = replies.IsRefusalCode code
IsClassCode (accepted request) = Unit {0}

by_tests : (a b c d : Bool) (r : Class) → IsClassCode r →
    IsClassCode (cond a (refused 2) (cond b (refused 16) (cond c (refused 16) (cond d (refused 3) r))))
by_tests true b c d r h = inl refl
by_tests false true c d r h = inr (inr (inr (omega arith, omega arith)))
by_tests false false true d r h = inr (inr (inr (omega arith, omega arith)))
by_tests false false false true r h = inr (inl refl)
by_tests false false false false r h = h

inner_coded : (n : ℕ) (m : FlatMap) → IsClassCode (class_of n m)
unfolding class_of
inner_coded n m = by_tests (not (is_command_number n)) (is_unsupported n) (is_outside (arguments n) m) (not (is_right (arguments n) m)) (accepted (request n m)) tt

by_inner : (o : Option (ℕ × FlatMap)) → IsClassCode (class_of_inner o)
by_inner None = inl refl
by_inner (Some i) = inner_coded i.0 i.1

by_session : (b : Bool) (o : Option (ℕ × FlatMap)) → IsClassCode (cond b (class_of_inner o) (refused 16))
by_session true o = by_inner o
by_session false o = inr (inr (inr (omega arith, omega arith)))

by_outer : (o : Option (ℕ × List ℕ)) → IsClassCode (class_of_outer o)
by_outer None = inl refl
by_outer (Some o) = by_session (eqb o.0 0) (inner_of o.1)

class_coded : (p : List ℕ) → IsClassCode (class p)
unfolding class
class_coded p = by_outer (outer_of p)

class_code_by : (code : ℕ) (c : Class) → c ≡ refused code → IsClassCode c → replies.IsRefusalCode code
class_code_by code (refused other) k h = let same : other ≡ code = cc in subst replies.IsRefusalCode same h
class_code_by code (accepted request) k h = cc

pub class_code : (p : List ℕ) (code : ℕ) → class p ≡ refused code → replies.IsRefusalCode code
class_code p code e = class_code_by code (class p) e (class_coded p)
