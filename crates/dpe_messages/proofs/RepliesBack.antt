-- A payload is one reply to a command, and its number is the reply's code.
use Rattle.std.proofs.Common.{◌≡◌, ◌≢◌, ℕ, zero, suc, Bool, true, ltb, ◌&&◌, ◌^◌, ◌<◌, ◌≤◌, ◌⊎◌, List, [], ◌∷◌, length, Some, None, refl, sym, ap, ◌∙◌, arith, inl, inr}
use Rattle.std.specs.Str.{IsUtf8, IsAscii}
use Rattle.std.proofs.lemmas.Bool.{ltb-true}
use Rattle.std.proofs.lemmas.Str.{IsUtf8-from_ascii}
use Rattle.std.proofs.lemmas.Str.Ascii.{IsAscii-nil}
use Rattle.dpe_cbor.specs.Encoding.{head}
use Rattle.dpe_cbor.specs.Heads.{head_at}
use Rattle.dpe_cbor.specs.Decoding.{argument_of, content_of}
use Rattle.dpe_cbor.proofs.DecoderLemmas.{some_is}
use Rattle.dpe_messages.specs.Reading.{outer_of, number_of}
use Rattle.dpe_messages.specs.Message.{present, inner, message}
use Rattle.dpe_messages.specs.Replies.{Response, refused, profile, handle, derived, made, done, IsReplyTo, IsSendable, code_of, reply_rows, reply_payload, profile_name}
use Rattle.dpe_messages.specs.ReplyFields.{reply_strings_of, inner_strings_of, strings_map_of, told_by}
use Rattle.dpe_messages.specs.declared.reply_reader.Asked.{Asked}
use Rattle.dpe_messages.proofs.Choices.{both_true}
use Rattle.dpe_messages.proofs.Writing.{message_length}
use Rattle.dpe_messages.proofs.ReplySizes.{reply_fits}
use Rattle.dpe_messages.proofs.ReplyLaws.{reply_complete, sendable, code_fits}
use Rattle.dpe_messages.proofs.ReadingBack.{RiseAfter, AreFit, number_read, few_pairs}

profile_or_not : (r : Response) → (r ≡ profile) ⊎ (r ≢ profile)
profile_or_not profile = inl refl
profile_or_not (refused code) = inr (λ e. absurd cc)
profile_or_not (handle h) = inr (λ e. absurd cc)
profile_or_not (derived child parent) = inr (λ e. absurd cc)
profile_or_not (made h b) = inr (λ e. absurd cc)
profile_or_not done = inr (λ e. absurd cc)

profile_unread : reply_strings_of (reply_payload profile) ≡ None
unfolding message inner head outer_of argument_of content_of head_at inner_strings_of strings_map_of
profile_unread = refl

-- nothing else is encoded as the profile
alone : (command : Asked) (s : Response) (p : List ℕ) → s ≢ profile → p ≡ reply_payload profile → IsReplyTo command s p → ⊥
alone command s p other is reply =
    let found = reply_complete command p s other reply in
    let none : told_by command (reply_strings_of p) ≡ None = ap (λ (x : List ℕ). told_by command (reply_strings_of x)) is ∙ ap (told_by command) profile_unread in
    absurd (cc (found, none))

pub one_reply : (command : Asked) (r s : Response) (p : List ℕ) → IsReplyTo command r p → IsReplyTo command s p → r ≡ s
one_reply command r s p one two = elim (profile_or_not r) [
  | inl a ↦ elim (profile_or_not s) [
    | inl b ↦ a ∙ sym b
    | inr b ↦ absurd (alone command s p b (one.1 ∙ ap reply_payload a) two)
  ]
  | inr a ↦ elim (profile_or_not s) [
    | inl b ↦ absurd (alone command r p a (two.1 ∙ ap reply_payload b) one)
    | inr b ↦ some_is r s (sym (reply_complete command p r a one) ∙ reply_complete command p s b two)
  ]
]

rising : (r : Response) → RiseAfter None (reply_rows r)
rising (refused code) = tt
rising profile = (tt, (omega arith, (omega arith, (omega arith, tt))))
rising (handle h) = (tt, tt)
rising (derived child parent) = (tt, (omega arith, tt))
rising (made h b) = (tt, (omega arith, tt))
rising done = tt

abbrev are_ascii : List ℕ → Bool
are_ascii [] = true
are_ascii (b ∷ bs) = ltb b 128 && are_ascii bs

ascii : (bs : List ℕ) → are_ascii bs ≡ true → IsAscii bs
ascii [] e i = IsAscii-nil i
ascii (b ∷ bs) e zero = ltb-true b 128 (both_true (ltb b 128) (are_ascii bs) e).0
ascii (b ∷ bs) e (suc i) = ascii bs (both_true (ltb b 128) (are_ascii bs) e).1 i

name_is_text : IsUtf8 profile_name
name_is_text = IsUtf8-from_ascii profile_name (ascii profile_name refl)

all_fit : (r : Response) → IsSendable r → AreFit (reply_rows r)
all_fit (refused code) is = tt
all_fit profile is = ((omega arith, (omega arith, name_is_text)), ((omega arith, omega arith), ((omega arith, omega arith), ((omega arith, omega arith), tt))))
all_fit (handle h) is = ((omega arith, omega (arith, is)), tt)
all_fit (derived child None) is = ((omega arith, omega (arith, is.0)), (tt, tt))
all_fit (derived child (Some parent)) is = ((omega arith, omega (arith, is.0)), ((omega arith, omega (arith, is.1)), tt))
all_fit (made None b) is = (tt, ((omega arith, omega (arith, is.1)), tt))
all_fit (made (Some h) b) is = ((omega arith, omega (arith, is.0)), ((omega arith, omega (arith, is.1)), tt))
all_fit done is = tt

few_rows : (r : Response) → length (reply_rows r) ≤ 4
few_rows (refused code) = omega arith
few_rows profile = omega arith
few_rows (handle h) = omega arith
few_rows (derived child parent) = omega arith
few_rows (made h b) = omega arith
few_rows done = omega arith

pub reply_number : (command : Asked) (r : Response) (p : List ℕ) → IsReplyTo command r p → number_of p ≡ Some (code_of r)
reply_number command r p reply =
    let ready = sendable command r reply.0 in
    let k = code_of r in
    let rows = reply_rows r in
    let count : length (present rows) < 2 ^ 64 = omega (arith, few_pairs rows, few_rows r) in
    let short : length (inner k (present rows)) < 2 ^ 64 = omega (arith, reply_fits r ready, message_length k (present rows) (length (inner k (present rows))) refl) in
    ap number_of reply.1 ∙ number_read k rows (code_fits r ready) count (rising r) (all_fit r ready) short
