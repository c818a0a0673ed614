-- The response that is read of a payload is the one that the payload is.
use Rattle.std.proofs.Common.{◌≡◌, ◌≢◌, ℕ, ◌^◌, ◌<◌, ◌≤◌, ◌⊎◌, Bool, true, false, cond, eqb, leb, ◌&&◌, ◌||◌, List, length, Option, Some, None, Ok, Err, Result, refl, sym, ap, subst, ◌∙◌, arith, inl, inr}
use Rattle.std.specs.Prelude.{IfOk, IfErr}
use Rattle.std.specs.Option.{option_map}
use Rattle.std.proofs.lemmas.Bool.{eqb-true, eq-eqb, ne_eqb, leb-true, le-leb}
use Rattle.dpe_cbor.specs.Decoding.{◌>>=◌, AreBytes}
use Rattle.dpe_cbor.proofs.DecoderLemmas.{bind_some, some_is, passed}
use Rattle.dpe_messages.specs.Message.{present, inner, message}
use Rattle.dpe_messages.specs.Ranges.{IsHandle}
use Rattle.dpe_messages.specs.Replies.{Response, refused, profile, handle, derived, made, done, IsRefusalCode, IsRefusal, IsAnswer, IsReplyTo, IsOptionalHandle, IsNewHandle, IsChild, IsMade, IsSendable, code_of, reply_rows, reply_payload, response_of, signature_length, shortest_box, longest_box, longest_plaintext}
use Rattle.dpe_messages.specs.ReplyFields.{Strings, handle_in, retained_in, refused_in, new_handle_in, derived_in, made_in, done_in, answer_in, response_in, told_by, told, reply_strings_of}
use Rattle.dpe_messages.specs.declared.reply.Reply.{Reply}
use Rattle.dpe_messages.specs.declared.reply_reader.Asked.{Asked}
use Rattle.dpe_messages.specs.declared.reply_reader.Asked.TheVariants as asked
use Rattle.dpe_messages.specs.declared.reply_reader.NotAReply.{NotAReply}
use Rattle.dpe_messages.proofs.Choices.{chosen, both_true, either_true}
use Rattle.dpe_messages.proofs.Writing.{message_length}
use Rattle.dpe_messages.proofs.ReplySizes.{reply_fits}
use Rattle.dpe_messages.proofs.StringLaws.{Fit, map_of, payload_sound, payload_complete}

-- the response has this code and the map of these byte strings
abbrev Agrees : ℕ → Strings → Response → Type 0
Agrees code s r = (code_of r ≡ code) × (present (reply_rows r) ≡ map_of s)

-- ---- what is read is a response

handle_sound : (b h : List ℕ) → handle_in b ≡ Some h → (b ≡ h) × IsHandle b
handle_sound b h e = let test = passed (eqb (length b) 16) (Some b) h e in (some_is b h test.1, eqb-true (length b) 16 test.0)

retained_sound : (o r : Option (List ℕ)) → retained_in o ≡ Some r → (o ≡ r) × IsOptionalHandle o
retained_sound None r e = (some_is None r e, tt)
retained_sound (Some b) r e = go (handle_in b) refl e where
  go : (h : Option (List ℕ)) → handle_in b ≡ h → option_map Some h ≡ Some r → (Some b ≡ r) × IsHandle b
  go None is e = absurd cc
  go (Some h) is e = let found = handle_sound b h is in (ap Some found.0 ∙ some_is (Some h) r e, found.1)

new_handle_sound : (s : Strings) (r : Response) → new_handle_in s ≡ Some r → IsNewHandle r × Agrees 0 s r
new_handle_sound (None, second) r e = absurd cc
new_handle_sound (Some b, Some g) r e = absurd cc
new_handle_sound (Some b, None) r e = go (handle_in b) refl e where
  go : (h : Option (List ℕ)) → handle_in b ≡ h → option_map handle h ≡ Some r → IsNewHandle r × Agrees 0 (Some b, None) r
  go None is e = absurd cc
  go (Some h) is e =
      let found = handle_sound b h is in
      subst (λ (t : Response). IsNewHandle t × Agrees 0 (Some b, None) t) (ap handle found.0 ∙ some_is (handle h) r e) (found.1, (refl, refl))

derived_sound : (s : Strings) (r : Response) → derived_in s ≡ Some r → IsChild r × Agrees 0 s r
derived_sound (None, parent) r e = absurd cc
derived_sound (Some b, parent) r e =
    let step = bind_some (handle_in b) (λ child. retained_in parent >>= λ retained. Some (derived child retained)) r e in
    let next = bind_some (retained_in parent) (λ retained. Some (derived step.0 retained)) r step.2 in
    let child = handle_sound b step.0 step.1 in
    let retained = retained_sound parent next.0 next.1 in
    let is : derived b parent ≡ r = ap (λ (h : List ℕ). derived h parent) child.0 ∙ ap (derived step.0) retained.0 ∙ some_is (derived step.0 next.0) r next.2 in
    subst (λ (t : Response). IsChild t × Agrees 0 (Some b, parent) t) is ((child.1, retained.1), (refl, refl))

made_sound : (least most : ℕ) (s : Strings) (r : Response) → made_in least most s ≡ Some r → IsMade least most r × Agrees 0 s r
made_sound least most (first, None) r e = absurd cc
made_sound least most (first, Some b) r e =
    let step = bind_some (retained_in first) (λ retained. cond (leb least (length b) && leb (length b) most) (Some (made retained b)) None) r e in
    let test = passed (leb least (length b) && leb (length b) most) (Some (made step.0 b)) r step.2 in
    let range = both_true (leb least (length b)) (leb (length b) most) test.0 in
    let retained = retained_sound first step.0 step.1 in
    let is : made first b ≡ r = ap (λ (h : Option (List ℕ)). made h b) retained.0 ∙ some_is (made step.0 b) r test.1 in
    subst (λ (t : Response). IsMade least most t × Agrees 0 (first, Some b) t) is ((retained.1, leb-true least (length b) range.0, leb-true (length b) most range.1), (refl, refl))

done_sound : (s : Strings) (r : Response) → done_in s ≡ Some r → (r ≡ done) × Agrees 0 s r
done_sound (None, None) r e = let is = some_is done r e in (sym is, subst (Agrees 0 (None, None)) is (refl, refl))
done_sound (None, Some g) r e = absurd cc
done_sound (Some f, second) r e = absurd cc

answer_sound : (command : Asked) (s : Strings) (r : Response) → answer_in command s ≡ Some r → IsAnswer command r × Agrees 0 s r
answer_sound asked.GetProfile s r e = absurd cc
answer_sound asked.Initialize s r e = new_handle_sound s r e
answer_sound asked.Derive s r e = derived_sound s r e
answer_sound asked.Sign s r e = made_sound signature_length signature_length s r e
answer_sound asked.Seal s r e = made_sound shortest_box longest_box s r e
answer_sound asked.Unseal s r e = made_sound 0 longest_plaintext s r e
answer_sound asked.Rotate s r e = new_handle_sound s r e
answer_sound asked.Destroy s r e = done_sound s r e

is_refusal_code : (code : ℕ) → (eqb code 2 || (eqb code 3 || (eqb code 5 || (leb 16 code && leb code 29)))) ≡ true → IsRefusalCode code
is_refusal_code code e =
    elim (either_true (eqb code 2) (eqb code 3 || (eqb code 5 || (leb 16 code && leb code 29))) e) [
      | inl t ↦ inl (eqb-true code 2 t)
      | inr t ↦ elim (either_true (eqb code 3) (eqb code 5 || (leb 16 code && leb code 29)) t) [
        | inl u ↦ inr (inl (eqb-true code 3 u))
        | inr u ↦ elim (either_true (eqb code 5) (leb 16 code && leb code 29) u) [
          | inl w ↦ inr (inr (inl (eqb-true code 5 w)))
          | inr w ↦ let range = both_true (leb 16 code) (leb code 29) w in inr (inr (inr (leb-true 16 code range.0, leb-true code 29 range.1)))
        ]
      ]
    ]

refused_sound : (code : ℕ) (s : Strings) (r : Response) → refused_in code s ≡ Some r → IsRefusal r × Agrees code s r
refused_sound code (None, None) r e =
    let test = passed (eqb code 2 || (eqb code 3 || (eqb code 5 || (leb 16 code && leb code 29)))) (Some (refused code)) r e in
    subst (λ (t : Response). IsRefusal t × Agrees code (None, None) t) (some_is (refused code) r test.1) ((code, is_refusal_code code test.0, refl), (refl, refl))
refused_sound code (None, Some g) r e = absurd cc
refused_sound code (Some f, second) r e = absurd cc

agreed : (p : List ℕ) (code : ℕ) (s : Strings) (r : Response) → p ≡ message code (map_of s) → Agrees code s r → p ≡ reply_payload r
agreed p code s r is agrees = is ∙ ap (λ (n : ℕ). message n (map_of s)) (sym agrees.0) ∙ ap (message (code_of r)) (sym agrees.1)

pub reply_sound : (command : Asked) (p : List ℕ) (r : Response) → AreBytes p → told_by command (reply_strings_of p) ≡ Some r → IsReplyTo command r p
reply_sound command p r fits e = go (reply_strings_of p) refl e where
  go : (o : Option (ℕ × Strings)) → reply_strings_of p ≡ o → told_by command o ≡ Some r → IsReplyTo command r p
  go None is e = absurd cc
  go (Some found) is e =
      let code = found.0 in
      let s = found.1 in
      let whole = payload_sound p code s fits is in
      elim (chosen (eqb code 0) (answer_in command s) (refused_in code s) (Some r) e) [
        | inl t ↦
            let answer = answer_sound command s r t.1 in
            (inr answer.0, agreed p code s r whole (answer.1.0 ∙ sym (eqb-true code 0 t.0), answer.1.1))
        | inr t ↦ let refusal = refused_sound code s r t.1 in (inl refusal.0, agreed p code s r whole refusal.1)
      ]

-- ---- each response is read

abbrev strings_in : Response → Strings
strings_in (refused code) = (None, None)
strings_in profile = (None, None)
strings_in (handle h) = (Some h, None)
strings_in (derived child parent) = (Some child, parent)
strings_in (made h b) = (h, Some b)
strings_in done = (None, None)

map_agrees : (r : Response) → r ≢ profile → present (reply_rows r) ≡ map_of (strings_in r)
map_agrees (refused code) other = refl
map_agrees profile other = absurd (other refl)
map_agrees (handle h) other = refl
map_agrees (derived child parent) other = refl
map_agrees (made h b) other = refl
map_agrees done other = refl

handle_complete : (h : List ℕ) → IsHandle h → handle_in h ≡ Some h
handle_complete h is = let test = eq-eqb (length h) 16 is in rw test refl

retained_complete : (o : Option (List ℕ)) → IsOptionalHandle o → retained_in o ≡ Some o
retained_complete None is = refl
retained_complete (Some h) is = ap (option_map Some) (handle_complete h is)

new_handle_complete : (r : Response) → IsNewHandle r → new_handle_in (strings_in r) ≡ Some r
new_handle_complete (handle h) is = ap (option_map handle) (handle_complete h is)
new_handle_complete (refused code) is = absurd is
new_handle_complete profile is = absurd is
new_handle_complete (derived child parent) is = absurd is
new_handle_complete (made h b) is = absurd is
new_handle_complete done is = absurd is

derived_complete : (r : Response) → IsChild r → derived_in (strings_in r) ≡ Some r
derived_complete (derived child parent) is =
    let one = handle_complete child is.0 in
    let two = retained_complete parent is.1 in
    ap (λ (o : Option (List ℕ)). o >>= λ h. retained_in parent >>= λ retained. Some (derived h retained)) one
    ∙ ap (λ (o : Option (Option (List ℕ))). o >>= λ retained. Some (derived child retained)) two
derived_complete (refused code) is = absurd is
derived_complete profile is = absurd is
derived_complete (handle h) is = absurd is
derived_complete (made h b) is = absurd is
derived_complete done is = absurd is

made_complete : (least most : ℕ) (r : Response) → IsMade least most r → made_in least most (strings_in r) ≡ Some r
made_complete least most (made h b) is =
    let one = retained_complete h is.0 in
    let low = le-leb least (length b) is.1 in
    let high = le-leb (length b) most is.2 in
    ap (λ (o : Option (Option (List ℕ))). o >>= λ retained. cond (leb least (length b) && leb (length b) most) (Some (made retained b)) None) one
    ∙ ap (λ (t : Bool). cond (t && leb (length b) most) (Some (made h b)) None) low
    ∙ ap (λ (t : Bool). cond t (Some (made h b)) None) high
made_complete least most (refused code) is = absurd is
made_complete least most profile is = absurd is
made_complete least most (handle h) is = absurd is
made_complete least most (derived child parent) is = absurd is
made_complete least most done is = absurd is

answer_complete : (command : Asked) (r : Response) → r ≢ profile → IsAnswer command r → answer_in command (strings_in r) ≡ Some r
answer_complete asked.GetProfile r other is = absurd (other is)
answer_complete asked.Initialize r other is = new_handle_complete r is
answer_complete asked.Derive r other is = derived_complete r is
answer_complete asked.Sign r other is = made_complete signature_length signature_length r is
answer_complete asked.Seal r other is = made_complete shortest_box longest_box r is
answer_complete asked.Unseal r other is = made_complete 0 longest_plaintext r is
answer_complete asked.Rotate r other is = new_handle_complete r is
answer_complete asked.Destroy r other is = subst (λ (t : Response). done_in (strings_in t) ≡ Some t) (sym is) refl

code_tests : (code : ℕ) → IsRefusalCode code → (eqb code 2 || (eqb code 3 || (eqb code 5 || (leb 16 code && leb code 29)))) ≡ true
code_tests code (inl is) = let t = eq-eqb code 2 is in rw t refl
code_tests code (inr (inl is)) = let t = eq-eqb code 3 is in rw t (or_true (eqb code 2))
  where
    or_true : (a : Bool) → (a || true) ≡ true
    or_true true = refl
    or_true false = refl
code_tests code (inr (inr (inl is))) = subst (λ (n : ℕ). (eqb n 2 || (eqb n 3 || (eqb n 5 || (leb 16 n && leb n 29)))) ≡ true) (sym is) refl
code_tests code (inr (inr (inr is))) =
    let a : eqb code 2 ≡ false = ne_eqb code 2 (λ e. absurd (omega (arith, e, is.0))) in
    let b : eqb code 3 ≡ false = ne_eqb code 3 (λ e. absurd (omega (arith, e, is.0))) in
    let d : eqb code 5 ≡ false = ne_eqb code 5 (λ e. absurd (omega (arith, e, is.0))) in
    let low = le-leb 16 code is.0 in
    let high = le-leb code 29 is.1 in
    rw (a, b, d, low, high) refl

refused_complete : (code : ℕ) → IsRefusalCode code → refused_in code (None, None) ≡ Some (refused code)
refused_complete code is = ap (λ (t : Bool). cond t (Some (refused code)) None) (code_tests code is)

not_0 : (code : ℕ) → IsRefusalCode code → code ≢ 0
not_0 code (inl is) zero = absurd (omega (arith, is, zero))
not_0 code (inr (inl is)) zero = absurd (omega (arith, is, zero))
not_0 code (inr (inr (inl is))) zero = absurd (omega (arith, is, zero))
not_0 code (inr (inr (inr is))) zero = absurd (omega (arith, is.0, zero))

answer_code : (command : Asked) (r : Response) → IsAnswer command r → code_of r ≡ 0
answer_code asked.GetProfile r is = ap code_of is
answer_code asked.Destroy r is = ap code_of is
answer_code asked.Initialize (handle h) is = refl
answer_code asked.Rotate (handle h) is = refl
answer_code asked.Derive (derived child parent) is = refl
answer_code asked.Sign (made h b) is = refl
answer_code asked.Seal (made h b) is = refl
answer_code asked.Unseal (made h b) is = refl
answer_code asked.Initialize (refused code) is = absurd is
answer_code asked.Rotate (refused code) is = absurd is
answer_code asked.Derive (refused code) is = absurd is
answer_code asked.Sign (refused code) is = absurd is
answer_code asked.Seal (refused code) is = absurd is
answer_code asked.Unseal (refused code) is = absurd is
answer_code command profile is = refl
answer_code command (handle h) is = refl
answer_code command (derived child parent) is = refl
answer_code command (made h b) is = refl
answer_code command done is = refl

response_complete : (command : Asked) (r : Response) → r ≢ profile → IsRefusal r ⊎ IsAnswer command r → response_in command (code_of r) (strings_in r) ≡ Some r
response_complete command r other (inl (code, allowed, is)) =
    let test = ne_eqb code 0 (not_0 code allowed) in
    let at : response_in command code (None, None) ≡ Some (refused code) = ap (λ (t : Bool). cond t (answer_in command (None, None)) (refused_in code (None, None))) test ∙ refused_complete code allowed in
    subst (λ (t : Response). response_in command (code_of t) (strings_in t) ≡ Some t) (sym is) at
response_complete command r other (inr is) =
    let test = eq-eqb (code_of r) 0 (answer_code command r is) in
    ap (λ (t : Bool). cond t (answer_in command (strings_in r)) (refused_in (code_of r) (strings_in r))) test ∙ answer_complete command r other is

made_sendable : (least most : ℕ) (r : Response) → most ≤ longest_box → IsMade least most r → IsSendable r
made_sendable least most (made h b) le is = (is.0, omega (arith, le, is.2))
made_sendable least most (refused code) le is = absurd is
made_sendable least most profile le is = absurd is
made_sendable least most (handle h) le is = absurd is
made_sendable least most (derived child parent) le is = absurd is
made_sendable least most done le is = absurd is

new_handle_sendable : (r : Response) → IsNewHandle r → IsSendable r
new_handle_sendable (handle h) is = is
new_handle_sendable (refused code) is = absurd is
new_handle_sendable profile is = absurd is
new_handle_sendable (derived child parent) is = absurd is
new_handle_sendable (made h b) is = absurd is
new_handle_sendable done is = absurd is

derived_sendable : (r : Response) → IsChild r → IsSendable r
derived_sendable (derived child parent) is = is
derived_sendable (refused code) is = absurd is
derived_sendable profile is = absurd is
derived_sendable (handle h) is = absurd is
derived_sendable (made h b) is = absurd is
derived_sendable done is = absurd is

pub sendable : (command : Asked) (r : Response) → IsRefusal r ⊎ IsAnswer command r → IsSendable r
sendable command r (inl (code, allowed, is)) = subst IsSendable (sym is) allowed
sendable asked.GetProfile r (inr is) = subst IsSendable (sym is) tt
sendable asked.Initialize r (inr is) = new_handle_sendable r is
sendable asked.Derive r (inr is) = derived_sendable r is
sendable asked.Sign r (inr is) = made_sendable signature_length signature_length r (omega arith) is
sendable asked.Seal r (inr is) = made_sendable shortest_box longest_box r (omega arith) is
sendable asked.Unseal r (inr is) = made_sendable 0 longest_plaintext r (omega arith) is
sendable asked.Rotate r (inr is) = new_handle_sendable r is
sendable asked.Destroy r (inr is) = subst IsSendable (sym is) tt

strings_fit : (r : Response) → IsSendable r → Fit (strings_in r)
strings_fit (refused code) is = (tt, tt)
strings_fit profile is = (tt, tt)
strings_fit (handle h) is = (omega (arith, is), tt)
strings_fit (derived child None) is = (omega (arith, is.0), tt)
strings_fit (derived child (Some h)) is = (omega (arith, is.0), omega (arith, is.1))
strings_fit (made None b) is = (tt, omega (arith, is.1))
strings_fit (made (Some h) b) is = (omega (arith, is.0), omega (arith, is.1))
strings_fit done is = (tt, tt)

small_code : (code : ℕ) → IsRefusalCode code → code < 2 ^ 64
small_code code (inl is) = omega (arith, is)
small_code code (inr (inl is)) = omega (arith, is)
small_code code (inr (inr (inl is))) = omega (arith, is)
small_code code (inr (inr (inr is))) = omega (arith, is.1)

pub code_fits : (r : Response) → IsSendable r → code_of r < 2 ^ 64
code_fits (refused code) is = small_code code is
code_fits profile is = omega arith
code_fits (handle h) is = omega arith
code_fits (derived child parent) is = omega arith
code_fits (made h b) is = omega arith
code_fits done is = omega arith

pub reply_complete : (command : Asked) (p : List ℕ) (r : Response) → r ≢ profile → IsReplyTo command r p → told_by command (reply_strings_of p) ≡ Some r
reply_complete command p r other (may, is) =
    let ready = sendable command r may in
    let s = strings_in r in
    let spelled : reply_payload r ≡ message (code_of r) (map_of s) = ap (message (code_of r)) (map_agrees r other) in
    let m = map_of s in
    let short : length (inner (code_of r) m) < 2 ^ 64 =
    omega (arith, reply_fits r ready, ap length spelled, message_length (code_of r) m (length (inner (code_of r) m)) refl) in
    ap (λ (x : List ℕ). told_by command (reply_strings_of x)) (is ∙ spelled)
    ∙ ap (told_by command) (payload_complete (code_of r) s (code_fits r ready) (strings_fit r ready) short)
    ∙ response_complete command r other may

-- ---- what a reader answers

pub profile_asked : (command : Asked) → IsRefusal profile ⊎ IsAnswer command profile → command ≡ asked.GetProfile
profile_asked command (inl (code, allowed, is)) = absurd cc
profile_asked asked.GetProfile (inr is) = refl
profile_asked asked.Initialize (inr is) = absurd is
profile_asked asked.Derive (inr is) = absurd is
profile_asked asked.Sign (inr is) = absurd is
profile_asked asked.Seal (inr is) = absurd is
profile_asked asked.Unseal (inr is) = absurd is
profile_asked asked.Rotate (inr is) = absurd is
profile_asked asked.Destroy (inr is) = absurd cc

pub told_ok : (result : Result Reply NotAReply) (command : Asked) (p : List ℕ) → AreBytes p → told result ≡ told_by command (reply_strings_of p)
    → IfOk result (λ r. IsReplyTo command (response_of r) p)
told_ok (Ok r) command p fits is = reply_sound command p (response_of r) fits (sym is)
told_ok (Err e) command p fits is = tt

abbrev nothing : Option Response → Option Response
nothing o = o

pub told_none : (result : Result Reply NotAReply) (command : Asked) (p : List ℕ) → told result ≡ told_by command (reply_strings_of p)
    → (IsReplyTo command profile p → ⊥) → IfErr result (λ _. (r : Response) → ¬ IsReplyTo command r p)
told_none (Ok r) command p is never = tt
told_none (Err e) command p is never = go where
  other_than : (r : Response) → r ≢ profile → ¬ IsReplyTo command r p
  other_than r other reply = let found = reply_complete command p r other reply in absurd (cc (is, found))

  go : (r : Response) → ¬ IsReplyTo command r p
  go profile reply = never reply
  go (refused code) reply = other_than (refused code) (λ e. absurd cc) reply
  go (handle h) reply = other_than (handle h) (λ e. absurd cc) reply
  go (derived child parent) reply = other_than (derived child parent) (λ e. absurd cc) reply
  go (made h b) reply = other_than (made h b) (λ e. absurd cc) reply
  go done reply = other_than done (λ e. absurd cc) reply

pub profile_answer : (command : Asked) → command ≡ asked.GetProfile → IsRefusal profile ⊎ IsAnswer command profile
profile_answer command e = subst (λ (a : Asked). IsRefusal profile ⊎ IsAnswer a profile) (sym e) (inr refl)
