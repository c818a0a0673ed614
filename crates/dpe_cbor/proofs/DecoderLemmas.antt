-- The laws of the decoders.
use Rattle.std.proofs.Common.{◌≡◌, ℕ, ◌+◌, ◌^◌, ◌<◌, ◌≤◌, ◌⊎◌, inl, inr, Bool, true, false, cond, ltb, eqb, List, [], ◌++◌, length, take, drop, Option, Some, None, refl, sym, ap, subst, ◌∙◌, append_assoc, arith, length-append, length-take}
use Rattle.std.specs.Str.{IsUtf8, is_utf8}
use Rattle.std.proofs.lemmas.Str.{IsUtf8-from_is_utf8, is_utf8-from_IsUtf8}
use Rattle.std.proofs.lemmas.Bool.{ltb-true, ltb-false, lt-ltb, le-ltb, eqb-true}
use Rattle.std.proofs.lemmas.List.{take_at, drop_at, take-append-drop, get_or-append-add, append-nil, nil_from_length}
use Rattle.dpe_cbor.specs.Item.{MayFollow, text, bool}
use Rattle.dpe_cbor.specs.Encoding.{head, IsHead, Enc}
use Rattle.dpe_cbor.specs.Heads.{head_at}
use Rattle.dpe_cbor.specs.Decoding.{Decoder, ◌>>=◌, AreBytes, IsDecoder, both, whole, argument_of, content_of, text_of, bool_of, key_of, may_follow}
use Rattle.dpe_cbor.specs.Law.{IsKey}
use Rattle.dpe_cbor.proofs.HeadLemmas.{HasHead-from_head_at, head_at-head}

-- the value of a step that answered
pub bind_some : {A B : Type 0} (o : Option A) (f : A → Option B) (y : B) → (o >>= f) ≡ Some y → (x : A) × (o ≡ Some x) × (f x ≡ Some y)
bind_some (Some x) f y e = (x, refl, e)
bind_some None f y e = absurd cc

abbrev pub made : {A : Type 0} → A → Option A
made x = Some x

pub some_is : {A : Type 0} (x y : A) → made x ≡ made y → x ≡ y
some_is x y e = cc

-- a test that did not fail
pub passed : {A : Type 0} (b : Bool) (o : Option A) (y : A) → cond b o None ≡ Some y → (b ≡ true) × (o ≡ Some y)
passed true o y e = (refl, e)
passed false o y e = absurd cc

pub not_failed : {A : Type 0} (b : Bool) (o : Option A) (y : A) → cond b None o ≡ Some y → (b ≡ false) × (o ≡ Some y)
not_failed true o y e = absurd cc
not_failed false o y e = (refl, e)

pub AreBytes-rest : (e after b : List ℕ) → AreBytes b → b ≡ e ++ after → AreBytes after
AreBytes-rest e after b fits is i = rw (← get_or-append-add e after i 0, ← is) (fits (length e + i))

pub argument_decoder : (major : ℕ) → IsDecoder (argument_of major) (IsHead major)
unfolding argument_of
argument_decoder major = record {
  sound = λ b n after fits e.
      let step = bind_some (head_at major b) (λ h. Some (h.0, drop h.1 b)) (n, after) e in
      let stands = HasHead-from_head_at major b step.0.0 step.0.1 fits step.1 in
      let pair = some_is (step.0.0, drop step.0.1 b) (n, after) step.2 in
      let n_is : step.0.0 ≡ n = ap (λ (p : ℕ × List ℕ). p.0) pair in
      let after_is : drop step.0.1 b ≡ after = ap (λ (p : ℕ × List ℕ). p.1) pair in
      (head major n, (subst (λ (k : ℕ). k < 2 ^ 64) n_is stands.number, refl), stands.front ∙ ap (λ (k : ℕ). head major k ++ drop step.0.1 b) n_is ∙ ap (λ (r : List ℕ). head major n ++ r) after_is);
  complete = λ n e after is.
      rw (is.1, head_at-head major n after is.0, drop_at (head major n) after (length (head major n)) refl) refl;
}

-- s has the encoding e, as a string of this major type
abbrev pub IsString : ℕ → List ℕ → List ℕ → Type 0
IsString major s e = (length s < 2 ^ 64) × (e ≡ head major (length s) ++ s)

pub content_decoder : (major : ℕ) → IsDecoder (content_of major) (IsString major)
unfolding content_of
content_decoder major = record {
  sound = λ b s after fits e.
      let step = bind_some (argument_of major b) (λ n. cond (ltb (length n.1) n.0) None (Some (take n.0 n.1, drop n.0 n.1))) (s, after) e in
      let n = step.0.0 in
      let rest = step.0.1 in
      let stands = (argument_decoder major).sound b n rest fits step.1 in
      let long = not_failed (ltb (length rest) n) (Some (take n rest, drop n rest)) (s, after) step.2 in
      let pair = some_is (take n rest, drop n rest) (s, after) long.1 in
      let s_is : take n rest ≡ s = ap (λ (p : List ℕ × List ℕ). p.0) pair in
      let after_is : drop n rest ≡ after = ap (λ (p : List ℕ × List ℕ). p.1) pair in
      let le : n ≤ length rest = ltb-false _ _ long.0 in
      let taken : length (take n rest) ≡ n = omega (arith, length-take n rest) in
      let len : length s ≡ n = ap length (sym s_is) ∙ taken in
      let parts : rest ≡ s ++ after = sym (take-append-drop n rest) ∙ ap (λ (x : List ℕ). x ++ drop n rest) s_is ∙ ap (λ (x : List ℕ). s ++ x) after_is in
      (head major (length s) ++ s, (subst (λ (k : ℕ). k < 2 ^ 64) (sym len) stands.1.0, refl), stands.2 ∙ ap (λ (x : List ℕ). x ++ rest) (stands.1.1 ∙ ap (head major) (sym len)) ∙ ap (λ (x : List ℕ). head major (length s) ++ x) parts ∙ sym (append_assoc (head major (length s)) s after));
  complete = λ s e after is.
      let grouped : e ++ after ≡ head major (length s) ++ (s ++ after) = ap (λ (x : List ℕ). x ++ after) is.1 ∙ append_assoc (head major (length s)) s after in
      let long : ltb (length (s ++ after)) (length s) ≡ false = le-ltb _ _ (omega (arith, length-append s after)) in
      rw (grouped, (argument_decoder major).complete (length s) (head major (length s)) (s ++ after) (is.0, refl), long, take_at s after (length s) refl, drop_at s after (length s) refl) refl;
}

module _ {X Y : Type 0} (first : Decoder X) (second : Decoder Y) (P : X → List ℕ → Type 0) (Q : Y → List ℕ → Type 0) where
  -- the encodings of two values, one after the other
  abbrev pub Both : X × Y → List ℕ → Type 0
  Both xy e = (a b : List ℕ) × P xy.0 a × Q xy.1 b × (e ≡ a ++ b)

  pub both_decoder : IsDecoder first P → IsDecoder second Q → IsDecoder (both first second) Both
  both_decoder one two = record {
    sound = λ b xy after fits e.
        let step = bind_some (first b) (λ x. second x.1 >>= λ y. Some ((x.0, y.0), y.1)) (xy, after) e in
        let next = bind_some (second step.0.1) (λ y. Some ((step.0.0, y.0), y.1)) (xy, after) step.2 in
        let at_first = one.sound b step.0.0 step.0.1 fits step.1 in
        let at_second = two.sound step.0.1 next.0.0 next.0.1 (AreBytes-rest at_first.0 step.0.1 b fits at_first.2) next.1 in
        let pair = some_is ((step.0.0, next.0.0), next.0.1) (xy, after) next.2 in
        let parts : b ≡ (at_first.0 ++ at_second.0) ++ next.0.1 = at_first.2 ∙ ap (λ (r : List ℕ). at_first.0 ++ r) at_second.2 ∙ sym (append_assoc at_first.0 at_second.0 next.0.1) in
        subst (λ (p : (X × Y) × List ℕ). (e : List ℕ) × Both p.0 e × (b ≡ e ++ p.1)) pair (at_first.0 ++ at_second.0, (at_first.0, at_second.0, at_first.1, at_second.1, refl), parts);
    complete = λ xy e after is.
        let grouped : e ++ after ≡ is.0 ++ (is.1 ++ after) = ap (λ (x : List ℕ). x ++ after) is.4 ∙ append_assoc is.0 is.1 after in
        rw (grouped, one.complete xy.0 is.0 (is.1 ++ after) is.2, two.complete xy.1 is.1 after is.3) refl;
  }

module _ {X : Type 0} (decoder : Decoder X) (P : X → List ℕ → Type 0) (laws : IsDecoder decoder P) where
  pub whole_sound : (b : List ℕ) (x : X) → AreBytes b → whole (decoder b) ≡ Some x → P x b
  whole_sound b x fits e =
      let step = bind_some (decoder b) (λ d. cond (eqb (length d.1) 0) (Some d.0) None) x e in
      let ended = passed (eqb (length step.0.1) 0) (Some step.0.0) x step.2 in
      let stands = laws.sound b step.0.0 step.0.1 fits step.1 in
      let nothing : step.0.1 ≡ [] = nil_from_length step.0.1 (eqb-true _ _ ended.0) in
      let all : b ≡ stands.0 = stands.2 ∙ ap (λ (r : List ℕ). stands.0 ++ r) nothing ∙ append-nil stands.0 in
      subst (P x) (sym all) (subst (λ (y : X). P y stands.0) (some_is step.0.0 x ended.1) stands.1)

  pub whole_complete : (b : List ℕ) (x : X) → P x b → whole (decoder b) ≡ Some x
  whole_complete b x is = ap (λ (r : List ℕ). whole (decoder r)) (sym (append-nil b)) ∙ ap whole (laws.complete x b [] is)

-- ---- texts, truth values and keys

pub text_decoder : IsDecoder text_of (λ t. Enc (text t))
unfolding text_of
text_decoder = record {
  sound = λ b t after fits e.
      let step = bind_some (content_of 3 b) (λ t. cond (is_utf8 t.0) (Some t) None) (t, after) e in
      let test = passed (is_utf8 step.0.0) (Some step.0) (t, after) step.2 in
      let same = some_is step.0 (t, after) test.1 in
      let is = (content_decoder 3).sound b step.0.0 step.0.1 fits step.1 in
      subst (λ (p : List ℕ × List ℕ). (e : List ℕ) × Enc (text p.0) e × (b ≡ e ++ p.1)) same (is.0, ((is.1.0, IsUtf8-from_is_utf8 step.0.0 test.0), is.1.1), is.2);
  complete = λ t e after is. rw ((content_decoder 3).complete t e after (is.0.0, is.1), is_utf8-from_IsUtf8 t is.0.1) refl;
}

chosen : {A : Type 0} (b : Bool) (x y z : A) → cond b x y ≡ z → ((b ≡ true) × (x ≡ z)) ⊎ ((b ≡ false) × (y ≡ z))
chosen true x y z e = inl (refl, e)
chosen false x y z e = inr (refl, e)

pub bool_decoder : IsDecoder bool_of (λ t. Enc (bool t))
unfolding bool_of
bool_decoder = record {
  sound = λ b t after fits e.
      let step = bind_some (argument_of 7 b) (λ n. cond (eqb n.0 20) (Some (false, n.1)) (cond (eqb n.0 21) (Some (true, n.1)) None)) (t, after) e in
      let is = (argument_decoder 7).sound b step.0.0 step.0.1 fits step.1 in
      elim (chosen (eqb step.0.0 20) (Some (false, step.0.1)) (cond (eqb step.0.0 21) (Some (true, step.0.1)) None) (Some (t, after)) step.2) [
        | inl u ↦ subst (λ (p : Bool × List ℕ). (e : List ℕ) × Enc (bool p.0) e × (b ≡ e ++ p.1)) (some_is (false, step.0.1) (t, after) u.1) (is.0, (tt, is.1.1 ∙ ap (head 7) (eqb-true step.0.0 20 u.0)), is.2)
        | inr u ↦
            let test = passed (eqb step.0.0 21) (Some (true, step.0.1)) (t, after) u.1 in
            subst (λ (p : Bool × List ℕ). (e : List ℕ) × Enc (bool p.0) e × (b ≡ e ++ p.1)) (some_is (true, step.0.1) (t, after) test.1) (is.0, (tt, is.1.1 ∙ ap (head 7) (eqb-true step.0.0 21 test.0)), is.2)
      ];
  complete = truth_complete;
} where
  truth_complete : (t : Bool) (e after : List ℕ) → Enc (bool t) e → bool_of (e ++ after) ≡ Some (t, after)
  truth_complete false e after is = rw (is.1, (argument_decoder 7).complete 20 (head 7 20) after (omega arith, refl)) refl
  truth_complete true e after is = rw (is.1, (argument_decoder 7).complete 21 (head 7 21) after (omega arith, refl)) refl

may_follow_is : (last : Option ℕ) (k : ℕ) → may_follow last k ≡ true → MayFollow last k
may_follow_is None k e = tt
may_follow_is (Some before) k e = ltb-true before k e

follows : (last : Option ℕ) (k : ℕ) → MayFollow last k → may_follow last k ≡ true
follows None k e = refl
follows (Some before) k e = lt-ltb before k e

pub key_decoder : (last : Option ℕ) → IsDecoder (key_of last) (IsKey last)
unfolding key_of
key_decoder last = record {
  sound = λ b k after fits e.
      let step = bind_some (argument_of 0 b) (λ n. cond (may_follow last n.0) (Some n) None) (k, after) e in
      let test = passed (may_follow last step.0.0) (Some step.0) (k, after) step.2 in
      let is = (argument_decoder 0).sound b step.0.0 step.0.1 fits step.1 in
      subst (λ (p : ℕ × List ℕ). (e : List ℕ) × IsKey last p.0 e × (b ≡ e ++ p.1)) (some_is step.0 (k, after) test.1) (is.0, (may_follow_is last step.0.0 test.0, is.1), is.2);
  complete = λ k e after is. rw ((argument_decoder 0).complete k e after is.1, follows last k is.0) refl;
}

pub text_read : (b t after : List ℕ) → made (t, after) ≡ content_of 3 b → IsUtf8 t → made (t, after) ≡ text_of b
unfolding text_of
text_read b t after e valid = rw (← e, is_utf8-from_IsUtf8 t valid) refl

pub not_text : (b t after : List ℕ) → made (t, after) ≡ content_of 3 b → ¬ IsUtf8 t → None ≡ text_of b
unfolding text_of
not_text b t after e invalid = rw (← e) (go (is_utf8 t) refl) where
  go : (r : Bool) → is_utf8 t ≡ r → ◌≡◌ {A = Option (List ℕ × List ℕ)} None (cond (is_utf8 t) (Some (t, after)) None)
  go true is = absurd (invalid (IsUtf8-from_is_utf8 t is))
  go false is = rw is refl
