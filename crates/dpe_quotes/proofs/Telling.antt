-- What an end says of bytes that the source tells.
use Rattle.std.proofs.Common.{◌≡◌, ◌≢◌, ℕ, ◌<◌, ◌≤◌, List, [], ◌++◌, get_or, length, take, Option, Some, None, Result, Ok, sym, ap, subst, ◌∙◌, append-nil, inl, inr, arith}
use Rattle.std.proofs.lemmas.Bool.{cases_lt}
use Rattle.std.proofs.lemmas.List.{take_all, take_at}
use Rattle.hex.specs.declared.error.FromHexError.{FromHexError}
use Rattle.hex.specs.Hex.{decode_of, decode_sized}
use Rattle.dpe_quotes.specs.declared.words.VerifyRequest.{VerifyRequest}
use Rattle.dpe_quotes.specs.declared.words.MakeRequest.{MakeRequest}
use Rattle.dpe_quotes.specs.declared.words.Request.{Request}
use Rattle.dpe_quotes.specs.declared.words.Request.TheVariants.{Verify, Make}
use Rattle.dpe_quotes.specs.Ends.{room_for, ComesTo, HasStatus, Ends}
use Rattle.dpe_quotes.specs.Words.{IsVerify, IsMake, AskFor}

-- ---- words ask for one thing

abbrev word : ℕ → List (List ℕ) → List ℕ
word i words = get_or words i []

same_ok : (r s : Result (List ℕ) FromHexError) (a b : List ℕ) → r ≡ s → r ≡ Ok a → s ≡ Ok b → a ≡ b
same_ok r s a b e p q = cc

apart : (m n : ℕ) → n < m → m ≡ n → ⊥
apart m n lt e = omega arith

module _ (words : List (List ℕ)) where
  one_verify : (s t : VerifyRequest) → IsVerify words s → IsVerify words t → s ≡ t
  one_verify s t p q =
      let e = sym p.form ∙ q.form in
      let seed : s.seed ≡ t.seed = same_ok _ _ s.seed t.seed (ap (λ (d : List ℕ). decode_sized d 32) (ap (word 1) e)) p.seed q.seed in
      let nonce : s.nonce ≡ t.nonce = same_ok _ _ s.nonce t.nonce (ap decode_of (ap (word 2) e)) p.nonce.decoded q.nonce.decoded in
      λ i. record { seed = seed i; nonce = nonce i }

  one_make : (s t : MakeRequest) → IsMake words s → IsMake words t → s ≡ t
  one_make s t p q =
      let e = sym p.form ∙ q.form in
      let nonce : s.nonce ≡ t.nonce = same_ok _ _ s.nonce t.nonce (ap decode_of (ap (word 1) e)) p.nonce.decoded q.nonce.decoded in
      let tag : s.tag ≡ t.tag = same_ok _ _ s.tag t.tag (ap (λ (d : List ℕ). decode_sized d 64) (ap (word 2) e)) p.tag q.tag in
      λ i. record { nonce = nonce i; tag = tag i }

  not_both : (s : VerifyRequest) (t : MakeRequest) → IsVerify words s → IsMake words t → ⊥
  not_both s t p q = apart 118 109 (omega arith) (ap (λ (ws : List (List ℕ)). get_or (get_or ws 0 []) 0 0) (sym p.form ∙ q.form))

  one_request : (r t : Request) → AskFor words r → AskFor words t → r ≡ t
  one_request (Verify s) (Verify t) p q = ap Verify (one_verify s t p q)
  one_request (Make s) (Make t) p q = ap Make (one_make s t p q)
  one_request (Verify s) (Make t) p q = absurd (not_both s t p q)
  one_request (Make s) (Verify t) p q = absurd (not_both t s q p)

-- ---- the bytes that are taken

taken : (most : ℕ) (t ys : List ℕ) → length t ≤ most → (length t < most → ys ≡ []) → take most (t ++ ys) ≡ t
taken most t ys few all =
    elim (cases_lt (length t) most) [
      | inl less ↦ ap (take most) (ap (λ (r : List ℕ). t ++ r) (all less) ∙ append-nil t) ∙ take_all most t few
      | inr full ↦ take_at t ys most (omega arith)
    ]

status_told : (asked : Request) (a b x y : Option (List ℕ)) (status : ℕ) (bytes : List ℕ) → a ≡ Some bytes → Ends asked a b x y status → status ≢ 7
    → HasStatus asked (take (room_for asked) bytes) status
status_told asked None b x y status bytes told ends ok = cc
status_told asked (Some xs) None x y status bytes told ends ok = absurd ends.takes.taken
status_told asked (Some xs) (Some ys) x y status bytes told ends ok =
    let same : xs ≡ bytes = cc in
    let is : ends.bytes ≡ take (room_for asked) bytes =
    sym (taken (room_for asked) ends.bytes ys ends.takes.few ends.takes.all) ∙ ap (take (room_for asked)) (sym ends.takes.taken ∙ same) in (
      ends.text,
      subst (λ (n : ℕ). ComesTo asked (take (room_for asked) bytes) n ends.text) (sym (ends.status_is ok))
          (subst (λ (b : List ℕ). ComesTo asked b ends.own ends.text) is ends.comes),
    )

pub complete_told : (words : List (List ℕ)) (request asked : Request) (a b x y : Option (List ℕ)) (status : ℕ) (bytes : List ℕ) → AskFor words request
    → AskFor words asked → a ≡ Some bytes → Ends request a b x y status → status ≢ 7 → HasStatus asked (take (room_for asked) bytes) status
complete_told words request asked a b x y status bytes ours theirs told ends ok =
    subst (λ (r : Request). HasStatus r (take (room_for r) bytes) status) (one_request words request asked ours theirs)
    (status_told request a b x y status bytes told ends ok)
