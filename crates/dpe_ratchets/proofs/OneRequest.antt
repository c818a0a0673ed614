-- Words ask for one thing.
use Rattle.std.proofs.Common.{◌≡◌, ℕ, ◌<◌, ◌≤◌, List, [], get_or, Result, Ok, sym, ap, ◌∙◌, arith}
use Rattle.std.specs.Fmt.{decimal}
use Rattle.std.proofs.lemmas.Fmt.{decimal_injective}
use Rattle.hex.specs.declared.error.FromHexError.{FromHexError}
use Rattle.hex.specs.Hex.{decode_of, decode_sized}
use Rattle.dpe_ratchets.specs.declared.words.SealRequest.{SealRequest}
use Rattle.dpe_ratchets.specs.declared.words.OpenRequest.{OpenRequest}
use Rattle.dpe_ratchets.specs.declared.words.Request.{Request}
use Rattle.dpe_ratchets.specs.declared.words.Request.TheVariants.{Seal, Open}
use Rattle.dpe_ratchets.specs.Words.{IsSeal, IsOpen, AskFor}

abbrev word : ℕ → List (List ℕ) → List ℕ
word i words = get_or words i []

same_ok : (r s : Result (List ℕ) FromHexError) (a b : List ℕ) → r ≡ s → r ≡ Ok a → s ≡ Ok b → a ≡ b
same_ok r s a b e p q = cc

same_number : (m n : ℕ) → m ≤ 1024 → n ≤ 1024 → decimal m ≡ decimal n → m ≡ n
same_number m n small few e = decimal_injective m n (omega arith) (omega arith) e

apart : (m n : ℕ) → n < m → m ≡ n → ⊥
apart m n lt e = omega arith

module _ (words : List (List ℕ)) where
  one_seal : (s t : SealRequest) → IsSeal words s → IsSeal words t → s ≡ t
  one_seal s t p q =
      let e = sym p.form ∙ q.form in
      let cdi : s.cdi ≡ t.cdi = same_ok _ _ s.cdi t.cdi (ap (λ (d : List ℕ). decode_sized d 32) (ap (word 1) e)) p.cdi q.cdi in
      let own : s.own ≡ t.own = same_number s.own t.own p.own q.own (ap (word 2) e) in
      let version : s.version ≡ t.version = same_number s.version t.version (omega (arith, p.own, p.version)) (omega (arith, q.own, q.version)) (ap (word 3) e) in
      let label : s.label ≡ t.label = same_ok _ _ s.label t.label (ap decode_of (ap (word 4) e)) p.label.decoded q.label.decoded in
      let salt : s.salt ≡ t.salt = same_ok _ _ s.salt t.salt (ap (λ (d : List ℕ). decode_sized d 16) (ap (word 5) e)) p.salt q.salt in
      λ i. record { cdi = cdi i; own = own i; version = version i; label = label i; salt = salt i }

  one_open : (s t : OpenRequest) → IsOpen words s → IsOpen words t → s ≡ t
  one_open s t p q =
      let e = sym p.form ∙ q.form in
      let cdi : s.cdi ≡ t.cdi = same_ok _ _ s.cdi t.cdi (ap (λ (d : List ℕ). decode_sized d 32) (ap (word 1) e)) p.cdi q.cdi in
      let own : s.own ≡ t.own = same_number s.own t.own p.own q.own (ap (word 2) e) in
      let label : s.label ≡ t.label = same_ok _ _ s.label t.label (ap decode_of (ap (word 3) e)) p.label.decoded q.label.decoded in
      let locality : s.locality ≡ t.locality = same_number s.locality t.locality (omega (arith, p.locality)) (omega (arith, q.locality)) (ap (word 4) e) in
      let mode : s.mode ≡ t.mode = same_number s.mode t.mode (omega (arith, p.mode)) (omega (arith, q.mode)) (ap (word 5) e) in
      λ i. record { cdi = cdi i; own = own i; label = label i; locality = locality i; mode = mode i }

  not_both : (s : SealRequest) (t : OpenRequest) → IsSeal words s → IsOpen words t → ⊥
  not_both s t p q = apart 115 111 (omega arith) (ap (λ (ws : List (List ℕ)). get_or (get_or ws 0 []) 0 0) (sym p.form ∙ q.form))

  pub one_request : (r t : Request) → AskFor words r → AskFor words t → r ≡ t
  one_request (Seal s) (Seal t) p q = ap Seal (one_seal s t p q)
  one_request (Open s) (Open t) p q = ap Open (one_open s t p q)
  one_request (Seal s) (Open t) p q = absurd (not_both s t p q)
  one_request (Open s) (Seal t) p q = absurd (not_both t s q p)
