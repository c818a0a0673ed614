-- Lists of bytes: their parts, and lists that begin alike.
use Rattle.std.proofs.Common.{◌≡◌, ℕ, zero, suc, ◌<◌, List, [], ◌∷◌, ◌++◌, length, take, drop, refl, ap, sym, ◌∙◌, arith, take-append-drop, replicate}
use Rattle.std.proofs.lemmas.List.{take_at, drop_at}
use Rattle.dpe_cbor.specs.Decoding.{AreBytes}
use Rattle.dpe_cbor.proofs.DecoderLemmas.{AreBytes-rest}

-- two lists that begin with parts of one length
pub cut : (a b x y : List ℕ) → length a ≡ length b → a ++ x ≡ b ++ y → (a ≡ b) × (x ≡ y)
cut a b x y n e = (
  sym (take_at a x (length a) refl) ∙ (ap (take (length a)) e ∙ take_at b y (length a) (sym n)),
  sym (drop_at a x (length a) refl) ∙ (ap (drop (length a)) e ∙ drop_at b y (length a) (sym n)),
)

pub AreBytes-append : (a b : List ℕ) → AreBytes a → AreBytes b → AreBytes (a ++ b)
AreBytes-append [] b oka okb i = okb i
AreBytes-append (x ∷ a) b oka okb zero = oka 0
AreBytes-append (x ∷ a) b oka okb (suc i) = AreBytes-append a b (λ j. oka (suc j)) okb i

pub one_byte : (x : ℕ) → x < 256 → AreBytes (x ∷ [])
one_byte x small zero = small
one_byte x small (suc i) = omega arith

pub AreBytes-take : (n : ℕ) (b : List ℕ) → AreBytes b → AreBytes (take n b)
AreBytes-take zero b ok i = omega arith
AreBytes-take (suc n) [] ok i = omega arith
AreBytes-take (suc n) (x ∷ b) ok zero = ok 0
AreBytes-take (suc n) (x ∷ b) ok (suc i) = AreBytes-take n b (λ j. ok (suc j)) i

pub AreBytes-drop : (n : ℕ) (b : List ℕ) → AreBytes b → AreBytes (drop n b)
AreBytes-drop n b ok = AreBytes-rest (take n b) (drop n b) b ok (sym (take-append-drop n b))

pub AreBytes-zeros : (n : ℕ) → AreBytes (replicate n 0)
AreBytes-zeros zero i = omega arith
AreBytes-zeros (suc n) zero = omega arith
AreBytes-zeros (suc n) (suc i) = AreBytes-zeros n i
