-- A text that is written piece by piece.
use Rattle.std.proofs.Common.{◌≡◌, ℕ, ◌+◌, ◌≤◌, List, [], ◌∷◌, ◌++◌, length, take, drop, Option, refl, sym, ap, subst, ◌∙◌, append_assoc, append-nil, take-append-drop, arith}
use Rattle.std.specs.Io.KnownBytes.{Appends, Keeps}
use Rattle.std.proofs.KnownBytes.{Appends-nil, Appends-trans, Appends-kept}
use Rattle.std.proofs.lemmas.List.{length-append, length-take, take-append-le, take_all}
use Rattle.std.proofs.Math.Seq.{take-append-add}
use Rattle.dpe_journal.specs.Writing.{Sends}

pub sends_none : (a : Option (List ℕ)) (text : List ℕ) (n : ℕ) → Sends a a text text n n
sends_none a text n = record { sent = []; given = Appends-nil a; parts = refl; count = omega arith }

module _ (a b : Option (List ℕ)) (text rest : List ℕ) (n m : ℕ) (s : Sends a b text rest n m) where
  -- a front of the rest was written
  pub sends_more : (d : Option (List ℕ)) (k : ℕ) → Appends b d (take k rest) → k ≤ length rest → Sends a d text (drop k rest) n (m + k)
  sends_more d k given within = record {
    sent = s.sent ++ take k rest;
    given = Appends-trans a b d s.sent (take k rest) s.given given;
    parts = s.parts ∙ ap (λ (t : List ℕ). s.sent ++ t) (sym (take-append-drop k rest)) ∙ sym (append_assoc s.sent (take k rest) (drop k rest));
    count = let c = s.count in omega (arith, length-append s.sent (take k rest), length-take k rest);
  }

  -- the text and its rest got longer
  pub sends_longer : (more : List ℕ) → Sends a b (text ++ more) (rest ++ more) n m
  sends_longer more = record {
    sent = s.sent;
    given = s.given;
    parts = ap (λ (t : List ℕ). t ++ more) s.parts ∙ append_assoc s.sent rest more;
    count = s.count;
  }

  pub sends_then : (d : Option (List ℕ)) (left : List ℕ) (k : ℕ) → Sends b d rest left m k → Sends a d text left n k
  sends_then d left k t = record {
    sent = s.sent ++ t.sent;
    given = Appends-trans a b d s.sent t.sent s.given t.given;
    parts = s.parts ∙ ap (λ (x : List ℕ). s.sent ++ x) t.parts ∙ sym (append_assoc s.sent t.sent left);
    count = let c = s.count in let e = t.count in omega (arith, length-append s.sent t.sent);
  }

  -- a front of the rest is a front of the text
  pub front_behind : (d : Option (List ℕ)) (written k : ℕ) → written ≡ m + k → k ≤ length rest → Appends b d (take k rest)
      → (count : ℕ) × (written ≡ n + count) × (count ≤ length text) × Appends a d (take count text)
  front_behind d written k is within given =
      let c = s.count in
      let whole : take (length s.sent + k) text ≡ s.sent ++ take k rest = ap (take (length s.sent + k)) s.parts ∙ take-append-add s.sent rest k in (
        length s.sent + k,
        omega arith,
        omega (arith, ap length s.parts, length-append s.sent rest),
        subst (λ (t : List ℕ). Appends a d t) (sym whole) (Appends-trans a b d s.sent (take k rest) s.given given),
      )

pub sends_all : (a b : Option (List ℕ)) (text : List ℕ) (n m : ℕ) → Sends a b text [] n m → Appends a b text × (m ≡ n + length text)
sends_all a b text n m s =
    let whole : text ≡ s.sent = s.parts ∙ append-nil s.sent in
    let c = s.count in
    (subst (λ (t : List ℕ). Appends a b t) (sym whole) s.given, omega (arith, ap length whole))

-- ---- one text, piece by piece

module _ (a b : Option (List ℕ)) (text rest : List ℕ) (n m : ℕ) (s : Sends a b text rest n m) where
  pub sends_count : m + length rest ≡ n + length text
  sends_count = let c = s.count in omega (arith, ap length s.parts, length-append s.sent rest)

  -- all of the rest was written
  pub sends_ends : (d : Option (List ℕ)) → Appends b d rest → Appends a d text
  sends_ends d given = subst (λ (t : List ℕ). Appends a d t) (sym s.parts) (Appends-trans a b d s.sent rest s.given given)

  -- nothing more was written
  pub front_so_far : (d : Option (List ℕ)) → Keeps b d → (count : ℕ) × (m ≡ n + count) × (count ≤ length text) × Appends a d (take count text)
  front_so_far d kept = front_behind a b text rest n m s d m 0 (omega arith) (omega arith) (Appends-kept b b d [] (Appends-nil b) kept)

-- a front of a text is a front of a longer one
pub front_longer : (a d : Option (List ℕ)) (text more : List ℕ) (n written : ℕ) → (count : ℕ) × (written ≡ n + count) × (count ≤ length text) × Appends a d (take count text)
    → (count : ℕ) × (written ≡ n + count) × (count ≤ length (text ++ more)) × Appends a d (take count (text ++ more))
front_longer a d text more n written (count, is, within, given) = (
  count,
  is,
  omega (arith, length-append text more),
  subst (λ (t : List ℕ). Appends a d t) (sym (take-append-le count text more within)) given,
)

-- the whole text is a front of itself
pub front_whole : (a d : Option (List ℕ)) (text : List ℕ) (n : ℕ) → Appends a d text → (count : ℕ) × (n + length text ≡ n + count) × (count ≤ length text) × Appends a d (take count text)
front_whole a d text n given = (length text, refl, omega arith, subst (λ (t : List ℕ). Appends a d t) (sym (take_all (length text) text (omega arith))) given)

pub empty_rest : (a b : Option (List ℕ)) (text rest : List ℕ) (n m : ℕ) → Sends a b text rest n m → length rest ≡ 0 → Sends a b text [] n m
empty_rest a b text [] n m s none = s
empty_rest a b text (x ∷ rest) n m s none = absurd (omega arith)

-- a text that starts at nothing written
pub from_nothing : (a d : Option (List ℕ)) (text : List ℕ) (written : ℕ) → (count : ℕ) × (written ≡ 0 + count) × (count ≤ length text) × Appends a d (take count text)
    → (written ≤ length text) × Appends a d (take written text)
from_nothing a d text written (count, is, within, given) =
    let same : count ≡ written = omega (arith, is) in
    (omega (arith, within, same), subst (λ (k : ℕ). Appends a d (take k text)) same given)
