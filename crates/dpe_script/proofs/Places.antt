-- Names, their places, and what stands there.
use Rattle.std.proofs.Common.{◌≡◌, ℕ, zero, suc, ◌+◌, ◌<◌, ◌≤◌, Bool, true, false, List, [], ◌∷◌, length, drop, get_or, replicate, Option, Some, None, refl, ap, ◌∙◌, arith}
use Rattle.std.proofs.lemmas.List.Elements.{All-replicate}
use Rattle.std.specs.Option.{option_map, option_and_then, unwrap_or}
use Rattle.std.specs.Prelude.{slice_get, bytes_eq}
use Rattle.std.specs.Prelude.{if◌then◌else◌}
use Rattle.std.specs.Borrow.{Bor}
use Rattle.dpe_grammar.specs.Values.{texts}
use Rattle.dpe_script.proofs.Lists.{texts_step}
use Rattle.dpe_script.specs.CodeValues.{place_of, found, AreShort}

pub shift_more : (at : ℕ) (o : Option ℕ) → option_map (λ (k : ℕ). at + k) (option_map suc o) ≡ option_map (λ (k : ℕ). at + 1 + k) o
shift_more at None = refl
shift_more at (Some k) = let e : at + suc k ≡ at + 1 + k = omega arith in ap (λ (n : ℕ). Some n) e

get_same : (d : List ℕ) (n i : ℕ) → unwrap_or (slice_get (replicate n d) i) d ≡ d
get_same d zero i = refl
get_same d (suc n) zero = refl
get_same d (suc n) (suc i) = get_same d n i

same_at : (d : List ℕ) (n : ℕ) (o : Option ℕ) → unwrap_or (option_and_then (slice_get (replicate n d)) o) d ≡ d
same_at d n None = refl
same_at d n (Some i) = get_same d n i

-- where each place has the default, each name does
found_same : (d : List ℕ) (names : List (List ℕ)) (n : ℕ) (name : List ℕ) → found d names (replicate n d) name ≡ d
found_same d names n name = same_at d n (place_of names name)

-- the same where the values are so many defaults
pub found_in : (d : List ℕ) (names : List (List ℕ)) (n : ℕ) (values : List (List ℕ)) (name : List ℕ) → values ≡ replicate n d → found d names values name ≡ d
found_in d names n values name all = ap (λ (vs : List (List ℕ)). found d names vs name) all ∙ found_same d names n name

-- boxes of no bytes are short
pub empty_short : (n : ℕ) → AreShort (replicate n [])
empty_short n = All-replicate (λ (b : List ℕ). length b ≤ 3900) n [] (omega arith)

-- ---- a search from a place on

pub place_hit : (n name : List ℕ) (rest : List (List ℕ)) → bytes_eq n name ≡ true → place_of (n ∷ rest) name ≡ Some 0
place_hit n name rest e = ap (λ (b : Bool). if b then Some 0 else option_map suc (place_of rest name)) e

pub place_miss : (n name : List ℕ) (rest : List (List ℕ)) → bytes_eq n name ≡ false → place_of (n ∷ rest) name ≡ option_map suc (place_of rest name)
place_miss n name rest e = ap (λ (b : Bool). if b then Some 0 else option_map suc (place_of rest name)) e

-- the place of a name among those from a place on
abbrev pub place_from : List (Bor (List ℕ)) → ℕ → List ℕ → Option ℕ
place_from names at name = option_map (λ (k : ℕ). at + k) (place_of (texts (drop at names)) name)

module _ (names : List (Bor (List ℕ))) (at : ℕ) (d : Bor (List ℕ)) (name : List ℕ) (within : at < length names) where
  pub place_here : bytes_eq (get_or names at d).now name ≡ true → place_from names at name ≡ Some at
  place_here e =
      let zero_more : at + 0 ≡ at = omega arith in
      ap (λ (t : List (List ℕ)). option_map (λ (k : ℕ). at + k) (place_of t name)) (texts_step names at d within)
      ∙ ap (option_map (λ (k : ℕ). at + k)) (place_hit (get_or names at d).now name (texts (drop (at + 1) names)) e)
      ∙ ap (λ (n : ℕ). Some n) zero_more

  pub place_later : bytes_eq (get_or names at d).now name ≡ false → place_from names at name ≡ place_from names (at + 1) name
  place_later e =
      ap (λ (t : List (List ℕ)). option_map (λ (k : ℕ). at + k) (place_of t name)) (texts_step names at d within)
      ∙ ap (option_map (λ (k : ℕ). at + k)) (place_miss (get_or names at d).now name (texts (drop (at + 1) names)) e)
      ∙ shift_more at (place_of (texts (drop (at + 1) names)) name)
