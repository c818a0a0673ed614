-- A path as the program reads it: inputs of 257 bytes each, one behind the other.
use Rattle.std.specs.Prelude.{◌≡◌, ℕ, zero, suc, ◌+◌, ◌*◌, ◌/◌, ◌%◌, ◌≤◌, List, [], ◌∷◌, ◌++◌, All, length, take, drop, slice_index}
use Rattle.dpe_inputs.specs.declared.Input.{Input}

-- the code, the configuration, the authority, the mode and the hidden input from a place on
abbrev pub input_at : List ℕ → ℕ → Input
input_at b at = record {
  code = take 64 (drop at b);
  config = take 64 (drop (at + 64) b);
  authority = take 64 (drop (at + 128) b);
  mode = slice_index b (at + 192);
  hidden = take 64 (drop (at + 193) b);
}

-- the first n inputs
abbrev pub first_inputs : ℕ → List ℕ → List Input
first_inputs zero b = []
first_inputs (suc n) b = first_inputs n b ++ input_at b (257 * n) ∷ []

abbrev pub path_of : List ℕ → List Input
path_of b = first_inputs (length b / 257) b

-- at most 32 whole inputs with modes 0 to 3
pub record IsPath (b : List ℕ) : Type 0 where
  pub whole : length b % 257 ≡ 0
  pub few : length b ≤ 8224
  pub modes : All (λ x. x.mode ≤ 3) (path_of b)
