-- A command with its arguments, apart from where they lie in memory. Defaults are filled in, but for three that stay
-- absent: the handle, since the state tells which context is the caller's default, and the hidden input and the target
-- locality, which `hidden_or_zeros` and `locality_or` fill.
use Rattle.std.specs.Prelude.{ℕ, ◌==◌, Bool, true, false, List, [], Option, Some, None, unwrap_or, replicate, if◌then◌else◌}
use Rattle.dpe_messages.specs.FlatMap.{Value, number, byte_string, truth, FlatMap, value_at}
use Rattle.dpe_messages.specs.Numbers as command

-- the configuration input, or a descriptor whose hash it is
pub data Configuration : Type 0 where
  inline : List ℕ → Configuration
  descriptor : List ℕ → Configuration

pub record DeriveRequest : Type 0 where
  pub handle : Option (List ℕ)
  pub code : List ℕ
  pub config : Configuration
  pub authority : List ℕ
  pub mode : ℕ
  pub hidden : Option (List ℕ)
  pub retain : Bool
  pub may_derive : Bool
  pub locality : Option ℕ
  pub child_default : Bool

pub record SignRequest : Type 0 where
  pub handle : Option (List ℕ)
  pub label : List ℕ
  pub retain : Bool
  pub message : List ℕ

pub record SealRequest : Type 0 where
  pub handle : Option (List ℕ)
  pub label : List ℕ
  pub retain : Bool
  pub localities : ℕ
  pub modes : ℕ
  pub plain : List ℕ

pub record UnsealRequest : Type 0 where
  pub handle : Option (List ℕ)
  pub label : List ℕ
  pub retain : Bool
  pub sealed : List ℕ

pub data Request : Type 0 where
  get_profile : Request
  initialize : Bool → Request
  derive : DeriveRequest → Request
  sign : SignRequest → Request
  seal : SealRequest → Request
  unseal : UnsealRequest → Request
  rotate : Option (List ℕ) → Bool → Request
  destroy : Option (List ℕ) → Bool → Request

-- the value of an argument, or the default where it is absent
abbrev pub bytes_or : List ℕ → Option Value → List ℕ
bytes_or d (Some (byte_string b)) = b
bytes_or d _ = d

abbrev pub number_or : ℕ → Option Value → ℕ
number_or d (Some (number n)) = n
number_or d _ = d

abbrev pub truth_or : Bool → Option Value → Bool
truth_or d (Some (truth b)) = b
truth_or d _ = d

abbrev pub bytes_if : Option Value → Option (List ℕ)
bytes_if (Some (byte_string b)) = Some b
bytes_if _ = None

abbrev pub number_if : Option Value → Option ℕ
number_if (Some (number n)) = Some n
number_if _ = None

abbrev pub config_of : Option Value → Option Value → Configuration
config_of (Some (byte_string b)) _ = inline b
config_of _ d = descriptor (bytes_or [] d)

-- the arguments of DeriveContext, where `at` gives the value at each key
abbrev pub derive_from : (ℕ → Option Value) → DeriveRequest
derive_from at = record {
  handle = bytes_if (at 1);
  code = bytes_or [] (at 2);
  config = config_of (at 3) (at 4);
  authority = bytes_or [] (at 5);
  mode = number_or 0 (at 6);
  hidden = bytes_if (at 7);
  retain = truth_or false (at 8);
  may_derive = truth_or true (at 9);
  locality = number_if (at 10);
  child_default = truth_or false (at 12);
}

abbrev pub sign_from : (ℕ → Option Value) → SignRequest
sign_from at = record {
  handle = bytes_if (at 1);
  label = bytes_or [] (at 2);
  retain = truth_or false (at 3);
  message = bytes_or [] (at 5);
}

abbrev pub seal_from : (ℕ → Option Value) → SealRequest
seal_from at = record {
  handle = bytes_if (at 1);
  label = bytes_or [] (at 2);
  retain = truth_or false (at 3);
  localities = number_or 255 (at 4);
  modes = number_or 15 (at 5);
  plain = bytes_or [] (at 6);
}

abbrev pub unseal_from : (ℕ → Option Value) → UnsealRequest
unseal_from at = record {
  handle = bytes_if (at 1);
  label = bytes_or [] (at 2);
  retain = truth_or false (at 3);
  sealed = bytes_or [] (at 5);
}

-- the command of this number
abbrev pub request_from : ℕ → (ℕ → Option Value) → Request
request_from n at =
    if n == command.initialize_context then initialize (truth_or false (at 2))
    else (if n == command.derive_context then derive (derive_from at)
    else (if n == command.sign then sign (sign_from at)
    else (if n == command.seal then seal (seal_from at)
    else (if n == command.unseal then unseal (unseal_from at)
    else (if n == command.rotate_context_handle then rotate (bytes_if (at 1)) (truth_or false (at 2))
    else (if n == command.destroy_context then destroy (bytes_if (at 1)) (truth_or false (at 2))
    else get_profile))))))

-- the command of this number with these arguments
unfoldable pub request : ℕ → FlatMap → Request
request n m = request_from n (λ key. value_at key m)

-- What a command leaves open, filled in where it is executed: the hidden input is 64 zeros where it is
-- absent, and the locality of the child is the caller's.
abbrev pub hidden_or_zeros : DeriveRequest → List ℕ
hidden_or_zeros d = unwrap_or d.hidden (replicate 64 0)

abbrev pub locality_or : ℕ → DeriveRequest → ℕ
locality_or caller d = unwrap_or d.locality caller
