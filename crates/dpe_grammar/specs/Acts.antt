-- The commands of a script.
use Rattle.std.specs.Prelude.{ℕ, Bool, List, Option, option_map, IfSome, ◌≤◌, length}
use Rattle.std.specs.Borrow.{Bor}
use Rattle.dpe_messages.specs.Request.{Configuration, inline, descriptor}
use Rattle.dpe_grammar.specs.Values.{value_of}
use Rattle.dpe_grammar.specs.declared.act.Config.{Config}
use Rattle.dpe_grammar.specs.declared.act.Config.TheVariants as configs
use Rattle.dpe_grammar.specs.declared.act.Derive as code_derive
use Rattle.dpe_grammar.specs.declared.act.Sign as code_sign
use Rattle.dpe_grammar.specs.declared.act.Seal as code_seal
use Rattle.dpe_grammar.specs.declared.act.Unseal as code_unseal
use Rattle.dpe_grammar.specs.declared.act.Act as code
use Rattle.dpe_grammar.specs.declared.act.Act.TheVariants as acts

-- the name that is used, none where the handle is left out, the new name, the arguments, and the name that keeps the
-- parent where it is retained
pub record DeriveLine : Type 0 where
  pub old : Option (List ℕ)
  pub fresh : List ℕ
  pub code : List ℕ
  pub config : Configuration
  pub authority : List ℕ
  pub mode : ℕ
  pub hidden : Option (List ℕ)
  pub keep : Option (List ℕ)
  pub locality : Option ℕ
  pub is_final : Bool
  pub is_default : Bool

pub record SignLine : Type 0 where
  pub old : Option (List ℕ)
  pub message : List ℕ
  pub label : List ℕ
  pub keep : Option (List ℕ)

pub record SealLine : Type 0 where
  pub old : Option (List ℕ)
  pub sealed : List ℕ
  pub plain : List ℕ
  pub label : List ℕ
  pub localities : ℕ
  pub modes : ℕ
  pub keep : Option (List ℕ)

pub record UnsealLine : Type 0 where
  pub old : Option (List ℕ)
  pub sealed : List ℕ
  pub label : List ℕ
  pub keep : Option (List ℕ)

-- The truth of `initialize` and `rotate` is whether the context is to be its locality's default.
pub data Act : Type 0 where
  profile : Act
  initialize : List ℕ → Bool → Act
  derive : DeriveLine → Act
  sign : SignLine → Act
  seal : SealLine → Act
  unseal : UnsealLine → Act
  rotate : Option (List ℕ) → List ℕ → Bool → Act
  destroy : Option (List ℕ) → Bool → Act
  raw : List ℕ → Act

-- ## The commands as the code has them

-- a name that may be left out
abbrev pub name_if : Option (Bor (List ℕ)) → Option (List ℕ)
name_if name = option_map (λ t. t.now) name

abbrev pub config_of : Config → Configuration
config_of (configs.Inline b) = inline b
config_of (configs.Descriptor v) = descriptor (value_of v)

abbrev pub derive_line : code_derive.Derive → DeriveLine
derive_line d = record {
  old = name_if d.old;
  fresh = d.fresh.now;
  code = d.code;
  config = config_of d.config;
  authority = d.authority;
  mode = d.mode;
  hidden = d.hidden;
  keep = name_if d.keep;
  locality = d.locality;
  is_final = d.is_final;
  is_default = d.is_default;
}

abbrev pub sign_line : code_sign.Sign → SignLine
sign_line s = record {
  old = name_if s.old;
  message = value_of s.message;
  label = value_of s.label;
  keep = name_if s.keep;
}

abbrev pub seal_line : code_seal.Seal → SealLine
seal_line s = record {
  old = name_if s.old;
  sealed = s.sealed.now;
  plain = value_of s.plain;
  label = value_of s.label;
  localities = s.localities;
  modes = s.modes;
  keep = name_if s.keep;
}

abbrev pub unseal_line : code_unseal.Unseal → UnsealLine
unseal_line u = record {
  old = name_if u.old;
  sealed = u.sealed.now;
  label = value_of u.label;
  keep = name_if u.keep;
}

abbrev pub act_of : code.Act → Act
act_of acts.Profile = profile
act_of (acts.Initialize fresh is_default) = initialize fresh.now is_default
act_of (acts.Derive d) = derive (derive_line d)
act_of (acts.Sign s) = sign (sign_line s)
act_of (acts.Seal s) = seal (seal_line s)
act_of (acts.Unseal u) = unseal (unseal_line u)
act_of (acts.Rotate old fresh is_default) = rotate (name_if old) fresh.now is_default
act_of (acts.Destroy old recursive) = destroy (name_if old) recursive
act_of (acts.Raw v) = raw (value_of v)

-- ## Ranges that the types don't keep

abbrev pub IsShort : Configuration → Type 0
IsShort (inline b) = Unit {0}
IsShort (descriptor d) = length d ≤ 1024

pub record IsDeriveInRange (d : DeriveLine) : Type 0 where
  pub config : IsShort d.config
  pub mode : d.mode ≤ 3
  pub locality : IfSome d.locality (λ l. l ≤ 7)

abbrev pub IsInRange : Act → Type 0
IsInRange (derive d) = IsDeriveInRange d
IsInRange (sign s) = (length s.label ≤ 64) × (length s.message ≤ 2048)
IsInRange (seal s) = (length s.label ≤ 64) × (s.modes ≤ 15) × (length s.plain ≤ 2048)
IsInRange (unseal u) = length u.label ≤ 64
IsInRange (raw b) = length b ≤ 4000
IsInRange act = Unit {0}
