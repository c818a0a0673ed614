-- The ranges that the class gives the arguments of a command.
use Rattle.std.specs.Prelude.{◌≡◌, ℕ, ◌≤◌, List, [], ◌∷◌, length, IfSome, unwrap_or}
use Rattle.dpe_cbor.specs.Decoding.{AreBytes}
use Rattle.dpe_messages.specs.Request.{Configuration, inline, descriptor, DeriveRequest, SignRequest, SealRequest, UnsealRequest, Request, get_profile, initialize, derive, sign, seal, unseal, rotate, destroy}
use Rattle.dpe_messages.specs.Class.{class, accepted}

abbrev pub IsHandle : List ℕ → Type 0
IsHandle h = length h ≡ 16

abbrev pub IsInput : List ℕ → Type 0
IsInput x = length x ≡ 64

abbrev pub IsLabel : List ℕ → Type 0
IsLabel l = length l ≤ 64

abbrev pub IsConfiguration : Configuration → Type 0
IsConfiguration (inline b) = IsInput b
IsConfiguration (descriptor b) = length b ≤ 1024

pub record IsDerive (d : DeriveRequest) : Type 0 where
  pub handle : IfSome d.handle IsHandle
  pub code : IsInput d.code
  pub config : IsConfiguration d.config
  pub authority : IsInput d.authority
  pub mode : d.mode ≤ 3
  pub hidden : IfSome d.hidden IsInput
  pub locality : IfSome d.locality (λ l. l ≤ 7)

pub record IsSign (s : SignRequest) : Type 0 where
  pub handle : IfSome s.handle IsHandle
  pub label : IsLabel s.label
  pub message : length s.message ≤ 2048

pub record IsSeal (s : SealRequest) : Type 0 where
  pub handle : IfSome s.handle IsHandle
  pub label : IsLabel s.label
  pub localities : s.localities ≤ 255
  pub modes : s.modes ≤ 15
  pub plain : length s.plain ≤ 2048

pub record IsUnseal (u : UnsealRequest) : Type 0 where
  pub handle : IfSome u.handle IsHandle
  pub label : IsLabel u.label
  pub sealed : length u.sealed ≤ 3900

-- each argument of the command is in its range
abbrev pub InRanges : Request → Type 0
InRanges get_profile = Unit {0}
InRanges (initialize default) = Unit {0}
InRanges (derive d) = IsDerive d
InRanges (sign s) = IsSign s
InRanges (seal s) = IsSeal s
InRanges (unseal u) = IsUnseal u
InRanges (rotate h default) = IfSome h IsHandle
InRanges (destroy h recursive) = IfSome h IsHandle

-- what the class accepts is in its ranges
abbrev pub AcceptedInRanges : Type 0
AcceptedInRanges = (p : List ℕ) (r : Request) → class p ≡ accepted r → InRanges r

abbrev pub configuration_bytes : Configuration → List ℕ
configuration_bytes (inline b) = b
configuration_bytes (descriptor b) = b

-- the byte strings among the arguments of a command
abbrev pub byte_strings : Request → List (List ℕ)
byte_strings get_profile = []
byte_strings (initialize default) = []
byte_strings (derive d) = unwrap_or d.handle [] ∷ d.code ∷ configuration_bytes d.config ∷ d.authority ∷ unwrap_or d.hidden [] ∷ []
byte_strings (sign s) = unwrap_or s.handle [] ∷ s.label ∷ s.message ∷ []
byte_strings (seal s) = unwrap_or s.handle [] ∷ s.label ∷ s.plain ∷ []
byte_strings (unseal u) = unwrap_or u.handle [] ∷ u.label ∷ u.sealed ∷ []
byte_strings (rotate h default) = unwrap_or h [] ∷ []
byte_strings (destroy h recursive) = unwrap_or h [] ∷ []

abbrev pub AllAreBytes : List (List ℕ) → Type 0
AllAreBytes [] = Unit {0}
AllAreBytes (b ∷ others) = AreBytes b × AllAreBytes others

-- in a payload of bytes they are of bytes
abbrev pub AcceptedAreBytes : Type 0
AcceptedAreBytes = (p : List ℕ) (r : Request) → AreBytes p → class p ≡ accepted r → AllAreBytes (byte_strings r)
