-- The payload of each command that leaves out what equals its default.
use Rattle.std.specs.Prelude.{ℕ, ◌≡◌, ◌≤◌, ◌==◌, Bool, true, List, [], ◌∷◌, length, Option, Some, None, IfSome, if◌then◌else◌}
use Rattle.std.specs.Option.{option_map}
use Rattle.dpe_messages.specs.FlatMap.{Value, number, byte_string, truth}
use Rattle.dpe_messages.specs.Message.{Row, present, message}
use Rattle.dpe_messages.specs.Numbers as command
use Rattle.dpe_messages.specs.Request.{Configuration, inline, descriptor, DeriveRequest, SignRequest, SealRequest, UnsealRequest, Request, get_profile, initialize, derive, sign, seal, unseal, rotate, destroy}
use Rattle.dpe_messages.specs.declared.command.Config.{Config}
use Rattle.dpe_messages.specs.declared.command.Config.TheVariants.{Inline, Descriptor}
use Rattle.dpe_messages.specs.declared.command.Derive.{Derive}
use Rattle.dpe_messages.specs.declared.command.Command.{Command}
use Rattle.dpe_messages.specs.declared.command.Command.TheVariants as commands

-- ---- a value, or none where it is the default

abbrev pub unless_empty : List ℕ → Option Value
unless_empty b = if length b == 0 then None else Some (byte_string b)

abbrev pub unless_number : ℕ → ℕ → Option Value
unless_number default n = if n == default then None else Some (number n)

abbrev pub if_true : Bool → Option Value
if_true b = if b then Some (truth true) else None

abbrev pub unless_true : Bool → Option Value
unless_true b = if b then None else Some (truth b)

abbrev pub inline_value : Configuration → Option Value
inline_value (inline b) = Some (byte_string b)
inline_value (descriptor d) = None

abbrev pub descriptor_value : Configuration → Option Value
descriptor_value (inline b) = None
descriptor_value (descriptor d) = Some (byte_string d)

-- ---- the arguments

abbrev pub derive_rows : DeriveRequest → List Row
derive_rows d =
    (1, option_map byte_string d.handle)
    ∷ (2, Some (byte_string d.code))
    ∷ (3, inline_value d.config)
    ∷ (4, descriptor_value d.config)
    ∷ (5, Some (byte_string d.authority))
    ∷ (6, Some (number d.mode))
    ∷ (7, option_map byte_string d.hidden)
    ∷ (8, if_true d.retain)
    ∷ (9, unless_true d.may_derive)
    ∷ (10, option_map number d.locality)
    ∷ (12, if_true d.child_default)
    ∷ []

abbrev pub sign_rows : SignRequest → List Row
sign_rows s =
    (1, option_map byte_string s.handle)
    ∷ (2, unless_empty s.label)
    ∷ (3, if_true s.retain)
    ∷ (4, Some (truth true))
    ∷ (5, Some (byte_string s.message))
    ∷ []

abbrev pub seal_rows : SealRequest → List Row
seal_rows s =
    (1, option_map byte_string s.handle)
    ∷ (2, unless_empty s.label)
    ∷ (3, if_true s.retain)
    ∷ (4, unless_number 255 s.localities)
    ∷ (5, unless_number 15 s.modes)
    ∷ (6, Some (byte_string s.plain))
    ∷ []

abbrev pub unseal_rows : UnsealRequest → List Row
unseal_rows u =
    (1, option_map byte_string u.handle)
    ∷ (2, unless_empty u.label)
    ∷ (3, if_true u.retain)
    ∷ (5, Some (byte_string u.sealed))
    ∷ []

abbrev pub command_rows : Request → List Row
command_rows get_profile = []
command_rows (initialize default) = (2, if_true default) ∷ []
command_rows (derive d) = derive_rows d
command_rows (sign s) = sign_rows s
command_rows (seal s) = seal_rows s
command_rows (unseal u) = unseal_rows u
command_rows (rotate handle default) = (1, option_map byte_string handle) ∷ (2, if_true default) ∷ []
command_rows (destroy handle recursive) = (1, option_map byte_string handle) ∷ (2, if_true recursive) ∷ []

abbrev pub number_of_request : Request → ℕ
number_of_request get_profile = command.get_profile
number_of_request (initialize default) = command.initialize_context
number_of_request (derive d) = command.derive_context
number_of_request (sign s) = command.sign
number_of_request (seal s) = command.seal
number_of_request (unseal u) = command.unseal
number_of_request (rotate handle default) = command.rotate_context_handle
number_of_request (destroy handle recursive) = command.destroy_context

abbrev pub command_payload : Request → List ℕ
command_payload r = message (number_of_request r) (present (command_rows r))

-- ---- the ranges of the arguments

-- an inline configuration has its length
abbrev pub IsInlineRight : Configuration → Type 0
IsInlineRight (inline b) = length b ≡ 64
IsInlineRight (descriptor d) = Unit {0}

-- What a writer of commands asks for: the ranges that the types don't keep.
abbrev pub IsShort : Config → Type 0
IsShort (Inline b) = Unit {0}
IsShort (Descriptor d) = length d.now ≤ 1024

pub record IsDeriveWritable (d : Derive) : Type 0 where
  pub config_short : IsShort d.config
  pub mode_range : d.mode ≤ 3
  pub locality_range : IfSome d.locality (λ l. l ≤ 7)

abbrev pub IsCommandWritable : Command → Type 0
IsCommandWritable commands.GetProfile = Unit {0}
IsCommandWritable (commands.Initialize default) = Unit {0}
IsCommandWritable (commands.Derive d) = IsDeriveWritable d
IsCommandWritable (commands.Sign s) = (length s.label.now ≤ 64) × (length s.message.now ≤ 2048)
IsCommandWritable (commands.Seal s) = (length s.label.now ≤ 64) × (s.modes ≤ 15) × (length s.plain.now ≤ 2048)
IsCommandWritable (commands.Unseal u) = (length u.label.now ≤ 64) × (length u.sealed.now ≤ 3900)
IsCommandWritable (commands.Rotate handle default) = Unit {0}
IsCommandWritable (commands.Destroy handle recursive) = Unit {0}
