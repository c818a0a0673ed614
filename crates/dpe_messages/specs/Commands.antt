-- A command as the request that it makes, apart from where its arguments lie in memory.
use Rattle.std.specs.Prelude.{ℕ, List, Option, Result, Ok, Err}
use Rattle.std.specs.Borrow.{Bor}
use Rattle.std.specs.Option.{option_map}
use Rattle.dpe_messages.specs.declared.command.Config.{Config}
use Rattle.dpe_messages.specs.declared.command.Config.TheVariants.{Inline, Descriptor}
use Rattle.dpe_messages.specs.declared.command.Derive.{Derive}
use Rattle.dpe_messages.specs.declared.command.Sign.{Sign}
use Rattle.dpe_messages.specs.declared.command.Seal.{Seal}
use Rattle.dpe_messages.specs.declared.command.Unseal.{Unseal}
use Rattle.dpe_messages.specs.declared.command.Command.{Command}
use Rattle.dpe_messages.specs.declared.command.Command.TheVariants as commands
use Rattle.dpe_messages.specs.declared.command.Refusal.{Refusal}
use Rattle.dpe_messages.specs.declared.command.Refusal.TheVariants.{NotACommand, Unsupported, BadArguments}
use Rattle.dpe_messages.specs.Request.{Configuration, inline, descriptor, DeriveRequest, SignRequest, SealRequest, UnsealRequest, Request, get_profile, initialize, derive, sign, seal, unseal, rotate, destroy}
use Rattle.dpe_messages.specs.Class.{Class, refused, accepted}
use Rattle.dpe_messages.specs.Codes as code

abbrev pub configuration_of : Config → Configuration
configuration_of (Inline b) = inline b.now
configuration_of (Descriptor b) = descriptor b.now

-- the bytes of a lent handle, if there is one
abbrev pub name_of : Option (Bor (List ℕ)) → Option (List ℕ)
name_of handle = option_map (λ h. h.now) handle

abbrev pub derive_request : Derive → DeriveRequest
derive_request d = record {
  handle = name_of d.handle;
  code = d.code.now;
  config = configuration_of d.config;
  authority = d.authority.now;
  mode = d.mode;
  hidden = option_map (λ h. h.now) d.hidden;
  retain = d.retain;
  may_derive = d.may_derive;
  locality = d.locality;
  child_default = d.child_default;
}

abbrev pub sign_request : Sign → SignRequest
sign_request s = record { handle = name_of s.handle; label = s.label.now; retain = s.retain; message = s.message.now }

abbrev pub seal_request : Seal → SealRequest
seal_request s = record {
  handle = name_of s.handle;
  label = s.label.now;
  retain = s.retain;
  localities = s.localities;
  modes = s.modes;
  plain = s.plain.now;
}

abbrev pub unseal_request : Unseal → UnsealRequest
unseal_request u = record { handle = name_of u.handle; label = u.label.now; retain = u.retain; sealed = u.sealed.now }

abbrev pub request_of : Command → Request
request_of commands.GetProfile = get_profile
request_of (commands.Initialize default) = initialize default
request_of (commands.Derive d) = derive (derive_request d)
request_of (commands.Sign s) = sign (sign_request s)
request_of (commands.Seal s) = seal (seal_request s)
request_of (commands.Unseal u) = unseal (unseal_request u)
request_of (commands.Rotate h default) = rotate (name_of h) default
request_of (commands.Destroy h recursive) = destroy (name_of h) recursive

-- the code of each refusal
abbrev pub refusal_code : Refusal → ℕ
refusal_code NotACommand = code.invalid_command
refusal_code Unsupported = code.unsupported
refusal_code BadArguments = code.invalid_argument

-- the class that an answer gives a payload
abbrev pub class_of_answer : Result Command Refusal → Class
class_of_answer (Ok command) = accepted (request_of command)
class_of_answer (Err refusal) = refused (refusal_code refusal)
