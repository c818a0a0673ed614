-- What a script means: what is sent on each link and what is printed, as functions of its lines and of the answers.
use Rattle.std.specs.Prelude.{ℕ, ◌==◌, ◌≤◌, not, List, [], ◌∷◌, ◌++◌, length, codes, replicate, filter, flat_map, Option, Some, None, option_map, is_some, if◌then◌else◌, bytes_eq, ◌⊎◌}
use Rattle.std.specs.Fmt.{decimal}
use Rattle.hex.specs.Hex.{encode_lower}
use Rattle.dpe_link.specs.Frames.{frame}
use Rattle.dpe_messages.specs.Request as request
use Rattle.dpe_messages.specs.CommandRows.{command_payload}
use Rattle.dpe_messages.specs.Replies.{Response, handle, derived, made, code_of, reply_payload, IsRefusal, IsAnswer}
use Rattle.dpe_messages.specs.declared.reply_reader.Asked.{Asked}
use Rattle.dpe_messages.specs.declared.reply_reader.Asked.TheVariants as asked
use Rattle.dpe_grammar.specs.Acts.{Act, profile, initialize, derive, sign, seal, unseal, rotate, destroy, raw, DeriveLine}
use Rattle.dpe_script.specs.Names.{fresh_of, keep_of, sealed_of}
use Rattle.dpe_script.specs.Script.{Line}

-- ## Values of names

pub record Values : Type 0 where
  pub handles : List ℕ → List ℕ
  pub boxes : List ℕ → List ℕ

-- a name without a value is 16 zeros, or for a box no bytes
abbrev pub no_values : Values
no_values = record { handles = λ name. replicate 16 0; boxes = λ name. [] }

-- a name takes a value, where both are there
abbrev pub taken : Option (List ℕ) → Option (List ℕ) → (List ℕ → List ℕ) → List ℕ → List ℕ
taken None value values name = values name
taken (Some taker) None values name = values name
taken (Some taker) (Some value) values name = if bytes_eq name taker then value else values name

-- ## Answers

-- What came back for a line: to `raw` any payload, to every other command a response.
pub data Answer : Type 0 where
  payload : List ℕ → Answer
  response : Response → Answer

abbrev pub answer_payload : Answer → List ℕ
answer_payload (payload p) = p
answer_payload (response r) = reply_payload r

-- the command that a reply has to answer; none for `raw`
abbrev pub asked_of : Act → Option Asked
asked_of profile = Some asked.GetProfile
asked_of (initialize fresh is_default) = Some asked.Initialize
asked_of (derive d) = Some asked.Derive
asked_of (sign s) = Some asked.Sign
asked_of (seal s) = Some asked.Seal
asked_of (unseal u) = Some asked.Unseal
asked_of (rotate old fresh is_default) = Some asked.Rotate
asked_of (destroy old recursive) = Some asked.Destroy
asked_of (raw b) = None

abbrev pub IsAnswerTo : Option Asked → Answer → Type 0
IsAnswerTo None (payload p) = length p ≤ 4096
IsAnswerTo None (response r) = ⊥
IsAnswerTo (Some command) (payload p) = ⊥
IsAnswerTo (Some command) (response r) = IsRefusal r ⊎ IsAnswer command r

-- the handles and the byte string that a response carries
abbrev pub new_handle : Response → Option (List ℕ)
new_handle (handle h) = Some h
new_handle (derived child parent) = Some child
new_handle r = None

abbrev pub kept_handle : Response → Option (List ℕ)
kept_handle (derived child parent) = parent
kept_handle (made h b) = h
kept_handle r = None

abbrev pub made_bytes : Response → Option (List ℕ)
made_bytes (made h b) = Some b
made_bytes r = None

-- the values after a command and its answer: the parent's new handle comes last, so it stays where both names are one
abbrev pub after : Values → Act → Answer → Values
after v act (payload p) = v
after v act (response r) = record {
  handles = taken (keep_of act) (kept_handle r) (taken (fresh_of act) (new_handle r) v.handles);
  boxes = taken (sealed_of act) (made_bytes r) v.boxes;
}

-- ## What is sent

-- the handle of a name, none where a command leaves the handle out
abbrev pub handle_if : Values → Option (List ℕ) → Option (List ℕ)
handle_if v old = option_map v.handles old

-- what a `derive` line asks for with this handle
abbrev pub derive_command : Option (List ℕ) → DeriveLine → request.Request
derive_command used d = request.derive (record {
  handle = used;
  code = d.code;
  config = d.config;
  authority = d.authority;
  mode = d.mode;
  hidden = d.hidden;
  retain = is_some d.keep;
  may_derive = not d.is_final;
  locality = d.locality;
  child_default = d.is_default;
})

-- the payload of a command, its names taken for their values
abbrev pub sent_payload : Values → Act → List ℕ
sent_payload v profile = command_payload request.get_profile
sent_payload v (initialize fresh is_default) = command_payload (request.initialize is_default)
sent_payload v (derive d) = command_payload (derive_command (handle_if v d.old) d)
sent_payload v (sign s) =
    command_payload (request.sign (record { handle = handle_if v s.old; label = s.label; retain = is_some s.keep; message = s.message }))
sent_payload v (seal s) =
    command_payload (request.seal (record {
      handle = handle_if v s.old;
      label = s.label;
      retain = is_some s.keep;
      localities = s.localities;
      modes = s.modes;
      plain = s.plain;
    }))
sent_payload v (unseal u) =
    command_payload (request.unseal (record { handle = handle_if v u.old; label = u.label; retain = is_some u.keep; sealed = v.boxes u.sealed }))
sent_payload v (rotate old fresh is_default) = command_payload (request.rotate (handle_if v old) is_default)
sent_payload v (destroy old recursive) = command_payload (request.destroy (handle_if v old) recursive)
sent_payload v (raw b) = b

-- a payload on a link
pub record Posted : Type 0 where
  pub link : ℕ
  pub payload : List ℕ

abbrev pub posted : Values → Line → Posted
posted v line = record { link = line.link; payload = sent_payload v line.act }

-- The commands of the lines that were answered, and of the next one, if there is one.
abbrev pub posts : Values → List Line → List Answer → List Posted
posts v [] answers = []
posts v (line ∷ lines) [] = posted v line ∷ []
posts v (line ∷ lines) (answer ∷ answers) = posted v line ∷ posts (after v line.act answer) lines answers

-- the frames on one link
abbrev pub frames_on : ℕ → List Posted → List ℕ
frames_on link all = flat_map (λ p. frame p.payload) (filter (λ p. p.link == link) all)

-- all that is sent on a link
abbrev pub sent : List Line → List Answer → ℕ → List ℕ
sent lines answers link = frames_on link (posts no_values lines answers)

-- the answers to the lines of one link, in order, as what stands on that link
abbrev pub got : List Line → List Answer → ℕ → List ℕ
got [] answers link = []
got (line ∷ lines) [] link = []
got (line ∷ lines) (answer ∷ answers) link =
    (if line.link == link then frame (answer_payload answer) else []) ++ got lines answers link

-- ## What is printed

-- a byte string behind a space, which stays where there are no bytes
abbrev pub shown : Option (List ℕ) → List ℕ
shown None = []
shown (Some bytes) = codes " " ++ encode_lower bytes

abbrev pub answer_text : Answer → List ℕ
answer_text (payload p) = codes "-" ++ shown (Some p)
answer_text (response r) = decimal (code_of r) ++ shown (made_bytes r)

-- the line's number, a space, the answer and a line feed
abbrev pub said_of : Line → Answer → List ℕ
said_of line answer = decimal line.number ++ codes " " ++ answer_text answer ++ codes "\n"

-- all that is printed for these answers
abbrev pub said : List Line → List Answer → List ℕ
said [] answers = []
said (line ∷ lines) [] = []
said (line ∷ lines) (answer ∷ answers) = said_of line answer ++ said lines answers
