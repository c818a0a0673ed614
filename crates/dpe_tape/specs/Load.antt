-- The commands of a load, each made of ten draws and of what the replies before it gave.
use Rattle.std.specs.Prelude.{ℕ, zero, suc, ◌+◌, ◌/◌, ◌%◌, ◌==◌, ◌&&◌, Bool, true, false, List, [], ◌∷◌, ◌++◌, replicate, nat_le, Some, None, if◌then◌else◌}
use Rattle.std.specs.Int.{to_be_bytes, w64}
use Rattle.dpe_messages.specs.Request.{Request, DeriveRequest, SignRequest, SealRequest, UnsealRequest, get_profile, initialize, derive, sign, seal, unseal, rotate, destroy, inline}
use Rattle.dpe_messages.specs.Replies.{Response, refused, profile, handle, derived, made, done, code_of}
use Rattle.dpe_messages.specs.CommandRows.{command_payload}
use Rattle.dpe_messages.specs.declared.reply_reader.Asked.{Asked}
use Rattle.dpe_messages.specs.declared.reply_reader.Asked.TheVariants as asked
use Rattle.dpe_model.specs.State.{Machine}
use Rattle.dpe_model.specs.Step.{Outcome, step}
use Rattle.dpe_tape.specs.declared.act.Act.{Act}
use Rattle.dpe_tape.specs.declared.act.Act.TheVariants.{Initialize, Derive, DeriveAway, Rotate, Sign, Seal, Unseal, Destroy, RotateSpent, Profile}
use Rattle.dpe_tape.specs.declared.pool.Pair.{Pair}
use Rattle.dpe_tape.specs.Draws.{random_of, choice_of, argument_of, number_behind, repeated}
use Rattle.dpe_tape.specs.Pool.{no_handle, picked, without_picked, with_pair, with_if, pair}
use Rattle.dpe_tape.specs.Answers.{machine_at}

-- ## One command

-- what a number of 0 to 15 chooses
unfoldable pub act_of : ℕ → Act
act_of a =
    if nat_le a 4 then Derive
    else (if a == 5 then DeriveAway
    else (if a == 6 then Rotate
    else (if nat_le a 8 then Sign
    else (if nat_le a 10 then Seal
    else (if nat_le a 12 then Unseal
    else (if a == 13 then Destroy
    else (if a == 14 then RotateSpent
    else Profile)))))))

-- an input of 64 equal bytes
abbrev pub filled : ℕ → ℕ → List ℕ
filled b t = replicate 64 ((b + t) % 256)

-- the target locality of a child
abbrev pub target : ℕ → ℕ
target b = b / 8 % 8

abbrev pub derivation : List ℕ → ℕ → Bool → DeriveRequest
derivation named b retain = record {
  handle = Some named;
  code = filled b 0;
  config = inline (filled b 1);
  authority = filled b 2;
  mode = b % 4;
  hidden = None;
  retain = retain;
  may_derive = true;
  locality = Some (target b);
  child_default = false;
}

-- what is signed and sealed
abbrev pub message : ℕ → List ℕ
message b = repeated 8 b

-- the other commands on a handle, each with the empty label and retaining the context
abbrev pub signing : List ℕ → List ℕ → SignRequest
signing named text = record { handle = Some named; label = []; retain = true; message = text }

-- for each locality and mode
abbrev pub sealing : List ℕ → List ℕ → SealRequest
sealing named text = record { handle = Some named; label = []; retain = true; localities = 255; modes = 15; plain = text }

abbrev pub unsealing : List ℕ → List ℕ → UnsealRequest
unsealing named sealed = record { handle = Some named; label = []; retain = true; sealed = sealed }

-- the command on a handle with the argument b; the last box and the last spent handle are those of earlier replies
abbrev pub request_for : Act → List ℕ → ℕ → List ℕ → List ℕ → Request
request_for Initialize named b last_box spent = initialize false
request_for Derive named b last_box spent = derive (derivation named b true)
request_for DeriveAway named b last_box spent = derive (derivation named b false)
request_for Rotate named b last_box spent = rotate (Some named) false
request_for Sign named b last_box spent = sign (signing named (message b))
request_for Seal named b last_box spent = seal (sealing named (message b))
request_for Unseal named b last_box spent = unseal (unsealing named last_box)
request_for Destroy named b last_box spent = destroy (Some named) false
request_for RotateSpent named b last_box spent = rotate (Some spent) false
request_for Profile named b last_box spent = get_profile

-- what a request's sender asks for
abbrev pub asked_of : Request → Asked
asked_of get_profile = asked.GetProfile
asked_of (initialize default) = asked.Initialize
asked_of (derive d) = asked.Derive
asked_of (sign s) = asked.Sign
asked_of (seal s) = asked.Seal
asked_of (unseal u) = asked.Unseal
asked_of (rotate named default) = asked.Rotate
asked_of (destroy named recursive) = asked.Destroy

abbrev pub asked_by : Act → Asked
asked_by Initialize = asked.Initialize
asked_by Derive = asked.Derive
asked_by DeriveAway = asked.Derive
asked_by Rotate = asked.Rotate
asked_by Sign = asked.Sign
asked_by Seal = asked.Seal
asked_by Unseal = asked.Unseal
asked_by Destroy = asked.Destroy
asked_by RotateSpent = asked.Rotate
asked_by Profile = asked.GetProfile

-- the caller's locality
abbrev pub locality_for : Act → ℕ → ℕ
locality_for Initialize near = 0
locality_for RotateSpent near = 0
locality_for Profile near = 0
locality_for act near = near

-- it names the picked handle
abbrev pub names_picked : Act → Bool
names_picked Initialize = false
names_picked RotateSpent = false
names_picked Profile = false
names_picked act = true

-- ## What replies give

-- what the next commands are made of
pub record Stock : Type 0 where
  pub pool : List Pair
  pub last_box : List ℕ
  pub spent : List ℕ

-- no handle, the empty box, and 16 zeros
abbrev pub first_stock : Stock
first_stock = record { pool = []; last_box = []; spent = no_handle }

-- a picked pair whose handle a command spent
abbrev pub without_spent : Stock → ℕ → Stock
without_spent s b = record { pool = without_picked s.pool b; last_box = s.last_box; spent = (picked s.pool b).handle }

-- a command of code 0 spends the picked handle, if it names it
abbrev pub after_spending : Act → Response → Stock → ℕ → Stock
after_spending act response s b = if code_of response == 0 && names_picked act then without_spent s b else s

-- the locality of a new handle that is no child's: the root is at 0, any other at the picked locality
abbrev pub locality_of_new : Act → ℕ → ℕ
locality_of_new Initialize near = 0
locality_of_new act near = near

-- the handles of a reply in the order of their keys; a child is at its target locality
abbrev pub with_handles : Act → Response → ℕ → ℕ → List Pair → List Pair
with_handles act (refused code) near b pool = pool
with_handles act profile near b pool = pool
with_handles act (handle new) near b pool = with_pair pool (pair new (locality_of_new act near))
with_handles act (derived child parent) near b pool = with_if (with_pair pool (pair child (target b))) parent near
with_handles act (made new bytes) near b pool = with_if pool new near
with_handles act done near b pool = pool

-- what Seal makes is a box
abbrev pub makes_box : Act → Bool
makes_box Seal = true
makes_box act = false

abbrev pub box_in : Response → List ℕ → List ℕ
box_in (made new bytes) last_box = bytes
box_in response last_box = last_box

abbrev pub box_after : Act → Response → List ℕ → List ℕ
box_after act response last_box = if makes_box act then box_in response last_box else last_box

abbrev pub stock_after : Act → Response → Stock → ℕ → Stock
stock_after act response s b =
    let kept = after_spending act response s b in
    record {
      pool = with_handles act response (picked s.pool b).locality b kept.pool;
      last_box = box_after act response s.last_box;
      spent = kept.spent;
    }

-- ## The load

-- before a command: the number of the draws, what replies gave, and the DPE; whether it is not the first
pub record Load : Type 0 where
  pub begun : Bool
  pub number : ℕ
  pub stock : Stock
  pub machine : Machine

-- a number as eight bytes, four times
abbrev pub load_seed : ℕ → List ℕ
load_seed n = let eight = to_be_bytes w64 n in eight ++ eight ++ eight ++ eight

abbrev pub load_at : ℕ → Load
load_at n = record {
  begun = false;
  number = n;
  stock = first_stock;
  machine = machine_at (load_seed n) 1;
}

-- the first command is InitializeContext, whatever was drawn
abbrev pub act_for : Bool → ℕ → Act
act_for begun x = if begun then act_of (choice_of x) else Initialize

abbrev pub act_at : Load → Act
act_at l = act_for l.begun l.number

-- the command with the argument b, over what earlier replies gave
abbrev pub command_for : Act → Stock → ℕ → Request
command_for act s b = request_for act (picked s.pool b).handle b s.last_box s.spent

-- the step of the sequential DPE for it, with these random bytes
abbrev pub outcome_for : Machine → Stock → Act → List ℕ → ℕ → Outcome
outcome_for M s act random b =
    step M.seed M.state (locality_for act (picked s.pool b).locality) random (command_payload (command_for act s b))

abbrev pub outcome_at : Load → Outcome
outcome_at l = outcome_for l.machine l.stock (act_at l) (random_of l.number) (argument_of l.number)

abbrev pub next : Load → Load
next l = record {
  begun = true;
  number = number_behind l.number;
  stock = stock_after (act_at l) (outcome_at l).reply l.stock (argument_of l.number);
  machine = record { seed = l.machine.seed; state = (outcome_at l).state };
}

-- after the first n commands, and the replies to them
abbrev pub load_after : ℕ → Load → Load
load_after zero l = l
load_after (suc n) l = next (load_after n l)

abbrev pub replies : ℕ → Load → List Response
replies zero l = []
replies (suc n) l = replies n l ++ (outcome_at (load_after n l)).reply ∷ []
