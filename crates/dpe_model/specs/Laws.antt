-- What holds of each step, and of each legal history.
use Rattle.std.specs.Prelude.{ℕ, ◌^◌, ◌+◌, ◌<◌, ◌≤◌, ◌==◌, ◌≡◌, ◌≢◌, ◌⊎◌, List, [], ◌∷◌, ◌++◌, true, false, Option, Some, None, IsSomeAnd, AllPairs, Contains, length, filter, option_and_then, ⊤, if◌then◌else◌}
use Rattle.std.specs.List.{AllByRecursion}
use Rattle.dpe_inputs.specs.declared.Input.{Input}
use Rattle.dpe_inputs.specs.Cdi.{attest_cdi, seal_cdi, signature}
use Rattle.dpe_box.specs.declared.policy.Policy.{Policy}
use Rattle.dpe_box.specs.Sealed.{admits, opened_as, opened, sealed_box}
use Rattle.dpe_messages.specs.Request.{Request, SealRequest, UnsealRequest, sign, seal, unseal}
use Rattle.dpe_messages.specs.Replies.{made, reply_payload}
use Rattle.dpe_model.specs.State.{Row, State, Valid, path, mode, last_serial}
use Rattle.dpe_model.specs.Verdict.{makes, named, uses_row, used}
use Rattle.dpe_model.specs.Step.{masks_of, salt_of, step}
use Rattle.dpe_model.specs.History.{Entry, IsEntry, Legal, state_after, reply_to, reply_code, reply_bytes, request_at, is_accepted, accepted, path_at, seal_path, seal_path_at, issued, all_issued, entries_of_caller, entries_of_connection}
use Rattle.dpe_model.specs.Codes as code

-- ## Steps and histories

-- A valid state stays valid, whatever the command.
abbrev pub StepKeepsValid : Type 0
StepKeepsValid =
    (seed : List ℕ) (S : State) (locality : ℕ) (random payload : List ℕ) →
    locality ≤ 7 → length random ≡ 32 → Valid S → Valid (step seed S locality random payload).state

-- A front of a legal history is legal.
abbrev pub FrontIsLegal : Type 0
FrontIsLegal = (seed : List ℕ) (first : ℕ) (front rest : List Entry) → Legal seed first (front ++ rest) → Legal seed first front

-- One step more, with the reply that is given there, leaves a history legal.
abbrev pub StepIsLegal : Type 0
StepIsLegal =
    (seed : List ℕ) (first : ℕ) (H : List Entry) (e : Entry) →
    Legal seed first H → IsEntry e → e.reply ≡ reply_to seed (state_after seed first H) e → Legal seed first (H ++ e ∷ [])

-- The state of a legal history is valid, where the first serial has 64 bits.
abbrev pub StateIsValid : Type 0
StateIsValid = (seed : List ℕ) (first : ℕ) (H : List Entry) → first < 2 ^ 64 → Legal seed first H → Valid (state_after seed first H)

-- A caller's entries grow by that caller's alone, at the end; a connection's are its caller's over it.
abbrev pub PartsOfHistories : Type 0
PartsOfHistories =
    (H : List Entry) (e : Entry) (caller connection : ℕ) →
    (entries_of_caller [] caller ≡ [])
    × (entries_of_caller (H ++ e ∷ []) caller ≡ entries_of_caller H caller ++ (if e.caller == caller then e ∷ [] else []))
    × (entries_of_connection H caller connection ≡ filter (λ x. x.connection == connection) (entries_of_caller H caller))

-- ## Handles

-- Spent is spent: where entry e accepts a handle, no later entry f accepts it, and one that names it, at
-- any locality, is answered that there is no such handle.
abbrev pub SpentIsSpent : List ℕ → ℕ → List Entry → Type 0
SpentIsSpent seed first H =
    (before between rest : List Entry) (e f : Entry) (handle : List ℕ) →
    H ≡ before ++ e ∷ (between ++ f ∷ rest) →
    accepted (state_after seed first before) e ≡ Some handle →
    (accepted (state_after seed first (before ++ e ∷ between)) f ≢ Some handle)
    × (option_and_then named (request_at f) ≡ Some handle → reply_code f.reply ≡ Some code.no_such_handle)

-- Different handles: no two handles that a history issues are equal.
abbrev pub HandlesDiffer : List Entry → Type 0
HandlesDiffer H = AllPairs (λ a b. a.0 ≢ b.0) (all_issued H)

-- one entry issues the handle, to this locality, and no other one issues it at all
abbrev pub IssuedByOne : List Entry → List ℕ → ℕ → Type 0
IssuedByOne H handle locality =
    (before after : List Entry) × (d : Entry) × (H ≡ before ++ d ∷ after)
    × Contains (issued d) (handle, locality)
    × AllByRecursion (λ issue. issue.0 ≢ handle) (all_issued (before ++ after))

-- Issued before: the handle that an entry accepts was issued by exactly one earlier entry, to this entry's
-- locality.
abbrev pub IssuedBefore : List ℕ → ℕ → List Entry → Type 0
IssuedBefore seed first H =
    (before rest : List Entry) (e : Entry) (handle : List ℕ) →
    H ≡ before ++ e ∷ rest →
    accepted (state_after seed first before) e ≡ Some handle →
    IssuedByOne before handle e.locality

-- ## Unsealing

-- What an Unseal must meet to open the box of a Seal: entry e is the Seal, with the request s and the box
-- in its reply; f is the later Unseal, with the request u, and row the context that it uses.
pub record MayUnseal (seed : List ℕ) (first : ℕ) (before between : List Entry) (e f : Entry) (s : SealRequest) (u : UnsealRequest) (row : Row) : Type 0 where
  pub sealed : request_at e ≡ Some (seal s)
  pub accepted_seal : is_accepted e ≡ true
  pub box_of_seal : reply_bytes 2 e.reply ≡ Some u.sealed
  pub asked : request_at f ≡ Some (unseal u)
  pub label : u.label ≡ s.label
  pub live : used (state_after seed first (before ++ e ∷ between)) f.locality (unseal u) ≡ Some row
  pub owner : row.locality ≡ f.locality
  pub same_path : seal_path (path row) ≡ seal_path_at (state_after seed first before) e
  pub admitted : admits (masks_of s) f.locality (mode row) ≡ true

-- the reply gives these bytes, and a new handle where the context is retained
abbrev pub IsReplyWith : List ℕ → List ℕ → Type 0
IsReplyWith bytes reply = (handle : Option (List ℕ)) × (reply ≡ reply_payload (made handle bytes))

-- the command would make a handle and no serial is left
abbrev pub SerialsSpent : State → Request → Type 0
SerialsSpent S request = last_serial < S.next + makes request

-- the command is refused since no serial is left for it
abbrev pub IsRefusedForSerials : State → Request → List ℕ → Type 0
IsRefusedForSerials S request reply = (reply_code reply ≡ Some code.serials_spent) × SerialsSpent S request

-- Unsealing: the plaintext comes back, unless the serials are spent.
abbrev pub Unseals : List ℕ → ℕ → List Entry → Type 0
Unseals seed first H =
    (before between rest : List Entry) (e f : Entry) (s : SealRequest) (u : UnsealRequest) (row : Row) →
    H ≡ before ++ e ∷ (between ++ f ∷ rest) →
    MayUnseal seed first before between e f s u row →
    IsReplyWith s.plain f.reply ⊎ IsRefusedForSerials (state_after seed first (before ++ e ∷ between)) (unseal u) f.reply

-- the laws of handles and boxes, of one history
pub record HandleLaws (seed : List ℕ) (first : ℕ) (H : List Entry) : Type 0 where
  pub spent : SpentIsSpent seed first H
  pub differ : HandlesDiffer H
  pub before : IssuedBefore seed first H
  pub unseals : Unseals seed first H

-- ## Folded inputs

-- the box opens under this CDI and label, and this is its text
abbrev pub IsTextOf : List ℕ → List ℕ → List ℕ → List ℕ → Type 0
IsTextOf cdi label sealed plain = (masks : Policy) × (opened cdi label sealed ≡ opened_as masks plain)

-- what an accepted Sign, Seal or Unseal answers is computed from the inputs of a path
abbrev pub IsFolded : List ℕ → List Input → Entry → Request → Type 0
IsFolded seed path e (sign s) = IsReplyWith (signature (attest_cdi seed path) s.label s.message) e.reply
IsFolded seed path e (seal s) = IsReplyWith (sealed_box (seal_cdi seed path) s.label (masks_of s) (salt_of e.random) s.plain) e.reply
IsFolded seed path e (unseal u) = (plain : List ℕ) × IsTextOf (seal_cdi seed path) u.label u.sealed plain × IsReplyWith plain e.reply
IsFolded seed path e request = ⊤

-- Folded inputs: each accepted Sign, Seal and Unseal is computed from the path at its entry.
abbrev pub FoldedInputs : List ℕ → ℕ → List Entry → Type 0
FoldedInputs seed first H =
    (before rest : List Entry) (e : Entry) (request : Request) →
    H ≡ before ++ e ∷ rest → request_at e ≡ Some request → is_accepted e ≡ true →
    IsFolded seed (path_at (state_after seed first before) e) e request

-- ## The accepted handle

-- the handle of the live row that is the default of the entry's locality
abbrev pub IsDefaultHandle : State → Entry → List ℕ → Type 0
IsDefaultHandle S e handle =
    (row : Row) × Contains S.rows row × (row.default ≡ true) × (row.locality ≡ e.locality) × (row.handle ≡ handle)

-- Which handle an entry accepts in a state: none where it is refused, is no command or uses no context; else the one
-- that its command names; and where it names none, that of its locality's default.
pub record Accepts (S : State) (e : Entry) : Type 0 where
  pub refused : is_accepted e ≡ false → accepted S e ≡ None
  pub unread : request_at e ≡ None → accepted S e ≡ None
  pub rowless : (request : Request) → request_at e ≡ Some request → uses_row request ≡ false → accepted S e ≡ None
  pub by_name :
      (request : Request) (handle : List ℕ) → is_accepted e ≡ true → request_at e ≡ Some request →
      named request ≡ Some handle → accepted S e ≡ Some handle
  pub by_default :
      (request : Request) → is_accepted e ≡ true → request_at e ≡ Some request →
      uses_row request ≡ true → named request ≡ None → IsSomeAnd (accepted S e) (IsDefaultHandle S e)

-- Each entry of a legal history accepts the handle of the row that it uses.
abbrev pub AcceptsUsed : List ℕ → ℕ → List Entry → Type 0
AcceptsUsed seed first H =
    (before rest : List Entry) (e : Entry) → H ≡ before ++ e ∷ rest → Accepts (state_after seed first before) e
