-- What a vault keeps, what it replies, and which lists of calls and replies are legal.
use Rattle.std.specs.Prelude.{ℕ, ◌≡◌, Bool, ◌==◌, ◌&&◌, is_some, if◌then◌else◌, List, [], ◌∷◌, ◌++◌, length, map, filter, flat_map, Option, Some, None}
use Rattle.dpe_box.specs.Sealed.{has_form}
use Rattle.dpe_desk.specs.declared.sequential.Entry.{Entry}
use Rattle.dpe_vaults.specs.declared.call.Op.{Op}
use Rattle.dpe_vaults.specs.declared.call.Op.TheVariants.{Put, Get, Remove, Names}
use Rattle.dpe_vaults.specs.declared.reply.VaultReply.{VaultReply}
use Rattle.dpe_vaults.specs.Calls.{Call}
use Rattle.dpe_vaults.specs.Named.{Named, named, found, without, placed, has_place}

-- a name and its box
abbrev pub Pair : Type 0
Pair = Named (List ℕ)

-- ## One call of a locality

-- A put of a list with the form of a box puts it under its name, where the name stands or there is room. A removal takes
-- the name out. All else changes nothing.
abbrev pub after_by : {A : Type 0} → Op → A → List (Named A) → Call → List (Named A)
after_by Put value ns c = if has_form c.sealed && has_place ns c.name then placed ns (named c.name value) else ns
after_by Get value ns c = ns
after_by Remove value ns c = without ns c.name
after_by Names value ns c = ns

abbrev pub after_one : List Pair → Call → List Pair
after_one ps c = after_by c.op c.sealed ps c

-- 22 without the form of a box, 31 without room, 30 where the name isn't there, else 0
abbrev pub code_by : {A : Type 0} → Op → List (Named A) → Call → ℕ
code_by Put ns c = if has_form c.sealed then (if has_place ns c.name then 0 else 31) else 22
code_by Get ns c = if is_some (found ns c.name) then 0 else 30
code_by Remove ns c = if is_some (found ns c.name) then 0 else 30
code_by Names ns c = 0

-- the box, or nothing
abbrev pub box_or_none : Option (List ℕ) → List ℕ
box_or_none None = []
box_or_none (Some sealed) = sealed

-- each name after its length
abbrev pub names_of : {A : Type 0} → List (Named A) → List ℕ
names_of ns = flat_map (λ n. length n.name ∷ n.name) ns

-- the box that is asked for, or the names
abbrev pub bytes_by : Op → List Pair → Call → List ℕ
bytes_by Put ps c = []
bytes_by Get ps c = box_or_none (found ps c.name)
bytes_by Remove ps c = []
bytes_by Names ps c = names_of ps

abbrev pub reply_from : List Pair → Call → VaultReply
reply_from ps c = record { code = code_by c.op ps c; bytes = bytes_by c.op ps c }

-- ## The calls of a locality

-- the pairs after calls, from some pairs on
abbrev pub after : List Pair → List Call → List Pair
after ps [] = ps
after ps (c ∷ cs) = after (after_one ps c) cs

-- what is kept after calls of one locality
abbrev pub kept : List Call → List Pair
kept cs = after [] cs

-- the reply to a call behind such calls
abbrev pub vault_reply : List Call → Call → VaultReply
vault_reply cs c = reply_from (kept cs) c

-- ## The calls of all

-- those of one locality, in order
abbrev pub calls_at : ℕ → List Call → List Call
calls_at l cs = filter (λ c. c.locality == l) cs

-- the reply to a call is that of the earlier calls of its own locality
abbrev pub reply_to : List Call → Call → VaultReply
reply_to before c = vault_reply (calls_at c.locality before) c

-- a call, who made it, and the reply to it
abbrev pub Called : Type 0
Called = Entry Call VaultReply

abbrev pub calls_of : List Called → List Call
calls_of es = map (λ e. e.call) es

-- each reply is that of the earlier calls of its own locality
abbrev pub LegalAfter : List Call → List Called → Type 0
LegalAfter before [] = Unit
LegalAfter before (e ∷ es) = (e.reply ≡ reply_to before e.call) × LegalAfter (before ++ e.call ∷ []) es

abbrev pub Legal : List Called → Type 0
Legal es = LegalAfter [] es
