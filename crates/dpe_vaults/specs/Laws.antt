-- What holds of all lists of calls.
use Rattle.std.specs.Prelude.{◌≡◌, ℕ, ◌==◌, List, [], ◌∷◌, ◌++◌, if◌then◌else◌}
use Rattle.dpe_vaults.specs.declared.reply.VaultReply.{VaultReply}
use Rattle.dpe_vaults.specs.Calls.{Call}
use Rattle.dpe_vaults.specs.Named.{AreOrdered}
use Rattle.dpe_vaults.specs.Kept.{kept, reply_to, calls_at}
use Rattle.dpe_vaults.specs.Runs.{LeadsTo}

-- the replies to the calls of one locality among calls behind others
abbrev pub replies_at : ℕ → List Call → List Call → List VaultReply
replies_at l before [] = []
replies_at l before (c ∷ cs) =
    if c.locality == l
    then reply_to before c ∷ replies_at l (before ++ c ∷ []) cs
    else replies_at l (before ++ c ∷ []) cs

-- Lists whose calls of a locality are equal, in order, have equal replies to them.
abbrev pub EachAlone : Type 0
EachAlone = (l : ℕ) (cs ds : List Call) → calls_at l cs ≡ calls_at l ds → replies_at l [] cs ≡ replies_at l [] ds

-- What is kept stands in ascending order of the names.
abbrev pub KeptInOrder : Type 0
KeptInOrder = (cs : List Call) → AreOrdered (kept cs)

-- Bytes have one status.
abbrev pub OneStatus : Type 0
OneStatus = (most : ℕ) (bytes : List ℕ) (s t : ℕ) → LeadsTo most bytes s → LeadsTo most bytes t → s ≡ t
