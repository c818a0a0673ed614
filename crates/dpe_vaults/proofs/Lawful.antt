-- A locality's replies follow from its own calls, and what is kept stands in order.
use Rattle.std.proofs.Common.{◌≡◌, ℕ, Bool, true, false, cond, List, [], ◌∷◌, ◌++◌, refl, sym, ap, ◌∙◌, arith}
use native.Mathlib.Decide.{ℕ_discrete}
use Rattle.std.specs.Prelude.{◌==◌, ◌&&◌}
use Rattle.std.proofs.lemmas.Bool.Decides.{nat_tests}
use Rattle.dpe_box.specs.Sealed.{has_form}
use Rattle.dpe_vaults.specs.declared.call.Op.{Op}
use Rattle.dpe_vaults.specs.declared.call.Op.TheVariants.{Put, Get, Remove, Names}
use Rattle.dpe_vaults.specs.declared.reply.VaultReply.{VaultReply}
use Rattle.dpe_vaults.specs.Calls.{Call}
use Rattle.dpe_vaults.specs.Named.{Named, named, has_place, AreOrdered}
use Rattle.dpe_vaults.specs.Kept.{Pair, after_by, after_one, after, kept, vault_reply, reply_to, calls_at}
use Rattle.dpe_vaults.specs.Laws.{replies_at, EachAlone, KeptInOrder}
use Rattle.dpe_vaults.proofs.Names.{put_ordered, without_ordered}
use Rattle.dpe_vaults.proofs.Held.{own_more, other_more}

-- ---- each alone

-- the replies to calls of one locality behind others of it
abbrev replies_own : List Call → List Call → List VaultReply
replies_own own [] = []
replies_own own (c ∷ cs) = vault_reply own c ∷ replies_own (own ++ c ∷ []) cs

by_own : (l : ℕ) (before cs : List Call) → replies_at l before cs ≡ replies_own (calls_at l before) (calls_at l cs)
by_own l before [] = refl
by_own l before (c ∷ cs) =
    elim (ℕ_discrete c.locality l) [
      | yes same ↦
          let own : (c.locality == l) ≡ true = grind (arith, nat_tests) in
          ap (λ (t : Bool). cond t (reply_to before c ∷ replies_at l (before ++ c ∷ []) cs) (replies_at l (before ++ c ∷ []) cs)) own
          ∙ ap (λ (r : VaultReply). r ∷ replies_at l (before ++ c ∷ []) cs) (ap (λ (k : ℕ). vault_reply (calls_at k before) c) same)
          ∙ ap (λ (rs : List VaultReply). vault_reply (calls_at l before) c ∷ rs)
          (by_own l (before ++ c ∷ []) cs ∙ ap (λ (own : List Call). replies_own own (calls_at l cs)) (own_more l before c same))
          ∙ sym (ap (λ (t : Bool). replies_own (calls_at l before) (cond t (c ∷ calls_at l cs) (calls_at l cs))) own)
      | no differ ↦
          let other : (c.locality == l) ≡ false = grind (arith, nat_tests) in
          ap (λ (t : Bool). cond t (reply_to before c ∷ replies_at l (before ++ c ∷ []) cs) (replies_at l (before ++ c ∷ []) cs)) other
          ∙ by_own l (before ++ c ∷ []) cs ∙ ap (λ (own : List Call). replies_own own (calls_at l cs)) (other_more l before c differ)
          ∙ sym (ap (λ (t : Bool). replies_own (calls_at l before) (cond t (c ∷ calls_at l cs) (calls_at l cs))) other)
    ]

pub alone : EachAlone
alone l cs ds same = by_own l [] cs ∙ ap (λ (own : List Call). replies_own [] own) same ∙ sym (by_own l [] ds)

-- ---- in order

by_ordered : (op : Op) (ps : List Pair) (c : Call) → AreOrdered ps → AreOrdered (after_by op c.sealed ps c)
by_ordered Put ps c ordered = put_ordered (has_form c.sealed && has_place ps c.name) ps (named c.name c.sealed) ordered
by_ordered Get ps c ordered = ordered
by_ordered Remove ps c ordered = without_ordered ps c.name ordered
by_ordered Names ps c ordered = ordered

after_ordered : (ps : List Pair) (cs : List Call) → AreOrdered ps → AreOrdered (after ps cs)
after_ordered ps [] ordered = ordered
after_ordered ps (c ∷ cs) ordered = after_ordered (after_one ps c) cs (by_ordered c.op ps c ordered)

pub in_order : KeptInOrder
in_order cs = after_ordered [] cs tt
