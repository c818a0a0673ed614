-- The commands of a load are in their ranges, and each is answered with a reply to it.
use Rattle.std.proofs.Common.{◌≡◌, ℕ, zero, suc, ◌+◌, ◌*◌, ◌%◌, ◌≤◌, Bool, true, false, List, length, refl, sym, subst, arith}
use Rattle.std.specs.Int.{to_be_bytes, w32}
use Rattle.std.proofs.lemmas.List.{length-append, length-replicate}
use Rattle.dpe_messages.specs.Request.{Request}
use Rattle.dpe_messages.specs.Ranges.{InRanges, IsDerive}
use Rattle.dpe_messages.specs.Replies.{IsReplyTo, reply_payload}
use Rattle.dpe_messages.specs.declared.reply_reader.Asked.{Asked}
use Rattle.dpe_model.specs.State.{Machine}
use Rattle.dpe_tape.specs.declared.act.Act.{Act}
use Rattle.dpe_tape.specs.declared.act.Act.TheVariants.{Initialize, Derive, DeriveAway, Rotate, Sign, Seal, Unseal, Destroy, RotateSpent, Profile}
use Rattle.dpe_tape.specs.Draws.{repeated}
use Rattle.dpe_tape.specs.Pool.{picked}
use Rattle.dpe_tape.specs.Load.{Stock, filled, derivation, request_for, asked_of, asked_by, locality_for, command_for, outcome_for}
use Rattle.dpe_tape.proofs.Replied.{replied}

length-repeated : (n word : ℕ) → length (repeated n word) ≡ 4 * n
length-repeated zero word = refl
length-repeated (suc n) word = omega (arith, length-append (repeated n word) (to_be_bytes w32 word), length-repeated n word)

length-filled : (b t : ℕ) → length (filled b t) ≡ 64
length-filled b t = length-replicate 64 ((b + t) % 256)

derive_ranges : (handle : List ℕ) (b : ℕ) (retain : Bool) → length handle ≡ 16 → IsDerive (derivation handle b retain)
derive_ranges handle b retain long = record {
  handle = long;
  code = length-filled b 0;
  config = length-filled b 1;
  authority = length-filled b 2;
  mode = omega arith;
  hidden = tt;
  locality = omega arith;
}

ranges : (act : Act) (handle : List ℕ) (b : ℕ) (last_box spent : List ℕ) → length handle ≡ 16 → length last_box ≤ 3900 → length spent ≡ 16
    → InRanges (request_for act handle b last_box spent)
ranges Initialize handle b last_box spent long short old = tt
ranges Derive handle b last_box spent long short old = derive_ranges handle b true long
ranges DeriveAway handle b last_box spent long short old = derive_ranges handle b false long
ranges Rotate handle b last_box spent long short old = long
ranges Sign handle b last_box spent long short old =
    record { handle = long; label = omega arith; message = omega (arith, length-repeated 8 b) }
ranges Seal handle b last_box spent long short old =
    record { handle = long; label = omega arith; localities = omega arith; modes = omega arith; plain = omega (arith, length-repeated 8 b) }
ranges Unseal handle b last_box spent long short old = record { handle = long; label = omega arith; sealed = short }
ranges Destroy handle b last_box spent long short old = long
ranges RotateSpent handle b last_box spent long short old = old
ranges Profile handle b last_box spent long short old = tt

asked : (act : Act) (handle : List ℕ) (b : ℕ) (last_box spent : List ℕ) → asked_of (request_for act handle b last_box spent) ≡ asked_by act
asked Initialize handle b last_box spent = refl
asked Derive handle b last_box spent = refl
asked DeriveAway handle b last_box spent = refl
asked Rotate handle b last_box spent = refl
asked Sign handle b last_box spent = refl
asked Seal handle b last_box spent = refl
asked Unseal handle b last_box spent = refl
asked Destroy handle b last_box spent = refl
asked RotateSpent handle b last_box spent = refl
asked Profile handle b last_box spent = refl

-- what stands in a room is the reply to the command
pub replied_to : (M : Machine) (s : Stock) (act : Act) (random : List ℕ) (b : ℕ) (bytes : List ℕ)
    → length random ≡ 32 → length (picked s.pool b).handle ≡ 16 → length s.last_box ≤ 3900 → length s.spent ≡ 16
    → let r = (outcome_for M s act random b).reply in bytes ≡ reply_payload r → IsReplyTo (asked_by act) r bytes
replied_to M s act random b bytes long handle short old is =
    let named = (picked s.pool b).handle in
    let request : Request = command_for act s b in
    let r = (outcome_for M s act random b).reply in
    let whole : IsReplyTo (asked_of request) r (reply_payload r) =
    replied M.seed M.state (locality_for act (picked s.pool b).locality) random request long (ranges act named b s.last_box s.spent handle short old) in
    subst (λ (a : Asked). IsReplyTo a r bytes) (asked act named b s.last_box s.spent) (subst (λ (p : List ℕ). IsReplyTo (asked_of request) r p) (sym is) whole)
