-- What a record's bytes say, field by field.
use Rattle.std.proofs.Common.{◌≡◌, ℕ, ◌≤◌, List, ◌∷◌, ◌++◌, length, get_or, take, drop, refl, ap, ◌∙◌, append_assoc, arith}
use Rattle.std.specs.Int.{to_be_bytes, from_be_bytes, w16, w32}
use Rattle.std.proofs.lemmas.List.{take_at, drop_at}
use Rattle.std.proofs.lemmas.Nat.{from_be_bytes-to_be_bytes_4, from_be_bytes-to_be_bytes_2}
use Rattle.dpe_model.specs.History.{Entry, IsEntry}
use Rattle.dpe_journal.specs.Journal.{packet, numbers, record_bytes}

-- a packet, cut behind its length and behind its payload
pub packet_parts : (b payload rest : List ℕ) → length payload ≤ 4096 → b ≡ packet payload ++ rest
    → (from_be_bytes w16 (take 2 b) ≡ length payload) × (take (length payload) (drop 2 b) ≡ payload) × (drop (length payload) (drop 2 b) ≡ rest)
packet_parts b payload rest few is =
    let whole : b ≡ to_be_bytes w16 (length payload) ++ (payload ++ rest) = is ∙ append_assoc (to_be_bytes w16 (length payload)) payload rest in
    let behind : drop 2 b ≡ payload ++ rest = ap (drop 2) whole in (
      ap (λ (t : List ℕ). from_be_bytes w16 (take 2 t)) whole ∙ from_be_bytes-to_be_bytes_2 (length payload) (omega arith),
      ap (take (length payload)) behind ∙ take_at payload rest (length payload) refl,
      ap (drop (length payload)) behind ∙ drop_at payload rest (length payload) refl,
    )

-- the first 46 bytes of a record, and its payloads
pub record_parts : (b : List ℕ) (e : Entry) → IsEntry e → b ≡ record_bytes e
    → (take 46 b ≡ 1 ∷ (numbers e ++ (e.locality ∷ e.random))) × (drop 46 b ≡ packet e.payload ++ packet e.reply)
record_parts b e ok is =
    let head : List ℕ = 1 ∷ (numbers e ++ (e.locality ∷ e.random)) in
    let size : length head ≡ 46 = let random = ok.random.0 in omega arith in
    let whole : b ≡ head ++ (packet e.payload ++ packet e.reply) = is in
    (ap (take 46) whole ∙ take_at head (packet e.payload ++ packet e.reply) 46 size, ap (drop 46) whole ∙ drop_at head (packet e.payload ++ packet e.reply) 46 size)

-- what the first 46 bytes say
pub head_says : (b : List ℕ) (e : Entry) → IsEntry e → b ≡ 1 ∷ (numbers e ++ (e.locality ∷ e.random))
    → (from_be_bytes w32 (take 4 (drop 1 b)) ≡ e.caller) × (from_be_bytes w32 (take 4 (drop 5 b)) ≡ e.connection) × (from_be_bytes w32 (take 4 (drop 9 b)) ≡ e.index)
    × (get_or b 13 0 ≡ e.locality) × (drop 14 b ≡ e.random)
head_says b e ok is = (
  ap (λ (t : List ℕ). from_be_bytes w32 (take 4 (drop 1 t))) is ∙ from_be_bytes-to_be_bytes_4 e.caller ok.caller,
  ap (λ (t : List ℕ). from_be_bytes w32 (take 4 (drop 5 t))) is ∙ from_be_bytes-to_be_bytes_4 e.connection ok.connection,
  ap (λ (t : List ℕ). from_be_bytes w32 (take 4 (drop 9 t))) is ∙ from_be_bytes-to_be_bytes_4 e.index ok.index,
  ap (λ (t : List ℕ). get_or t 13 0) is,
  ap (drop 14) is,
)
