-- A journal's bytes are those of one history.
use Rattle.std.proofs.Common.{◌≡◌, ℕ, ◌^◌, ◌<◌, List, [], ◌∷◌, ◌++◌, refl, ap, sym, ◌∙◌, length, drop, append_assoc, flat_map}
use Rattle.std.specs.List.{AllByRecursion}
use Rattle.std.specs.Int.{to_be_bytes, from_be_bytes, w32, w64}
use Rattle.std.proofs.lemmas.Nat.{from_be_bytes-to_be_bytes_4, from_be_bytes-to_be_bytes_8}
use Rattle.dpe_model.specs.History.{Entry, IsEntry}
use Rattle.dpe_journal.specs.Journal.{header_bytes, packet, numbers, record_bytes, end_bytes, journal_bytes}
use Rattle.dpe_journal.proofs.Bytes.{cut}
use Rattle.dpe_journal.proofs.Judging.{same_packet}

same_32 : (n m : ℕ) → n < 2 ^ 32 → m < 2 ^ 32 → to_be_bytes w32 n ≡ to_be_bytes w32 m → n ≡ m
same_32 n m h k e = sym (from_be_bytes-to_be_bytes_4 n h) ∙ (ap (from_be_bytes w32) e ∙ from_be_bytes-to_be_bytes_4 m k)

pub same_64 : (n m : ℕ) → n < 2 ^ 64 → m < 2 ^ 64 → to_be_bytes w64 n ≡ to_be_bytes w64 m → n ≡ m
same_64 n m h k e = sym (from_be_bytes-to_be_bytes_8 n h) ∙ (ap (from_be_bytes w64) e ∙ from_be_bytes-to_be_bytes_8 m k)

-- a record's fields and what follows it, one after another
regroup : (A : List ℕ) (l : ℕ) (R P Q x : List ℕ) → (1 ∷ (A ++ (l ∷ (R ++ (P ++ Q))))) ++ x ≡ 1 ∷ (A ++ (l ∷ (R ++ (P ++ (Q ++ x)))))
regroup A l R P Q x = simp append_assoc

-- an entry is its fields
pub same_fields : (e f : Entry) → e.caller ≡ f.caller → e.connection ≡ f.connection → e.index ≡ f.index → e.locality ≡ f.locality → e.random ≡ f.random → e.payload ≡ f.payload → e.reply ≡ f.reply → e ≡ f
same_fields e f a b c d r p q = λ i. record { caller = a i; connection = b i; index = c i; locality = d i; random = r i; payload = p i; reply = q i }

-- two records at the front of the same bytes are of one entry
pub same_record : (e f : Entry) (x y : List ℕ) → IsEntry e → IsEntry f → record_bytes e ++ x ≡ record_bytes f ++ y → (e ≡ f) × (x ≡ y)
same_record e f x y i j h =
    let g = sym (regroup (numbers e) e.locality e.random (packet e.payload) (packet e.reply) x) ∙ (h ∙ regroup (numbers f) f.locality f.random (packet f.payload) (packet f.reply) y) in
    let n = cut (numbers e) (numbers f) _ _ refl (ap (drop 1) g) in
    let a = cut (to_be_bytes w32 e.caller) (to_be_bytes w32 f.caller) _ _ refl n.0 in
    let b = cut (to_be_bytes w32 e.connection) (to_be_bytes w32 f.connection) _ _ refl a.1 in
    let l : e.locality ≡ f.locality = let k = n.1 in cc in
    let r = cut e.random f.random (packet e.payload ++ (packet e.reply ++ x)) (packet f.payload ++ (packet f.reply ++ y)) (i.random.0 ∙ sym j.random.0) (ap (drop 1) n.1) in
    let p = same_packet e.payload f.payload (packet e.reply ++ x) (packet f.reply ++ y) i.payload.0 j.payload.0 r.1 in
    let q = same_packet e.reply f.reply x y i.reply.0 j.reply.0 p.1 in (
      same_fields e f (same_32 e.caller f.caller i.caller j.caller a.0) (same_32 e.connection f.connection i.connection j.connection b.0)
          (same_32 e.index f.index i.index j.index b.1) l r.0 p.0 q.0,
      q.1,
    )

same_entries : (H K : List Entry) (n m : ℕ) → AllByRecursion IsEntry H → AllByRecursion IsEntry K → flat_map record_bytes H ++ end_bytes n ≡ flat_map record_bytes K ++ end_bytes m → H ≡ K
same_entries [] [] n m h k e = refl
same_entries [] (f ∷ fs) n m h k e = cc
same_entries (e ∷ es) [] n m h k g = cc
same_entries (e ∷ es) (f ∷ fs) n m h k g =
    let s = same_record e f (flat_map record_bytes es ++ end_bytes n) (flat_map record_bytes fs ++ end_bytes m) h.0 k.0
    (sym (append_assoc (record_bytes e) (flat_map record_bytes es) (end_bytes n)) ∙ (g ∙ append_assoc (record_bytes f) (flat_map record_bytes fs) (end_bytes m))) in
    ap (λ x. x ∷ es) s.0 ∙ ap (λ xs. f ∷ xs) (same_entries es fs n m h.1 k.1 s.1)

pub same_journal : (first other : ℕ) (H K : List Entry) → first < 2 ^ 64 → other < 2 ^ 64 → AllByRecursion IsEntry H → AllByRecursion IsEntry K →
    journal_bytes first H ≡ journal_bytes other K → (first ≡ other) × (H ≡ K)
same_journal first other H K l m h k e =
    let c = cut (header_bytes first) (header_bytes other) (flat_map record_bytes H ++ end_bytes (length H)) (flat_map record_bytes K ++ end_bytes (length K)) refl e in
    (same_64 first other l m (ap (drop 5) c.0), same_entries H K (length H) (length K) h k c.1)
