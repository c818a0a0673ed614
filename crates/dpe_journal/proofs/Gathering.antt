-- What the loops of the writer keep, and how a journal is written.
use Rattle.std.proofs.Common.{◌≡◌, ℕ, ◌+◌, ◌*◌, ◌≤◌, ◌<◌, List, [], ◌∷◌, ◌++◌, length, get_or, take, drop, map, flat_map, Option, Result, Ok, Err, OnOk, IfErr, refl, sym, ap, subst, ◌∙◌, append_assoc, append-nil, take-append-drop, arith}
use Rattle.std.specs.Io.KnownBytes.{Appends, Keeps}
use Rattle.std.proofs.lemmas.List.{take_more, map-append, length-map, take_all}
use Rattle.std.proofs.lemmas.Grind.{flat_map-append}
use Rattle.std.proofs.KnownBytes.{Appends-kept}
use Rattle.dpe_io.specs.Causes.{Other}
use Rattle.dpe_model.specs.History as history
use Rattle.dpe_journal.specs.Journal.{header_bytes, record_bytes, end_bytes, journal_bytes}
use Rattle.dpe_journal.specs.Stored.{entry_of}
use Rattle.dpe_journal.specs.Writing.{Sends}
use Rattle.dpe_journal.specs.declared.entry.Entry.{Entry}
use Rattle.dpe_journal.proofs.Sending.{sends_none, sends_more, sends_longer, sends_then, front_behind, front_longer, front_whole, from_nothing, sends_all, sends_ends}

-- the text but for a rest was written, no call failed, and what stands beside is as it was
pub record IsSending (old now : Option (List ℕ)) (faults_old faults_now : ℕ) (beside_old beside_now : Other) (text rest : List ℕ) (before written : ℕ) : Type 0 where
  pub sends : Sends old now text rest before written
  pub faultless : faults_now ≡ faults_old
  pub beside : beside_now ≡ beside_old

pub sending_none : (a : Option (List ℕ)) (faults : ℕ) (beside : Other) (text : List ℕ) (before : ℕ) → IsSending a a faults faults beside beside text text before before
sending_none a faults beside text before = record { sends = sends_none a text before; faultless = refl; beside = refl }

pub sending_more : (a b d : Option (List ℕ)) (f0 f1 f2 : ℕ) (o0 o1 o2 : Other) (text rest left : List ℕ) (n m k : ℕ) → IsSending a b f0 f1 o0 o1 text rest n m
    → left ≡ drop k rest → Appends b d (take k rest) → k ≤ length rest → f2 ≡ f1 → o2 ≡ o1 → IsSending a d f0 f2 o0 o2 text left n (m + k)
sending_more a b d f0 f1 f2 o0 o1 o2 text rest left n m k s is given within same beside = record {
  sends = subst (λ (t : List ℕ). Sends a d text t n (m + k)) (sym is) (sends_more a b text rest n m s.sends d k given within);
  faultless = same ∙ s.faultless;
  beside = beside ∙ s.beside;
}

-- the header and so many records
abbrev pub text_of : ℕ → List Entry → List ℕ
text_of first entries = header_bytes first ++ flat_map record_bytes (map entry_of entries)

-- the header and the records so far were gathered and written, and room for one more is left
pub record IsGathering (old now : Option (List ℕ)) (faults_old faults_now : ℕ) (beside_old beside_now : Other) (first : ℕ) (entries : List Entry) (room : List ℕ) (len written count : ℕ) : Type 0 where
  pub sends : Sends old now (text_of first (take count entries)) (take len room) 0 written
  pub left : len + 8242 ≤ 32768
  pub few : written + len ≤ 13 + count * 8242
  pub faultless : faults_now ≡ faults_old
  pub beside : beside_now ≡ beside_old

pub text_more : (first : ℕ) (entries : List Entry) (i : ℕ) (e : Entry) → i < length entries → e ≡ get_or entries i e
    → text_of first (take (i + 1) entries) ≡ text_of first (take i entries) ++ record_bytes (entry_of e)
text_more first entries i e within is =
    let one : take (i + 1) entries ≡ take i entries ++ e ∷ [] = take_more entries i e within ∙ ap (λ (x : Entry). take i entries ++ x ∷ []) (sym is) in
    ap (text_of first) one
    ∙ ap (λ (t : List history.Entry). header_bytes first ++ flat_map record_bytes t) (map-append entry_of (take i entries) (e ∷ []))
    ∙ ap (λ (t : List ℕ). header_bytes first ++ t) (flat_map-append record_bytes (map entry_of (take i entries)) (entry_of e ∷ []) ∙ ap (λ (t : List ℕ). flat_map record_bytes (map entry_of (take i entries)) ++ t) (append-nil (record_bytes (entry_of e))))
    ∙ sym (append_assoc (header_bytes first) (flat_map record_bytes (map entry_of (take i entries))) (record_bytes (entry_of e)))

-- the text of a front of the entries is a front of the text
text_front : (first : ℕ) (entries : List Entry) (i : ℕ) → text_of first entries ≡ text_of first (take i entries) ++ flat_map record_bytes (map entry_of (drop i entries))
text_front first entries i =
    ap (text_of first) (sym (take-append-drop i entries))
    ∙ ap (λ (t : List history.Entry). header_bytes first ++ flat_map record_bytes t) (map-append entry_of (take i entries) (drop i entries))
    ∙ ap (λ (t : List ℕ). header_bytes first ++ t) (flat_map-append record_bytes (map entry_of (take i entries)) (map entry_of (drop i entries)))
    ∙ sym (append_assoc (header_bytes first) (flat_map record_bytes (map entry_of (take i entries))) (flat_map record_bytes (map entry_of (drop i entries))))

module _ (a b : Option (List ℕ)) (f0 f1 : ℕ) (o0 o1 : Other) (first : ℕ) (entries : List Entry) (room : List ℕ) (len written count : ℕ)
    (g : IsGathering a b f0 f1 o0 o1 first entries room len written count) where
  pub gathering_more : (d : Option (List ℕ)) (f2 : ℕ) (o2 : Other) (e : Entry) (now : List ℕ) (size all : ℕ) → count < length entries → e ≡ get_or entries count e
      → Sends b d (take len room ++ record_bytes (entry_of e)) (take size now) written all → size + 8242 ≤ 32768 → all + size ≤ written + len + 8242
      → f2 ≡ f1 → o2 ≡ o1 → IsGathering a d f0 f2 o0 o2 first entries now size all (count + 1)
  gathering_more d f2 o2 e now size all within is sent left few same beside =
      let longer = sends_longer a b (text_of first (take count entries)) (take len room) 0 written g.sends (record_bytes (entry_of e)) in
      let whole = sends_then a b (text_of first (take count entries) ++ record_bytes (entry_of e)) (take len room ++ record_bytes (entry_of e)) 0 written longer d (take size now) all sent in
      record {
        sends = subst (λ (t : List ℕ). Sends a d t (take size now) 0 all) (sym (text_more first entries count e within is)) whole;
        left = left;
        few = let h = g.few in omega arith;
        faultless = same ∙ g.faultless;
        beside = beside ∙ g.beside;
      }

  pub gathering_failed : (d : Option (List ℕ)) (e : Entry) (fault : ℕ) → count < length entries → e ≡ get_or entries count e
      → (k : ℕ) × (fault ≡ written + k) × (k ≤ length (take len room ++ record_bytes (entry_of e))) × Appends b d (take k (take len room ++ record_bytes (entry_of e)))
      → (k : ℕ) × (fault ≡ 0 + k) × (k ≤ length (text_of first entries)) × Appends a d (take k (text_of first entries))
  gathering_failed d e fault within is (k, counted, inside, given) =
      let longer = sends_longer a b (text_of first (take count entries)) (take len room) 0 written g.sends (record_bytes (entry_of e)) in
      let front = front_behind a b (text_of first (take count entries) ++ record_bytes (entry_of e)) (take len room ++ record_bytes (entry_of e)) 0 written longer d fault k counted inside given in
      let so_far : (k : ℕ) × (fault ≡ 0 + k) × (k ≤ length (text_of first (take (count + 1) entries))) × Appends a d (take k (text_of first (take (count + 1) entries))) =
      subst (λ (t : List ℕ). (k : ℕ) × (fault ≡ 0 + k) × (k ≤ length t) × Appends a d (take k t)) (sym (text_more first entries count e within is)) front in
      subst (λ (t : List ℕ). (k : ℕ) × (fault ≡ 0 + k) × (k ≤ length t) × Appends a d (take k t)) (sym (text_front first entries (count + 1)))
      (front_longer a d (text_of first (take (count + 1) entries)) (flat_map record_bytes (map entry_of (drop (count + 1) entries))) 0 fault so_far)

  pub gathering_done : length entries ≤ count → Sends a b (text_of first entries) (take len room) 0 written
  gathering_done all = subst (λ (t : List Entry). Sends a b (text_of first t) (take len room) 0 written) (take_all count entries all) g.sends

-- nothing but the header was gathered yet
pub gathering_none : (a : Option (List ℕ)) (faults : ℕ) (beside : Other) (first : ℕ) (entries : List Entry) (room : List ℕ) (len : ℕ) → len ≡ 13 → take len room ≡ header_bytes first
    → IsGathering a a faults faults beside beside first entries room len 0 0
gathering_none a faults beside first entries room len size put = record {
  sends = subst (λ (t : List ℕ). Sends a a (text_of first []) t 0 0) (append-nil (header_bytes first) ∙ sym put) (sends_none a (text_of first []) 0);
  left = omega arith;
  few = omega arith;
  faultless = refl;
  beside = refl;
}

-- ---- a record, and the end, where they go through the room

-- the record was put behind what was gathered
pub gathered_only : (a : Option (List ℕ)) (text now : List ℕ) (n : ℕ) → now ≡ text → Sends a a text now n n
gathered_only a text now n is = subst (λ (t : List ℕ). Sends a a text t n n) (sym is) (sends_none a text n)

pub gathered_sent : (a b : Option (List ℕ)) (text now : List ℕ) (n m : ℕ) → now ≡ text → Sends a b now [] n m → Sends a b text [] n m
gathered_sent a b text now n m is s = subst (λ (t : List ℕ). Sends a b t [] n m) is s

pub gathered_front : (a b : Option (List ℕ)) (text now : List ℕ) (n fault : ℕ) → now ≡ text → (k : ℕ) × (fault ≡ n + k) × (k ≤ length now) × Appends a b (take k now)
    → (k : ℕ) × (fault ≡ n + k) × (k ≤ length text) × Appends a b (take k text)
gathered_front a b text now n fault is front = subst (λ (t : List ℕ). (k : ℕ) × (fault ≡ n + k) × (k ≤ length t) × Appends a b (take k t)) is front

-- all was written, and then the sink was flushed
pub flushed : (a b d : Option (List ℕ)) (text now : List ℕ) (n m : ℕ) → now ≡ text → Sends a b now [] n m → Keeps b d → Appends a d text
flushed a b d text now n m is s kept = Appends-kept a b d text (subst (λ (t : List ℕ). Appends a b t) is (sends_all a b now n m s).0) kept

pub unflushed : (a b d : Option (List ℕ)) (text now : List ℕ) (n m : ℕ) → now ≡ text → Sends a b now [] n m → Keeps b d
    → (k : ℕ) × (m ≡ n + k) × (k ≤ length text) × Appends a d (take k text)
unflushed a b d text now n m is s kept =
    let count = (sends_all a b now n m s).1 in
    subst (λ (x : ℕ). (k : ℕ) × (x ≡ n + k) × (k ≤ length text) × Appends a d (take k text)) (sym (count ∙ ap (λ (t : List ℕ). n + length t) is))
    (front_whole a d text n (flushed a b d text now n m is s kept))

-- ---- the whole journal

journal_parts : (first : ℕ) (entries : List Entry) → journal_bytes first (map entry_of entries) ≡ text_of first entries ++ end_bytes (length entries)
journal_parts first entries =
    sym (append_assoc (header_bytes first) (flat_map record_bytes (map entry_of entries)) (end_bytes (length (map entry_of entries))))
    ∙ ap (λ (n : ℕ). text_of first entries ++ end_bytes n) (length-map entries entry_of)

module _ (a b d : Option (List ℕ)) (first : ℕ) (entries : List Entry) (rest : List ℕ) (written : ℕ) (s : Sends a b (text_of first entries) rest 0 written) where
  pub journal_written : Appends b d (rest ++ end_bytes (length entries)) → Appends a d (journal_bytes first (map entry_of entries))
  journal_written given =
      subst (λ (t : List ℕ). Appends a d t) (sym (journal_parts first entries))
      (sends_ends a b (text_of first entries ++ end_bytes (length entries)) (rest ++ end_bytes (length entries)) 0 written (sends_longer a b (text_of first entries) rest 0 written s (end_bytes (length entries))) d given)

  pub journal_front : (fault : ℕ) → (k : ℕ) × (fault ≡ written + k) × (k ≤ length (rest ++ end_bytes (length entries))) × Appends b d (take k (rest ++ end_bytes (length entries)))
      → (fault ≤ length (journal_bytes first (map entry_of entries))) × Appends a d (take fault (journal_bytes first (map entry_of entries)))
  journal_front fault (k, is, within, given) =
      let longer = sends_longer a b (text_of first entries) rest 0 written s (end_bytes (length entries)) in
      subst (λ (t : List ℕ). (fault ≤ length t) × Appends a d (take fault t)) (sym (journal_parts first entries))
      (from_nothing a d (text_of first entries ++ end_bytes (length entries)) fault
      (front_behind a b (text_of first entries ++ end_bytes (length entries)) (rest ++ end_bytes (length entries)) 0 written longer d fault k is within given))

pub records_front : (a d : Option (List ℕ)) (first : ℕ) (entries : List Entry) (fault : ℕ) → (k : ℕ) × (fault ≡ 0 + k) × (k ≤ length (text_of first entries)) × Appends a d (take k (text_of first entries))
    → (fault ≤ length (journal_bytes first (map entry_of entries))) × Appends a d (take fault (journal_bytes first (map entry_of entries)))
records_front a d first entries fault front =
    subst (λ (t : List ℕ). (fault ≤ length t) × Appends a d (take fault t)) (sym (journal_parts first entries))
    (from_nothing a d (text_of first entries ++ end_bytes (length entries)) fault (front_longer a d (text_of first entries) (end_bytes (length entries)) 0 fault front))

-- a fact that follows at Ok, and one that follows at Err
pub at_ok : {T E : Type 0} (result : Result T E) (P Q : Type 0) → (P → Q) → OnOk result P → OnOk result Q
at_ok (Ok x) P Q f h = f h
at_ok (Err e) P Q f h = h

pub at_err : {T E : Type 0} (result : Result T E) (P Q : E → Type 0) → ((e : E) → P e → Q e) → IfErr result P → IfErr result Q
at_err (Ok x) P Q f h = h
at_err (Err e) P Q f h = f e h
