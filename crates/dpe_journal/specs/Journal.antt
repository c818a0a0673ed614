-- The journal's bytes, version 1.
use Rattle.std.specs.Prelude.{ℕ, ◌^◌, ◌<◌, ◌≡◌, List, [], ◌∷◌, ◌++◌, length, flat_map}
use Rattle.std.specs.List.{AllByRecursion}
use Rattle.std.specs.Int.{to_be_bytes, w16, w32, w64}
use Rattle.dpe_model.specs.History.{Entry, IsEntry}

-- "DPEJ" and the version
abbrev pub magic : List ℕ
magic = 68 ∷ 80 ∷ 69 ∷ 74 ∷ 1 ∷ []

-- the most records of a journal
abbrev pub most_records : ℕ
most_records = 65536

abbrev pub header_bytes : ℕ → List ℕ
header_bytes first = magic ++ to_be_bytes w64 first

-- a payload behind its length in 2 bytes, big-endian
abbrev pub packet : List ℕ → List ℕ
packet payload = to_be_bytes w16 (length payload) ++ payload

-- the caller, its connection and the index on it
abbrev pub numbers : Entry → List ℕ
numbers e = to_be_bytes w32 e.caller ++ (to_be_bytes w32 e.connection ++ to_be_bytes w32 e.index)

-- 01, the three numbers, the locality, the random bytes and the two payloads
abbrev pub record_bytes : Entry → List ℕ
record_bytes e = 1 ∷ (numbers e ++ (e.locality ∷ (e.random ++ (packet e.payload ++ packet e.reply))))

-- ff and the number of records
abbrev pub end_bytes : ℕ → List ℕ
end_bytes count = 255 ∷ to_be_bytes w64 count

-- a header, a record for each entry, and the end
abbrev pub journal_bytes : ℕ → List Entry → List ℕ
journal_bytes first H = header_bytes first ++ (flat_map record_bytes H ++ end_bytes (length H))

-- A journal's bytes determine its first serial and its history.
abbrev pub JournalIsOne : Type 0
JournalIsOne =
    (first other : ℕ) (H K : List Entry) → first < 2 ^ 64 → other < 2 ^ 64 → AllByRecursion IsEntry H → AllByRecursion IsEntry K →
    journal_bytes first H ≡ journal_bytes other K → (first ≡ other) × (H ≡ K)
