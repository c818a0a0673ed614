-- The fields of which parts are made, and what the first bytes of a part say of it.
use Rattle.std.specs.Prelude.{ℕ, ◌+◌, ◌-◌, ◌<◌, ◌≤◌, ◌≡◌, List, [], ◌∷◌, ◌++◌, length, take, max}
use Rattle.dpe_cbor.specs.Decoding.{AreBytes}
use Rattle.dpe_journal.specs.Journal.{packet}
use Rattle.dpe_journal.specs.declared.fields.Field.{Field}
use Rattle.dpe_journal.specs.declared.fields.Field.TheVariants.{Exact, AtMost, Free, Packet}
use Rattle.dpe_journal.specs.declared.fields.Front.{Front}
use Rattle.dpe_journal.specs.declared.fields.Front.TheVariants.{Whole, Short, Wrong}

-- this byte, a byte of at most so much, so many bytes, or a payload of at most 4,096 bytes behind its length
abbrev pub IsField : Field → List ℕ → Type 0
IsField (Exact byte) bytes = bytes ≡ byte ∷ []
IsField (AtMost most) bytes = (byte : ℕ) × (byte ≤ most) × (bytes ≡ byte ∷ [])
IsField (Free size) bytes = (length bytes ≡ size) × AreBytes bytes
IsField Packet bytes = (payload : List ℕ) × (length payload ≤ 4096) × AreBytes payload × (bytes ≡ packet payload)

-- one field after another
abbrev pub AreFields : List Field → List ℕ → Type 0
AreFields [] bytes = bytes ≡ []
AreFields (f ∷ fs) bytes = (first rest : List ℕ) × IsField f first × AreFields fs rest × (bytes ≡ first ++ rest)

-- No continuation of the bytes is one of the words, followed by anything.
abbrev pub BeginsNo : (List ℕ → Type 0) → List ℕ → Type 0
BeginsNo IsWord bytes = (word more after : List ℕ) → IsWord word → bytes ++ more ≡ word ++ after → ⊥

-- The bytes begin a word, and each word that begins so has at least so many bytes more.
pub record BeginsShort (IsWord : List ℕ → Type 0) (bytes : List ℕ) (need : ℕ) : Type 0 where
  pub some : (more : List ℕ) × IsWord (bytes ++ more)
  pub least : (word more after : List ℕ) → IsWord word → bytes ++ more ≡ word ++ after → length bytes + need ≤ length word
  pub positive : 0 < need

-- the bytes begin with a whole word of so many bytes
pub record BeginsWhole (IsWord : List ℕ → Type 0) (bytes : List ℕ) (size : ℕ) : Type 0 where
  pub within : size ≤ length bytes
  pub word : IsWord (take size bytes)

abbrev pub Judged : (List ℕ → Type 0) → List ℕ → Front → Type 0
Judged IsWord bytes (Whole size) = BeginsWhole IsWord bytes size
Judged IsWord bytes (Short need) = BeginsShort IsWord bytes need
Judged IsWord bytes Wrong = BeginsNo IsWord bytes

-- at least so many bytes are still to come as make the size
abbrev pub lengthened : Front → ℕ → ℕ → Front
lengthened (Whole whole) have size = Whole whole
lengthened (Short need) have size = Short (max need (size - have))
lengthened Wrong have size = Wrong

-- the words are just the lists that these fields make
abbrev pub Words : (List ℕ → Type 0) → List Field → Type 0
Words IsWord fields = (bytes : List ℕ) → (IsWord bytes → AreFields fields bytes) × (AreFields fields bytes → IsWord bytes)
