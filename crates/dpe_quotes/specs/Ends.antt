-- How the program ends: a status and what is written, by the request and the source's bytes.
use Rattle.std.specs.Prelude.{◌≡◌, ◌≢◌, ℕ, ◌≤◌, ◌<◌, ◌⊎◌, List, [], ◌∷◌, ◌++◌, codes, length, Option, Result, Ok, Err}
use Rattle.std.specs.Fmt.{decimal}
use Rattle.std.specs.Io.KnownBytes.{Consumes, Appends, IsAtEnd}
use Rattle.dpe_text.specs.Writing.{AppendsFront}
use Rattle.dpe_quotes.specs.declared.verifying.QuoteFault.{QuoteFault}
use Rattle.dpe_quotes.specs.declared.verifying.QuoteFault.TheVariants.{Malformed, Nonce, Tag}
use Rattle.dpe_quotes.specs.declared.words.Request.{Request}
use Rattle.dpe_quotes.specs.declared.words.Request.TheVariants.{Verify, Make}
use Rattle.dpe_quotes.specs.declared.words.MakeRequest.{MakeRequest}
use Rattle.dpe_quotes.specs.Quotes.{quote_bytes}
use Rattle.dpe_quotes.specs.Stored.{IsPath, path_of}
use Rattle.dpe_quotes.specs.Verdicts.{verdict}
use Rattle.dpe_quotes.specs.Words.{AskFor}

-- the line that is printed of a verdict, which ends with a line feed, and its status
abbrev pub line_of : Result ℕ QuoteFault → List ℕ
line_of (Ok depth) = codes "accepted " ++ decimal depth ++ 10 ∷ []
line_of (Err (Malformed at)) = codes "malformed at " ++ decimal at ++ 10 ∷ []
line_of (Err Nonce) = codes "nonce differs" ++ 10 ∷ []
line_of (Err Tag) = codes "tag differs" ++ 10 ∷ []

abbrev pub verdict_status : Result ℕ QuoteFault → ℕ
verdict_status (Ok depth) = 0
verdict_status (Err (Malformed at)) = 20
verdict_status (Err Nonce) = 21
verdict_status (Err Tag) = 22

-- the quote of the path in the bytes
abbrev pub quote_of : MakeRequest → List ℕ → List ℕ
quote_of asked bytes = quote_bytes (record { nonce = asked.nonce; path = path_of bytes; tag = asked.tag })

-- What bytes come to: a status, and what is written. A quote that is made is written, and a verdict's line is.
abbrev pub ComesTo : Request → List ℕ → ℕ → List ℕ → Type 0
ComesTo (Verify asked) bytes status text =
    (status ≡ verdict_status (verdict asked.seed asked.nonce bytes)) × (text ≡ line_of (verdict asked.seed asked.nonce bytes))
ComesTo (Make asked) bytes status text =
    (IsPath bytes × (status ≡ 0) × (text ≡ quote_of asked bytes)) ⊎ ((IsPath bytes → ⊥) × (status ≡ 9) × (text ≡ []))

-- bytes come to this status
abbrev pub HasStatus : Request → List ℕ → ℕ → Type 0
HasStatus asked bytes status = (text : List ℕ) × ComesTo asked bytes status text

-- the most bytes that are read
abbrev pub room_for : Request → ℕ
room_for (Verify asked) = 8648
room_for (Make asked) = 8225

-- The bytes were taken of the source: all, or as many as are read at most.
pub record Takes (most : ℕ) (old new : Option (List ℕ)) (bytes : List ℕ) : Type 0 where
  pub taken : Consumes old new bytes
  pub few : length bytes ≤ most
  pub all : length bytes < most → IsAtEnd new

-- Bytes were taken, and what they come to was written. 7: the sink failed, and a front of it was. Bytes that are no path have
-- status 9, whatever the sink does.
pub record Ends (asked : Request) (left_old left_new got_old got_new : Option (List ℕ)) (status : ℕ) : Type 0 where
  pub bytes : List ℕ
  pub takes : Takes (room_for asked) left_old left_new bytes
  pub own : ℕ
  pub text : List ℕ
  pub comes : ComesTo asked bytes own text
  pub status_is : status ≢ 7 → status ≡ own
  pub no_path : own ≡ 9 → status ≡ 9
  pub written : status ≢ 7 → Appends got_old got_new text
  pub unsent : status ≡ 7 → AppendsFront got_old got_new text

-- the words ask for a request that has P
pub record ForRequest (words : List (List ℕ)) (P : Request → Type 0) : Type 0 where
  pub request : Request
  pub asked : AskFor words request
  pub holds : P request

-- the statuses of the program
abbrev pub IsStatus : ℕ → Type 0
IsStatus n = (n ≡ 0) ⊎ ((n ≡ 2) ⊎ ((n ≡ 4) ⊎ ((n ≡ 7) ⊎ ((n ≡ 9) ⊎ ((n ≡ 20) ⊎ ((n ≡ 21) ⊎ (n ≡ 22)))))))
