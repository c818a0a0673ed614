-- How the program ends: a status and what is written, as functions of the request and of the source's bytes.
use Rattle.std.specs.Prelude.{◌≡◌, ◌≢◌, ℕ, ◌+◌, ◌≤◌, ◌⊎◌, nat_le, if◌then◌else◌, List, length, Option}
use Rattle.std.specs.Io.KnownBytes.{Consumes, Appends, IsAtEnd}
use Rattle.dpe_text.specs.Writing.{AppendsFront}
use Rattle.dpe_box.specs.declared.policy.Policy.{Policy}
use Rattle.dpe_ratchets.specs.declared.words.SealRequest.{SealRequest}
use Rattle.dpe_ratchets.specs.declared.words.OpenRequest.{OpenRequest}
use Rattle.dpe_ratchets.specs.declared.words.Request.{Request}
use Rattle.dpe_ratchets.specs.declared.words.Request.TheVariants.{Seal, Open}
use Rattle.dpe_ratchets.specs.Boxes.{versioned_box, Answer, malformed, too_new, refused, policy_refused, gives, answer, data_of}
use Rattle.dpe_ratchets.specs.Words.{AskFor}

-- what is sealed admits every locality and mode
abbrev pub everybody : Policy
everybody = record { localities = 255; modes = 15 }

abbrev pub box_for : SealRequest → List ℕ → List ℕ
box_for asked text = versioned_box asked.cdi asked.version asked.label everybody asked.salt text

abbrev pub answer_to : OpenRequest → List ℕ → Answer
answer_to asked bytes = answer asked.cdi asked.own asked.label asked.locality asked.mode bytes

abbrev pub answer_status : Answer → ℕ
answer_status malformed = 30
answer_status refused = 31
answer_status policy_refused = 32
answer_status (too_new v) = 33
answer_status (gives text) = 0

-- the status for these bytes: 34 where there are too many to be sealed
abbrev pub status_for : Request → List ℕ → ℕ
status_for (Seal asked) bytes = if nat_le (length bytes) 2048 then 0 else 34
status_for (Open asked) bytes = answer_status (answer_to asked bytes)

-- what is written where the status is 0
abbrev pub written_for : Request → List ℕ → List ℕ
written_for (Seal asked) bytes = box_for asked bytes
written_for (Open asked) bytes = data_of (answer_to asked bytes)

-- the most bytes that can be sealed, and that what is opened can have
abbrev pub most_bytes : Request → ℕ
most_bytes (Seal asked) = 2048
most_bytes (Open asked) = 2136

-- The bytes were taken of the source: all, or one more than the most.
pub record Takes (most : ℕ) (old new : Option (List ℕ)) (bytes : List ℕ) : Type 0 where
  pub taken : Consumes old new bytes
  pub few : length bytes ≤ most + 1
  pub all : length bytes ≤ most → IsAtEnd new

-- 0: it is written. 7: the sink failed, and a front of it is written. Any other status is that of the bytes.
pub record Ends (asked : Request) (left_old left_new got_old got_new : Option (List ℕ)) (status : ℕ) : Type 0 where
  pub bytes : List ℕ
  pub takes : Takes (most_bytes asked) left_old left_new bytes
  pub status_is : status ≢ 7 → status ≡ status_for asked bytes
  pub written : status ≡ 0 → Appends got_old got_new (written_for asked bytes)
  pub unsent : status ≡ 7 → (status_for asked bytes ≡ 0) × AppendsFront got_old got_new (written_for asked bytes)

-- the words ask for a request that has P
pub record ForRequest (words : List (List ℕ)) (P : Request → Type 0) : Type 0 where
  pub request : Request
  pub asked : AskFor words request
  pub holds : P request

-- the statuses of the program, and those where nothing is written
abbrev pub IsRefusal : ℕ → Type 0
IsRefusal n = (n ≡ 30) ⊎ ((n ≡ 31) ⊎ ((n ≡ 32) ⊎ ((n ≡ 33) ⊎ (n ≡ 34))))

abbrev pub IsStatus : ℕ → Type 0
IsStatus n = (n ≡ 0) ⊎ ((n ≡ 2) ⊎ ((n ≡ 4) ⊎ ((n ≡ 7) ⊎ IsRefusal n)))
