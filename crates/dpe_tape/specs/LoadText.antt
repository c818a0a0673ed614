-- What is told of a load: its commands, the codes of their replies, and the digest of the replies' frames.
use Rattle.std.specs.Prelude.{ℕ, zero, suc, ◌==◌, List, [], ◌∷◌, ◌++◌, codes, if◌then◌else◌}
use Rattle.std.specs.List.{count_by, flat_map}
use Rattle.std.specs.Fmt.{decimal}
use Rattle.hex.specs.Hex.{encode_lower}
use Rattle.sha2.specs.Sha512.{sha512}
use Rattle.dpe_link.specs.Frames.{frame}
use Rattle.dpe_messages.specs.Replies.{Response, code_of, reply_payload}
use Rattle.dpe_tape.specs.Load.{load_at, replies}

-- every code of a reply is below this number
abbrev pub code_bound : ℕ
code_bound = 30

abbrev pub line : List ℕ → List ℕ
line text = text ++ 10 ∷ []

-- how many replies have the code
abbrev pub count_of : ℕ → List Response → ℕ
count_of code rs = count_by (λ r. code_of r == code) rs

-- the line of a code that occurred
abbrev pub code_line : ℕ → ℕ → List ℕ
code_line code count =
    if count == 0 then [] else line (codes "code " ++ decimal code ++ codes " " ++ decimal count)

-- the lines of the codes below a number, in ascending order
unfoldable pub code_lines : ℕ → List Response → List ℕ
code_lines zero rs = []
code_lines (suc code) rs = code_lines code rs ++ code_line code (count_of code rs)

-- the frames of the replies, one behind the other
abbrev pub reply_frames : List Response → List ℕ
reply_frames rs = flat_map (λ r. frame (reply_payload r)) rs

abbrev pub digest_line : List ℕ → List ℕ
digest_line digest = line (codes "digest " ++ encode_lower digest)

abbrev pub told_text : ℕ → List Response → List ℕ
told_text commands rs =
    line (codes "commands " ++ decimal commands)
    ++ code_lines code_bound rs
    ++ digest_line (sha512 (reply_frames rs))

-- the text of the load that begins with the number n and has so many commands
abbrev pub load_text : ℕ → ℕ → List ℕ
load_text n commands = told_text commands (replies commands (load_at n))
