-- What a tally holds of one reply more.
use Rattle.std.proofs.Common.{◌≡◌, ◌≢◌, ℕ, suc, ◌+◌, ◌<◌, ◌≤◌, ◌==◌, cond, List, [], ◌∷◌, ◌++◌, length, get_or, sym, ap, ◌∙◌, append_assoc, append-nil, arith}
use Rattle.std.proofs.Math.ListN.{set}
use native.Mathlib.Decide.{ℕ_discrete}
use Rattle.std.proofs.lemmas.List.{get_or-set_other}
use Rattle.std.proofs.lemmas.Grind.{get_or-set_at}
use Rattle.std.proofs.lemmas.List.Sums.{sum_by-append, count_by-le-length}
use Rattle.std.proofs.lemmas.List.Concat.{flat_map-append}
use Rattle.std.proofs.lemmas.Bool.Decides.{nat_tests}
use Rattle.std.specs.Prelude.{codes}
use Rattle.std.specs.Fmt.{decimal}
use Rattle.sha2.specs.Sha512.{sha512}
use Rattle.dpe_link.specs.Frames.{frame}
use Rattle.dpe_messages.specs.Replies.{Response, code_of, reply_payload}
use Rattle.dpe_tape.specs.LoadText.{code_bound, line, count_of, code_line, code_lines, reply_frames, digest_line, told_text}
use Rattle.dpe_tape.specs.Tally.{HasCounts}

-- 1 where the code is the reply's
abbrev one_if : ℕ → Response → ℕ
one_if code r = cond (code_of r == code) 1 0

count_more : (code : ℕ) (rs : List Response) (r : Response) → count_of code (rs ++ r ∷ []) ≡ count_of code rs + one_if code r
count_more code rs r =
    let more = sum_by-append (one_if code) rs (r ∷ []) in
    omega (arith, more)

pub count_few : (code : ℕ) (rs : List Response) → count_of code rs ≤ length rs
count_few code rs = count_by-le-length (λ r. code_of r == code) rs

one_same : (code : ℕ) (r : Response) → code ≡ code_of r → one_if code r ≡ 1
one_same code r is = grind (arith, nat_tests)

one_other : (code : ℕ) (r : Response) → code ≢ code_of r → one_if code r ≡ 0
one_other code r other = grind (arith, nat_tests)

-- the count of the reply's code is one more, and the others stay
pub counts_more : (counts : List ℕ) (rs : List Response) (r : Response) (at v : ℕ) → length counts ≡ 30 → at < 30 → at ≡ code_of r
    → v ≡ get_or counts at 0 + 1 → HasCounts counts rs → HasCounts (set counts at v) (rs ++ r ∷ [])
counts_more counts rs r at v long below is more has code lt = elim (ℕ_discrete code at) [
  | yes e ↦
      let here : get_or (set counts at v) code 0 ≡ v = get_or-set_at counts at code v 0 e (omega arith) in
      let before : get_or counts at 0 ≡ count_of at rs = has at below in
      let same : count_of at rs ≡ count_of code rs = ap (λ (n : ℕ). count_of n rs) (sym e) in
      let one : one_if code r ≡ 1 = one_same code r (e ∙ is) in
      omega (arith, count_more code rs r)
  | no other ↦
      let kept : get_or (set counts at v) code 0 ≡ get_or counts code 0 = get_or-set_other counts at code v 0 other in
      let before : get_or counts code 0 ≡ count_of code rs = has code lt in
      let none : one_if code r ≡ 0 = one_other code r (λ e. other (e ∙ sym is)) in
      omega (arith, count_more code rs r)
]

-- fewer replies than a count can tell
pub counted : (counts : List ℕ) (rs : List Response) (at : ℕ) → at < 30 → length rs < 65536 → HasCounts counts rs → get_or counts at 0 < 65536
counted counts rs at below few has =
    let is : get_or counts at 0 ≡ count_of at rs = has at below in
    omega (arith, count_few at rs)

pub frames_more : (rs : List Response) (r : Response) → reply_frames rs ++ frame (reply_payload r) ≡ reply_frames (rs ++ r ∷ [])
frames_more rs r =
    sym (
    flat_map-append (λ (r : Response). frame (reply_payload r)) rs (r ∷ [])
    ∙ ap (λ (t : List ℕ). reply_frames rs ++ t) (append-nil (frame (reply_payload r)))
    )

-- ## The lines of the text

pub no_lines : (text : List ℕ) (rs : List Response) → text ≡ text ++ code_lines 0 rs
unfolding code_lines
no_lines text rs = sym (append-nil text)

-- one code more
pub lines_more : (text before after : List ℕ) (code count : ℕ) (rs : List Response) → before ≡ text ++ code_lines code rs
    → after ≡ before ++ code_line code count → count ≡ count_of code rs → after ≡ text ++ code_lines (code + 1) rs
unfolding code_lines
lines_more text before after code count rs one two three =
    let next : suc code ≡ code + 1 = omega arith in
    two
    ∙ ap (λ (t : List ℕ). t ++ code_line code count) one
    ∙ append_assoc text (code_lines code rs) (code_line code count)
    ∙ ap (λ (n : ℕ). text ++ (code_lines code rs ++ code_line code n)) three
    ∙ ap (λ (n : ℕ). text ++ code_lines n rs) next

pub all_lines : (text after : List ℕ) (code : ℕ) (rs : List Response) → code ≡ 30 → after ≡ text ++ code_lines code rs → after ≡ text ++ code_lines code_bound rs
all_lines text after code rs all is = is ∙ ap (λ (n : ℕ). text ++ code_lines n rs) all

-- the three parts of the text
pub told_is : (commands : ℕ) (digest first second whole : List ℕ) (rs : List Response) → first ≡ line (codes "commands " ++ decimal commands)
    → second ≡ first ++ code_lines code_bound rs → whole ≡ second ++ digest_line digest → digest ≡ sha512 (reply_frames rs) → whole ≡ told_text commands rs
told_is commands digest first second whole rs one two three four =
    three
    ∙ ap (λ (t : List ℕ). t ++ digest_line digest) (two ∙ ap (λ (t : List ℕ). t ++ code_lines code_bound rs) one)
    ∙ ap (λ (d : List ℕ). line (codes "commands " ++ decimal commands) ++ code_lines code_bound rs ++ digest_line d) four
