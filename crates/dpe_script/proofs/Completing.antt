-- Where each link tells answers to its lines, no line ends without a reply; and where no line does, they told answers.
use Rattle.std.proofs.Common.{◌≡◌, ℕ, suc, ◌<◌, ◌≤◌, List, [], ◌∷◌, ◌++◌, length, get_or, Option, Some, None, inl, inr, refl, sym, ap, subst, ◌∙◌, append_assoc, append-nil, arith}
use Rattle.std.specs.Prelude.{◌==◌, if◌then◌else◌, All}
use Rattle.std.specs.Io.KnownBytes.{Consumes, IsAtEnd}
use Rattle.std.proofs.lemmas.List.{append_cancel_left, get_or_append_left, take-append-le}
use Rattle.std.specs.Int.{from_be_bytes, w32}
use Rattle.dpe_link.specs.Frames.{frame, told_length}
use Rattle.dpe_link.proofs.Splits.{no_frame, same_frame, told-frame}
use Rattle.dpe_messages.proofs.ReplyLaws.{sendable}
use Rattle.dpe_messages.proofs.ReplySizes.{reply_fits}
use Rattle.dpe_messages.specs.declared.reply_reader.Asked.{Asked}
use Rattle.dpe_io.specs.Told.{Kind, IfTold}
use Rattle.dpe_grammar.specs.Acts.{Act}
use Rattle.dpe_script.specs.Script.{Line}
use Rattle.dpe_script.specs.Meaning.{Answer, payload, response, IsAnswerTo, asked_of, answer_payload, got}
use Rattle.dpe_script.specs.CodeScript.{line_of, lines_are}
use Rattle.dpe_script.specs.declared.script.Line as code_line
use Rattle.dpe_io.specs.Told.{Told}
use Rattle.dpe_script.specs.Run.{AreAnswers, next_line, IsNoReply, ended, too_long, refused, RunsWhole, StopsAtReply}
use Rattle.dpe_script.specs.Client.{AllOpen, TellBytes, TellAnswers, RunsOnLinks, EndsAtReply, LinesStop}
use Rattle.dpe_script.specs.declared.run.Cause.{Cause}
use Rattle.dpe_script.specs.declared.run.Cause.TheVariants.{Reply}
use Rattle.dpe_script.proofs.Running.{got_one, got_own, some_of}

-- ---- one answer

answer_fits : (command : Option Asked) (a : Answer) → IsAnswerTo command a → length (answer_payload a) ≤ 4096
answer_fits None (payload p) is = is
answer_fits None (response r) is = absurd is
answer_fits (Some command) (payload p) is = absurd is
answer_fits (Some command) (response r) is = reply_fits r (sendable command r is)

-- bytes that begin with the frame of an answer aren't taken as no reply
answer_stands : (act : Act) (a : Answer) (more taken rest : List ℕ) (left : Option (List ℕ)) → IsAnswerTo (asked_of act) a → left ≡ Some rest → frame (answer_payload a) ++ more ≡ taken ++ rest
    → IsNoReply act left taken → ⊥
answer_stands act a more taken rest left is told same (ended none at_end) =
    let empty : rest ≡ [] = subst (λ (l : Option (List ℕ)). IsAtEnd l) told at_end in
    let all : taken ≡ frame (answer_payload a) ++ more = sym (same ∙ ap (λ (t : List ℕ). taken ++ t) empty ∙ append-nil taken) in
    no_frame taken (answer_payload a) more (elim none [ inl e ↦ inl e | inr u ↦ inr (inl u) ]) (answer_fits (asked_of act) a is) all
answer_stands act a more taken rest left is told same (too_long four long) =
    let fits = answer_fits (asked_of act) a is in
    let enough : 4 ≤ length taken = omega arith in
    let head : told_length taken ≡ length (answer_payload a) =
    ap (from_be_bytes w32) (sym (take-append-le 4 taken rest enough)) ∙ ap told_length (sym same) ∙ told-frame (answer_payload a) more fits in
    omega arith
answer_stands act a more taken rest left is told same (refused p few is_frame no_answer) =
    no_answer a (is, (same_frame (answer_payload a) p more rest (answer_fits (asked_of act) a is) few (same ∙ ap (λ (t : List ℕ). t ++ rest) is_frame)).0)

-- ---- the lines

-- two lists of answers, and what follows them on a link, are the same bytes
record Both (lines : List Line) (firsts seconds : List Answer) (Q : List ℕ → Type 0) (k : ℕ) : Type 0 where
  a : List ℕ
  b : List ℕ
  same : got lines firsts k ++ a ≡ got lines seconds k ++ b
  holds : Q b

record Next (line : Line) (Q : List ℕ → Type 0) : Type 0 where
  answer : Answer
  more : List ℕ
  is : IsAnswerTo (asked_of line.act) answer
  holds : Q (frame (answer_payload answer) ++ more)

module _ (count : ℕ) (line : Line) (Q : ℕ → List ℕ → Type 0) where
  -- the next line behind the answers has the next of the others before what follows
  standing : (lines : List code_line.Line) (firsts seconds : List Answer) → All (λ l. l.link < count) lines → AreAnswers (lines_are lines) firsts → length firsts ≡ length (lines_are lines)
      → AreAnswers (lines_are lines) seconds → next_line (lines_are lines) seconds ≡ Some line → ((k : ℕ) → k < count → Both (lines_are lines) firsts seconds (Q k) k) → Next line (Q line.link)
  standing [] firsts seconds near each all others next both = cc
  standing (x ∷ xs) [] seconds near each all others next both = absurd (omega arith)
  standing (x ∷ xs) (a ∷ firsts) [] near each all others next both =
      let here = both x.link (near 0 x (omega arith)) in
      let is : line_of x ≡ line = cc in
      let bytes : here.b ≡ frame (answer_payload a) ++ (got (lines_are xs) firsts x.link ++ here.a) =
      sym here.same ∙ append_assoc _ (got (lines_are xs) firsts x.link) here.a ∙ ap (λ (t : List ℕ). t ++ (got (lines_are xs) firsts x.link ++ here.a)) (got_own (line_of x) a x.link refl) in
      subst (λ (l : Line). Next l (Q l.link)) is
      (record {
        answer = a;
        more = got (lines_are xs) firsts x.link ++ here.a;
        is = each.0;
        holds = subst (Q x.link) bytes here.holds;
      })
  standing (x ∷ xs) (a ∷ firsts) (b ∷ seconds) near each all others next both =
      standing xs firsts seconds (λ k d lt. near (suc k) d (omega arith)) each.1 (omega arith) others.1 next (λ k below. later k (both k below))
    where
      here : Both (lines_are (x ∷ xs)) (a ∷ firsts) (b ∷ seconds) (Q x.link) x.link
      here = both x.link (near 0 x (omega arith))

      begins : (c : Answer) (cs : List Answer) (t : List ℕ) → got (lines_are (x ∷ xs)) (c ∷ cs) x.link ++ t ≡ frame (answer_payload c) ++ (got (lines_are xs) cs x.link ++ t)
      begins c cs t =
          append_assoc (got_one (line_of x) c x.link) (got (lines_are xs) cs x.link) t
          ∙ ap (λ (f : List ℕ). f ++ (got (lines_are xs) cs x.link ++ t)) (got_own (line_of x) c x.link refl)

      payloads : answer_payload a ≡ answer_payload b
      payloads =
          (same_frame (answer_payload a) (answer_payload b) (got (lines_are xs) firsts x.link ++ here.a) (got (lines_are xs) seconds x.link ++ here.b)
          (answer_fits (asked_of (line_of x).act) a each.0) (answer_fits (asked_of (line_of x).act) b others.0)
          (sym (begins a firsts here.a) ∙ here.same ∙ begins b seconds here.b)).0

      later : (k : ℕ) → Both (lines_are (x ∷ xs)) (a ∷ firsts) (b ∷ seconds) (Q k) k → Both (lines_are xs) firsts seconds (Q k) k
      later k it = record {
        a = it.a;
        b = it.b;
        same =
            append_cancel_left (got_one (line_of x) a k) (got (lines_are xs) firsts k ++ it.a) (got (lines_are xs) seconds k ++ it.b)
            (sym (append_assoc (got_one (line_of x) a k) (got (lines_are xs) firsts k) it.a)
            ∙ it.same
            ∙ append_assoc (got_one (line_of x) b k) (got (lines_are xs) seconds k) it.b
            ∙ ap (λ (p : List ℕ). (if x.link == k then frame p else []) ++ (got (lines_are xs) seconds k ++ it.b)) (sym payloads));
        holds = it.holds;
      }

-- ---- what the links tell

pub consumed_told : (a b : Option (List ℕ)) (text part : List ℕ) → a ≡ Some text → Consumes a b part → (rest : List ℕ) × (b ≡ Some rest) × (text ≡ part ++ rest)
consumed_told None b text part is read = cc
consumed_told (Some t) None text part is read = absurd read
consumed_told (Some t) (Some rest) text part is read = let e : t ≡ text = cc in (rest, refl, sym e ∙ read)

pub opened_next : {T : Type 0} (a b : Option (List T)) (x : T) (all : List T) → IfTold (λ xs ys. xs ≡ x ∷ ys) a b → a ≡ Some all → (rest : List T) × (b ≡ Some rest) × (all ≡ x ∷ rest)
opened_next None b x all next is = cc
opened_next (Some xs) None x all next is = absurd next
opened_next (Some xs) (Some ys) x all next is = let e : xs ≡ all = cc in (ys, refl, sym e ∙ next)

-- what is opened is the front of what was told
opened_front : {T : Type 0} (old new : Kind T) (xs all : List T) → AllOpen old xs new → old.unopened ≡ Some all → (rest : List T) × (all ≡ xs ++ rest)
opened_front old new [] all front is = (all, refl)
opened_front {T} old new (x ∷ xs) all (mid, first, later) is =
    let one = opened_next old.unopened mid.unopened x all first.next is in
    let more = opened_front mid new xs one.0 later one.1 in
    (more.0, one.2 ∙ ap (λ (l : List T). x ∷ l) more.1)

-- what was taken of a link, and what it has left, are these bytes
record Leaves (line : Line) (k : ℕ) (bytes : List ℕ) : Type 0 where
  taken : List ℕ
  rest : List ℕ
  left : Option (List ℕ)
  told : left ≡ Some rest
  bytes_are : bytes ≡ taken ++ rest
  no_reply : line.link ≡ k → IsNoReply line.act left taken

both_at : (lines : List Line) (firsts seconds : List Answer) (line : Line) (k : ℕ) (more taken rest : List ℕ) (left : Option (List ℕ)) → left ≡ Some rest
    → got lines firsts k ++ more ≡ (got lines seconds k ++ taken) ++ rest → (line.link ≡ k → IsNoReply line.act left taken) → Both lines firsts seconds (Leaves line k) k
both_at lines firsts seconds line k more taken rest left told same no_reply = record {
  a = more;
  b = taken ++ rest;
  same = same ∙ append_assoc (got lines seconds k) taken rest;
  holds = record { taken = taken; rest = rest; left = left; told = told; bytes_are = refl; no_reply = no_reply };
}

replies_stand : {L : Type 0} (told : L → Told) (count : ℕ) (lines : List code_line.Line) (old new : Kind L) (x0 x1 : Option (List ℕ)) (number : ℕ) → All (λ l. l.link < count) lines
    → TellAnswers told old count (lines_are lines) → EndsAtReply told count (lines_are lines) old new x0 x1 number → ⊥
replies_stand {L} told count lines old new x0 x1 number near t e =
    answer_stands s.line.act next.answer next.more next.holds.taken next.holds.rest next.holds.left next.is next.holds.told next.holds.bytes_are (next.holds.no_reply refl)
  where
    s : StopsAtReply told (lines_are lines) e.opened e.closed x0 x1 number
    s = e.holds

    each : (k : ℕ) → k < count → Both (lines_are lines) t.answers s.answers (Leaves s.line k) k
    each k below =
        let within : k < length e.opened = omega (arith, e.all) in
        let d = some_of e.opened k within in
        let front = opened_front old e.mid e.opened t.links e.opens t.are in
        let same : get_or t.links k d ≡ get_or e.opened k d = ap (λ (l : List L). get_or l k d) front.1 ∙ get_or_append_left e.opened front.0 d k within in
        let given = t.give k d below in
        let ends = (s.links k d within).1 in
        let read = consumed_told (told (get_or e.opened k d)).left (told (get_or e.closed k d)).left (got (lines_are lines) t.answers k ++ given.0) (got (lines_are lines) s.answers k ++ ends.0)
        (ap (λ (l : L). (told l).left) (sym same) ∙ given.1) ends.2 in
        both_at (lines_are lines) t.answers s.answers s.line k given.0 ends.0 read.0 (told (get_or e.closed k d)).left read.1 read.2
        (λ own. elim ends.1 [ inl other ↦ absurd (other.0 own) | inr bad ↦ bad.1 ])

    next : Next s.line (Leaves s.line s.line.link)
    next = standing count s.line (Leaves s.line) lines t.answers s.answers near t.each t.all s.each s.next each

-- the same of an end with that cause
pub no_bad_reply : {L : Type 0} (told : L → Told) (count : ℕ) (lines : List code_line.Line) (old new : Kind L) (x0 x1 : Option (List ℕ)) (number : ℕ) (cause : Cause) → cause ≡ Reply
    → All (λ l. l.link < count) lines → LinesStop told count (lines_are lines) old new x0 x1 cause number → TellAnswers told old count (lines_are lines) → ⊥
no_bad_reply told count lines old new x0 x1 number cause is near stops t =
    replies_stand told count lines old new x0 x1 number near t (subst (λ (c : Cause). LinesStop told count (lines_are lines) old new x0 x1 c number) is stops)

-- links that tell what they will give told answers, where all lines were answered
pub answers_told : {L : Type 0} (told : L → Told) (count : ℕ) (lines : List Line) (old new : Kind L) (x0 x1 : Option (List ℕ)) → TellBytes told old count
    → RunsOnLinks told count lines old new x0 x1 → TellAnswers told old count lines
answers_told {L} told count lines old new x0 x1 t o = record { answers = w.answers; links = t.links; each = w.each; all = w.all; are = t.are; give = gives }
  where
    w : RunsWhole told lines o.opened o.closed x0 x1
    w = o.holds

    gives : (k : ℕ) (d : L) → k < count → (more : List ℕ) × ((told (get_or t.links k d)).left ≡ Some (got lines w.answers k ++ more))
    gives k d below =
        let within : k < length o.opened = omega (arith, o.all) in
        let front = opened_front old o.mid o.opened t.links o.opens t.are in
        let same : get_or t.links k d ≡ get_or o.opened k d = ap (λ (l : List L). get_or l k d) front.1 ∙ get_or_append_left o.opened front.0 d k within in
        let given = t.give k d below in
        let read = consumed_told (told (get_or o.opened k d)).left (told (get_or o.closed k d)).left given.0 (got lines w.answers k)
        (ap (λ (l : L). (told l).left) (sym same) ∙ given.1) (w.links k d within).1 in
        (read.0, given.1 ∙ ap (λ (b : List ℕ). Some b) read.2)
