-- What the loop over the lines keeps, and how it ends.
use Rattle.std.proofs.Common.{◌≡◌, ℕ, suc, ◌+◌, ◌<◌, Bool, true, false, List, [], ◌∷◌, ◌++◌, length, drop, get_or, Option, Some, inl, inr, refl, sym, ap, subst, ◌∙◌, append_assoc, append-nil, arith}
use native.Mathlib.Decide.{ℕ_discrete}
use Rattle.std.proofs.lemmas.List.{get_or_default, take_at}
use Rattle.std.specs.Prelude.{◌==◌, if◌then◌else◌, filter, flat_map}
use Rattle.std.specs.Io.KnownBytes.{Consumes, Appends}
use Rattle.std.proofs.KnownBytes.{Consumes-nil, Consumes-trans, Appends-nil, Appends-trans}
use Rattle.std.proofs.lemmas.List.Elements.{filter-append}
use Rattle.std.proofs.lemmas.Grind.{flat_map-append}
use Rattle.std.proofs.lemmas.Bool.Decides.{nat_tests}
use Rattle.dpe_link.specs.Frames.{frame}
use Rattle.dpe_link.specs.Reading.{IsNoFrame}
use Rattle.dpe_script.specs.Script.{Line}
use Rattle.dpe_script.specs.Meaning.{Values, no_values, Answer, IsAnswerTo, asked_of, answer_payload, after, sent_payload, Posted, posted, posts, frames_on, sent, got, said_of, said}
use Rattle.dpe_io.specs.Told.{Told, KeepsCounts}
use Rattle.dpe_script.specs.Run.{AreAnswers, next_line, EachLink, AppendsFront, answered, IsWhole, IsFront, IsCut, IsFailed, IsRefused, IsNoReply, Exchanges, IsCutOff, IsUnanswered, RunsWhole, StopsAtLink, StopsAtReply, StopsPrinting, Stops, Fails, LinkFailed, LinksKept, SomeLinkFailed, CausedBy, RunCausedBy}
use Rattle.dpe_script.specs.CodeScript.{line_of, lines_are}
use Rattle.dpe_script.specs.declared.script.Line as code_line
use Rattle.dpe_script.specs.CodeValues.{values_of, IsReady}
use Rattle.dpe_script.specs.declared.values.Values as code_values
use Rattle.dpe_script.specs.declared.run.Cause.{Cause}
use Rattle.dpe_script.specs.declared.run.Cause.TheVariants.{Link, Reply, Output}
use Rattle.dpe_io.specs.Causes.{Rose}
use Rattle.dpe_script.proofs.Lists.{drop_step}
use Rattle.dpe_text.proofs.Fronts.{then_front}

-- a line and its answer
pub record Done : Type 0 where
  pub line : Line
  pub answer : Answer

abbrev pub done_of : Line → Answer → Done
done_of line answer = record { line = line; answer = answer }

abbrev pub lines_in : List Done → List Line
lines_in [] = []
lines_in (x ∷ xs) = x.line ∷ lines_in xs

abbrev pub answers_in : List Done → List Answer
answers_in [] = []
answers_in (x ∷ xs) = x.answer ∷ answers_in xs

abbrev pub AreDone : List Done → Type 0
AreDone [] = Unit {0}
AreDone (x ∷ xs) = IsAnswerTo (asked_of x.line.act) x.answer × AreDone xs

abbrev pub values_by : Values → List Done → Values
values_by v [] = v
values_by v (x ∷ xs) = values_by (after v x.line.act x.answer) xs

abbrev pub posts_by : Values → List Done → List Posted
posts_by v [] = []
posts_by v (x ∷ xs) = posted v x.line ∷ posts_by (after v x.line.act x.answer) xs

abbrev pub got_one : Line → Answer → ℕ → List ℕ
got_one line answer k = if line.link == k then frame (answer_payload answer) else []

abbrev pub got_by : List Done → ℕ → List ℕ
got_by [] k = []
got_by (x ∷ xs) k = got_one x.line x.answer k ++ got_by xs k

abbrev pub said_by : List Done → List ℕ
said_by [] = []
said_by (x ∷ xs) = said_of x.line x.answer ++ said_by xs

-- ---- one more

lines_more : (xs : List Done) (x : Done) (rest : List Line) → lines_in (xs ++ x ∷ []) ++ rest ≡ lines_in xs ++ (x.line ∷ rest)
lines_more [] x rest = refl
lines_more (y ∷ xs) x rest = ap (λ (l : List Line). y.line ∷ l) (lines_more xs x rest)

done_more : (xs : List Done) (x : Done) → AreDone xs → IsAnswerTo (asked_of x.line.act) x.answer → AreDone (xs ++ x ∷ [])
done_more [] x are is = (is, tt)
done_more (y ∷ xs) x are is = (are.0, done_more xs x are.1 is)

values_more : (v : Values) (xs : List Done) (x : Done) → values_by v (xs ++ x ∷ []) ≡ after (values_by v xs) x.line.act x.answer
values_more v [] x = refl
values_more v (y ∷ xs) x = values_more (after v y.line.act y.answer) xs x

posts_more : (v : Values) (xs : List Done) (x : Done) → posts_by v (xs ++ x ∷ []) ≡ posts_by v xs ++ (posted (values_by v xs) x.line ∷ [])
posts_more v [] x = refl
posts_more v (y ∷ xs) x = ap (λ (ps : List Posted). posted v y.line ∷ ps) (posts_more (after v y.line.act y.answer) xs x)

got_more : (xs : List Done) (x : Done) (k : ℕ) → got_by (xs ++ x ∷ []) k ≡ got_by xs k ++ got_one x.line x.answer k
got_more [] x k = append-nil (got_one x.line x.answer k)
got_more (y ∷ xs) x k =
    ap (λ (t : List ℕ). got_one y.line y.answer k ++ t) (got_more xs x k) ∙ sym (append_assoc (got_one y.line y.answer k) (got_by xs k) (got_one x.line x.answer k))

said_more : (xs : List Done) (x : Done) → said_by (xs ++ x ∷ []) ≡ said_by xs ++ said_of x.line x.answer
said_more [] x = append-nil (said_of x.line x.answer)
said_more (y ∷ xs) x = ap (λ (t : List ℕ). said_of y.line y.answer ++ t) (said_more xs x) ∙ sym (append_assoc (said_of y.line y.answer) (said_by xs) (said_of x.line x.answer))

-- ---- what the definitions say of lines of which the first were answered

abbrev pub next_post : Values → List Line → List Posted
next_post v [] = []
next_post v (line ∷ lines) = posted v line ∷ []

posts_split : (v : Values) (xs : List Done) (rest : List Line) → posts v (lines_in xs ++ rest) (answers_in xs) ≡ posts_by v xs ++ next_post (values_by v xs) rest
posts_split v [] [] = refl
posts_split v [] (line ∷ rest) = refl
posts_split v (x ∷ xs) rest = ap (λ (ps : List Posted). posted v x.line ∷ ps) (posts_split (after v x.line.act x.answer) xs rest)

got_split : (xs : List Done) (rest : List Line) (k : ℕ) → got (lines_in xs ++ rest) (answers_in xs) k ≡ got_by xs k
got_split [] [] k = refl
got_split [] (line ∷ rest) k = refl
got_split (x ∷ xs) rest k = ap (λ (t : List ℕ). got_one x.line x.answer k ++ t) (got_split xs rest k)

said_split : (xs : List Done) (rest : List Line) → said (lines_in xs ++ rest) (answers_in xs) ≡ said_by xs
said_split [] [] = refl
said_split [] (line ∷ rest) = refl
said_split (x ∷ xs) rest = ap (λ (t : List ℕ). said_of x.line x.answer ++ t) (said_split xs rest)

answers_split : (xs : List Done) (rest : List Line) → AreDone xs → AreAnswers (lines_in xs ++ rest) (answers_in xs)
answers_split [] rest are = tt
answers_split (x ∷ xs) rest are = (are.0, answers_split xs rest are.1)

next_split : (xs : List Done) (line : Line) (rest : List Line) → next_line (lines_in xs ++ (line ∷ rest)) (answers_in xs) ≡ Some line
next_split [] line rest = refl
next_split (x ∷ xs) line rest = next_split xs line rest

length_split : (xs : List Done) → length (answers_in xs) ≡ length (lines_in xs ++ [])
length_split [] = refl
length_split (x ∷ xs) = ap suc (length_split xs)

-- ---- frames on a link

frames_append : (k : ℕ) (ps qs : List Posted) → frames_on k (ps ++ qs) ≡ frames_on k ps ++ frames_on k qs
frames_append k ps qs =
    ap (flat_map (λ (p : Posted). frame p.payload)) (filter-append (λ (p : Posted). p.link == k) ps qs)
    ∙ flat_map-append (λ (p : Posted). frame p.payload) (filter (λ (p : Posted). p.link == k) ps) (filter (λ (p : Posted). p.link == k) qs)

equal_test : (a b : ℕ) → a ≡ b → (a == b) ≡ true
equal_test a b e = grind (arith, nat_tests)

apart_test : (a b : ℕ) → (a ≡ b → ⊥) → (a == b) ≡ false
apart_test a b e = grind (arith, nat_tests)

frames_one : (k : ℕ) (p : Posted) → p.link ≡ k → frames_on k (p ∷ []) ≡ frame p.payload
frames_one k p e = ap (λ (b : Bool). flat_map (λ (q : Posted). frame q.payload) (if b then p ∷ [] else [])) (equal_test p.link k e) ∙ append-nil (frame p.payload)

frames_none : (k : ℕ) (p : Posted) → (p.link ≡ k → ⊥) → frames_on k (p ∷ []) ≡ []
frames_none k p e = ap (λ (b : Bool). flat_map (λ (q : Posted). frame q.payload) (if b then p ∷ [] else [])) (apart_test p.link k e)

pub got_own : (line : Line) (answer : Answer) (k : ℕ) → line.link ≡ k → got_one line answer k ≡ frame (answer_payload answer)
got_own line answer k e = ap (λ (b : Bool). if b then frame (answer_payload answer) else []) (equal_test line.link k e)

got_other : (line : Line) (answer : Answer) (k : ℕ) → (line.link ≡ k → ⊥) → got_one line answer k ≡ []
got_other line answer k e = ap (λ (b : Bool). if b then frame (answer_payload answer) else []) (apart_test line.link k e)

-- ---- the loop

-- what passed over a link
abbrev pub Passed : List Done → ℕ → Told → Told → Type 0
Passed xs k old new = Appends old.written new.written (frames_on k (posts_by no_values xs)) × Consumes old.left new.left (got_by xs k)

pub record IsRunning {L : Type 0} (told : L → Told) (lines rest : List Line) (old now : List L) (out_old out_now : Option (List ℕ)) (values : Values) : Type 0 where
  pub done : List Done
  pub split : lines ≡ lines_in done ++ rest
  pub each : AreDone done
  pub values_are : values ≡ values_by no_values done
  pub links : EachLink told (Passed done) old now
  pub printed : Appends out_old out_now (said_by done)

pub running_start : {L : Type 0} (told : L → Told) (lines : List Line) (old : List L) (out : Option (List ℕ)) (values : Values) → values ≡ no_values → IsRunning told lines lines old old out out values
running_start told lines old out values is = record {
  done = [];
  split = refl;
  each = tt;
  values_are = is;
  links = λ k d lt. (Appends-nil (told (get_or old k d)).written, Consumes-nil (told (get_or old k d)).left);
  printed = Appends-nil out;
}

frames_more : (k : ℕ) (xs : List Done) (x : Done)
    → frames_on k (posts_by no_values (xs ++ x ∷ [])) ≡ frames_on k (posts_by no_values xs) ++ frames_on k (posted (values_by no_values xs) x.line ∷ [])
frames_more k xs x = ap (frames_on k) (posts_more no_values xs x) ∙ frames_append k (posts_by no_values xs) (posted (values_by no_values xs) x.line ∷ [])

sent_split : (k : ℕ) (xs : List Done) (rest : List Line)
    → sent (lines_in xs ++ rest) (answers_in xs) k ≡ frames_on k (posts_by no_values xs) ++ frames_on k (next_post (values_by no_values xs) rest)
sent_split k xs rest = ap (frames_on k) (posts_split no_values xs rest) ∙ frames_append k (posts_by no_values xs) (next_post (values_by no_values xs) rest)

module _ (xs : List Done) (line : Line) (k : ℕ) (o m n : Told) (passed : Passed xs k o m) where
  abbrev before : List ℕ
  before = frames_on k (posts_by no_values xs)

  abbrev own : List ℕ
  own = frame (sent_payload (values_by no_values xs) line.act)

  own_next : line.link ≡ k → frames_on k (posted (values_by no_values xs) line ∷ []) ≡ own
  own_next e = frames_one k (posted (values_by no_values xs) line) e

  other_next : (line.link ≡ k → ⊥) → frames_on k (posted (values_by no_values xs) line ∷ []) ≡ []
  other_next e = frames_none k (posted (values_by no_values xs) line) e

  passed_own : (answer : Answer) → line.link ≡ k → Appends m.written n.written own → Consumes m.left n.left (frame (answer_payload answer)) → Passed (xs ++ done_of line answer ∷ []) k o n
  passed_own answer e given taken = (
    subst (λ (t : List ℕ). Appends o.written n.written t) (sym (frames_more k xs (done_of line answer) ∙ ap (λ (t : List ℕ). before ++ t) (own_next e)))
        (Appends-trans o.written m.written n.written before own passed.0 given),
    subst (λ (t : List ℕ). Consumes o.left n.left t) (sym (got_more xs (done_of line answer) k ∙ ap (λ (t : List ℕ). got_by xs k ++ t) (got_own line answer k e)))
        (Consumes-trans o.left m.left n.left (got_by xs k) (frame (answer_payload answer)) passed.1 taken),
  )

  passed_other : (answer : Answer) → (line.link ≡ k → ⊥) → Passed (xs ++ done_of line answer ∷ []) k o m
  passed_other answer e = (
    subst (λ (t : List ℕ). Appends o.written m.written t)
        (sym (frames_more k xs (done_of line answer) ∙ ap (λ (t : List ℕ). before ++ t) (other_next e) ∙ append-nil before)) passed.0,
    subst (λ (t : List ℕ). Consumes o.left m.left t)
        (sym (got_more xs (done_of line answer) k ∙ ap (λ (t : List ℕ). got_by xs k ++ t) (got_other line answer k e) ∙ append-nil (got_by xs k))) passed.1,
  )

  module _ (rest : List Line) where
    abbrev all : List Line
    all = lines_in xs ++ (line ∷ rest)

    sent_own : line.link ≡ k → sent all (answers_in xs) k ≡ before ++ own
    sent_own e = sent_split k xs (line ∷ rest) ∙ ap (λ (t : List ℕ). before ++ t) (own_next e)

    sent_other : (line.link ≡ k → ⊥) → sent all (answers_in xs) k ≡ before
    sent_other e = sent_split k xs (line ∷ rest) ∙ ap (λ (t : List ℕ). before ++ t) (other_next e) ∙ append-nil before

    got_all : got all (answers_in xs) k ≡ got_by xs k
    got_all = got_split xs (line ∷ rest) k

    got_part : (part : List ℕ) (left : Option (List ℕ)) → Consumes o.left left (got_by xs k ++ part) → Consumes o.left left (got all (answers_in xs) k ++ part)
    got_part part left taken = subst (λ (t : List ℕ). Consumes o.left left (t ++ part)) (sym got_all) taken

    got_nothing : Consumes o.left m.left (got all (answers_in xs) k ++ [])
    got_nothing = got_part [] m.left (subst (λ (t : List ℕ). Consumes o.left m.left t) (sym (append-nil (got_by xs k))) passed.1)

    front_own : line.link ≡ k → AppendsFront m.written n.written own → ((part : List ℕ) × IsNoFrame part × Consumes m.left n.left part) → IsFront all (answers_in xs) k o n
    front_own e front (part, none, taken) = (
      subst (λ (t : List ℕ). AppendsFront o.written n.written t) (sym (sent_own e)) (then_front o.written m.written n.written before own passed.0 front),
      (part, none, got_part part n.left (Consumes-trans o.left m.left n.left (got_by xs k) part passed.1 taken)),
    )

    whole_other : (line.link ≡ k → ⊥) → IsWhole all (answers_in xs) k o m
    whole_other e = (
      subst (λ (t : List ℕ). Appends o.written m.written t) (sym (sent_other e)) passed.0,
      subst (λ (t : List ℕ). Consumes o.left m.left t) (sym got_all) passed.1,
    )

    refused_own : line.link ≡ k → Appends m.written n.written own → ((taken : List ℕ) × IsNoReply line.act n.left taken × Consumes m.left n.left taken) → IsRefused line all (answers_in xs) k o n
    refused_own e given (taken, bad, read) = (
      subst (λ (t : List ℕ). Appends o.written n.written t) (sym (sent_own e)) (Appends-trans o.written m.written n.written before own passed.0 given),
      (taken, inr (e, bad), got_part taken n.left (Consumes-trans o.left m.left n.left (got_by xs k) taken passed.1 read)),
    )

    refused_other : (line.link ≡ k → ⊥) → IsRefused line all (answers_in xs) k o m
    refused_other e = (
      subst (λ (t : List ℕ). Appends o.written m.written t) (sym (sent_other e)) passed.0,
      ([], inl (e, refl), got_nothing),
    )

passed_whole : (xs : List Done) (k : ℕ) (o n : Told) → Passed xs k o n → IsWhole (lines_in xs ++ []) (answers_in xs) k o n
passed_whole xs k o n passed = (
  subst (λ (t : List ℕ). Appends o.written n.written t) (sym (sent_split k xs [] ∙ append-nil (frames_on k (posts_by no_values xs)))) passed.0,
  subst (λ (t : List ℕ). Consumes o.left n.left t) (sym (got_split xs [] k)) passed.1,
)

answered_split : (xs : List Done) (rest : List Line) → lines_in xs ++ [] ≡ answered (lines_in xs ++ rest) (answers_in xs)
answered_split xs rest =
    append-nil (lines_in xs)
    ∙ sym (take_at (lines_in xs) rest (length (answers_in xs)) (sym (length_split xs ∙ ap length (append-nil (lines_in xs)))))

-- what passed so far is all of the lines that were answered, whatever follows
passed_answered : (xs : List Done) (rest : List Line) (k : ℕ) (o n : Told) → Passed xs k o n
    → IsWhole (answered (lines_in xs ++ rest) (answers_in xs)) (answers_in xs) k o n
passed_answered xs rest k o n passed =
    subst (λ (ls : List Line). IsWhole ls (answers_in xs) k o n) (answered_split xs rest) (passed_whole xs k o n passed)

-- ---- the exits

pub running_done : {L : Type 0} (told : L → Told) (lines : List Line) (old now : List L) (out_old out_now : Option (List ℕ)) (values : Values)
    → IsRunning told lines [] old now out_old out_now values → RunsWhole told lines old now out_old out_now
running_done told lines old now out_old out_now values r =
    subst (λ (ls : List Line). RunsWhole told ls old now out_old out_now) (sym r.split)
    (record {
      answers = answers_in r.done;
      each = answers_split r.done [] r.each;
      all = length_split r.done;
      links = λ k d lt. passed_whole r.done k (told (get_or old k d)) (told (get_or now k d)) (r.links k d lt);
      printed = subst (λ (t : List ℕ). Appends out_old out_now t) (sym (said_split r.done [])) r.printed;
    })

module _ {L : Type 0} (told : L → Told) (lines rest : List Line) (line : Line) (old now new : List L) (x0 x1 x2 : Option (List ℕ)) (values next : Values)
    (r : IsRunning told lines (line ∷ rest) old now x0 x1 values)
    (some : L) (within : line.link < length now) (size : length new ≡ length now)
    (others : (k : ℕ) (d : L) → (line.link ≡ k → ⊥) → get_or new k d ≡ get_or now k d) where
  abbrev was : Told
  was = told (get_or now line.link some)

  abbrev is_now : Told
  is_now = told (get_or new line.link some)

  -- P of each link from Q of it so far: of that of the line, and of the others
  each_by : (Q P : ℕ → Told → Told → Type 0) → EachLink told Q old now
      → ((o : Told) → Q line.link o was → P line.link o is_now)
      → ((k : ℕ) (o m : Told) → (line.link ≡ k → ⊥) → Q k o m → P k o m) → EachLink told P old new
  each_by Q P so_far own other k d lt = elim (ℕ_discrete line.link k) [ yes e ↦ at_line e | no e ↦ elsewhere e ]
    where
      at_line : line.link ≡ k → P k (told (get_or old k d)) (told (get_or new k d))
      at_line e =
          let here : k < length now = omega (arith, e, within) in
          let there : k < length new = omega (arith, e, within, size) in
          let a : told (get_or now k d) ≡ was = ap told (get_or_default now k d some here ∙ ap (λ (i : ℕ). get_or now i some) (sym e)) in
          let b : is_now ≡ told (get_or new k d) = ap told (ap (λ (i : ℕ). get_or new i some) e ∙ get_or_default new k some d there) in
          let p : Q line.link (told (get_or old k d)) was =
          subst (λ (m : Told). Q line.link (told (get_or old k d)) m) a (subst (λ (i : ℕ). Q i (told (get_or old k d)) (told (get_or now k d))) (sym e) (so_far k d lt)) in
          subst (λ (n : Told). P k (told (get_or old k d)) n) b (subst (λ (i : ℕ). P i (told (get_or old k d)) is_now) e (own (told (get_or old k d)) p))

      elsewhere : (line.link ≡ k → ⊥) → P k (told (get_or old k d)) (told (get_or new k d))
      elsewhere e =
          subst (λ (n : Told). P k (told (get_or old k d)) n) (ap told (sym (others k d e))) (other k (told (get_or old k d)) (told (get_or now k d)) e (so_far k d lt))

  each_other : (P : ℕ → Told → Told → Type 0)
      → ((o : Told) → Passed r.done line.link o was → P line.link o is_now)
      → ((k : ℕ) (o m : Told) → (line.link ≡ k → ⊥) → Passed r.done k o m → P k o m) → EachLink told P old new
  each_other P own other = each_by (Passed r.done) P r.links own other

  -- the line was answered
  module _ (answer : Answer) (is : IsAnswerTo (asked_of line.act) answer) (after_it : next ≡ after values line.act answer)
      (given : Appends was.written is_now.written (frame (sent_payload values line.act))) (taken : Consumes was.left is_now.left (frame (answer_payload answer))) where
    links_more : EachLink told (Passed (r.done ++ done_of line answer ∷ [])) old new
    links_more =
        each_other (Passed (r.done ++ done_of line answer ∷ []))
        (λ o p. passed_own r.done line line.link o was is_now p answer refl (subst (λ (v : Values). Appends was.written is_now.written (frame (sent_payload v line.act))) r.values_are given) taken)
        (λ k o m e p. passed_other r.done line k o m m p answer e)

    split_more : lines ≡ lines_in (r.done ++ done_of line answer ∷ []) ++ rest
    split_more = r.split ∙ sym (lines_more r.done (done_of line answer) rest)

    running_more : Appends x1 x2 (said_of line answer) → IsRunning told lines rest old new x0 x2 next
    running_more printed = record {
      done = r.done ++ done_of line answer ∷ [];
      split = split_more;
      each = done_more r.done (done_of line answer) r.each is;
      values_are = after_it ∙ ap (λ (v : Values). after v line.act answer) r.values_are ∙ sym (values_more no_values r.done (done_of line answer));
      links = links_more;
      printed =
          subst (λ (t : List ℕ). Appends x0 x2 t) (sym (said_more r.done (done_of line answer))) (Appends-trans x0 x1 x2 (said_by r.done) (said_of line answer) r.printed printed);
    }

    running_unprinted : AppendsFront x1 x2 (said_of line answer) → StopsPrinting told lines old new x0 x2
    running_unprinted printed =
        let xs = r.done ++ done_of line answer ∷ [] in
        subst (λ (ls : List Line). StopsPrinting told ls old new x0 x2) (sym split_more)
        (record {
          answers = answers_in xs;
          each = answers_split xs rest (done_more r.done (done_of line answer) r.each is);
          links = λ k d lt. passed_answered xs rest k (told (get_or old k d)) (told (get_or new k d)) (links_more k d lt);
          printed =
              subst (λ (t : List ℕ). AppendsFront x0 x2 t) (sym (said_split xs rest ∙ said_more r.done (done_of line answer)))
              (then_front x0 x1 x2 (said_by r.done) (said_of line answer) r.printed printed);
        })

  said_so_far : x2 ≡ x1 → Appends x0 x2 (said (lines_in r.done ++ (line ∷ rest)) (answers_in r.done))
  said_so_far same =
      subst (λ (t : List ℕ). Appends x0 x2 t) (sym (said_split r.done (line ∷ rest))) (subst (λ (x : Option (List ℕ)). Appends x0 x (said_by r.done)) (sym same) r.printed)

  since_then : (o : Told) → KeepsCounts o was → LinkFailed was is_now → LinkFailed o is_now
  since_then o kept (inl reads) = inl (subst (λ (n : ℕ). Rose n is_now.read_faults) kept.0 reads)
  since_then o kept (inr writes) = inr (subst (λ (n : ℕ). Rose n is_now.write_faults) kept.1 writes)

  -- the line's link alone failed
  failed_alone : LinksKept told old now → LinkFailed was is_now → EachLink told (IsFailed line) old new
  failed_alone kept failed =
      each_by (λ k o m. KeepsCounts o m) (IsFailed line) kept
      (λ o same. inr (refl, since_then o same failed))
      (λ k o m e same. inl (e, same))

  pub running_cut_off : length now ≡ length old → LinksKept told old now → LinkFailed was is_now → IsCutOff line.act values was is_now → x2 ≡ x1
      → StopsAtLink told lines old new x0 x2 line.number
  running_cut_off whole kept failed (front, read) same =
      subst (λ (ls : List Line). StopsAtLink told ls old new x0 x2 line.number) (sym r.split)
      (record {
        answers = answers_in r.done;
        line = line;
        each = answers_split r.done (line ∷ rest) r.each;
        next = next_split r.done line rest;
        is = refl;
        within = omega arith;
        links =
            each_other (IsCut line (lines_in r.done ++ (line ∷ rest)) (answers_in r.done))
            (λ o p. inr (refl, front_own r.done line line.link o was is_now p rest refl (subst (λ (v : Values). AppendsFront was.written is_now.written (frame (sent_payload v line.act))) r.values_are front) read))
            (λ k o m e p. inl (e, whole_other r.done line k o m m p rest e));
        failed = failed_alone kept failed;
        printed = said_so_far same;
      })

  pub running_refused : length now ≡ length old → IsUnanswered line.act values was is_now → x2 ≡ x1 → StopsAtReply told lines old new x0 x2 line.number
  running_refused whole (given, read) same =
      subst (λ (ls : List Line). StopsAtReply told ls old new x0 x2 line.number) (sym r.split)
      (record {
        answers = answers_in r.done;
        line = line;
        each = answers_split r.done (line ∷ rest) r.each;
        next = next_split r.done line rest;
        is = refl;
        within = omega arith;
        links =
            each_other (IsRefused line (lines_in r.done ++ (line ∷ rest)) (answers_in r.done))
            (λ o p. refused_own r.done line line.link o was is_now p rest refl (subst (λ (v : Values). Appends was.written is_now.written (frame (sent_payload v line.act))) r.values_are given) read)
            (λ k o m e p. refused_other r.done line k o m m p rest e);
        printed = said_so_far same;
      })

  pub running_on : Exchanges line Appends values next was is_now x1 x2 → IsRunning told lines rest old new x0 x2 next
  running_on x = running_more x.answer x.is x.values x.sent x.taken x.printed

  pub running_output : Exchanges line AppendsFront values next was is_now x1 x2 → StopsPrinting told lines old new x0 x2
  running_output x = running_unprinted x.answer x.is x.values x.sent x.taken x.printed

-- an element of a list that isn't empty
pub some_of : {L : Type 0} (xs : List L) (k : ℕ) → k < length xs → L
some_of [] k lt = absurd (omega arith)
some_of (x ∷ xs) k lt = x

-- the line at a place, and those behind it
pub running_at : {L : Type 0} (told : L → Told) (all : List Line) (lines : List code_line.Line) (at : ℕ) (d : code_line.Line) (old now : List L) (x0 x1 : Option (List ℕ)) (values : Values) → at < length lines
    → IsRunning told all (lines_are (drop at lines)) old now x0 x1 values → IsRunning told all (line_of (get_or lines at d) ∷ lines_are (drop (at + 1) lines)) old now x0 x1 values
running_at told all lines at d old now x0 x1 values lt r =
    subst (λ (rest : List Line). IsRunning told all rest old now x0 x1 values) (ap lines_are (drop_step lines at d lt)) r

module _ {L : Type 0} (told : L → Told) (lines rest : List Line) (line : Line) (old now new : List L) (x0 x1 x2 : Option (List ℕ)) (values next : Values)
    (r : IsRunning told lines (line ∷ rest) old now x0 x1 values)
    (within : line.link < length now) (size : length new ≡ length now)
    (others : (k : ℕ) (d : L) → (line.link ≡ k → ⊥) → get_or new k d ≡ get_or now k d) where
  pub next_running : ((d : L) → Exchanges line Appends values next (told (get_or now line.link d)) (told (get_or new line.link d)) x1 x2) → IsRunning told lines rest old new x0 x2 next
  next_running f = let d = some_of now line.link within in running_on told lines rest line old now new x0 x1 x2 values next r d within size others (f d)

  pub running_stops : length now ≡ length old → LinksKept told old now → (f1 f2 : ℕ) (cause : Cause)
      → ((d : L) → CausedBy cause (told (get_or now line.link d)) (told (get_or new line.link d)) f1 f2) → ((d : L) → Fails cause line values next (told (get_or now line.link d)) (told (get_or new line.link d)) x1 x2)
      → Stops told lines old new x0 x2 cause line.number
  running_stops whole kept f1 f2 Link c f =
      let d = some_of now line.link within in running_cut_off told lines rest line old now new x0 x1 x2 values next r d within size others whole kept (c d).0 (f d).0 (f d).1
  running_stops whole kept f1 f2 Reply c f =
      let d = some_of now line.link within in running_refused told lines rest line old now new x0 x1 x2 values next r d within size others whole (f d).0 (f d).1
  running_stops whole kept f1 f2 Output c f =
      let d = some_of now line.link within in running_output told lines rest line old now new x0 x1 x2 values next r d within size others (f d)

-- ---- counts

module _ {L : Type 0} (told : L → Told) (old now new : List L) (link : ℕ) (kept : LinksKept told old now)
    (within : link < length now) (size : length now ≡ length old)
    (others : (k : ℕ) (d : L) → (link ≡ k → ⊥) → get_or new k d ≡ get_or now k d) where
  pub kept_more : ((d : L) → KeepsCounts (told (get_or now link d)) (told (get_or new link d))) → LinksKept told old new
  kept_more same k d lt = elim (ℕ_discrete link k) [ yes e ↦ at_link e | no e ↦ elsewhere e ]
    where
      at_link : link ≡ k → KeepsCounts (told (get_or old k d)) (told (get_or new k d))
      at_link e =
          let s : KeepsCounts (told (get_or now k d)) (told (get_or new k d)) = subst (λ (i : ℕ). KeepsCounts (told (get_or now i d)) (told (get_or new i d))) e (same d) in
          (s.0 ∙ (kept k d lt).0, s.1 ∙ (kept k d lt).1)

      elsewhere : (link ≡ k → ⊥) → KeepsCounts (told (get_or old k d)) (told (get_or new k d))
      elsewhere e = subst (λ (n : Told). KeepsCounts (told (get_or old k d)) n) (ap told (sym (others k d e))) (kept k d lt)

  failed_since : ((d : L) → LinkFailed (told (get_or now link d)) (told (get_or new link d))) → SomeLinkFailed told old new
  failed_since fails =
      let d = some_of now link within in
      let lt : link < length old = omega (arith, within, size) in
      let same = kept link d lt in (
        link,
        d,
        lt,
        elim (fails d) [
          | inl reads ↦ inl (subst (λ (n : ℕ). Rose n (told (get_or new link d)).read_faults) same.0 reads)
          | inr writes ↦ inr (subst (λ (n : ℕ). Rose n (told (get_or new link d)).write_faults) same.1 writes)
        ],
      )

  pub stopped_by : (f0 f1 f2 : ℕ) (cause : Cause) → f1 ≡ f0 → ((d : L) → CausedBy cause (told (get_or now link d)) (told (get_or new link d)) f1 f2) → RunCausedBy told cause old new f0 f2
  stopped_by f0 f1 f2 Link same caused = let d = some_of now link within in (failed_since (λ e. (caused e).0), (caused d).1 ∙ same)
  stopped_by f0 f1 f2 Reply same caused = let d = some_of now link within in (kept_more (λ e. (caused e).0), (caused d).1 ∙ same)
  stopped_by f0 f1 f2 Output same caused = let d = some_of now link within in (kept_more (λ e. (caused e).0), subst (λ (n : ℕ). Rose n f2) same (caused d).1)

-- what the loop keeps
pub record IsGoing {L : Type 0} (told : L → Told) (all rest : List Line) (old now : List L) (x0 x1 : Option (List ℕ)) (f0 f1 : ℕ) (before values : code_values.Values) : Type 0 where
  pub running : IsRunning told all rest old now x0 x1 (values_of values)
  pub kept : LinksKept told old now
  pub out : f1 ≡ f0
  pub ready : IsReady values
  pub names : values.names ≡ before.names
  pub size : length now ≡ length old
