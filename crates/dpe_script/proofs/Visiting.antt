-- Links that were opened, had lines run on them, and were handed back.
use Rattle.std.proofs.Common.{◌≡◌, ℕ, ◌+◌, List, [], ◌++◌, length, take, drop, get_or, append-nil, Option, Result, Ok, Err, inr, sym, ap, subst, ◌∙◌, arith}
use Rattle.std.specs.Prelude.{OnOk, IfErr}
use Rattle.std.proofs.lemmas.List.{take_at}
use Rattle.std.proofs.Math.Seq.{take-length}
use Rattle.dpe_io.specs.Told.{Kind}
use Rattle.dpe_script.specs.Script.{Line}
use Rattle.dpe_script.specs.Meaning.{said}
use Rattle.dpe_io.specs.Told.{Told}
use Rattle.dpe_script.specs.Run.{AppendsFront, IsWhole, RunsWhole, StopsAtLink, StopsAtReply, StopsPrinting, Stops, HasRunCause, RunCausedBy}
use Rattle.dpe_script.specs.Client.{AllOpen, AllReturn, OpensFront, OnLinks, KindFailed, LinesEnd, LinesStop, HasLinesCause, LinesCausedBy, RunsOnLinks, FailsPrinting, in_answers}
use Rattle.dpe_script.specs.declared.run.Cause.{Cause}
use Rattle.dpe_script.specs.declared.run.Cause.TheVariants.{Link, Reply, Output}
use Rattle.dpe_script.specs.declared.run.LineFault.{LineFault}
use Rattle.dpe_text.proofs.Fronts.{then_front}
use Rattle.dpe_script.proofs.Opening.{AreFaultless, open_out, return_out, visit_kept, visit_failed, visit_unopened, visit_out}

-- the elements of a list that was lent as a whole
pub lent_whole : {L : Type 0} (n : ℕ) (now old : List L) → length now ≡ n → take n (now ++ drop (length now) old) ≡ now
lent_whole n now old size = take_at now (drop (length now) old) n size

module _ {L : Type 0} (told : L → Told) (count : ℕ) (lines : List Line) (old mid new : Kind L) (opened lent now closed : List L) (x0 x1 : Option (List ℕ)) (f0 f1 : ℕ)
    (all_open : AllOpen old opened mid) (all : length opened ≡ count) (none : AreFaultless told opened) (is : lent ≡ opened) (size : length now ≡ length lent)
    (same : closed ≡ now) (all_back : AllReturn told 0 mid closed new) where
  open_lent : AllOpen old lent mid
  open_lent = subst (λ (l : List L). AllOpen old l mid) (sym is) all_open

  none_lent : AreFaultless told lent
  none_lent = subst (λ (l : List L). AreFaultless told l) (sym is) none

  back_now : AllReturn told 0 mid now new
  back_now = subst (λ (l : List L). AllReturn told 0 mid l new) same all_back

  pub visited_out : new.out ≡ old.out
  visited_out = visit_out told old mid new lent now open_lent back_now size

  on_links : (P : List L → List L → Type 0) → P lent now → OnLinks told count old new P
  on_links P h = record {
    opened = lent;
    closed = now;
    mid = mid;
    opens = open_lent;
    returns = back_now;
    all = ap length is ∙ all;
    back = size;
    holds = h;
  }

  stopped : (cause : Cause) (number : ℕ) → Stops told lines lent now x0 x1 cause number → LinesStop told count lines old new x0 x1 cause number
  stopped Link number s = inr (on_links (λ o c. StopsAtLink told lines o c x0 x1 number) s)
  stopped Reply number s = on_links (λ o c. StopsAtReply told lines o c x0 x1 number) s
  stopped Output number s = on_links (λ o c. StopsPrinting told lines o c x0 x1) s

  caused : (cause : Cause) → RunCausedBy told cause lent now f0 f1 → LinesCausedBy cause old new f0 f1
  caused Link c = (visit_failed told old mid new lent now open_lent back_now size none_lent c.0, c.1)
  caused Reply c = (visit_kept told old mid new lent now open_lent back_now size none_lent c.0, c.1)
  caused Output c = (visit_kept told old mid new lent now open_lent back_now size none_lent c.0, c.1)

  pub visited_ends : {U : Type 0} (r : Result U LineFault) → OnOk r (RunsWhole told lines lent now x0 x1) → IfErr r (λ fault. Stops told lines lent now x0 x1 fault.cause fault.line)
      → LinesEnd told count lines old new x0 x1 r
  visited_ends (Ok u) whole stops = on_links (λ o c. RunsWhole told lines o c x0 x1) whole
  visited_ends (Err fault) whole stops = stopped fault.cause fault.line stops

  pub visited_caused : {U : Type 0} (r : Result U LineFault) → HasRunCause told r lent now f0 f1 → HasLinesCause r old new f0 f1
  visited_caused (Ok u) c = (visit_kept told old mid new lent now open_lent back_now size none_lent c.0, c.1)
  visited_caused (Err fault) c = caused fault.cause c

-- an opening failed behind links that were opened
module _ {L : Type 0} (told : L → Told) (count : ℕ) (old mid new : Kind L) (opened : List L) (front : OpensFront count old opened mid) where
  pub front_out : mid.out ≡ old.out + length opened
  front_out = ap (λ k. k.out) front.fails.others ∙ open_out old front.mid opened front.opens

  pub front_back : AllReturn told 0 mid opened new → new.out ≡ old.out
  front_back back = let r = return_out told 0 mid new opened back in let f = front_out in omega arith

  pub unopened_failed : AllReturn told 0 mid opened new → KindFailed old new
  unopened_failed back = visit_unopened told old front.mid mid new opened front.opens front.fails back

-- all was printed, but not sent on
whole_unsent : {L : Type 0} (told : L → Told) (lines : List Line) (opened closed : List L) (x0 x1 x2 : Option (List ℕ)) → RunsWhole told lines opened closed x0 x1 → AppendsFront x1 x2 []
    → StopsPrinting told lines opened closed x0 x2
whole_unsent told lines opened closed x0 x1 x2 w front = record {
  answers = w.answers;
  each = w.each;
  links = λ k d lt.
      subst (λ (ls : List Line). IsWhole ls w.answers k (told (get_or opened k d)) (told (get_or closed k d)))
      (sym (ap (λ (n : ℕ). take n lines) w.all ∙ take-length lines)) (w.links k d lt);
  printed = subst (λ (t : List ℕ). AppendsFront x0 x2 t) (append-nil (said lines w.answers)) (then_front x0 x1 x2 (said lines w.answers) [] w.printed front);
}

pub links_unsent : {L : Type 0} (told : L → Told) (count : ℕ) (lines : List Line) (old new : Kind L) (x0 x1 x2 : Option (List ℕ)) → RunsOnLinks told count lines old new x0 x1 → AppendsFront x1 x2 []
    → FailsPrinting told count lines old new x0 x2
links_unsent told count lines old new x0 x1 x2 o front = in_answers (record {
  opened = o.opened;
  closed = o.closed;
  mid = o.mid;
  opens = o.opens;
  returns = o.returns;
  all = o.all;
  back = o.back;
  holds = whole_unsent told lines o.opened o.closed x0 x1 x2 o.holds front;
})
