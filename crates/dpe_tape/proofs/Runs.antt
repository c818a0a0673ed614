-- What the loop over the items keeps, and how it ends.
use Rattle.std.proofs.Common.{◌≡◌, ℕ, ◌+◌, ◌<◌, ◌≤◌, List, [], ◌∷◌, ◌++◌, length, Option, refl, sym, ap, subst, ◌∙◌, append_assoc, append-nil, arith}
use Rattle.std.specs.Io.KnownBytes.{Consumes, Appends, Keeps, IsAtEnd}
use Rattle.std.proofs.KnownBytes.{Consumes-nil, Consumes-trans, Appends-nil, Appends-trans, Appends-kept}
use Rattle.dpe_io.specs.Causes.{Rose}
use Rattle.std.proofs.lemmas.List.{length-append}
use Rattle.dpe_model.specs.State.{Machine}
use Rattle.dpe_link.specs.Frames.{frame}
use Rattle.dpe_tape.specs.Tape.{Item, IsItem, AreItems, IsTape, item_bytes, tape_bytes, item_limit, BeginsNoItem}
use Rattle.dpe_tape.specs.Answers.{step_of, answers, after}
use Rattle.dpe_tape.specs.Reading.{AppendsFront, LeavesNoItem, ReadsEnd}
use Rattle.dpe_tape.specs.declared.tape.Taken.{Taken}
use Rattle.dpe_tape.specs.declared.tape.Taken.TheVariants.{Whole, End, NoItem, Fault}
use Rattle.dpe_tape.specs.declared.run.End.TheVariants as Ends
use Rattle.dpe_tape.specs.declared.run.End as ends
use Rattle.dpe_tape.specs.Run.{AnswersTape, CutShort, Unsent, Malformed, Overlong, Ended}
use Rattle.dpe_tape.proofs.Answered.{answers_more, after_more, tape_more, items_more}
use Rattle.dpe_tape.proofs.Items.{too_short}

-- an appended text, and then a front of another, are a front of both
then_front : (a b d : Option (List ℕ)) (first second : List ℕ) → Appends a b first → AppendsFront b d second → AppendsFront a d (first ++ second)
then_front a b d first second all (front, rest, is, given) =
    (first ++ front, rest, ap (λ (t : List ℕ). first ++ t) is ∙ sym (append_assoc first front rest), Appends-trans a b d first front all given)

-- so many items were read and answered, and no call failed
pub record IsRunning (M : Machine) (left_old left_now got_old got_now : Option (List ℕ)) (now : Machine) (count : ℕ) : Type 0 where
  pub items : List Item
  pub each : AreItems items
  pub many : length items ≡ count
  pub read : Consumes left_old left_now (tape_bytes items)
  pub written : Appends got_old got_now (answers M items)
  pub machine : now ≡ after M items

module _ (M : Machine) (a b x y : Option (List ℕ)) (now : Machine) (count : ℕ) (r : IsRunning M a b x y now count) where
  private_tape : count ≤ item_limit → IsTape r.items
  private_tape few = record { each = r.each; few = omega (arith, few, r.many) }

  pub running_more : (b' y' : Option (List ℕ)) (then : Machine) (item : Item) → IsItem item → Consumes b b' (item_bytes item) → Appends y y' (frame (step_of now item).reply) → then ≡ (step_of now item).machine
      → IsRunning M a b' x y' then (count + 1)
  running_more b' y' then item is read written machine =
      let reply : Appends y y' (frame (step_of (after M r.items) item).reply) = subst (λ (m : Machine). Appends y y' (frame (step_of m item).reply)) r.machine written in
      record {
        items = r.items ++ item ∷ [];
        each = items_more r.items item r.each is;
        many = omega (arith, r.many, length-append r.items (item ∷ []));
        read = subst (λ (t : List ℕ). Consumes a b' t) (sym (tape_more r.items item)) (Consumes-trans a b b' (tape_bytes r.items) (item_bytes item) r.read read);
        written = subst (λ (t : List ℕ). Appends x y' t) (sym (answers_more M r.items item)) (Appends-trans x y y' (answers M r.items) (frame (step_of (after M r.items) item).reply) r.written reply);
        machine = machine ∙ ap (λ (m : Machine). (step_of m item).machine) r.machine ∙ sym (after_more M r.items item);
      }

  pub running_done : (b' : Option (List ℕ)) → count ≤ item_limit → Consumes b b' [] → IsAtEnd b' → AnswersTape (answers M) a b' x y
  running_done b' few read end = record {
    items = r.items;
    tape = private_tape few;
    read = subst (λ (t : List ℕ). Consumes a b' t) (append-nil (tape_bytes r.items)) (Consumes-trans a b b' (tape_bytes r.items) [] r.read read);
    at_end = end;
    written = r.written;
  }

  pub running_cut : (b' : Option (List ℕ)) (part : List ℕ) → count ≤ item_limit → Consumes b b' part → BeginsNoItem part → CutShort (answers M) a b' x y
  running_cut b' part few read cut = record {
    items = r.items;
    part = part;
    tape = private_tape few;
    read = Consumes-trans a b b' (tape_bytes r.items) part r.read read;
    cut = cut;
    written = r.written;
  }

  pub running_malformed : (b' : Option (List ℕ)) (part : List ℕ) → count < item_limit → Consumes b b' part → 0 < length part → LeavesNoItem b' part → Malformed (answers M) a b' x y
  running_malformed b' part few read some fault = record {
    items = r.items;
    part = part;
    each = r.each;
    few = omega (arith, few, r.many);
    read = Consumes-trans a b b' (tape_bytes r.items) part r.read read;
    some = some;
    fault = fault;
    written = r.written;
  }

  pub running_overlong : (b' : Option (List ℕ)) (part : List ℕ) → count ≡ item_limit → Consumes b b' part → 0 < length part → Overlong (answers M) a b' x y
  running_overlong b' part all read some = record {
    items = r.items;
    part = part;
    each = r.each;
    all = r.many ∙ all;
    read = Consumes-trans a b b' (tape_bytes r.items) part r.read read;
    some = some;
    written = r.written;
  }

  pub running_unsent : (b' y' : Option (List ℕ)) (item : Item) → count < item_limit → IsItem item → Consumes b b' (item_bytes item) → AppendsFront y y' (frame (step_of now item).reply) → Unsent (answers M) a b' x y'
  running_unsent b' y' item few is read front =
      let reply : AppendsFront y y' (frame (step_of (after M r.items) item).reply) = subst (λ (m : Machine). AppendsFront y y' (frame (step_of m item).reply)) r.machine front in
      record {
        items = r.items ++ item ∷ [];
        part = [];
        tape = record { each = items_more r.items item r.each is; few = omega (arith, few, r.many, length-append r.items (item ∷ [])) };
        read = subst (λ (t : List ℕ). Consumes a b' t) (sym (append-nil (tape_bytes (r.items ++ item ∷ [])) ∙ tape_more r.items item)) (Consumes-trans a b b' (tape_bytes r.items) (item_bytes item) r.read read);
        written = subst (λ (t : List ℕ). AppendsFront x y' t) (sym (answers_more M r.items item))
            (then_front x y y' (answers M r.items) (frame (step_of (after M r.items) item).reply) r.written reply);
      }

-- nothing was taken of a room for one byte
pub nothing_taken : (part : List ℕ) → length part < 1 → BeginsNoItem part
nothing_taken part none = too_short part (omega arith)

pub running_start : (M : Machine) (a x : Option (List ℕ)) → IsRunning M a a x x M 0
running_start M a x = record { items = []; each = tt; many = refl; read = Consumes-nil a; written = Appends-nil x; machine = refl }

-- the count rose since the run began
pub fault_since : (before mid now : ℕ) → mid ≡ before → Rose mid now → Rose before now
fault_since before mid now same rose = subst (λ (n : ℕ). Rose n now) same rose

-- what is left, where nothing stands behind the last item and the source didn't fail
pub read_to_end : (a b : Option (List ℕ)) (taken : Taken) → ReadsEnd a b taken → (taken ≡ NoItem → ⊥) → (taken ≡ Fault → ⊥) → Consumes a b [] × IsAtEnd b
read_to_end a b Whole read more fault = absurd read
read_to_end a b End read more fault = read
read_to_end a b NoItem read more fault = absurd (more refl)
read_to_end a b Fault read more fault = absurd (fault refl)

-- ---- after the last flush

AppendsFront-kept : (x y z : Option (List ℕ)) (text : List ℕ) → AppendsFront x y text → Keeps y z → AppendsFront x z text
AppendsFront-kept x y z text (front, rest, is, given) kept = (front, rest, is, Appends-kept x y z front given kept)

-- a text that was appended is a front of itself
whole_front : (x y : Option (List ℕ)) (text : List ℕ) → Appends x y text → AppendsFront x y text
whole_front x y text given = (text, [], sym (append-nil text), given)

pub ended_kept : (end : ends.End) (replies : List Item → List ℕ) (a b x y z : Option (List ℕ)) → Ended end replies a b x y → Keeps y z → Ended end replies a b x z
ended_kept Ends.Done replies a b x y z e kept =
    record { items = e.items; tape = e.tape; read = e.read; at_end = e.at_end; written = Appends-kept x y z (replies e.items) e.written kept }
ended_kept Ends.SourceFault replies a b x y z e kept =
    record { items = e.items; part = e.part; tape = e.tape; read = e.read; cut = e.cut; written = Appends-kept x y z (replies e.items) e.written kept }
ended_kept Ends.SinkFault replies a b x y z e kept =
    record { items = e.items; part = e.part; tape = e.tape; read = e.read; written = AppendsFront-kept x y z (replies e.items) e.written kept }
ended_kept Ends.Malformed replies a b x y z e kept =
    record { items = e.items; part = e.part; each = e.each; few = e.few; read = e.read; some = e.some; fault = e.fault; written = Appends-kept x y z (replies e.items) e.written kept }
ended_kept Ends.Overlong replies a b x y z e kept =
    record { items = e.items; part = e.part; each = e.each; all = e.all; read = e.read; some = e.some; written = Appends-kept x y z (replies e.items) e.written kept }

-- all replies that were written stand in the sink
whole_unsent : (replies : List Item → List ℕ) (a b x y z : Option (List ℕ)) (items : List Item) (part : List ℕ) → IsTape items → Consumes a b (tape_bytes items ++ part)
    → Appends x y (replies items) → Keeps y z → Unsent replies a b x z
whole_unsent replies a b x y z items part tape read written kept = record {
  items = items;
  part = part;
  tape = tape;
  read = read;
  written = AppendsFront-kept x y z (replies items) (whole_front x y (replies items) written) kept;
}

-- whatever the end was, a front of the replies stands in the sink
pub ended_unsent : (end : ends.End) (replies : List Item → List ℕ) (a b x y z : Option (List ℕ)) → Ended end replies a b x y → Keeps y z → Unsent replies a b x z
ended_unsent Ends.Done replies a b x y z e kept =
    whole_unsent replies a b x y z e.items [] e.tape (subst (λ (t : List ℕ). Consumes a b t) (sym (append-nil (tape_bytes e.items))) e.read) e.written kept
ended_unsent Ends.SourceFault replies a b x y z e kept = whole_unsent replies a b x y z e.items e.part e.tape e.read e.written kept
ended_unsent Ends.SinkFault replies a b x y z e kept = ended_kept Ends.SinkFault replies a b x y z e kept
ended_unsent Ends.Malformed replies a b x y z e kept =
    whole_unsent replies a b x y z e.items e.part (record { each = e.each; few = omega (arith, e.few) }) e.read e.written kept
ended_unsent Ends.Overlong replies a b x y z e kept =
    whole_unsent replies a b x y z e.items e.part (record { each = e.each; few = omega (arith, e.all) }) e.read e.written kept

-- the same of what writes the same replies
pub ended_for : (end : ends.End) (M N : Machine) (a b x y : Option (List ℕ)) → M ≡ N → Ended end (answers M) a b x y → Ended end (answers N) a b x y
ended_for end M N a b x y same e = subst (λ (m : Machine). Ended end (answers m) a b x y) same e
