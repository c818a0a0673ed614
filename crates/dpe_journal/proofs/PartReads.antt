-- How a part is read piece by piece, and what is answered then.
use Rattle.std.proofs.Common.{◌≡◌, ℕ, ◌+◌, ◌^◌, ◌<◌, ◌≤◌, inl, inr, List, [], ◌∷◌, ◌++◌, length, get_or, take, drop, Option, Result, Ok, Err, IfOk, refl, ap, sym, ◌∙◌, subst, append-nil, take-append-drop, arith}
use Rattle.std.specs.Io.{ReadsAtMost}
use Rattle.std.specs.Io.KnownBytes.{Consumes, Keeps, IsAtEnd, ReadConsumes}
use Rattle.std.proofs.KnownBytes.{Consumes-nil, Consumes-trans, Consumes-kept}
use Rattle.std.proofs.lemmas.List.{length-append, length-take, take_at, drop_at, take-append-le}
use borrow.Rule.Slice.PartMut.{put_mid, post_of}
use Rattle.std.proofs.Math.Seq.{take-add}
use Rattle.dpe_io.specs.Causes.{Other, Rose}
use Rattle.dpe_model.specs.History.{Entry, IsEntry}
use Rattle.dpe_journal.specs.Journal.{packet, header_bytes, record_bytes, end_bytes}
use Rattle.dpe_journal.specs.Stages.{header, entry, closing, Stage, at_front, behind, over, IsPart, IsRecord, IsCutShort, BeginsNoPart}
use Rattle.dpe_journal.specs.Fields.{BeginsShort, BeginsWhole}
use Rattle.dpe_journal.specs.Reading.{StopsShort, StopsThere, StopCause, FaultCause, fault_of, TakesPart, ReadsPart, EndsJournal}
use Rattle.dpe_journal.specs.declared.records.Next.{Next}
use Rattle.dpe_journal.specs.declared.records.Next.TheVariants as nexts
use Rattle.dpe_journal.specs.declared.records.RecordFault.{RecordFault}
use Rattle.dpe_journal.specs.declared.records.RecordFault.TheVariants.{Malformed, Truncated, ReadFault}
use Rattle.dpe_journal.specs.declared.records.Stop.{Stop}
use Rattle.dpe_journal.specs.declared.records.Stop.TheVariants as stops
use Rattle.dpe_journal.proofs.Parts.{is_behind}

-- a part has at most 8,242 bytes
part_short : (stage : Stage) (x : List ℕ) → IsPart stage x → length x ≤ 8242
part_short at_front x (header first, right, is) = omega (arith, ap length is)
part_short at_front x (entry e, right, is) = absurd right
part_short at_front x (closing count, right, is) = absurd right
part_short (behind records) x (header first, right, is) = absurd right
part_short (behind records) x (entry e, right, is) =
    let random = right.1.random.0 in
    let payload = right.1.payload.0 in
    let reply = right.1.reply.0 in
    omega (arith, ap length is, length-append e.random (packet e.payload ++ packet e.reply), length-append (packet e.payload) (packet e.reply))
part_short (behind records) x (closing count, right, is) = omega (arith, ap length is)
part_short over x (header first, right, is) = absurd right
part_short over x (entry e, right, is) = absurd right
part_short over x (closing count, right, is) = absurd right

-- the front of the room is what was taken so far and goes past no part, no call failed, and what stands beside is as it was
pub record IsReading (stage : Stage) (old now : Option (List ℕ)) (faults_old faults_now : ℕ) (beside_old beside_now : Other) (room : List ℕ) (have : ℕ) : Type 0 where
  pub within : have ≤ 8242
  pub long : length room ≡ 8242
  pub taken : Consumes old now (take have room)
  pub exact : (word after : List ℕ) → IsPart stage word → take have room ≡ word ++ after → after ≡ []
  pub faultless : faults_now ≡ faults_old
  pub beside : beside_now ≡ beside_old

no_more : (after : List ℕ) → length after ≡ 0 → after ≡ []
no_more [] none = refl
no_more (x ∷ after) none = absurd (omega arith)

-- nothing was taken yet
pub reading_none : (stage : Stage) (a : Option (List ℕ)) (faults : ℕ) (beside : Other) (room : List ℕ) → length room ≡ 8242 → IsReading stage a a faults faults beside beside room 0
reading_none stage a faults beside room long = record {
  within = omega arith;
  long = long;
  taken = Consumes-nil a;
  exact = λ word after is e. no_more after (omega (arith, ap length e, length-append word after));
  faultless = refl;
  beside = refl;
}

-- bytes that are short of a part are a proper front of one
pub cut_short : (stage : Stage) (b : List ℕ) (need : ℕ) → BeginsShort (IsPart stage) b need → IsCutShort stage b
cut_short stage b need s =
    let long = s.least (b ++ s.some.0) s.some.0 [] s.some.1 (sym (append-nil (b ++ s.some.0))) in
    let some = s.positive in
    (s.some.0, omega (arith, long, length-append b s.some.0), s.some.1)

-- a part that is short of so many bytes has room for them
pub short_fits : (stage : Stage) (b : List ℕ) (need : ℕ) → BeginsShort (IsPart stage) b need → length b + need ≤ 8242
short_fits stage b need s =
    let long = s.least (b ++ s.some.0) s.some.0 [] s.some.1 (sym (append-nil (b ++ s.some.0))) in
    let short = part_short stage (b ++ s.some.0) s.some.1 in
    omega (arith, long, short)

module _ (stage : Stage) (a b : Option (List ℕ)) (f0 f1 : ℕ) (o0 o1 : Other) (room : List ℕ) (have : ℕ) (r : IsReading stage a b f0 f1 o0 o1 room have) where
  pub reading_more : (d : Option (List ℕ)) (f2 : ℕ) (o2 : Other) (read : List ℕ) (need count : ℕ) → have + need ≤ 8242 → length read ≡ 8242
      → BeginsShort (IsPart stage) (take have room) need → take have read ≡ take have room → Consumes b d (take count (drop have read)) → count ≤ need
      → f2 ≡ f1 → o2 ≡ o1 → IsReading stage a d f0 f2 o0 o2 read (have + count)
  reading_more d f2 o2 read need count fits long s front given few same beside =
      let parts : take (have + count) read ≡ take have room ++ take count (drop have read) =
      take-add have count read ∙ ap (λ (t : List ℕ). t ++ take count (drop have read)) front in
      record {
        within = omega arith;
        long = long;
        taken = subst (λ (t : List ℕ). Consumes a d t) (sym parts) (Consumes-trans a b d (take have room) (take count (drop have read)) r.taken given);
        exact = λ word after is e.
            let whole : take have room ++ take count (drop have read) ≡ word ++ after = sym parts ∙ e in
            let least = s.least word (take count (drop have read)) after is whole in
            no_more after (omega (arith, least, few, ap length whole, length-append (take have room) (take count (drop have read)), length-append word after, length-take count (drop have read)));
        faultless = same ∙ r.faultless;
        beside = beside ∙ r.beside;
      }

  -- the whole that the bytes begin with is all of them
  pub reading_whole : (size : ℕ) → BeginsWhole (IsPart stage) (take have room) size → IsPart stage (take have room)
  reading_whole size w =
      let rest : drop size (take have room) ≡ [] = r.exact (take size (take have room)) (drop size (take have room)) w.word (sym (take-append-drop size (take have room))) in
      let whole : take size (take have room) ≡ take have room =
      sym (append-nil (take size (take have room))) ∙ ap (λ (t : List ℕ). take size (take have room) ++ t) (sym rest) ∙ take-append-drop size (take have room) in
      subst (IsPart stage) whole w.word

  pub reading_wrong : BeginsNoPart stage (take have room) → StopsShort a b stage stops.Wrong
  reading_wrong none = (take have room, r.taken, none)

  pub reading_failed : (d : Option (List ℕ)) (need : ℕ) → BeginsShort (IsPart stage) (take have room) need → Keeps b d → StopsShort a d stage stops.Failed
  reading_failed d need s kept = (take have room, Consumes-kept a b d (take have room) r.taken kept, cut_short stage (take have room) need s)

  pub reading_cut : (d : Option (List ℕ)) (need count : ℕ) (read : List ℕ) → BeginsShort (IsPart stage) (take have room) need → count ≡ 0 → Consumes b d (take count read) → IsAtEnd d → StopsShort a d stage stops.Cut
  reading_cut d need count read s none given end =
      let nothing : take count read ≡ [] = ap (λ (n : ℕ). take n read) none in
      let all : Consumes a d (take have room) =
      subst (λ (t : List ℕ). Consumes a d t) (ap (λ (t : List ℕ). take have room ++ t) nothing ∙ append-nil (take have room)) (Consumes-trans a b d (take have room) (take count read) r.taken given) in
      (take have room, all, cut_short stage (take have room) need s, end)

-- ---- what is answered

pub stops_there : (a b : Option (List ℕ)) (stage : Stage) (at : ℕ) (stop : Stop) → StopsShort a b stage stop → StopsThere a b stage at (fault_of stop at)
stops_there a b stage at stops.Wrong (taken, consumed, none) = (taken, consumed, inl (none, refl))
stops_there a b stage at stops.Cut (taken, consumed, cut, end) = (taken, consumed, cut, end, refl)
stops_there a b stage at stops.Failed (taken, consumed, cut) = (taken, consumed, inl cut)

pub fault_cause : (before now at : ℕ) (stop : Stop) → StopCause before now stop → FaultCause before now (fault_of stop at)
fault_cause before now at stops.Wrong cause = cause
fault_cause before now at stops.Cut cause = cause
fault_cause before now at stops.Failed cause = cause

pub answers_header : (a b : Option (List ℕ)) (at : ℕ) (e : Entry) (part : List ℕ) (first : ℕ) → part ≡ header_bytes first → first < 2 ^ 64 → Consumes a b part → ReadsPart a b at_front at e (Ok (nexts.Header first))
answers_header a b at e part first is range consumed = record { right = range; taken = subst (λ (t : List ℕ). Consumes a b t) is consumed; ends = tt }

-- a part that begins with a record's first byte is a record
pub part_is_record : (records : ℕ) (part : List ℕ) → IsPart (behind records) part → get_or part 0 0 ≡ 1 → (records < 65536) × IsRecord part
part_is_record records part right tag =
    elim (is_behind records part right) [ inl is ↦ is | inr end ↦ (let other : get_or part 0 0 ≡ 255 = ap (λ (t : List ℕ). get_or t 0 0) end in absurd (omega (arith, tag, other))) ]

-- and any other part is the end
pub part_is_end : (records : ℕ) (part : List ℕ) → IsPart (behind records) part → (get_or part 0 0 ≡ 1 → ⊥) → part ≡ end_bytes records
part_is_end records part right tag =
    elim (is_behind records part right) [ inl is ↦ absurd (tag (ap (λ (t : List ℕ). get_or t 0 0) is.1.2)) | inr end ↦ end ]

pub answers_record : (a b : Option (List ℕ)) (at records : ℕ) (stored : Entry) (part : List ℕ) → records < 65536 → IsRecord part
    → ((e : Entry) → IsEntry e → part ≡ record_bytes e → stored ≡ e) → Consumes a b part → ReadsPart a b (behind records) at stored (Ok nexts.Entry)
answers_record a b at records stored part few is same consumed =
    let e = same is.0 is.1 is.2 in
    record {
      right = (few, subst IsEntry (sym e) is.1);
      taken = subst (λ (t : List ℕ). Consumes a b t) (is.2 ∙ ap record_bytes (sym e)) consumed;
      ends = tt;
    }

pub answers_end : (a b d : Option (List ℕ)) (at records : ℕ) (e : Entry) (part : List ℕ) (result : Result Next RecordFault) → part ≡ end_bytes records → Consumes a b part
    → EndsJournal b d records at result → ReadsPart a d (behind records) at e result
answers_end a b d at records e part (Ok next) is consumed ends =
    let all : Consumes a d (end_bytes records) = subst (λ (t : List ℕ). Consumes a d t) (append-nil part ∙ is) (Consumes-trans a b d part [] consumed ends.1) in
    subst (λ (n : Next). TakesPart a d (behind records) e n) (sym ends.0) (record { right = refl; taken = all; ends = ends.2 })
answers_end a b d at records e part (Err (Malformed place)) is consumed ends =
    (part ++ ends.0, Consumes-trans a b d part ends.0 consumed ends.1, inr ((records, ends.0, refl, ends.2, ap (λ (t : List ℕ). t ++ ends.0) is), ends.3))
answers_end a b d at records e part (Err (Truncated place)) is consumed ends = absurd ends
answers_end a b d at records e part (Err ReadFault) is consumed ends = (part, Consumes-kept a b d part consumed ends, inr (records, refl, is))

-- no part stands behind the end, and every part has bytes
pub part_over : (part : List ℕ) → IsPart over part → ⊥
part_over part (header first, right, is) = right
part_over part (entry e, right, is) = right
part_over part (closing count, right, is) = right

pub part_filled : (records : ℕ) (part : List ℕ) → IsPart (behind records) part → 0 < length part
part_filled records part (header first, right, is) = absurd right
part_filled records part (entry e, right, is) = omega (arith, ap length is)
part_filled records part (closing count, right, is) = omega (arith, ap length is)

-- ---- a read behind the front of a room

pub front_kept : (room buf : List ℕ) (have k : ℕ) → have ≤ length room → take have (put_mid have k room buf) ≡ take have room
front_kept room buf have k within = take_at (take have room) (buf ++ post_of have k room) have (omega (arith, length-take have room, within))

pub behind_read : (room buf : List ℕ) (have k count : ℕ) → have ≤ length room → count ≤ length buf → take count (drop have (put_mid have k room buf)) ≡ take count buf
behind_read room buf have k count within enough =
    ap (take count) (drop_at (take have room) (buf ++ post_of have k room) have (omega (arith, length-take have room, within))) ∙ take-append-le count buf (post_of have k room) enough

pub behind_bytes : {E : Type 0} (a b : Option (List ℕ)) (result : Result ℕ E) (room buf : List ℕ) (have k : ℕ) → have ≤ length room → ReadsAtMost result buf → ReadConsumes a b result buf
    → IfOk result (λ count. Consumes a b (take count (drop have (put_mid have k room buf))))
behind_bytes a b (Ok count) room buf have k within bound read = subst (λ (t : List ℕ). Consumes a b t) (sym (behind_read room buf have k count within bound.0)) read.0
behind_bytes a b (Err failed) room buf have k within bound read = tt

-- the count rose since the reading began
pub rose_since : (before mid now : ℕ) → mid ≡ before → Rose mid now → Rose before now
rose_since before mid now same rose = subst (λ (n : ℕ). Rose n now) same rose
