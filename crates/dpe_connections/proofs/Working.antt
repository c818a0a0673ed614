-- What the loop over a door's connections keeps.
use Rattle.std.proofs.Common.{◌≡◌, ◌≢◌, ℕ, ◌+◌, ◌<◌, ◌≤◌, Bool, true, false, cond, List, [], ◌∷◌, ◌++◌, Option, None, Some, refl, sym, ap, subst, ◌∙◌, append_assoc, append-nil, length, length-append, map, arith}
use Rattle.std.specs.Prelude.{◌==◌, ◌&&◌}
use Rattle.std.specs.List.{AllByRecursion}
use Rattle.std.proofs.lemmas.Bool.Decides.{nat_tests}
use Rattle.std.proofs.lemmas.List.{map-append}
use Rattle.std.proofs.lemmas.List.Elements.{filter-append}
use Rattle.std.proofs.lemmas.List.Sums.{sum_by-append}
use native.Mathlib.Decide.{ℕ_discrete}
use Rattle.dpe_desk.specs.Entries.{times}
use Rattle.dpe_desk.specs.Passes.{own_name}
use Rattle.dpe_desk.specs.Views.{Sound}
use Rattle.dpe_io.specs.Told.{IfTold, Lists, later, GoesOut, ComesBack}
use Rattle.dpe_model.specs.History.{Entry, entries_of_connection}
use Rattle.dpe_journal.specs.Shared.{IsLegalFor}
use Rattle.dpe_io.specs.Told.{Told}
use Rattle.dpe_io.specs.Tells.{Random}
use Rattle.dpe_connections.specs.Drawn.{AreDrawn, Draws}
use Rattle.dpe_connections.specs.Endings.{Ending, closed, cut, too_long, read_fault, entropy_fault, full, reply_fault, refusal_fault, ending_of, is_told_full, is_full, is_cut, is_entropy_fault, words_more, KeepsTicket, HasEntropyCause}
use Rattle.dpe_connections.specs.Passes.{Seat, MadeJust, history_of, entries_on, made_on}
use Rattle.dpe_connections.specs.Served.{AnswerInOrder, Served}
use Rattle.dpe_connections.specs.ServedBy.{IsOn}
use Rattle.dpe_connections.specs.Workers.{Visit, IsFrom, RoseBy, GoThrough, IsFaultless, AllServed, QuietOnceFull, ended, ServesDoor}
use Rattle.dpe_connections.specs.declared.worker.Tally.{Tally}
use Rattle.dpe_connections.specs.declared.connection.End.{End}
use Rattle.dpe_connections.specs.declared.connection.End.TheVariants as ends
use Rattle.dpe_connections.proofs.Calls.{of_caller, on_connection}
use Rattle.dpe_connections.proofs.Outputs.{all_more}

-- ## The entries of one number

-- what an entry of a connection is
is_both : (a b : Bool) → (a && b) ≡ true → (a ≡ true) × (b ≡ true)
is_both true true h = (refl, refl)
is_both true false h = (refl, h)
is_both false b h = absurd (cc)

same_number : (a b : ℕ) → (a == b) ≡ true → a ≡ b
same_number a b h = grind (arith, nat_tests)

other_number : (a b : ℕ) → a ≢ b → (a == b) ≡ false
other_number a b h = grind (arith, nat_tests)

-- each entry of a connection is one of it
all_on : (caller connection : ℕ) (H : List Entry) → AllByRecursion (IsOn caller connection) (entries_of_connection H caller connection)
all_on caller connection [] = tt
all_on caller connection (e ∷ es) = by_test ((e.caller == caller) && (e.connection == connection)) refl (entries_of_connection es caller connection) (all_on caller connection es)
  where
    by_test : (b : Bool) → ((e.caller == caller) && (e.connection == connection)) ≡ b → (found : List Entry) → AllByRecursion (IsOn caller connection) found
        → AllByRecursion (IsOn caller connection) (cond b (e ∷ found) found)
    by_test true h found all = let both = is_both (e.caller == caller) (e.connection == connection) h in
        ((same_number e.caller caller both.0, same_number e.connection connection both.1), all)
    by_test false h found all = all

-- where no entry is of this connection, none is found
none_found : (caller connection : ℕ) (H : List Entry) → AllByRecursion (λ e. e.connection ≢ connection) H → entries_of_connection H caller connection ≡ []
none_found caller connection [] h = refl
none_found caller connection (e ∷ es) h =
    let test : ((e.caller == caller) && (e.connection == connection)) ≡ false = other (e.caller == caller) (e.connection == connection) (other_number e.connection connection h.0) in
    ap (λ (b : Bool). cond b (e ∷ entries_of_connection es caller connection) (entries_of_connection es caller connection)) test
    ∙ none_found caller connection es h.1
  where
    other : (a b : Bool) → b ≡ false → (a && b) ≡ false
    other true b h = h
    other false b h = refl

all_weaker : {A : Type 0} (P Q : A → Type 0) (xs : List A) → ((x : A) → P x → Q x) → AllByRecursion P xs → AllByRecursion Q xs
all_weaker P Q [] f h = tt
all_weaker P Q (x ∷ xs) f h = (f x h.0, all_weaker P Q xs f h.1)

all_both : {A : Type 0} (P : A → Type 0) (xs ys : List A) → AllByRecursion P xs → AllByRecursion P ys → AllByRecursion P (xs ++ ys)
all_both P [] ys h k = k
all_both P (x ∷ xs) ys h k = (h.0, all_both P xs ys h.1 k)

-- none is found from this number on
pub none_beyond : (caller locality connections connection : ℕ) (H : List Entry) → AllByRecursion (IsFrom caller locality connections) H → connections ≤ connection
    → entries_of_connection H caller connection ≡ []
none_beyond caller locality connections connection H only beyond =
    none_found caller connection H (all_weaker (IsFrom caller locality connections) (λ (e : Entry). e.connection ≢ connection) H (λ e i same. let b = i.connection_below in omega arith) only)

-- the entries that answer payloads are of the locality
at_locality : (locality index : ℕ) (entries : List Entry) (payloads : List (List ℕ)) → AnswerInOrder locality index entries payloads → AllByRecursion (λ e. e.locality ≡ locality) entries
at_locality locality index [] payloads h = tt
at_locality locality index (e ∷ es) [] h = absurd h
at_locality locality index (e ∷ es) (p ∷ ps) h = (h.1, at_locality locality (index + 1) es ps h.3)

-- what a pass has seen of a connection is what it made on it
pub seen_is_made : (w : Seat) (connection : ℕ) → Sound IsLegalFor w → 0 < times (own_name w) w.names → entries_on w connection ≡ made_on w connection
seen_is_made w connection sound own =
    of_caller (own_name w) connection w.seen
    ∙ (ap (λ calls. on_connection connection (history_of calls)) (sound.own (own_name w) own)
    ∙ sym (of_caller (own_name w) connection w.made))

-- ## Lists of visits

module _ {C : Type 0} where
  served_as : (tell : C → Told) (capacity locality number : ℕ) (f g : ℕ → List Entry) (visits : List (Visit C)) → ((k : ℕ) → k < number + length visits → g k ≡ f k) → AllServed tell capacity locality f number visits
      → AllServed tell capacity locality g number visits
  served_as tell capacity locality number f g [] same h = tt
  served_as tell capacity locality number f g (v ∷ vs) same h = (
    subst (λ (es : List Entry). Served capacity locality es (tell v.before) (tell v.after) v.ending) (sym (same number (omega arith))) h.0,
    served_as tell capacity locality (number + 1) f g vs (λ k lt. same k (omega arith)) h.1,
  )

  served_more : (tell : C → Told) (capacity locality number last : ℕ) (f : ℕ → List Entry) (visits : List (Visit C)) (v : Visit C) → number + length visits ≡ last → AllServed tell capacity locality f number visits
      → Served capacity locality (f last) (tell v.before) (tell v.after) v.ending → AllServed tell capacity locality f number (visits ++ v ∷ [])
  served_more tell capacity locality number last f [] v at h one =
      (subst (λ (k : ℕ). Served capacity locality (f k) (tell v.before) (tell v.after) v.ending) (let same : last ≡ number = omega arith in same) one, tt)
  served_more tell capacity locality number last f (x ∷ xs) v at h one = (h.0, served_more tell capacity locality (number + 1) last f xs v (omega arith) h.1 one)

  quiet_as : (number : ℕ) (f g : ℕ → List Entry) (visits : List (Visit C)) → ((k : ℕ) → g k ≡ f k) → QuietOnceFull f number visits → QuietOnceFull g number visits
  quiet_as number f g [] same q = tt
  quiet_as number f g (v ∷ vs) same q = ((λ told k lt. same k ∙ q.0 told k lt), quiet_as (number + 1) f g vs same q.1)

  -- one visit first
  ended-cons : (test : Ending → Bool) (v : Visit C) (vs : List (Visit C)) → ended test (v ∷ vs) ≡ cond (test v.ending) 1 0 + ended test vs
  ended-cons test v vs =
      let parts : ended test (v ∷ vs) ≡ (0 + cond {A = ℕ} (test v.ending) 1 0) + ended test vs = sum_by-append (λ (x : Visit C). cond {A = ℕ} (test x.ending) 1 0) (v ∷ []) vs in
      omega (arith, parts)

  told_first : (v : Visit C) (vs : List (Visit C)) → is_told_full v.ending ≡ true → 0 < ended is_told_full (v ∷ vs)
  told_first v vs h =
      let one : cond {A = ℕ} (is_told_full v.ending) 1 0 ≡ 1 = ap (λ (b : Bool). cond {A = ℕ} b 1 0) h in
      omega (arith, one, ended-cons is_told_full v vs)

  quiet_more : (number last : ℕ) (f g : ℕ → List Entry) (visits : List (Visit C)) (v : Visit C) → number + length visits ≡ last → QuietOnceFull f number visits → ((k : ℕ) → k ≢ last → g k ≡ f k)
      → (0 < ended is_told_full visits → g last ≡ []) → ((k : ℕ) → last < k → g k ≡ []) → QuietOnceFull g number (visits ++ v ∷ [])
  quiet_more number last f g [] v at q others silent beyond = ((λ told k lt. beyond k (omega arith)), tt)
  quiet_more number last f g (x ∷ xs) v at q others silent beyond = (
    (λ told k lt. elim (ℕ_discrete k last) [
      | yes same ↦ ap g same ∙ silent (told_first x xs told)
      | no differs ↦ others k differs ∙ q.0 told k lt
    ]),
    quiet_more (number + 1) last f g xs v (omega arith) q.1 others (λ some. silent (omega (arith, some, ended-cons is_told_full x xs))) beyond,
  )

  ended_more : (test : Ending → Bool) (visits : List (Visit C)) (v : Visit C) → ended test (visits ++ v ∷ []) ≡ ended test visits + cond (test v.ending) 1 0
  ended_more test [] v = omega (arith, ended-cons test v [])
  ended_more test (x ∷ xs) v = omega (arith, ended_more test xs v, ended-cons test x xs, ended-cons test x (xs ++ v ∷ []))

  through_more : (visits : List (Visit C)) (v : Visit C) (a b mid c : Lists C) → GoThrough visits a b → (b.waiting ≡ v.before ∷ mid.waiting) × (mid.ended ≡ b.ended) → (c.waiting ≡ mid.waiting) × (c.ended ≡ mid.ended ++ v.after ∷ [])
      → GoThrough (visits ++ v ∷ []) a c
  through_more visits v a b mid c p out back =
      let B : Visit C → C = λ (x : Visit C). x.before in
      let A : Visit C → C = λ (x : Visit C). x.after in (
        p.0
            ∙ (ap (λ (w : List C). map B visits ++ w) (out.0 ∙ ap (λ (w : List C). v.before ∷ w) (sym back.0))
            ∙ (sym (append_assoc (map B visits) (v.before ∷ []) c.waiting) ∙ ap (λ (w : List C). w ++ c.waiting) (sym (map-append B visits (v ∷ []))))),
        back.1
            ∙ (ap (λ (w : List C). w ++ v.after ∷ []) (out.1 ∙ p.1)
            ∙ (append_assoc a.ended (map A visits) (v.after ∷ []) ∙ ap (λ (w : List C). a.ended ++ w) (sym (map-append A visits (v ∷ []))))),
      )

  through_told : (visits : List (Visit C)) (v : Visit C) (a b mid c : Option (Lists C)) → IfTold (GoThrough visits) a b → GoesOut b v.before mid → ComesBack mid v.after c → IfTold (GoThrough (visits ++ v ∷ [])) a c
  through_told visits v None b mid c p out back = tt
  through_told visits v (Some a) None mid c p out back = absurd p
  through_told visits v (Some a) (Some b) None c p out back = absurd out
  through_told visits v (Some a) (Some b) (Some m) None p out back = absurd back
  through_told visits v (Some a) (Some b) (Some m) (Some c) p out back = through_more visits v a b m c p out back

  through_none : (a : Option (Lists C)) → IfTold (GoThrough []) a a
  through_none None = tt
  through_none (Some a) = (refl, sym (append-nil a.ended))

-- ## Words and counts

drawn-append : (ws xs mid ys left : List (List ℕ)) → AreDrawn ws xs mid → AreDrawn mid ys left → AreDrawn ws (xs ++ ys) left
drawn-append ws [] mid ys left h k = subst (λ (m : List (List ℕ)). AreDrawn m ys left) h k
drawn-append ws (x ∷ xs) mid ys left h k = (h.0, drawn-append (later ws) xs mid ys left h.1 k)

told-append : (words mid left : Option (List (List ℕ))) (xs ys : List (List ℕ)) → IfTold (λ ws ls. AreDrawn ws xs ls) words mid → IfTold (λ ws ls. AreDrawn ws ys ls) mid left
    → IfTold (λ ws ls. AreDrawn ws (xs ++ ys) ls) words left
told-append None mid left xs ys h k = tt
told-append (Some a) None left xs ys h k = absurd h
told-append (Some a) (Some b) None xs ys h k = absurd k
told-append (Some a) (Some b) (Some c) xs ys h k = drawn-append a xs b ys c h k

-- the words of entries, then those for none; behind these no entry has any
words_in_order : (xs ys : List Entry) (others more : List (List ℕ)) → (0 < length others → ys ≡ [])
    → (map (λ e. e.random) xs ++ others) ++ (map (λ e. e.random) ys ++ more) ≡ map (λ e. e.random) (xs ++ ys) ++ (others ++ more)
words_in_order xs ys [] more none =
    let R : Entry → List ℕ = λ (e : Entry). e.random in
    ap (λ (w : List (List ℕ)). w ++ (map R ys ++ more)) (append-nil (map R xs))
    ∙ (sym (append_assoc (map R xs) (map R ys) more) ∙ ap (λ (w : List (List ℕ)). w ++ more) (sym (map-append R xs ys)))
words_in_order xs ys (o ∷ os) more none =
    let R : Entry → List ℕ = λ (e : Entry). e.random in
    let empty : ys ≡ [] = none (omega arith) in
    ap (λ (es : List Entry). (map R xs ++ (o ∷ os)) ++ (map R es ++ more)) empty
    ∙ (append_assoc (map R xs) (o ∷ os) more
    ∙ ap (λ (w : List (List ℕ)). w ++ ((o ∷ os) ++ more)) (ap (map R) (sym (ap (λ (es : List Entry). xs ++ es) empty ∙ append-nil xs))))

draws_more : (xs ys : List Entry) (many more : ℕ) (words mid left : Option (List (List ℕ))) → Draws xs many words mid → Draws ys more mid left → (0 < many → ys ≡ []) → Draws (xs ++ ys) (many + more) words left
draws_more xs ys many more words mid left h k none =
    let R : Entry → List ℕ = λ (e : Entry). e.random in
    let a = h.1 in
    let b = k.1 in (
      h.0 ++ k.0,
      omega (arith, length-append h.0 k.0),
      subst (λ (w : List (List ℕ)). IfTold (λ ws ls. AreDrawn ws w ls) words left)
          (words_in_order xs ys h.0 k.0 (λ some. none (omega arith)))
          (told-append words mid left (map R xs ++ h.0) (map R ys ++ k.0) h.2 k.2),
    )

-- nothing was drawn
draws_nothing : (words : Option (List (List ℕ))) → Draws [] 0 words words
draws_nothing None = ([], refl, tt)
draws_nothing (Some ws) = ([], refl, refl)

rose_stays : (many before now : ℕ) (next : ℕ) → RoseBy many before now → next ≡ now → RoseBy (many + 0) before next
rose_stays many before now next r same = let a = r.least in record { least = omega arith; kept = λ none. same ∙ r.kept (omega arith) }

rose_more : (ending : Ending) (many before now next : ℕ) → RoseBy many before now → HasEntropyCause ending now next → RoseBy (many + cond (is_entropy_fault ending) 1 0) before next
rose_more closed many before now next r h = rose_stays many before now next r h
rose_more (cut have) many before now next r h = rose_stays many before now next r h
rose_more (too_long told) many before now next r h = rose_stays many before now next r h
rose_more read_fault many before now next r h = rose_stays many before now next r h
rose_more entropy_fault many before now next r h = let a = r.least in record { least = omega arith; kept = λ none. absurd (omega arith) }
rose_more (full ticket) many before now next r h = rose_stays many before now next r h
rose_more reply_fault many before now next r h = rose_stays many before now next r h
rose_more refusal_fault many before now next r h = rose_stays many before now next r h

-- a ticket once kept is kept
still_full : (old new : Option ℕ) → ((t : ℕ) → old ≡ Some t → new ≡ Some t) → old ≢ None → new ≢ None
still_full None new kept some = absurd (some refl)
still_full (Some t) new kept some = λ none. let same = kept t refl in absurd (cc)

told_is_full : (ending : Ending) (old new : Option ℕ) → KeepsTicket ending old new → is_told_full ending ≡ true → new ≢ None
told_is_full closed old new k h = absurd (cc)
told_is_full (cut have) old new k h = absurd (cc)
told_is_full (too_long told) old new k h = absurd (cc)
told_is_full read_fault old new k h = absurd (cc)
told_is_full entropy_fault old new k h = absurd (cc)
told_is_full (full ticket) old new k h = λ none. absurd (cc)
told_is_full reply_fault old new k h = absurd (cc)
told_is_full refusal_fault old None k h = absurd (cc)
told_is_full refusal_fault old (Some t) k h = λ none. absurd (cc)

-- what an end is counted as doesn't hang on the pass
pub full_of_end : (end : End) (kept : Option ℕ) → is_full (ending_of end None) ≡ is_full (ending_of end kept)
full_of_end ends.Closed kept = refl
full_of_end (ends.Full ticket) kept = refl
full_of_end (ends.Cut have) kept = refl
full_of_end (ends.TooLong told) kept = refl
full_of_end ends.ReadFault kept = refl
full_of_end ends.WriteFault None = refl
full_of_end ends.WriteFault (Some t) = refl
full_of_end ends.EntropyFault kept = refl

pub cut_of_end : (end : End) (kept : Option ℕ) → is_cut (ending_of end None) ≡ is_cut (ending_of end kept)
cut_of_end ends.Closed kept = refl
cut_of_end (ends.Full ticket) kept = refl
cut_of_end (ends.Cut have) kept = refl
cut_of_end (ends.TooLong told) kept = refl
cut_of_end ends.ReadFault kept = refl
cut_of_end ends.WriteFault None = refl
cut_of_end ends.WriteFault (Some t) = refl
cut_of_end ends.EntropyFault kept = refl

-- ## The loop

-- the connections below a number were served, by a pass that made nothing else
pub record Working {C : Type 0} (tell : C → Told) (capacity name locality connections : ℕ) (w : Seat) (old now : Option (Lists C)) (words left : Option (List (List ℕ))) (before faults fulls cuts : ℕ) : Type 0 where
  pub visits : List (Visit C)
  pub through : IfTold (GoThrough visits) old now
  pub number : length visits ≡ connections
  pub faultless : AllByRecursion (IsFaultless tell) visits
  pub served : AllServed tell capacity locality (made_on w) 0 visits
  pub quiet : QuietOnceFull (made_on w) 0 visits
  pub told : 0 < ended is_told_full visits → w.full ≢ None
  pub drawn : Draws (history_of w.made) (ended is_told_full visits) words left
  pub rose : RoseBy (ended is_entropy_fault visits) before faults
  pub full_are : fulls ≡ ended is_full visits
  pub cut_are : cuts ≡ ended is_cut visits
  pub only : AllByRecursion (IsFrom name locality connections) (history_of w.made)

pub working_start : {C : Type 0} (tell : C → Told) (capacity name locality : ℕ) (w : Seat) (lists : Option (Lists C)) (words : Option (List (List ℕ))) (faults : ℕ) → w.made ≡ []
    → Working tell capacity name locality 0 w lists lists words words faults faults 0 0
working_start tell capacity name locality w lists words faults none = record {
  visits = [];
  through = through_none lists;
  number = refl;
  faultless = tt;
  served = tt;
  quiet = tt;
  told = λ some. absurd (omega arith);
  drawn = subst (λ calls. Draws (history_of calls) 0 words words) (sym none) (draws_nothing words);
  rose = record { least = omega arith; kept = λ h. refl };
  full_are = refl;
  cut_are = refl;
  only = subst (λ calls. AllByRecursion (IsFrom name locality 0) (history_of calls)) (sym none) tt;
}

-- what one served connection is to the pass and to the entropy
pub record Once {C : Type 0} (tell : C → Told) (capacity locality connection : ℕ) (w w' : Seat) (v : Visit C) (left then : Option (List (List ℕ))) (faults next : ℕ) : Type 0 where
  pub made : MadeJust w (entries_on w' connection) w'
  pub served : Served capacity locality (entries_on w' connection) (tell v.before) (tell v.after) v.ending
  pub ticket : KeepsTicket v.ending w.full w'.full
  pub quiet : w.full ≢ None → entries_on w' connection ≡ []
  pub drawn : Draws (entries_on w' connection) (words_more v.ending) left then
  pub cause : HasEntropyCause v.ending faults next
  pub kept : (t : ℕ) → w.full ≡ Some t → w'.full ≡ Some t
  pub fresh : IsFaultless tell v

-- the pass keeps its name, under which it has seen just what it made
pub record Named (name : ℕ) (w w' : Seat) : Type 0 where
  pub old : own_name w ≡ name
  pub new : own_name w' ≡ name
  pub own : 0 < times (own_name w') w'.names
  pub sound : Sound IsLegalFor w'

from_both : (name locality connection : ℕ) (es : List Entry) → AllByRecursion (IsOn name connection) es → AllByRecursion (λ e. e.locality ≡ locality) es → AllByRecursion (IsFrom name locality (connection + 1)) es
from_both name locality connection [] h k = tt
from_both name locality connection (e ∷ es) h k =
    let on = h.0.1 in
    (record { caller_is = h.0.0; locality_is = k.0; connection_below = omega arith }, from_both name locality connection es h.1 k.1)

one_of_two : (b : Bool) (n m : ℕ) → m ≡ n + cond b 1 0 → (n ≡ 0) → 0 < m → b ≡ true
one_of_two true n m e z h = refl
one_of_two false n m e z h = absurd (omega arith)

module _ {C : Type 0} (tell : C → Told) (capacity name locality connections : ℕ) (w w' : Seat) (old now next : Option (Lists C)) (words left then : Option (List (List ℕ))) (before faults faults' fulls cuts : ℕ)
    (k : Working tell capacity name locality connections w old now words left before faults fulls cuts) (v : Visit C) (o : Once tell capacity locality connections w w' v left then faults faults') (n : Named name w w') where
  on_this : AllByRecursion (IsOn name connections) (entries_on w' connections)
  on_this = subst (λ (m : ℕ). AllByRecursion (IsOn m connections) (entries_on w' connections)) n.new (all_on (own_name w') connections (history_of w'.seen))

  made_others : (d : ℕ) → d ≢ connections → made_on w' d ≡ made_on w d
  made_others d differs =
      let P : Entry → Bool = λ (e : Entry). (e.caller == own_name w') && (e.connection == d) in
      ap (λ (H : List Entry). entries_of_connection H (own_name w') d) o.made
      ∙ (filter-append P (history_of w.made) (entries_on w' connections)
      ∙ (ap (λ (es : List Entry). entries_of_connection (history_of w.made) (own_name w') d ++ es)
      (none_found (own_name w') d (entries_on w' connections)
      (all_weaker (IsOn name connections) (λ (e : Entry). e.connection ≢ d) (entries_on w' connections) (λ e on same. differs (sym same ∙ on.1)) on_this))
      ∙ (append-nil (entries_of_connection (history_of w.made) (own_name w') d)
      ∙ ap (λ (m : ℕ). entries_of_connection (history_of w.made) m d) (n.new ∙ sym n.old))))

  made_this : made_on w' connections ≡ entries_on w' connections
  made_this = sym (seen_is_made w' connections n.sound n.own)

  only_more : AllByRecursion (IsFrom name locality (connections + 1)) (history_of w'.made)
  only_more =
      subst (λ (H : List Entry). AllByRecursion (IsFrom name locality (connections + 1)) H) (sym o.made)
      (all_both (IsFrom name locality (connections + 1)) (history_of w.made) (entries_on w' connections)
      (all_weaker (IsFrom name locality connections) (IsFrom name locality (connections + 1)) (history_of w.made)
      (λ e i. let b = i.connection_below in record { caller_is = i.caller_is; locality_is = i.locality_is; connection_below = omega arith }) k.only)
      (from_both name locality connections (entries_on w' connections) on_this (at_locality locality 0 (entries_on w' connections) o.served.payloads o.served.answered)))

  none_later : (d : ℕ) → connections < d → made_on w' d ≡ []
  none_later d lt =
      ap (λ (m : ℕ). entries_of_connection (history_of w'.made) m d) n.new
      ∙ none_beyond name locality (connections + 1) d (history_of w'.made) only_more (omega arith)

  told_now : 0 < ended is_told_full (k.visits ++ v ∷ []) → w'.full ≢ None
  told_now some =
      let more = ended_more is_told_full k.visits v in
      elim (ℕ_discrete (ended is_told_full k.visits) 0) [
        | yes none ↦ told_is_full v.ending w.full w'.full o.ticket (one_of_two (is_told_full v.ending) (ended is_told_full k.visits) (ended is_told_full (k.visits ++ v ∷ [])) more none some)
        | no some_before ↦ still_full w.full w'.full o.kept (k.told (omega arith))
      ]

  pub working_more : (mid : Option (Lists C)) (fulls' cuts' : ℕ) → GoesOut now v.before mid → ComesBack mid v.after next → fulls' ≡ fulls + cond (is_full v.ending) 1 0 → cuts' ≡ cuts + cond (is_cut v.ending) 1 0
      → Working tell capacity name locality (connections + 1) w' old next words then before faults' fulls' cuts'
  working_more mid fulls' cuts' out back full_more cut_more =
      let many = k.number in
      let full_before = k.full_are in
      let cut_before = k.cut_are in
      record {
        visits = k.visits ++ v ∷ [];
        through = through_told k.visits v old now mid next k.through out back;
        number = omega (arith, length-append k.visits (v ∷ []));
        faultless = all_more (IsFaultless tell) k.visits v k.faultless o.fresh;
        served =
            served_more tell capacity locality 0 connections (made_on w') k.visits v (omega arith)
            (served_as tell capacity locality 0 (made_on w) (made_on w') k.visits (λ d lt. made_others d (λ same. omega arith)) k.served)
            (subst (λ (es : List Entry). Served capacity locality es (tell v.before) (tell v.after) v.ending) (sym made_this) o.served);
        quiet = quiet_more 0 connections (made_on w) (made_on w') k.visits v (omega arith) k.quiet made_others (λ some. made_this ∙ o.quiet (k.told some)) none_later;
        told = told_now;
        drawn =
            subst (λ (many : ℕ). Draws (history_of w'.made) many words then) (sym (ended_more is_told_full k.visits v))
            (subst (λ (H : List Entry). Draws H (ended is_told_full k.visits + words_more v.ending) words then) (sym o.made)
            (draws_more (history_of w.made) (entries_on w' connections) (ended is_told_full k.visits) (words_more v.ending) words left then k.drawn o.drawn (λ some. o.quiet (k.told some))));
        rose =
            subst (λ (many : ℕ). RoseBy many before faults') (sym (ended_more is_entropy_fault k.visits v))
            (rose_more v.ending (ended is_entropy_fault k.visits) before faults faults' k.rose o.cause);
        full_are = omega (arith, full_more, ended_more is_full k.visits v);
        cut_are = omega (arith, cut_more, ended_more is_cut k.visits v);
        only = only_more;
      }

-- the same, of what the pass has seen
pub working_done : {C : Type 0} (tell : C → Told) (capacity name locality : ℕ) (tally : Tally) (w : Seat) (old now : Option (Lists C)) (drawn_from drawn_to : Random)
    → Sound IsLegalFor w → 0 < times (own_name w) w.names
    → Working tell capacity name locality tally.connections w old now drawn_from.words drawn_to.words drawn_from.faults drawn_to.faults tally.full tally.cut
    → ServesDoor tell capacity locality tally w old now drawn_from drawn_to
working_done tell capacity name locality tally w old now drawn_from drawn_to sound own k = record {
  visits = k.visits;
  through = k.through;
  number = k.number;
  faultless = k.faultless;
  served = served_as tell capacity locality 0 (made_on w) (entries_on w) k.visits (λ d lt. seen_is_made w d sound own) k.served;
  quiet = quiet_as 0 (made_on w) (entries_on w) k.visits (λ d. seen_is_made w d sound own) k.quiet;
  told = k.told;
  drawn = k.drawn;
  rose = k.rose;
  full_are = k.full_are;
  cut_are = k.cut_are;
}
