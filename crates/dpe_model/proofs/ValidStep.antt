-- A step leads from a valid state to a valid state.
use Rattle.std.proofs.Common.{◌≡◌, ◌≢◌, ℕ, ◌+◌, ◌-◌, ◌^◌, ◌<◌, ◌≤◌, List, [], ◌∷◌, ◌++◌, refl, ap, sym, ◌∙◌, subst, filter, find, Bool, true, false, cond, not, ◌&&◌, ◌||◌, nat_le, nat_eq, Option, Some, None, length, take, drop, arith, length-append, append_assoc, AllPairs, IfSome, unwrap_or}
use Rattle.std.specs.List.{AllByRecursion, starts_with, list_any}
use Rattle.std.specs.Str.{bytes_eq}
use Rattle.std.proofs.lemmas.Bool.{eq-eqb}
use Rattle.std.proofs.lemmas.Bool.Decides.{nat_tests}
use Rattle.std.proofs.lemmas.List.{append-nil}
use Rattle.std.proofs.lemmas.List.Elements.{filter-append}
use Rattle.std.proofs.lemmas.List.Kept.{AllPairs-filter}
use Rattle.std.proofs.lemmas.Slice.Eq.{bytes_eq-Decides}
use Rattle.dpe_inputs.specs.declared.Input.{Input}
use Rattle.dpe_messages.specs.Request.{Request, DeriveRequest, get_profile, initialize, derive, sign, seal, unseal, rotate, destroy, locality_or}
use Rattle.dpe_messages.specs.Ranges.{InRanges}
use Rattle.dpe_model.specs.declared.lineage.Birth.{Birth}
use Rattle.dpe_messages.proofs.AcceptedLemmas.{accepted_in_ranges}
use Rattle.dpe_model.specs.State.{Row, State, serial, IsGiven, Agree, up_to, IsLineage, IsRow, DifferInMarks, Valid, start}
use Rattle.dpe_model.specs.Verdict.{used, makes, initializes, retains_parent, is_default_of, is_taken, has}
use Rattle.dpe_model.specs.Step.{done, Outcome, step, rows_left, rows_made, taken_out, family_out, same_birth, again, renamed, marked, child, root, new0, new1, input_of}
use Rattle.dpe_model.specs.History.{Entry, LegalFrom, after, after_all}
use Rattle.dpe_model.proofs.Accepted.{IsStep, refusing, obeying, each_step, Passed, passed, serial-handle_of}
use Rattle.dpe_model.proofs.Issues.{fits, found_row, new0_length, new1_length}
use Rattle.dpe_model.proofs.Runs.{append_all, rest_all, legal_tail}
use Rattle.dpe_model.proofs.Spent.{filter_all, weaker_all, used_all, used_is_found, found_all, taken_gone}
use Rattle.dpe_model.proofs.RowLists.{always_all, both_all, push_pairs, pairs_head, pairs_tail, filter_shorter, found_less}

-- ## Lineages

abbrev new_birth : ℕ → Input → Birth
new_birth serial input = record { serial = serial; input = input }

abbrev pub BornBefore : ℕ → List Birth → Type 0
BornBefore n lineage = AllByRecursion (λ birth. birth.serial < n) lineage

born_before : (first next : ℕ) (lineage : List Birth) → IsLineage first next lineage → BornBefore next lineage
born_before first next lineage h = weaker_all (λ (b : Birth). IsGiven first next b.serial) (λ (b : Birth). b.serial < next) (λ b k. k.1) lineage h.given

agree_itself : (xs : List Birth) → Agree xs xs
agree_itself xs = always_all _ (λ x. always_all _ (λ y e. refl) xs) xs

-- a later birth changes nothing of what stands before it
up_to_last : (m n : ℕ) (input : Input) (xs : List Birth) → m < n → up_to m (xs ++ new_birth n input ∷ []) ≡ up_to m xs
up_to_last m n input xs h =
    let late : nat_le n m ≡ false = grind (arith, nat_tests) in
    filter-append (λ birth. nat_le birth.serial m) xs (new_birth n input ∷ [])
    ∙ (ap (λ b. up_to m xs ++ cond b (new_birth n input ∷ []) []) late ∙ append-nil (up_to m xs))

-- what agrees with a lineage agrees with a child of it that is born later than all of both
agree_child : (n : ℕ) (input : Input) (xs ys : List Birth) → BornBefore n xs → Agree xs ys → Agree xs (ys ++ new_birth n input ∷ [])
agree_child n input xs ys b a =
    both_all (λ (x : Birth). x.serial < n) (λ (x : Birth). AllByRecursion (λ y. x.serial ≡ y.serial → up_to x.serial xs ≡ up_to x.serial ys) ys) _
    (λ x l h. append_all (λ (y : Birth). x.serial ≡ y.serial → up_to x.serial xs ≡ up_to x.serial (ys ++ new_birth n input ∷ [])) ys (new_birth n input ∷ [])
    (weaker_all (λ (y : Birth). x.serial ≡ y.serial → up_to x.serial xs ≡ up_to x.serial ys) (λ (y : Birth). x.serial ≡ y.serial → up_to x.serial xs ≡ up_to x.serial (ys ++ new_birth n input ∷ [])) (λ y k e. k e ∙ sym (up_to_last x.serial n input ys l)) ys h)
    (λ e. absurd (omega arith), tt))
    xs b a

child_agrees : (n : ℕ) (input : Input) (xs ys : List Birth) → BornBefore n xs → BornBefore n ys → Agree ys xs → Agree (ys ++ new_birth n input ∷ []) xs
child_agrees n input xs ys b c a =
    append_all (λ (x : Birth). AllByRecursion (λ y. x.serial ≡ y.serial → up_to x.serial (ys ++ new_birth n input ∷ []) ≡ up_to x.serial xs) xs) ys (new_birth n input ∷ [])
    (both_all (λ (x : Birth). x.serial < n) (λ (x : Birth). AllByRecursion (λ y. x.serial ≡ y.serial → up_to x.serial ys ≡ up_to x.serial xs) xs) _
    (λ x l h. weaker_all (λ (y : Birth). x.serial ≡ y.serial → up_to x.serial ys ≡ up_to x.serial xs) (λ (y : Birth). x.serial ≡ y.serial → up_to x.serial (ys ++ new_birth n input ∷ []) ≡ up_to x.serial xs) (λ y k e. up_to_last x.serial n input ys l ∙ k e) xs h)
    ys c a)
    (weaker_all (λ (y : Birth). y.serial < n) (λ (y : Birth). n ≡ y.serial → up_to n (ys ++ new_birth n input ∷ []) ≡ up_to n xs) (λ y l e. absurd (omega arith)) xs b, tt)

-- a child's lineage is none of those of before
not_child : (n : ℕ) (input : Input) (xs ys : List Birth) → BornBefore n xs → xs ≢ ys ++ new_birth n input ∷ []
not_child n input xs ys b e =
    let late = (rest_all (λ (x : Birth). x.serial < n) ys (new_birth n input ∷ []) (subst (BornBefore n) e b)).0 in omega arith

child_lineage : (first next : ℕ) (input : Input) (xs : List Birth) → first ≤ next → length xs ≤ 31 → input.mode ≤ 3 → IsLineage first next xs → IsLineage first (next + 1) (xs ++ new_birth next input ∷ [])
child_lineage first next input xs f short mode h = record {
  short = omega (arith, length-append xs (new_birth next input ∷ []));
  given = append_all _ xs (new_birth next input ∷ []) (weaker_all (λ (b : Birth). IsGiven first next b.serial) (λ (b : Birth). IsGiven first (next + 1) b.serial) (λ b k. (k.0, let l = k.1 in omega arith)) xs h.given) ((f, omega arith), tt);
  rising = push_pairs (λ a b. a.serial < b.serial) xs (new_birth next input) h.rising (born_before first next xs h);
  modes = append_all _ xs (new_birth next input ∷ []) h.modes (mode, tt);
}

wider_lineage : (first next more : ℕ) (xs : List Birth) → next ≤ more → IsLineage first next xs → IsLineage first more xs
wider_lineage first next more xs l h = record {
  short = h.short;
  given = weaker_all (λ (b : Birth). IsGiven first next b.serial) (λ (b : Birth). IsGiven first more b.serial) (λ b k. (k.0, let m = k.1 in omega arith)) xs h.given;
  rising = h.rising;
  modes = h.modes;
}

-- ## Rows

pub record Rows (first next : ℕ) (rows : List Row) : Type 0 where
  pub each : AllByRecursion (IsRow first next) rows
  pub rising : AllPairs (λ a b. serial a.handle < serial b.handle) rows
  pub differ : AllPairs (λ a b. a.lineage ≢ b.lineage) rows
  pub agree : AllByRecursion (λ a. AllByRecursion (λ b. Agree a.lineage b.lineage) rows) rows
  pub marks : AllPairs DifferInMarks rows

less_rows : (first next : ℕ) (p : Row → Bool) (rows : List Row) → Rows first next rows → Rows first next (filter p rows)
less_rows first next p rows h = record {
  each = filter_all _ p rows h.each;
  rising = AllPairs-filter (λ a b. serial a.handle < serial b.handle) p rows h.rising;
  differ = AllPairs-filter (λ a b. a.lineage ≢ b.lineage) p rows h.differ;
  agree = filter_all _ p rows (weaker_all (λ (a : Row). AllByRecursion (λ (b : Row). Agree a.lineage b.lineage) rows) (λ (a : Row). AllByRecursion (λ (b : Row). Agree a.lineage b.lineage) (filter p rows)) (λ a k. filter_all _ p rows k) rows h.agree);
  marks = AllPairs-filter DifferInMarks p rows h.marks;
}

wider_row : (first next more : ℕ) (row : Row) → next ≤ more → IsRow first next row → IsRow first more row
wider_row first next more row l h = record {
  handle = h.handle;
  given = (h.given.0, let m = h.given.1 in omega arith);
  locality = h.locality;
  lineage = wider_lineage first next more row.lineage l h.lineage;
}

-- what a row that comes new to others has
pub record Comes (first next : ℕ) (rows : List Row) (row : Row) : Type 0 where
  pub is_row : IsRow first (next + 1) row
  pub serial_is : serial row.handle ≡ next
  pub differs : AllByRecursion (λ b. b.lineage ≢ row.lineage) rows
  pub agrees : AllByRecursion (λ b. Agree b.lineage row.lineage) rows
  pub agreed : AllByRecursion (λ b. Agree row.lineage b.lineage) rows
  pub marks : AllByRecursion (λ b. DifferInMarks b row) rows

more_rows : (first next : ℕ) (rows : List Row) (row : Row) → Rows first next rows → Comes first next rows row → Rows first (next + 1) (rows ++ row ∷ [])
more_rows first next rows row h c = record {
  each = append_all _ rows (row ∷ []) (weaker_all (IsRow first next) (IsRow first (next + 1)) (λ b k. wider_row first next (next + 1) b (omega arith) k) rows h.each) (c.is_row, tt);
  rising = push_pairs (λ a b. serial a.handle < serial b.handle) rows row h.rising (weaker_all (IsRow first next) (λ b. serial b.handle < serial row.handle) (λ b k. let l = k.given.1 in let e = c.serial_is in omega arith) rows h.each);
  differ = push_pairs (λ a b. a.lineage ≢ b.lineage) rows row h.differ c.differs;
  agree = append_all _ rows (row ∷ [])
      (both_all (λ (a : Row). AllByRecursion (λ (b : Row). Agree a.lineage b.lineage) rows) (λ (a : Row). Agree a.lineage row.lineage) _ (λ a k l. append_all (λ (b : Row). Agree a.lineage b.lineage) rows (row ∷ []) k (l, tt)) rows h.agree c.agrees)
      (append_all (λ (b : Row). Agree row.lineage b.lineage) rows (row ∷ []) c.agreed (agree_itself row.lineage, tt), tt);
  marks = push_pairs DifferInMarks rows row h.marks c.marks;
}

wider_rows : (first next more : ℕ) (rows : List Row) → next ≤ more → Rows first next rows → Rows first more rows
wider_rows first next more rows l h = record {
  each = weaker_all (IsRow first next) (IsRow first more) (λ b k. wider_row first next more b l k) rows h.each;
  rising = h.rising;
  differ = h.differ;
  agree = h.agree;
  marks = h.marks;
}

-- ## The row that is used

-- what holds of each two rows holds of the found row and each other
apart_if : (R : Row → Row → Type 0) → ((a b : Row) → R a b → R b a) → (p : Row → Bool) (x row : Row) (xs : List Row) (b : Bool) → AllByRecursion (R x) xs →
    (find p xs ≡ Some row → AllByRecursion (λ other. bytes_eq other.handle row.handle ≡ false → R other row) xs) →
    cond b (Some x) (find p xs) ≡ Some row →
    AllByRecursion (λ other. bytes_eq other.handle row.handle ≡ false → R other row) (x ∷ xs)
apart_if R turned p x row xs true k rec e =
    let same : x ≡ row = cc in (
      λ n. absurd (let y = (bytes_eq-Decides x.handle row.handle).1 (ap (λ (r : Row). r.handle) same) in cc),
      weaker_all (R x) (λ (other : Row). bytes_eq other.handle row.handle ≡ false → R other row) (λ other d n. turned row other (subst (λ (r : Row). R r other) same d)) xs k,
    )
apart_if R turned p x row xs false k rec e =
    (λ n. (found_all (R x) p xs row k e).0, rec e)

apart : (R : Row → Row → Type 0) → ((a b : Row) → R a b → R b a) → (p : Row → Bool) (row : Row) (rows : List Row) → AllPairs R rows → find p rows ≡ Some row →
    AllByRecursion (λ other. bytes_eq other.handle row.handle ≡ false → R other row) rows
apart R turned p row [] h e = tt
apart R turned p row (x ∷ xs) h e = apart_if R turned p x row xs (p x) (pairs_head R x xs h) (apart R turned p row xs (pairs_tail R x xs h)) e

-- and so of the used row and each that is left when it is taken out
others : (R : Row → Row → Type 0) → ((a b : Row) → R a b → R b a) → (S : State) (l : ℕ) (request : Request) (row : Row) → AllPairs R S.rows → used S l request ≡ Some row →
    AllByRecursion (λ other. R other row) (taken_out row S.rows)
others R turned S l request row h u =
    both_all (λ (b : Row). bytes_eq b.handle row.handle ≡ false) (λ (b : Row). bytes_eq b.handle row.handle ≡ false → R b row) (λ (b : Row). R b row) (λ b n k. k n)
    (taken_out row S.rows) (taken_gone row S.rows)
    (filter_all _ (λ other. not (bytes_eq other.handle row.handle)) S.rows
    (used_is_found (λ r. AllByRecursion (λ other. bytes_eq other.handle r.handle ≡ false → R other r) S.rows) S l request row (λ p f. apart R turned p row S.rows h f) u))

lineages_turned : (a b : Row) → a.lineage ≢ b.lineage → b.lineage ≢ a.lineage
lineages_turned a b d e = d (sym e)

marks_turned : (a b : Row) → DifferInMarks a b → DifferInMarks b a
marks_turned a b d m n e = d n m (sym e)

-- what is known of the used row, and of those that are left when it is taken out
pub record Used (first next : ℕ) (left : List Row) (row : Row) : Type 0 where
  pub is_row : IsRow first next row
  pub rows : Rows first next left
  pub differs : AllByRecursion (λ b. b.lineage ≢ row.lineage) left
  pub agrees : AllByRecursion (λ b. Agree b.lineage row.lineage) left
  pub agreed : AllByRecursion (λ b. Agree row.lineage b.lineage) left
  pub marks : AllByRecursion (λ b. DifferInMarks b row) left

used_row : (S : State) (l : ℕ) (request : Request) (row : Row) → Rows S.first S.next S.rows → used S l request ≡ Some row → Used S.first S.next (taken_out row S.rows) row
used_row S l request row h u =
    let own = used_all (λ a. AllByRecursion (λ (b : Row). Agree a.lineage b.lineage) S.rows) S l request row h.agree u in
    let all = weaker_all (λ (a : Row). AllByRecursion (λ (b : Row). Agree a.lineage b.lineage) S.rows) (λ (a : Row). Agree a.lineage row.lineage) (λ a k. used_all (λ b. Agree a.lineage b.lineage) S l request row k u) S.rows h.agree in
    record {
      is_row = used_all (IsRow S.first S.next) S l request row h.each u;
      rows = less_rows S.first S.next (λ other. not (bytes_eq other.handle row.handle)) S.rows h;
      differs = others (λ a b. a.lineage ≢ b.lineage) lineages_turned S l request row h.differ u;
      agrees = filter_all _ (λ other. not (bytes_eq other.handle row.handle)) S.rows all;
      agreed = filter_all _ (λ other. not (bytes_eq other.handle row.handle)) S.rows own;
      marks = others DifferInMarks marks_turned S l request row h.marks u;
    }

-- ## The rows that are made

comes_again : (first next : ℕ) (left : List Row) (row : Row) (handle : List ℕ) → first ≤ next → length handle ≡ 16 → serial handle ≡ next → Used first next left row → Comes first next left (renamed row handle)
comes_again first next left row handle f n is u = record {
  is_row = record {
    handle = n;
    given = (let P : ℕ → Type 0 = λ k. (first ≤ k) × (k < next + 1) in subst P (sym is) (f, omega arith));
    locality = u.is_row.locality;
    lineage = wider_lineage first next (next + 1) row.lineage (omega arith) u.is_row.lineage;
  };
  serial_is = is;
  differs = u.differs;
  agrees = u.agrees;
  agreed = u.agreed;
  marks = u.marks;
}

-- the row that is marked or unmarked, where it then differs from the others in marks
used_marked : (first next : ℕ) (left : List Row) (row : Row) (default : Bool) → Used first next left row → AllByRecursion (λ b. DifferInMarks b (marked row default)) left → Used first next left (marked row default)
used_marked first next left row default u m = record {
  is_row = record { handle = u.is_row.handle; given = u.is_row.given; locality = u.is_row.locality; lineage = u.is_row.lineage };
  rows = u.rows;
  differs = u.differs;
  agrees = u.agrees;
  agreed = u.agreed;
  marks = m;
}

-- ## Marks

or_false : (a b : Bool) → (a || b) ≡ false → a ≡ false
or_false true b h = cc
or_false false b h = refl

or_false_right : (a b : Bool) → (a || b) ≡ false → b ≡ false
or_false_right true b h = cc
or_false_right false b h = h

-- no row of a locality where there is no default is marked
not_marked : (row : Row) (at : ℕ) → is_default_of at row ≡ false → row.default ≡ true → row.locality ≡ at → ⊥
not_marked row at h d e =
    let is : is_default_of at row ≡ true = (λ i. d i && nat_eq (e i) at) ∙ eq-eqb at at refl in cc

-- a test that comes before another, and fails with it
none_of : (p q : Row → Bool) (rows : List Row) → list_any (λ other. not (p other) && q other) rows ≡ false → AllByRecursion (λ other. p other ≡ false → q other ≡ false) rows
none_of p q [] h = tt
none_of p q (x ∷ xs) h =
    (λ n. here (p x) (q x) n (or_false (not (p x) && q x) (list_any (λ other. not (p other) && q other) xs) h), none_of p q xs (or_false_right (not (p x) && q x) (list_any (λ other. not (p other) && q other) xs) h))
  where
    here : (a b : Bool) → a ≡ false → (not a && b) ≡ false → b ≡ false
    here true b n h = cc
    here false b n h = h

-- a row that comes marked only where no other default stands differs in marks from the others
differ_in_marks : (rows : List Row) (row new : Row) (stays : Bool) → (new.default ≡ true → is_taken rows stays row new.locality ≡ false) → AllByRecursion (λ other. DifferInMarks other new) (taken_out row rows)
differ_in_marks rows row new stays free = by_mark new.default refl
  where
    by_mark : (b : Bool) → new.default ≡ b → AllByRecursion (λ other. DifferInMarks other new) (taken_out row rows)
    by_mark true is =
        let none = or_false (list_any (λ other. not (bytes_eq other.handle row.handle) && is_default_of new.locality other) rows) (stays && is_default_of new.locality row) (free is) in
        both_all (λ (other : Row). bytes_eq other.handle row.handle ≡ false) (λ (other : Row). bytes_eq other.handle row.handle ≡ false → is_default_of new.locality other ≡ false) (λ (other : Row). DifferInMarks other new)
        (λ other n k d m e. not_marked other new.locality (k n) d e)
        (taken_out row rows) (taken_gone row rows)
        (filter_all _ (λ other. not (bytes_eq other.handle row.handle)) rows (none_of (λ other. bytes_eq other.handle row.handle) (is_default_of new.locality) rows none))
    by_mark false is = always_all (λ other. DifferInMarks other new) (λ other d m e. absurd (let no : true ≡ false = sym m ∙ is in cc)) (taken_out row rows)

-- and from the used row where that one stays
differ_beside : (rows : List Row) (row new : Row) → (new.default ≡ true → is_taken rows true row new.locality ≡ false) → DifferInMarks new row
differ_beside rows row new free m d e =
    not_marked row new.locality (or_false_right (list_any (λ other. not (bytes_eq other.handle row.handle) && is_default_of new.locality other) rows) (is_default_of new.locality row) (free m)) d (sym e)

-- what the test on marks says
free_to_mark : (b : Bool) (at : ℕ) (test : ℕ → Bool) → has (cond b (Some at) None) test ≡ false → b ≡ true → test at ≡ false
free_to_mark true at test h is = h
free_to_mark false at test h is = cc

births_of : (first next : ℕ) (rows : List Row) → Rows first next rows → AllByRecursion (λ b. BornBefore next b.lineage) rows
births_of first next rows h = weaker_all (IsRow first next) (λ (b : Row). BornBefore next b.lineage) (λ b k. born_before first next b.lineage k.lineage) rows h.each

comes_child : (S : State) (l : ℕ) (random : List ℕ) (d : DeriveRequest) (left : List Row) (row : Row) → S.first ≤ S.next → length (new0 S random) ≡ 16 → serial (new0 S random) ≡ S.next →
    unwrap_or d.locality l ≤ 7 → d.mode ≤ 3 → length row.lineage ≤ 31 → Used S.first S.next left row → AllByRecursion (λ b. DifferInMarks b (child S l random d row)) left → Comes S.first S.next left (child S l random d row)
comes_child S l random d left row f n is t m short u marks =
    let next = S.next in
    let input = input_of d in
    let born = born_before S.first next row.lineage u.is_row.lineage in
    record {
      is_row = record {
        handle = n;
        given = (let P : ℕ → Type 0 = λ k. (S.first ≤ k) × (k < next + 1) in subst P (sym is) (f, omega arith));
        locality = t;
        lineage = child_lineage S.first next input row.lineage f short m u.is_row.lineage;
      };
      serial_is = is;
      differs = weaker_all (λ (b : Row). BornBefore next b.lineage) (λ (b : Row). b.lineage ≢ row.lineage ++ new_birth next input ∷ []) (λ b k. not_child next input b.lineage row.lineage k) left (births_of S.first next left u.rows);
      agrees = both_all (λ (b : Row). BornBefore next b.lineage) (λ (b : Row). Agree b.lineage row.lineage) (λ (b : Row). Agree b.lineage (row.lineage ++ new_birth next input ∷ []))
          (λ b k a. agree_child next input b.lineage row.lineage k a) left (births_of S.first next left u.rows) u.agrees;
      agreed = both_all (λ (b : Row). BornBefore next b.lineage) (λ (b : Row). Agree row.lineage b.lineage) (λ (b : Row). Agree (row.lineage ++ new_birth next input ∷ []) b.lineage)
          (λ b k a. child_agrees next input b.lineage row.lineage k born a) left (births_of S.first next left u.rows) u.agreed;
      marks = marks;
    }

-- the parent is still unlike the others once the child is there
used_after_child : (S : State) (l : ℕ) (random : List ℕ) (d : DeriveRequest) (left : List Row) (row : Row) → Comes S.first S.next left (child S l random d row) → DifferInMarks (child S l random d row) row → Used S.first S.next left row →
    Used S.first (S.next + 1) (left ++ child S l random d row ∷ []) row
used_after_child S l random d left row c beside u =
    let next = S.next in
    let input = input_of d in
    let new = child S l random d row in
    let born = born_before S.first next row.lineage u.is_row.lineage in
    record {
      is_row = wider_row S.first next (next + 1) row (omega arith) u.is_row;
      rows = more_rows S.first next left new u.rows c;
      differs = append_all (λ (b : Row). b.lineage ≢ row.lineage) left (new ∷ []) u.differs ((λ e. not_child next input row.lineage row.lineage born (sym e)), tt);
      agrees = append_all (λ (b : Row). Agree b.lineage row.lineage) left (new ∷ []) u.agrees (child_agrees next input row.lineage row.lineage born born (agree_itself row.lineage), tt);
      agreed = append_all (λ (b : Row). Agree row.lineage b.lineage) left (new ∷ []) u.agreed (agree_child next input row.lineage row.lineage born (agree_itself row.lineage), tt);
      marks = append_all (λ (b : Row). DifferInMarks b row) left (new ∷ []) u.marks (beside, tt);
    }

again_rows : (S : State) (random : List ℕ) (row : Row) (left : List Row) (retain : Bool) → S.first ≤ S.next → length random ≡ 32 → S.next < 2 ^ 64 → Used S.first S.next left row →
    Rows S.first (S.next + cond retain 1 0) (left ++ again S random row retain)
again_rows S random row left true f n b u =
    more_rows S.first S.next left (renamed row (new0 S random)) u.rows
    (comes_again S.first S.next left row (new0 S random) f (new0_length S random n) (serial-handle_of S.next (take 8 random) b) u)
again_rows S random row left false f n b u =
    subst (Rows S.first (S.next + 0)) (sym (append-nil left)) (wider_rows S.first S.next (S.next + 0) left (omega arith) u.rows)

derived_rows : (S : State) (l : ℕ) (random : List ℕ) (d : DeriveRequest) (row : Row) (left : List Row) (retain : Bool) → S.first ≤ S.next → length random ≡ 32 → S.next + cond retain 2 1 ≤ 2 ^ 64 - 1 →
    unwrap_or d.locality l ≤ 7 → d.mode ≤ 3 → length row.lineage ≤ 31 → Used S.first S.next left row → AllByRecursion (λ b. DifferInMarks b (child S l random d row)) left →
    (retain ≡ true → DifferInMarks (child S l random d row) row) → Rows S.first (S.next + cond retain 2 1) (left ++ child S l random d row ∷ cond retain (renamed row (new1 S random) ∷ []) [])
derived_rows S l random d row left false f n b t m short u marks beside =
    more_rows S.first S.next left (child S l random d row) u.rows
    (comes_child S l random d left row f (new0_length S random n) (serial-handle_of S.next (take 8 random) (omega arith)) t m short u marks)
derived_rows S l random d row left true f n b t m short u marks beside =
    let new = child S l random d row in
    let old = renamed row (new1 S random) in
    let c = comes_child S l random d left row f (new0_length S random n) (serial-handle_of S.next (take 8 random) (omega arith)) t m short u marks in
    let both = more_rows S.first (S.next + 1) (left ++ new ∷ []) old (more_rows S.first S.next left new u.rows c)
    (comes_again S.first (S.next + 1) (left ++ new ∷ []) row (new1 S random) (omega arith) (new1_length S random n) (serial-handle_of (S.next + 1) (take 8 (drop 8 random)) (omega arith))
    (used_after_child S l random d left row c (beside refl) u)) in
    let up : S.next + 1 + 1 ≡ S.next + 2 = omega arith in
    subst (λ k. Rows S.first k (left ++ new ∷ old ∷ [])) up (subst (Rows S.first (S.next + 1 + 1)) (append_assoc left (new ∷ []) (old ∷ [])) both)

in_range_target : (l : ℕ) (target : Option ℕ) → l ≤ 7 → IfSome target (λ locality. locality ≤ 7) → unwrap_or target l ≤ 7
in_range_target l None h k = h
in_range_target l (Some t) h k = k

not_deep : (n : ℕ) → n ≤ 32 → nat_eq n 32 ≡ false → n ≤ 31
not_deep n h k = grind (arith, nat_tests)

-- ## The whole step

record Before (seed : List ℕ) (S : State) (l : ℕ) (random : List ℕ) (request : Request) : Type 0 where
  valid : Valid S
  locality : l ≤ 7
  length : length random ≡ 32
  in_range : InRanges request

rows_of_valid : (S : State) → Valid S → Rows S.first S.next S.rows
rows_of_valid S v = record { each = v.each; rising = v.rising; differ = v.differ; agree = v.agree; marks = v.marks }

rows_after : (seed : List ℕ) (S : State) (l : ℕ) (random : List ℕ) (request : Request) (row : Row) → Before seed S l random request → Passed seed S l request (Some row) → used S l request ≡ Some row →
    Rows S.first (S.next + makes request) (rows_left request (Some row) S.rows ++ rows_made S l random request (Some row))
rows_after seed S l random get_profile row b t u = cc
rows_after seed S l random (initialize m) row b t u = cc
rows_after seed S l random (derive d) row b t u =
    let used = used_row S l (derive d) row (rows_of_valid S b.valid) u in
    let new = child S l random d row in
    let free : new.default ≡ true → is_taken S.rows d.retain row new.locality ≡ false = free_to_mark d.child_default (locality_or l d) (is_taken S.rows d.retain row) t.taken in
    let beside : d.retain ≡ true → DifferInMarks new row = λ r. differ_beside S.rows row new (λ m. ap (λ stays. is_taken S.rows stays row new.locality) (sym r) ∙ free m) in
    derived_rows S l random d row (taken_out row S.rows) d.retain b.valid.serials b.length (fits S.next (cond d.retain 2 1) t.serials)
    (in_range_target l d.locality b.locality b.in_range.locality) b.in_range.mode (not_deep (length row.lineage) used.is_row.lineage.short t.shallow) used
    (differ_in_marks S.rows row new d.retain free) beside
rows_after seed S l random (sign s) row b t u =
    let last = b.valid.last in again_rows S random row (taken_out row S.rows) s.retain b.valid.serials b.length (omega arith) (used_row S l (sign s) row (rows_of_valid S b.valid) u)
rows_after seed S l random (seal s) row b t u =
    let last = b.valid.last in again_rows S random row (taken_out row S.rows) s.retain b.valid.serials b.length (omega arith) (used_row S l (seal s) row (rows_of_valid S b.valid) u)
rows_after seed S l random (unseal s) row b t u =
    let last = b.valid.last in again_rows S random row (taken_out row S.rows) s.retain b.valid.serials b.length (omega arith) (used_row S l (unseal s) row (rows_of_valid S b.valid) u)
rows_after seed S l random (rotate h m) row b t u =
    let last = b.valid.last in
    let used = used_row S l (rotate h m) row (rows_of_valid S b.valid) u in
    let apart = differ_in_marks S.rows row (marked row m) false (free_to_mark m row.locality (is_taken S.rows false row) t.taken) in
    again_rows S random (marked row m) (taken_out row S.rows) true b.valid.serials b.length (omega arith) (used_marked S.first S.next (taken_out row S.rows) row m used apart)
rows_after seed S l random (destroy h true) row b t u =
    let left = family_out row (taken_out row S.rows) in
    subst (Rows S.first (S.next + 0)) (sym (append-nil left)) (wider_rows S.first S.next (S.next + 0) left (omega arith)
    (less_rows S.first S.next _ (taken_out row S.rows) (less_rows S.first S.next _ S.rows (rows_of_valid S b.valid))))
rows_after seed S l random (destroy h false) row b t u =
    let left = taken_out row S.rows in
    subst (Rows S.first (S.next + 0)) (sym (append-nil left)) (wider_rows S.first S.next (S.next + 0) left (omega arith)
    (less_rows S.first S.next _ S.rows (rows_of_valid S b.valid)))

-- taking the used row out leaves one row less
not_itself : (row : Row) → not (bytes_eq row.handle row.handle) ≡ false
not_itself row = ap not ((bytes_eq-Decides row.handle row.handle).1 refl)

taken_less : (S : State) (l : ℕ) (request : Request) (row : Row) → used S l request ≡ Some row → length (taken_out row S.rows) + 1 ≤ length S.rows
taken_less S l request row u =
    used_is_found (λ r. length (taken_out r S.rows) + 1 ≤ length S.rows) S l request row (λ p f. found_less (λ other. not (bytes_eq other.handle row.handle)) p S.rows row f (not_itself row)) u

left_less : (S : State) (l : ℕ) (request : Request) (row : Row) → used S l request ≡ Some row → length (rows_left request (Some row) S.rows) + 1 ≤ length S.rows
left_less S l get_profile row u = cc
left_less S l (initialize m) row u = cc
left_less S l (derive d) row u = taken_less S l (derive d) row u
left_less S l (sign d) row u = taken_less S l (sign d) row u
left_less S l (seal d) row u = taken_less S l (seal d) row u
left_less S l (unseal d) row u = taken_less S l (unseal d) row u
left_less S l (rotate h m) row u = taken_less S l (rotate h m) row u
left_less S l (destroy h false) row u = taken_less S l (destroy h false) row u
left_less S l (destroy h true) row u = let a = taken_less S l (destroy h true) row u in let b = filter_shorter (λ other. not (starts_with same_birth other.lineage row.lineage)) (taken_out row S.rows) in omega arith

again_length : (S : State) (random : List ℕ) (row : Row) (retain : Bool) → length (again S random row retain) ≤ 1
again_length S random row true = omega arith
again_length S random row false = omega arith

derived_length : (S : State) (l : ℕ) (random : List ℕ) (d : DeriveRequest) (row : Row) (retain : Bool) → length (child S l random d row ∷ cond retain (renamed row (new1 S random) ∷ []) []) ≤ cond retain 2 1
derived_length S l random d row true = omega arith
derived_length S l random d row false = omega arith

made_length : (S : State) (l : ℕ) (random : List ℕ) (request : Request) (row : Row) → length (rows_made S l random request (Some row)) ≤ cond (retains_parent request) 2 1
made_length S l random get_profile row = omega arith
made_length S l random (initialize m) row = omega arith
made_length S l random (derive d) row = derived_length S l random d row d.retain
made_length S l random (sign d) row = again_length S random row d.retain
made_length S l random (seal d) row = again_length S random row d.retain
made_length S l random (unseal d) row = again_length S random row d.retain
made_length S l random (rotate h m) row = omega arith
made_length S l random (destroy h r) row = omega arith

room_for : (rows left made : ℕ) (retain : Bool) → retain && nat_eq rows 1024 ≡ false → rows ≤ 1024 → left + 1 ≤ rows → made ≤ cond retain 2 1 → left + made ≤ 1024
room_for rows left made true t r l m = grind (arith, nat_tests)
room_for rows left made false t r l m = omega arith

or_true : (a : Bool) → (a || true) ≡ false → ⊥
or_true true h = cc
or_true false h = cc

-- a row was used, so there was one, and so the root was made
never_empty : (S : State) (l : ℕ) (request : Request) (row : Row) → S.rows ≡ [] → used S l request ≡ Some row → ⊥
never_empty S l request row e u = used_all (λ row. ⊥) S l request row (subst (AllByRecursion (λ (row : Row). ⊥)) (sym e) tt) u

comes_root : (S : State) (random : List ℕ) (m : Bool) → S.first ≤ S.next → length (new0 S random) ≡ 16 → serial (new0 S random) ≡ S.next → Comes S.first S.next [] (root (new0 S random) m)
comes_root S random m f n is = record {
  is_row = record {
    handle = n;
    given = (let P : ℕ → Type 0 = λ k. (S.first ≤ k) × (k < S.next + 1) in subst P (sym is) (f, omega arith));
    locality = omega arith;
    lineage = record { short = omega arith; given = tt; rising = λ i j d l m. absurd (omega arith); modes = tt };
  };
  serial_is = is;
  differs = tt;
  agrees = tt;
  agreed = tt;
  marks = tt;
}

valid_init : (seed : List ℕ) (S : State) (l : ℕ) (random : List ℕ) (m : Bool) → Before seed S l random (initialize m) → Passed seed S l (initialize m) None → Valid (done seed S l random (initialize m) None).state
valid_init seed S l random m b t =
    let empty = b.valid.unmade t.unmade in
    let last = b.valid.last in
    let first = b.valid.serials in
    let fit = fits S.next 1 t.serials in
    let rows = more_rows S.first S.next S.rows (root (new0 S random) m) (rows_of_valid S b.valid)
    (subst (λ rows. Comes S.first S.next rows (root (new0 S random) m)) (sym empty) (comes_root S random m first (new0_length S random b.length) (serial-handle_of S.next (take 8 random) (omega arith)))) in
    record {
      serials = omega arith;
      last = fit;
      room = omega (arith, length-append S.rows (root (new0 S random) m ∷ []), ap length empty);
      unmade = λ h. absurd (or_true S.made h);
      each = rows.each;
      rising = rows.rising;
      differ = rows.differ;
      agree = rows.agree;
      marks = rows.marks;
    }

valid_used : (seed : List ℕ) (S : State) (l : ℕ) (random : List ℕ) (request : Request) (row : Row) → Before seed S l random request → Passed seed S l request (Some row) → used S l request ≡ Some row → Valid (done seed S l random request (Some row)).state
valid_used seed S l random request row b t u =
    let rows = rows_after seed S l random request row b t u in
    let first = b.valid.serials in
    let fit = fits S.next (makes request) t.serials in
    let left = rows_left request (Some row) S.rows in
    let made = rows_made S l random request (Some row) in
    let room = room_for (length S.rows) (length left) (length made) (retains_parent request) t.room b.valid.room (left_less S l request row u) (made_length S l random request row) in
    record {
      serials = omega arith;
      last = fit;
      room = subst (λ n. n ≤ 1024) (sym (length-append left made)) room;
      unmade = λ h. absurd (never_empty S l request row (b.valid.unmade (or_false S.made (initializes request) h)) u);
      each = rows.each;
      rising = rows.rising;
      differ = rows.differ;
      agree = rows.agree;
      marks = rows.marks;
    }

same_state : (S : State) → Valid S → Valid (record { first = S.first; next = S.next + 0; made = S.made || false; rows = S.rows ++ [] })
same_state S v =
    let rows = subst (Rows S.first (S.next + 0)) (sym (append-nil S.rows)) (wider_rows S.first S.next (S.next + 0) S.rows (omega arith) (rows_of_valid S v)) in
    let serials = v.serials in
    let last = v.last in
    let room = v.room in
    record {
      serials = omega arith;
      last = omega arith;
      room = subst (λ rows. length rows ≤ 1024) (sym (append-nil S.rows)) room;
      unmade = λ h. append-nil S.rows ∙ v.unmade (or_false S.made false h);
      each = rows.each;
      rising = rows.rising;
      differ = rows.differ;
      agree = rows.agree;
      marks = rows.marks;
    }

valid_done : (seed : List ℕ) (S : State) (l : ℕ) (random : List ℕ) (request : Request) (o : Option Row) → Before seed S l random request → Passed seed S l request o → used S l request ≡ o → Valid (done seed S l random request o).state
valid_done seed S l random request (Some row) b t u = valid_used seed S l random request row b t u
valid_done seed S l random (initialize m) None b t u = valid_init seed S l random m b t
valid_done seed S l random get_profile None b t u = same_state S b.valid
valid_done seed S l random (derive d) None b t u = absurd (let k = found_row d.handle None t.found t.default in cc)
valid_done seed S l random (sign d) None b t u = absurd (let k = found_row d.handle None t.found t.default in cc)
valid_done seed S l random (seal d) None b t u = absurd (let k = found_row d.handle None t.found t.default in cc)
valid_done seed S l random (unseal d) None b t u = absurd (let k = found_row d.handle None t.found t.default in cc)
valid_done seed S l random (rotate h m) None b t u = absurd (let k = found_row h None t.found t.default in cc)
valid_done seed S l random (destroy h r) None b t u = absurd (let k = found_row h None t.found t.default in cc)

valid_step : (seed : List ℕ) (S : State) (l : ℕ) (random payload : List ℕ) → l ≤ 7 → length random ≡ 32 → Valid S → (o : Outcome) → IsStep seed S l random payload o → Valid o.state
valid_step seed S l random payload t n v o (refusing code c) = v
valid_step seed S l random payload t n v o (obeying request is ok) =
    valid_done seed S l random request (used S l request)
    (record { valid = v; locality = t; length = n; in_range = accepted_in_ranges payload request is })
    (passed seed S l request (used S l request) ok) refl

pub stays_valid : (seed : List ℕ) (S : State) (l : ℕ) (random payload : List ℕ) → l ≤ 7 → length random ≡ 32 → Valid S → Valid (step seed S l random payload).state
stays_valid seed S l random payload t n v = valid_step seed S l random payload t n v (step seed S l random payload) (each_step seed S l random payload)

pub valid_all : (seed : List ℕ) (S : State) (es : List Entry) → LegalFrom seed S es → Valid S → Valid (after_all seed S es)
valid_all seed S [] h v = v
valid_all seed S (e ∷ es) h v = valid_all seed (after seed S e) es (legal_tail seed S e es h) (stays_valid seed S e.locality e.random e.payload h.entries.0.locality h.entries.0.random.0 v)

pub valid_start : (first : ℕ) → first < 2 ^ 64 → Valid (start first)
valid_start first l = record {
  serials = omega arith;
  last = omega arith;
  room = omega arith;
  unmade = λ h. refl;
  each = tt;
  rising = λ i j d l m. absurd (omega arith);
  differ = λ i j d l m. absurd (omega arith);
  agree = tt;
  marks = λ i j d l m. absurd (omega arith);
}
