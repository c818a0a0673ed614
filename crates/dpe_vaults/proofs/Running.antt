-- What the loop over the items keeps, and how it ends.
use Rattle.std.proofs.Common.{◌≡◌, ◌≢◌, ℕ, ◌+◌, ◌<◌, ◌≤◌, List, [], ◌∷◌, ◌++◌, length, Option, refl, sym, ap, subst, ◌∙◌, append_assoc, append-nil, arith}
use Rattle.std.specs.Io.KnownBytes.{Consumes, Appends, Keeps, IsAtEnd}
use Rattle.std.proofs.KnownBytes.{Consumes-nil, Consumes-trans, Appends-nil, Appends-trans, Appends-kept}
use Rattle.std.proofs.lemmas.List.{length-append}
use Rattle.dpe_desk.specs.Entries.{entry}
use Rattle.dpe_text.specs.Writing.{AppendsFront}
use Rattle.dpe_text.proofs.Fronts.{then_front}
use Rattle.dpe_vaults.specs.declared.item.Taken.{Taken}
use Rattle.dpe_vaults.specs.declared.item.Taken.TheVariants.{Whole, End, NoItem, Fault}
use Rattle.dpe_vaults.specs.Calls.{Call, IsCall}
use Rattle.dpe_vaults.specs.Kept.{Called, calls_of, reply_to}
use Rattle.dpe_vaults.specs.Views.{VaultView, with_entry, next_entry}
use Rattle.dpe_vaults.specs.Items.{item_bytes, all_bytes, AreCalls, BeginsNoItem, LeavesNoItem, reply_bytes, answers_after, answers, ReadsEnd}
use Rattle.dpe_vaults.specs.Runs.{IsBehind, Ran}
use Rattle.dpe_vaults.proofs.Held.{calls_more}
use Rattle.dpe_vaults.proofs.ItemParts.{too_short}

-- ---- one item more

pub bytes_more : (cs : List Call) (c : Call) → all_bytes (cs ++ c ∷ []) ≡ all_bytes cs ++ item_bytes c
bytes_more [] c = append-nil (item_bytes c)
bytes_more (x ∷ cs) c = ap (λ (t : List ℕ). item_bytes x ++ t) (bytes_more cs c) ∙ sym (append_assoc (item_bytes x) (all_bytes cs) (item_bytes c))

are_more : (cs : List Call) (c : Call) → AreCalls cs → IsCall c → AreCalls (cs ++ c ∷ [])
are_more [] c are is = (is, tt)
are_more (x ∷ cs) c are is = (are.0, are_more cs c are.1 is)

answers_more : (before cs : List Call) (c : Call) → answers_after before (cs ++ c ∷ []) ≡ answers_after before cs ++ reply_bytes (reply_to (before ++ cs) c)
answers_more before [] c =
    append-nil (reply_bytes (reply_to before c)) ∙ ap (λ (b : List Call). reply_bytes (reply_to b c)) (sym (append-nil before))
answers_more before (x ∷ cs) c =
    ap (λ (t : List ℕ). reply_bytes (reply_to before x) ++ t)
    (answers_more (before ++ x ∷ []) cs c
    ∙ ap (λ (b : List Call). answers_after (before ++ x ∷ []) cs ++ reply_bytes (reply_to b c)) (append_assoc before (x ∷ []) cs))
    ∙ sym (append_assoc (reply_bytes (reply_to before x)) (answers_after (before ++ x ∷ []) cs) (reply_bytes (reply_to (before ++ x ∷ cs) c)))

-- ---- the loop

-- so many items were read and answered, and no call failed
pub record IsRunning (most : ℕ) (left_old left_now got_old got_now : Option (List ℕ)) (vault : VaultView) (count : ℕ) : Type 0 where
  pub items : List Call
  pub each : AreCalls items
  pub many : length items ≡ count
  pub read : Consumes left_old left_now (all_bytes items)
  pub written : Appends got_old got_now (answers items)
  pub asked : calls_of vault.entries ≡ items
  pub stored : length vault.entries ≡ count
  pub room : vault.capacity ≡ most

pub running_start : (most : ℕ) (a x : Option (List ℕ)) (vault : VaultView) → vault ≡ record { capacity = most; entries = [] } → IsRunning most a a x x vault 0
running_start most a x vault is = record {
  items = [];
  each = tt;
  many = refl;
  read = Consumes-nil a;
  written = Appends-nil x;
  asked = ap (λ (v : VaultView). calls_of v.entries) is;
  stored = ap (λ (v : VaultView). length v.entries) is;
  room = ap (λ (v : VaultView). v.capacity) is;
}

module _ (most : ℕ) (a b x y : Option (List ℕ)) (vault : VaultView) (count : ℕ) (r : IsRunning most a b x y vault count) where
  -- the replies of the items with one more
  then_reply : (c : Call) → reply_bytes (reply_to (calls_of vault.entries) c) ≡ reply_bytes (reply_to r.items c)
  then_reply c = ap (λ (cs : List Call). reply_bytes (reply_to cs c)) r.asked

  then_read : (b' : Option (List ℕ)) (c : Call) → Consumes b b' (item_bytes c) → Consumes a b' (all_bytes (r.items ++ c ∷ []))
  then_read b' c read = subst (λ (t : List ℕ). Consumes a b' t) (sym (bytes_more r.items c)) (Consumes-trans a b b' (all_bytes r.items) (item_bytes c) r.read read)

  pub running_more : (b' y' : Option (List ℕ)) (next : VaultView) (c : Call) → IsCall c → Consumes b b' (item_bytes c) → next ≡ with_entry vault (next_entry vault 0 c)
      → Appends y y' (reply_bytes (reply_to (calls_of vault.entries) c)) → IsRunning most a b' x y' next (count + 1)
  running_more b' y' next c is read becomes written = record {
    items = r.items ++ c ∷ [];
    each = are_more r.items c r.each is;
    many = omega (arith, r.many, length-append r.items (c ∷ []));
    read = then_read b' c read;
    written =
        subst (λ (t : List ℕ). Appends x y' t) (sym (answers_more [] r.items c))
        (Appends-trans x y y' (answers r.items) (reply_bytes (reply_to r.items c)) r.written
        (subst (λ (t : List ℕ). Appends y y' t) (then_reply c) written));
    asked =
        ap (λ (v : VaultView). calls_of v.entries) becomes ∙ calls_more vault.entries (next_entry vault 0 c)
        ∙ ap (λ (cs : List Call). cs ++ c ∷ []) r.asked;
    stored =
        ap (λ (v : VaultView). length v.entries) becomes
        ∙ omega (arith, length-append vault.entries (next_entry vault 0 c ∷ []), r.stored);
    room = ap (λ (v : VaultView). v.capacity) becomes ∙ r.room;
  }

  ran_by : (b' : Option (List ℕ)) (part : List ℕ) (status : ℕ) → Consumes b b' part → IsBehind most (length r.items) b' part status → status ≢ 7
      → Ran most a b' x y status
  ran_by b' part status read behind ok = record {
    items = r.items;
    part = part;
    each = r.each;
    read = Consumes-trans a b b' (all_bytes r.items) part r.read read;
    behind = behind;
    written = λ n. r.written;
    unsent = λ e. absurd (ok e);
  }

  pub running_done : (b' : Option (List ℕ)) → count ≤ most → Consumes b b' [] → IsAtEnd b' → Ran most a b' x y 0
  running_done b' few read end =
      ran_by b' [] 0 read (record {
        few = omega (arith, few, r.many);
        ended = λ e. (refl, end);
        cut = λ e. absurd (omega arith);
        malformed = λ e. absurd (omega arith);
        overlong = λ e. absurd (omega arith);
      }) (λ e. omega arith)

  pub running_cut : (b' : Option (List ℕ)) (part : List ℕ) → count ≤ most → Consumes b b' part → BeginsNoItem part → Ran most a b' x y 4
  running_cut b' part few read cut =
      ran_by b' part 4 read (record {
        few = omega (arith, few, r.many);
        ended = λ e. absurd (omega arith);
        cut = λ e. cut;
        malformed = λ e. absurd (omega arith);
        overlong = λ e. absurd (omega arith);
      }) (λ e. omega arith)

  pub running_malformed : (b' : Option (List ℕ)) (part : List ℕ) → count < most → Consumes b b' part → 0 < length part → LeavesNoItem b' part
      → Ran most a b' x y 9
  running_malformed b' part few read some fault =
      ran_by b' part 9 read (record {
        few = omega (arith, few, r.many);
        ended = λ e. absurd (omega arith);
        cut = λ e. absurd (omega arith);
        malformed = λ e. (omega (arith, few, r.many), some, fault);
        overlong = λ e. absurd (omega arith);
      }) (λ e. omega arith)

  pub running_overlong : (b' : Option (List ℕ)) (part : List ℕ) → count ≡ most → Consumes b b' part → 0 < length part → Ran most a b' x y 10
  running_overlong b' part all read some =
      ran_by b' part 10 read (record {
        few = omega (arith, all, r.many);
        ended = λ e. absurd (omega arith);
        cut = λ e. absurd (omega arith);
        malformed = λ e. absurd (omega arith);
        overlong = λ e. (r.many ∙ all, some);
      }) (λ e. omega arith)

  pub running_unsent : (b' y' : Option (List ℕ)) (c : Call) → count < most → IsCall c → Consumes b b' (item_bytes c)
      → AppendsFront y y' (reply_bytes (reply_to (calls_of vault.entries) c)) → Ran most a b' x y' 7
  running_unsent b' y' c few is read front = record {
    items = r.items ++ c ∷ [];
    part = [];
    each = are_more r.items c r.each is;
    read = subst (λ (t : List ℕ). Consumes a b' t) (sym (append-nil (all_bytes (r.items ++ c ∷ [])))) (then_read b' c read);
    behind = record {
      few = omega (arith, few, r.many, length-append r.items (c ∷ []));
      ended = λ e. absurd (omega arith);
      cut = λ e. absurd (omega arith);
      malformed = λ e. absurd (omega arith);
      overlong = λ e. absurd (omega arith);
    };
    written = λ n. absurd (n refl);
    unsent = λ e.
        subst (λ (t : List ℕ). AppendsFront x y' t) (sym (answers_more [] r.items c))
        (then_front x y y' (answers r.items) (reply_bytes (reply_to r.items c)) r.written
        (subst (λ (t : List ℕ). AppendsFront y y' t) (then_reply c) front));
  }

-- nothing was taken of a room for one byte
pub nothing_taken : (part : List ℕ) → length part < 1 → BeginsNoItem part
nothing_taken part none = too_short part (omega arith)

-- what is left, where nothing stands behind the last item and the source didn't fail
pub read_to_end : (a b : Option (List ℕ)) (taken : Taken) → ReadsEnd a b taken → (taken ≡ NoItem → ⊥) → (taken ≡ Fault → ⊥) → Consumes a b [] × IsAtEnd b
read_to_end a b Whole read more fault = absurd read
read_to_end a b End read more fault = read
read_to_end a b NoItem read more fault = absurd (more refl)
read_to_end a b Fault read more fault = absurd (fault refl)

-- ---- after the last flush

pub ran_kept : (most : ℕ) (a b x y z : Option (List ℕ)) (status : ℕ) → Ran most a b x y status → status ≢ 7 → Keeps y z → Ran most a b x z status
ran_kept most a b x y z status r ok kept = record {
  items = r.items;
  part = r.part;
  each = r.each;
  read = r.read;
  behind = r.behind;
  written = λ n. Appends-kept x y z (answers r.items) (r.written ok) kept;
  unsent = λ e. absurd (ok e);
}

pub ran_unsent : (most : ℕ) (a b x y z : Option (List ℕ)) (status : ℕ) → Ran most a b x y status → status ≢ 7 → Keeps y z → Ran most a b x z 7
ran_unsent most a b x y z status r ok kept = record {
  items = r.items;
  part = r.part;
  each = r.each;
  read = r.read;
  behind = record {
    few = r.behind.few;
    ended = λ e. absurd (omega arith);
    cut = λ e. absurd (omega arith);
    malformed = λ e. absurd (omega arith);
    overlong = λ e. absurd (omega arith);
  };
  written = λ n. absurd (n refl);
  unsent = λ e. (answers r.items, [], sym (append-nil (answers r.items)), Appends-kept x y z (answers r.items) (r.written ok) kept);
}
