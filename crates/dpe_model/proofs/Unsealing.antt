-- What was sealed is unsealed.
use Rattle.std.proofs.Common.{arith, ◌≡◌, ◌⊎◌, inl, inr, ℕ, ◌+◌, ◌-◌, ◌^◌, ◌≤◌, List, [], ◌∷◌, ◌++◌, refl, ap, sym, ◌∙◌, subst, not, Bool, true, false, cond, nat_eq, nat_lt, Option, Some, None, length, fold, is_some, option_and_then}
use Rattle.std.proofs.lemmas.Bool.{eq-eqb}
use Rattle.std.proofs.lemmas.Bool.Decides.{nat_tests}
use Rattle.std.proofs.lemmas.List.{length-drop}
use Rattle.dpe_inputs.specs.declared.Input.{Input}
use Rattle.dpe_inputs.specs.Cdi.{seal_cdi, seal_step}
use Rattle.dpe_box.specs.declared.policy.Policy.{Policy}
use Rattle.dpe_box.specs.Sealed as boxes
use Rattle.dpe_box.proofs.BoxLemmas.{opens_as_sealed}
use Rattle.dpe_messages.specs.FlatMap.{value_at}
use Rattle.dpe_messages.specs.Request.{SealRequest, UnsealRequest, seal, unseal, bytes_if}
use Rattle.dpe_messages.specs.Class as classes
use Rattle.dpe_messages.specs.Replies as replies
use Rattle.dpe_messages.specs.Replies.{reply_payload}
use Rattle.dpe_messages.proofs.AcceptedLemmas.{accepted_in_ranges}
use Rattle.dpe_model.specs.State.{Row, State, start, path, mode}
use Rattle.dpe_model.specs.Verdict.{used, verdict, tests, first_code, makes, is_malformed, is_refused, is_kept_from}
use Rattle.dpe_model.specs.Step.{new_if, answer, text_of, stepped, judged, masks_of, salt_of}
use Rattle.dpe_model.specs.History.{Entry, LegalFrom, after, after_all, path_at, Sealing, seal_path, is_accepted, request_at, reply_to, reply_code, reply_bytes}
use Rattle.dpe_model.specs.Laws.{MayUnseal, SerialsSpent, IsReplyWith, IsRefusedForSerials}
use Rattle.dpe_model.proofs.Messages.{reply_read, code_read}
use Rattle.dpe_model.proofs.Accepted.{passed}
use Rattle.dpe_model.proofs.Issues.{answer_sendable, row_used}
use Rattle.dpe_model.proofs.Answered.{class_is, answered, path_is}
use Rattle.dpe_model.proofs.Runs.{legal_head, legal_tail, legal_rest, after_append}

-- ## The Seal

-- the box, under the path at its entry
record SealedAt (seed : List ℕ) (S : State) (e : Entry) (s : SealRequest) (box : List ℕ) : Type 0 where
  path : List Input
  is_path : path_at S e ≡ path
  is_box : box ≡ boxes.sealed_box (seal_cdi seed path) s.label (masks_of s) (salt_of e.random) s.plain

bytes_read : (h : Option (List ℕ)) (b : List ℕ) → replies.IsSendable (replies.made h b) → reply_bytes 2 (reply_payload (replies.made h b)) ≡ Some b
bytes_read None b s = ap (option_and_then (λ r. bytes_if (value_at 2 r.1))) (reply_read (replies.made None b) s)
bytes_read (Some h) b s = ap (option_and_then (λ r. bytes_if (value_at 2 r.1))) (reply_read (replies.made (Some h) b) s)

seal_row : (seed : List ℕ) (S : State) (e : Entry) (s : SealRequest) (box : List ℕ) → length e.random ≡ 32 → is_accepted e ≡ true → request_at e ≡ Some (seal s) → reply_bytes 2 e.reply ≡ Some box →
    e.reply ≡ reply_payload (answer seed S e.random (seal s) (used S e.locality (seal s))) →
    (o : Option Row) → used S e.locality (seal s) ≡ o → true ≡ is_some o → SealedAt seed S e s box
seal_row seed S e s box n a c r h None u t = cc
seal_row seed S e s box n a c r h (Some row) u t =
    let made = boxes.sealed_box (seal_cdi seed (path row)) s.label (masks_of s) (salt_of e.random) s.plain in
    let may = answer_sendable seed S e.random (seal s) (Some row) n refl (accepted_in_ranges e.payload (seal s) (class_is e (seal s) c)) in
    let told : e.reply ≡ reply_payload (replies.made (new_if S e.random s.retain) made) = h ∙ ap (λ o. reply_payload (answer seed S e.random (seal s) o)) u in
    let same : Some box ≡ Some made = sym r ∙ (ap (reply_bytes 2) told ∙ bytes_read (new_if S e.random s.retain) made may) in
    record {
      path = path row;
      is_path = path_is S e (seal s) (Some row) a c u;
      is_box = cc;
    }

sealed_at : (seed : List ℕ) (S : State) (e : Entry) (es : List Entry) (s : SealRequest) (box : List ℕ) → LegalFrom seed S (e ∷ es) → is_accepted e ≡ true → request_at e ≡ Some (seal s) → reply_bytes 2 e.reply ≡ Some box → SealedAt seed S e s box
sealed_at seed S e es s box l a c r =
    let h = answered seed S e es (seal s) l a c in
    seal_row seed S e s box l.entries.0.random.0 a c r h.reply (used S e.locality (seal s)) refl (row_used seed S e.locality (seal s) (passed seed S e.locality (seal s) (used S e.locality (seal s)) h.ok))

-- ## The Unseal

-- an input with no more than goes into a sealing CDI
bare : Sealing → Input
bare x = record { code = []; config = []; authority = x.authority; mode = x.mode; hidden = x.hidden }

seal_bare : (seed : List ℕ) (p : List Input) → seal_cdi seed p ≡ fold (λ cdi x. seal_step cdi (bare x)) seed (seal_path p)
unfolding bare
seal_bare seed [] = refl
seal_bare seed (x ∷ p) = seal_bare (seal_step seed x) p

same_cdi : (seed : List ℕ) (p q : List Input) → seal_path p ≡ seal_path q → seal_cdi seed p ≡ seal_cdi seed q
same_cdi seed p q same = seal_bare seed p ∙ (ap (fold (λ cdi x. seal_step cdi (bare x)) seed) same ∙ sym (seal_bare seed q))

opens : (seed : List ℕ) (p q : List Input) (label label' salt box plain : List ℕ) (masks : Policy) → seal_path p ≡ seal_path q → label ≡ label' → box ≡ boxes.sealed_box (seal_cdi seed q) label' masks salt plain →
    masks.modes ≤ 15 → length salt ≡ 16 → length plain ≤ 2048 → boxes.opened (seal_cdi seed p) label box ≡ boxes.opened_as masks plain
opens seed p q label label' salt box plain masks same l b m n t =
    ap (λ cdi. boxes.opened cdi label box) (same_cdi seed p q same)
    ∙ (ap (λ k. boxes.opened (seal_cdi seed q) k box) l
    ∙ (ap (boxes.opened (seal_cdi seed q) label') b ∙ opens_as_sealed (seal_cdi seed q) label' masks salt plain m n t))

unseal_verdict : (seed : List ℕ) (T : State) (l : ℕ) (u : UnsealRequest) (row : Row) (masks : Policy) (plain : List ℕ) →
    not (nat_eq row.locality l) ≡ false → boxes.opened (seal_cdi seed (path row)) u.label u.sealed ≡ boxes.opened_as masks plain → not (boxes.admits masks l (mode row)) ≡ false →
    first_code (tests seed T l (unseal u) (Some row)) ≡ cond (nat_lt (2 ^ 64 - 1) (T.next + makes (unseal u))) (Some 25) None
unseal_verdict seed T l u row masks plain owner opens admitted =
    let full = nat_lt (2 ^ 64 - 1) (T.next + makes (unseal u)) in
    let from : boxes.Opening → Option ℕ = λ o. cond full (Some 25) (cond (is_malformed o) (Some 22) (cond (is_refused o) (Some 23) (cond (is_kept_from l (mode row) o) (Some 24) None))) in
    ap (λ b. cond b (Some 18) (from (boxes.opened (seal_cdi seed (path row)) u.label u.sealed))) owner
    ∙ (ap from opens ∙ ap (λ b. cond full (Some 25) (cond b (Some 24) None)) admitted)

spent : (T : State) (u : UnsealRequest) → nat_lt (2 ^ 64 - 1) (T.next + makes (unseal u)) ≡ true → SerialsSpent T (unseal u)
spent T u h = grind (arith, nat_tests)

unsealed_at : (seed : List ℕ) (T : State) (f : Entry) (u : UnsealRequest) (row : Row) (masks : Policy) (plain : List ℕ) →
    f.reply ≡ reply_to seed T f → classes.class f.payload ≡ classes.accepted (unseal u) → used T f.locality (unseal u) ≡ Some row → row.locality ≡ f.locality →
    boxes.opened (seal_cdi seed (path row)) u.label u.sealed ≡ boxes.opened_as masks plain → boxes.admits masks f.locality (mode row) ≡ true →
    IsReplyWith plain f.reply ⊎ IsRefusedForSerials T (unseal u) f.reply
unsealed_at seed T f u row masks plain r is live owner opens admitted =
    by_serials (nat_lt (2 ^ 64 - 1) (T.next + makes (unseal u))) refl
    (ap (λ o. first_code (tests seed T f.locality (unseal u) o)) live
    ∙ unseal_verdict seed T f.locality u row masks plain (own row.locality f.locality owner) opens (ap not admitted))
  where
    own : (a b : ℕ) → a ≡ b → not (nat_eq a b) ≡ false
    own a b h = ap not (eq-eqb a b h)

    told : (v : Option ℕ) → verdict seed T f.locality (unseal u) ≡ v → f.reply ≡ reply_payload (judged seed T f.locality f.random (unseal u) v).reply
    told v h = r ∙ (ap (λ c. reply_payload (stepped seed T f.locality f.random c).reply) is ∙ ap (λ v. reply_payload (judged seed T f.locality f.random (unseal u) v).reply) h)

    by_serials : (b : Bool) → nat_lt (2 ^ 64 - 1) (T.next + makes (unseal u)) ≡ b → verdict seed T f.locality (unseal u) ≡ cond b (Some 25) None →
        IsReplyWith plain f.reply ⊎ IsRefusedForSerials T (unseal u) f.reply
    by_serials true t h = inr (ap reply_code (told (Some 25) h) ∙ code_read (replies.refused 25) (inr (inr (inr (omega arith, omega arith)))), spent T u t)
    by_serials false t h =
        inl (
          new_if T f.random u.retain,
          told None h
              ∙ (ap (λ o. reply_payload (answer seed T f.random (unseal u) o)) live
              ∙ ap (λ o. reply_payload (replies.made (new_if T f.random u.retain) (text_of o))) opens),
        )

pub unsealed : (seed : List ℕ) (first : ℕ) (before between rest : List Entry) (e f : Entry) (s : SealRequest) (u : UnsealRequest) (row : Row) →
    LegalFrom seed (start first) (before ++ e ∷ (between ++ f ∷ rest)) → MayUnseal seed first before between e f s u row →
    IsReplyWith s.plain f.reply ⊎ IsRefusedForSerials (after_all seed (start first) (before ++ e ∷ between)) (unseal u) f.reply
unsealed seed first before between rest e f s u row h m =
    let S = after_all seed (start first) before in
    let T = after_all seed (after seed S e) between in
    let from_e = legal_rest seed (start first) before (e ∷ (between ++ f ∷ rest)) h in
    let from_f = legal_rest seed (after seed S e) between (f ∷ rest) (legal_tail seed S e (between ++ f ∷ rest) from_e) in
    let there = after_append seed (start first) before (e ∷ between) in
    let sealed = sealed_at seed S e (between ++ f ∷ rest) s u.sealed from_e m.accepted_seal m.sealed m.box_of_seal in
    let ranges = accepted_in_ranges e.payload (seal s) (class_is e (seal s) m.sealed) in
    let salt : length (salt_of e.random) ≡ 16 = length-drop 16 e.random ∙ ap (λ n. n - 16) from_e.entries.0.random.0 in
    subst (λ (T : State). IsReplyWith s.plain f.reply ⊎ IsRefusedForSerials T (unseal u) f.reply) (sym there)
    (unsealed_at seed T f u row (masks_of s) s.plain (legal_head seed T f rest from_f) (class_is f (unseal u) m.asked)
    (subst (λ (T : State). used T f.locality (unseal u) ≡ Some row) there m.live) m.owner
    (opens seed (path row) sealed.path u.label s.label (salt_of e.random) u.sealed s.plain (masks_of s) (m.same_path ∙ ap seal_path sealed.is_path) m.label sealed.is_box ranges.modes salt ranges.plain)
    m.admitted)
