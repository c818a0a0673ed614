-- Bytes have one status.
use Rattle.std.proofs.Common.{◌≡◌, ◌≢◌, ℕ, suc, ◌≤◌, List, [], ◌∷◌, ◌++◌, length, Option, Some, None, ◌⊎◌, inl, inr, refl, sym, ap, subst, ◌∙◌, append_assoc, append-nil, arith}
use Rattle.std.specs.Fmt.{decimal}
use Rattle.std.proofs.lemmas.Fmt.{decimal_injective}
use Rattle.std.proofs.lemmas.List.{length-append}
use Rattle.std.specs.Io.KnownBytes.{Consumes}
use Rattle.dpe_vaults.specs.Calls.{Call, IsCall}
use Rattle.dpe_vaults.specs.Items.{item_bytes, all_bytes, AreCalls, BeginsNoItem}
use Rattle.dpe_vaults.specs.Runs.{IsRunStatus, Ran, IsTail, LeadsTo}
use Rattle.dpe_vaults.specs.Words.{AskFor}
use Rattle.dpe_vaults.proofs.ItemParts.{behind_item, too_short}
use Rattle.dpe_vaults.proofs.ItemReads.{at_end}

-- bytes divide in one way into items and a tail, where the tail begins with no item or the items are the most
same_split : (items others : List Call) (s t : List ℕ) → AreCalls items → AreCalls others
    → BeginsNoItem s ⊎ (length others ≤ length items) → BeginsNoItem t ⊎ (length items ≤ length others)
    → all_bytes items ++ s ≡ all_bytes others ++ t → (length items ≡ length others) × (s ≡ t)
same_split [] [] s t are oks left right e = (refl, e)
same_split [] (w ∷ others) s t are oks (inl none) right e = absurd (none w (all_bytes others ++ t) oks.0 (e ∙ append_assoc (item_bytes w) (all_bytes others) t))
same_split [] (w ∷ others) s t are oks (inr few) right e = absurd (omega arith)
same_split (v ∷ items) [] s t are oks left (inl none) e = absurd (none v (all_bytes items ++ s) are.0 (sym e ∙ append_assoc (item_bytes v) (all_bytes items) s))
same_split (v ∷ items) [] s t are oks left (inr few) e = absurd (omega arith)
same_split (v ∷ items) (w ∷ others) s t are oks left right e =
    let same =
    same_split items others s t are.1 oks.1 (elim left [ inl none ↦ inl none | inr few ↦ inr (omega arith) ]) (elim right [ inl none ↦ inl none | inr few ↦ inr (omega arith) ])
    (behind_item v w (all_bytes items ++ s) (all_bytes others ++ t) are.0 oks.0
    (sym (append_assoc (item_bytes v) (all_bytes items) s) ∙ e ∙ append_assoc (item_bytes w) (all_bytes others) t)) in
    (ap suc same.0, same.1)

-- the tail of a status begins with no item, or the items are the most
stops : (most count : ℕ) (tail : List ℕ) (status : ℕ) → IsTail most count tail status → BeginsNoItem tail ⊎ (most ≤ count)
stops most count tail status (inl (is, few, none)) = inl (subst BeginsNoItem (sym none) (too_short [] (omega arith)))
stops most count tail status (inr (inl (is, few, some, fault))) = inl fault
stops most count tail status (inr (inr (is, all, some))) = inr (omega (arith, all))

few_of : (most count : ℕ) (tail : List ℕ) (status : ℕ) → IsTail most count tail status → count ≤ most
few_of most count tail status (inl (is, few, none)) = few
few_of most count tail status (inr (inl (is, few, some, fault))) = omega (arith, few)
few_of most count tail status (inr (inr (is, all, some))) = omega (arith, all)

-- one number of items and one tail have one status
same_tail : (most count : ℕ) (tail : List ℕ) (s t : ℕ) → IsTail most count tail s → IsTail most count tail t → s ≡ t
same_tail most count tail s t (inl (is, few, none)) (inl (is', few', none')) = is ∙ sym is'
same_tail most count tail s t (inl (is, few, none)) (inr (inl (is', few', some, fault))) = absurd (omega (arith, ap length none, some))
same_tail most count tail s t (inl (is, few, none)) (inr (inr (is', all, some))) = absurd (omega (arith, ap length none, some))
same_tail most count tail s t (inr (inl (is, few, some, fault))) (inl (is', few', none)) = absurd (omega (arith, ap length none, some))
same_tail most count tail s t (inr (inl (is, few, some, fault))) (inr (inl (is', few', some', fault'))) = is ∙ sym is'
same_tail most count tail s t (inr (inl (is, few, some, fault))) (inr (inr (is', all, some'))) = absurd (omega (arith, few, all))
same_tail most count tail s t (inr (inr (is, all, some))) (inl (is', few', none)) = absurd (omega (arith, ap length none, some))
same_tail most count tail s t (inr (inr (is, all, some))) (inr (inl (is', few', some', fault))) = absurd (omega (arith, few', all))
same_tail most count tail s t (inr (inr (is, all, some))) (inr (inr (is', all', some'))) = is ∙ sym is'

or_most : (items others most : ℕ) (tail : List ℕ) → BeginsNoItem tail ⊎ (most ≤ items) → others ≤ most → BeginsNoItem tail ⊎ (others ≤ items)
or_most items others most tail (inl none) few = inl none
or_most items others most tail (inr all) few = inr (omega arith)

pub same_status : (most : ℕ) (bytes : List ℕ) (s t : ℕ) → LeadsTo most bytes s → LeadsTo most bytes t → s ≡ t
same_status most bytes s t l m =
    let split =
    same_split l.items m.items l.tail m.tail l.each m.each
    (or_most (length l.items) (length m.items) most l.tail (stops most (length l.items) l.tail s l.is_tail) (few_of most (length m.items) m.tail t m.is_tail))
    (or_most (length m.items) (length l.items) most m.tail (stops most (length m.items) m.tail t m.is_tail) (few_of most (length l.items) l.tail s l.is_tail))
    (sym l.bytes_are ∙ m.bytes_are) in
    same_tail most (length m.items) m.tail s t
    (subst (λ (n : ℕ). IsTail most n m.tail s) split.0 (subst (λ (u : List ℕ). IsTail most (length l.items) u s) split.1 l.is_tail))
    m.is_tail

-- ---- the status of the bytes that a run has read

consumed : (left : Option (List ℕ)) (bytes taken : List ℕ) → Consumes (Some bytes) left taken → (rest : List ℕ) × (left ≡ Some rest) × (bytes ≡ taken ++ rest)
consumed (Some rest) bytes taken e = (rest, refl, e)
consumed None bytes taken e = absurd e

module _ (most : ℕ) (a b x y : Option (List ℕ)) (status : ℕ) (bytes : List ℕ) (told : a ≡ Some bytes) (r : Ran most a b x y status) where
  left_of : (rest : List ℕ) × (b ≡ Some rest) × (bytes ≡ (all_bytes r.items ++ r.part) ++ rest)
  left_of = consumed b bytes (all_bytes r.items ++ r.part) (subst (λ (o : Option (List ℕ)). Consumes o b (all_bytes r.items ++ r.part)) told r.read)

  leads_by : IsTail most (length r.items) (r.part ++ left_of.0) status → LeadsTo most bytes status
  leads_by tail = record {
    items = r.items;
    tail = r.part ++ left_of.0;
    each = r.each;
    bytes_are = left_of.2 ∙ append_assoc (all_bytes r.items) r.part left_of.0;
    is_tail = tail;
  }

  pub ran_leads : (status ≡ 0) ⊎ ((status ≡ 9) ⊎ (status ≡ 10)) → LeadsTo most bytes status
  ran_leads (inl is) =
      let end = r.behind.ended is in
      let none : r.part ++ left_of.0 ≡ [] = ap (λ (t : List ℕ). t ++ left_of.0) end.0 ∙ at_end b left_of.0 end.1 left_of.1 in
      leads_by (inl (is, r.behind.few, none))
  ran_leads (inr (inl is)) =
      let fault = r.behind.malformed is in
      leads_by (inr (inl (is, fault.0, omega (arith, length-append r.part left_of.0, fault.1), fault.2 left_of.0 left_of.1)))
  ran_leads (inr (inr is)) =
      let more = r.behind.overlong is in
      leads_by (inr (inr (is, more.0, omega (arith, length-append r.part left_of.0, more.1))))

-- words ask for one number
pub one_number : (words : List (List ℕ)) (n m : ℕ) → AskFor words n → AskFor words m → n ≡ m
one_number words n m first second =
    let same : decimal n ∷ [] ≡ decimal m ∷ [] = sym first.form ∙ second.form in
    decimal_injective n m (omega (arith, first.most)) (omega (arith, second.most)) cc

-- ---- the program

told_by : (status : ℕ) → IsRunStatus status → (status ≡ 4 → ⊥) → (status ≡ 7 → ⊥) → (status ≡ 0) ⊎ ((status ≡ 9) ⊎ (status ≡ 10))
told_by status (inl is) source sink = inl is
told_by status (inr (inl is)) source sink = absurd (source is)
told_by status (inr (inr (inl is))) source sink = absurd (sink is)
told_by status (inr (inr (inr (inl is)))) source sink = inr (inl is)
told_by status (inr (inr (inr (inr is)))) source sink = inr (inr is)

-- a run of which no call failed has the one status of the bytes
pub complete_run : (words : List (List ℕ)) (n m : ℕ) (a b x y : Option (List ℕ)) (bytes : List ℕ) (result status : ℕ) → AskFor words n → AskFor words m
    → a ≡ Some bytes → LeadsTo m bytes status → Ran n a b x y result → IsRunStatus result → (result ≡ 4 → ⊥) → (result ≡ 7 → ⊥) → result ≡ status
complete_run words n m a b x y bytes result status ours theirs told leads ran is source sink =
    let here = ran_leads n a b x y result bytes told ran (told_by result is source sink) in
    same_status m bytes result status (subst (λ (k : ℕ). LeadsTo k bytes result) (one_number words n m ours theirs) here) leads

pub leads_run : (words : List (List ℕ)) (n m : ℕ) (a b x y : Option (List ℕ)) (bytes : List ℕ) (result : ℕ) → AskFor words n → AskFor words m
    → a ≡ Some bytes → Ran n a b x y result → (result ≡ 0) ⊎ ((result ≡ 9) ⊎ (result ≡ 10)) → LeadsTo m bytes result
leads_run words n m a b x y bytes result ours theirs told ran is =
    subst (λ (k : ℕ). LeadsTo k bytes result) (one_number words n m ours theirs) (ran_leads n a b x y result bytes told ran is)
