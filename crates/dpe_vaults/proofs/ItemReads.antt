-- How an item is read piece by piece.
use Rattle.std.proofs.Common.{◌≡◌, ℕ, ◌+◌, ◌<◌, ◌≤◌, List, [], ◌∷◌, ◌++◌, length, take, drop, Option, Some, refl, sym, ap, subst, ◌∙◌, append_assoc, append-nil, arith}
use Rattle.std.specs.Io.KnownBytes.{Consumes, IsAtEnd}
use Rattle.std.proofs.KnownBytes.{Consumes-nil, Consumes-trans}
use Rattle.std.proofs.lemmas.List.{length-append, length-take}
use Rattle.std.proofs.Math.Seq.{take-add}
use Rattle.dpe_io.specs.Causes.{Rose}
use Rattle.dpe_vaults.specs.Calls.{Call, IsCall}
use Rattle.dpe_vaults.specs.Items.{item_bytes, item_limit, BeginsNoItem, NeedsMore, LeavesNoItem}

no_more : (rest : List ℕ) → length rest ≡ 0 → rest ≡ []
no_more [] none = refl
no_more (x ∷ rest) none = absurd (omega arith)

-- the front of the room is what was taken so far, it goes past no item, and no call failed
pub record IsReading (old now : Option (List ℕ)) (faults_old faults_now : ℕ) (room : List ℕ) (have : ℕ) : Type 0 where
  pub within : have ≤ item_limit
  pub long : length room ≡ item_limit
  pub taken : Consumes old now (take have room)
  pub exact : NeedsMore (take have room) 0
  pub faultless : faults_now ≡ faults_old

pub reading_none : (a : Option (List ℕ)) (faults : ℕ) (room : List ℕ) → length room ≡ item_limit → IsReading a a faults faults room 0
reading_none a faults room long = record {
  within = omega arith;
  long = long;
  taken = Consumes-nil a;
  exact = λ c more rest ok is. omega arith;
  faultless = refl;
}

-- bytes that need more begin with no item, nor do they with less than that behind them
pub not_yet : (bytes part : List ℕ) (need : ℕ) → NeedsMore bytes need → length part < need → BeginsNoItem (bytes ++ part)
not_yet bytes part need needs few c more ok is =
    let least = needs c part more ok is in
    let all : length bytes + length part ≡ length (item_bytes c) + length more =
    sym (length-append bytes part) ∙ ap length is ∙ length-append (item_bytes c) more in
    omega (arith, least, all)

pub at_end : (left : Option (List ℕ)) (rest : List ℕ) → IsAtEnd left → left ≡ Some rest → rest ≡ []
at_end left rest end is = let h : IsAtEnd (Some rest) = subst IsAtEnd is end in h

-- bytes that begin with no item, and nothing behind them
pub at_the_end : (left : Option (List ℕ)) (part : List ℕ) → IsAtEnd left → BeginsNoItem part → LeavesNoItem left part
at_the_end left part end none rest is =
    subst BeginsNoItem (sym (ap (λ (t : List ℕ). part ++ t) (at_end left rest end is) ∙ append-nil part)) none

module _ (a b : Option (List ℕ)) (f0 f1 : ℕ) (room : List ℕ) (have : ℕ) (r : IsReading a b f0 f1 room have) where
  -- a whole item is all that was taken
  pub reading_whole : (c : Call) (rest : List ℕ) → IsCall c → take have room ≡ item_bytes c ++ rest → Consumes a b (item_bytes c)
  reading_whole c rest ok is =
      let least = r.exact c [] rest ok (append-nil (take have room) ∙ is) in
      let none : rest ≡ [] = no_more rest (omega (arith, least, ap length is, length-append (item_bytes c) rest)) in
      subst (λ (t : List ℕ). Consumes a b t) (is ∙ ap (λ (t : List ℕ). item_bytes c ++ t) none ∙ append-nil (item_bytes c)) r.taken

  pub reading_wrong : (0 < length (take have room)) → ((more : List ℕ) → BeginsNoItem (take have room ++ more))
      → (part : List ℕ) × Consumes a b part × (0 < length part) × LeavesNoItem b part
  reading_wrong some none = (take have room, r.taken, some, λ rest is. none rest)

  -- the source failed, or ended, behind less than was needed
  pub reading_failed : (d : Option (List ℕ)) (need : ℕ) (part : List ℕ) → NeedsMore (take have room) need → Consumes b d part → length part < need
      → (all : List ℕ) × Consumes a d all × BeginsNoItem all
  reading_failed d need part needs read few =
      (take have room ++ part, Consumes-trans a b d (take have room) part r.taken read, not_yet (take have room) part need needs few)

  pub reading_cut : (d : Option (List ℕ)) (need : ℕ) (part : List ℕ) → NeedsMore (take have room) need → Consumes b d part → length part < need → IsAtEnd d
      → 0 < have + length part → (all : List ℕ) × Consumes a d all × (0 < length all) × LeavesNoItem d all
  reading_cut d need part needs read few end some = (
    take have room ++ part,
    Consumes-trans a b d (take have room) part r.taken read,
    omega (arith, length-append (take have room) part, length-take have room, r.within, r.long),
    at_the_end d (take have room ++ part) end (not_yet (take have room) part need needs few),
  )

  pub reading_more : (d : Option (List ℕ)) (f2 : ℕ) (next : List ℕ) (need count : ℕ) → length next ≡ item_limit → (0 < need) × (length (take have room) + need ≤ item_limit) × NeedsMore (take have room) need
      → take have next ≡ take have room → Consumes b d (take count (drop have next)) → count ≤ need → need ≤ count → f2 ≡ f1 → IsReading a d f0 f2 next (have + count)
  reading_more d f2 next need count long short front read most least same =
      let parts : take (have + count) next ≡ take have room ++ take count (drop have next) =
      take-add have count next ∙ ap (λ (t : List ℕ). t ++ take count (drop have next)) front in
      record {
        within = omega (arith, short.1, length-take have room, r.within, r.long);
        long = long;
        taken = subst (λ (t : List ℕ). Consumes a d t) (sym parts) (Consumes-trans a b d (take have room) (take count (drop have next)) r.taken read);
        exact = λ c more rest ok is.
            let size = short.2 c (take count (drop have next) ++ more) rest ok
            (sym (append_assoc (take have room) (take count (drop have next)) more) ∙ ap (λ (t : List ℕ). t ++ more) (sym parts) ∙ is) in
            omega (arith, size, ap length parts, length-append (take have room) (take count (drop have next)), length-take count (drop have next));
        faultless = same ∙ r.faultless;
      }

-- the count rose since the reading began
pub rose_since : (before mid now : ℕ) → mid ≡ before → Rose mid now → Rose before now
rose_since before mid now same rose = subst (λ (n : ℕ). Rose n now) same rose
