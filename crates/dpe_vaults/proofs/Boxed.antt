-- Rows with places, and the pairs with boxes that they are.
use Rattle.std.proofs.Common.{◌≡◌, ℕ, ◌+◌, ◌<◌, Bool, true, false, cond, List, [], ◌∷◌, ◌++◌, length, map, get_or, Option, Some, None, option_map, Ordering, Less, Equal, Greater, bytes_eq, refl, sym, ap, subst, ◌∙◌, arith}
use Rattle.std.specs.Prelude.{◌&&◌, ◌||◌, is_some, nat_lt}
use Rattle.std.specs.List.{AllByRecursion}
use Rattle.std.proofs.lemmas.List.{map-append, length-map, get_or_append_left, get_or_push}
use Rattle.dpe_box.specs.Sealed.{has_form}
use Rattle.dpe_vaults.specs.declared.call.Op.{Op}
use Rattle.dpe_vaults.specs.declared.call.Op.TheVariants.{Put, Get, Remove, Names}
use Rattle.dpe_vaults.specs.Calls.{Call}
use Rattle.dpe_vaults.specs.Named.{Named, named, name_order, name_limit, found, without, placed, placed_by, has_place}
use Rattle.dpe_vaults.specs.declared.reply.VaultReply.{VaultReply}
use Rattle.dpe_vaults.specs.Kept.{Called, Pair, after_by, code_by, bytes_by, box_or_none, reply_from, names_of}
use Rattle.dpe_vaults.specs.Tables.{box_at, boxed, AreStored}
use Rattle.dpe_vaults.proofs.Names.{placed_all, without_all, all_by}

-- ---- something else in the place of each value

module _ (f : ℕ → List ℕ) where
  abbrev pub image : List (Named ℕ) → List Pair
  image rows = map (λ r. named r.name (f r.value)) rows

  found_by : (t : Bool) (v : ℕ) (o : Option ℕ) → cond t (Some (f v)) (option_map f o) ≡ option_map f (cond t (Some v) o)
  found_by true v o = refl
  found_by false v o = refl

  pub found_image : (rows : List (Named ℕ)) (name : List ℕ) → found (image rows) name ≡ option_map f (found rows name)
  found_image [] name = refl
  found_image (n ∷ ns) name =
      ap (λ (o : Option (List ℕ)). cond (bytes_eq n.name name) (Some (f n.value)) o) (found_image ns name)
      ∙ found_by (bytes_eq n.name name) n.value (found ns name)

  is_some_image : (o : Option ℕ) → is_some (option_map f o) ≡ is_some o
  is_some_image None = refl
  is_some_image (Some v) = refl

  pub is_found_image : (rows : List (Named ℕ)) (name : List ℕ) → is_some (found (image rows) name) ≡ is_some (found rows name)
  is_found_image rows name = ap (λ (o : Option (List ℕ)). is_some o) (found_image rows name) ∙ is_some_image (found rows name)

  without_by : (t : Bool) (n : Named ℕ) (more : List (Named ℕ)) → cond t (image more) (named n.name (f n.value) ∷ image more) ≡ image (cond t more (n ∷ more))
  without_by true n more = refl
  without_by false n more = refl

  without_image : (rows : List (Named ℕ)) (name : List ℕ) → without (image rows) name ≡ image (without rows name)
  without_image [] name = refl
  without_image (n ∷ ns) name =
      ap (λ (more : List Pair). cond (bytes_eq n.name name) more (named n.name (f n.value) ∷ more)) (without_image ns name)
      ∙ without_by (bytes_eq n.name name) n (without ns name)

  placed_by_image : (o : Ordering) (n new : Named ℕ) (ns more : List (Named ℕ))
      → placed_by o (named n.name (f n.value)) (image ns) (named new.name (f new.value)) (image more) ≡ image (placed_by o n ns new more)
  placed_by_image Less n new ns more = refl
  placed_by_image Equal n new ns more = refl
  placed_by_image Greater n new ns more = refl

  placed_image : (rows : List (Named ℕ)) (new : Named ℕ) → placed (image rows) (named new.name (f new.value)) ≡ image (placed rows new)
  placed_image [] new = refl
  placed_image (n ∷ ns) new =
      ap (λ (more : List Pair). placed_by (name_order n.name new.name) (named n.name (f n.value)) (image ns) (named new.name (f new.value)) more) (placed_image ns new)
      ∙ placed_by_image (name_order n.name new.name) n new ns (placed ns new)

  pub names_image : (rows : List (Named ℕ)) → names_of (image rows) ≡ names_of rows
  names_image [] = refl
  names_image (n ∷ ns) = ap (λ (t : List ℕ). length n.name ∷ (n.name ++ t)) (names_image ns)

  place_image : (rows : List (Named ℕ)) (name : List ℕ) → has_place (image rows) name ≡ has_place rows name
  place_image rows name =
      ap (λ (t : Bool). t || nat_lt (length (image rows)) name_limit) (is_found_image rows name)
      ∙ ap (λ (n : ℕ). is_some (found rows name) || nat_lt n name_limit) (length-map rows (λ r. named r.name (f r.value)))

  -- a call's code depends on the names alone
  pub code_image : (op : Op) (rows : List (Named ℕ)) (c : Call) → code_by op (image rows) c ≡ code_by op rows c
  code_image Put rows c = ap (λ (t : Bool). cond (has_form c.sealed) (cond t 0 31) 22) (place_image rows c.name)
  code_image Get rows c = ap (λ (t : Bool). cond t 0 30) (is_found_image rows c.name)
  code_image Remove rows c = ap (λ (t : Bool). cond t 0 30) (is_found_image rows c.name)
  code_image Names rows c = refl

  put_by : (t : Bool) (rows : List (Named ℕ)) (new : Named ℕ)
      → cond t (placed (image rows) (named new.name (f new.value))) (image rows) ≡ image (cond t (placed rows new) rows)
  put_by true rows new = placed_image rows new
  put_by false rows new = refl

  pub after_image : (op : Op) (v : ℕ) (rows : List (Named ℕ)) (c : Call) → after_by op (f v) (image rows) c ≡ image (after_by op v rows c)
  after_image Put v rows c =
      ap (λ (t : Bool). cond (has_form c.sealed && t) (placed (image rows) (named c.name (f v))) (image rows)) (place_image rows c.name)
      ∙ put_by (has_form c.sealed && has_place rows c.name) rows (named c.name v)
  after_image Get v rows c = refl
  after_image Remove v rows c = without_image rows c.name
  after_image Names v rows c = refl

-- ---- one entry more

pub box_before : (es : List Called) (e : Called) (at : ℕ) → at < length es → box_at (es ++ e ∷ []) at ≡ box_at es at
box_before es e at there =
    ap (λ (t : List (List ℕ)). get_or t at []) (map-append (λ e. e.call.sealed) es (e ∷ []))
    ∙ get_or_append_left (map (λ e. e.call.sealed) es) (e.call.sealed ∷ []) [] at (omega (arith, length-map es (λ e. e.call.sealed)))

pub box_new : (es : List Called) (e : Called) → box_at (es ++ e ∷ []) (length es) ≡ e.call.sealed
box_new es e =
    ap (λ (t : List (List ℕ)). get_or t (length es) []) (map-append (λ e. e.call.sealed) es (e ∷ []))
    ∙ get_or_push (map (λ e. e.call.sealed) es) e.call.sealed [] (length es) (length-map es (λ e. e.call.sealed))

pub boxed_more : (es : List Called) (e : Called) (rows : List (Named ℕ)) → AreStored (length es) rows → boxed (es ++ e ∷ []) rows ≡ boxed es rows
boxed_more es e [] stored = refl
boxed_more es e (r ∷ rows) stored =
    ap (λ (b : List ℕ). named r.name b ∷ boxed (es ++ e ∷ []) rows) (box_before es e r.value stored.0)
    ∙ ap (λ (more : List Pair). named r.name (box_at es r.value) ∷ more) (boxed_more es e rows stored.1)

pub stored_more : (count : ℕ) (rows : List (Named ℕ)) → AreStored count rows → AreStored (count + 1) rows
stored_more count rows stored = all_by (λ r. r.value < count) (λ r. r.value < count + 1) rows (λ r lt. omega arith) stored

stored_by : (t : Bool) (count : ℕ) (rows : List (Named ℕ)) (new : Named ℕ) → AreStored count rows → AreStored count (placed rows new) → AreStored count (cond t (placed rows new) rows)
stored_by true count rows new all placed = placed
stored_by false count rows new all placed = all

pub after_stored : (op : Op) (count : ℕ) (rows : List (Named ℕ)) (c : Call) → AreStored count rows → AreStored (count + 1) (after_by op count rows c)
after_stored Put count rows c stored =
    let more = stored_more count rows stored in
    stored_by (has_form c.sealed && has_place rows c.name) (count + 1) rows (named c.name count) more
    (placed_all (λ r. r.value < count + 1) rows (named c.name count) (omega arith) more)
after_stored Get count rows c stored = stored_more count rows stored
after_stored Remove count rows c stored = without_all (λ r. r.value < count + 1) rows c.name (stored_more count rows stored)
after_stored Names count rows c stored = stored_more count rows stored

-- ---- what is replied

-- the place that is found is that of an entry
found_in : (t : Bool) (count v at : ℕ) (o : Option ℕ) → v < count → (o ≡ Some at → at < count) → cond t (Some v) o ≡ Some at → at < count
found_in true count v at o lt more is = let same : v ≡ at = cc in omega arith
found_in false count v at o lt more is = more is

pub found_stored : (count : ℕ) (rows : List (Named ℕ)) (name : List ℕ) (at : ℕ) → AreStored count rows → found rows name ≡ Some at → at < count
found_stored count [] name at stored is = cc
found_stored count (r ∷ rows) name at stored is =
    found_in (bytes_eq r.name name) count r.value at (found rows name) stored.0 (found_stored count rows name at stored.1) is

pub box_found : (es : List Called) (rows : List (Named ℕ)) (name : List ℕ) (at : ℕ) → found rows name ≡ Some at → box_or_none (found (boxed es rows) name) ≡ box_at es at
box_found es rows name at is =
    ap box_or_none (found_image (box_at es) rows name ∙ ap (λ (o : Option ℕ). option_map (box_at es) o) is)

pub no_box : (es : List Called) (rows : List (Named ℕ)) (name : List ℕ) → found rows name ≡ None → box_or_none (found (boxed es rows) name) ≡ []
no_box es rows name is =
    ap box_or_none (found_image (box_at es) rows name ∙ ap (λ (o : Option ℕ). option_map (box_at es) o) is)

abbrev reply : ℕ → List ℕ → VaultReply
reply code bytes = record { code = code; bytes = bytes }

-- the code that the rows give and the bytes that the pairs give are the reply
pub replied_by : (es : List Called) (rows : List (Named ℕ)) (c : Call) (op : Op) (code : ℕ) (bytes : List ℕ) → op ≡ c.op → code ≡ code_by op rows c
    → bytes ≡ bytes_by op (boxed es rows) c → reply code bytes ≡ reply_from (boxed es rows) c
replied_by es rows c op code bytes is code_is bytes_are =
    subst (λ (o : Op). reply code bytes ≡ reply (code_by o (boxed es rows) c) (bytes_by o (boxed es rows) c)) is
    (ap (λ (n : ℕ). reply n bytes) (code_is ∙ sym (code_image (box_at es) op rows c))
    ∙ ap (λ (b : List ℕ). reply (code_by op (boxed es rows) c) b) bytes_are)
