-- What the first bytes of an item say of it.
use Rattle.std.proofs.Common.{◌≡◌, ℕ, zero, suc, ◌+◌, ◌-◌, ◌^◌, ◌<◌, ◌≤◌, List, [], ◌∷◌, ◌++◌, length, take, drop, get_or, refl, sym, ap, subst, ◌∙◌, append_assoc, append-nil, take-append-drop, arith}
use Rattle.std.specs.Int.{w16, to_be_bytes, from_be_bytes}
use Rattle.std.proofs.lemmas.List.{length-append, length-take, take_at, drop_at, get_or-drop}
use Rattle.std.proofs.lemmas.Nat.{from_be_bytes-to_be_bytes_2, be_bytes_2}
use Rattle.dpe_vaults.specs.declared.call.Op.{Op}
use Rattle.dpe_vaults.specs.declared.call.Op.TheVariants.{Put, Get, Remove, Names}
use Rattle.dpe_vaults.specs.Calls.{Call, IsCall, least_name, most_name, most_sealed}
use Rattle.dpe_vaults.specs.Items.{op_number, item_bytes, item_limit, BeginsNoItem, NeedsMore}

-- ---- sizes

pub item_length : (c : Call) → length (item_bytes c) ≡ 5 + length c.name + length c.sealed
item_length c =
    omega (
      arith,
      length-append (c.locality ∷ op_number c.op ∷ length c.name ∷ c.name) (to_be_bytes w16 (length c.sealed) ++ c.sealed),
      length-append (to_be_bytes w16 (length c.sealed)) c.sealed,
    )

pub too_short : (bytes : List ℕ) → length bytes < 5 → BeginsNoItem bytes
too_short bytes short c more ok is =
    let all : length bytes ≡ length (item_bytes c) + length more = ap length is ∙ length-append (item_bytes c) more in
    omega (arith, all, item_length c)

pub most_sealed_within : (op : Op) → most_sealed op ≤ 2133
most_sealed_within Put = omega arith
most_sealed_within Get = omega arith
most_sealed_within Remove = omega arith
most_sealed_within Names = omega arith

pub most_name_within : (op : Op) → most_name op ≤ 32
most_name_within Put = omega arith
most_name_within Get = omega arith
most_name_within Remove = omega arith
most_name_within Names = omega arith

same_op : (a b : Op) → op_number a ≡ op_number b → a ≡ b
same_op Put Put e = refl
same_op Put Get e = absurd (omega arith)
same_op Put Remove e = absurd (omega arith)
same_op Put Names e = absurd (omega arith)
same_op Get Put e = absurd (omega arith)
same_op Get Get e = refl
same_op Get Remove e = absurd (omega arith)
same_op Get Names e = absurd (omega arith)
same_op Remove Put e = absurd (omega arith)
same_op Remove Get e = absurd (omega arith)
same_op Remove Remove e = refl
same_op Remove Names e = absurd (omega arith)
same_op Names Put e = absurd (omega arith)
same_op Names Get e = absurd (omega arith)
same_op Names Remove e = absurd (omega arith)
same_op Names Names e = refl

-- lists with fronts of one length that are equal have equal parts
pub same_parts : (a b s t : List ℕ) → length a ≡ length b → a ++ s ≡ b ++ t → (a ≡ b) × (s ≡ t)
same_parts a b s t long e = (
  sym (take_at a s (length b) long) ∙ ap (take (length b)) e ∙ take_at b t (length b) refl,
  sym (drop_at a s (length b) long) ∙ ap (drop (length b)) e ∙ drop_at b t (length b) refl,
)

-- ---- the parts of bytes that begin with an item

-- behind the head of the item
abbrev tail_of : Call → List ℕ
tail_of c = to_be_bytes w16 (length c.sealed) ++ c.sealed

pub record HeadIs (head behind : List ℕ) (c : Call) (more rest : List ℕ) : Type 0 where
  pub locality : get_or head 0 0 ≡ c.locality
  pub op : get_or head 1 0 ≡ op_number c.op
  pub size : get_or head 2 0 ≡ length c.name
  pub behind_is : behind ++ more ≡ c.name ++ (tail_of c ++ rest)

head_is : (bytes head behind : List ℕ) (c : Call) (more rest : List ℕ) → bytes ≡ head ++ behind → length head ≡ 3 → bytes ++ more ≡ item_bytes c ++ rest
    → HeadIs head behind c more rest
head_is bytes [] behind c more rest parts three is = absurd (omega arith)
head_is bytes (x ∷ []) behind c more rest parts three is = absurd (omega arith)
head_is bytes (x ∷ y ∷ []) behind c more rest parts three is = absurd (omega arith)
head_is bytes (x ∷ y ∷ z ∷ []) behind c more rest parts three is =
    let e : x ∷ y ∷ z ∷ (behind ++ more) ≡ c.locality ∷ op_number c.op ∷ length c.name ∷ ((c.name ++ tail_of c) ++ rest) =
    ap (λ (t : List ℕ). t ++ more) (sym parts) ∙ is in
    record {
      locality = ap (λ (t : List ℕ). get_or t 0 0) e;
      op = ap (λ (t : List ℕ). get_or t 1 0) e;
      size = ap (λ (t : List ℕ). get_or t 2 0) e;
      behind_is = ap (drop 3) e ∙ append_assoc c.name (tail_of c) rest;
    }
head_is bytes (x ∷ y ∷ z ∷ w ∷ head) behind c more rest parts three is = absurd (omega arith)

pub record NameIs (name told behind : List ℕ) (c : Call) (more rest : List ℕ) : Type 0 where
  pub name_is : name ≡ c.name
  pub told_is : told ≡ to_be_bytes w16 (length c.sealed)
  pub behind_is : behind ++ more ≡ c.sealed ++ rest

name_is : (behind name others told last : List ℕ) (c : Call) (more rest : List ℕ) → behind ≡ name ++ others → others ≡ told ++ last → length name ≡ length c.name
    → length told ≡ 2 → behind ++ more ≡ c.name ++ (tail_of c ++ rest) → NameIs name told last c more rest
name_is behind name others told last c more rest first second long two is =
    let one = same_parts name c.name (others ++ more) (tail_of c ++ rest) long
    (sym (append_assoc name others more) ∙ ap (λ (t : List ℕ). t ++ more) (sym first) ∙ is) in
    let next = same_parts told (to_be_bytes w16 (length c.sealed)) (last ++ more) (c.sealed ++ rest) two
    (sym (append_assoc told last more) ∙ ap (λ (t : List ℕ). t ++ more) (sym second) ∙ one.1 ∙ append_assoc (to_be_bytes w16 (length c.sealed)) c.sealed rest) in
    record { name_is = one.0; told_is = next.0; behind_is = next.1 }

told_number : (told : List ℕ) (c : Call) → IsCall c → told ≡ to_be_bytes w16 (length c.sealed) → from_be_bytes w16 told ≡ length c.sealed
told_number told c ok is =
    let fits : length c.sealed < 2 ^ 16 = omega (arith, ok.fits, most_sealed_within c.op) in
    ap (from_be_bytes w16) is ∙ from_be_bytes-to_be_bytes_2 (length c.sealed) fits

-- ---- bytes that are put together

head_parts : (head : List ℕ) (l o n : ℕ) → length head ≡ 3 → get_or head 0 0 ≡ l → get_or head 1 0 ≡ o → get_or head 2 0 ≡ n → head ≡ l ∷ o ∷ n ∷ []
head_parts [] l o n three a b d = absurd (omega arith)
head_parts (x ∷ []) l o n three a b d = absurd (omega arith)
head_parts (x ∷ y ∷ []) l o n three a b d = absurd (omega arith)
head_parts (x ∷ y ∷ z ∷ []) l o n three a b d = cc
head_parts (x ∷ y ∷ z ∷ w ∷ head) l o n three a b d = absurd (omega arith)

assembled : (bytes head behind name others told last sealed rest : List ℕ) (l o n : ℕ) → bytes ≡ head ++ behind → head ≡ l ∷ o ∷ n ∷ [] → behind ≡ name ++ others
    → others ≡ told ++ last → last ≡ sealed ++ rest → bytes ≡ ((l ∷ o ∷ n ∷ name) ++ (told ++ sealed)) ++ rest
assembled bytes head behind name others told last sealed rest l o n parts head_is first second third =
    parts ∙ ap (λ (t : List ℕ). t ++ behind) head_is
    ∙ ap (λ (t : List ℕ). l ∷ o ∷ n ∷ t)
    (first ∙ ap (λ (t : List ℕ). name ++ t)
    (second ∙ ap (λ (t : List ℕ). told ++ t) third ∙ sym (append_assoc told sealed rest))
    ∙ sym (append_assoc name (told ++ sealed) rest))

-- ---- what is judged

-- fewer bytes than a head
pub short_head : (bytes : List ℕ) → length bytes < 3 → NeedsMore bytes (3 - length bytes)
short_head bytes short c more rest ok is = omega (arith, item_length c)

module _ (bytes head behind : List ℕ) (parts : bytes ≡ head ++ behind) (three : length head ≡ 3) where
  pub wrong_op : ((op : Op) → get_or head 1 0 ≡ op_number op → ⊥) → (more : List ℕ) → BeginsNoItem (bytes ++ more)
  wrong_op none more c rest ok is = none c.op (head_is bytes head behind c more rest parts three is).op

  module _ (op : Op) (is_op : get_or head 1 0 ≡ op_number op) where
    own_op : (c : Call) (more rest : List ℕ) → bytes ++ more ≡ item_bytes c ++ rest → op ≡ c.op
    own_op c more rest is = same_op op c.op (sym is_op ∙ (head_is bytes head behind c more rest parts three is).op)

    pub wrong_head : ((get_or head 0 0 ≤ 7) × (least_name op ≤ get_or head 2 0) × (get_or head 2 0 ≤ most_name op) → ⊥) → (more : List ℕ) → BeginsNoItem (bytes ++ more)
    wrong_head none more c rest ok is =
        let h = head_is bytes head behind c more rest parts three is in
        let same = own_op c more rest is in
        none (
          omega (arith, h.locality, ok.near),
          subst (λ (n : ℕ). least_name op ≤ n) (sym h.size) (subst (λ (o : Op). least_name o ≤ length c.name) (sym same) ok.named),
          subst (λ (n : ℕ). n ≤ most_name op) (sym h.size) (subst (λ (o : Op). length c.name ≤ most_name o) (sym same) ok.short),
        )

    pub short_name : length behind < get_or head 2 0 + 2 → NeedsMore bytes (get_or head 2 0 + 2 - length behind)
    short_name short c more rest ok is =
        let h = head_is bytes head behind c more rest parts three is in
        let size : get_or head 2 0 ≡ length c.name = h.size in
        omega (arith, size, item_length c, three, ap length parts, length-append head behind)

    module _ (name others told last : List ℕ) (first : behind ≡ name ++ others) (second : others ≡ told ++ last) (long : length name ≡ get_or head 2 0) (two : length told ≡ 2) where
      private_name : (c : Call) (more rest : List ℕ) → bytes ++ more ≡ item_bytes c ++ rest → NameIs name told last c more rest
      private_name c more rest is =
          let h = head_is bytes head behind c more rest parts three is in
          name_is behind name others told last c more rest first second (long ∙ h.size) two h.behind_is

      pub wrong_length : most_sealed op < from_be_bytes w16 told → (more : List ℕ) → BeginsNoItem (bytes ++ more)
      wrong_length long more c rest ok is =
          let n = told_number told c ok (private_name c more rest is).told_is in
          let fits : length c.sealed ≤ most_sealed op = subst (λ (o : Op). length c.sealed ≤ most_sealed o) (sym (own_op c more rest is)) ok.fits in
          omega (arith, n, fits)

      pub all_length : length bytes ≡ 5 + get_or head 2 0 + length last
      all_length =
          omega (arith, ap length parts, length-append head behind, ap length first, length-append name others, ap length second, length-append told last, long, two, three)

      pub short_sealed : length last < from_be_bytes w16 told → NeedsMore bytes (from_be_bytes w16 told - length last)
      short_sealed short c more rest ok is =
          let n = told_number told c ok (private_name c more rest is).told_is in
          let h = head_is bytes head behind c more rest parts three is in
          let size : get_or head 2 0 ≡ length c.name = h.size in
          omega (arith, n, size, item_length c, all_length)

      -- a whole item
      pub is_whole : (locality : ℕ) (sealed : List ℕ) → locality ≡ get_or head 0 0 → locality ≤ 7 → least_name op ≤ get_or head 2 0 → get_or head 2 0 ≤ most_name op
          → from_be_bytes w16 told ≤ most_sealed op → ((i : ℕ) → get_or told i 0 < 256) → from_be_bytes w16 told ≤ length last
          → sealed ≡ take (from_be_bytes w16 told) last
          → let c : Call = record { locality = locality; op = op; name = name; sealed = sealed } in
          IsCall c × ((rest : List ℕ) × (bytes ≡ item_bytes c ++ rest))
      is_whole locality sealed at near least most fits bytes_in whole is =
          let n : length sealed ≡ from_be_bytes w16 told = omega (arith, ap length is, length-take (from_be_bytes w16 told) last) in
          let told_is : to_be_bytes w16 (length sealed) ≡ told = be_bytes_2 told (length sealed) two bytes_in n in (
            record {
              near = near;
              named = subst (λ (k : ℕ). least_name op ≤ k) (sym long) least;
              short = subst (λ (k : ℕ). k ≤ most_name op) (sym long) most;
              fits = subst (λ (k : ℕ). k ≤ most_sealed op) (sym n) fits;
            },
            (
              drop (from_be_bytes w16 told) last,
              subst (λ (t : List ℕ). bytes ≡ ((locality ∷ op_number op ∷ length name ∷ name) ++ (t ++ sealed)) ++ drop (from_be_bytes w16 told) last) (sym told_is)
                  (assembled bytes head behind name others told last sealed (drop (from_be_bytes w16 told) last) locality (op_number op) (length name)
                  parts (head_parts head locality (op_number op) (length name) three (sym at) is_op (sym long)) first second
                  (sym (ap (λ (t : List ℕ). t ++ drop (from_be_bytes w16 told) last) is ∙ take-append-drop (from_be_bytes w16 told) last))),
            ),
          )

-- ---- one item after another

-- behind two items at the front of the same bytes stand the same bytes
pub behind_item : (v w : Call) (s t : List ℕ) → IsCall v → IsCall w → item_bytes v ++ s ≡ item_bytes w ++ t → s ≡ t
behind_item v w s t okv okw e =
    let h = head_is (item_bytes v) (v.locality ∷ op_number v.op ∷ length v.name ∷ []) (v.name ++ tail_of v) w s t refl refl e in
    let n =
    name_is (v.name ++ tail_of v) v.name (tail_of v) (to_be_bytes w16 (length v.sealed)) v.sealed w s t refl refl h.size refl h.behind_is in
    let same : length v.sealed ≡ length w.sealed =
    sym (told_number (to_be_bytes w16 (length v.sealed)) v okv refl) ∙ told_number (to_be_bytes w16 (length v.sealed)) w okw n.told_is in
    (same_parts v.sealed w.sealed s t same n.behind_is).1

-- ---- bytes

pub two_list : (told : List ℕ) → length told ≡ 2 → get_or told 0 0 ∷ get_or told 1 0 ∷ [] ≡ told
two_list [] two = absurd (omega arith)
two_list (x ∷ []) two = absurd (omega arith)
two_list (x ∷ y ∷ []) two = refl
two_list (x ∷ y ∷ z ∷ told) two = absurd (omega arith)

abbrev InRange : List ℕ → Type 0
InRange xs = (i : ℕ) → get_or xs i 0 < 256

range_drop : (n : ℕ) (xs : List ℕ) → InRange xs → InRange (drop n xs)
range_drop n xs h i = let at : get_or (drop n xs) i 0 ≡ get_or xs (n + i) 0 = get_or-drop n xs i 0 in omega (arith, at, h (n + i))

range_take : (k : ℕ) (xs : List ℕ) → InRange xs → InRange (take k xs)
range_take zero xs h i = omega arith
range_take (suc k) [] h i = omega arith
range_take (suc k) (x ∷ xs) h zero = h zero
range_take (suc k) (x ∷ xs) h (suc i) = range_take k xs (λ j. h (suc j)) i

-- the two bytes behind so many and so many are bytes where all are
pub told_range : (bytes behind others told : List ℕ) (size : ℕ) → InRange bytes → behind ≡ drop 3 bytes → others ≡ drop size behind → told ≡ take 2 others → InRange told
told_range bytes behind others told size h first second third =
    subst InRange (sym (third ∙ ap (take 2) (second ∙ ap (drop size) first))) (range_take 2 (drop size (drop 3 bytes)) (range_drop size (drop 3 bytes) (range_drop 3 bytes h)))
