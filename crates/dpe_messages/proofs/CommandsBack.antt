-- The class of a written command is the command.
use Rattle.std.proofs.Common.{◌≡◌, ℕ, ◌^◌, ◌<◌, ◌≤◌, Bool, true, false, cond, eqb, leb, ◌&&◌, List, [], ◌∷◌, length, Option, Some, None, refl, sym, ap, ◌∙◌, arith}
use Rattle.std.specs.Prelude.{IfSome}
use Rattle.std.specs.Option.{option_map}
use Rattle.std.specs.List.{list_all}
use Rattle.std.proofs.lemmas.Bool.{eqb-true, le-leb}
use Rattle.std.proofs.lemmas.List.{nil_from_length}
use Rattle.dpe_messages.specs.FlatMap.{Value, number, byte_string, truth, FlatMap, value_at}
use Rattle.dpe_messages.specs.Message.{Row, present, inner}
use Rattle.dpe_messages.specs.Arguments.{arguments, is_argument}
use Rattle.dpe_messages.specs.Class.{class_of, class, accepted}
use Rattle.dpe_messages.specs.Ranges.{IsConfiguration, IsDerive, IsSign, IsSeal, IsUnseal, IsHandle, InRanges}
use Rattle.dpe_messages.specs.Request.{Configuration, inline, descriptor, DeriveRequest, SignRequest, SealRequest, UnsealRequest, Request, get_profile, initialize, derive, sign, seal, unseal, rotate, destroy, bytes_or, number_or, truth_or, bytes_if, number_if, request}
use Rattle.dpe_messages.specs.CommandRows.{unless_empty, unless_number, if_true, unless_true, inline_value, descriptor_value, derive_rows, sign_rows, seal_rows, unseal_rows, command_rows, number_of_request, command_payload}
use Rattle.dpe_messages.proofs.Writing.{message_length}
use Rattle.dpe_messages.proofs.CommandSizes.{command_fits}
use Rattle.dpe_messages.proofs.ReadingBack.{RiseAfter, IsFitRow, AreFit, RowIs, RowsAre, outer_read, inner_read, look, value_is, all_are, few_pairs}

-- ---- a row that is an argument of its command

record Good (command k : ℕ) (v : Option Value) : Type 0 where
  fits : IsFitRow k v
  stands : RowIs (is_argument (arguments command)) k v

good_none : (command k : ℕ) → Good command k None
good_none command k = record { fits = tt; stands = tt }

good_cond : (t : Bool) (command k : ℕ) (v w : Option Value) → Good command k v → Good command k w → Good command k (cond t v w)
good_cond true command k v w one two = one
good_cond false command k v w one two = two

within : (least most : ℕ) (b : List ℕ) → least ≤ length b → length b ≤ most → (leb least (length b) && leb (length b) most) ≡ true
within least most b low high = let one = le-leb least (length b) low in let two = le-leb (length b) most high in rw (one, two) refl

or_false : (x : Bool) → x ≡ true → cond x true false ≡ true
or_false x e = rw e refl

abbrev AllGood : ℕ → List Row → Type 0
AllGood command [] = Unit {0}
AllGood command (row ∷ rows) = Good command row.0 row.1 × AllGood command rows

all_fit : (command : ℕ) (rows : List Row) → AllGood command rows → AreFit rows
all_fit command [] good = tt
all_fit command (row ∷ rows) good = (good.0.fits, all_fit command rows good.1)

all_stand : (command : ℕ) (rows : List Row) → AllGood command rows → RowsAre (is_argument (arguments command)) rows
all_stand command [] good = tt
all_stand command (row ∷ rows) good = (good.0.stands, all_stand command rows good.1)

-- ---- a value or its default

label_back : (b : List ℕ) → bytes_or [] (unless_empty b) ≡ b
label_back b = go (eqb (length b) 0) refl where
  go : (t : Bool) → eqb (length b) 0 ≡ t → bytes_or [] (cond t None (Some (byte_string b))) ≡ b
  go true e = sym (nil_from_length b (eqb-true (length b) 0 e))
  go false e = refl

number_back : (default n : ℕ) → number_or default (unless_number default n) ≡ n
number_back default n = go (eqb n default) refl where
  go : (t : Bool) → eqb n default ≡ t → number_or default (cond t None (Some (number n))) ≡ n
  go true e = sym (eqb-true n default e)
  go false e = refl

if_back : (b : Bool) → truth_or false (if_true b) ≡ b
if_back true = refl
if_back false = refl

unless_back : (b : Bool) → truth_or true (unless_true b) ≡ b
unless_back true = refl
unless_back false = refl

hidden_back : (h : Option (List ℕ)) → bytes_if (option_map byte_string h) ≡ h
hidden_back None = refl
hidden_back (Some h) = refl

locality_back : (l : Option ℕ) → number_if (option_map number l) ≡ l
locality_back None = refl
locality_back (Some l) = refl

-- ---- the class of each command's map

module _ (m : FlatMap) where
  sign_class : (s : SignRequest) → list_all (is_argument (arguments 10)) m ≡ true → value_at 1 m ≡ option_map byte_string s.handle → value_at 2 m ≡ unless_empty s.label
      → value_at 3 m ≡ if_true s.retain → value_at 4 m ≡ Some (truth true) → value_at 5 m ≡ Some (byte_string s.message) → class_of 10 m ≡ accepted (sign s)
  unfolding class_of request
  sign_class s all e1 e2 e3 e4 e5 =
      let handle : bytes_if (value_at 1 m) ≡ s.handle = ap bytes_if e1 ∙ hidden_back s.handle in
      let label : bytes_or [] (value_at 2 m) ≡ s.label = ap (bytes_or []) e2 ∙ label_back s.label in
      let retain : truth_or false (value_at 3 m) ≡ s.retain = ap (truth_or false) e3 ∙ if_back s.retain in
      rw (e4, all, e5) (λ i. accepted (sign (record { handle = handle i; label = label i; retain = retain i; message = s.message })))

  seal_class : (s : SealRequest) → list_all (is_argument (arguments 11)) m ≡ true → value_at 1 m ≡ option_map byte_string s.handle → value_at 2 m ≡ unless_empty s.label
      → value_at 3 m ≡ if_true s.retain → value_at 4 m ≡ unless_number 255 s.localities → value_at 5 m ≡ unless_number 15 s.modes → value_at 6 m ≡ Some (byte_string s.plain) → class_of 11 m ≡ accepted (seal s)
  unfolding class_of request
  seal_class s all e1 e2 e3 e4 e5 e6 =
      let handle : bytes_if (value_at 1 m) ≡ s.handle = ap bytes_if e1 ∙ hidden_back s.handle in
      let label : bytes_or [] (value_at 2 m) ≡ s.label = ap (bytes_or []) e2 ∙ label_back s.label in
      let retain : truth_or false (value_at 3 m) ≡ s.retain = ap (truth_or false) e3 ∙ if_back s.retain in
      let localities : number_or 255 (value_at 4 m) ≡ s.localities = ap (number_or 255) e4 ∙ number_back 255 s.localities in
      let modes : number_or 15 (value_at 5 m) ≡ s.modes = ap (number_or 15) e5 ∙ number_back 15 s.modes in
      rw (all, e6) (λ i. accepted (seal (record { handle = handle i; label = label i; retain = retain i; localities = localities i; modes = modes i; plain = s.plain })))

  unseal_class : (u : UnsealRequest) → list_all (is_argument (arguments 12)) m ≡ true → value_at 1 m ≡ option_map byte_string u.handle → value_at 2 m ≡ unless_empty u.label
      → value_at 3 m ≡ if_true u.retain → value_at 4 m ≡ None → value_at 5 m ≡ Some (byte_string u.sealed) → class_of 12 m ≡ accepted (unseal u)
  unfolding class_of request
  unseal_class u all e1 e2 e3 e4 e5 =
      let handle : bytes_if (value_at 1 m) ≡ u.handle = ap bytes_if e1 ∙ hidden_back u.handle in
      let label : bytes_or [] (value_at 2 m) ≡ u.label = ap (bytes_or []) e2 ∙ label_back u.label in
      let retain : truth_or false (value_at 3 m) ≡ u.retain = ap (truth_or false) e3 ∙ if_back u.retain in
      rw (e4, all, e5) (λ i. accepted (unseal (record { handle = handle i; label = label i; retain = retain i; sealed = u.sealed })))

  initialize_class : (default : Bool) → list_all (is_argument (arguments 7)) m ≡ true → value_at 1 m ≡ None → value_at 2 m ≡ if_true default → class_of 7 m ≡ accepted (initialize default)
  unfolding class_of request
  initialize_class default all e1 e2 =
      let back : truth_or false (value_at 2 m) ≡ default = ap (truth_or false) e2 ∙ if_back default in
      rw (e1, all) (λ i. accepted (initialize (back i)))

  rotate_class : (handle : Option (List ℕ)) (default : Bool) → list_all (is_argument (arguments 14)) m ≡ true → value_at 1 m ≡ option_map byte_string handle → value_at 2 m ≡ if_true default
      → class_of 14 m ≡ accepted (rotate handle default)
  unfolding class_of request
  rotate_class handle default all e1 e2 =
      let name : bytes_if (value_at 1 m) ≡ handle = ap bytes_if e1 ∙ hidden_back handle in
      let back : truth_or false (value_at 2 m) ≡ default = ap (truth_or false) e2 ∙ if_back default in
      rw all (λ i. accepted (rotate (name i) (back i)))

  destroy_class : (handle : Option (List ℕ)) (recursive : Bool) → list_all (is_argument (arguments 15)) m ≡ true → value_at 1 m ≡ option_map byte_string handle → value_at 2 m ≡ if_true recursive → class_of 15 m ≡ accepted (destroy handle recursive)
  unfolding class_of request
  destroy_class handle recursive all e1 e2 =
      let back : truth_or false (value_at 2 m) ≡ recursive = ap (truth_or false) e2 ∙ if_back recursive in
      let name : bytes_if (value_at 1 m) ≡ handle = ap bytes_if e1 ∙ hidden_back handle in
      rw all (λ i. accepted (destroy (name i) (back i)))

  derive_class : (d : DeriveRequest) → list_all (is_argument (arguments 8)) m ≡ true → value_at 1 m ≡ option_map byte_string d.handle → value_at 2 m ≡ Some (byte_string d.code)
      → value_at 3 m ≡ inline_value d.config → value_at 4 m ≡ descriptor_value d.config → value_at 5 m ≡ Some (byte_string d.authority) → value_at 6 m ≡ Some (number d.mode)
      → value_at 7 m ≡ option_map byte_string d.hidden → value_at 8 m ≡ if_true d.retain → value_at 9 m ≡ unless_true d.may_derive → value_at 10 m ≡ option_map number d.locality → value_at 11 m ≡ None → value_at 12 m ≡ if_true d.child_default
      → class_of 8 m ≡ accepted (derive d)
  unfolding class_of request
  derive_class d all e1 e2 e3 e4 e5 e6 e7 e8 e9 e10 e11 e12 = go d.config e3 e4 refl where
    go : (config : Configuration) → value_at 3 m ≡ inline_value config → value_at 4 m ≡ descriptor_value config → config ≡ d.config → class_of 8 m ≡ accepted (derive d)
    go (inline b) f3 f4 same =
        let handle : bytes_if (value_at 1 m) ≡ d.handle = ap bytes_if e1 ∙ hidden_back d.handle in
        let hidden : bytes_if (value_at 7 m) ≡ d.hidden = ap bytes_if e7 ∙ hidden_back d.hidden in
        let retain : truth_or false (value_at 8 m) ≡ d.retain = ap (truth_or false) e8 ∙ if_back d.retain in
        let may : truth_or true (value_at 9 m) ≡ d.may_derive = ap (truth_or true) e9 ∙ unless_back d.may_derive in
        let locality : number_if (value_at 10 m) ≡ d.locality = ap number_if e10 ∙ locality_back d.locality in
        let default : truth_or false (value_at 12 m) ≡ d.child_default = ap (truth_or false) e12 ∙ if_back d.child_default in
        rw (e11, all, e2, f3, f4, e5, e6) (λ i. accepted (derive (record {
          handle = handle i;
          code = d.code;
          config = same i;
          authority = d.authority;
          mode = d.mode;
          hidden = hidden i;
          retain = retain i;
          may_derive = may i;
          locality = locality i;
          child_default = default i;
        })))
    go (descriptor b) f3 f4 same =
        let handle : bytes_if (value_at 1 m) ≡ d.handle = ap bytes_if e1 ∙ hidden_back d.handle in
        let hidden : bytes_if (value_at 7 m) ≡ d.hidden = ap bytes_if e7 ∙ hidden_back d.hidden in
        let retain : truth_or false (value_at 8 m) ≡ d.retain = ap (truth_or false) e8 ∙ if_back d.retain in
        let may : truth_or true (value_at 9 m) ≡ d.may_derive = ap (truth_or true) e9 ∙ unless_back d.may_derive in
        let locality : number_if (value_at 10 m) ≡ d.locality = ap number_if e10 ∙ locality_back d.locality in
        let default : truth_or false (value_at 12 m) ≡ d.child_default = ap (truth_or false) e12 ∙ if_back d.child_default in
        rw (e11, all, e2, f3, f4, e5, e6) (λ i. accepted (derive (record {
          handle = handle i;
          code = d.code;
          config = same i;
          authority = d.authority;
          mode = d.mode;
          hidden = hidden i;
          retain = retain i;
          may_derive = may i;
          locality = locality i;
          child_default = default i;
        })))

-- ---- the rows of each command are good

good_label : (command : ℕ) (b : List ℕ) → is_argument (arguments command) (2, byte_string b) ≡ true → length b ≤ 64 → Good command 2 (unless_empty b)
good_label command b is le =
    good_cond _ command 2 None (Some (byte_string b)) (good_none command 2) (record { fits = (omega arith, omega (arith, le)); stands = is })

good_bytes : (command k : ℕ) (b : List ℕ) → k < 100 → length b ≤ 4096 → is_argument (arguments command) (k, byte_string b) ≡ true → Good command k (Some (byte_string b))
good_bytes command k b lt le is = record { fits = (omega (arith, lt), omega (arith, le)); stands = is }

good_number : (command k n : ℕ) → k < 100 → n < 256 → is_argument (arguments command) (k, number n) ≡ true → Good command k (Some (number n))
good_number command k n lt le is = record { fits = (omega (arith, lt), omega (arith, le)); stands = is }

good_if : (command k : ℕ) (b : Bool) → k < 100 → is_argument (arguments command) (k, truth true) ≡ true → Good command k (if_true b)
good_if command k b lt is = good_cond b command k (Some (truth true)) None (record { fits = (omega (arith, lt), tt); stands = is }) (good_none command k)

good_unless : (command k : ℕ) (b : Bool) → k < 100 → is_argument (arguments command) (k, truth b) ≡ true → Good command k (unless_true b)
good_unless command k b lt is = good_cond b command k None (Some (truth b)) (good_none command k) (record { fits = (omega (arith, lt), tt); stands = is })

good_other : (command k default n : ℕ) → k < 100 → n < 256 → is_argument (arguments command) (k, number n) ≡ true → Good command k (unless_number default n)
good_other command k default n lt le is = good_cond _ command k None (Some (number n)) (good_none command k) (good_number command k n lt le is)

is_16 : (b : List ℕ) → IsHandle b → (leb 16 (length b) && leb (length b) 16) ≡ true
is_16 b is = within 16 16 b (omega (arith, is)) (omega (arith, is))

good_handle : (command : ℕ) (h : Option (List ℕ)) → ((b : List ℕ) → IsHandle b → is_argument (arguments command) (1, byte_string b) ≡ true) → IfSome h IsHandle → Good command 1 (option_map byte_string h)
good_handle command None is h = good_none command 1
good_handle command (Some b) is h = good_bytes command 1 b (omega arith) (omega (arith, h)) (is b h)

good_sign : (s : SignRequest) → IsSign s → AllGood 10 (sign_rows s)
good_sign s is =
    let label = within 0 64 s.label (omega arith) is.label in
    let text = within 0 2048 s.message (omega arith) is.message in (
      good_handle 10 s.handle (λ b h. rw (is_16 b h) refl) is.handle,
      (
        good_label 10 s.label (rw label refl) is.label,
        (
          good_if 10 3 s.retain (omega arith) refl,
          (
            record { fits = (omega arith, tt); stands = refl },
            (good_bytes 10 5 s.message (omega arith) (omega (arith, is.message)) (rw text refl), tt),
          ),
        ),
      ),
    )

good_seal : (s : SealRequest) → IsSeal s → AllGood 11 (seal_rows s)
good_seal s is =
    let label = within 0 64 s.label (omega arith) is.label in
    let text = within 0 2048 s.plain (omega arith) is.plain in
    let localities = le-leb s.localities 255 is.localities in
    let modes = le-leb s.modes 15 is.modes in (
      good_handle 11 s.handle (λ b h. rw (is_16 b h) refl) is.handle,
      (
        good_label 11 s.label (rw label refl) is.label,
        (
          good_if 11 3 s.retain (omega arith) refl,
          (
            good_other 11 4 255 s.localities (omega arith) (omega (arith, is.localities)) (rw localities refl),
            (
              good_other 11 5 15 s.modes (omega arith) (omega (arith, is.modes)) (rw modes refl),
              (good_bytes 11 6 s.plain (omega arith) (omega (arith, is.plain)) (rw text refl), tt),
            ),
          ),
        ),
      ),
    )

good_unseal : (u : UnsealRequest) → IsUnseal u → AllGood 12 (unseal_rows u)
good_unseal u is =
    let label = within 0 64 u.label (omega arith) is.label in
    let text = within 0 3900 u.sealed (omega arith) is.sealed in (
      good_handle 12 u.handle (λ b h. rw (is_16 b h) refl) is.handle,
      (
        good_label 12 u.label (rw label refl) is.label,
        (
          good_if 12 3 u.retain (omega arith) refl,
          (good_bytes 12 5 u.sealed (omega arith) (omega (arith, is.sealed)) (rw text refl), tt),
        ),
      ),
    )

good_initialize : (default : Bool) → AllGood 7 (command_rows (initialize default))
good_initialize default = (good_if 7 2 default (omega arith) refl, tt)

good_rotate : (h : Option (List ℕ)) (default : Bool) → IfSome h IsHandle → AllGood 14 (command_rows (rotate h default))
good_rotate h default is = (good_handle 14 h (λ b h. rw (is_16 b h) refl) is, (good_if 14 2 default (omega arith) refl, tt))

good_destroy : (h : Option (List ℕ)) (recursive : Bool) → IfSome h IsHandle → AllGood 15 (command_rows (destroy h recursive))
good_destroy h recursive is = (good_handle 15 h (λ b h. rw (is_16 b h) refl) is, (good_if 15 2 recursive (omega arith) refl, tt))

good_inline : (c : Configuration) → IsConfiguration c → Good 8 3 (inline_value c)
good_inline (inline b) is = let fits = within 64 64 b (omega (arith, is)) (omega (arith, is)) in good_bytes 8 3 b (omega arith) (omega (arith, is)) (rw fits refl)
good_inline (descriptor b) is = good_none 8 3

good_descriptor : (c : Configuration) → IsConfiguration c → Good 8 4 (descriptor_value c)
good_descriptor (inline b) is = good_none 8 4
good_descriptor (descriptor b) is = let fits = within 0 1024 b (omega arith) is in good_bytes 8 4 b (omega arith) (omega (arith, is)) (rw fits refl)

good_hidden : (h : Option (List ℕ)) → IfSome h (λ b. length b ≡ 64) → Good 8 7 (option_map byte_string h)
good_hidden None is = good_none 8 7
good_hidden (Some b) is = let fits = within 64 64 b (omega (arith, is)) (omega (arith, is)) in good_bytes 8 7 b (omega arith) (omega (arith, is)) (rw fits refl)

good_locality : (l : Option ℕ) → IfSome l (λ n. n ≤ 7) → Good 8 10 (option_map number l)
good_locality None is = good_none 8 10
good_locality (Some n) is = let fits = le-leb n 7 is in good_number 8 10 n (omega arith) (omega (arith, is)) (rw fits refl)

good_derive : (d : DeriveRequest) → IsDerive d → AllGood 8 (derive_rows d)
good_derive d is =
    let code = within 64 64 d.code (omega (arith, is.code)) (omega (arith, is.code)) in
    let authority = within 64 64 d.authority (omega (arith, is.authority)) (omega (arith, is.authority)) in
    let mode = le-leb d.mode 3 is.mode in (
      good_handle 8 d.handle (λ b h. rw (is_16 b h) refl) is.handle,
      (
        good_bytes 8 2 d.code (omega arith) (omega (arith, is.code)) (rw code refl),
        (
          good_inline d.config is.config,
          (
            good_descriptor d.config is.config,
            (
              good_bytes 8 5 d.authority (omega arith) (omega (arith, is.authority)) (rw authority refl),
              (
                good_number 8 6 d.mode (omega arith) (omega (arith, is.mode)) (rw mode refl),
                (
                  good_hidden d.hidden is.hidden,
                  (
                    good_if 8 8 d.retain (omega arith) refl,
                    (
                      good_unless 8 9 d.may_derive (omega arith) refl,
                      (good_locality d.locality is.locality, (good_if 8 12 d.child_default (omega arith) refl, tt)),
                    ),
                  ),
                ),
              ),
            ),
          ),
        ),
      ),
    )

-- ---- the class of the whole payload

rising : (r : Request) → RiseAfter None (command_rows r)
rising get_profile = tt
rising (initialize default) = (tt, tt)
rising (derive d) = (tt, (omega arith, (omega arith, (omega arith, (omega arith, (omega arith, (omega arith, (omega arith, (omega arith, (omega arith, (omega arith, tt)))))))))))
rising (sign s) = (tt, (omega arith, (omega arith, (omega arith, (omega arith, tt)))))
rising (seal s) = (tt, (omega arith, (omega arith, (omega arith, (omega arith, (omega arith, tt))))))
rising (unseal u) = (tt, (omega arith, (omega arith, (omega arith, tt))))
rising (rotate h default) = (tt, (omega arith, tt))
rising (destroy h recursive) = (tt, (omega arith, tt))

abbrev map_in : Request → FlatMap
map_in r = present (command_rows r)

good : (r : Request) → InRanges r → AllGood (number_of_request r) (command_rows r)
good get_profile is = tt
good (initialize default) is = good_initialize default
good (derive d) is = good_derive d is
good (sign s) is = good_sign s is
good (seal s) is = good_seal s is
good (unseal u) is = good_unseal u is
good (rotate h default) is = good_rotate h default is
good (destroy h recursive) is = good_destroy h recursive is

at : (r : Request) (key : ℕ) → value_at key (map_in r) ≡ look key (command_rows r)
at r key = value_is key None (command_rows r) (rising r)

all_in : (r : Request) → InRanges r → list_all (is_argument (arguments (number_of_request r))) (map_in r) ≡ true
all_in r is = all_are (is_argument (arguments (number_of_request r))) (command_rows r) (all_stand (number_of_request r) (command_rows r) (good r is))

empty_class : (k : ℕ) → class_of 1 [] ≡ accepted get_profile
unfolding class_of request
empty_class k = refl

map_class : (r : Request) → InRanges r → class_of (number_of_request r) (map_in r) ≡ accepted r
map_class get_profile is = empty_class 0
map_class (initialize default) is = let r = initialize default in initialize_class (map_in r) default (all_in r is) (at r 1) (at r 2)
map_class (derive d) is =
    let r = derive d in
    derive_class (map_in r) d (all_in r is) (at r 1) (at r 2) (at r 3) (at r 4) (at r 5) (at r 6) (at r 7) (at r 8) (at r 9) (at r 10) (at r 11) (at r 12)
map_class (sign s) is = let r = sign s in sign_class (map_in r) s (all_in r is) (at r 1) (at r 2) (at r 3) (at r 4) (at r 5)
map_class (seal s) is = let r = seal s in seal_class (map_in r) s (all_in r is) (at r 1) (at r 2) (at r 3) (at r 4) (at r 5) (at r 6)
map_class (unseal u) is = let r = unseal u in unseal_class (map_in r) u (all_in r is) (at r 1) (at r 2) (at r 3) (at r 4) (at r 5)
map_class (rotate h default) is = let r = rotate h default in rotate_class (map_in r) h default (all_in r is) (at r 1) (at r 2)
map_class (destroy h recursive) is = let r = destroy h recursive in destroy_class (map_in r) h recursive (all_in r is) (at r 1) (at r 2)

number_small : (r : Request) → number_of_request r < 2 ^ 64
number_small get_profile = omega arith
number_small (initialize default) = omega arith
number_small (derive d) = omega arith
number_small (sign s) = omega arith
number_small (seal s) = omega arith
number_small (unseal u) = omega arith
number_small (rotate h default) = omega arith
number_small (destroy h recursive) = omega arith

few_rows : (r : Request) → length (command_rows r) ≤ 11
few_rows get_profile = omega arith
few_rows (initialize default) = omega arith
few_rows (derive d) = omega arith
few_rows (sign s) = omega arith
few_rows (seal s) = omega arith
few_rows (unseal u) = omega arith
few_rows (rotate h default) = omega arith
few_rows (destroy h recursive) = omega arith

pub commands_back : (r : Request) → InRanges r → class (command_payload r) ≡ accepted r
unfolding class
commands_back r is =
    let k = number_of_request r in
    let rows = command_rows r in
    let count : length (present rows) < 2 ^ 64 = omega (arith, few_pairs rows, few_rows r) in
    let short : length (inner k (present rows)) < 2 ^ 64 = omega (arith, command_fits r is, message_length k (present rows) (length (inner k (present rows))) refl) in
    let fit = all_fit k rows (good r is) in
    rw (outer_read k rows (number_small r) count (rising r) fit short, inner_read k rows (number_small r) count (rising r) fit short) (map_class r is)
