-- What a parse of the program's words comes to.
use Rattle.std.proofs.Common.{◌≡◌, ℕ, Bool, List, [], ◌∷◌, ◌++◌, length, Option, Some, None, true, false, inl, inr, refl, sym, ap, ap₂, subst, append-nil, append_assoc, ◌∙◌, arith, codes, ◌⊎◌}
use Rattle.std.specs.Prelude.{cond, find, drop, option_map, ◌||◌, ◌&&◌, ◌==◌, is_some, nat_eq, fold, if◌then◌else◌, option_and_then}
use Rattle.std.specs.Cmp.Lexicographic.{pointwise}
use Rattle.std.specs.List.{AllByRecursion}
use Rattle.std.specs.Str.{bytes_eq}
use Rattle.std.proofs.lemmas.Slice.Eq.{bytes_eq-Decides}
use Rattle.std.specs.Option.{option_map_or}
use Rattle.clap.specs.Lexer.{long_of, short_of, strip_byte, long_of_rest, short_of_rest}
use Rattle.clap.specs.Walk.{Held, Row, first_of, answers_to, subcommand_met, subcommand_or_other, Names, Rule, Step, Text, Walk, idle, value, walk, walk_from, walked, word_met, after_step, walked_from, to_positional, arg_by_index, long_or_other, short_or_plain, trailing, nothing_held, settled, finished, rows_after}
use Rattle.clap.specs.Simple.{App, Shape, built, built_leaf, inherited, entered, names_of, subcommand_of}
use Rattle.clap.specs.Kinds.{Kinds, or_else}
use Rattle.clap.specs.Faults.{fault_of, other_fault, walk_fault, entered_fault, level_fault, settle_fault, defaults_fault, check_fault, turn_fault, word_fault, step_fault, flag_word_fault, bundle_fault}
use Rattle.clap.specs.declared.error.kind.ErrorKind.TheVariants.{UnknownArgument, InvalidSubcommand}
use Rattle.dpe_audit.specs.Commands.{Asks, AsksOne, AsksThree, AsksTwo, program, judging, listing, connecting}

-- a word that isn't empty and begins with no hyphen is no flag
pub record IsPlain (word : Text) : Type 0 where
  pub long : long_of word ≡ None
  pub short : short_of word ≡ None
  pub dashes : bytes_eq word (45 ∷ 45 ∷ []) ≡ false

pub no_dash : (x : ℕ) (t : Text) → (x == 45) ≡ false → IsPlain (x ∷ t)
no_dash x t e = record {
  long = ap (λ b. option_and_then long_of_rest (option_and_then (strip_byte 45) (if b then Some t else None))) e;
  short = ap (λ b. option_and_then short_of_rest (if b then Some t else None)) e;
  dashes = ap (λ b. b && pointwise nat_eq t (45 ∷ [])) e;
}

abbrev at : Held → ℕ → Walk
at h p = record { held = h; waiting = idle; position = p; is_trailing = false; stopped = None }

word_fault_plain : (s : Shape) (word : Text) (h : Held) → IsPlain word → word_fault s [] false idle word h ≡ []
word_fault_plain s word h p =
    ap (λ b. if b then [] else flag_word_fault s.rules s.args_override_self (long_of word) word h) p.dashes
    ∙ ap (λ o. flag_word_fault s.rules s.args_override_self o word h) p.long
    ∙ ap (λ o. option_map_or (λ flags. bundle_fault s.rules s.args_override_self flags h) o []) p.short

word_met_plain : (c : List Rule) (n : ℕ) (word : Text) (h : Held) → IsPlain word → word_met c [] false idle n word h ≡ (h, value)
word_met_plain c n word h p =
    ap (λ b. if b then (h, trailing n) else long_or_other c idle word (long_of word) h) p.dashes
    ∙ ap (λ o. long_or_other c idle word o h) p.long
    ∙ ap (λ o. short_or_plain c idle word o h) p.short

turn_plain : (s : Shape) (p : ℕ) (word : Text) (h : Held) → IsPlain word → turn_fault s [] (at h p) word ≡ step_fault s p h value
turn_plain s p word h plain =
    ap₂ (λ (k : Kinds) (met : Held × Step). or_else k (step_fault s p met.0 met.1)) (word_fault_plain s word h plain) (word_met_plain s.rules p word h plain)

walked_plain : (c : List Rule) (p : ℕ) (word : Text) (h : Held) → IsPlain word → walked c [] (at h p) word ≡ to_positional c (arg_by_index c p) word (at h p) h
unfolding walked
walked_plain c p word h plain = ap (λ (met : Held × Step). after_step c word (at h p) met.0 met.1) (word_met_plain c p word h plain)

-- ## Behind the word that names a subcommand

module _ (s : Shape) (names : Names) where
  behind : (w : Walk) (name : Text) (xs rest : List Text) → w.stopped ≡ Some (name, xs) → fold (walked s.rules names) w rest ≡ record w { stopped = Some (name, xs ++ rest) }
  unfolding walked
  behind w name xs [] is = ap (λ (o : Option (Text × List Text)). record w { stopped = o }) (is ∙ ap (λ (t : List Text). Some (name, t)) (sym (append-nil xs)))
  behind w name xs (word ∷ rest) is =
      let one : walked s.rules names w word ≡ record w { stopped = Some (name, xs ++ word ∷ []) } = ap (λ (o : Option (Text × List Text)). walked_from s.rules names o w word) is in
      ap (λ (v : Walk). fold (walked s.rules names) v rest) one
      ∙ behind (record w { stopped = Some (name, xs ++ word ∷ []) }) name (xs ++ word ∷ []) rest refl
      ∙ ap (λ (t : List Text). record w { stopped = Some (name, t) }) (append_assoc xs (word ∷ []) rest)

  none_behind : (w : Walk) (name : Text) (xs rest : List Text) → w.stopped ≡ Some (name, xs) → walk_fault s names w rest ≡ []
  unfolding walk_fault walked
  none_behind w name xs [] is = refl
  none_behind w name xs (word ∷ rest) is =
      let one : walked s.rules names w word ≡ record w { stopped = Some (name, xs ++ word ∷ []) } = ap (λ (o : Option (Text × List Text)). walked_from s.rules names o w word) is in
      let here : turn_fault s names w word ≡ [] = ap (λ (o : Option (Text × List Text)).
      let met = word_met s.rules names w.is_trailing w.waiting w.position word w.held in
      if is_some o then [] else or_else (word_fault s names w.is_trailing w.waiting word w.held) (step_fault s w.position met.0 met.1)) is in
      ap₂ (λ (k l : Kinds). or_else k l) here (ap (λ (v : Walk). walk_fault s names v rest) one ∙ none_behind (record w { stopped = Some (name, xs ++ word ∷ []) }) name (xs ++ word ∷ []) rest refl)

-- ## The program

abbrev B : App
B = built program

-- what a level's walk comes to
abbrev level : Shape → Walk → Kinds → Bool → Kinds → Kinds
level s w k has_subcommand below =
    or_else k (or_else below (or_else (settle_fault s.rules s.args_override_self w.held)
    (or_else (defaults_fault (settled s.rules w.held).rows s.rules) (check_fault s (finished s.rules w.held) has_subcommand))))

abbrev top_level : Walk → Kinds → Kinds
top_level w k = level B.top w k (is_some (entered B w.stopped)) (entered_fault B w.stopped)

abbrev leaf_level : Shape → List Text → Kinds
leaf_level s rest = level_fault s [] nothing_held rest false []

abbrev stopped_at : Text → List Text → Walk
stopped_at name rest = record { held = nothing_held; waiting = idle; position = 1; is_trailing = false; stopped = Some (name, rest) }

or_else_nil : (k : Kinds) → or_else k [] ≡ k
or_else_nil [] = refl
or_else_nil (x ∷ xs) = refl

is_top : (ws : List Text) → fault_of program ws ≡ top_level (walk B.top.rules (names_of B) nothing_held ws) (walk_fault B.top (names_of B) (walk_from nothing_held) ws)
is_top ws = refl

-- the words behind the name of a subcommand are the subcommand's
module _ (name : Text) (leaf : Shape) (first : walked B.top.rules (names_of B) (walk_from nothing_held) name ≡ stopped_at name [])
    (turn : turn_fault B.top (names_of B) (walk_from nothing_held) name ≡ [])
    (sub : (rest : List Text) → top_level (stopped_at name rest) [] ≡ or_else (leaf_level leaf rest) []) (rest : List Text) where
  name_met : walk B.top.rules (names_of B) nothing_held (name ∷ rest) ≡ stopped_at name rest
  name_met =
      ap (λ (w : Walk). fold (walked B.top.rules (names_of B)) w rest) first ∙ behind B.top (names_of B) (stopped_at name []) name [] rest refl

  name_none : walk_fault B.top (names_of B) (walk_from nothing_held) (name ∷ rest) ≡ []
  unfolding walk_fault
  name_none =
      ap₂ (λ (k : Kinds) (w : Walk). or_else k (walk_fault B.top (names_of B) w rest)) turn first ∙ none_behind B.top (names_of B) (stopped_at name []) name [] rest refl

  name_level : fault_of program (name ∷ rest) ≡ leaf_level leaf rest
  name_level = ap₂ top_level name_met name_none ∙ sub rest ∙ or_else_nil (leaf_level leaf rest)

  name_entered : subcommand_of program (name ∷ rest) ≡ entered B (Some (name, rest))
  name_entered = ap (λ (w : Walk). entered B w.stopped) name_met

-- ## A subcommand's words

abbrev sub : Shape → Shape
sub s = built_leaf (inherited program.top s)

abbrev J : Text → Shape
J name = sub (judging name)

abbrev L : Shape
L = sub listing

abbrev C : Shape
C = sub connecting

check_level : (rest : List Text) → fault_of program (codes "check" ∷ rest) ≡ leaf_level (J (codes "check")) rest
unfolding walked defaults_fault
check_level = name_level (codes "check") (J (codes "check")) refl refl (λ rest. refl)

check_entered : (rest : List Text) → subcommand_of program (codes "check" ∷ rest) ≡ Some (codes "check", rows_after (J (codes "check")).rules [] rest)
unfolding walked defaults_fault
check_entered = name_entered (codes "check") (J (codes "check")) refl refl (λ rest. refl)

live_level : (rest : List Text) → fault_of program (codes "live" ∷ rest) ≡ leaf_level (J (codes "live")) rest
unfolding walked defaults_fault
live_level = name_level (codes "live") (J (codes "live")) refl refl (λ rest. refl)

live_entered : (rest : List Text) → subcommand_of program (codes "live" ∷ rest) ≡ Some (codes "live", rows_after (J (codes "live")).rules [] rest)
unfolding walked defaults_fault
live_entered = name_entered (codes "live") (J (codes "live")) refl refl (λ rest. refl)

list_level : (rest : List Text) → fault_of program (codes "list" ∷ rest) ≡ leaf_level L rest
unfolding walked defaults_fault
list_level = name_level (codes "list") L refl refl (λ rest. refl)

list_entered : (rest : List Text) → subcommand_of program (codes "list" ∷ rest) ≡ Some (codes "list", rows_after L.rules [] rest)
unfolding walked defaults_fault
list_entered = name_entered (codes "list") L refl refl (λ rest. refl)

connection_level : (rest : List Text) → fault_of program (codes "connection" ∷ rest) ≡ leaf_level C rest
unfolding walked defaults_fault
connection_level = name_level (codes "connection") C refl refl (λ rest. refl)

connection_entered : (rest : List Text) → subcommand_of program (codes "connection" ∷ rest) ≡ Some (codes "connection", rows_after C.rules [] rest)
unfolding walked defaults_fault
connection_entered = name_entered (codes "connection") C refl refl (λ rest. refl)

module _ (s : Shape) (p : ℕ) (word : Text) (h : Held) (rest : List Text) (plain : IsPlain word) where
  abbrev gone_on : Walk
  gone_on = to_positional s.rules (arg_by_index s.rules p) word (at h p) h

  one_kinds : walk_fault s [] (at h p) (word ∷ rest) ≡ or_else (step_fault s p h value) (walk_fault s [] gone_on rest)
  unfolding walk_fault
  one_kinds = ap₂ (λ (k : Kinds) (w : Walk). or_else k (walk_fault s [] w rest)) (turn_plain s p word h plain) (walked_plain s.rules p word h plain)

  one_walk : fold (walked s.rules []) (at h p) (word ∷ rest) ≡ fold (walked s.rules []) gone_on rest
  one_walk = ap (λ (w : Walk). fold (walked s.rules []) w rest) (walked_plain s.rules p word h plain)

-- the words so far went to the first arguments of these names
abbrev held_by : Shape → ℕ → Text → Held → Held
held_by s p word h = (to_positional s.rules (arg_by_index s.rules p) word (at h p) h).held

module _ (name a b : Text) (pa : IsPlain a) (pb : IsPlain b) (rest : List Text) where
  abbrev two_held : Held
  two_held = held_by (J name) 2 b (held_by (J name) 1 a nothing_held)

  two_kinds : walk_fault (J name) [] (walk_from nothing_held) (a ∷ b ∷ rest) ≡ walk_fault (J name) [] (at two_held 3) rest
  two_kinds = one_kinds (J name) 1 a nothing_held (b ∷ rest) pa ∙ one_kinds (J name) 2 b (held_by (J name) 1 a nothing_held) rest pb

  two_walk : walk (J name).rules [] nothing_held (a ∷ b ∷ rest) ≡ fold (walked (J name).rules []) (at two_held 3) rest
  two_walk = one_walk (J name) 1 a nothing_held (b ∷ rest) pa ∙ one_walk (J name) 2 b (held_by (J name) 1 a nothing_held) rest pb

two_pass : (name a b : Text) → IsPlain a → IsPlain b → leaf_level (J name) (a ∷ b ∷ []) ≡ []
unfolding walk_fault defaults_fault
two_pass name a b pa pb = ap₂ (λ (w : Walk) (k : Kinds). level (J name) w k false []) (two_walk name a b pa pb []) (two_kinds name a b pa pb [])

two_first : (name a b : Text) → IsPlain a → IsPlain b → first_of (codes "seed") (rows_after (J name).rules [] (a ∷ b ∷ [])) ≡ Some a
two_first name a b pa pb = ap (λ (w : Walk). first_of (codes "seed") (finished (J name).rules w.held)) (two_walk name a b pa pb [])

two_second : (name a b : Text) → IsPlain a → IsPlain b → first_of (codes "journal") (rows_after (J name).rules [] (a ∷ b ∷ [])) ≡ Some b
two_second name a b pa pb = ap (λ (w : Walk). first_of (codes "journal") (finished (J name).rules w.held)) (two_walk name a b pa pb [])

-- no other number of words passes
two_none : (name : Text) → leaf_level (J name) [] ≡ [] → ⊥
unfolding walk_fault defaults_fault
two_none name e = absurd (omega (arith, ap length e))

two_one : (name a : Text) → IsPlain a → leaf_level (J name) (a ∷ []) ≡ [] → ⊥
unfolding walk_fault defaults_fault
two_one name a pa e =
    let is : leaf_level (J name) (a ∷ []) ≡ level (J name) (at (held_by (J name) 1 a nothing_held) 2) [] false [] =
    ap₂ (λ (w : Walk) (k : Kinds). level (J name) w k false []) (one_walk (J name) 1 a nothing_held [] pa) (one_kinds (J name) 1 a nothing_held [] pa) in
    absurd (omega (arith, ap length (sym is ∙ e)))

two_more : (name a b c : Text) (rest : List Text) → IsPlain a → IsPlain b → IsPlain c → leaf_level (J name) (a ∷ b ∷ c ∷ rest) ≡ [] → ⊥
unfolding walk_fault defaults_fault
two_more name a b c rest pa pb pc e =
    let kinds : walk_fault (J name) [] (walk_from nothing_held) (a ∷ b ∷ c ∷ rest) ≡ UnknownArgument ∷ [] =
    two_kinds name a b pa pb (c ∷ rest) ∙ one_kinds (J name) 3 c (two_held name a b pa pb (c ∷ rest)) rest pc in
    let is : leaf_level (J name) (a ∷ b ∷ c ∷ rest) ≡ UnknownArgument ∷ [] =
    ap (λ (k : Kinds). level (J name) (walk (J name).rules [] nothing_held (a ∷ b ∷ c ∷ rest)) k false []) kinds in
    absurd (omega (arith, ap length (sym is ∙ e)))

-- ## `list`

module _ (a : Text) (pa : IsPlain a) (rest : List Text) where
  abbrev list_held : Held
  list_held = held_by L 1 a nothing_held

  list_kinds : walk_fault L [] (walk_from nothing_held) (a ∷ rest) ≡ walk_fault L [] (at list_held 2) rest
  list_kinds = one_kinds L 1 a nothing_held rest pa

  list_walk : walk L.rules [] nothing_held (a ∷ rest) ≡ fold (walked L.rules []) (at list_held 2) rest
  list_walk = one_walk L 1 a nothing_held rest pa

list_pass : (a : Text) → IsPlain a → leaf_level L (a ∷ []) ≡ []
unfolding walk_fault defaults_fault
list_pass a pa = ap₂ (λ (w : Walk) (k : Kinds). level L w k false []) (list_walk a pa []) (list_kinds a pa [])

list_first : (a : Text) → IsPlain a → first_of (codes "journal") (rows_after L.rules [] (a ∷ [])) ≡ Some a
list_first a pa = ap (λ (w : Walk). first_of (codes "journal") (finished L.rules w.held)) (list_walk a pa [])

list_none : leaf_level L [] ≡ [] → ⊥
unfolding walk_fault defaults_fault
list_none e = absurd (omega (arith, ap length e))

list_more : (a b : Text) (rest : List Text) → IsPlain a → IsPlain b → leaf_level L (a ∷ b ∷ rest) ≡ [] → ⊥
unfolding walk_fault defaults_fault
list_more a b rest pa pb e =
    let kinds : walk_fault L [] (walk_from nothing_held) (a ∷ b ∷ rest) ≡ UnknownArgument ∷ [] =
    list_kinds a pa (b ∷ rest) ∙ one_kinds L 2 b (list_held a pa (b ∷ rest)) rest pb in
    let is : leaf_level L (a ∷ b ∷ rest) ≡ UnknownArgument ∷ [] =
    ap (λ (k : Kinds). level L (walk L.rules [] nothing_held (a ∷ b ∷ rest)) k false []) kinds in
    absurd (omega (arith, ap length (sym is ∙ e)))

-- ## `connection`

module _ (a b : Text) (pa : IsPlain a) (pb : IsPlain b) (rest : List Text) where
  abbrev half_held : Held
  half_held = held_by C 2 b (held_by C 1 a nothing_held)

  half_kinds : walk_fault C [] (walk_from nothing_held) (a ∷ b ∷ rest) ≡ walk_fault C [] (at half_held 3) rest
  half_kinds = one_kinds C 1 a nothing_held (b ∷ rest) pa ∙ one_kinds C 2 b (held_by C 1 a nothing_held) rest pb

  half_walk : walk C.rules [] nothing_held (a ∷ b ∷ rest) ≡ fold (walked C.rules []) (at half_held 3) rest
  half_walk = one_walk C 1 a nothing_held (b ∷ rest) pa ∙ one_walk C 2 b (held_by C 1 a nothing_held) rest pb

module _ (a b c : Text) (pa : IsPlain a) (pb : IsPlain b) (pc : IsPlain c) (rest : List Text) where
  abbrev three_held : Held
  three_held = held_by C 3 c (half_held a b pa pb (c ∷ rest))

  three_kinds : walk_fault C [] (walk_from nothing_held) (a ∷ b ∷ c ∷ rest) ≡ walk_fault C [] (at three_held 4) rest
  three_kinds = half_kinds a b pa pb (c ∷ rest) ∙ one_kinds C 3 c (half_held a b pa pb (c ∷ rest)) rest pc

  three_walk : walk C.rules [] nothing_held (a ∷ b ∷ c ∷ rest) ≡ fold (walked C.rules []) (at three_held 4) rest
  three_walk = half_walk a b pa pb (c ∷ rest) ∙ one_walk C 3 c (half_held a b pa pb (c ∷ rest)) rest pc

three_pass : (a b c : Text) → IsPlain a → IsPlain b → IsPlain c → leaf_level C (a ∷ b ∷ c ∷ []) ≡ []
unfolding walk_fault defaults_fault
three_pass a b c pa pb pc = ap₂ (λ (w : Walk) (k : Kinds). level C w k false []) (three_walk a b c pa pb pc []) (three_kinds a b c pa pb pc [])

module _ (a b c : Text) (pa : IsPlain a) (pb : IsPlain b) (pc : IsPlain c) where
  three_first : first_of (codes "journal") (rows_after C.rules [] (a ∷ b ∷ c ∷ [])) ≡ Some a
  three_first = ap (λ (w : Walk). first_of (codes "journal") (finished C.rules w.held)) (three_walk a b c pa pb pc [])

  three_second : first_of (codes "caller") (rows_after C.rules [] (a ∷ b ∷ c ∷ [])) ≡ Some b
  three_second = ap (λ (w : Walk). first_of (codes "caller") (finished C.rules w.held)) (three_walk a b c pa pb pc [])

  three_third : first_of (codes "number") (rows_after C.rules [] (a ∷ b ∷ c ∷ [])) ≡ Some c
  three_third = ap (λ (w : Walk). first_of (codes "number") (finished C.rules w.held)) (three_walk a b c pa pb pc [])

three_none : leaf_level C [] ≡ [] → ⊥
unfolding walk_fault defaults_fault
three_none e = absurd (omega (arith, ap length e))

three_one : (a : Text) → IsPlain a → leaf_level C (a ∷ []) ≡ [] → ⊥
unfolding walk_fault defaults_fault
three_one a pa e =
    let is : leaf_level C (a ∷ []) ≡ level C (at (held_by C 1 a nothing_held) 2) [] false [] =
    ap₂ (λ (w : Walk) (k : Kinds). level C w k false []) (one_walk C 1 a nothing_held [] pa) (one_kinds C 1 a nothing_held [] pa) in
    absurd (omega (arith, ap length (sym is ∙ e)))

three_two : (a b : Text) → IsPlain a → IsPlain b → leaf_level C (a ∷ b ∷ []) ≡ [] → ⊥
unfolding walk_fault defaults_fault
three_two a b pa pb e =
    let is : leaf_level C (a ∷ b ∷ []) ≡ level C (at (half_held a b pa pb []) 3) [] false [] =
    ap₂ (λ (w : Walk) (k : Kinds). level C w k false []) (half_walk a b pa pb []) (half_kinds a b pa pb []) in
    absurd (omega (arith, ap length (sym is ∙ e)))

three_more : (a b c d : Text) (rest : List Text) → IsPlain a → IsPlain b → IsPlain c → IsPlain d → leaf_level C (a ∷ b ∷ c ∷ d ∷ rest) ≡ [] → ⊥
unfolding walk_fault defaults_fault
three_more a b c d rest pa pb pc pd e =
    let kinds : walk_fault C [] (walk_from nothing_held) (a ∷ b ∷ c ∷ d ∷ rest) ≡ UnknownArgument ∷ [] =
    three_kinds a b c pa pb pc (d ∷ rest) ∙ one_kinds C 4 d (three_held a b c pa pb pc (d ∷ rest)) rest pd in
    let is : leaf_level C (a ∷ b ∷ c ∷ d ∷ rest) ≡ UnknownArgument ∷ [] =
    ap (λ (k : Kinds). level C (walk C.rules [] nothing_held (a ∷ b ∷ c ∷ d ∷ rest)) k false []) kinds in
    absurd (omega (arith, ap length (sym is ∙ e)))

-- ## All words

module _ (name : Text) (words : List Text) where
  -- a word that names no subcommand
  record IsOther : Type 0 where
    pub check : bytes_eq (codes "check") name ≡ false
    pub live : bytes_eq (codes "live") name ≡ false
    pub list : bytes_eq (codes "list") name ≡ false
    pub connection : bytes_eq (codes "connection") name ≡ false

  none_met : IsOther → subcommand_met (names_of B) idle name ≡ None
  none_met o =
      ap (λ b. option_map (λ (s : Text × List Text). s.0) (cond (b || false) (Some (codes "check", [])) (find (answers_to name) (drop 1 (names_of B))))) o.check
      ∙ ap (λ b. option_map (λ (s : Text × List Text). s.0) (cond (b || false) (Some (codes "live", [])) (find (answers_to name) (drop 2 (names_of B))))) o.live
      ∙ ap (λ b. option_map (λ (s : Text × List Text). s.0) (cond (b || false) (Some (codes "list", [])) (find (answers_to name) (drop 3 (names_of B))))) o.list
      ∙ ap (λ b. option_map (λ (s : Text × List Text). s.0) (cond (b || false) (Some (codes "connection", [])) None)) o.connection

  other_turn : IsOther → IsPlain name → turn_fault B.top (names_of B) (walk_from nothing_held) name ≡ UnknownArgument ∷ InvalidSubcommand ∷ []
  other_turn o p =
      ap₂ (λ (k : Kinds) (met : Held × Step). or_else k (step_fault B.top 1 met.0 met.1))
      (ap (λ (n : Option Text). other_fault B.top n name nothing_held) (none_met o) ∙ word_fault_plain B.top name nothing_held p)
      (ap (λ (n : Option Text). subcommand_or_other B.top.rules n idle 1 name nothing_held) (none_met o) ∙ word_met_plain B.top.rules 1 name nothing_held p)

  other_fails : IsOther → IsPlain name → fault_of program (name ∷ words) ≡ [] → ⊥
  unfolding walk_fault
  other_fails o p e =
      let is : fault_of program (name ∷ words) ≡ UnknownArgument ∷ InvalidSubcommand ∷ [] =
      ap (λ (k : Kinds). top_level (walk B.top.rules (names_of B) nothing_held (name ∷ words)) (or_else k (walk_fault B.top (names_of B) (walked B.top.rules (names_of B) (walk_from nothing_held) name) words)))
      (other_turn o p) in
      absurd (omega (arith, ap length (sym is ∙ e)))

-- ## What the words ask for

abbrev AllPlain : List Text → Type 0
AllPlain = AllByRecursion IsPlain

asks_two : (name : Text) (rest : List Text) (met : Option (Text × List Row)) → met ≡ Some (name, rows_after (J name).rules [] rest) → AllPlain rest → leaf_level (J name) rest ≡ []
    → AsksTwo name (name ∷ rest) met
asks_two name [] met is p e = absurd (two_none name e)
asks_two name (a ∷ []) met is p e = absurd (two_one name a p.0 e)
asks_two name (a ∷ b ∷ []) met is p e = record {
  seed = a;
  journal = b;
  rows = rows_after (J name).rules [] (a ∷ b ∷ []);
  form = refl;
  entered = is;
  has_seed = two_first name a b p.0 p.1.0;
  has_journal = two_second name a b p.0 p.1.0;
}
asks_two name (a ∷ b ∷ c ∷ rest) met is p e = absurd (two_more name a b c rest p.0 p.1.0 p.1.1.0 e)

asks_one : (rest : List Text) (met : Option (Text × List Row)) → met ≡ Some (codes "list", rows_after L.rules [] rest) → AllPlain rest → leaf_level L rest ≡ [] → AsksOne (codes "list" ∷ rest) met
asks_one [] met is p e = absurd (list_none e)
asks_one (a ∷ []) met is p e = record {
  journal = a;
  rows = rows_after L.rules [] (a ∷ []);
  form = refl;
  entered = is;
  has_journal = list_first a p.0;
}
asks_one (a ∷ b ∷ rest) met is p e = absurd (list_more a b rest p.0 p.1.0 e)

asks_three : (rest : List Text) (met : Option (Text × List Row)) → met ≡ Some (codes "connection", rows_after C.rules [] rest) → AllPlain rest → leaf_level C rest ≡ []
    → AsksThree (codes "connection" ∷ rest) met
asks_three [] met is p e = absurd (three_none e)
asks_three (a ∷ []) met is p e = absurd (three_one a p.0 e)
asks_three (a ∷ b ∷ []) met is p e = absurd (three_two a b p.0 p.1.0 e)
asks_three (a ∷ b ∷ c ∷ []) met is p e = record {
  journal = a;
  caller = b;
  number = c;
  rows = rows_after C.rules [] (a ∷ b ∷ c ∷ []);
  form = refl;
  entered = is;
  has_journal = three_first a b c p.0 p.1.0 p.1.1.0;
  has_caller = three_second a b c p.0 p.1.0 p.1.1.0;
  has_number = three_third a b c p.0 p.1.0 p.1.1.0;
}
asks_three (a ∷ b ∷ c ∷ d ∷ rest) met is p e = absurd (three_more a b c d rest p.0 p.1.0 p.1.1.0 p.1.1.1.0 e)

-- the word is this name, or another
named_or : (name word : Text) → (name ≡ word) ⊎ (bytes_eq name word ≡ false)
named_or name word = go (bytes_eq name word) refl
  where
    go : (b : Bool) → bytes_eq name word ≡ b → (name ≡ word) ⊎ (bytes_eq name word ≡ false)
    go true e = inl ((bytes_eq-Decides name word).0 e)
    go false e = inr e

abbrev Asked : List Text → Type 0
Asked words = Asks words (subcommand_of program words)

asks_named : (name : Text) (rest : List Text) → IsPlain name → AllPlain rest → fault_of program (name ∷ rest) ≡ [] → Asked (name ∷ rest)
asks_named name rest own p e = elim (named_or (codes "check") name) [
  | inl is ↦ subst (λ (n : Text). fault_of program (n ∷ rest) ≡ [] → Asked (n ∷ rest)) is
      (λ none. inl (asks_two (codes "check") rest (subcommand_of program (codes "check" ∷ rest)) (check_entered rest) p (sym (check_level rest) ∙ none))) e
  | inr not_check ↦ elim (named_or (codes "live") name) [
    | inl is ↦ subst (λ (n : Text). fault_of program (n ∷ rest) ≡ [] → Asked (n ∷ rest)) is
        (λ none. inr (inl (asks_two (codes "live") rest (subcommand_of program (codes "live" ∷ rest)) (live_entered rest) p (sym (live_level rest) ∙ none)))) e
    | inr not_live ↦ elim (named_or (codes "list") name) [
      | inl is ↦ subst (λ (n : Text). fault_of program (n ∷ rest) ≡ [] → Asked (n ∷ rest)) is
          (λ none. inr (inr (inl (asks_one rest (subcommand_of program (codes "list" ∷ rest)) (list_entered rest) p (sym (list_level rest) ∙ none))))) e
      | inr not_list ↦ elim (named_or (codes "connection") name) [
        | inl is ↦ subst (λ (n : Text). fault_of program (n ∷ rest) ≡ [] → Asked (n ∷ rest)) is
            (λ none. inr (inr (inr (asks_three rest (subcommand_of program (codes "connection" ∷ rest)) (connection_entered rest) p (sym (connection_level rest) ∙ none))))) e
        | inr not_connection ↦
            absurd (other_fails name rest (record { check = not_check; live = not_live; list = not_list; connection = not_connection }) own e)
      ]
    ]
  ]
]

pub asks : (words : List Text) → AllPlain words → fault_of program words ≡ [] → Asked words
unfolding walk_fault defaults_fault
asks [] p e = absurd (omega (arith, ap length e))
asks (name ∷ rest) p e = asks_named name rest p.0 p.1 e

-- right words pass
pub two_right : (name a b : Text) → (name ≡ codes "check") ⊎ (name ≡ codes "live") → IsPlain a → IsPlain b → fault_of program (name ∷ a ∷ b ∷ []) ≡ []
two_right name a b (inl is) pa pb =
    ap (λ (n : Text). fault_of program (n ∷ a ∷ b ∷ [])) is ∙ check_level (a ∷ b ∷ []) ∙ two_pass (codes "check") a b pa pb
two_right name a b (inr is) pa pb =
    ap (λ (n : Text). fault_of program (n ∷ a ∷ b ∷ [])) is ∙ live_level (a ∷ b ∷ []) ∙ two_pass (codes "live") a b pa pb

pub one_right : (a : Text) → IsPlain a → fault_of program (codes "list" ∷ a ∷ []) ≡ []
one_right a pa = list_level (a ∷ []) ∙ list_pass a pa

pub three_right : (a b c : Text) → IsPlain a → IsPlain b → IsPlain c → fault_of program (codes "connection" ∷ a ∷ b ∷ c ∷ []) ≡ []
three_right a b c pa pb pc = connection_level (a ∷ b ∷ c ∷ []) ∙ three_pass a b c pa pb pc
