-- A script that was read, beside the bytes that its file tells, and the words that name the links.
use Rattle.std.proofs.Common.{◌≡◌, ℕ, ◌+◌, ◌-◌, ◌<◌, ◌≤◌, Bool, true, false, List, [], ◌∷◌, ◌++◌, length, take, drop, Option, Some, refl, sym, ap, subst, ◌∙◌, append-nil, length-append, length-drop, length-take, arith}
use Rattle.std.proofs.lemmas.List.{length-map}
use Rattle.std.specs.Prelude.{nat_lt, if◌then◌else◌}
use Rattle.std.specs.Io.KnownBytes.{IsAtEnd}
use Rattle.std.specs.Borrow.{Bor}
use Rattle.std.proofs.lemmas.Bool.Decides.{nat_tests}
use Rattle.dpe_io.specs.Told.{Kind}
use Rattle.dpe_grammar.specs.Values.{texts}
use Rattle.dpe_script.specs.Names.{no_names}
use Rattle.dpe_script.specs.Script.{Line, Script, right, bad_line, max_script, script_of, script_from, lines_of}
use Rattle.dpe_io.specs.Told.{Told}
use Rattle.dpe_script.specs.Client.{Loads, TellsScript, TellAnswers, ForScript, IfRight, IfBad, KindKept, Ends, WordsEnd, EndCausedBy, WordsCausedBy, links_in}
use Rattle.dpe_script.specs.declared.end.End.{End}
use Rattle.dpe_script.specs.declared.end.End.TheVariants.{Done, NoMemory, NoScript, BadScript, LinkFault, BadReply, OutputFault}
use Rattle.dpe_script.proofs.Completing.{opened_next, consumed_told}

-- ---- the bytes of a script

less_test : (a b : ℕ) → a < b → nat_lt a b ≡ true
less_test a b lt = grind (arith, nat_tests)

not_less : (a b : ℕ) → nat_lt a b ≡ false → b ≤ a
not_less a b e = grind (arith, nat_tests)

is_less : (a b : ℕ) → nat_lt a b ≡ true → a < b
is_less a b e = grind (arith, nat_tests)

too_long : (count : ℕ) (bytes : List ℕ) → max_script < length bytes → script_of count bytes ≡ bad_line 0
too_long count bytes long = ap (λ (b : Bool). if b then bad_line 0 else script_from count 1 no_names (lines_of bytes)) (less_test max_script (length bytes) long)

-- the text that was read makes the same script as the bytes
pub same_script : {F : Type 0} (left : F → Option (List ℕ)) (faults : F → ℕ) (count room : ℕ) (old new : Kind F) (text bytes : List ℕ) → room ≡ max_script + 1 → Loads left faults room old new text
    → TellsScript left old bytes → script_of count text ≡ script_of count bytes
same_script {F} left faults count room old new text bytes size l t = by_test (nat_lt (length text) room) refl
  where
    next : (rest : List F) × (l.mid.unopened ≡ Some rest) × (t.file ∷ t.later ≡ l.opened ∷ rest)
    next = opened_next old.unopened l.mid.unopened l.opened (t.file ∷ t.later) l.opens.next t.first

    told : left l.opened ≡ Some bytes
    told = let n = next.2 in let e : t.file ≡ l.opened = cc in ap left (sym e) ∙ t.bytes_are

    read : (rest : List ℕ) × (left l.closed ≡ Some rest) × (bytes ≡ text ++ rest)
    read = consumed_told (left l.opened) (left l.closed) bytes text told l.read

    by_test : (b : Bool) → nat_lt (length text) room ≡ b → script_of count text ≡ script_of count bytes
    by_test true e =
        let none : read.0 ≡ [] = subst IsAtEnd read.1 (l.whole (is_less (length text) room e)) in
        ap (script_of count) (sym (read.2 ∙ ap (λ (r : List ℕ). text ++ r) none ∙ append-nil text))
    by_test false e =
        let some = not_less (length text) room e in
        let n : length bytes ≡ length text + length read.0 = ap length read.2 ∙ length-append text read.0 in
        too_long count text (omega arith) ∙ sym (too_long count bytes (omega arith))

pub right_not_bad : (s : Script) (P : List Line → Type 0) (number : ℕ) → IfRight s P → s ≡ bad_line number → ⊥
right_not_bad (right lines) P number h e = cc
right_not_bad (bad_line n) P number h e = h

pub bad_not_right : (s : Script) (P : ℕ → Type 0) (lines : List Line) → IfBad s P → s ≡ right lines → ⊥
bad_not_right (right l) P lines h e = h
bad_not_right (bad_line n) P lines h e = cc

right_at : (s : Script) (P : List Line → Type 0) (lines : List Line) → IfRight s P → s ≡ right lines → P lines
right_at s P lines h e = subst (λ (t : Script). IfRight t P) e h

-- ---- the words

-- the links that the words behind the first one name
pub link_words : (words : List (Bor (List ℕ))) → length (take (length words - 1) (drop 1 words)) ≡ links_in (texts words)
link_words words =
    let m : length (texts words) ≡ length words = length-map words (λ w. w.now) in
    omega (arith, length-take (length words - 1) (drop 1 words), length-drop 1 words)

-- ---- a run

module _ {F L : Type 0} (left : F → Option (List ℕ)) (faults : F → ℕ) (told : L → Told) (words : List (List ℕ)) (file_old file_mid file_new : Kind F) (old mid new : Kind L) (x0 x1 : Option (List ℕ))
    (room count : ℕ) (text : List ℕ) (size : room ≡ max_script + 1) (links : count ≡ links_in words) (loads : Loads left faults room file_old file_mid text)
    (file_same : file_new ≡ file_mid) (same : mid ≡ old) where
  over : (end : End) → Ends end told count (script_of count text) mid new x0 x1 → ForScript left faults words file_old file_new (λ n script. Ends end told n script old new x0 x1)
  over end h = record {
    text = text;
    loads = subst (λ (k : Kind F). Loads left faults (max_script + 1) file_old k text) (sym file_same) (subst (λ (n : ℕ). Loads left faults n file_old file_mid text) size loads);
    holds = subst (λ (n : ℕ). Ends end told n (script_of n text) old new x0 x1) links (subst (λ (k : Kind L). Ends end told count (script_of count text) k new x0 x1) same h);
  }

  pub words_end : (end : End) → Ends end told count (script_of count text) mid new x0 x1 → WordsEnd end left faults told words file_old file_new old new x0 x1
  words_end Done h = over Done h
  words_end NoMemory h = over NoMemory h
  words_end NoScript h = absurd h
  words_end BadScript h = over BadScript h
  words_end LinkFault h = over LinkFault h
  words_end BadReply h = over BadReply h
  words_end OutputFault h = over OutputFault h

  -- the counts that rose
  module _ (f0 f1 : ℕ) (file_kept : KindKept file_old file_mid) where
    caused_over : (end : End) → EndCausedBy end mid new f0 f1 → KindKept file_old file_new × EndCausedBy end old new f0 f1
    caused_over end c = (
      subst (λ (k : Kind F). KindKept file_old k) (sym file_same) file_kept,
      subst (λ (k : Kind L). EndCausedBy end k new f0 f1) same c,
    )

    pub words_caused : (end : End) → Ends end told count (script_of count text) mid new x0 x1 → EndCausedBy end mid new f0 f1 → WordsCausedBy end file_old file_new old new f0 f1
    words_caused Done h c = caused_over Done c
    words_caused NoMemory h c = caused_over NoMemory c
    words_caused NoScript h c = absurd h
    words_caused BadScript h c = caused_over BadScript c
    words_caused LinkFault h c = caused_over LinkFault c
    words_caused BadReply h c = caused_over BadReply c
    words_caused OutputFault h c = caused_over OutputFault c

  pub words_answered : (P : Type 0) → ((lines : List Line) → script_of count text ≡ right lines → TellAnswers told mid count lines → P)
      → (bytes : List ℕ) (lines : List Line) → TellsScript left file_old bytes → script_of (links_in words) bytes ≡ right lines → TellAnswers told old (links_in words) lines → P
  words_answered P answered bytes lines tells is t =
      answered lines
      (same_script left faults count room file_old file_mid text bytes size loads tells ∙ ap (λ (n : ℕ). script_of n bytes) links ∙ is)
      (subst (λ (k : Kind L). TellAnswers told k count lines) (sym same) (subst (λ (n : ℕ). TellAnswers told old n lines) (sym links) t))

-- ---- which end it is, by the bytes

module _ {F : Type 0} (left : F → Option (List ℕ)) (faults : F → ℕ) (words : List (List ℕ)) (old new : Kind F) (bytes : List ℕ) (tells : TellsScript left old bytes) where
  pub not_bad : (P : ℕ → List Line → Type 0) (number : ℕ) → ForScript left faults words old new (λ count script. IfRight script (P count)) → script_of (links_in words) bytes ≡ bad_line number → ⊥
  not_bad P number f is =
      right_not_bad (script_of (links_in words) f.text) (P (links_in words)) number f.holds
      (same_script left faults (links_in words) (max_script + 1) old new f.text bytes refl f.loads tells ∙ is)

  pub right_holds : (P : ℕ → List Line → Type 0) (lines : List Line) → ForScript left faults words old new (λ count script. IfRight script (P count)) → script_of (links_in words) bytes ≡ right lines → P (links_in words) lines
  right_holds P lines f is =
      right_at (script_of (links_in words) f.text) (P (links_in words)) lines f.holds
      (same_script left faults (links_in words) (max_script + 1) old new f.text bytes refl f.loads tells ∙ is)

  pub not_right : (Q : Type 0) (P : ℕ → ℕ → Type 0) (lines : List Line) → ForScript left faults words old new (λ count script. Q × IfBad script (P count)) → script_of (links_in words) bytes ≡ right lines → ⊥
  not_right Q P lines f is =
      bad_not_right (script_of (links_in words) f.text) (P (links_in words)) lines f.holds.1
      (same_script left faults (links_in words) (max_script + 1) old new f.text bytes refl f.loads tells ∙ is)
