-- What is made of the words, from what a parse of them comes to.
use Rattle.std.proofs.Common.{◌≡◌, ◌≢◌, ℕ, Bool, ◌<◌, ◌^◌, List, [], ◌∷◌, length, Option, Some, None, Result, Ok, Err, true, false, inl, inr, refl, sym, ap, subst, ◌∙◌, arith, codes, IfOk, IfErr, IfNone}
use Rattle.std.specs.Prelude.{◌==◌, if◌then◌else◌, option_map}
use Rattle.std.specs.Borrow.{Bor}
use Rattle.std.specs.Fmt.{decimal}
use Rattle.std.specs.List.{All, AllByRecursion}
use Rattle.std.proofs.lemmas.Fmt.{decimal_is_IsNumeral}
use Rattle.std.proofs.lemmas.List.Elements.{All-from_recursion, recursion_from_All}
use Rattle.std.proofs.lemmas.Option.{none-some}
use Rattle.std.proofs.lemmas.Str.Parse.{digit_at}
use Rattle.std.proofs.lemmas.Bool.Decides.{nat_tests}
use Rattle.std.specs.Str.{bytes_eq}
use Rattle.std.proofs.lemmas.Slice.Eq.{bytes_eq-Decides}
use Rattle.clap.specs.Kinds.{FailsBy, HasKind}
use Rattle.clap.specs.Faults.{fault_of}
use Rattle.std.specs.Prelude.{Box}
use Rattle.std.specs.Box.{box_value}
use Rattle.clap.specs.Matches.{first_value, subcommand_name_of}
use Rattle.clap.specs.Walk.{Row, first_of, rows_of}
use Rattle.clap.specs.Simple.{HasMatchesOf, subcommand_rows, subcommand_rows_of}
use Rattle.clap.specs.Values.{kind_of}
use Rattle.clap.specs.declared.error.Error.{Error}
use Rattle.clap.specs.declared.error.kind.ErrorKind.TheVariants as kind
use Rattle.clap.specs.declared.parser.matches.ArgMatches.{ArgMatches}
use Rattle.clap.specs.declared.parser.matches.ArgMatches.TheViews.{out-ArgMatches, out-SubCommand}
use Rattle.clap.specs.declared.parser.matches.Found.{Found}
use Rattle.clap.specs.declared.parser.matches.SubCommand.{SubCommand}
use Rattle.clap.proofs.WalkLemmas.{first_value-rows}
use Rattle.dpe_audit.specs.Commands.{Asks, AsksThree, program}
use Rattle.dpe_audit.specs.Mode.{Mode, check, live, list, connection}
use Rattle.dpe_audit.specs.Words.{IsPath, IsRequest, NamesConnection, InRange, mode_of, texts, words_of}
use Rattle.dpe_audit.specs.declared.words.Request.{Request}
use Rattle.dpe_audit.specs.declared.words.Request.TheVariants as requests
use Rattle.dpe_audit.proofs.Walking.{IsPlain, no_dash, asks, one_right, two_right, three_right}

true_not_false : true ≡ false → ⊥
true_not_false e = let z : ◌≡◌ {A = ℕ} 1 0 = ap (λ (b : Bool). if b then 1 else 0) e in omega (arith, z)

-- ## Paths

not_equal : (a b : ℕ) → a ≢ b → (a == b) ≡ false
not_equal a b ne = grind (arith, nat_tests, ne)

pub path_plain : (word : List ℕ) → IsPath word → IsPlain word
path_plain [] p = absurd (omega (arith, p.0))
path_plain (x ∷ t) p = no_dash x t (not_equal x 45 p.1)

pub all_plain : (words : List (List ℕ)) → AllByRecursion IsPath words → AllByRecursion IsPlain words
all_plain [] p = tt
all_plain (word ∷ words) p = (path_plain word p.0, all_plain words p.1)

-- the digits of a number begin with no `-`
pub digits_path : (n : ℕ) → n < 2 ^ 32 → IsPath (decimal n)
digits_path n below =
    let numeral = (decimal_is_IsNumeral n (omega (arith, below))).0 in
    let digit = digit_at (decimal n) 0 numeral.1 numeral.0 in
    (numeral.0, λ e. omega (arith, digit.0, digit.1, e))

pub to_texts : (words : List (Bor (List ℕ))) → AllByRecursion (λ (word : Bor (List ℕ)). IsPath word.now) words → AllByRecursion IsPath (texts words)
to_texts [] p = tt
to_texts (word ∷ words) p = (p.0, to_texts words p.1)

from_texts : (words : List (Bor (List ℕ))) → AllByRecursion IsPath (texts words) → AllByRecursion (λ (word : Bor (List ℕ)). IsPath word.now) words
from_texts [] p = tt
from_texts (word ∷ words) p = (p.0, from_texts words p.1)

pub texts_all : (words : List (Bor (List ℕ))) → All (λ (word : Bor (List ℕ)). IsPath word.now) words → AllByRecursion IsPath (texts words)
texts_all words all = to_texts words (recursion_from_All (λ (word : Bor (List ℕ)). IsPath word.now) words all)

pub all_texts : (words : List (Bor (List ℕ))) → AllByRecursion IsPath (texts words) → All (λ (word : Bor (List ℕ)). IsPath word.now) words
all_texts words all = All-from_recursion (λ (word : Bor (List ℕ)). IsPath word.now) words (from_texts words all)

-- ## Right words

-- a name of letters is a path
letters : (x : ℕ) (t : List ℕ) → 45 < x → IsPath (x ∷ t)
letters x t above = (omega arith, λ e. omega (arith, above, e))

abbrev AllPaths : List (List ℕ) → Type 0
AllPaths = AllByRecursion IsPath

pub request_paths : (words : List (List ℕ)) (mode : Mode) → IsRequest words mode → AllPaths words
request_paths words check r =
    subst AllPaths (sym r.form) (letters 99 (codes "heck") (omega arith), (r.paths.0, (r.paths.1, tt)))
request_paths words live r =
    subst AllPaths (sym r.form) (letters 108 (codes "ive") (omega arith), (r.paths.0, (r.paths.1, tt)))
request_paths words list r = subst AllPaths (sym r.form) (letters 108 (codes "ist") (omega arith), (r.path, tt))
request_paths words (connection caller number) r =
    subst AllPaths (sym r.form) (letters 99 (codes "onnection") (omega arith), (r.path, (digits_path caller r.below.0, (digits_path number r.below.1, tt))))

pub request_passes : (words : List (List ℕ)) (mode : Mode) → IsRequest words mode → fault_of program words ≡ []
request_passes words check r =
    ap (fault_of program) r.form ∙ two_right (codes "check") r.seed r.journal (inl refl) (path_plain r.seed r.paths.0) (path_plain r.journal r.paths.1)
request_passes words live r =
    ap (fault_of program) r.form ∙ two_right (codes "live") r.seed r.journal (inr refl) (path_plain r.seed r.paths.0) (path_plain r.journal r.paths.1)
request_passes words list r = ap (fault_of program) r.form ∙ one_right r.journal (path_plain r.journal r.path)
request_passes words (connection caller number) r =
    ap (fault_of program) r.form
    ∙ three_right r.journal (decimal caller) (decimal number) (path_plain r.journal r.path)
    (path_plain (decimal caller) (digits_path caller r.below.0)) (path_plain (decimal number) (digits_path number r.below.1))

-- ## The parse

pub parse_asks : (words : List (List ℕ)) (result : Result ArgMatches Error) → FailsBy (fault_of program words) result → IfOk result (HasMatchesOf program words)
    → IfOk result (λ matches. AllByRecursion IsPath words → Asks words (subcommand_rows_of matches))
parse_asks words (Ok matches) none has = λ paths. subst (λ (met : Option (List ℕ × List Row)). Asks words met) (sym (has refl).1) (asks words (all_plain words paths) none)
parse_asks words (Err error) none has = tt

pub parse_refuses : (words : List (List ℕ)) (result : Result ArgMatches Error) → FailsBy (fault_of program words) result
    → IfErr result (λ error. (mode : Mode) → IsRequest words mode → kind_of error ≡ kind.OutOfMemory)
parse_refuses words (Ok matches) kinds = tt
parse_refuses words (Err error) kinds = λ mode asked. elim (subst (λ k. HasKind k error) (request_passes words mode asked) kinds) [ inl memory ↦ memory | inr among ↦ absurd among ]

-- ## The words of the matches

pub word_there : (o : Option (Bor (List ℕ))) (f : Found) (id : List ℕ) (w : Bor (List ℕ)) → option_map (λ s. s.now) o ≡ first_value f id → o ≡ Some w
    → (word : List ℕ) → first_of id (rows_of f) ≡ Some word → w.now ≡ word
word_there o f id w e is word there =
    let same : Some w.now ≡ Some word = sym (ap (option_map (λ (s : Bor (List ℕ)). s.now)) is) ∙ e ∙ first_value-rows f id ∙ there in cc

pub no_word : (o : Option (Bor (List ℕ))) (f : Found) (id : List ℕ) → option_map (λ s. s.now) o ≡ first_value f id → o ≡ None
    → (word : List ℕ) → first_of id (rows_of f) ≡ Some word → ⊥
no_word o f id e is word there = none-some word (sym (ap (option_map (λ (s : Bor (List ℕ)). s.now)) is) ∙ e ∙ first_value-rows f id ∙ there)

names_of_rows : {Z : Type 0} (o : Option (Box SubCommand Z)) → option_map (λ (p : List ℕ × List Row). p.0) (subcommand_rows o)
    ≡ option_map (λ (b : Box SubCommand Z). (out-SubCommand (box_value b)).name.now) o
names_of_rows None = refl
names_of_rows (Some b) = refl

module _ (matches : ArgMatches) (name : List ℕ) (rows : List Row) (named : subcommand_name_of matches ≡ Some name)
    (has : option_map (λ (p : List ℕ × List Row). p.1) (subcommand_rows_of matches) ≡ Some rows) where
  entered_name : (other : List ℕ) (found : List Row) → subcommand_rows_of matches ≡ Some (other, found) → name ≡ other
  entered_name other found is =
      let same : Some name ≡ Some other = sym named ∙ sym (names_of_rows (out-ArgMatches matches).subcommand) ∙ ap (option_map (λ (p : List ℕ × List Row). p.0)) is in cc

  entered_rows : (other : List ℕ) (found : List Row) → subcommand_rows_of matches ≡ Some (other, found) → found ≡ rows
  entered_rows other found is =
      let same : Some found ≡ Some rows = sym (ap (option_map (λ (p : List ℕ × List Row). p.1)) is) ∙ has in cc

  same_three : (words : List (List ℕ)) → AsksThree words (subcommand_rows_of matches) → AsksThree words (Some (codes "connection", rows))
  same_three words a =
      subst (λ (r : List Row). AsksThree words (Some (codes "connection", r))) (entered_rows (codes "connection") a.rows a.entered) (record {
        journal = a.journal;
        caller = a.caller;
        number = a.number;
        rows = a.rows;
        form = a.form;
        entered = refl;
        has_journal = a.has_journal;
        has_caller = a.has_caller;
        has_number = a.has_number;
      })

  -- none is asked for by the words of `connection` where its numbers aren't
  no_other : (words : List (List ℕ)) → AsksThree words (subcommand_rows_of matches) → ((caller number : ℕ) → NamesConnection words caller number → ⊥)
      → (mode : Mode) → IsRequest words mode → ⊥
  no_other words a none check r = omega (arith, ap length (sym a.form ∙ r.form))
  no_other words a none live r = omega (arith, ap length (sym a.form ∙ r.form))
  no_other words a none list r = omega (arith, ap length (sym a.form ∙ r.form))
  no_other words a none (connection caller number) r = none caller number r

  pub none_asked : (result : Option Request) → (name ≡ codes "check" → ⊥) → (name ≡ codes "live" → ⊥) → (name ≡ codes "list" → ⊥)
      → ((words : List (List ℕ)) → AsksThree words (Some (codes "connection", rows)) → IfNone result ((caller number : ℕ) → NamesConnection words caller number → ⊥))
      → (words : List (List ℕ)) → Asks words (subcommand_rows_of matches) → IfNone result ((mode : Mode) → IsRequest words mode → ⊥)
  none_asked result a b c three words (inl x) = absurd (a (entered_name (codes "check") x.rows x.entered))
  none_asked result a b c three words (inr (inl x)) = absurd (b (entered_name (codes "live") x.rows x.entered))
  none_asked result a b c three words (inr (inr (inl x))) = absurd (c (entered_name (codes "list") x.rows x.entered))
  none_asked None a b c three words (inr (inr (inr x))) = no_other words x (three words (same_three words x))
  none_asked (Some request) a b c three words (inr (inr (inr x))) = tt

-- ## Tests

pub not_both : (b : Bool) → b ≡ true → b ≡ false → ⊥
not_both true is isnt = true_not_false isnt
not_both false is isnt = true_not_false (sym is)

pub unnamed : (name other : List ℕ) → false ≡ bytes_eq name other → name ≡ other → ⊥
unnamed name other differ same = true_not_false (sym ((bytes_eq-Decides name other).1 same) ∙ sym differ)

-- ## Requests

pub paths_request : (words : List (List ℕ)) (request : Request) → AllByRecursion IsPath words → words ≡ words_of request → InRange request → IsRequest words (mode_of request)
paths_request words (requests.Check seed journal) paths is range =
    let p : AllPaths (words_of (requests.Check seed journal)) = subst AllPaths is paths in record {
      seed = seed.now;
      journal = journal.now;
      form = is;
      paths = (p.1.0, p.1.1.0);
    }
paths_request words (requests.Live seed journal) paths is range =
    let p : AllPaths (words_of (requests.Live seed journal)) = subst AllPaths is paths in record {
      seed = seed.now;
      journal = journal.now;
      form = is;
      paths = (p.1.0, p.1.1.0);
    }
paths_request words (requests.List journal) paths is range =
    let p : AllPaths (words_of (requests.List journal)) = subst AllPaths is paths in record {
      journal = journal.now;
      form = is;
      path = p.1.0;
    }
paths_request words (requests.Connection journal caller number) paths is range =
    let p : AllPaths (words_of (requests.Connection journal caller number)) = subst AllPaths is paths in record {
      journal = journal.now;
      form = is;
      path = p.1.0;
      below = range;
    }
