-- Scripts, line by line.
use Rattle.std.proofs.Common.{◌≡◌, ℕ, ◌+◌, Bool, true, false, List, [], ◌∷◌, ◌++◌, refl, sym, ap, ◌∙◌, append-nil, append_assoc, ◌<◌, length, drop, get_or}
use Rattle.std.specs.Borrow.{Bor}
use Rattle.dpe_grammar.specs.Values.{texts}
use Rattle.dpe_script.proofs.Lists.{texts_step}
use Rattle.std.specs.Str.{is_utf8, IsUtf8}
use Rattle.std.proofs.lemmas.Str.{IsUtf8-from_is_utf8}
use Rattle.dpe_script.specs.CodeNames.{names_of}
use Rattle.dpe_script.specs.CodeScript.{lines_are, IsAdded, IsBad, IsBadScript}
use Rattle.dpe_script.specs.declared.script.Script as code
use Rattle.dpe_script.specs.declared.script.ScriptFault.{ScriptFault}
use Rattle.dpe_script.specs.declared.script.ScriptFault.TheVariants.{NoMemory, BadLine}
use Rattle.dpe_script.specs.Script.{Line, Script, right, bad_line, with_line, continued, step, Step, skip, ask, stop, script_from}

-- bytes that are no text
pub not_utf8 : (bytes : List ℕ) → ¬ IsUtf8 bytes → is_utf8 bytes ≡ false
not_utf8 bytes not = by_test (is_utf8 bytes) refl
  where
    by_test : (b : Bool) → is_utf8 bytes ≡ b → b ≡ false
    by_test false e = refl
    by_test true e = absurd (not (IsUtf8-from_is_utf8 bytes e))

-- the commands read so far stand before those of the lines that follow
abbrev pub with_lines : List Line → Script → Script
with_lines before (right lines) = right (before ++ lines)
with_lines before (bad_line n) = bad_line n

pub with_none : (s : Script) → with_lines [] s ≡ s
with_none (right lines) = refl
with_none (bad_line n) = refl

pub with_all : (before : List Line) → with_lines before (right []) ≡ right before
with_all before = ap (λ (l : List Line). right l) (append-nil before)

pub with_one_more : (before : List Line) (line : Line) (s : Script) → with_lines before (with_line line s) ≡ with_lines (before ++ line ∷ []) s
with_one_more before line (right lines) = ap (λ (l : List Line). right l) (sym (append_assoc before (line ∷ []) lines))
with_one_more before line (bad_line n) = refl

-- ---- one line more

module _ (links at : ℕ) (old : code.Script) (line : List ℕ) (rest : List (List ℕ)) where
  -- what a step makes of the whole
  abbrev pub through : Step → Script
  through s = with_lines (lines_are old.lines.items) (continued (at + 1) (names_of old.names) s (λ after. script_from links (at + 1 + 1) after rest))

  pub stopped : (fault : ScriptFault) → IsBad (at + 1) (step links (names_of old.names) line) fault → IsBadScript (through (step links (names_of old.names) line)) fault
  stopped NoMemory h = tt
  stopped (BadLine n) h = ap through h.1 ∙ ap (λ (m : ℕ). bad_line m) (sym h.0)

  pub moved : (new : code.Script) (s : Step) → IsAdded (at + 1) s old new
      → through s ≡ with_lines (lines_are new.lines.items) (script_from links (at + 1 + 1) (names_of new.names) rest)
  moved new skip h = λ i. with_lines (sym h.1 i) (script_from links (at + 1 + 1) (sym h.0 i) rest)
  moved new (ask a after) h =
      with_one_more (lines_are old.lines.items) (record { number = at + 1; link = a.link; act = a.act }) (script_from links (at + 1 + 1) after rest)
      ∙ (λ i. with_lines (sym h.1 i) (script_from links (at + 1 + 1) (sym h.0 i) rest))
  moved new stop h = absurd h

  pub through_is : through (step links (names_of old.names) line) ≡ with_lines (lines_are old.lines.items) (script_from links (at + 1) (names_of old.names) (line ∷ rest))
  through_is = refl

-- the line at a place, and the lines behind it
pub one_more : (links at : ℕ) (lines : List (Bor (List ℕ))) (d : Bor (List ℕ)) (old new : code.Script) → at < length lines
    → IsAdded (at + 1) (step links (names_of old.names) (get_or lines at d).now) old new
    → with_lines (lines_are old.lines.items) (script_from links (at + 1) (names_of old.names) (texts (drop at lines)))
    ≡ with_lines (lines_are new.lines.items) (script_from links (at + 1 + 1) (names_of new.names) (texts (drop (at + 1) lines)))
one_more links at lines d old new within added =
    ap (λ (t : List (List ℕ)). with_lines (lines_are old.lines.items) (script_from links (at + 1) (names_of old.names) t)) (texts_step lines at d within)
    ∙ moved links at old (get_or lines at d).now (texts (drop (at + 1) lines)) new (step links (names_of old.names) (get_or lines at d).now) added
