-- What stands at each status, from the end that it tells.
use Rattle.std.proofs.Common.{◌≡◌, ◌≢◌, ℕ, ◌+◌, ◌==◌, List, Option, ◌⊎◌, inl, inr, refl, sym, ap, subst, ◌∙◌, arith}
use Rattle.std.specs.Prelude.{if◌then◌else◌}
use Rattle.std.specs.Io.KnownBytes.{Appends}
use Rattle.dpe_io.specs.Causes.{Rose}
use Rattle.dpe_io.specs.Told.{Kind}
use Rattle.dpe_script.specs.Script.{Line, right, bad_line, max_script, script_of}
use Rattle.dpe_io.specs.Told.{Told}
use Rattle.dpe_script.specs.Client.{LoadsNone, ForScript, TellsScript, TellBytes, TellAnswers, IfRight, IfBad, RunsOnLinks, FailsAtLink, FailsAtReply, Unprinted, bad_line_said, KindKept, KindFailed, Unfailed, WordsEnd, WordsCausedBy, IsStatus, status_of, links_in}
use Rattle.dpe_script.specs.declared.end.End.{End}
use Rattle.dpe_script.specs.declared.end.End.TheVariants.{Done, NoMemory, NoScript, BadScript, LinkFault, BadReply, OutputFault}
use Rattle.dpe_script.proofs.Completing.{answers_told}
use Rattle.dpe_script.proofs.Wording.{not_bad, not_right, right_holds}

-- the end that a status tells
abbrev end_of : ℕ → End
end_of n =
    if n == 0 then Done else (if n == 3 then NoMemory else (if n == 4 then NoScript else (if n == 7 then OutputFault
    else (if n == 13 then BadScript else (if n == 14 then LinkFault else BadReply)))))

told_back : (end : End) → end_of (status_of end) ≡ end
told_back Done = refl
told_back NoMemory = refl
told_back NoScript = refl
told_back BadScript = refl
told_back LinkFault = refl
told_back BadReply = refl
told_back OutputFault = refl

same_end : (a b : End) → status_of a ≡ status_of b → a ≡ b
same_end a b e = sym (told_back a) ∙ ap end_of e ∙ told_back b

-- a run with right words, and its status
pub record Ran (F L : Type 0) : Type 0 where
  pub left : F → Option (List ℕ)
  pub faults : F → ℕ
  pub told : L → Told
  pub words : List (List ℕ)
  pub file_old : Kind F
  pub file_new : Kind F
  pub old : Kind L
  pub new : Kind L
  pub x0 : Option (List ℕ)
  pub x1 : Option (List ℕ)
  pub f0 : ℕ
  pub f1 : ℕ
  pub end : End
  pub n : ℕ
  pub is : n ≡ status_of end
  pub ends : WordsEnd end left faults told words file_old file_new old new x0 x1
  pub caused : WordsCausedBy end file_old file_new old new f0 f1
  pub answered : (bytes : List ℕ) (lines : List Line) → TellsScript left file_old bytes → script_of (links_in words) bytes ≡ right lines → TellAnswers told old (links_in words) lines → end ≢ BadReply

module _ {F L : Type 0} (r : Ran F L) where
  at : (t : End) → r.n ≡ status_of t → WordsEnd t r.left r.faults r.told r.words r.file_old r.file_new r.old r.new r.x0 r.x1
  at t e = subst (λ (k : End). WordsEnd k r.left r.faults r.told r.words r.file_old r.file_new r.old r.new r.x0 r.x1) (same_end r.end t (sym r.is ∙ e)) r.ends

  caused_at : (t : End) → r.n ≡ status_of t → WordsCausedBy t r.file_old r.file_new r.old r.new r.f0 r.f1
  caused_at t e = subst (λ (k : End). WordsCausedBy k r.file_old r.file_new r.old r.new r.f0 r.f1) (same_end r.end t (sym r.is ∙ e)) r.caused

  pub at_done : r.n ≡ 0 → ForScript r.left r.faults r.words r.file_old r.file_new (λ count script. IfRight script (λ lines. RunsOnLinks r.told count lines r.old r.new r.x0 r.x1))
  at_done e = at Done e

  pub at_no_memory : r.n ≡ 3 → (r.new ≡ r.old) × (r.x1 ≡ r.x0)
  at_no_memory e = let f = at NoMemory e in f.holds

  pub at_no_script : r.n ≡ 4 → (r.new ≡ r.old) × (r.x1 ≡ r.x0)
  at_no_script e = let h = at NoScript e in (h.1, h.2)

  pub at_unloaded : r.n ≡ 4 → LoadsNone r.left r.faults (max_script + 1) r.file_old r.file_new
  at_unloaded e = let h = at NoScript e in h.0

  pub at_bad : r.n ≡ 13 → ForScript r.left r.faults r.words r.file_old r.file_new (λ count script. IfBad script (λ number. Appends r.x0 r.x1 (bad_line_said number)))
  at_bad e = let f = at BadScript e in record { text = f.text; loads = f.loads; holds = f.holds.1 }

  pub at_bad_unopened : r.n ≡ 13 → r.new ≡ r.old
  at_bad_unopened e = let f = at BadScript e in f.holds.0

  pub at_link : r.n ≡ 14 → ForScript r.left r.faults r.words r.file_old r.file_new (λ count script. IfRight script (λ lines. FailsAtLink Appends r.told count lines r.old r.new r.x0 r.x1))
  at_link e = at LinkFault e

  pub at_reply : r.n ≡ 15 → ForScript r.left r.faults r.words r.file_old r.file_new (λ count script. IfRight script (λ lines. FailsAtReply Appends r.told count lines r.old r.new r.x0 r.x1))
  at_reply e = at BadReply e

  pub at_unprinted : r.n ≡ 7 → ForScript r.left r.faults r.words r.file_old r.file_new (λ count script. Unprinted r.told count script r.old r.new r.x0 r.x1)
  at_unprinted e = at OutputFault e

  pub script_fault : r.n ≡ 4 → KindFailed r.file_old r.file_new
  script_fault e = (caused_at NoScript e).0

  pub link_fault : r.n ≡ 14 → KindFailed r.old r.new
  link_fault e = (caused_at LinkFault e).1.0

  pub out_fault : r.n ≡ 7 → Rose r.f0 r.f1
  out_fault e = (caused_at OutputFault e).1

-- ---- what stays

module _ {F L : Type 0} (file_old file_new : Kind F) (old new : Kind L) (f0 f1 : ℕ) where
  file_kept : (end : End) → WordsCausedBy end file_old file_new old new f0 f1 → (status_of end ≡ 4 → ⊥) → KindKept file_old file_new
  file_kept Done c e = c.0
  file_kept NoMemory c e = c.0
  file_kept NoScript c e = absurd (e refl)
  file_kept BadScript c e = c.0
  file_kept LinkFault c e = c.0
  file_kept BadReply c e = c.0
  file_kept OutputFault c e = c.0

  link_kept : (end : End) → WordsCausedBy end file_old file_new old new f0 f1 → (status_of end ≡ 7 → ⊥) → (status_of end ≡ 14 → ⊥) → KindKept old new
  link_kept Done c e d = c.1.0
  link_kept NoMemory c e d = c.1.0
  link_kept NoScript c e d = c.1
  link_kept BadScript c e d = c.1.0
  link_kept LinkFault c e d = absurd (d refl)
  link_kept BadReply c e d = c.1.0
  link_kept OutputFault c e d = absurd (e refl)

  printed_kept : (end : End) → WordsCausedBy end file_old file_new old new f0 f1 → (status_of end ≡ 7 → ⊥) → f1 ≡ f0
  printed_kept Done c e = c.1.1
  printed_kept NoMemory c e = c.1.1
  printed_kept NoScript c e = c.2
  printed_kept BadScript c e = c.1.1
  printed_kept LinkFault c e = c.1.1
  printed_kept BadReply c e = c.1.1
  printed_kept OutputFault c e = absurd (e refl)

is_status : (end : End) → IsStatus (status_of end)
is_status Done = inl refl
is_status NoMemory = inr (inr (inl refl))
is_status NoScript = inr (inr (inr (inl refl)))
is_status OutputFault = inr (inr (inr (inr (inl refl))))
is_status BadScript = inr (inr (inr (inr (inr (inl refl)))))
is_status LinkFault = inr (inr (inr (inr (inr (inr (inl refl))))))
is_status BadReply = inr (inr (inr (inr (inr (inr (inr refl))))))

not_two : (end : End) → status_of end ≡ 2 → ⊥
not_two Done e = absurd (omega arith)
not_two NoMemory e = absurd (omega arith)
not_two NoScript e = absurd (omega arith)
not_two BadScript e = absurd (omega arith)
not_two LinkFault e = absurd (omega arith)
not_two BadReply e = absurd (omega arith)
not_two OutputFault e = absurd (omega arith)

-- ---- the end, by the bytes

module _ {F L : Type 0} (left : F → Option (List ℕ)) (faults : F → ℕ) (told : L → Told) (words : List (List ℕ)) (file_old file_new : Kind F) (old new : Kind L) (x0 x1 : Option (List ℕ)) (f0 f1 : ℕ)
    (bytes : List ℕ) (tells : TellsScript left file_old bytes) (no_script : Unfailed file_old file_new) (no_out : Rose f0 f1 → ⊥) where
  refused_end : (end : End) → WordsEnd end left faults told words file_old file_new old new x0 x1 → WordsCausedBy end file_old file_new old new f0 f1
      → (number : ℕ) → script_of (links_in words) bytes ≡ bad_line number → (status_of end ≡ 13) ⊎ (status_of end ≡ 3)
  refused_end Done h c number is = absurd (not_bad left faults words file_old file_new bytes tells (λ count lines. RunsOnLinks told count lines old new x0 x1) number h is)
  refused_end NoMemory h c number is = inr refl
  refused_end NoScript h c number is = absurd (no_script c.0)
  refused_end BadScript h c number is = inl refl
  refused_end LinkFault h c number is = absurd (not_bad left faults words file_old file_new bytes tells (λ count lines. FailsAtLink Appends told count lines old new x0 x1) number h is)
  refused_end BadReply h c number is = absurd (not_bad left faults words file_old file_new bytes tells (λ count lines. FailsAtReply Appends told count lines old new x0 x1) number h is)
  refused_end OutputFault h c number is = absurd (no_out c.1)

  complete_end : (end : End) → WordsEnd end left faults told words file_old file_new old new x0 x1 → WordsCausedBy end file_old file_new old new f0 f1 → Unfailed old new
      → (lines : List Line) → script_of (links_in words) bytes ≡ right lines → end ≢ BadReply → (status_of end ≡ 0) ⊎ (status_of end ≡ 3)
  complete_end Done h c no_link lines is answered = inl refl
  complete_end NoMemory h c no_link lines is answered = inr refl
  complete_end NoScript h c no_link lines is answered = absurd (no_script c.0)
  complete_end BadScript h c no_link lines is answered =
      absurd (not_right left faults words file_old file_new bytes tells (new ≡ old) (λ count number. Appends x0 x1 (bad_line_said number)) lines h is)
  complete_end LinkFault h c no_link lines is answered = absurd (no_link c.1.0)
  complete_end BadReply h c no_link lines is answered = absurd (answered refl)
  complete_end OutputFault h c no_link lines is answered = absurd (no_out c.1)

  unanswered_end : (end : End) → WordsEnd end left faults told words file_old file_new old new x0 x1 → WordsCausedBy end file_old file_new old new f0 f1 → Unfailed old new
      → (lines : List Line) → script_of (links_in words) bytes ≡ right lines → TellBytes told old (links_in words) → (TellAnswers told old (links_in words) lines → ⊥)
      → (status_of end ≡ 15) ⊎ (status_of end ≡ 3)
  unanswered_end Done h c no_link lines is t none =
      absurd (none (answers_told told (links_in words) lines old new x0 x1 t
      (right_holds left faults words file_old file_new bytes tells (λ count ls. RunsOnLinks told count ls old new x0 x1) lines h is)))
  unanswered_end NoMemory h c no_link lines is t none = inr refl
  unanswered_end NoScript h c no_link lines is t none = absurd (no_script c.0)
  unanswered_end BadScript h c no_link lines is t none =
      absurd (not_right left faults words file_old file_new bytes tells (new ≡ old) (λ count number. Appends x0 x1 (bad_line_said number)) lines h is)
  unanswered_end LinkFault h c no_link lines is t none = absurd (no_link c.1.0)
  unanswered_end BadReply h c no_link lines is t none = inl refl
  unanswered_end OutputFault h c no_link lines is t none = absurd (no_out c.1)

module _ {F L : Type 0} (r : Ran F L) where
  pub script_kept : (r.n ≡ 4 → ⊥) → KindKept r.file_old r.file_new
  script_kept e = file_kept r.file_old r.file_new r.old r.new r.f0 r.f1 r.end r.caused (λ d. e (r.is ∙ d))

  pub links_kept : (r.n ≡ 7 → ⊥) → (r.n ≡ 14 → ⊥) → KindKept r.old r.new
  links_kept e f = link_kept r.file_old r.file_new r.old r.new r.f0 r.f1 r.end r.caused (λ d. e (r.is ∙ d)) (λ d. f (r.is ∙ d))

  pub out_kept : (r.n ≡ 7 → ⊥) → r.f1 ≡ r.f0
  out_kept e = printed_kept r.file_old r.file_new r.old r.new r.f0 r.f1 r.end r.caused (λ d. e (r.is ∙ d))

  pub has_status : IsStatus r.n
  has_status = subst IsStatus (sym r.is) (is_status r.end)

  pub is_not_two : r.n ≡ 2 → ⊥
  is_not_two e = not_two r.end (sym r.is ∙ e)

  pub refused : (bytes : List ℕ) (number : ℕ) → TellsScript r.left r.file_old bytes → script_of (links_in r.words) bytes ≡ bad_line number → Unfailed r.file_old r.file_new → (Rose r.f0 r.f1 → ⊥)
      → (r.n ≡ 13) ⊎ (r.n ≡ 3)
  refused bytes number tells is no_script no_out =
      subst (λ (n : ℕ). (n ≡ 13) ⊎ (n ≡ 3)) (sym r.is)
      (refused_end r.left r.faults r.told r.words r.file_old r.file_new r.old r.new r.x0 r.x1 r.f0 r.f1 bytes tells no_script no_out r.end r.ends r.caused number is)

  pub complete : (bytes : List ℕ) (lines : List Line) → TellsScript r.left r.file_old bytes → script_of (links_in r.words) bytes ≡ right lines → TellAnswers r.told r.old (links_in r.words) lines
      → Unfailed r.file_old r.file_new → Unfailed r.old r.new → (Rose r.f0 r.f1 → ⊥) → (r.n ≡ 0) ⊎ (r.n ≡ 3)
  complete bytes lines tells is t no_script no_link no_out =
      subst (λ (n : ℕ). (n ≡ 0) ⊎ (n ≡ 3)) (sym r.is)
      (complete_end r.left r.faults r.told r.words r.file_old r.file_new r.old r.new r.x0 r.x1 r.f0 r.f1 bytes tells no_script no_out r.end r.ends r.caused no_link lines is
      (r.answered bytes lines tells is t))

  pub unanswered : (bytes : List ℕ) (lines : List Line) → TellsScript r.left r.file_old bytes → script_of (links_in r.words) bytes ≡ right lines → TellBytes r.told r.old (links_in r.words)
      → (TellAnswers r.told r.old (links_in r.words) lines → ⊥) → Unfailed r.file_old r.file_new → Unfailed r.old r.new → (Rose r.f0 r.f1 → ⊥) → (r.n ≡ 15) ⊎ (r.n ≡ 3)
  unanswered bytes lines tells is t none no_script no_link no_out =
      subst (λ (n : ℕ). (n ≡ 15) ⊎ (n ≡ 3)) (sym r.is)
      (unanswered_end r.left r.faults r.told r.words r.file_old r.file_new r.old r.new r.x0 r.x1 r.f0 r.f1 bytes tells no_script no_out r.end r.ends r.caused no_link lines is t none)
