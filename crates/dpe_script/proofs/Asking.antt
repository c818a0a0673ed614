-- One line: its command sent, what came back, and what was printed.
use Rattle.std.proofs.Common.{◌≡◌, ℕ, ◌≤◌, List, [], length, append-nil, Option, refl, sym, subst, Result, Ok, Err}
use Rattle.std.specs.Prelude.{IfErr}
use Rattle.std.specs.Io.KnownBytes.{Consumes, Appends}
use Rattle.dpe_link.specs.Frames.{frame}
use Rattle.dpe_grammar.specs.Acts.{Act}
use Rattle.dpe_script.specs.Script.{Line}
use Rattle.dpe_script.specs.Meaning.{Values, sent_payload}
use Rattle.dpe_io.specs.Told.{Told, KeepsCounts}
use Rattle.dpe_script.specs.Run.{AppendsFront, Concludes, NotConcluded, NotExchanged, HasNoFrame, Exchanges, Fails, CausedBy, OutputCause, refused}
use Rattle.dpe_script.specs.declared.run.Cause.{Cause}
use Rattle.dpe_script.specs.declared.run.Cause.TheVariants.{Link, Reply, Output}

pub exchanged : (line : Line) (payload told : List ℕ) (P : Option (List ℕ) → Option (List ℕ) → List ℕ → Type 0) (before now : Values) (old new : Told) (x0 x1 : Option (List ℕ)) → told ≡ sent_payload before line.act
    → Appends old.written new.written (frame told) → Consumes old.left new.left (frame payload) → Concludes line payload P before now x0 x1 → Exchanges line P before now old new x0 x1
exchanged line payload told P before now old new x0 x1 is given taken c = record {
  answer = c.answer;
  is = c.is.0;
  values = c.values;
  sent = subst (λ (p : List ℕ). Appends old.written new.written (frame p)) is given;
  taken = subst (λ (p : List ℕ). Consumes old.left new.left (frame p)) (sym c.is.1) taken;
  printed = c.printed;
}

pub unconcluded : (cause : Cause) (line : Line) (payload told : List ℕ) (before now : Values) (old new : Told) (x0 x1 : Option (List ℕ)) → length payload ≤ 4096 → told ≡ sent_payload before line.act
    → Appends old.written new.written (frame told) → Consumes old.left new.left (frame payload) → NotConcluded cause line payload before now x0 x1 → Fails cause line before now old new x0 x1
unconcluded Link line payload told before now old new x0 x1 few is given taken c = absurd c
unconcluded Reply line payload told before now old new x0 x1 few is given taken c = (
  (subst (λ (p : List ℕ). Appends old.written new.written (frame p)) is given, (frame payload, refused payload few refl c.0, taken)),
  c.1,
)
unconcluded Output line payload told before now old new x0 x1 few is given taken c = exchanged line payload told AppendsFront before now old new x0 x1 is given taken c

pub unexchanged : (cause : Cause) (line : Line) (told : List ℕ) (before : Values) (old new : Told) (x : Option (List ℕ)) → told ≡ sent_payload before line.act
    → NotExchanged line.act told cause old new → Fails cause line before before old new x x
unexchanged Link line told before old new x is f = ((subst (λ (p : List ℕ). AppendsFront old.written new.written (frame p)) is f.0, f.1), refl)
unexchanged Reply line told before old new x is f = ((subst (λ (p : List ℕ). Appends old.written new.written (frame p)) is f.0, f.1), refl)
unexchanged Output line told before old new x is f = absurd f

pub caused_printing : (cause : Cause) (old new : Told) (f0 f1 : ℕ) → KeepsCounts old new → OutputCause cause f0 f1 → CausedBy cause old new f0 f1
caused_printing Link old new f0 f1 same c = absurd c
caused_printing Reply old new f0 f1 same c = (same, c)
caused_printing Output old new f0 f1 same c = (same, c)

pub caused_exchanging : (cause : Cause) (act : Act) (told : List ℕ) (old new : Told) (f : ℕ) → NotExchanged act told cause old new → CausedBy cause old new 0 0 → CausedBy cause old new f f
caused_exchanging Link act told old new f n c = (c.0, refl)
caused_exchanging Reply act told old new f n c = (c.0, refl)
caused_exchanging Output act told old new f n c = absurd n

-- a frame that was sent whole, and then none that came back
pub unreceived : (cause : Cause) (act : Act) (payload : List ℕ) (old mid new : Told) → Appends old.written mid.written (frame payload) → mid.left ≡ old.left → new.written ≡ mid.written
    → HasNoFrame act cause mid new → NotExchanged act payload cause old new
unreceived Link act payload old mid new given left bytes (part, none, read) = (
  (frame payload, [], sym (append-nil (frame payload)), subst (λ (b : Option (List ℕ)). Appends old.written b (frame payload)) (sym bytes) given),
  (part, none, subst (λ (b : Option (List ℕ)). Consumes b new.left part) left read),
)
unreceived Reply act payload old mid new given left bytes (taken, bad, read) = (
  subst (λ (b : Option (List ℕ)). Appends old.written b (frame payload)) (sym bytes) given,
  (taken, bad, subst (λ (b : Option (List ℕ)). Consumes b new.left taken) left read),
)
unreceived Output act payload old mid new given left bytes f = absurd f

pub unreceived_all : {T : Type 0} (r : Result T Cause) (payload : List ℕ) (old mid new : Told) → Appends old.written mid.written (frame payload) → mid.left ≡ old.left → new.written ≡ mid.written
    → IfErr r (λ cause. (act : Act) → HasNoFrame act cause mid new) → IfErr r (λ cause. (act : Act) → NotExchanged act payload cause old new)
unreceived_all (Ok x) payload old mid new given left bytes f = tt
unreceived_all (Err cause) payload old mid new given left bytes f = λ act. unreceived cause act payload old mid new given left bytes (f act)

pub unconcluded_all : {T : Type 0} (r : Result T Cause) (line : Line) (payload told : List ℕ) (before now : Values) (old new : Told) (x0 x1 : Option (List ℕ)) → length payload ≤ 4096 → told ≡ sent_payload before line.act
    → Appends old.written new.written (frame told) → Consumes old.left new.left (frame payload) → IfErr r (λ cause. NotConcluded cause line payload before now x0 x1)
    → IfErr r (λ cause. Fails cause line before now old new x0 x1)
unconcluded_all (Ok x) line payload told before now old new x0 x1 few is given taken f = tt
unconcluded_all (Err cause) line payload told before now old new x0 x1 few is given taken f = unconcluded cause line payload told before now old new x0 x1 few is given taken f
