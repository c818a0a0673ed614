-- The headline of the smallest run.
use Rattle.std.proofs.Common.{◌≡◌, ℕ, inl, inr, false, List, [], ◌∷◌, Some, refl, arith}
use Rattle.dpe_io.specs.Told.{all_unopened}
use Rattle.dpe_journal.specs.Journal.{journal_bytes}
use Rattle.dpe_model.specs.History.{Legal}
use Rattle.dpe_model.specs.Laws.{FoldedInputs, HandleLaws}
use Rattle.dpe_io.specs.Told.{Told}
use Rattle.dpe_io.specs.Tells.{Random}
use Rattle.dpe_connections.specs.Endings as endings
use Rattle.dpe_io.specs.Tells.{Entrance}
use Rattle.dpe_serve.specs.Gates.{Gate, OneHistory, ServedGate}
use Rattle.dpe_serve.specs.Headline.{ServesOneHistory}
use Rattle.dpe_serve.specs.Lending.{Lends, LendsAll, LendsOne, HaveFault}
use Rattle.dpe_serve.specs.Seeds.{HasSeed}
use Rattle.dpe_connections.specs.Served.{Served}
use Rattle.dpe_serve.specs.Setting.{Spell, words_of}
use Rattle.dpe_serve.specs.Smallest.{setting, seed, conn, opened, closed, entropy, one_back, tells, before, after, printed, HeadlineIsMet}
use Rattle.dpe_connections.specs.Workers.{Visit}

module _ {T : Type 0} (faults : T → ℕ) (x y : T) (places : List ℕ) (none : faults y ≡ 0) where
  no_fault : HaveFault faults (y ∷ []) → ⊥
  no_fault (inl some) = omega (arith, some, none)
  no_fault (inr some) = some

  lent : Lends faults (all_unopened (x ∷ [])) (x ∷ []) (y ∷ []) (one_back places y)
  lent = record {
    next = refl;
    back = refl;
    number = refl;
    opened = refl;
    out = refl;
    faultless = λ _. refl;
    faulty = λ some. absurd (no_fault some);
  }

one_lent : {T : Type 0} (faults : T → ℕ) (x y : T) → faults y ≡ 0 → LendsOne faults (all_unopened (x ∷ [])) x y (one_back [] y)
one_lent faults x y none = record { lends = lent faults x y [] none; places = refl; failed = refl }

all_lent : {T : Type 0} (faults : T → ℕ) (x y : T) → faults y ≡ 0 → LendsAll faults (all_unopened (x ∷ [])) (x ∷ []) (y ∷ []) (one_back (0 ∷ []) y)
all_lent faults x y none = record { lends = lent faults x y (0 ∷ []) none; places = refl; failed = refl }

spell : Spell (words_of setting) setting
spell = record {
  spelled = refl;
  seed = λ is. cc;
  journal = λ is. cc;
  each = (omega arith, omega arith);
  entries = (omega arith, omega arith);
  first = omega arith;
  number = (omega arith, omega arith);
  doors = (record { near = omega arith; path = λ is. cc }, tt);
}

read : HasSeed tells.left tells.read_faults before.seeds after.seeds seed
read = record {
  source = seed;
  after = [];
  lends = one_lent tells.read_faults seed [] refl;
  few = (seed, refl, omega arith);
  kept = refl;
  size = refl;
  bytes = λ bytes told. cc;
}

abbrev visit : Visit Told
visit = record { before = conn; after = conn; ending = endings.closed }

abbrev gate : Gate (Entrance Told) Random
gate = record {
  name = 1;
  locality = 0;
  opened = opened;
  closed = closed;
  drawn_from = entropy;
  drawn_to = entropy;
  tally = record { connections = 1; full = 0; cut = 0; door_failed = false };
}

served : Served 1 0 [] conn conn endings.closed
served = record {
  taken = [];
  wrote = [];
  payloads = [];
  rest = [];
  read = refl;
  written = refl;
  framed = record { whole = refl; each = tt; partial = inl refl };
  answered = tt;
  number = refl;
  is_rest = refl;
  faults = (refl, refl);
  writes = refl;
  cause = refl;
}

through : ServedGate tells.conn 1 1 [] 1 0 gate.tally opened closed entropy entropy
through = record {
  visits = visit ∷ [];
  up_to = record {
    through = (refl, refl);
    number = refl;
    at_most = omega arith;
    whole = λ less. absurd (omega (arith, less));
    door_failed = tt;
    door_kept = refl;
    out = refl;
  };
  faultless = ((refl, refl), tt);
  only = tt;
  served = (served, tt);
  full = λ some. absurd (omega (arith, some));
  quiet = ((λ told later lt. refl), tt);
  drawn = ([], refl, refl);
  rose = record { least = omega arith; kept = λ _. refl };
  full_are = refl;
  cut_are = refl;
}

history : OneHistory tells.conn tells.entrance tells.random 1 1 [] (gate ∷ [])
history = record {
  names = record { below = (omega arith, tt); differ = λ i j d less within same. absurd (omega (arith, less, within)) };
  callers = tt;
  served = (through, tt);
}

pub legal : Legal seed 1 []
legal = record { entries = tt; replied = refl }

run : FoldedInputs seed 1 [] → HandleLaws seed 1 [] → ServesOneHistory tells setting seed (Some []) (Some printed) before.service after.service
run folded handles = record {
  run = record {
    H = [];
    served = record {
      gates = gate ∷ [];
      legal = legal;
      few = omega arith;
      are_gates = record {
        localities = refl;
        fresh = (record { door_kept = refl; none_ended = refl; entropy_kept = refl }, tt);
        lent_doors = all_lent (λ d. d.faults) opened closed refl;
        lent_entropies = all_lent (λ e. e.faults) entropy entropy refl;
      };
      history = history;
      folded = folded;
      handles = handles;
    };
    journal = record {
      opened = [];
      after = journal_bytes 1 [];
      lends = one_lent tells.write_faults [] (journal_bytes 1 []) refl;
      empty = refl;
      written = refl;
      kept = refl;
    };
  };
  whole = refl;
  printed = refl;
}

pub smallest : FoldedInputs seed 1 [] → HandleLaws seed 1 [] → HeadlineIsMet
smallest folded handles = (setting, spell, (seed, read, run folded handles))
