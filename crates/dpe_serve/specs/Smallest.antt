-- The smallest run for which the headline stands: one door, whose one connection sends nothing.
use Rattle.std.specs.Prelude.{ℕ, List, [], ◌∷◌, replicate, codes, Some}
use Rattle.dpe_io.specs.Told.{Kind, all_unopened}
use Rattle.dpe_journal.specs.Journal.{journal_bytes}
use Rattle.dpe_io.specs.Told.{Told}
use Rattle.dpe_io.specs.Tells.{Random}
use Rattle.dpe_io.specs.Tells.{Entrance}
use Rattle.dpe_serve.specs.Headline.{HouseView, Tells, Headline}
use Rattle.dpe_serve.specs.Setting.{Setting, words_of}
use Rattle.dpe_serve.specs.Summary.{summary_text}

abbrev pub setting : Setting
setting = record {
  seed = codes "s";
  journal = codes "j";
  each = 1;
  entries = 1;
  first = 1;
  doors = record { locality = 0; path = codes "p" } ∷ [];
}

abbrev pub seed : List ℕ
seed = replicate 32 0

-- it has no bytes to read
abbrev pub conn : Told
conn = record { left = Some []; written = Some []; read_faults = 0; write_faults = 0 }

abbrev pub opened : Entrance Told
opened = record { lists = Some (record { waiting = conn ∷ []; ended = [] }); faults = 0; out = 0 }

abbrev pub closed : Entrance Told
closed = record { lists = Some (record { waiting = []; ended = conn ∷ [] }); faults = 0; out = 0 }

abbrev pub entropy : Random
entropy = record { words = Some []; faults = 0 }

-- one object was opened and handed back, with these places
abbrev pub one_back : {T : Type 0} → List ℕ → T → Kind T
one_back places object = record {
  unopened = Some [];
  back = Some (object ∷ []);
  places = Some places;
  opened = 1;
  out = 0;
  failed = 0;
  faults = 0;
}

-- Seeds and journals are their bytes; the others are what they tell.
abbrev pub tells : Tells (List ℕ) (Entrance Told) (List ℕ) Random Told
tells = record {
  left = λ bytes. Some bytes;
  read_faults = λ _. 0;
  bytes = λ bytes. Some bytes;
  write_faults = λ _. 0;
  conn = λ c. c;
  entrance = λ d. d;
  random = λ e. e;
}

abbrev pub before : HouseView (List ℕ) (Entrance Told) (List ℕ) Random
before = record {
  seeds = all_unopened (seed ∷ []);
  service = record {
    doors = all_unopened (opened ∷ []);
    journals = all_unopened ([] ∷ []);
    entropies = all_unopened (entropy ∷ []);
  };
}

abbrev pub after : HouseView (List ℕ) (Entrance Told) (List ℕ) Random
after = record {
  seeds = one_back [] [];
  service = record {
    doors = one_back (0 ∷ []) closed;
    journals = one_back [] (journal_bytes 1 []);
    entropies = one_back (0 ∷ []) entropy;
  };
}

abbrev pub printed : List ℕ
printed = summary_text (record { connections = 1; commands = 0; refused = 0; full = 0; cut = 0 })

-- The headline stands for some words, a house before and after, and an output.
abbrev pub HeadlineIsMet : Type 0
HeadlineIsMet = Headline tells (words_of setting) (Some []) (Some printed) before after
