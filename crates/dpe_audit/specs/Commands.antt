-- The program as a command of `clap`, with four subcommands, and what a parse of right words gives.
use Rattle.std.specs.Prelude.{◌≡◌, ◌⊎◌, List, [], ◌∷◌, Option, Some, codes, true, false}
use Rattle.clap.specs.Walk.{Row, Rule, Text, first_of}
use Rattle.clap.specs.Simple.{App, Shape, new_rule, new_shape}

-- a positional argument that is required
abbrev pub required : Text → Rule
required id = record (new_rule id) { required = true }

-- `NAME SEED JOURNAL`
abbrev pub judging : Text → Shape
judging name = record (new_shape name) { rules = required (codes "seed") ∷ required (codes "journal") ∷ [] }

-- `NAME JOURNAL`
abbrev pub reading : Text → Shape
reading name = record (new_shape name) { rules = required (codes "journal") ∷ [] }

-- `list JOURNAL`
abbrev pub listing : Shape
listing = reading (codes "list")

-- `connection JOURNAL CALLER`
abbrev pub calling : Shape
calling = record (new_shape (codes "connection")) { rules = required (codes "journal") ∷ required (codes "caller") ∷ [] }

-- `connection JOURNAL CALLER CONNECTION`
abbrev pub connecting : Shape
connecting = record (new_shape (codes "connection")) {
  rules = required (codes "journal") ∷ required (codes "caller") ∷ required (codes "number") ∷ [];
}

-- the program without its subcommands
abbrev pub bare : App
bare = record {
  top = record (new_shape (codes "dpe_replay")) {
    no_binary_name = true;
    disable_help_flag = true;
    disable_help_subcommand = true;
    subcommand_required = true;
  };
  subs = [];
}

-- one command with four subcommands
abbrev pub program : App
program = record {
  top = record bare.top { is_leaf = false };
  subs = judging (codes "check") ∷ judging (codes "live") ∷ listing ∷ connecting ∷ [];
}

-- the words are this name, a seed and a journal, and the subcommand that was met has them
pub record AsksTwo (name : Text) (words : List Text) (met : Option (Text × List Row)) : Type 0 where
  pub seed : Text
  pub journal : Text
  pub rows : List Row
  pub form : words ≡ name ∷ seed ∷ journal ∷ []
  pub entered : met ≡ Some (name, rows)
  pub has_seed : first_of (codes "seed") rows ≡ Some seed
  pub has_journal : first_of (codes "journal") rows ≡ Some journal

-- the same of `list` and a journal
pub record AsksOne (words : List Text) (met : Option (Text × List Row)) : Type 0 where
  pub journal : Text
  pub rows : List Row
  pub form : words ≡ codes "list" ∷ journal ∷ []
  pub entered : met ≡ Some (codes "list", rows)
  pub has_journal : first_of (codes "journal") rows ≡ Some journal

-- the same of `connection`, a journal and two more words
pub record AsksThree (words : List Text) (met : Option (Text × List Row)) : Type 0 where
  pub journal : Text
  pub caller : Text
  pub number : Text
  pub rows : List Row
  pub form : words ≡ codes "connection" ∷ journal ∷ caller ∷ number ∷ []
  pub entered : met ≡ Some (codes "connection", rows)
  pub has_journal : first_of (codes "journal") rows ≡ Some journal
  pub has_caller : first_of (codes "caller") rows ≡ Some caller
  pub has_number : first_of (codes "number") rows ≡ Some number

-- the words are of one of the four forms, but that numbers may be any words
abbrev pub Asks : List Text → Option (Text × List Row) → Type 0
Asks words met =
    AsksTwo (codes "check") words met
    ⊎ (AsksTwo (codes "live") words met ⊎ (AsksOne words met ⊎ AsksThree words met))
