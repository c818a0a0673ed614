-- The words of the server, as they are read.
use Rattle.std.specs.Prelude.{ℕ, ◌-◌, ◌≡◌, List, drop, map, slice_index}
use Rattle.dpe_serve.specs.Setting.{Setting, DoorWord, IsDoorWord, door_text, texts}
use Rattle.dpe_serve.specs.declared.setting.Setting as read

-- the word spells this door
pub record SpellsDoor (word : List ℕ) (d : DoorWord) : Type 0 where
  pub spelled : word ≡ door_text d
  pub is_door : IsDoorWord d

-- the door that a door word spells
abbrev pub door_of : List ℕ → DoorWord
door_of word = record { locality = slice_index word 0 - 48; path = drop 2 word }

abbrev pub setting_of : read.Setting → Setting
setting_of s = record {
  seed = s.seed.now;
  journal = s.journal.now;
  each = s.each;
  entries = s.entries;
  first = s.first;
  doors = map door_of (texts s.doors.now);
}

-- the word spells the door that it would
abbrev pub SpellsIts : List ℕ → Type 0
SpellsIts word = SpellsDoor word (door_of word)
