-- The grammar of a command line, word by word.
use Rattle.std.specs.Prelude.{ℕ, ◌==◌, Bool, true, false, ◌&&◌, nat_le, nat_lt, List, [], ◌∷◌, length, codes, slice_index, ◌-◌, Option, Some, None, if◌then◌else◌, option_map, bytes_eq}
use Rattle.dpe_cbor.specs.Decoding.{◌>>=◌}
use Rattle.dpe_messages.specs.Request.{Configuration, inline, descriptor}
use Rattle.dpe_grammar.specs.Values.{name_in, number_in}
use Rattle.dpe_grammar.specs.Options.{value_at, are_known, are_single, bytes_in, bytes_at, number_at, or_default, optional, flag_at}
use Rattle.dpe_grammar.specs.declared.grammar.Asking as code
use Rattle.dpe_grammar.specs.Acts.{DeriveLine, act_of, Act, profile, initialize, derive, sign, seal, unseal, rotate, destroy, raw}

-- the keys of each command
abbrev pub derive_keys : List (List ℕ)
derive_keys =
    codes "code=" ∷ codes "config=" ∷ codes "descriptor=" ∷ codes "authority=" ∷ codes "mode=" ∷ codes "hidden=" ∷ codes "keep=" ∷ codes "locality=" ∷ codes "final" ∷ codes "default" ∷ []

abbrev pub sign_keys : List (List ℕ)
sign_keys = codes "message=" ∷ codes "label=" ∷ codes "keep=" ∷ []

abbrev pub seal_keys : List (List ℕ)
seal_keys = codes "plain=" ∷ codes "label=" ∷ codes "localities=" ∷ codes "modes=" ∷ codes "keep=" ∷ []

abbrev pub unseal_keys : List (List ℕ)
unseal_keys = codes "label=" ∷ codes "keep=" ∷ []

-- the words begin with these keys, each at most once
abbrev pub has_only : List (List ℕ) → List (List ℕ) → Bool
has_only keys words = are_known keys words && are_single keys words

-- just one of the inline configuration and the descriptor
abbrev pub one_config : Option (List ℕ) → Option (List ℕ) → Option Configuration
one_config None None = None
one_config (Some _) (Some _) = None
one_config (Some text) None = option_map inline (bytes_in 64 64 text)
one_config None (Some text) = option_map descriptor (bytes_in 0 1024 text)

abbrev pub config_at : List (List ℕ) → Option Configuration
config_at words = one_config (value_at (codes "config=") words) (value_at (codes "descriptor=") words)

-- a name, and the words behind it
abbrev pub with_words : List (List ℕ) → List ℕ → List ℕ × List (List ℕ)
with_words words name = (name, words)

abbrev pub first_name : List (List ℕ) → Option (List ℕ × List (List ℕ))
first_name [] = None
first_name (word ∷ words) = option_map (with_words words) (name_in word)

-- the name of the handle that is used, or a dash, which is no name and leaves the handle out
abbrev pub old_in : List ℕ → Option (Option (List ℕ))
old_in word = if bytes_eq word (codes "-") then Some None else option_map Some (name_in word)

-- that, and the words behind it
abbrev pub with_old : List (List ℕ) → Option (List ℕ) → Option (List ℕ) × List (List ℕ)
with_old words old = (old, words)

abbrev pub first_old : List (List ℕ) → Option (Option (List ℕ) × List (List ℕ))
first_old [] = None
first_old (word ∷ words) = option_map (with_old words) (old_in word)

-- the command, where no word is left
abbrev pub at_end : Act → List (List ℕ) → Option Act
at_end act [] = Some act
at_end act (word ∷ words) = None

-- whether this word stands at the end: nothing more, or the word alone
abbrev pub last_word : List ℕ → List (List ℕ) → Option Bool
last_word flag [] = Some false
last_word flag (word ∷ []) = if bytes_eq word flag then Some true else None
last_word flag (word ∷ other ∷ words) = None

-- the value, where the words begin with these keys, each at most once
abbrev pub only : {A : Type 0} → List (List ℕ) → List (List ℕ) → A → Option A
only keys words x = if has_only keys words then Some x else None

-- ## The words of each command, behind its own

abbrev pub label_at : List (List ℕ) → Option (List ℕ)
label_at words = or_default [] (bytes_in 0 64) (value_at (codes "label=") words)

abbrev pub keep_at : List (List ℕ) → Option (Option (List ℕ))
keep_at words = optional name_in (value_at (codes "keep=") words)

abbrev pub initialize_in : List (List ℕ) → Option Act
initialize_in words = do
  fresh ← first_name words
  is_default ← last_word (codes "default") fresh.1
  Some (initialize fresh.0 is_default)

-- the arguments of `derive`, behind its two names
abbrev pub derive_options_in : Option (List ℕ) → List ℕ → List (List ℕ) → Option DeriveLine
derive_options_in old fresh words = do
  code ← bytes_at (codes "code=") 64 64 words
  config ← config_at words
  authority ← bytes_at (codes "authority=") 64 64 words
  mode ← number_at (codes "mode=") 3 words
  hidden ← optional (bytes_in 64 64) (value_at (codes "hidden=") words)
  keep ← keep_at words
  locality ← optional (number_in 7) (value_at (codes "locality=") words)
  is_final ← flag_at (codes "final") words
  is_default ← flag_at (codes "default") words
  only derive_keys words (record {
    old = old;
    fresh = fresh;
    code = code;
    config = config;
    authority = authority;
    mode = mode;
    hidden = hidden;
    keep = keep;
    locality = locality;
    is_final = is_final;
    is_default = is_default;
  })

abbrev pub derive_in : List (List ℕ) → Option Act
derive_in words = do
  old ← first_old words
  fresh ← first_name old.1
  option_map derive (derive_options_in old.0 fresh.0 fresh.1)

abbrev pub sign_in : List (List ℕ) → Option Act
sign_in words = do
  old ← first_old words
  message ← bytes_at (codes "message=") 0 2048 old.1
  label ← label_at old.1
  keep ← keep_at old.1
  option_map sign (only sign_keys old.1 (record { old = old.0; message = message; label = label; keep = keep }))

abbrev pub seal_in : List (List ℕ) → Option Act
seal_in words = do
  old ← first_old words
  sealed ← first_name old.1
  plain ← bytes_at (codes "plain=") 0 2048 sealed.1
  label ← label_at sealed.1
  localities ← or_default 255 (number_in 255) (value_at (codes "localities=") sealed.1)
  modes ← or_default 15 (number_in 15) (value_at (codes "modes=") sealed.1)
  keep ← keep_at sealed.1
  option_map seal (only seal_keys sealed.1 (record {
    old = old.0;
    sealed = sealed.0;
    plain = plain;
    label = label;
    localities = localities;
    modes = modes;
    keep = keep;
  }))

abbrev pub unseal_in : List (List ℕ) → Option Act
unseal_in words = do
  old ← first_old words
  sealed ← first_name old.1
  label ← label_at sealed.1
  keep ← keep_at sealed.1
  option_map unseal (only unseal_keys sealed.1 (record { old = old.0; sealed = sealed.0; label = label; keep = keep }))

abbrev pub rotate_in : List (List ℕ) → Option Act
rotate_in words = do
  old ← first_old words
  fresh ← first_name old.1
  is_default ← last_word (codes "default") fresh.1
  Some (rotate old.0 fresh.0 is_default)

abbrev pub destroy_in : List (List ℕ) → Option Act
destroy_in words = do
  old ← first_old words
  recursive ← last_word (codes "recursive") old.1
  Some (destroy old.0 recursive)

abbrev pub raw_in : List (List ℕ) → Option Act
raw_in [] = None
raw_in (word ∷ []) = option_map raw (bytes_in 0 4000 word)
raw_in (word ∷ other ∷ words) = None

-- the command of this name
abbrev pub act_named : List ℕ → List (List ℕ) → Option Act
act_named command words =
    if bytes_eq command (codes "profile") then at_end profile words
    else (if bytes_eq command (codes "init") then initialize_in words
    else (if bytes_eq command (codes "derive") then derive_in words
    else (if bytes_eq command (codes "sign") then sign_in words
    else (if bytes_eq command (codes "seal") then seal_in words
    else (if bytes_eq command (codes "unseal") then unseal_in words
    else (if bytes_eq command (codes "rotate") then rotate_in words
    else (if bytes_eq command (codes "destroy") then destroy_in words
    else (if bytes_eq command (codes "raw") then raw_in words
    else None))))))))

-- one digit, below the number of links
abbrev pub link_in : ℕ → List ℕ → Option ℕ
link_in links word =
    let link = slice_index word 0 - 48 in
    if (length word == 1) && (nat_le 48 (slice_index word 0) && nat_lt link links) then Some link else None

-- a link, and a command for it
pub record Asking : Type 0 where
  pub link : ℕ
  pub act : Act

abbrev pub asking : ℕ → Act → Asking
asking link act = record { link = link; act = act }

-- the command of a line's words: a link, the command's own word, and the words of that command
abbrev pub asking_in : ℕ → List (List ℕ) → Option Asking
asking_in links [] = None
asking_in links (word ∷ []) = None
asking_in links (word ∷ command ∷ words) = do
  link ← link_in links word
  option_map (asking link) (act_named command words)

abbrev pub asking_of : code.Asking → Asking
asking_of a = asking a.link (act_of a.act)
