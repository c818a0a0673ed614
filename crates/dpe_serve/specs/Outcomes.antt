-- How the server ends, and what its parts tell each other.
use Rattle.std.specs.Prelude.{ℕ, ◌≤◌, ◌≡◌, true, false, List, [], ◌∷◌, length, map, Option, Some, None, vec_len}
use Rattle.std.specs.Prelude.{vec_capacity}
use Rattle.std.specs.List.{AllByRecursion}
use Rattle.std.specs.Io.KnownBytes.{Appends}
use Rattle.dpe_desk.specs.Passes.{Belongs, IsFresh}
use Rattle.dpe_io.specs.Causes.{Rose}
use Rattle.dpe_io.specs.Told.{Kind, Returns, Placed}
use Rattle.dpe_journal.specs.BookViews.{BookView}
use Rattle.dpe_journal.specs.Journal.{journal_bytes}
use Rattle.dpe_text.specs.Writing.{AppendsFront}
use Rattle.dpe_serve.specs.Closings.{HandsBackWhole, HandsBackPart}
use Rattle.dpe_serve.specs.Gates.{Gate, OneHistory}
use Rattle.dpe_serve.specs.Headline.{ServiceView, HouseView, Tells, ServesDoors, Unopened, any_failed, ForSeed}
use Rattle.dpe_serve.specs.Headline.{door_faults, entropy_faults}
use Rattle.dpe_serve.specs.Headline.{ServesOneHistory, ServesUnprinted, FailsToServe, FailsToWrite, NothingOpened}
use Rattle.dpe_serve.specs.Lending.{ReturnsAll, PlacedFrom}
use Rattle.dpe_serve.specs.Openings.{locality_of}
use Rattle.dpe_serve.specs.Seeds.{HasNoSeed, HasWrongSize}
use Rattle.dpe_serve.specs.Setting.{Setting, texts}
use Rattle.dpe_serve.specs.Summary.{totals_of, summary_text}
use Rattle.dpe_serve.specs.Words.{SpellsIts}
use Rattle.dpe_serve.specs.declared.crew.Post.{Post}
use Rattle.dpe_serve.specs.declared.serve.Outcome.{Outcome}
use Rattle.dpe_serve.specs.declared.serve.Outcome.TheVariants.{Done, NoMemory, UnreadSeed, NoService, NoJournal}
use Rattle.dpe_serve.specs.declared.serve.Outcome.TheVariants.{NoOutput, WrongSeed}
use Rattle.dpe_serve.specs.declared.serve.Served.{Served}
use Rattle.dpe_serve.specs.declared.serve.Stock.{Stock}
use Rattle.dpe_serve.specs.declared.setting.Setting as read

abbrev pub status_at : Outcome → ℕ
status_at Done = 0
status_at NoMemory = 3
status_at UnreadSeed = 4
status_at NoService = 5
status_at NoJournal = 6
status_at NoOutput = 7
status_at WrongSeed = 8

-- the setting is within the limits, and its door words are of the form
pub record IsRead (s : read.Setting) : Type 0 where
  pub doors : AllByRecursion SpellsIts (texts s.doors.now)
  pub number : length s.doors.now ≤ 16
  pub entries : (1 ≤ s.entries) × (s.entries ≤ 65536)

-- all that is needed for this setting: a desk over the empty history, with its one pass, and room for each door
pub record IsStock {D E C : Type 0} (s : read.Setting) (stock : Stock D E C) : Type 0 where
  pub first : stock.desk.terms.kind.first ≡ s.first
  pub opening : stock.desk.terms.opening ≡ []
  pub capacity : stock.desk.terms.capacity ≡ s.entries
  pub belongs : Belongs stock.desk stock.pass × IsFresh stock.pass.view
  pub whole : (stock.pass.view.names ≡ 0 ∷ []) × (stock.pass.view.stake ≡ 65536)
  pub rooms : length s.doors.now ≤ vec_len stock.rooms
  pub posts : (stock.posts.items ≡ []) × (length s.doors.now ≤ vec_capacity stock.posts)
  pub workers : (stock.workers.items ≡ []) × (length s.doors.now ≤ vec_capacity stock.workers)

-- posts were opened, of all that was made, and nothing else was used yet; so many doors and entropies are out
pub record IsOpen {D E C : Type 0} (stock : Stock D E C) (doors_out entropies_out : ℕ) : Type 0 where
  pub opening : stock.desk.terms.opening ≡ []
  pub belongs : Belongs stock.desk stock.pass × IsFresh stock.pass.view
  pub whole : (stock.pass.view.names ≡ 0 ∷ []) × (stock.pass.view.stake ≡ 65536)
  pub few : vec_len stock.posts ≤ 16
  pub workers : (stock.workers.items ≡ []) × (vec_len stock.posts ≤ vec_capacity stock.workers)
  pub doors : vec_len stock.posts ≤ doors_out
  pub entropies : vec_len stock.posts ≤ entropies_out

-- the seed of the stock's book
abbrev pub seed_of : {D E C : Type 0} → Stock D E C → List ℕ
seed_of stock = stock.desk.terms.kind.seed

-- an entropy without its door came back too, at this place
abbrev pub ReturnsSpare : {E : Type 0} → (E → ℕ) → ℕ → Kind E → Option E → Kind E → Type 0
ReturnsSpare faults place old None new = new ≡ old
ReturnsSpare faults place old (Some entropy) new = Returns old (faults entropy) entropy new × Placed old place new

module _ {D E C : Type 0} (door_faults : D → ℕ) (entropy_faults : E → ℕ) (posts : List (Post D E C)) (spare : Option E) where
  -- the doors and entropies of these posts were handed back, and the one without its door
  pub record ReturnsPosts (doors doors_after : Kind D) (entropies entropies_after : Kind E) : Type 0 where
    pub doors_back : ReturnsAll door_faults doors (map (λ p. p.door) posts) doors_after
    pub door_places : PlacedFrom doors 0 (length posts) doors_after
    pub between : Kind E
    pub entropies_back : ReturnsAll entropy_faults entropies (map (λ p. p.entropy) posts) between
    pub entropy_places : PlacedFrom entropies 0 (length posts) between
    pub spare_back : ReturnsSpare entropy_faults (length posts) between spare entropies_after

-- the output's count rose, or stayed, or nothing was printed at all
abbrev pub Prints : {O : Type 0} → (O → ℕ) → Outcome → O → O → Type 0
Prints faults Done old new = faults new ≡ faults old
Prints faults NoOutput old new = Rose (faults old) (faults new)
Prints faults outcome old new = new ≡ old

module _ {J : Type 0} (bytes : J → Option (List ℕ)) (faults : J → ℕ) where
  -- how the journal and the summary are written where the workers ran
  abbrev pub Finishes : Served → Kind J → J → Kind J → Option (List ℕ) → Option (List ℕ) → Outcome → Type 0
  Finishes served old journal new out_old out_new Done =
      HandsBackWhole bytes faults (journal_bytes served.book.first served.book.history) old journal new
      × (served.door_failed ≡ false)
      × Appends out_old out_new (summary_text served.totals)
  Finishes served old journal new out_old out_new NoOutput =
      HandsBackWhole bytes faults (journal_bytes served.book.first served.book.history) old journal new
      × (served.door_failed ≡ false)
      × AppendsFront out_old out_new (summary_text served.totals)
  Finishes served old journal new out_old out_new NoService =
      HandsBackWhole bytes faults (journal_bytes served.book.first served.book.history) old journal new
      × (served.door_failed ≡ true)
  Finishes served old journal new out_old out_new NoJournal =
      HandsBackPart bytes faults (journal_bytes served.book.first served.book.history) old journal new
  Finishes served old journal new out_old out_new outcome = ⊥

  -- how the journal is written where no worker ran
  abbrev pub FinishesEmpty : BookView → Kind J → J → Kind J → Outcome → Type 0
  FinishesEmpty book old journal new NoService =
      HandsBackWhole bytes faults (journal_bytes book.first book.history) old journal new
  FinishesEmpty book old journal new NoJournal =
      HandsBackPart bytes faults (journal_bytes book.first book.history) old journal new
  FinishesEmpty book old journal new outcome = ⊥

module _ {S D J E C : Type 0} (tells : Tells S D J E C) where
  module _ (capacity each : ℕ) (posts : List (Post D E C)) (doors doors_after : Kind D) where
    -- the workers of these posts ran, and their doors and entropies were handed back
    pub record RunsPosts (entropies entropies_after : Kind E) (served : Served) : Type 0 where
      pub gates : List (Gate D E)
      pub localities : map (λ g. g.locality) gates ≡ map locality_of posts
      pub opened : map (λ g. g.opened) gates ≡ map (λ p. p.door) posts
      pub drawn_from : map (λ g. g.drawn_from) gates ≡ map (λ p. p.entropy) posts
      pub doors_back : ReturnsAll (door_faults tells) doors (map (λ g. g.closed) gates) doors_after
      pub door_places : PlacedFrom doors 0 (length posts) doors_after
      pub entropies_back : ReturnsAll (entropy_faults tells) entropies (map (λ g. g.drawn_to) gates) entropies_after
      pub entropy_places : PlacedFrom entropies 0 (length posts) entropies_after
      pub history : OneHistory tells.conn tells.entrance tells.random capacity each served.book.history gates
      pub totals : served.totals ≡ totals_of served.book.history (map (λ g. g.tally) gates)
      pub failed : served.door_failed ≡ any_failed tells gates

  module _ (s : Setting) (seed : List ℕ) (doors doors_after : Kind D) (entropies entropies_after : Kind E) where
    -- the workers of all doors ran, and these are their book and their totals
    pub record RunsDoors (served : Served) : Type 0 where
      pub run : ServesDoors tells s seed served.book.history doors doors_after entropies entropies_after
      pub first : served.book.first ≡ s.first
      pub totals : served.totals ≡ totals_of served.book.history (map (λ g. g.tally) run.gates)
      pub failed : served.door_failed ≡ any_failed tells run.gates

  module _ (s : Setting) (doors doors_after : Kind D) (entropies entropies_after : Kind E) where
    -- no worker ran, and the book is empty
    pub record RunsNone (book : BookView) : Type 0 where
      pub unopened : Unopened tells s doors doors_after entropies entropies_after
      pub first : book.first ≡ s.first
      pub empty : book.history ≡ []

  -- what stands at each outcome, from the seed on
  abbrev pub EndsFrom :
      Setting → List ℕ → Option (List ℕ) → Option (List ℕ) → ServiceView D J E → ServiceView D J E → Outcome → Type 0
  EndsFrom s seed old new before after Done = ServesOneHistory tells s seed old new before after
  EndsFrom s seed old new before after NoOutput = ServesUnprinted tells s seed old new before after
  EndsFrom s seed old new before after NoService = FailsToServe tells s seed before after
  EndsFrom s seed old new before after NoJournal = FailsToWrite tells s seed before after
  EndsFrom s seed old new before after NoMemory = NothingOpened before after
  EndsFrom s seed old new before after outcome = ⊥

  -- what stands at each outcome
  abbrev pub Ends :
      Setting → Option (List ℕ) → Option (List ℕ) → HouseView S D J E → HouseView S D J E → Outcome → Type 0
  Ends s old new before after UnreadSeed =
      HasNoSeed tells.left tells.read_faults before.seeds after.seeds × NothingOpened before.service after.service
  Ends s old new before after WrongSeed =
      HasWrongSize tells.left tells.read_faults before.seeds after.seeds × NothingOpened before.service after.service
  Ends s old new before after outcome =
      ForSeed tells before after (λ seed. EndsFrom s seed old new before.service after.service outcome)
