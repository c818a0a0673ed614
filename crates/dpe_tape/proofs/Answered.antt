-- What is written for items, one more or all at once.
use Rattle.std.proofs.Common.{◌≡◌, ℕ, List, [], ◌∷◌, ◌++◌, refl, sym, ap, ◌∙◌, append_assoc, append-nil}
use Rattle.dpe_model.specs.State.{Machine}
use Rattle.dpe_link.specs.Frames.{frame}
use Rattle.dpe_tape.specs.Tape.{Item, IsItem, AreItems, item_bytes, tape_bytes}
use Rattle.dpe_tape.specs.Answers.{step_of, answers, after}

pub answers_more : (M : Machine) (items : List Item) (item : Item) → answers M (items ++ item ∷ []) ≡ answers M items ++ frame (step_of (after M items) item).reply
answers_more M [] item = append-nil (frame (step_of M item).reply)
answers_more M (x ∷ items) item =
    ap (λ (t : List ℕ). frame (step_of M x).reply ++ t) (answers_more (step_of M x).machine items item)
    ∙ sym (append_assoc (frame (step_of M x).reply) (answers (step_of M x).machine items) (frame (step_of (after M (x ∷ items)) item).reply))

pub after_more : (M : Machine) (items : List Item) (item : Item) → after M (items ++ item ∷ []) ≡ (step_of (after M items) item).machine
after_more M [] item = refl
after_more M (x ∷ items) item = after_more (step_of M x).machine items item

pub tape_more : (items : List Item) (item : Item) → tape_bytes (items ++ item ∷ []) ≡ tape_bytes items ++ item_bytes item
tape_more [] item = append-nil (item_bytes item)
tape_more (x ∷ items) item = ap (λ (t : List ℕ). item_bytes x ++ t) (tape_more items item) ∙ sym (append_assoc (item_bytes x) (tape_bytes items) (item_bytes item))

pub items_more : (items : List Item) (item : Item) → AreItems items → IsItem item → AreItems (items ++ item ∷ [])
items_more [] item are is = (is, tt)
items_more (x ∷ items) item are is = (are.0, items_more items item are.1 is)
