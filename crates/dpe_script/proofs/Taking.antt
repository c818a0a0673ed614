-- What the names have once a command's reply was taken.
use Rattle.std.proofs.Common.{◌≡◌, ℕ, List, Option, ◌∙◌}
use Rattle.dpe_messages.specs.Replies.{Response}
use Rattle.dpe_grammar.specs.Acts.{Act}
use Rattle.dpe_script.specs.Names.{fresh_of, keep_of, sealed_of}
use Rattle.dpe_script.specs.Meaning.{taken, new_handle, kept_handle, made_bytes, after, response}
use Rattle.dpe_script.specs.CodeValues.{handle_in, box_in, handles_of, boxes_of, values_of}
use Rattle.dpe_script.specs.declared.values.Values as code

module _ (old a b new : code.Values) (act : Act) (r : Response) where
  pub taken_handles : (n1 n2 : Option (List ℕ)) (v1 v2 : Option (List ℕ)) → n1 ≡ fresh_of act → v1 ≡ new_handle r → n2 ≡ keep_of act → v2 ≡ kept_handle r
      → handles_of a ≡ taken n1 v1 (handles_of old) → handles_of b ≡ taken n2 v2 (handles_of a) → new.names ≡ b.names → new.handles ≡ b.handles
      → handles_of new ≡ (after (values_of old) act (response r)).handles
  taken_handles n1 n2 v1 v2 en1 ev1 en2 ev2 first second names handles =
      let last : handles_of new ≡ handles_of b = λ i. handle_in (names i).handles.items (handles i).items in
      let begun : handles_of a ≡ taken (fresh_of act) (new_handle r) (handles_of old) = first ∙ (λ i. taken (en1 i) (ev1 i) (handles_of old)) in
      last ∙ second ∙ (λ i. taken (en2 i) (ev2 i) (begun i))

  pub taken_boxes : (n3 : Option (List ℕ)) (v3 : Option (List ℕ)) → n3 ≡ sealed_of act → v3 ≡ made_bytes r
      → a.names ≡ old.names → b.names ≡ a.names → a.boxes ≡ old.boxes → b.boxes ≡ a.boxes → boxes_of new ≡ taken n3 v3 (boxes_of b)
      → boxes_of new ≡ (after (values_of old) act (response r)).boxes
  taken_boxes n3 v3 en3 ev3 na nb ba bb third =
      let kept : boxes_of b ≡ boxes_of old = λ i. box_in ((nb ∙ na) i).boxes.items ((bb ∙ ba) i).items in
      third ∙ (λ i. taken (en3 i) (ev3 i) (kept i))

  pub taken_all : handles_of new ≡ (after (values_of old) act (response r)).handles → boxes_of new ≡ (after (values_of old) act (response r)).boxes
      → values_of new ≡ after (values_of old) act (response r)
  taken_all handles boxes = λ i. record { handles = handles i; boxes = boxes i }
