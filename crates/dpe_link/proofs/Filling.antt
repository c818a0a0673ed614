-- What the loops over a source and a sink keep.
use Rattle.std.proofs.Common.{◌≡◌, ℕ, ◌+◌, ◌≤◌, List, ◌++◌, length, take, drop, Option, sym, ap, subst, ◌∙◌, arith}
use Rattle.std.specs.Io.KnownBytes.{Consumes, Appends}
use Rattle.std.proofs.KnownBytes.{Consumes-trans, Appends-trans}
use Rattle.std.proofs.lemmas.List.{take_at, drop_at, take-append-le, length-append, length-take, length-drop}
use Rattle.std.proofs.Math.Seq.{take-add}
use borrow.Rule.Slice.PartMut.{put_mid, post_of}
use Rattle.dpe_io.specs.Causes.{Other}

-- the front of the room is what was taken so far, no call failed, and what stands beside is as it was
pub record IsFilling (old now : Option (List ℕ)) (faults_old faults_now : ℕ) (beside_old beside_now : Other) (room : List ℕ) (filled : ℕ) : Type 0 where
  pub within : filled ≤ length room
  pub taken : Consumes old now (take filled room)
  pub faultless : faults_now ≡ faults_old
  pub beside : beside_now ≡ beside_old

-- the front of the piece was written so far, no call failed, and what stands beside is as it was
pub record IsWriting (old now : Option (List ℕ)) (faults_old faults_now : ℕ) (beside_old beside_now : Other) (piece : List ℕ) (done : ℕ) : Type 0 where
  pub within : done ≤ length piece
  pub given : Appends old now (take done piece)
  pub faultless : faults_now ≡ faults_old
  pub beside : beside_now ≡ beside_old

pub filling_more : (a b d : Option (List ℕ)) (f0 f1 f2 : ℕ) (o0 o1 o2 : Other) (room buf : List ℕ) (filled count k : ℕ) → IsFilling a b f0 f1 o0 o1 room filled
    → Consumes b d (take count buf) → count ≤ length buf → f2 ≡ f1 → o2 ≡ o1 → IsFilling a d f0 f2 o0 o2 (put_mid filled k room buf) (filled + count)
filling_more a b d f0 f1 f2 o0 o1 o2 room buf filled count k i taken within same beside =
    let whole = put_mid filled k room buf in
    let rest = post_of filled k room in
    let front : length (take filled room) ≡ filled = omega (arith, length-take filled room, i.within) in
    let parts : take (filled + count) whole ≡ take filled room ++ take count buf =
    take-add filled count whole
    ∙ ap (λ (t : List ℕ). t ++ take count (drop filled whole)) (take_at (take filled room) (buf ++ rest) filled front)
    ∙ ap (λ (t : List ℕ). take filled room ++ take count t) (drop_at (take filled room) (buf ++ rest) filled front)
    ∙ ap (λ (t : List ℕ). take filled room ++ t) (take-append-le count buf rest within) in
    record {
      within = omega (arith, length-append (take filled room) (buf ++ rest), length-append buf rest, front, within);
      taken = subst (λ (t : List ℕ). Consumes a d t) (sym parts) (Consumes-trans a b d (take filled room) (take count buf) i.taken taken);
      faultless = same ∙ i.faultless;
      beside = beside ∙ i.beside;
    }

pub writing_more : (a b d : Option (List ℕ)) (f0 f1 f2 : ℕ) (o0 o1 o2 : Other) (piece rest : List ℕ) (done count : ℕ) → IsWriting a b f0 f1 o0 o1 piece done → rest ≡ drop done piece
    → Appends b d (take count rest) → count ≤ length rest → f2 ≡ f1 → o2 ≡ o1 → IsWriting a d f0 f2 o0 o2 piece (done + count)
writing_more a b d f0 f1 f2 o0 o1 o2 piece rest done count i is given within same beside =
    let parts : take (done + count) piece ≡ take done piece ++ take count rest = take-add done count piece ∙ ap (λ (t : List ℕ). take done piece ++ take count t) (sym is) in
    record {
      within = omega (arith, length-drop done piece, ap length is, within, i.within);
      given = subst (λ (t : List ℕ). Appends a d t) (sym parts) (Appends-trans a b d (take done piece) (take count rest) i.given given);
      faultless = same ∙ i.faultless;
      beside = beside ∙ i.beside;
    }
