-- The keys, a step at a time.
use Rattle.std.proofs.Common.{◌≡◌, ℕ, suc, ◌+◌, ◌-◌, ◌<◌, ◌≤◌, List, refl, sym, ap, ◌∙◌, arith}
use Rattle.dpe_ratchets.specs.Keys.{top_key, key_below, key_down, ratchet_key}
use Rattle.dpe_ratchets.specs.Laws.{IsRatchet}

down_none : (cdi : List ℕ) → key_down cdi 0 ≡ top_key cdi
unfolding key_down
down_none cdi = refl

down_more : (cdi : List ℕ) (n : ℕ) → key_down cdi (suc n) ≡ key_below (key_down cdi n) (1024 - suc n)
unfolding key_down
down_more cdi n = refl

pub key_at_top : (cdi : List ℕ) → ratchet_key cdi 1024 ≡ top_key cdi
key_at_top cdi = down_none cdi

pub key_from_above : (cdi : List ℕ) (v : ℕ) → v < 1024 → ratchet_key cdi v ≡ key_below (ratchet_key cdi (v + 1)) v
key_from_above cdi v lt =
    let more : 1024 - v ≡ suc (1024 - (v + 1)) = omega arith in
    let back : 1024 - suc (1024 - (v + 1)) ≡ v = omega arith in
    ap (key_down cdi) more ∙ down_more cdi (1024 - (v + 1)) ∙ ap (key_below (ratchet_key cdi (v + 1))) back

pub is_ratchet : IsRatchet
is_ratchet = record { top = key_at_top; below = key_from_above }

-- one step more, where a key so many steps below a version was that version's
pub step_more : (cdi : List ℕ) (from step : ℕ) (key : List ℕ) → from ≤ 1024 → step < from → key ≡ ratchet_key cdi (from - step)
    → key_below key (from - 1 - step) ≡ ratchet_key cdi (from - (step + 1))
step_more cdi from step key most lt is =
    let lower : from - 1 - step ≡ from - (step + 1) = omega arith in
    let upper : from - step ≡ from - (step + 1) + 1 = omega arith in
    ap (key_below key) lower
    ∙ ap (λ (k : List ℕ). key_below k (from - (step + 1))) (is ∙ ap (ratchet_key cdi) upper)
    ∙ sym (key_from_above cdi (from - (step + 1)) (omega arith))
