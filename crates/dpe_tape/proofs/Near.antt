-- The pairs of a load's pool have localities of callers.
use Rattle.std.proofs.Common.{ℕ, zero, suc, ◌≤◌, ◌%◌, true, false, cond, List, [], ◌∷◌, ◌++◌, length, take, drop, Option, Some, None, ◌==◌, ◌&&◌, arith}
use Rattle.std.proofs.Math.Nat.{mod-lt}
use Rattle.std.proofs.lemmas.List.Elements.{All-append, All-nil, All-drop, All-take}
use Rattle.dpe_messages.specs.Replies.{Response, refused, profile, handle, derived, made, done, code_of}
use Rattle.dpe_tape.specs.declared.act.Act.{Act}
use Rattle.dpe_tape.specs.declared.act.Act.TheVariants.{Initialize, Derive, DeriveAway, Rotate, Sign, Seal, Unseal, Destroy, RotateSpent, Profile}
use Rattle.dpe_tape.specs.declared.pool.Pair.{Pair}
use Rattle.dpe_tape.specs.Pool.{no_handle, pair, picked, without_picked, with_pair, with_if, pool_limit}
use Rattle.dpe_tape.specs.Load.{Load, Stock, load_at, load_after, locality_for, locality_of_new, target, names_picked, without_spent, after_spending, with_handles, stock_after, act_at, outcome_at}
use Rattle.dpe_tape.specs.Progress.{AreNear}
use Rattle.dpe_tape.specs.Draws.{argument_of}

abbrev IsNear : Pair → Type 0
IsNear p = p.locality ≤ 7

one_near : (p : Pair) → IsNear p → AreNear (p ∷ [])
one_near p near zero d lt = near
one_near p near (suc k) d lt = absurd (omega (arith, lt))

pub near_picked : (pool : List Pair) (b : ℕ) → AreNear pool → (picked pool b).locality ≤ 7
near_picked [] b near = omega arith
near_picked (p ∷ pool) b near =
    near (b % length (p ∷ pool)) (pair no_handle 0) (mod-lt b {m = length (p ∷ pool)} (omega arith))

near_pair : (pool : List Pair) (more : Pair) → AreNear pool → IsNear more → AreNear (with_pair pool more)
unfolding with_pair
near_pair pool more near one =
    elim (length pool == pool_limit) as (λ b. AreNear (cond b (drop 1 pool ++ more ∷ []) (pool ++ more ∷ []))) [
      | true ↦ All-append IsNear (drop 1 pool) (more ∷ []) (All-drop IsNear 1 pool near) (one_near more one)
      | false ↦ All-append IsNear pool (more ∷ []) near (one_near more one)
    ]

near_if : (pool : List Pair) (new : Option (List ℕ)) (locality : ℕ) → AreNear pool → locality ≤ 7 → AreNear (with_if pool new locality)
near_if pool None locality near one = near
near_if pool (Some new) locality near one = near_pair pool (pair new locality) near one

near_without : (pool : List Pair) (b : ℕ) → AreNear pool → AreNear (without_picked pool b)
near_without pool b near =
    let i : ℕ = b % length pool in
    All-append IsNear (take i pool) (drop (suc i) pool) (All-take IsNear i pool near) (All-drop IsNear (suc i) pool near)

near_new : (act : Act) (near : ℕ) → near ≤ 7 → locality_of_new act near ≤ 7
near_new Initialize near h = omega arith
near_new Derive near h = h
near_new DeriveAway near h = h
near_new Rotate near h = h
near_new Sign near h = h
near_new Seal near h = h
near_new Unseal near h = h
near_new Destroy near h = h
near_new RotateSpent near h = h
near_new Profile near h = h

pub near_called : (act : Act) (near : ℕ) → near ≤ 7 → locality_for act near ≤ 7
near_called Initialize near h = omega arith
near_called Derive near h = h
near_called DeriveAway near h = h
near_called Rotate near h = h
near_called Sign near h = h
near_called Seal near h = h
near_called Unseal near h = h
near_called Destroy near h = h
near_called RotateSpent near h = omega arith
near_called Profile near h = omega arith

near_target : (b : ℕ) → target b ≤ 7
near_target b = omega arith

near_handles : (act : Act) (response : Response) (near b : ℕ) (pool : List Pair) → near ≤ 7 → AreNear pool → AreNear (with_handles act response near b pool)
near_handles act (refused code) near b pool h are = are
near_handles act profile near b pool h are = are
near_handles act (handle new) near b pool h are = near_pair pool (pair new (locality_of_new act near)) are (near_new act near h)
near_handles act (derived child parent) near b pool h are =
    near_if (with_pair pool (pair child (target b))) parent near (near_pair pool (pair child (target b)) are (near_target b)) h
near_handles act (made new bytes) near b pool h are = near_if pool new near are h
near_handles act done near b pool h are = are

near_spending : (act : Act) (response : Response) (s : Stock) (b : ℕ) → AreNear s.pool → AreNear (after_spending act response s b).pool
near_spending act response s b are =
    elim (code_of response == 0 && names_picked act) as (λ t. AreNear (cond t (without_spent s b) s).pool) [
      | true ↦ near_without s.pool b are
      | false ↦ are
    ]

near_after : (act : Act) (response : Response) (s : Stock) (b : ℕ) → AreNear s.pool → AreNear (stock_after act response s b).pool
near_after act response s b are =
    near_handles act response (picked s.pool b).locality b (after_spending act response s b).pool (near_picked s.pool b are) (near_spending act response s b are)

near_later : (n : ℕ) (l : Load) → AreNear l.stock.pool → AreNear (load_after n l).stock.pool
near_later zero l are = are
near_later (suc n) l are =
    let before = load_after n l in
    near_after (act_at before) (outcome_at before).reply before.stock (argument_of before.number) (near_later n l are)

-- before each command of a load
pub near_in_load : (n number : ℕ) → AreNear (load_after n (load_at number)).stock.pool
near_in_load n number = near_later n (load_at number) (All-nil IsNear)
