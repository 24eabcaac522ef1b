-- Laws of the plan: no pruning over the same leaf choices is cheaper; the plan weighs what the pruning by its own splits weighs.
-- Assumes nothing.
use Rattle.std.specs.Prelude.{◌≡◌, Bool, true, false, ltb}
use Rattle.std.proofs.Math.Path.{refl}
use Prim.Native.Nat.{ℕ, zero, suc, ◌+◌, ◌*◌, ◌^◌, ◌≤◌, ◌<◌}
use native.Mathlib.Omega.{arith}
use Rattle.std.proofs.Math.Nat.{mul-add}
use Rattle.std.proofs.Common.{mul-le-mul_left, le_trans, ltb-true, ltb-false}
use Rattle.bits.specs.Basics.{pick}
use Rattle.tree.specs.Blocks.{block_count, left, right, level}
use Rattle.tree.specs.BlocksLaws.{At, at_parts, suc_level}
use Rattle.tree.specs.Plan.{Weight, total, cost, joint_weight, flagged, planned, pruned, splits}

-- leaves that weigh the same give the same plan
module _ (f h : ℕ → Weight) (lambda : ℕ) (same : (i : ℕ) → i < block_count → f i ≡ h i) where
  pub planned-same : (d i : ℕ) → At d i → planned f lambda d i ≡ planned h lambda d i
  unfolding planned
  planned-same zero i a = same i a.1
  planned-same (suc d) i a =
      let p = at_parts d i a in
      rw (planned-same d (left i) p.0, planned-same d (right i) p.1, same i a.1)

  pub splits-same : (d i : ℕ) → At d i → splits f lambda d i ≡ splits h lambda d i
  unfolding splits
  splits-same zero i a = refl
  splits-same (suc d) i a =
      let p = at_parts d i a in
      rw (planned-same d (left i) p.0, planned-same d (right i) p.1, same i a.1)

pub splits_zero : (w : ℕ → Weight) (lambda i : ℕ) → level i ≡ 0 → splits w lambda (level i) i ≡ false
unfolding splits
splits_zero w lambda i e = rw e

-- the plan weighs what the pruning by its own splits weighs
pub own_plan : (w : ℕ → Weight) (lambda d i : ℕ) → level i ≡ d → pruned w (λ k. splits w lambda (level k) k) d i ≡ planned w lambda d i
unfolding planned pruned splits
own_plan w lambda zero i e = refl
own_plan w lambda (suc d) i e =
    let below = suc_level i d e in
    let el = own_plan w lambda d (left i) (below (left i) (omega arith) (omega arith)) in
    let er = own_plan w lambda d (right i) (below (right i) (omega arith) (omega arith)) in
    rw (e, el, er)

-- the most bits and error at level d, where each leaf has at most b and e
abbrev pub most_bits_lem : ℕ → ℕ → ℕ
most_bits_lem b zero = b
most_bits_lem b (suc d) = most_bits_lem b d + most_bits_lem b d + 1

abbrev pub most_err : ℕ → ℕ → ℕ
most_err e zero = e
most_err e (suc d) = most_err e d + most_err e d

abbrev pub Under : ℕ → ℕ → Weight → Type 0
Under b e w = (w.bits ≤ b) × (w.err ≤ e)

pick_under : (t : Bool) (b e : ℕ) (s l : Weight) → Under b e s → Under b e l → Under b e (pick t s l)
pick_under true b e s l hs hl = hs
pick_under false b e s l hs hl = hl

least : (lambda : ℕ) (s l : Weight) (t : Bool) → ltb (cost lambda s) (cost lambda l) ≡ t → cost lambda s ≡ total lambda s → cost lambda l ≡ total lambda l
    → (total lambda (pick t s l) ≤ total lambda s) × (total lambda (pick t s l) ≤ total lambda l)
least lambda s l true e hs hl = omega (arith, ltb-true (cost lambda s) (cost lambda l) e)
least lambda s l false e hs hl = omega (arith, ltb-false (cost lambda s) (cost lambda l) e)

exact : (lambda b e : ℕ) (w : Weight) → Under b e w → e + lambda * b < 2 ^ 64 → cost lambda w ≡ total lambda w
exact lambda b e w u h = omega (arith, mul-le-mul_left lambda u.0)

-- the split where it is strictly cheaper, else the leaf
abbrev better : ℕ → Weight → Weight → Weight
better lambda s l = pick (ltb (cost lambda s) (cost lambda l)) s l

-- one step: of a block whose parts weigh pl and pr in the plan, ql and qr in the pruning
step : (lambda b e : ℕ) (pl pr ql qr o : Weight) → Under b e (joint_weight pl pr) → Under b e (flagged o) → e + lambda * b < 2 ^ 64
    → total lambda pl ≤ total lambda ql → total lambda pr ≤ total lambda qr
    → (t : Bool) → total lambda (better lambda (joint_weight pl pr) (flagged o)) ≤ total lambda (pick t (joint_weight ql qr) (flagged o))
step lambda b e pl pr ql qr o us uo h hl hr = elim [ true ↦ le_trans two.0 (simp mul-add (omega arith)) | false ↦ two.1 ]
  where
    two : (total lambda (better lambda (joint_weight pl pr) (flagged o)) ≤ total lambda (joint_weight pl pr))
        × (total lambda (better lambda (joint_weight pl pr) (flagged o)) ≤ total lambda (flagged o))
    two = least lambda (joint_weight pl pr) (flagged o) _ refl (exact lambda b e (joint_weight pl pr) us h) (exact lambda b e (flagged o) uo h)

under_more : (b e d : ℕ) (w : Weight) → Under b e w → Under (most_bits_lem b d) (most_err e d) w
under_more b e zero w h = h
under_more b e (suc d) w h = let k = under_more b e d w h in omega arith

-- over blocks whose parts are such blocks too, with leaves of at most b bits and an error of at most e
module _ (leaf : ℕ → Weight) (lambda b e : ℕ) (Ok : ℕ → ℕ → Type 0) (parts : (d i : ℕ) → Ok (suc d) i → Ok d (left i) × Ok d (right i))
    (small : (d i : ℕ) → Ok d i → Under b e (leaf i)) where
  pub planned_under : (d i : ℕ) → Ok d i → Under (most_bits_lem b d) (most_err e d) (planned leaf lambda d i)
  unfolding planned
  planned_under zero i a = small zero i a
  planned_under (suc d) i a =
      let p = parts d i a in
      let hl = planned_under d (left i) p.0 in
      let hr = planned_under d (right i) p.1 in
      let ho = under_more b e d (leaf i) (small (suc d) i a) in
      let s = joint_weight (planned leaf lambda d (left i)) (planned leaf lambda d (right i)) in
      pick_under (ltb (cost lambda s) (cost lambda (flagged (leaf i)))) (most_bits_lem b (suc d)) (most_err e (suc d)) s (flagged (leaf i)) (omega arith) (omega arith)

  -- No pruning over the same leaf choices costs less than the plan.
  pub optimal : (cut : ℕ → Bool) (d i : ℕ) → Ok d i → most_err e d + lambda * most_bits_lem b d < 2 ^ 64
      → total lambda (planned leaf lambda d i) ≤ total lambda (pruned leaf cut d i)
  unfolding planned pruned
  optimal cut zero i a h = omega arith
  optimal cut (suc d) i a h =
      let m = most_bits_lem b d in
      let p = parts d i a in
      let below : most_err e d + lambda * m < 2 ^ 64 = omega (arith, mul-add lambda (m + m) 1, mul-add lambda m m) in
      let hl = planned_under d (left i) p.0 in
      let hr = planned_under d (right i) p.1 in
      let ho = under_more b e d (leaf i) (small (suc d) i a) in
      step lambda (most_bits_lem b (suc d)) (most_err e (suc d)) (planned leaf lambda d (left i)) (planned leaf lambda d (right i))
      (pruned leaf cut d (left i)) (pruned leaf cut d (right i)) (leaf i) (omega arith) (omega arith) h
      (optimal cut d (left i) p.0 below) (optimal cut d (right i) p.1 below) (cut i)

-- the most that a plan of a block weighs at lambda up to 2^48, with leaves of at most 88 bits and an error of at most 2^24
pub room : (lambda d : ℕ) → lambda ≤ 2 ^ 48 → d ≤ 5 → most_err (2 ^ 24) d + lambda * most_bits_lem 88 d < 2 ^ 64
room lambda zero h f = omega arith
room lambda (suc zero) h f = omega arith
room lambda (suc (suc zero)) h f = omega arith
room lambda (suc (suc (suc zero))) h f = omega arith
room lambda (suc (suc (suc (suc zero)))) h f = omega arith
room lambda (suc (suc (suc (suc (suc zero))))) h f = omega arith
room lambda (suc (suc (suc (suc (suc (suc d)))))) h f = absurd (omega arith)
