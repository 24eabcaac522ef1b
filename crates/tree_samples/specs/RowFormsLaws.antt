-- Rows moved one after the other, on plain lists and numbers; painting and gathering are two ways to move them.
-- Assumes nothing.
use Rattle.std.specs.Prelude.{◌≡◌, refl, List, ℕ, zero, suc, ◌+◌, ◌-◌, ◌*◌, ◌≤◌, ◌<◌, length, take, drop}
use Rattle.std.proofs.Common.{sym, ap, ◌∙◌, mul_comm, mul-le-mul_left, arith, length-drop, length-take-le, drop-drop}
use Rattle.std.proofs.lemmas.List.Edits.{sets}
use Rattle.std.proofs.Math.Seq.{length-sets}
use Rattle.bits.specs.FillLaws.{sets_append, sets_all, run_of, run}
use Rattle.tree.specs.Blocks.{gather, paint}
use Rattle.tree.specs.RowsLaws.{RowsInside, inside_down, length_gather}
use Rattle.tree_samples.specs.RowForms.{Rows, Moves, moved}

-- ---- one row
pub move_room : (a b h w q p n k : ℕ) → Moves a b h w q p n k → 0 < h → (q + w ≤ n) × (p + w ≤ k)
move_room a b h w q p n k r l = (omega (arith, r.to.row 0 l), omega (arith, r.from.row 0 l))

pub move_turn : (a b h w q p : ℕ) (m out new : List ℕ) → 0 < h → Moves a b h w q p (length out) (length m) → new ≡ sets out q (run_of m p w)
    → Moves a b (h - 1) w (q + a) (p + b) (length new) (length m) × (length new ≡ length out)
    × (moved a b (h - 1) w (q + a) (p + b) m new ≡ moved a b h w q p m out)
unfolding moved
move_turn a b zero w q p m out new l r e = absurd (omega arith)
move_turn a b (suc k) w q p m out new l r e =
    let z : suc k - 1 ≡ k = omega arith in
    let n : length new ≡ length out = ap length e ∙ length-sets out q (run_of m p w) in
    rw z (
      record { to = rw n (inside_down a k w q (length out) r.to); from = inside_down b k w p (length m) r.from; stride = r.stride; step = r.step },
      n,
      ap (moved a b k w (q + a) (p + b) m) (e ∙ ap (sets out q) (run m p w)),
    )

pub move_end : (a b h w q p : ℕ) (m out whole : List ℕ) → h ≤ 0 → moved a b h w q p m out ≡ whole → out ≡ whole
unfolding moved
move_end a b h w q p m out whole l e = let z : h ≡ 0 = omega arith in rw z at e

-- ---- painting moves from a run to a plane, gathering from a plane to a run
packed : (h w n : ℕ) → n ≡ h * w → RowsInside w h w 0 n
packed h w n e = record { row = λ k l. omega (arith, mul-le-mul_left {m = suc k} {n = h} w l, mul_comm w h) }

module _ (s h w at n k : ℕ) (r : Rows s h w at n k) where
  pub paint_moves : Moves s w h w at 0 n k
  paint_moves = record { to = r.inside; from = packed h w k r.run; stride = r.apart; step = r.wide }

  pub gather_moves : Moves w s h w 0 at k n
  gather_moves = record { to = packed h w k r.run; from = r.inside; stride = r.wide; step = r.apart }

pub moved-paint : (s h w at p : ℕ) (xs out : List ℕ) → moved s w h w at p xs out ≡ paint s h w at (drop p xs) out
unfolding moved paint
moved-paint s zero w at p xs out = refl
moved-paint s (suc h) w at p xs out = rw (drop-drop w p xs) (moved-paint s h w (at + s) (p + w) xs (sets out at (take w (drop p xs))))

moved-run : (s h w at q : ℕ) (m out : List ℕ) → RowsInside s h w at (length m) → moved w s h w q at m out ≡ sets out q (gather s h w at m)
unfolding moved gather
moved-run s zero w at q m out i = refl
moved-run s (suc h) w at q m out i =
    let r : at + w ≤ length m = omega (arith, i.row 0 (omega arith)) in
    let e : length (take w (drop at m)) ≡ w = length-take-le w (drop at m) (simp length-drop (omega arith)) in
    rw (sets_append out q (take w (drop at m)) (gather s h w (at + s) m), e)
    (moved-run s h w (at + s) (q + w) m (sets out q (take w (drop at m))) (inside_down s h w at (length m) i))

pub moved-gather : (s h w at : ℕ) (m out : List ℕ) → Rows s h w at (length m) (length out) → moved w s h w 0 at m out ≡ gather s h w at m
moved-gather s h w at m out r =
    moved-run s h w at 0 m out r.inside ∙ sets_all out (gather s h w at m) (r.run ∙ sym (length_gather s h w at m r.inside))
