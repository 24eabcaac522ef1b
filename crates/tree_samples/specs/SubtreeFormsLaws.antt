-- Laws of the blocks of a plan that is made for a block of level d alone.
-- Assumes nothing.
use Rattle.std.specs.Prelude.{◌≡◌, refl, List, Bool, true, false, not, ◌&&◌, ◌||◌, ℕ, zero, suc, ◌+◌, ◌-◌, ◌*◌, ◌≤◌, ◌<◌, leb}
use Rattle.std.proofs.Common.{sym, true≢false, arith, mul-le-mul_left, leb-true}
use Rattle.bits.specs.BasicsLaws.{both_true, below, below_at}
use Rattle.book.specs.Level.{width, height, area}
use Rattle.tree.specs.Blocks.{block_count, left, right, level, first, place_under, place, gather, block_of}
use Rattle.tree.specs.BlocksLaws.{level_le}
use Rattle.tree.specs.RowsLaws.{RowsInside}
use Rattle.tree_samples.specs.RowForms.{Rows}
use Rattle.tree_samples.specs.SubtreeForms.{in_tree, BlockPlaced}
use Rattle.tree.specs.GeometryLaws.{In, area_most}

implies : (a b : Bool) → not a || b ≡ true → a ≡ true → b ≡ true
implies true b e h = e
implies false b e h = absurd (true≢false (sym h))

-- ---- it lies in a plane of that block's size: one computed test over all levels and blocks
last_row : ℕ → ℕ → Bool
last_row d i = leb (place (width d) i + width d * (height (level i) - 1) + width (level i)) (area d)

lies : ℕ → Bool
lies d = below (λ i. not (in_tree d i) || last_row d i) block_count

all_lie : below lies 6 ≡ true
unfolding below lies in_tree last_row place place_under
all_lie = refl

height_some : (d : ℕ) → d ≤ 5 → 1 ≤ height d
height_some zero h = omega arith
height_some (suc zero) h = omega arith
height_some (suc (suc zero)) h = omega arith
height_some (suc (suc (suc zero))) h = omega arith
height_some (suc (suc (suc (suc zero)))) h = omega arith
height_some (suc (suc (suc (suc (suc zero))))) h = omega arith
height_some (suc (suc (suc (suc (suc (suc d)))))) h = absurd (omega arith)

pub in_plane : (d i : ℕ) → d ≤ 5 → i < block_count → in_tree d i ≡ true → In (width d) (level i) i (area d)
unfolding lies last_row
in_plane d i f h t =
    let e = implies (in_tree d i) (last_row d i) (below_at (λ k. not (in_tree d k) || last_row d k) block_count i (below_at lies 6 d all_lie (omega arith)) h) t in
    let l = leb-true (place (width d) i + width d * (height (level i) - 1) + width (level i)) (area d) e in
    record { row = λ k r. omega (arith, mul-le-mul_left {m = k} {n = height (level i) - 1} (width d) (omega arith)) }

-- ---- so do its parts, and the root is one of them
parts_in : ℕ → ℕ → Bool
parts_in d i = not (in_tree d i) || (in_tree d (left i) && in_tree d (right i))

parted : ℕ → Bool
parted d = below (parts_in d) 31

all_parted : below parted 6 ≡ true
unfolding below parted parts_in in_tree
all_parted = refl

pub tree_parts : (d i : ℕ) → d ≤ 5 → i < 31 → in_tree d i ≡ true → (in_tree d (left i) ≡ true) × (in_tree d (right i) ≡ true)
unfolding parted parts_in
tree_parts d i f h t =
    both_true (in_tree d (left i)) (in_tree d (right i))
    (implies (in_tree d i) (in_tree d (left i) && in_tree d (right i)) (below_at (parts_in d) 31 i (below_at parted 6 d all_parted (omega arith)) h) t)

rooted : ℕ → Bool
rooted d = in_tree d (first d)

all_rooted : below rooted 6 ≡ true
unfolding below rooted in_tree
all_rooted = refl

pub tree-root : (d : ℕ) → d ≤ 5 → in_tree d (first d) ≡ true
unfolding rooted
tree-root d f = below_at rooted 6 d all_rooted (omega arith)

-- the blocks of a level are numbered from its first
all_behind : below (λ i. leb (first (level i)) i) block_count ≡ true
unfolding below
all_behind = refl

pub behind : (i : ℕ) → i < block_count → first (level i) ≤ i
behind i h = leb-true (first (level i)) i (below_at (λ k. leb (first (level k)) k) block_count i all_behind h)

-- ---- its rows, by the numbers that were computed of it
wide : (d : ℕ) → d ≤ 5 → (width d ≤ 16) × (height d ≤ 16)
wide zero h = omega arith
wide (suc zero) h = omega arith
wide (suc (suc zero)) h = omega arith
wide (suc (suc (suc zero))) h = omega arith
wide (suc (suc (suc (suc zero)))) h = omega arith
wide (suc (suc (suc (suc (suc zero))))) h = omega arith
wide (suc (suc (suc (suc (suc (suc d)))))) h = absurd (omega arith)

pub width_most : (d : ℕ) → d ≤ 5 → width d ≤ 16
width_most d h = (wide d h).0

module _ (d i : ℕ) {s h w at : ℕ} where
  pub block_rows : (n m : ℕ) → BlockPlaced d i n m → s ≡ width d → h ≡ height (level i) → w ≡ width (level i) → at ≡ place s i → Rows s h w at n m
  block_rows n m b es eh ew ea =
      let u = wide d b.five in
      let v = wide (level i) (level_le i) in
      let e : height (level i) ≤ 16 = v.1 in
      let a : area d ≤ 256 = area_most d b.five in
      let o : area (level i) ≤ 256 = area_most (level i) (level_le i) in
      let q : RowsInside (width d) (height (level i)) (width (level i)) (place (width d) i) n = rw b.plane (in_plane d i b.five b.block b.under) in
      rw (ea, es, eh, ew) (record {
        inside = q;
        run = b.room;
        small = omega (arith, b.plane);
        begins = omega (arith, b.plane, q.row 0 (height_some (level i) (level_le i)));
        apart = omega arith;
        wide = omega arith;
        long = omega (arith, b.room);
      })

  pub block_is : (m : List ℕ) → s ≡ width d → h ≡ height (level i) → w ≡ width (level i) → at ≡ place s i → gather s h w at m ≡ block_of (width d) (level i) i m
  unfolding block_of
  block_is m es eh ew ea = rw (ea, es, eh, ew)
