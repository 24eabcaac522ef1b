-- Laws of block numbers: the level of a block and of its parts.
-- Assumes nothing.
use Rattle.std.specs.Prelude.{◌≡◌, Bool, true, false, ltb, ℕ, zero, suc, ◌≤◌, ◌<◌}
use Rattle.std.proofs.Common.{sym, ap, ◌∙◌, arith, lt-ltb, le-ltb}
use Rattle.std.proofs.Math.Decide.{dec_lt}
use Rattle.bits.specs.Basics.{pick}
use Rattle.tree.specs.Blocks.{block_count, left, right, level}

-- the six levels of the tree, by block number
pub level_5 : (i : ℕ) → i < 1 → level i ≡ 5
level_5 i h = rw (lt-ltb i 1 h)

pub level_4 : (i : ℕ) → 1 ≤ i → i < 3 → level i ≡ 4
level_4 i l h = rw (le-ltb i 1 l, lt-ltb i 3 h)

pub level_3 : (i : ℕ) → 3 ≤ i → i < 7 → level i ≡ 3
level_3 i l h = rw (le-ltb i 1 (omega arith), le-ltb i 3 l, lt-ltb i 7 h)

pub level_2 : (i : ℕ) → 7 ≤ i → i < 15 → level i ≡ 2
level_2 i l h = rw (le-ltb i 1 (omega arith), le-ltb i 3 (omega arith), le-ltb i 7 l, lt-ltb i 15 h)

pub level_1 : (i : ℕ) → 15 ≤ i → i < 31 → level i ≡ 1
level_1 i l h = rw (le-ltb i 1 (omega arith), le-ltb i 3 (omega arith), le-ltb i 7 (omega arith), le-ltb i 15 l, lt-ltb i 31 h)

pub level_0 : (i : ℕ) → 31 ≤ i → level i ≡ 0
level_0 i l = rw (le-ltb i 1 (omega arith), le-ltb i 3 (omega arith), le-ltb i 7 (omega arith), le-ltb i 15 (omega arith), le-ltb i 31 l)

-- k is a part of block i: one level below it
pub level-part : (i k : ℕ) → i < 31 → left i ≤ k → k ≤ right i → level i ≡ suc (level k)
level-part i k h l r = go (dec_lt i 1) (dec_lt i 3) (dec_lt i 7) (dec_lt i 15)
  where
    go : Dec (i < 1) → Dec (i < 3) → Dec (i < 7) → Dec (i < 15) → level i ≡ suc (level k)
    go (yes a) b c d = level_5 i a ∙ ap suc (sym (level_4 k (omega arith) (omega arith)))
    go (no a) (yes b) c d = level_4 i (omega arith) b ∙ ap suc (sym (level_3 k (omega arith) (omega arith)))
    go (no a) (no b) (yes c) d = level_3 i (omega arith) c ∙ ap suc (sym (level_2 k (omega arith) (omega arith)))
    go (no a) (no b) (no c) (yes d) = level_2 i (omega arith) d ∙ ap suc (sym (level_1 k (omega arith) (omega arith)))
    go (no a) (no b) (no c) (no d) = level_1 i (omega arith) h ∙ ap suc (sym (level_0 k (omega arith)))

pub zero_row : (i : ℕ) → level i ≡ zero → 31 ≤ i
zero_row i e = elim (dec_lt i 31) [ yes a ↦ absurd (omega (arith, e, level-part i (left i) a (omega arith) (omega arith))) | no a ↦ omega arith ]

pub suc_row : (i d : ℕ) → level i ≡ suc d → i < 31
suc_row i d e = elim (dec_lt i 31) [ yes a ↦ a | no a ↦ absurd (omega (arith, e, level_0 i (omega arith))) ]

pub suc_level : (i d : ℕ) → level i ≡ suc d → (k : ℕ) → left i ≤ k → k ≤ right i → level k ≡ d
suc_level i d e k a b = omega (arith, e, level-part i k (suc_row i d e) a b)

pub level_le : (i : ℕ) → level i ≤ 5
level_le i = five (ltb i 1) (ltb i 3) (ltb i 7) (ltb i 15) (ltb i 31)
  where
    five : (a b c d e : Bool) → pick a 5 (pick b 4 (pick c 3 (pick d 2 (pick e 1 0)))) ≤ 5
    five true b c d e = omega arith
    five false true c d e = omega arith
    five false false true d e = omega arith
    five false false false true e = omega arith
    five false false false false true = omega arith
    five false false false false false = omega arith

-- block i of the tree is of level d; its parts are of the level below
abbrev pub At : ℕ → ℕ → Type 0
At d i = (level i ≡ d) × (i < block_count)

pub at_parts : (d i : ℕ) → At (suc d) i → At d (left i) × At d (right i)
at_parts d i a =
    let k : i < 31 = suc_row i d a.0 in
    ((suc_level i d a.0 (left i) (omega arith) (omega arith), omega arith), (suc_level i d a.0 (right i) (omega arith) (omega arith), omega arith))
