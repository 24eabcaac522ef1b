-- Laws of the tree's blocks: a block and its two parts, their samples and distances; what a pruning shows, and its error.
-- Assumes nothing.
use Rattle.std.specs.Prelude.{◌≡◌, Bool, true, false, List, ◌++◌, length}
use Rattle.std.proofs.Math.Path.{refl}
use Rattle.std.proofs.Common.{sym, subst, add-zero, arith, eq-eqb, ne_eqb, length-append}
use Prim.Native.Nat.{ℕ, zero, suc, ◌+◌, ◌-◌, ◌*◌, ◌/◌, ◌%◌, ◌≤◌, ◌<◌}
use Rattle.std.proofs.Math.Decide.{ℕ_discrete}
use Rattle.bits.specs.Basics.{pick, Bytes}
use Rattle.book.specs.Level.{square, width, height, area}
use Rattle.leaf.specs.Leaf.{sse}
use Rattle.tree.specs.Blocks.{block_count, left, right, level, first, gather, paint, step, place_under, place, block_of, paint_at, rebuilt}
use Rattle.tree.specs.BlocksLaws.{suc_level, suc_row, level-part, level_le}
use Rattle.tree.specs.Plan.{Weight, pruned, joint_weight, flagged}
use Rattle.leaf.specs.DistanceLaws.{sse_most}
use Rattle.tree.specs.RowsLaws.{weave, RowsInside, sse-append, sse-weave, gather_add, gather-weave, length_gather, length_weave, gather-whole, paint_add, paint-weave, bytes_gather, bytes_both, bytes_weave}

-- the samples of a block from those of its two parts of level d
abbrev pub join : ℕ → List ℕ → List ℕ → List ℕ
join d l r = pick (square (suc d)) (l ++ r) (weave (height d) (width d) l r)

-- block i lies in a plane of n samples
abbrev pub In : ℕ → ℕ → ℕ → ℕ → Type 0
In s d i n = RowsInside s (height d) (width d) (place s i) n

-- what a pruning shows at block i of level d: a leaf's samples, or its two parts together
unfoldable pub pruned_shown : (ℕ → Bool) → (ℕ → List ℕ) → ℕ → ℕ → List ℕ
pruned_shown cut show zero i = show i
pruned_shown cut show (suc d) i = pick (cut i) (join d (pruned_shown cut show d (left i)) (pruned_shown cut show d (right i))) (show i)

-- ---- places
pub place-left : (s d i : ℕ) → level i ≡ suc d → suc d ≤ 5 → place s (left i) ≡ place s i
unfolding place place_under
place-left s d i e h =
    let l : level (left i) ≡ d = suc_level i d e (left i) (omega arith) (omega arith) in
    let n : 5 - d ≡ suc (5 - suc d) = omega arith in
    let up : (2 * i + 1 - 1) / 2 ≡ i = omega arith in
    rw (l, e, n, place_under, up, ne_eqb ((2 * i + 1) % 2) 0 (omega arith)) (add-zero _)

pub place-right : (s d i : ℕ) → level i ≡ suc d → suc d ≤ 5 → place s (right i) ≡ place s i + step s d
unfolding place place_under
place-right s d i e h =
    let l : level (right i) ≡ d = suc_level i d e (right i) (omega arith) (omega arith) in
    let n : 5 - d ≡ suc (5 - suc d) = omega arith in
    let up : (2 * i + 2 - 1) / 2 ≡ i = omega arith in
    let k : 4 - (5 - suc d) ≡ d = omega arith in
    rw (l, e, n, place_under, up, eq-eqb ((2 * i + 2) % 2) 0 (omega arith), k)

-- ---- a block and its two parts, of h rows of w samples: one above the other (q true), or side by side
module _ (s h w at : ℕ) where
  inside_parts : (q : Bool) (n : ℕ) → RowsInside s (pick q (h + h) h) (pick q w (w + w)) at n
      → RowsInside s h w at n × RowsInside s h w (at + pick q (s * h) w) n
  inside_parts true n i = (
    record { row = λ k l. i.row k (omega arith) },
    record { row = λ k l. omega (arith, i.row (h + k) (omega arith)) },
  )
  inside_parts false n i = (
    record { row = λ k l. omega (arith, i.row k l) },
    record { row = λ k l. omega (arith, i.row k l) },
  )

  gather_parts : (q : Bool) (m : List ℕ) → RowsInside s (pick q (h + h) h) (pick q w (w + w)) at (length m)
      → gather s (pick q (h + h) h) (pick q w (w + w)) at m
      ≡ pick q (gather s h w at m ++ gather s h w (at + pick q (s * h) w) m) (weave h w (gather s h w at m) (gather s h w (at + pick q (s * h) w) m))
  gather_parts true m i = gather_add s h h w at m
  gather_parts false m i = gather-weave s h w at m i

  paint_parts : (q : Bool) (l r m : List ℕ) → pick q w (w + w) ≤ s → length l ≡ h * w → length r ≡ h * w
      → paint s (pick q (h + h) h) (pick q w (w + w)) at (pick q (l ++ r) (weave h w l r)) m
      ≡ paint s h w (at + pick q (s * h) w) r (paint s h w at l m)
  paint_parts true l r m f a b = paint_add s h h w at l r m a
  paint_parts false l r m f a b = paint-weave s h w at l r m f a b

sse_parts : (q : Bool) (h w : ℕ) (l r l' r' : List ℕ) → length l ≡ h * w → length r ≡ h * w → length l' ≡ h * w → length r' ≡ h * w
    → sse (pick q (l ++ r) (weave h w l r)) (pick q (l' ++ r') (weave h w l' r')) ≡ sse l l' + sse r r'
sse_parts true h w l r l' r' a b c d = sse-append l l' r r' (omega arith)
sse_parts false h w l r l' r' a b c d = sse-weave h w l r l' r' a b c d

length_parts : (q : Bool) (h w : ℕ) (l r : List ℕ) → length l ≡ h * w → length r ≡ h * w
    → length (pick q (l ++ r) (weave h w l r)) ≡ pick q (h + h) h * pick q w (w + w)
length_parts true h w l r a b = simp length-append (omega arith)
length_parts false h w l r a b = length_weave h w l r a b

width_up : (q : Bool) (w s : ℕ) → pick q w (w + w) ≤ s → w ≤ s
width_up true w s h = h
width_up false w s h = omega arith

-- ---- the same by number
module _ (s d i : ℕ) (e : level i ≡ suc d) (f : suc d ≤ 5) where
  pub in_parts : (n : ℕ) → In s (suc d) i n → In s d (left i) n × In s d (right i) n
  in_parts n h = rw (place-left s d i e f, place-right s d i e f) (inside_parts s (height d) (width d) (place s i) (square (suc d)) n h)

  pub block_parts : (m : List ℕ) → In s (suc d) i (length m)
      → block_of s (suc d) i m ≡ join d (block_of s d (left i) m) (block_of s d (right i) m)
  unfolding block_of
  block_parts m h = rw (place-left s d i e f, place-right s d i e f) (gather_parts s (height d) (width d) (place s i) (square (suc d)) m h)

  pub paint_at_parts : (l r m : List ℕ) → width (suc d) ≤ s → length l ≡ area d → length r ≡ area d
      → paint_at s (suc d) i (join d l r) m ≡ paint_at s d (right i) r (paint_at s d (left i) l m)
  unfolding paint_at
  paint_at_parts l r m h a b =
      rw (place-left s d i e f, place-right s d i e f) (paint_parts s (height d) (width d) (place s i) (square (suc d)) l r m h a b)

pub length_block : (s d i : ℕ) (m : List ℕ) → In s d i (length m) → length (block_of s d i m) ≡ area d
unfolding block_of
length_block s d i m h = length_gather s (height d) (width d) (place s i) m h

-- THE LAW OF PARTS: the squared distance over a block is the sum of those over its two parts
pub distance_parts : (s d i : ℕ) (a b : List ℕ) → level i ≡ suc d → suc d ≤ 5 → length a ≡ length b → In s (suc d) i (length a)
    → sse (block_of s (suc d) i a) (block_of s (suc d) i b)
    ≡ sse (block_of s d (left i) a) (block_of s d (left i) b) + sse (block_of s d (right i) a) (block_of s d (right i) b)
distance_parts s d i a b e f same h =
    let hb = rw same at h in
    let pa = in_parts s d i e f (length a) h in
    let pb = in_parts s d i e f (length b) hb in
    rw (block_parts s d i e f a h, block_parts s d i e f b hb)
    (sse_parts (square (suc d)) (height d) (width d) (block_of s d (left i) a) (block_of s d (right i) a) (block_of s d (left i) b) (block_of s d (right i) b)
    (length_block s d (left i) a pa.0) (length_block s d (right i) a pa.1) (length_block s d (left i) b pb.0) (length_block s d (right i) b pb.1))

-- ---- what a pruning shows
pick-length : (c : Bool) (x y : List ℕ) (n : ℕ) → length x ≡ n → length y ≡ n → length (pick c x y) ≡ n
pick-length true x y n a b = a
pick-length false x y n a b = b

-- what shows bytes at every block shows bytes
bytes_pick : (q : Bool) (x y : List ℕ) → Bytes x → Bytes y → Bytes (pick q x y)
bytes_pick true x y a b = a
bytes_pick false x y a b = b

pub bytes_shown : (cut : ℕ → Bool) (show : ℕ → List ℕ) → ((i : ℕ) → Bytes (show i)) → (d i : ℕ) → Bytes (pruned_shown cut show d i)
unfolding pruned_shown
bytes_shown cut show b zero i = b i
bytes_shown cut show b (suc d) i =
    let l = pruned_shown cut show d (left i) in
    let r = pruned_shown cut show d (right i) in
    let bl = bytes_shown cut show b d (left i) in
    let br = bytes_shown cut show b d (right i) in
    bytes_pick (cut i) (join d l r) (show i)
    (bytes_pick (square (suc d)) (l ++ r) (weave (height d) (width d) l r) (bytes_both l r bl br) (bytes_weave (height d) (width d) l r bl br)) (b i)

-- in a plane of n samples and stride s, where of every block that lies in it as many samples are shown as it has
module _ (s n : ℕ) (cut : ℕ → Bool) (show : ℕ → List ℕ) (len : (i : ℕ) → i < block_count → In s (level i) i n → length (show i) ≡ area (level i)) where
  pub length_shown : (d i : ℕ) → d ≤ 5 → level i ≡ d → i < block_count → In s d i n → length (pruned_shown cut show d i) ≡ area d
  unfolding pruned_shown
  length_shown zero i f e h o = rw e at (len i h (rw e o))
  length_shown (suc d) i f e h o =
      let k : i < 31 = suc_row i d e in
      let below = suc_level i d e in
      let p = in_parts s d i e f n o in
      let l = pruned_shown cut show d (left i) in
      let r = pruned_shown cut show d (right i) in
      let hl = length_shown d (left i) (omega arith) (below (left i) (omega arith) (omega arith)) (omega arith) p.0 in
      let hr = length_shown d (right i) (omega arith) (below (right i) (omega arith) (omega arith)) (omega arith) p.1 in
      pick-length (cut i) (join d l r) (show i) (area (suc d)) (length_parts (square (suc d)) (height d) (width d) l r hl hr) (rw e at (len i h (rw e o)))

  -- one block: its error is its distance, where that holds of its two parts and of it as a leaf
  error_step : (d : ℕ) (t o l r tl tr : List ℕ) (pl pr pw : Weight) (c : Bool)
      → length l ≡ area d → length r ≡ area d → length tl ≡ area d → length tr ≡ area d → t ≡ join d tl tr
      → pl.err ≡ sse tl l → pr.err ≡ sse tr r → pw.err ≡ sse t o
      → (pick c (joint_weight pl pr) (flagged pw)).err ≡ sse t (pick c (join d l r) o)
  error_step d t o l r tl tr pl pr pw true a b c e h x y z =
      rw h (omega (arith, sse_parts (square (suc d)) (height d) (width d) tl tr l r c e a b))
  error_step d t o l r tl tr pl pr pw false a b c e h x y z = z

  -- the error of a pruning: the sum of its leaves' errors is the squared distance of what it shows
  module _ (t : List ℕ) (long : length t ≡ n) (w : ℕ → Weight)
      (err : (i : ℕ) → i < block_count → (w i).err ≡ sse (block_of s (level i) i t) (show i)) where
    pub error_is : (d i : ℕ) → d ≤ 5 → level i ≡ d → i < block_count → In s d i n → (pruned w cut d i).err ≡ sse (block_of s d i t) (pruned_shown cut show d i)
    unfolding pruned pruned_shown
    error_is zero i f e h o = rw e at (err i h)
    error_is (suc d) i f e h o =
        let k : i < 31 = suc_row i d e in
        let below = suc_level i d e in
        let p = in_parts s d i e f n o in
        let el = below (left i) (omega arith) (omega arith) in
        let er = below (right i) (omega arith) (omega arith) in
        let whole = rw (← long) at o in
        let pt = rw (← long) at p in
        error_step d (block_of s (suc d) i t) (show i) (pruned_shown cut show d (left i)) (pruned_shown cut show d (right i)) (block_of s d (left i) t) (block_of s d (right i) t)
        (pruned w cut d (left i)) (pruned w cut d (right i)) (w i) (cut i)
        (length_shown d (left i) (omega arith) el (omega arith) p.0) (length_shown d (right i) (omega arith) er (omega arith) p.1)
        (length_block s d (left i) t pt.0) (length_block s d (right i) t pt.1) (block_parts s d i e f t whole)
        (error_is d (left i) (omega arith) el (omega arith) p.0) (error_is d (right i) (omega arith) er (omega arith) p.1) (rw e at (err i h))

  rebuilt-step : (d i : ℕ) → level i ≡ suc d → suc d ≤ 5 → width (suc d) ≤ s → (c : Bool) (l r o m : List ℕ) → length l ≡ area d → length r ≡ area d
      → pick c (paint_at s d (right i) r (paint_at s d (left i) l m)) (paint_at s (suc d) i o m) ≡ paint_at s (suc d) i (pick c (join d l r) o) m
  rebuilt-step d i e f h true l r o m a b = sym (paint_at_parts s d i e f l r m h a b)
  rebuilt-step d i e f h false l r o m a b = refl

  -- the reconstruction: leaf by leaf is the whole block at its place, and nothing else
  pub rebuilt_is : (d i : ℕ) (m : List ℕ) → d ≤ 5 → level i ≡ d → i < block_count → width d ≤ s → In s d i n
      → rebuilt s cut show d i m ≡ paint_at s d i (pruned_shown cut show d i) m
  unfolding rebuilt pruned_shown
  rebuilt_is zero i m f e h v o = refl
  rebuilt_is (suc d) i m f e h v o =
      let k : i < 31 = suc_row i d e in
      let below = suc_level i d e in
      let p = in_parts s d i e f n o in
      let el = below (left i) (omega arith) (omega arith) in
      let er = below (right i) (omega arith) (omega arith) in
      let u = width_up (square (suc d)) (width d) s v in
      rw (rebuilt_is d (left i) m (omega arith) el (omega arith) u p.0, rebuilt_is d (right i) (paint_at s d (left i) (pruned_shown cut show d (left i)) m) (omega arith) er (omega arith) u p.1)
      (rebuilt-step d i e f v (cut i) (pruned_shown cut show d (left i)) (pruned_shown cut show d (right i)) (show i) m
      (length_shown d (left i) (omega arith) el (omega arith) p.0) (length_shown d (right i) (omega arith) er (omega arith) p.1))

pub in_whole : In 16 5 0 256
unfolding place place_under
in_whole = record { row = λ k h. omega arith }

pub block_whole : (m : List ℕ) → length m ≡ 256 → block_of 16 5 0 m ≡ m
unfolding block_of place place_under
block_whole m h = gather-whole 16 16 0 m (omega arith)

pub area_most : (d : ℕ) → d ≤ 5 → area d ≤ 256
area_most zero h = omega arith
area_most (suc zero) h = omega arith
area_most (suc (suc zero)) h = omega arith
area_most (suc (suc (suc zero))) h = omega arith
area_most (suc (suc (suc (suc zero)))) h = omega arith
area_most (suc (suc (suc (suc (suc zero))))) h = omega arith
area_most (suc (suc (suc (suc (suc (suc d)))))) h = absurd (omega arith)

-- an error of bytes is below 2^24
pub error_most : (s d i : ℕ) (t xs : List ℕ) → d ≤ 5 → Bytes t → Bytes xs → length xs ≡ area d → sse (block_of s d i t) xs ≤ 16646400
unfolding block_of
error_most s d i t xs h bt bx e =
    omega (arith, sse_most (gather s (height d) (width d) (place s i) t) xs (bytes_gather s (height d) (width d) (place s i) t bt) bx, area_most d h)

-- ---- a block by itself: the first of its level, at the front of a plane of its own width
pub at_first : (d : ℕ) → d ≤ 5 → (level (first d) ≡ d) × (first d < block_count)
at_first zero h = (refl, omega arith)
at_first (suc zero) h = (refl, omega arith)
at_first (suc (suc zero)) h = (refl, omega arith)
at_first (suc (suc (suc zero))) h = (refl, omega arith)
at_first (suc (suc (suc (suc zero)))) h = (refl, omega arith)
at_first (suc (suc (suc (suc (suc zero))))) h = (refl, omega arith)
at_first (suc (suc (suc (suc (suc (suc d)))))) h = absurd (omega arith)

pub first-place : (s d : ℕ) → d ≤ 5 → place s (first d) ≡ 0
unfolding place place_under
first-place s zero h = refl
first-place s (suc zero) h = refl
first-place s (suc (suc zero)) h = refl
first-place s (suc (suc (suc zero))) h = refl
first-place s (suc (suc (suc (suc zero)))) h = refl
first-place s (suc (suc (suc (suc (suc zero))))) h = refl
first-place s (suc (suc (suc (suc (suc (suc d)))))) h = absurd (omega arith)

inside_first : (d : ℕ) → d ≤ 5 → RowsInside (width d) (height d) (width d) 0 (area d)
inside_first zero h = record { row = λ k l. omega arith }
inside_first (suc zero) h = record { row = λ k l. omega arith }
inside_first (suc (suc zero)) h = record { row = λ k l. omega arith }
inside_first (suc (suc (suc zero))) h = record { row = λ k l. omega arith }
inside_first (suc (suc (suc (suc zero)))) h = record { row = λ k l. omega arith }
inside_first (suc (suc (suc (suc (suc zero))))) h = record { row = λ k l. omega arith }
inside_first (suc (suc (suc (suc (suc (suc d)))))) h = absurd (omega arith)

pub in_first : (d : ℕ) → d ≤ 5 → In (width d) d (first d) (area d)
in_first d h = rw (first-place (width d) d h) (inside_first d h)

pub first-whole : (d : ℕ) (m : List ℕ) → d ≤ 5 → length m ≡ area d → block_of (width d) d (first d) m ≡ m
unfolding block_of
first-whole d m h e = rw (first-place (width d) d h) (gather-whole (width d) (height d) 0 m (omega arith))

level_up : (i : ℕ) → 1 ≤ i → i < block_count → level i ≤ 4
level_up zero l h = absurd (omega arith)
level_up (suc j) l h = omega (arith, level-part (j / 2) (suc j) (omega arith) (omega arith) (omega arith), level_le (j / 2))

-- each of the 63 blocks lies in the macroblock
pub in_all : (n i : ℕ) → level i + n ≡ 5 → i < block_count → In 16 (level i) i 256
in_all zero zero e h = in_whole
in_all zero (suc j) e h = absurd (omega (arith, level_up (suc j) (omega arith) h))
in_all (suc n) zero e h = absurd (omega arith)
in_all (suc n) (suc j) e h =
    let k = j / 2 in
    let up : level k ≡ suc (level (suc j)) = level-part k (suc j) (omega arith) (omega arith) (omega arith) in
    let p = in_parts 16 (level (suc j)) k up (omega (arith, level_le k)) 256 (rw up at (in_all n k (omega arith) (omega arith))) in
    elim (ℕ_discrete (suc j) (left k)) [
      | yes q ↦ subst (λ (m : ℕ). In 16 (level (suc j)) m 256) (sym q) p.0
      | no q ↦ subst (λ (m : ℕ). In 16 (level (suc j)) m 256) (let r : right k ≡ suc j = omega arith in r) p.1
    ]
