-- Laws of the reconstruction: a leaf painted at its block, and the recursion's turns.
-- Assumes nothing.
use Rattle.std.specs.Prelude.{◌≡◌, true, false, List, [], ◌⊎◌, length, take, drop, get_or}
use Rattle.std.proofs.Math.Path.{refl, sym, ap}
use Rattle.std.proofs.Common.{ap₂, ◌∙◌, mul-le-mul_left, lt-ltb, le-ltb, length-take, get_or-take, length-take-le}
use Prim.Native.Nat.{ℕ, zero, suc, ◌+◌, ◌-◌, ◌*◌, ◌≤◌, ◌<◌, min}
use native.Mathlib.Omega.{arith}
use Rattle.std.proofs.Math.Decide.{dec_lt}
use Rattle.std.proofs.Math.Logic.{⊎_elim}
use Rattle.std.proofs.Math.Seq.{take-nil, drop-nil}
use Rattle.book.specs.Book.{codebook_bytes}
use Rattle.book.specs.Level.{width, height, area}
use Rattle.book.specs.declared.svq1_vlc.Svq1Half.{Svq1Half}
use Rattle.leaf.specs.AgreeLaws.{page_room}
use Rattle.codebook.specs.CodebookForms.{page_start}
use Rattle.leaf.specs.Leaf.{Leaf, leaf_shown, cap_at}
use Rattle.leaf.specs.LeafForms.{vectors_in, leaf_of}
use Rattle.leaf_samples.specs.ShowNeeds.{CodeShows}
use Rattle.leaf.specs.declared.svq1_enc_leaf.LeafCode.{LeafCode}
use Rattle.leaf.specs.declared.svq1_enc_leaf.LeafCode.TheVariants as code
use Rattle.tree.specs.Blocks.{left, right, level, place, gather, paint, block_of, paint_at, rebuilt}
use Rattle.tree.specs.BlocksLaws.{level_le, at_parts}
use Rattle.tree.specs.GeometryLaws.{In, in_parts, area_most, length_block}
use Rattle.tree.specs.Plan.{shown_at}
use Rattle.tree_samples.specs.RowForms.{Rows}
use Rattle.tree.specs.TreeBits.{Node, Off, Split, Ends, is_split}
use Rattle.tree.specs.WalkNeeds.{Sound}
use Rattle.tree_samples.specs.RebuildNeeds.{leaf_as, node_at, rebuilt_by, Lies, Drawing, DrawingNode, Rebuilding}

-- ---- a leaf at its block
pub cut-length : (l : List ℕ) (n : ℕ) → n ≤ length l → length (take (n - 0) (drop 0 l)) ≡ n
cut-length l n h = let e : n - 0 ≡ n = omega arith in rw e (length-take-le n l h)

tall : (d : ℕ) → d ≤ 5 → (0 < height d) × (width d ≤ 16)
tall zero h = omega arith
tall (suc zero) h = omega arith
tall (suc (suc zero)) h = omega arith
tall (suc (suc (suc zero))) h = omega arith
tall (suc (suc (suc (suc zero)))) h = omega arith
tall (suc (suc (suc (suc (suc zero))))) h = omega arith
tall (suc (suc (suc (suc (suc (suc d)))))) h = absurd (omega arith)

pub five : (s d i p n : ℕ) → Lies s d i p n → d ≤ 5
five s d i p n l = omega (arith, l.deep, level_le i)

-- the block's rows in a plane of n samples, for a run of as many samples
rows : (s d i n xs : ℕ) → level i ≡ d → s ≤ 4096 → In s d i n → n ≤ 4096 → xs ≡ area d → Rows s (height d) (width d) (place s i) n xs
rows s d i n xs e st inside small run =
    let f : d ≤ 5 = omega (arith, e, level_le i) in
    let t = tall d f in
    let r = inside.row 0 t.0 in
    record {
      inside = inside;
      run = run;
      small = small;
      begins = omega arith;
      apart = st;
      wide = omega (arith, t.1);
      long = omega (arith, area_most d f);
    }

module _ (s d i p n at w h : ℕ) (l : Lies s d i p n) (is-place : at ≡ place s i) (is-width : w ≡ width d) (is-height : h ≡ height d) where
  pub rows_under : (xs : ℕ) → xs ≡ area d → Rows s h w at p xs
  rows_under xs e = rw (is-place, is-width, is-height) (rows s d i p xs l.deep l.stride l.predictor l.predictor_small e)

  pub rows_over : (xs : ℕ) → xs ≡ area d → Rows s h w at n xs
  rows_over xs e = rw (is-place, is-width, is-height) (rows s d i n xs l.deep l.stride l.shown l.shown_small e)

-- the stages of a leaf lie in the raised codebook
pub open_stages : (d k : ℕ) → k ≤ 6 → (4 ≤ d → k ≡ 0) → k ≤ cap_at d 6
open_stages d k most bare = elim (dec_lt d 4) [ yes l ↦ rw (lt-ltb d 4 l) most | no l ↦ rw (le-ltb d 4 (omega arith)) (omega (arith, bare (omega arith))) ]

pub code_shows : (h : Svq1Half) (d size base m : ℕ) (c : LeafCode) (js : List ℕ) → length js ≡ 6 → Sound h d (leaf_of c js) → size ≡ codebook_bytes → base ≡ page_start h d → m ≡ area d
    → CodeShows h m size base c js
code_shows h d size base m code.Skip js six g e q r = tt
code_shows h d size base m (code.Coded z count) js six g e q r =
    let k : length (take count js) ≡ min count 6 = length-take count js ∙ rw six in
    let few : min count 6 ≤ cap_at d 6 = open_stages d (min count 6) (omega arith) (λ b. sym k ∙ g.bare b) in (
      record { place = g.place; back = g.back },
      record {
        most = omega arith;
        page = rw (e, q, r) (omega (arith, page_room h d 6 (omega arith), mul-le-mul_left (area d * 16) few));
        small = λ i b. let l : i < count = omega arith in rw (get_or-take count js i 0 l) at (g.small i);
      },
    )

pub leaf_painted : (s d i at w h base : ℕ) (p raised xs out m : List ℕ) (half : Svq1Half) (l : Leaf) → level i ≡ d → at ≡ place s i → w ≡ width d → h ≡ height d
    → base ≡ page_start half d → In s d i (length p) → (under : List ℕ) → under ≡ gather s h w at p → xs ≡ leaf_shown (vectors_in raised base (length under)) under l → out ≡ paint s h w at xs m
    → out ≡ paint_at s d i (leaf_as raised half s p i l) m
unfolding paint_at block_of shown_at
leaf_painted s d i at w h base p raised xs out m half l deep a b c q inside under e f g =
    let b' : under ≡ block_of s d i p = e ∙ rw (a, b, c) in
    let n : length under ≡ area d = ap length b' ∙ length_block s d i p inside in
    g ∙ rw (a, b, c, f ∙ ap₂ (λ (k : ℕ) (u : List ℕ). leaf_shown (vectors_in raised base k) u l) n b', q, deep)

-- ---- a block that is not split
paint-none : (s h w at : ℕ) (m : List ℕ) → paint s h w at [] m ≡ m
unfolding paint
paint-none s zero w at m = refl
paint-none s (suc h) w at m = rw (drop-nil w, take-nil w) (paint-none s h w (at + s) m)

pub nothing_painted : (s d i : ℕ) (raised p m : List ℕ) (h : Svq1Half) (x : Node) → (x ≡ Off) ⊎ (x ≡ Split) → m ≡ paint_at s d i (node_at raised h s p i x) m
unfolding paint_at
nothing_painted s d i raised p m h x e = ⊎_elim (λ a. rw a (sym (paint-none s (height d) (width d) (place s i) m))) (λ a. rw a (sym (paint-none s (height d) (width d) (place s i) m))) e

pub node_leaf : (h : Svq1Half) (x : Node) (p raised s d i n : ℕ) → DrawingNode h x p raised s d i n → (l : Leaf) → x ≡ Ends l → Drawing h l p raised s d i n
node_leaf h x p raised s d i n g l e = record { lies = g.lies; copy = g.copy; sound = rw e at g.sound }

pub node_painted : (s d i : ℕ) (raised p m out : List ℕ) (h : Svq1Half) (x : Node) (l : Leaf) → x ≡ Ends l → out ≡ paint_at s d i (leaf_as raised h s p i l) m
    → out ≡ paint_at s d i (node_at raised h s p i x) m
node_painted s d i raised p m out h x l e o = rw e o

-- ---- the recursion
module _ (h : Svq1Half) (t : List Node) (p raised s d i n : ℕ) (g : Rebuilding h t p raised s d i n) where
  parts_lie : 0 < d → Lies s (d - 1) (left i) p n × Lies s (d - 1) (right i) p n
  parts_lie l = go d refl
    where
      go : (e : ℕ) → d ≡ e → Lies s (d - 1) (left i) p n × Lies s (d - 1) (right i) p n
      go zero z = absurd (omega arith)
      go (suc e) z =
          let k : d - 1 ≡ e = omega arith in
          let deep : level i ≡ suc e = g.lies.deep ∙ z in
          let a = at_parts e i (deep, g.lies.number) in
          let f : suc e ≤ 5 = omega (arith, deep, level_le i) in
          let x = in_parts s e i deep f p (rw z at g.lies.predictor) in
          let y = in_parts s e i deep f n (rw z at g.lies.shown) in
          rw k (
            record { deep = a.0.0; number = a.0.1; stride = g.lies.stride; predictor = x.0; predictor_small = g.lies.predictor_small; shown = y.0; shown_small = g.lies.shown_small },
            record { deep = a.1.0; number = a.1.1; stride = g.lies.stride; predictor = x.1; predictor_small = g.lies.predictor_small; shown = y.1; shown_small = g.lies.shown_small },
          )

  pub turn_left : 0 < d → Rebuilding h t p raised s (d - 1) (left i) n
  turn_left l = record { lies = (parts_lie l).0; copy = g.copy; sound = g.sound }

  pub turn_right : 0 < d → Rebuilding h t p raised s (d - 1) (right i) n
  turn_right l = record { lies = (parts_lie l).1; copy = g.copy; sound = g.sound }

  pub turn_node : (x : Node) → x ≡ get_or t i Off → DrawingNode h x p raised s d i n
  turn_node x e = record { lies = g.lies; copy = g.copy; sound = rw (e, ← g.lies.deep) (g.sound i) }

module _ (raised : List ℕ) (h : Svq1Half) (s : ℕ) (p : List ℕ) (t : List Node) (d i : ℕ) (m : List ℕ) where
  pub rebuilt_parts : (mid end : List ℕ) → 0 < d → is_split (get_or t i Off) ≡ true → mid ≡ rebuilt_by raised h s p t (d - 1) (left i) m
      → end ≡ rebuilt_by raised h s p t (d - 1) (right i) mid → end ≡ rebuilt_by raised h s p t d i m
  unfolding rebuilt
  rebuilt_parts mid end l c x y = go d l x y
    where
      go : (k : ℕ) → 0 < k → mid ≡ rebuilt_by raised h s p t (k - 1) (left i) m → end ≡ rebuilt_by raised h s p t (k - 1) (right i) mid → end ≡ rebuilt_by raised h s p t k i m
      go zero l x y = absurd (omega arith)
      go (suc k) l x y = let z : suc k - 1 ≡ k = omega arith in rw z at y ∙ ap (rebuilt_by raised h s p t k (right i)) (rw z at x) ∙ sym (rw c)

  pub rebuilt_leaf : (end : List ℕ) (x : Node) → x ≡ get_or t i Off → (d ≤ 0) ⊎ (is_split (get_or t i Off) ≡ false) → end ≡ paint_at s d i (node_at raised h s p i x) m
      → end ≡ rebuilt_by raised h s p t d i m
  unfolding rebuilt
  rebuilt_leaf end x e z o = o ∙ rw e (go d z)
    where
      go : (k : ℕ) → (k ≤ 0) ⊎ (is_split (get_or t i Off) ≡ false) → paint_at s k i (node_at raised h s p i (get_or t i Off)) m ≡ rebuilt_by raised h s p t k i m
      go zero w = refl
      go (suc k) w = ⊎_elim (λ a. absurd (omega arith)) (λ a. sym (rw a)) w
