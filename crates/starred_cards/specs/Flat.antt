-- Laws for the cards whose plane is flat: the plan of a block of 100 over a predictor of 0 is one leaf, whatever the codebook holds.
-- Assumes nothing.
use Rattle.std.specs.Prelude.{◌≡◌, refl, Bool, true, false, not, ◌&&◌, List, [], ◌∷◌, ◌++◌, ℕ, zero, suc, ◌/◌, ◌<◌, eqb, leb, length, get_or, replicate, ℤ, pos, negsuc}
use Rattle.std.proofs.Common.{sym, ap, ◌∙◌, true≢false, arith, eqb-true}
use Rattle.std.proofs.Math.Dec.{eqb-suc-zero}
use Rattle.std.proofs.lemmas.Bool.{not-true}
use Rattle.bits.specs.Basics.{pick, natural}
use Rattle.bits.specs.BasicsLaws.{both_true, below, below_at}
use Rattle.bits.specs.Bits.{msb}
use Rattle.code_tables.specs.Codes.{codes_of}
use Rattle.book.specs.Level.{area}
use Rattle.book.specs.Book.{tables_of}
use Rattle.house.specs.House.{house_book, house_codebook, house_from, rank, signed_rank, log_under}
use Rattle.book.specs.declared.svq1_vlc.Svq1Half.{Svq1Half}
use Rattle.book.specs.declared.svq1_vlc.Svq1Half.TheVariants.{Intra, Inter}
use Rattle.text.specs.Text.{same}
use Rattle.codebook.specs.Codebook.{vector_at}
use Rattle.codebook.specs.Mean.{residual, rounded, clamp_mean, mean_of, saturate}
use Rattle.leaf.specs.Leaf.{Leaf, coded, sse, seeded, staged, samples, leaf_shown, leaf_rule, terms_at}
use Rattle.leaf.specs.LeafLaws.{coded_exact}
use Rattle.leaf.specs.LeafBits.{leaf_bits, stage_bits}
use Rattle.tree.specs.Blocks.{level, gather, place_under, place, block_of}
use Rattle.tree.specs.BlocksLaws.{level_le}
use Rattle.tree.specs.Plan.{Weight, Planning, planned, splits, leaf_at, shown_at, weight_at, plan_splits}
use Rattle.plan.specs.PlanLaws.{splits-same}
use Rattle.tree.specs.TreeBits.{Node, Off, Split, Ends, is_split, grow, plan_tree}
use Rattle.macroblock.specs.Choice.{plane_terms}

-- ---- tests over lists
same_is : (s t : List ℕ) → same s t ≡ true → s ≡ t
unfolding same
same_is [] [] e = refl
same_is [] (d ∷ u) e = absurd (true≢false (sym e))
same_is (c ∷ t) [] e = absurd (true≢false (sym e))
same_is (c ∷ t) (d ∷ u) e =
    let two = both_true (eqb c d) (same t u) e in
    rw (eqb-true c d two.0, same_is t u two.1)

natural_is : (z : ℤ) (n : ℕ) → natural z ≡ suc n → z ≡ pos (suc n)
natural_is (pos k) n e = ap pos e
natural_is (negsuc k) n e = absurd (omega arith)

-- ---- a flat block
abbrev pub flat : ℕ → ℕ → List ℕ
flat n x = replicate n x

-- every block of a flat macroblock is flat
flat_at : ℕ → ℕ → Bool
flat_at x i = same (block_of 16 (level i) i (flat 256 x)) (flat (area (level i)) x)

flat_100 : below (flat_at 100) 63 ≡ true
unfolding below flat_at same block_of gather place place_under
flat_100 = refl

flat_0 : below (flat_at 0) 63 ≡ true
unfolding below flat_at same block_of gather place place_under
flat_0 = refl

block_is : (x i : ℕ) → below (flat_at x) 63 ≡ true → i < 63 → block_of 16 (level i) i (flat 256 x) ≡ flat (area (level i)) x
unfolding flat_at
block_is x i e h = same_is (block_of 16 (level i) i (flat 256 x)) (flat (area (level i)) x) (below_at (flat_at x) 63 i e h)

-- at each level the mean is 100, meets the block exactly, and beats skip
exact_at : Svq1Half → ℕ → Bool
exact_at h d =
    let t = flat (area d) 100 in
    let p = flat (area d) 0 in
    (eqb (natural (mean_of h (residual t p) (length t))) 100 && eqb (sse t (samples (seeded (pos 100) p))) 0) && not (leb (sse t p) 0)

exact_all : (h : Svq1Half) → below (exact_at h) 6 ≡ true
unfolding below exact_at mean_of rounded clamp_mean residual sse samples seeded saturate
exact_all Intra = refl
exact_all Inter = refl

record Exact (h : Svq1Half) (d : ℕ) : Type 0 where
  mean : mean_of h (residual (flat (area d) 100) (flat (area d) 0)) (length (flat (area d) 100)) ≡ pos 100
  met : sse (flat (area d) 100) (samples (seeded (pos 100) (flat (area d) 0))) ≡ 0
  beaten : leb (sse (flat (area d) 100) (flat (area d) 0)) 0 ≡ false

exact : (h : Svq1Half) (d : ℕ) → d < 6 → Exact h d
unfolding exact_at
exact h d l =
    let t = flat (area d) 100 in
    let p = flat (area d) 0 in
    let a = eqb (natural (mean_of h (residual t p) (length t))) 100 in
    let b = eqb (sse t (samples (seeded (pos 100) p))) 0 in
    let two = both_true (a && b) (not (leb (sse t p) 0)) (below_at (exact_at h) 6 d (exact_all h) l) in
    let one = both_true a b two.0 in
    record {
      mean = natural_is (mean_of h (residual t p) (length t)) 99 (eqb-true (natural (mean_of h (residual t p) (length t))) 100 one.0);
      met = eqb-true (sse t (samples (seeded (pos 100) p))) 0 one.1;
      beaten = not-true (leb (sse t p) 0) two.1;
    }

-- ---- the plan of a flat macroblock of 100 over 0, with the house tables
abbrev pub flat_planning : Svq1Half → ℕ → Planning
flat_planning h lambda = record {
  tables = tables_of house_book h;
  vectors = vector_at house_codebook h;
  terms = plane_terms 0 h;
  lambda = lambda;
  level = 5;
  target = flat 256 100;
  predictor = flat 256 0;
}

-- the leaf that every block chooses, and what it weighs at a level
abbrev pub mean_leaf : Leaf
mean_leaf = coded (pos 100) []

abbrev leaf_weight : Svq1Half → ℕ → Weight
leaf_weight h d = record { bits = length (leaf_bits (tables_of house_book h) d mean_leaf); err = 0 }

-- skip is either closed or loses
skip_loses : (f a : Bool) → a ≡ false → f && a ≡ false
skip_loses true a e = e
skip_loses false a e = refl

leaf_is : (h : Svq1Half) (lambda i : ℕ) → i < 63 → leaf_at (flat_planning h lambda) i ≡ mean_leaf
unfolding leaf_at leaf_rule leaf_shown staged
leaf_is h lambda i l =
    let d = level i in
    let e = exact h d (omega (arith, level_le i)) in
    let c = coded_exact (terms_at d (plane_terms 0 h)) (vector_at house_codebook h d) (flat (area d) 100) (flat (area d) 0) (pos 100) e.mean e.met in
    rw (block_is 100 i flat_100 l, block_is 0 i flat_0 l) (rw (c, e.met, skip_loses (plane_terms 0 h).skip (leb (sse (flat (area d) 100) (flat (area d) 0)) 0) e.beaten))

weight_is : (h : Svq1Half) (lambda i : ℕ) → i < 63 → weight_at (flat_planning h lambda) i ≡ leaf_weight h (level i)
unfolding weight_at shown_at leaf_shown staged
weight_is h lambda i l =
    rw (leaf_is h lambda i l, block_is 100 i flat_100 l, block_is 0 i flat_0 l, (exact h (level i) (omega (arith, level_le i))).met)

-- the root is a leaf
pub root_leaf : (h : Svq1Half) (lambda : ℕ) → splits (λ i. leaf_weight h (level i)) lambda 5 0 ≡ false → plan_splits (flat_planning h lambda) 0 ≡ false
unfolding plan_splits
root_leaf h lambda e = splits-same (weight_at (flat_planning h lambda)) (λ i. leaf_weight h (level i)) lambda (weight_is h lambda) 5 0 (refl, omega arith) ∙ e

-- a tree whose root is a leaf has nothing else
abbrev pub one_leaf : Leaf → ℕ → List Node
one_leaf l n = Ends l ∷ replicate n Off

off_at : (n k : ℕ) → get_or (replicate n Off) k Off ≡ Off
off_at zero k = refl
off_at (suc n) zero = refl
off_at (suc n) (suc k) = off_at n k

none_split : (l : Leaf) (n k : ℕ) → is_split (get_or (one_leaf l n) k Off) ≡ false
none_split l n zero = refl
none_split l n (suc k) = ap is_split (off_at n k)

off_more : (n : ℕ) → replicate n Off ++ (Off ∷ []) ≡ replicate (suc n) Off
off_more zero = refl
off_more (suc n) = ap (λ (t : List Node). Off ∷ t) (off_more n)

grow_leaf : (choose : ℕ → Node) (l : Leaf) (n : ℕ) → choose 0 ≡ Ends l → grow 0 choose (suc n) ≡ one_leaf l n
unfolding grow
grow_leaf choose l zero e = rw e
grow_leaf choose l (suc n) e =
    rw (grow_leaf choose l n e, none_split l n (n / 2), eqb-suc-zero n) (ap (λ (t : List Node). Ends l ∷ t) (off_more n))

pub tree_is : (h : Svq1Half) (lambda : ℕ) → splits (λ i. leaf_weight h (level i)) lambda 5 0 ≡ false → plan_tree (flat_planning h lambda) ≡ one_leaf mean_leaf 62
unfolding plan_tree
tree_is h lambda e =
    grow_leaf (λ i. pick (plan_splits (flat_planning h lambda) i) Split (Ends (leaf_at (flat_planning h lambda) i))) mean_leaf 62
    (rw (root_leaf h lambda e, leaf_is h lambda 0 (omega arith)))

-- at both cards' lambdas, the largest of which makes all costs equal
pub leaf_at_32 : (h : Svq1Half) → splits (λ i. leaf_weight h (level i)) 32 5 0 ≡ false
unfolding splits planned leaf_bits stage_bits codes_of msb house_book house_from rank signed_rank log_under
leaf_at_32 Intra = refl
leaf_at_32 Inter = refl

pub leaf_at_largest : (h : Svq1Half) → splits (λ i. leaf_weight h (level i)) 18446744073709551615 5 0 ≡ false
unfolding splits planned leaf_bits stage_bits codes_of msb house_book house_from rank signed_rank log_under
leaf_at_largest Intra = refl
leaf_at_largest Inter = refl
