-- The plan's array, filled from its last block to its first: each record holds its block's leaf choice, whether the plan splits it, and what it weighs.
-- Assumes nothing.
use Rattle.std.specs.Prelude.{◌≡◌, true, false, List, [], ℕ, zero, suc, ◌+◌, ◌^◌, ◌≤◌, ◌<◌, length, get_or, set}
use Rattle.std.proofs.Math.Path.{refl}
use Rattle.std.proofs.Common.{sym, ap, ap₂, ◌∙◌, true≢false, arith, get_or-set_same, get_or-set_other}
use Rattle.std.proofs.Math.Bool.{Bool}
use Rattle.std.proofs.Math.Decide.{ℕ_discrete}
use Rattle.bits.specs.Basics.{pick}
use Rattle.leaf.specs.LeafForms.{leaf_of}
use Rattle.leaf.specs.declared.svq1_enc_leaf.LeafCode.TheVariants.{Skip}
use Rattle.tree.specs.Blocks.{left, right, level}
use Rattle.tree.specs.BlocksLaws.{level_0, level-part, suc_level, level_le}
use Rattle.tree.specs.Plan.{Weight, Planning, joint_weight, flagged, cheaper, planned, splits, leaf_at, weight_at, plan_splits}
use Rattle.plan.specs.PlanLaws.{most_bits_lem, most_err}
use Rattle.plan.specs.PlanClaimLaws as claim
use Rattle.tree_samples.specs.SubtreeForms.{in_tree}
use Rattle.tree_samples.specs.SubtreeFormsLaws.{in_plane}
use Rattle.plan.specs.PlannedForms.{weigh, Light, CleanChoice, decided_as, decided}
use Rattle.plan.specs.declared.svq1_enc_tree.PlannedBlock.{PlannedBlock}

-- what the array holds before: nothing that is read
abbrev pub blank : PlannedBlock
blank = record { split = false; bits = 0; error = 0; code = Skip; stages = [] }

module _ (g : Planning) where
  -- the record of a block as a leaf
  pub record LeafAt (k : ℕ) (b : PlannedBlock) : Type 0 where
    pub leaf : leaf_of b.code b.stages ≡ leaf_at g k
    pub whole : b.split ≡ false
    pub weighs : weigh b ≡ weight_at g k
    pub clean : CleanChoice b

  -- the record of a block as the plan has it
  pub record PlannedAt (k : ℕ) (b : PlannedBlock) : Type 0 where
    pub leaf : leaf_of b.code b.stages ≡ leaf_at g k
    pub split : b.split ≡ plan_splits g k
    pub weighs : weigh b ≡ planned (weight_at g) g.lambda (level k) k
    pub clean : CleanChoice b

  -- a block of L0 is a leaf
  pub leaf_planned : (k : ℕ) (b : PlannedBlock) → 31 ≤ k → LeafAt k b → PlannedAt k b
  unfolding plan_splits planned splits
  leaf_planned k b h l = record { leaf = l.leaf; split = rw (level_0 k h) l.whole; weighs = rw (level_0 k h) l.weighs; clean = l.clean }

  -- any other is decided by its parts
  same_leaf : (t : Bool) (l : PlannedBlock) (u v : Weight)
      → leaf_of (pick t (decided_as true l u) (decided_as false l v)).code (pick t (decided_as true l u) (decided_as false l v)).stages ≡ leaf_of l.code l.stages
  same_leaf true l u v = refl
  same_leaf false l u v = refl

  same_clean : (t : Bool) (l : PlannedBlock) (u v : Weight) → CleanChoice l → CleanChoice (pick t (decided_as true l u) (decided_as false l v))
  same_clean true l u v c = c
  same_clean false l u v c = c

  same_split : (t : Bool) (l : PlannedBlock) (u v : Weight) → (pick t (decided_as true l u) (decided_as false l v)).split ≡ t
  same_split true l u v = refl
  same_split false l u v = refl

  same-weight : (t : Bool) (l : PlannedBlock) (u v : Weight) → weigh (pick t (decided_as true l u) (decided_as false l v)) ≡ pick t u v
  same-weight true l u v = refl
  same-weight false l u v = refl

  -- what is decided depends on what the leaf and the two parts weigh
  abbrev decide_by : Weight → Weight → Weight → Bool
  decide_by l x y = cheaper g.lambda (joint_weight x y) (flagged l)

  abbrev weigh-by : Weight → Weight → Weight → Weight
  weigh-by l x y = pick (decide_by l x y) (joint_weight x y) (flagged l)

  by_same : {A : Type 0} (f : Weight → Weight → Weight → A) (l l' x x' y y' : Weight) → l ≡ l' → x ≡ x' → y ≡ y' → f l x y ≡ f l' x' y'
  by_same f l l' x x' y y' p q r = ap₂ (λ (a b : Weight). f l a b) q r ∙ ap (λ (a : Weight). f a x' y') p

  split_by : (k d : ℕ) → level k ≡ suc d
      → decide_by (weight_at g k) (planned (weight_at g) g.lambda d (left k)) (planned (weight_at g) g.lambda d (right k)) ≡ plan_splits g k
  unfolding plan_splits splits
  split_by k d e = rw e

  weight_by : (k d : ℕ) → level k ≡ suc d
      → weigh-by (weight_at g k) (planned (weight_at g) g.lambda d (left k)) (planned (weight_at g) g.lambda d (right k)) ≡ planned (weight_at g) g.lambda (level k) k
  unfolding planned
  weight_by k d e = rw e

  pub parts_planned : (k : ℕ) (l x y : PlannedBlock) → k < 31 → LeafAt k l → PlannedAt (left k) x → PlannedAt (right k) y → PlannedAt k (decided g.lambda l x y)
  unfolding decided
  parts_planned k l x y h q a b = go (level k) refl
    where
      c : Bool
      c = decide_by (weigh l) (weigh x) (weigh y)

      go : (d : ℕ) → level k ≡ d → PlannedAt k (decided g.lambda l x y)
      go zero e = absurd (omega (arith, e, level-part k (left k) h (omega arith) (omega arith)))
      go (suc d) e =
          let wx : weigh x ≡ planned (weight_at g) g.lambda d (left k) = rw (suc_level k d e (left k) (omega arith) (omega arith)) at a.weighs in
          let wy : weigh y ≡ planned (weight_at g) g.lambda d (right k) = rw (suc_level k d e (right k) (omega arith) (omega arith)) at b.weighs in
          record {
            leaf = same_leaf c l _ _ ∙ q.leaf;
            split = same_split c l _ _ ∙ by_same decide_by _ _ _ _ _ _ q.weighs wx wy ∙ split_by k d e;
            weighs = same-weight c l _ _ ∙ by_same weigh-by _ _ _ _ _ _ q.weighs wx wy ∙ weight_by k d e;
            clean = same_clean c l _ _ q.clean;
          }

  -- ---- the array
  -- the blocks of the plan from i on stand in it
  abbrev pub Done : List PlannedBlock → ℕ → Type 0
  Done a i = (k : ℕ) → i ≤ k → k < 63 → in_tree g.level k ≡ true → PlannedAt k (get_or a k blank)

  pub one_block : (a : List PlannedBlock) (i : ℕ) (v : PlannedBlock) → i < length a → Done a (i + 1) → PlannedAt i v → Done (set a i v) i
  one_block a i v h d p k l u t = go (ℕ_discrete k i)
    where
      go : Dec (k ≡ i) → PlannedAt k (get_or (set a i v) k blank)
      go (yes q) = rw q (rw (get_or-set_same a i v blank h) p)
      go (no q) = rw (get_or-set_other a i k v blank q) (d k (omega arith) u t)

  pub no_block : (a : List PlannedBlock) (i : ℕ) → in_tree g.level i ≡ false → Done a (i + 1) → Done a i
  no_block a i f d k l u t = go (ℕ_discrete k i)
    where
      go : Dec (k ≡ i) → PlannedAt k (get_or a k blank)
      go (yes q) = absurd (true≢false (sym t ∙ ap (in_tree g.level) q ∙ f))
      go (no q) = d k (omega arith) u t

  -- ---- sums stay small
  most : (d : ℕ) → d ≤ 5 → (most_bits_lem 88 d < 65536) × (most_err (2 ^ 24) d < 2 ^ 30)
  most zero h = omega arith
  most (suc zero) h = omega arith
  most (suc (suc zero)) h = omega arith
  most (suc (suc (suc zero))) h = omega arith
  most (suc (suc (suc (suc zero)))) h = omega arith
  most (suc (suc (suc (suc (suc zero))))) h = omega arith
  most (suc (suc (suc (suc (suc (suc d)))))) h = absurd (omega arith)

  pub leaf_light : claim.Planned g → (k : ℕ) (b : PlannedBlock) → k < 63 → in_tree g.level k ≡ true → LeafAt k b → Light b
  leaf_light p k b h t l =
      let u = claim.leaf_under g p k h (in_plane g.level k p.five h t) in
      let e = l.weighs in
      record { bits = omega (arith, ap (λ (w : Weight). w.bits) e); error = omega (arith, ap (λ (w : Weight). w.err) e) }

  pub planned_light : claim.Planned g → (k : ℕ) (b : PlannedBlock) → k < 63 → in_tree g.level k ≡ true → PlannedAt k b → Light b
  planned_light p k b h t l =
      let u = claim.plan_under g p k h (in_plane g.level k p.five h t) in
      let m = most (level k) (level_le k) in
      let e = l.weighs in
      record { bits = omega (arith, ap (λ (w : Weight). w.bits) e); error = omega (arith, ap (λ (w : Weight). w.err) e) }
