-- Laws of signed numbers raised to unsigned ones: `sub_ℕ u b`, the number u - b, in sums, halves and tests.
-- Assumes nothing.
use Rattle.std.specs.Prelude.{ℕ, zero, suc, ◌+◌, ◌-◌, ◌*◌, ◌/◌, ◌<◌, ◌≤◌, ◌≡◌, Bool, ◌&&◌, ℤ, pos, negsuc, neg_ℤ, ◌+ℤ◌, ◌-ℤ◌, ltb, leb}
use Rattle.std.proofs.Common.{sym, ap, ◌∙◌, arith, lt-ltb, le-ltb, le-leb}
use Rattle.std.proofs.Math.Decide.{dec_le}
use Rattle.std.proofs.Math.IntN.{sub_ℕ}
use Rattle.std.specs.Int.Signed.{lt_z, le_z, shr_z}
use Rattle.std.proofs.lemmas.Bool.{lt-leb}

-- two tests that hold together
pub ltb_as : (a b c d : ℕ) → (a < b → c < d) → (b ≤ a → d ≤ c) → ltb a b ≡ ltb c d
ltb_as a b c d f g = go (dec_le b a)
  where
    go : Dec (b ≤ a) → ltb a b ≡ ltb c d
    go (yes h) = le-ltb a b h ∙ sym (le-ltb c d (g h))
    go (no h) = let k : a < b = omega arith in lt-ltb a b k ∙ sym (lt-ltb c d (f k))

pub leb_as : (a b c d : ℕ) → (a ≤ b → c ≤ d) → (b < a → d < c) → leb a b ≡ leb c d
leb_as a b c d f g = go (dec_le a b)
  where
    go : Dec (a ≤ b) → leb a b ≡ leb c d
    go (yes h) = le-leb a b h ∙ sym (le-leb c d (f h))
    go (no h) = let k : b < a = omega arith in lt-leb a b k ∙ sym (lt-leb c d (g k))

pub both : {a b c d : Bool} → a ≡ b → c ≡ d → (a && c) ≡ (b && d)
both p q = cc

-- ---- differences
pub sub_eq : (a b c d : ℕ) → a + d ≡ c + b → sub_ℕ a b ≡ sub_ℕ c d
sub_eq a b c d e = go (dec_le b a)
  where
    go : Dec (b ≤ a) → sub_ℕ a b ≡ sub_ℕ c d
    go (yes h) =
        let k : d ≤ c = omega arith in
        let n : a - b ≡ c - d = omega arith in
        simp (le-ltb _ _ h, le-ltb _ _ k, n)
    go (no h) =
        let h₁ : a < b = omega arith in
        let k : c < d = omega arith in
        let n : b - suc a ≡ d - suc c = omega arith in
        simp (lt-ltb _ _ h₁, lt-ltb _ _ k, n)

pub sub_add : (a b c d : ℕ) → sub_ℕ a b +ℤ sub_ℕ c d ≡ sub_ℕ (a + c) (b + d)
sub_add a b c d = go (dec_le b a) (dec_le d c)
  where
    go : Dec (b ≤ a) → Dec (d ≤ c) → sub_ℕ a b +ℤ sub_ℕ c d ≡ sub_ℕ (a + c) (b + d)
    go (yes h) (yes k) =
        let m : b + d ≤ a + c = omega arith in
        let n : a - b + (c - d) ≡ a + c - (b + d) = omega arith in
        simp (le-ltb _ _ h, le-ltb _ _ k, le-ltb _ _ m, n)
    go (yes h) (no k) =
        let k₁ : c < d = omega arith in
        simp (le-ltb _ _ h, lt-ltb _ _ k₁) (sub_eq (a - b) (suc (d - suc c)) (a + c) (b + d) (omega arith))
    go (no h) (yes k) =
        let h₁ : a < b = omega arith in
        simp (lt-ltb _ _ h₁, le-ltb _ _ k) (sub_eq (c - d) (suc (b - suc a)) (a + c) (b + d) (omega arith))
    go (no h) (no k) =
        let h₁ : a < b = omega arith in
        let k₁ : c < d = omega arith in
        let m : a + c < b + d = omega arith in
        let n : suc (b - suc a + (d - suc c)) ≡ b + d - suc (a + c) = omega arith in
        simp (lt-ltb _ _ h₁, lt-ltb _ _ k₁, lt-ltb _ _ m, n)

pub sub_pos : (a b : ℕ) → b ≤ a → sub_ℕ a b ≡ pos (a - b)
sub_pos a b h = simp (le-ltb a b h)

pub sub_over : (b m : ℕ) → sub_ℕ (b + m) b ≡ pos m
sub_over b m =
    let h : b ≤ b + m = omega arith in
    let n : b + m - b ≡ m = omega arith in
    simp (le-ltb _ _ h, n)

pub pos_is : (a : ℕ) → pos a ≡ sub_ℕ a 0
pos_is a = let e : a - 0 ≡ a = omega arith in sym (sub_pos a 0 (omega arith) ∙ ap pos e)

pub pos_sub : (a u b : ℕ) → pos a +ℤ sub_ℕ u b ≡ sub_ℕ (a + u) b
pos_sub a u b = ap (λ (z : ℤ). z +ℤ sub_ℕ u b) (pos_is a) ∙ sub_add a 0 u b ∙ sub_eq (a + u) (0 + b) (a + u) b (omega arith)

pub neg_sub : (a b : ℕ) → neg_ℤ (sub_ℕ a b) ≡ sub_ℕ b a
neg_sub a b = go (dec_le b a)
  where
    turned : (n : ℕ) → a ≡ b + n → neg_ℤ (pos n) ≡ sub_ℕ b a
    turned zero e = sym (sub_pos b a (omega arith) ∙ ap pos (omega arith))
    turned (suc n) e = sym (simp (lt-ltb b a (omega arith)) (ap negsuc (omega arith)))

    go : Dec (b ≤ a) → neg_ℤ (sub_ℕ a b) ≡ sub_ℕ b a
    go (yes h) = ap neg_ℤ (sub_pos a b h) ∙ turned (a - b) (omega arith)
    go (no h) =
        let k : a < b = omega arith in
        simp (lt-ltb a b k, le-ltb b a (omega arith)) (ap pos (omega arith))

-- of two raised by the same
pub sub_sub : (u p b : ℕ) → sub_ℕ u b -ℤ sub_ℕ p b ≡ sub_ℕ u p
sub_sub u p b = ap (λ (z : ℤ). sub_ℕ u b +ℤ z) (neg_sub p b) ∙ sub_add u b b p ∙ sub_eq (u + b) (b + p) u p (omega arith)

-- half, rounded down
pub sub_half : (u h : ℕ) → shr_z (sub_ℕ u (2 * h)) 2 ≡ sub_ℕ (u / 2) h
sub_half u h = go (dec_le (2 * h) u)
  where
    go : Dec (2 * h ≤ u) → shr_z (sub_ℕ u (2 * h)) 2 ≡ sub_ℕ (u / 2) h
    go (yes l) =
        let k : h ≤ u / 2 = omega arith in
        let n : (u - 2 * h) / 2 ≡ u / 2 - h = omega arith in
        simp (le-ltb _ _ l, le-ltb _ _ k, n)
    go (no l) =
        let l₁ : u < 2 * h = omega arith in
        let k : u / 2 < h = omega arith in
        let n : (2 * h - suc u) / 2 ≡ h - suc (u / 2) = omega arith in
        simp (lt-ltb _ _ l₁, lt-ltb _ _ k, n)

pub sub_one : (u b : ℕ) → sub_ℕ u b +ℤ pos 1 ≡ sub_ℕ (u + 1) b
sub_one u b = ap (λ (z : ℤ). sub_ℕ u b +ℤ z) (pos_is 1) ∙ sub_add u b 1 0 ∙ sub_eq (u + 1) (b + 0) (u + 1) b (omega arith)

-- ---- tests
pub low_is : (a b : ℕ) → le_z (negsuc 31) (sub_ℕ a b) ≡ leb b (a + 32)
low_is a b = go (dec_le b a)
  where
    go : Dec (b ≤ a) → le_z (negsuc 31) (sub_ℕ a b) ≡ leb b (a + 32)
    go (yes h) = simp (le-ltb a b h) (sym (le-leb b (a + 32) (omega arith)))
    go (no h) = let k : a < b = omega arith in simp (lt-ltb a b k) (leb_as (b - suc a) 31 b (a + 32) (λ q. omega arith) (λ q. omega arith))

pub high_is : (a b : ℕ) → le_z (sub_ℕ a b) (pos 31) ≡ leb a (b + 31)
high_is a b = go (dec_le b a)
  where
    go : Dec (b ≤ a) → le_z (sub_ℕ a b) (pos 31) ≡ leb a (b + 31)
    go (yes h) = simp (le-ltb a b h) (leb_as (a - b) 31 a (b + 31) (λ q. omega arith) (λ q. omega arith))
    go (no h) = let k : a < b = omega arith in simp (lt-ltb a b k) (sym (le-leb a (b + 31) (omega arith)))

pub nonneg_is : (a b : ℕ) → le_z (pos 0) (sub_ℕ a b) ≡ leb b a
nonneg_is a b = go (dec_le b a)
  where
    go : Dec (b ≤ a) → le_z (pos 0) (sub_ℕ a b) ≡ leb b a
    go (yes h) = simp (le-ltb a b h) (le-leb 0 (a - b) (omega arith) ∙ sym (le-leb b a h))
    go (no h) = let k : a < b = omega arith in simp (lt-ltb a b k) (sym (lt-leb b a k))

pub below_is : (a b s : ℕ) → lt_z (sub_ℕ a b) (pos s) ≡ ltb a (s + b)
below_is a b s = go (dec_le b a)
  where
    go : Dec (b ≤ a) → lt_z (sub_ℕ a b) (pos s) ≡ ltb a (s + b)
    go (yes h) = simp (le-ltb a b h) (ltb_as (a - b) s a (s + b) (λ q. omega arith) (λ q. omega arith))
    go (no h) = let k : a < b = omega arith in simp (lt-ltb a b k) (sym (lt-ltb a (s + b) (omega arith)))
