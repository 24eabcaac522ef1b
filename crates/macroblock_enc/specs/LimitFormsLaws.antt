-- Laws of the room that a limit leaves a macroblock.
-- Assumes nothing.
use Rattle.std.specs.Prelude.{◌≡◌, refl, Bool, true, false, ℕ, suc, ◌+◌, ◌-◌, ◌*◌, ◌≤◌, ◌<◌, leb, length, Option, Some, None}
use Rattle.std.proofs.Common.{arith, mul-suc, leb-true, leb-false, le-leb}
use Rattle.std.proofs.lemmas.Bool.{lt-leb}
use Rattle.macroblock.specs.declared.svq1_enc_inter.Svq1MbMode.TheVariants.{Skip}
use Rattle.macroblock.specs.Macroblock.{Given, cols, rows, mode_bits}
use Rattle.macroblock.specs.Limit.{can_skip_rest}
use Rattle.macroblock_choice.specs.ChosenNeeds.{ample_room, Allows}
use Rattle.macroblock_enc.specs.declared.svq1_enc_inter.inner.limit.BitLimit.{BitLimit}
use Rattle.macroblock_enc.specs.LimitForms.{limit_of, room_under, Reserved, Spends}

-- bits fit what is left if with them the allowance still holds what has to stay
fits_reads : (allowance spent stay bits : ℕ) → spent + stay ≤ allowance → leb bits (allowance - (spent + stay)) ≡ leb (spent + bits + stay) allowance
fits_reads allowance spent stay bits h = go (leb (spent + bits + stay) allowance) refl
  where
    go : (q : Bool) → leb (spent + bits + stay) allowance ≡ q → leb bits (allowance - (spent + stay)) ≡ q
    go true e = let l = leb-true (spent + bits + stay) allowance e in le-leb bits (allowance - (spent + stay)) (omega arith)
    go false e = let l = leb-false (spent + bits + stay) allowance e in lt-leb bits (allowance - (spent + stay)) (omega arith)

module _ (g : Given) (k spent : ℕ) (h : k < rows g * cols g) where
  abbrev skip : ℕ
  skip = length (mode_bits g Skip)

  abbrev left : ℕ
  left = rows g * cols g - k - 1

  stays : (a b : ℕ) → can_skip_rest (limit_of (Some (record { allowance = a; behind = b }))) g k spent ≡ true → spent + skip * (left + b) ≤ a
  stays a b e =
      let q : rows g * cols g - k + b ≡ suc (left + b) = omega arith in
      let s = rw (q, mul-suc) at (leb-true _ a e) in
      omega arith

  pub reserved : (limit : Option BitLimit) → rows g * cols g ≤ 4294967296 → Spends g limit k spent → Reserved limit spent skip left
  reserved None l s = tt
  reserved (Some b) l s = (stays b.allowance b.behind s.skips_rest, omega (arith, s.few))

  pub allows : (limit : Option BitLimit) (room : ℕ) → Spends g limit k spent → room ≡ room_under limit spent skip left → Allows (limit_of limit) g k spent room
  allows None room s e bits l = rw e (le-leb bits ample_room l)
  allows (Some x) room s e bits l =
      let q : rows g * cols g - suc k ≡ left = omega arith in
      rw (e, q) (fits_reads x.allowance spent (skip * (left + x.behind)) bits (stays x.allowance x.behind s.skips_rest))

-- ---- by the arms of a match
module _ (limit : Option BitLimit) (a b spent skip left : ℕ) (e : limit ≡ Some (record { allowance = a; behind = b })) where
  pub within_reserved : Reserved limit spent skip left → (spent + skip * (left + b) ≤ a) × (left + b ≤ 8589934592)
  within_reserved r = rw e at r

  pub within_room : a - (spent + skip * (left + b)) ≡ room_under limit spent skip left
  within_room = rw e
