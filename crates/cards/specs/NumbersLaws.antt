-- Laws of signed numbers as the code makes them. Assumes nothing.
use Rattle.std.specs.Prelude.{ℕ, zero, suc, ◌<◌, ◌≡◌, refl, pos, ◌-ℤ◌}
use Rattle.std.proofs.Common.{ap, arith, le-ltb, SFits, to_z, of_z}
use Rattle.std.proofs.Math.IntN.{sub_ℕ}
use Rattle.std.specs.Int.{w32}
use Rattle.std.proofs.lemmas.Int.{to_z-of_z}
use Rattle.vectors.specs.ClipLaws.{sub_mag}

-- one natural number less another
less_is : (a b : ℕ) → pos a -ℤ pos b ≡ sub_ℕ a b
less_is a zero = rw (le-ltb a 0 (omega arith)) (ap pos (omega arith))
less_is a (suc b) = refl

-- two 16-bit numbers, subtracted in 32 bits
pub record Less (a b : ℕ) : Type 0 where
  pub whole : SFits w32 (to_z w32 a -ℤ to_z w32 b)
  pub same : to_z w32 (of_z w32 (to_z w32 a -ℤ to_z w32 b)) ≡ sub_ℕ a b

pub less : (a b : ℕ) → a < 65536 → b < 65536 → Less a b
less a b h k =
    let e = to_z-of_z w32 (pos a) (record { sfits = omega arith }) in
    let f = to_z-of_z w32 (pos b) (record { sfits = omega arith }) in
    let d : to_z w32 a -ℤ to_z w32 b ≡ sub_ℕ a b = rw (e, f) (less_is a b) in
    let w : SFits w32 (sub_ℕ a b) = record { sfits = omega (arith, sub_mag a b) } in
    record { whole = rw d w; same = rw d (to_z-of_z w32 (sub_ℕ a b) w) }
