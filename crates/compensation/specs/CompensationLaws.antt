-- Laws of compensated blocks: as many samples as asked for, all of them bytes.
-- Assumes nothing.
use Rattle.std.specs.Prelude.{◌≡◌, Bool, true, false, ℕ, zero, suc, ◌*◌, ◌<◌, ℤ, ◌+ℤ◌, length}
use Rattle.std.proofs.Common.{arith}
use Rattle.std.proofs.Math.IntN.{pos}
use Rattle.std.specs.Int.Signed.{shr_z}
use Rattle.bits.specs.Basics.{pick, Bytes, values_from}
use Rattle.bits.specs.BasicsLaws.{length_values}
use Rattle.vectors.specs.declared.svq1_motion_predictor.Svq1Mv.{Svq1Mv}
use Rattle.canvas.specs.Canvas.{Canvas}
use Rattle.compensation.specs.Compensation.{even, mean2, mean4, sample_at, half_sample, moved_sample, moved_block}

pub bytes_list : (f : ℕ → ℕ) → ((j : ℕ) → f j < 256) → (n j : ℕ) → Bytes (values_from f n j)
unfolding values_from
bytes_list f h zero j k = omega arith
bytes_list f h (suc n) j zero = h j
bytes_list f h (suc n) j (suc k) = bytes_list f h n (suc j) k

pick_byte : (q : Bool) (a b : ℕ) → a < 256 → b < 256 → pick q a b < 256
pick_byte true a b h k = h
pick_byte false a b h k = k

module _ (c : Canvas) (bytes : Bytes c.samples) where
  sample_byte : (x y : ℤ) → sample_at c x y < 256
  unfolding sample_at
  sample_byte x y = bytes _

  pub half_byte : (hx hy : ℤ) → half_sample c hx hy < 256
  unfolding half_sample
  half_byte hx hy =
      let x = shr_z hx 2 in
      let y = shr_z hy 2 in
      let a = sample_at c x y in
      let r = sample_at c (x +ℤ pos 1) y in
      let b = sample_at c x (y +ℤ pos 1) in
      let d = sample_at c (x +ℤ pos 1) (y +ℤ pos 1) in
      let ha = sample_byte x y in
      let hr = sample_byte (x +ℤ pos 1) y in
      let hb = sample_byte x (y +ℤ pos 1) in
      let hd = sample_byte (x +ℤ pos 1) (y +ℤ pos 1) in
      pick_byte (even hx) (pick (even hy) a (mean2 a b)) (pick (even hy) (mean2 a r) (mean4 a r b d))
      (pick_byte (even hy) a (mean2 a b) ha (omega arith)) (pick_byte (even hy) (mean2 a r) (mean4 a r b d) (omega arith) (omega arith))

  pub moved_byte : (side x y : ℕ) (v : Svq1Mv) (j : ℕ) → moved_sample c side x y v j < 256
  moved_byte side x y v j = half_byte _ _

  pub bytes_moved : (side x y : ℕ) (v : Svq1Mv) → Bytes (moved_block c side x y v)
  unfolding moved_block
  bytes_moved side x y v = bytes_list (moved_sample c side x y v) (moved_byte side x y v) (side * side) 0

pub length_moved : (c : Canvas) (side x y : ℕ) (v : Svq1Mv) → length (moved_block c side x y v) ≡ side * side
unfolding moved_block
length_moved c side x y v = length_values (moved_sample c side x y v) (side * side) 0
