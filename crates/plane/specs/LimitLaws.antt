-- Laws of a plane under a limit: SKIP always fits, and with the last macroblock a SKIP code is left for each behind the plane.
-- Assumes nothing.
use Rattle.std.specs.Prelude.{◌≡◌, true, List}
use Rattle.std.proofs.Common.{ap, arith}
use Prim.Native.Nat.{ℕ, zero, suc, ◌≤◌, ◌<◌}
use Rattle.macroblock.specs.Macroblock.{Given}
use Rattle.macroblock.specs.Limit.{can_skip_rest}
use Rattle.macroblock.specs.Choice.{Task}
use Rattle.macroblock.specs.ChoiceLaws.{chosen-fits}
use Rattle.macroblock.specs.LimitLaws.{skip_fits}
use Rattle.macroblock.specs.Slices.{Slices, near}
use Rattle.plane.specs.Run.{after}
use Rattle.plane.specs.RunLaws.{run_stands}
use Rattle.plane.specs.Plane.{count, Writing, fits, written, to_write, write_plane, writing_at}

module _ (g : Given) (t : Task) where
  pub skip_rest_next : (k : ℕ) (s : Writing) → k < count g → can_skip_rest t.limit g k s.bits ≡ true → can_skip_rest t.limit g (suc k) (written g t k s).bits ≡ true
  unfolding written
  skip_rest_next k s h e = chosen-fits g t k (near g s.slices k) s.bits (skip_fits g t k (near g s.slices k) s.bits h e)

  module _ (enough : can_skip_rest t.limit g 0 0 ≡ true) (out : List ℕ) (start : ℕ) (a : Slices) where
    pub skip_rest_at : (k : ℕ) → k ≤ count g → can_skip_rest t.limit g k (writing_at g t out start a k).bits ≡ true
    unfolding after
    skip_rest_at zero h = enough
    skip_rest_at (suc k) h = skip_rest_next k (writing_at g t out start a k) h (skip_rest_at k (omega arith))

    -- ended early or not
    pub skip_rest_end : can_skip_rest t.limit g (write_plane g t out start a).done (write_plane g t out start a).state.bits ≡ true
    unfolding write_plane after
    skip_rest_end =
        let u = run_stands 22 (fits g t) (written g t) (to_write out start a) (count g) 0 in
        let m : (write_plane g t out start a).done ≤ count g = omega (arith, u.at_most) in
        rw (ap (λ (s : Writing). s.bits) u.state) (skip_rest_at (write_plane g t out start a).done m)
