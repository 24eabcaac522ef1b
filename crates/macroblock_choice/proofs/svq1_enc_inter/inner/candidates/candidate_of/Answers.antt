-- The bits of the three parts together. Assumes nothing.
use mathlib.Core.Path.{◌≡◌, refl}
use native.Mathlib.Omega.{arith}
use lib.ListN.{length}
use Rattle.macroblock.specs.Macroblock.{motion_mode, mode_bits}
use Rattle.macroblock.specs.MotionForms.{motion_of}
use Rattle.macroblock.specs.MacroblockNeeds.{by_book}
use Rattle.macroblock_choice.proofs.svq1_enc_inter.inner.candidates.candidate_of.Goals as goal

pub returns : goal.returns
returns c =
    let a = c.args in
    let e = c.mode_of-mode.ensures a.vectors in
    let h : c.mb_mode_bits-head.result ≡ length (mode_bits (by_book a.book.now) (motion_mode (motion_of a.motion a.vectors))) = rw e at c.mb_mode_bits-head.ensures.is in
    record {
      mode = e;
      motion_is = refl;
      vectors_are = refl;
      blocks_are = refl;
      bits_are = omega (arith, h, c.motion_bits-moved.ensures.is);
      error_is = refl;
    }
