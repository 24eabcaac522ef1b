-- By the one test whether it fits. Assumes nothing.
use Prim.Native.Nat.{◌+◌, ◌*◌, ◌≤◌, ◌<◌}
use native.Mathlib.Omega.{arith}
use lib.ListN.{length}
use Rattle.mv_cache.specs.CacheNeeds.{near_from}
use Rattle.macroblock.specs.Slices.{slices_by}
use Rattle.macroblock_enc.specs.WrittenNeedsLaws.{put_ready, wrote_candidate, wrote_nothing, laid_candidate, laid-nothing}
use Rattle.macroblock_enc.proofs.svq1_enc_inter.inner.writing.write_chosen.Goals as goal

pub put_candidate-next-requires : goal.put_candidate-next-requires
put_candidate-next-requires c =
    let s = c in
    let a = s.args in
    put_ready a.book.now (near_from a.near) a.c a.out.now a.at s.requires.0 (omega (arith, c.if-at-bits.true))

pub returns-then-at-bits : goal.returns-then-at-bits
returns-then-at-bits c =
    let s = c in
    let a = s.args in
    let f : a.at + a.c.bits ≤ 8 * length a.out.now = omega (arith, c.if-at-bits.true) in
    record {
      candidate_written = wrote_candidate a.book.now (near_from a.near) a.c a.out.now a.at s.requires.0 _ _ f c.put_candidate-next.ensures;
      candidate_laid = laid_candidate a.canvas a.reference.now a.raised.now a.k a.c (length a.out.now) a.at (slices_by a.recon.now a.vx.now a.vy.now) _ f c.lay_candidate.ensures;
    }

pub returns : goal.returns
returns c =
    let s = c in
    let a = s.args in
    let f : 8 * length a.out.now < a.at + a.c.bits = omega (arith, c.if-at-bits.false) in
    record {
      candidate_written = wrote_nothing a.book.now (near_from a.near) a.c a.out.now a.at s.requires.0 f;
      candidate_laid = laid-nothing a.canvas a.reference.now a.raised.now a.k a.c (length a.out.now) a.at (slices_by a.recon.now a.vx.now a.vy.now) f;
    }
