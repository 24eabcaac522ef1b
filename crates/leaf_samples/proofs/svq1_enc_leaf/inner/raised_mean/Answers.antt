-- The mean by its position in the half's table. Assumes nothing.
use Rattle.codebook.specs.Mean.{mean_position}
use mir.Syntax.{w16}
use mir.ValLaws.{to_z-of_z}
use mathlib.Core.Path.{◌≡◌}
use native.Mathlib.Omega.{arith}
use Rattle.leaf_samples.specs.ShowNeedsLaws.{mean_few, mean_intra, mean_inter}
use Rattle.leaf_samples.proofs.svq1_enc_leaf.inner.raised_mean.Goals as goal

pub overflow_cast-k : goal.overflow_cast-k
overflow_cast-k c =
    let s = c in
    let k : c.mean_position-k.result ≡ mean_position s.args.half s.args.mean = simp (to_z-of_z w16 s.args.mean s.ranges.mean) at c.mean_position-k.ensures in
    let few = mean_few s.args.half s.args.mean s.requires in
    omega (arith, k)

pub overflow_add-result : goal.overflow_add-result
overflow_add-result c =
    let s = c in
    let k : c.mean_position-k.result ≡ mean_position s.args.half s.args.mean = simp (to_z-of_z w16 s.args.mean s.ranges.mean) at c.mean_position-k.ensures in
    let m = mean_intra s.args.half s.args.mean _ s.requires k c.in-Intra.is in
    omega (arith, m.1)

pub returns-in-Intra : goal.returns-in-Intra
returns-in-Intra c =
    let s = c in
    let k : c.mean_position-k.result ≡ mean_position s.args.half s.args.mean = simp (to_z-of_z w16 s.args.mean s.ranges.mean) at c.mean_position-k.ensures in
    mean_intra s.args.half s.args.mean _ s.requires k c.in-Intra.is

pub returns-in-Inter : goal.returns-in-Inter
returns-in-Inter c =
    let s = c in
    let k : c.mean_position-k.result ≡ mean_position s.args.half s.args.mean = simp (to_z-of_z w16 s.args.mean s.ranges.mean) at c.mean_position-k.ensures in
    mean_inter s.args.half s.args.mean _ s.requires k c.in-Inter.is
