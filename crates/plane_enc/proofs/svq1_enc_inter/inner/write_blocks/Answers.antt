-- Each macroblock is one step of the run, told as it is taken; what is left of the run gives the whole. Assumes nothing.
use mathlib.Core.Path.{◌≡◌, ap, sym, ◌∙◌}
use Rattle.bits.specs.CallsLaws.{told_none, told_some}
use Prim.Native.Nat.{◌<◌, ◌*◌, ◌/◌}
use lib.ListN.{length}
use Rattle.macroblock.specs.Macroblock.{Given}
use Rattle.macroblock.specs.Choice.{Task}
use Rattle.macroblock_choice.specs.ChosenNeeds.{task_in}
use Rattle.macroblock.specs.Slices.{slices_by, Lent, lent_by, x_slice, y_slice}
use Rattle.macroblock.specs.MacroblockNeeds.{given_by}
use Rattle.plane.specs.Plane.{count}
use Rattle.plane.specs.RefusalsLaws.{count_by, count_most}
use Rattle.macroblock_enc.specs.LimitForms.{limit_of}
use Rattle.plane_enc.specs.StatedLaws.{length_in, telling_begun, telling_turn}
use Rattle.plane_enc.specs.WriterNeeds.{Writes}
use Rattle.plane_enc.specs.WriterNeedsLaws.{begun, ready, few, low, turn, stop_early, stop_last}
use native.Mathlib.Omega.{arith}
use Rattle.plane_enc.proofs.svq1_enc_inter.inner.write_blocks.Goals as goal
use Rattle.plane_enc.proofs.svq1_enc_inter.inner.write_blocks.Goals.{After-struct_known-2-1, In-loop-k}

-- ---- before the loop: the plane, what is asked, what is lent, and that nothing refuses it
abbrev plane : After-struct_known-2-1 → Given
plane e = let a = e.args in given_by a.canvas a.reference.now a.book.now a.codebook.now

abbrev task : After-struct_known-2-1 → Task
task e = let a = e.args in task_in a.source.now a.settings (limit_of a.limit)

abbrev lent : After-struct_known-2-1 → Lent
lent e = let a = e.args in lent_by a.out.now (slices_by a.recon.now a.vx.now a.vy.now)

writes : (e : After-struct_known-2-1) → Writes (plane e) e.args.raised.now (task e) e.args.start (lent e)
writes e = record {
  ready = e.requires.0;
  samples = e.requires.1;
  source_bytes = λ j. (e.shared_slice_known-1.given j).fits;
  reference_bytes = λ j. (e.shared_slice_known-2-1.given j).fits;
}

-- ---- in the loop
-- macroblock k is one of the plane's
below : (d : In-loop-k) → d.loop-k.k < count (given_by d.args.canvas d.args.reference.now d.args.book.now d.args.codebook.now)
below d = rw (count_by (given_by d.args.canvas d.args.reference.now d.args.book.now d.args.codebook.now) d.args.raised.now d.requires.0.ok) at d.loop-k-test.true

pub overflow_mul-count : goal.overflow_mul-count
overflow_mul-count c = omega (arith, count_by (plane c) _ c.requires.0.ok, count_most (plane c) _ c.requires.0.ok)

pub loop-k-init : goal.loop-k-init
loop-k-init c =
    let a = c.args in
    (begun (writes c) c.requires.2.skips_rest, telling_begun (plane c) (task c) a.start (lent c) a.stated.now)

pub write_macroblock-r-requires : goal.write_macroblock-r-requires
write_macroblock-r-requires c =
    let d = c in
    let e = d in
    let i = d.loop-k.invariant.0 in
    (ready (writes (goal.at.write_macroblock-r-requires c).After-struct_known-2-1) i (below (goal.at.write_macroblock-r-requires c).In-loop-k), record { skips_rest = i.skips_rest; few = c.requires.2.few })

pub shape_of-out-then-is_some : goal.shape_of-out-then-is_some
shape_of-out-then-is_some c = c.write_macroblock-r.auto.out ∙ c.loop-k.invariant.0.out_same

pub shape_of-recon-then-is_some : goal.shape_of-recon-then-is_some
shape_of-recon-then-is_some c = c.write_macroblock-r.auto.recon ∙ c.loop-k.invariant.0.same.recon

pub shape_of-vx-then-is_some : goal.shape_of-vx-then-is_some
shape_of-vx-then-is_some c = c.write_macroblock-r.auto.vx ∙ c.loop-k.invariant.0.same.blocks x_slice

pub shape_of-vy-then-is_some : goal.shape_of-vy-then-is_some
shape_of-vy-then-is_some c = c.write_macroblock-r.auto.vy ∙ c.loop-k.invariant.0.same.blocks y_slice

pub shape_of-stated-then-is_some : goal.shape_of-stated-then-is_some
shape_of-stated-then-is_some c = ap length c.loop-k.invariant.1.stated ∙ length_in _ _ _ _ _ _ _

pub returns-then-is_some : goal.returns-then-is_some
returns-then-is_some c =
    let d = c in
    let e = d in
    record { written = stop_early (writes (goal.at.returns-then-is_some c).After-struct_known-2-1) d.loop-k.invariant.0 (below (goal.at.returns-then-is_some c).In-loop-k) c.write_macroblock-r.ensures (told_some _ (sym c.is_some.ensures ∙ c.if-is_some.true)); stated = d.loop-k.invariant.1.stated }

pub overflow_add-bits : goal.overflow_add-bits
overflow_add-bits c =
    let d = c in
    let e = d in
    let i = d.loop-k.invariant.0 in
    omega (arith, below (goal.at.overflow_add-bits c).In-loop-k, i.few_bits, few (writes (goal.at.overflow_add-bits c).After-struct_known-2-1) i (below (goal.at.overflow_add-bits c).In-loop-k) c.write_macroblock-r.ensures, count_most (plane (goal.at.overflow_add-bits c).After-struct_known-2-1) _ c.requires.0.ok)

pub overflow_add-error : goal.overflow_add-error
overflow_add-error c =
    let d = c in
    let e = d in
    let i = d.loop-k.invariant.0 in
    omega (arith, below (goal.at.overflow_add-error c).In-loop-k, i.low_error, low (writes (goal.at.overflow_add-error c).After-struct_known-2-1) i (below (goal.at.overflow_add-error c).In-loop-k) c.write_macroblock-r.ensures, count_most (plane (goal.at.overflow_add-error c).After-struct_known-2-1) _ c.requires.0.ok)

pub loop-k-preserved : goal.loop-k-preserved
loop-k-preserved c =
    let d = c in
    let e = d in
    let l = d.loop-k in
    let a = c.args in
    let w = c.write_macroblock-r in (
      turn (writes (goal.at.loop-k-preserved c).After-struct_known-2-1) l.invariant.0 (below (goal.at.loop-k-preserved c).In-loop-k) w.ensures w.auto.out (told_none _ (sym c.is_some.ensures ∙ c.if-is_some.false)),
      telling_turn (plane (goal.at.loop-k-preserved c).After-struct_known-2-1) (task (goal.at.loop-k-preserved c).After-struct_known-2-1) a.start (lent (goal.at.loop-k-preserved c).After-struct_known-2-1) a.stated.now l.k l.bits l.at _ _ _ w.ensures _ _ (told_none _ (sym c.is_some.ensures ∙ c.if-is_some.false)) l.invariant.1 c.tell.ensures,
    )

pub shape_of-out : goal.shape_of-out
shape_of-out c = c.loop-k.invariant.0.out_same

pub shape_of-recon : goal.shape_of-recon
shape_of-recon c = c.loop-k.invariant.0.same.recon

pub shape_of-vx : goal.shape_of-vx
shape_of-vx c = c.loop-k.invariant.0.same.blocks x_slice

pub shape_of-vy : goal.shape_of-vy
shape_of-vy c = c.loop-k.invariant.0.same.blocks y_slice

pub shape_of-stated : goal.shape_of-stated
shape_of-stated c = ap length c.loop-k.invariant.1.stated ∙ length_in _ _ _ _ _ _ _

pub returns : goal.returns
returns c =
    let l = c.loop-k in
    let whole : l.k ≡ c.args.canvas.rows / 16 * (c.args.canvas.stride / 16) = omega (arith, c.loop-k-test.false) in
    record {
      written = rw whole at (stop_last (writes (goal.at.returns c).After-struct_known-2-1) l.invariant.0 (rw (count_by (plane (goal.at.returns c).After-struct_known-2-1) _ c.requires.0.ok) at c.loop-k-test.false));
      stated = rw whole at l.invariant.1.stated;
    }
