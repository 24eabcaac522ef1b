-- One leaf, at the front of longer slices. Assumes nothing.
use Rattle.book.specs.Level.{level_number}
use lib.ListN.{length, drop}
use lib.Seq.{length-take-le, take_at, drop_at}
use Rattle.leaf.specs.AgreeLaws.{page_room}
use Rattle.bits.specs.BasicsLaws.{front_size}
use Rattle.leaf_search.specs.LevelLeafNeedsLaws.{area_range, cap_small}
use mathlib.Core.Path.{◌≡◌, ◌∙◌, sym}
use Prim.Native.Nat.{◌≤◌}
use native.Mathlib.Omega.{arith}
use Rattle.leaf_search.proofs.svq1_enc_leaf.inner.level_leaf.Goals as goal

pub slice_bounds-choose_leaf-end : goal.slice_bounds-choose_leaf-end
slice_bounds-choose_leaf-end c =
    let s = c in
    let a = s.args in
    let q = s.requires in
    let m = area_range (level_number a.level) q.level in
    let n = length a.t.now in
    omega (arith, q.sums, q.target, m.1)

pub slice_bounds-choose_leaf-end-2 : goal.slice_bounds-choose_leaf-end-2
slice_bounds-choose_leaf-end-2 c =
    let s = c in
    let a = s.args in
    let q = s.requires in
    let m = area_range (level_number a.level) q.level in
    let n = length a.t.now in
    sym (length-take-le n a.a.now (omega (arith, q.sums, q.target, m.1)))

pub slice_bounds-choose_leaf-end-3 : goal.slice_bounds-choose_leaf-end-3
slice_bounds-choose_leaf-end-3 c =
    let s = c in
    let a = s.args in
    let q = s.requires in
    let m = area_range (level_number a.level) q.level in
    let n = length a.t.now in
    omega (arith, q.samples, q.target, m.1)

pub slice_bounds-choose_leaf-end-4 : goal.slice_bounds-choose_leaf-end-4
slice_bounds-choose_leaf-end-4 c =
    let s = c in
    let a = s.args in
    let q = s.requires in
    let m = area_range (level_number a.level) q.level in
    let n = length a.t.now in
    sym (length-take-le n a.out.now (omega (arith, q.samples, q.target, m.1)))

pub choose_leaf-requires : goal.choose_leaf-requires
choose_leaf-requires c =
    let s = c in
    let a = s.args in
    let q = s.requires in
    let m = area_range (level_number a.level) q.level in
    let n = length a.t.now in
    let d = level_number a.level in
    let e = rw c.number.ensures.0 at c.page_start-base.ensures in
    let f = c.terms_at-open.ensures in
    record {
      few = omega (arith, q.target, m.1);
      some = omega (arith, q.target, m.0);
      predictor = q.predictor ∙ sym q.target;
      sums = length-take-le n a.a.now (omega (arith, q.sums, q.target, m.1));
      shown = length-take-le n a.out.now (omega (arith, q.samples, q.target, m.1));
      stages = rw f (cap_small d a.terms.cap q.stages);
      page = rw (e, f, q.target, q.copy) (page_room a.terms.half d a.terms.cap q.stages);
    }

pub shape_of-a : goal.shape_of-a
shape_of-a c =
    let s = c in
    let a = s.args in
    let q = s.requires in
    let m = area_range (level_number a.level) q.level in
    let n = length a.t.now in
    let w = c.choose_leaf in
    let room : n ≤ length a.a.now = omega (arith, q.sums, q.target, m.1) in
    front_size w.new.a a.a.now n (w.auto.a ∙ length-take-le n a.a.now room) room

pub shape_of-out : goal.shape_of-out
shape_of-out c =
    let s = c in
    let a = s.args in
    let q = s.requires in
    let m = area_range (level_number a.level) q.level in
    let n = length a.t.now in
    let w = c.choose_leaf in
    let room : n ≤ length a.out.now = omega (arith, q.samples, q.target, m.1) in
    front_size w.new.out a.out.now n (w.auto.out ∙ length-take-le n a.out.now room) room

pub returns : goal.returns
returns c =
    let s = c in
    let a = s.args in
    let q = s.requires in
    let m = area_range (level_number a.level) q.level in
    let n = length a.t.now in
    let d = level_number a.level in
    let e = rw c.number.ensures.0 at c.page_start-base.ensures in
    let f = c.terms_at-open.ensures in
    let w = c.choose_leaf in
    let new = w.new.out in
    let size : length new ≡ n = w.auto.out ∙ length-take-le n a.out.now (omega (arith, q.samples, q.target, m.1)) in
    record { chosen = rw (take_at new (drop n a.out.now) n size, ← e, ← f) w.ensures; behind = drop_at new (drop n a.out.now) n size }
