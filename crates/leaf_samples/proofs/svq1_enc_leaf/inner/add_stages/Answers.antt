-- The stages' vectors, one after the other. Assumes nothing.
use Rattle.leaf_samples.specs.RaisedLaws.{part_room}
use Rattle.leaf_samples.specs.ShowNeedsLaws.{stage_added, all_added}
use lib.ListN.{length}
use mathlib.Core.Path.{refl}
use Prim.Native.Nat.{◌*◌}
use native.Mathlib.Omega.{arith}
use borrow.Author.Rules.{rules}
use Rattle.leaf_samples.proofs.svq1_enc_leaf.inner.add_stages.Goals as goal

pub loop-k-init : goal.loop-k-init
loop-k-init c =
    let s = c in
    record { within = omega arith; same = refl; place = omega arith; low = λ i. omega (arith, s.requires.low i); sums = refl }

pub add_stage-requires : goal.add_stage-requires
add_stage-requires c =
    let s = c in
    let l = c.loop-k in
    let room = part_room (length s.args.a.now * 16) l.k s.args.count (search rules) in
    (omega (arith, l.invariant.place, l.invariant.same, s.requires.stages.page), s.requires.stages.small l.k (search rules), (λ i. omega (arith, l.invariant.low i, s.requires.stages.most)))

pub overflow_mul-at : goal.overflow_mul-at
overflow_mul-at c = let s = c in omega (arith, s.requires.few)

pub overflow_add-at : goal.overflow_add-at
overflow_add-at c =
    let s = c in
    let l = c.loop-k in
    let room = part_room (length s.args.a.now * 16) l.k s.args.count (search rules) in
    omega (arith, l.invariant.place, s.requires.stages.page)

pub loop-k-preserved : goal.loop-k-preserved
loop-k-preserved c =
    let s = c in
    let l = c.loop-k in
    let d = c.add_stage in
    stage_added s.args.a.now s.args.book.now s.args.base s.args.count _ l.a l.at l.k l.invariant (search rules) (omega (arith, s.requires.stages.most)) _ refl _ d.ensures.a_after d.auto.a d.ensures.by_index

pub shape_of-a : goal.shape_of-a
shape_of-a c = c.loop-k.invariant.same

pub returns : goal.returns
returns c =
    let s = c in
    let l = c.loop-k in
    all_added s.args.a.now s.args.book.now s.args.base s.args.count _ l.a l.at l.k l.invariant c.loop-k-test.false
