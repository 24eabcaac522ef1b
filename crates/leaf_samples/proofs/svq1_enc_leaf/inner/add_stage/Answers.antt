-- One of sixteen vectors from the base on lies within them, so its end is within the book.
use native.Mathlib.Omega.{arith}
use mathlib.Core.Path.{◌≡◌}
use Prim.Native.Nat.{◌≤◌, ◌*◌, ◌-◌, ◌+◌}
use lib.ListN.{length}
use Rattle.leaf_samples.specs.RaisedLaws.{part_room}
use borrow.Author.Rules.{rules}
use Rattle.leaf_samples.proofs.svq1_enc_leaf.inner.add_stage.Goals as goal
use Rattle.leaf_samples.proofs.svq1_enc_leaf.inner.add_stage.Goals.{After-shared_slice_known-1}

room : (c : After-shared_slice_known-1) → length c.args.a.now * c.args.j + length c.args.a.now ≤ length c.args.a.now * 16
room c = part_room (length c.args.a.now) c.args.j 16 (search rules)

pub overflow_mul-at : goal.overflow_mul-at
overflow_mul-at c = omega (arith, room c)

pub overflow_add-at : goal.overflow_add-at
overflow_add-at c = omega (arith, room c)

pub overflow_add-end : goal.overflow_add-end
overflow_add-end c = omega (arith, room c)

pub slice_bounds-add_vector-end : goal.slice_bounds-add_vector-end
slice_bounds-add_vector-end c = omega (arith, room (goal.at.slice_bounds-add_vector-end c).After-shared_slice_known-1)

pub returns : goal.returns
returns c =
    let a = c.args in
    let at = a.base + length a.a.now * a.j in
    let e : at + length a.a.now - at ≡ length a.a.now = omega arith in
    record {
      a_after = rw e at c.add_vector.ensures.a_after;
      by_index = c.add_vector.ensures.by_index;
    }
