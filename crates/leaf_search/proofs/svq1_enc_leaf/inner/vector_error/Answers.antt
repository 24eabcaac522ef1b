-- One of sixteen vectors from the base on lies within them, so its end is within the book.
use native.Mathlib.Omega.{arith}
use mathlib.Core.Path.{◌≡◌}
use Prim.Native.Nat.{◌≤◌, ◌*◌, ◌-◌, ◌+◌}
use lib.ListN.{length}
use Rattle.leaf.specs.LeafForms.{vector_error, vector}
use Rattle.leaf_samples.specs.RaisedLaws.{part_room}
use borrow.Author.Rules.{rules}
use Rattle.leaf_search.proofs.svq1_enc_leaf.inner.vector_error.Goals as goal
use Rattle.leaf_search.proofs.svq1_enc_leaf.inner.vector_error.Goals.{After-shared_slice_known-3-1}

room : (c : After-shared_slice_known-3-1) → length c.args.t.now * c.args.j + length c.args.t.now ≤ length c.args.t.now * 16
room c = part_room (length c.args.t.now) c.args.j 16 (search rules)

pub overflow_mul-at : goal.overflow_mul-at
overflow_mul-at c = omega (arith, room c)

pub overflow_add-at : goal.overflow_add-at
overflow_add-at c = omega (arith, room c)

pub overflow_add-end : goal.overflow_add-end
overflow_add-end c = omega (arith, room c)

pub slice_bounds-vector_sse-end : goal.slice_bounds-vector_sse-end
slice_bounds-vector_sse-end c = omega (arith, room c)

pub returns : goal.returns
unfolding vector_error vector
returns c =
    let a = c.args in
    let at = a.base + length a.t.now * a.j in
    let e : at + length a.t.now - at ≡ length a.t.now = omega arith in
    let f : a.bias + 128 - 128 ≡ a.bias = omega arith in
    rw (e, f) at c.vector_sse.ensures
