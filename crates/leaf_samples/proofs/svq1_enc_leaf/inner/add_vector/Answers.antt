-- Done and left make the whole list; what is not yet added to is as it came, so the bound of each sum still holds.
use native.Mathlib.Omega.{arith}
use mathlib.Core.Path.{◌≡◌, refl, ◌∙◌}
use lib.ListN.{length, length-set}
use Rattle.leaf.specs.LeafForms.{plus_n}
use Rattle.leaf_samples.specs.RaisedLaws.{plus_n-step, plus_n_done, plus_n_le, drop_next, front_same, drop_more}
use borrow.Author.Rules.{rules}
use Rattle.leaf_samples.proofs.svq1_enc_leaf.inner.add_vector.Goals as goal

pub loop-i-init : goal.loop-i-init
loop-i-init c = (search rules, refl, refl, refl)

pub overflow_add-a : goal.overflow_add-a
overflow_add-a c =
    let l = c.loop-i in
    let s = c in
    omega (arith, front_same l.a s.args.a.now l.i l.invariant.2, s.requires.1 l.i)

pub loop-i-preserved : goal.loop-i-preserved
loop-i-preserved c =
    let l = c.loop-i in
    let s = c in
    let e : length s.args.w.now ≡ length l.a = omega arith in (
      simp length-set (search rules),
      simp length-set l.invariant.1,
      drop_next l.a l.i _ ∙ drop_more l.a s.args.a.now l.i l.invariant.2,
      rw c.wide.ensures.0 (plus_n-step l.a s.args.w.now l.i (search rules) e ∙ l.invariant.3),
    )

pub returns : goal.returns
returns c =
    let l = c.loop-i in
    let a = c.args in
    let e : l.a ≡ plus_n a.a.now a.w.now = plus_n_done l.a a.w.now _ l.i (omega arith) l.invariant.3 in
    record {
      a_after = e;
      by_index = rw e (plus_n_le a.a.now a.w.now (λ i. omega (arith, c.shared_slice_known-1.given i)));
    }
