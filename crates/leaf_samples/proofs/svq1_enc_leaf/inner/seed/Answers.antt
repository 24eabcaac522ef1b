-- Done and left make the predictor with the mean on every sample; taking the bias off gives the signed sums.
use native.Mathlib.Omega.{arith}
use mathlib.Core.Path.{◌≡◌, refl, ◌∙◌, ap}
use mathlib.Core.List.{List}
use Prim.Native.Nat.{ℕ}
use lib.ListN.{length, get_or, length-set}
use Rattle.leaf.specs.LeafForms.{less}
use Rattle.leaf_samples.specs.RaisedLaws.{raised, raised-step, raised_done, raised-less, raised_le}
use borrow.Author.Rules.{rules}
use Rattle.leaf_samples.proofs.svq1_enc_leaf.inner.seed.Goals as goal

pub loop-i-init : goal.loop-i-init
loop-i-init c = (search rules, refl, refl)

pub loop-i-preserved : goal.loop-i-preserved
loop-i-preserved c =
    let l = c.loop-i in
    let s = c in
    let e : length s.args.p.now ≡ length l.a = omega arith in (
      simp length-set (search rules),
      simp length-set l.invariant.1,
      rw c.wide.ensures.0 (raised-step l.a s.args.p.now s.args.mean l.i (search rules) e ∙ l.invariant.2),
    )

pub returns : goal.returns
returns c =
    let l = c.loop-i in
    let s = c in
    let a = s.args in
    let e : l.a ≡ raised a.mean a.p.now = raised_done l.a a.p.now _ a.mean l.i (omega arith) (omega arith) l.invariant.2 in record {
      a_after = ap (less 256) e ∙ raised-less a.p.now a.mean;
      below = λ i. omega (arith, ap (λ (x : List ℕ). get_or x i 0) e, raised_le a.p.now a.mean (λ k. omega (arith, c.shared_slice_known-1.given k)) i);
    }
