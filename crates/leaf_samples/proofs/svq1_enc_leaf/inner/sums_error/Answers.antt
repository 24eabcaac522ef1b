-- The sums with a vector of zeros added (`zero_vector_adds`). Assumes nothing.
use mathlib.Core.Path.{◌≡◌, ap, ◌∙◌}
use mathlib.Core.List.{List}
use Prim.Native.Nat.{◌+◌, ◌-◌}
use native.Mathlib.Omega.{arith}
use lib.IntN.{ℤ}
use lib.ListN.{replicate}
use lib.Seq.{length-take-le}
use Rattle.leaf.specs.Leaf.{sse, samples}
use Rattle.leaf_samples.specs.RaisedLaws.{zero_vector_adds}
use borrow.Author.Rules.{rules}
use Rattle.leaf_samples.proofs.svq1_enc_leaf.inner.sums_error.Goals as goal

pub vector_sse-requires : goal.vector_sse-requires
vector_sse-requires c =
    let s = c in
    (s.requires.0, s.requires.1, length-take-le _ (replicate 256 128) s.requires.0, (λ i. omega (arith, s.requires.2 i)), search rules)

pub returns : goal.returns
returns c =
    let s = c in
    let e : s.args.bias + 128 - 128 ≡ s.args.bias = omega arith in
    (rw e at c.vector_sse.ensures) ∙ ap (λ (z : List ℤ). sse s.args.t.now (samples z)) (rw s.requires.1 at (zero_vector_adds 256 s.args.bias s.args.a.now (omega arith)))
