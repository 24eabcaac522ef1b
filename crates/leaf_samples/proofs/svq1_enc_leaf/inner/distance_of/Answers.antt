-- A block as a vector on sums of 128 (`bytes_on_128`). Assumes nothing.
use mathlib.Core.Path.{ap, ◌∙◌}
use native.Mathlib.Omega.{arith}
use lib.ListN.{length, replicate}
use lib.Seq.{length-take-le}
use Rattle.leaf.specs.Leaf.{sse}
use Rattle.leaf_samples.specs.RaisedLaws.{bytes_on_128, alike_below}
use borrow.Author.Rules.{rules}
use Rattle.leaf_samples.proofs.svq1_enc_leaf.inner.distance_of.Goals as goal

pub vector_sse-requires : goal.vector_sse-requires
vector_sse-requires c =
    let s = c in
    (s.requires.0, length-take-le _ (replicate 256 128) s.requires.0, s.requires.1, (λ i. omega (arith, alike_below (length s.args.t.now) 256 128 i)), search rules)

pub returns : goal.returns
returns c =
    let k = c in
    let s = k in
    c.vector_sse.ensures ∙ ap (sse s.args.t.now) (rw s.requires.1 at (bytes_on_128 256 s.args.p.now (omega arith) (λ i. omega (arith, k.shared_slice_known-2-1.given i))))
