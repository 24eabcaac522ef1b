-- A leaf by the raised copy is one by the codebook, and its mean has an entry. Assumes nothing.
use native.Mathlib.Omega.{arith}
use Rattle.bits.specs.Basics.{Bytes}
use Rattle.book.specs.Level.{level_number}
use Rattle.leaf_search.specs.LevelLeafNeedsLaws.{found_fits}
use Rattle.tree.specs.Blocks.{level}
use Rattle.plan.specs.PlanNeedsLaws.{leaf_ready, leaf_by, leaf_at_lem}
use Rattle.plan.proofs.svq1_enc_tree.inner.leaves.plan_leaf.Goals as goal

pub leaf_in-c-requires : goal.leaf_in-c-requires
leaf_in-c-requires c =
    let a = c.args in
    leaf_ready a.terms a.book.now a.codebook.now a.raised.now (level_number a.level) a.target.now a.predictor.now a.i c.requires.0 c.requires.1

pub book_leaf_bits-bits-requires : goal.book_leaf_bits-bits-requires
book_leaf_bits-bits-requires c =
    let a = c.args in
    let q = c.requires.0 in
    let bytes : Bytes a.codebook.now = λ k. omega (arith, c.shared_slice_known-2-1.given k) in
    let f = leaf_by a.terms a.book.now a.codebook.now a.raised.now (level_number a.level) a.target.now a.predictor.now a.i c.leaf_in-c.result q c.requires.1 bytes c.leaf_in-c.ensures in
    (q.good, found_fits a.codebook.now a.terms (level a.i) _ _ _ _ _ _ q.few q.inter f)

pub returns : goal.returns
returns c =
    let a = c.args in
    let bytes : Bytes a.codebook.now = λ k. omega (arith, c.shared_slice_known-2-1.given k) in
    let e = c.level_of.ensures in
    rw c.as_leaf.ensures.0
    (leaf_at_lem a.terms a.book.now a.codebook.now a.raised.now (level_number a.level) a.target.now a.predictor.now a.i c.leaf_in-c.result c.requires.0 c.requires.1 bytes c.leaf_in-c.ensures _
    (rw e at (c.book_leaf_bits-bits.ensures c.leaf_in-c.result.stages c.as_leaf.ensures.1)))
