-- Above its own level no block lies; on it or below, the first blocks of the level do.
use Rattle.std.proofs.Common.{◌≡◌, sym, ap, ◌∙◌, arith, le-leb}
use Rattle.std.proofs.lemmas.Bool.{lt-leb}
use Rattle.book.specs.Level.{level_number}
use Rattle.tree.specs.Blocks.{first, level}
use Rattle.tree_samples.specs.SubtreeForms.{in_tree}
use Rattle.tree_samples.specs.SubtreeFormsLaws.{behind}
use Rattle.plan.proofs.svq1_enc_tree.inner.leaves.in_tree.Goals as goal

pub returns-then-d-e : goal.returns-then-d-e
unfolding in_tree
returns-then-d-e c =
    let d = c.number-d.ensures.0 in
    let e = c.number-e.ensures.0 ∙ c.level_of-own.ensures in
    sym (rw (lt-leb (level c.args.i) (level_number c.args.level) (omega (arith, c.if-d-e.true, d, e))))

pub overflow_sub-result : goal.overflow_sub-result
overflow_sub-result c =
    let f : c.first_of.result ≡ first (level c.args.i) = c.first_of.ensures ∙ ap first c.level_of-own.ensures in
    omega (arith, f, behind c.args.i (omega (arith, c.requires)))

pub returns : goal.returns
unfolding in_tree
returns c =
    let a = c.args in
    let d = c.number-d.ensures.0 in
    let e = c.number-e.ensures.0 ∙ c.level_of-own.ensures in
    let f : c.first_of.result ≡ first (level a.i) = c.first_of.ensures ∙ ap first c.level_of-own.ensures in
    rw (f, c.blocks_under.ensures, d, e, le-leb (level a.i) (level_number a.level) (omega (arith, c.if-d-e.false, d, e)))
