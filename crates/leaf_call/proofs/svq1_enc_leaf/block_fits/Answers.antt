-- 8, test by test. Assumes nothing.
use mathlib.Core.Bool.{Bool, not, ◌&&◌}
use lib.Dec.{eqb}
use mathlib.Core.Path.{◌≡◌, ◌∙◌, sym, ap}
use native.Mathlib.Omega.{arith}
use Rattle.book.specs.Level.{area}
use Rattle.leaf_call.specs.LeafAnswerLaws.{no_level, no_half, no_target, no_predictor, last_test}
use Rattle.leaf_call.proofs.svq1_enc_leaf.block_fits.Goals as goal

pub returns-then-level-gt5 : goal.returns-then-level-gt5
returns-then-level-gt5 c =
    let a = c.args in
    no_level a.level a.half a.target a.predictor a.cap a.skip c.if-level-gt5.true

pub returns-then-half-gt1 : goal.returns-then-half-gt1
returns-then-half-gt1 c =
    let a = c.args in
    no_half a.level a.half a.target a.predictor a.cap a.skip c.if-level-gt5.false c.if-half-gt1.true

pub returns-then-target-n : goal.returns-then-target-n
returns-then-target-n c =
    let a = c.args in
    let n : c.vector_length-n.result ≡ area a.level = rw c.level_at.ensures at c.vector_length-n.ensures in
    no_target a.level a.half a.target a.predictor a.cap a.skip c.if-level-gt5.false c.if-half-gt1.false _ n c.if-target-n.true

pub returns-then-predictor-n : goal.returns-then-predictor-n
returns-then-predictor-n c =
    let a = c.args in
    let n : c.vector_length-n.result ≡ area a.level = rw c.level_at.ensures at c.vector_length-n.ensures in
    no_predictor a.level a.half a.target a.predictor a.cap a.skip c.if-level-gt5.false c.if-half-gt1.false _ n c.if-target-n.false c.if-predictor-n.true

pub returns-then-skip : goal.returns-then-skip
returns-then-skip c =
    let a = c.args in
    let n : c.vector_length-n.result ≡ area a.level = rw c.level_at.ensures at c.vector_length-n.ensures in
    let l = last_test a.level a.half a.target a.predictor a.cap a.skip c.if-level-gt5.false c.if-half-gt1.false _ n c.if-target-n.false c.if-predictor-n.false (omega arith) in
    ap (λ (s : Bool). not (s && eqb a.half 0)) (sym c.if-skip.true) ∙ l

pub returns : goal.returns
returns c =
    let a = c.args in
    let n : c.vector_length-n.result ≡ area a.level = rw c.level_at.ensures at c.vector_length-n.ensures in
    let l = last_test a.level a.half a.target a.predictor a.cap a.skip c.if-level-gt5.false c.if-half-gt1.false _ n c.if-target-n.false c.if-predictor-n.false (omega arith) in
    ap (λ (s : Bool). not (s && eqb a.half 0)) (sym c.if-skip.false) ∙ l
