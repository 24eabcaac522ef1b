-- One leaf: the copy, the search in it, and the bits. Assumes nothing.
use mathlib.Core.Path.{refl, ◌∙◌}
use native.Mathlib.Omega.{arith}
use Rattle.bits.specs.Basics.{Bytes}
use Rattle.book.specs.Level.{level_number}
use Rattle.book.specs.LevelLaws.{level_most}
use Rattle.leaf_call.specs.LeafAnswerLaws.{found_level}
use Rattle.leaf_search.specs.LevelLeafNeedsLaws.{found_fits}
use Rattle.leaf_call.proofs.svq1_enc_leaf.searched.Goals as goal

pub level_leaf-c-requires : goal.level_leaf-c-requires
level_leaf-c-requires c =
    let s = c in
    let q = s.requires in
    record {
      level = level_most s.args.level;
      target = q.target;
      predictor = q.predictor;
      sums = refl;
      samples = refl;
      copy = c.raise_codebook.auto.out ∙ q.room;
      stages = q.stages;
    }

pub book_leaf_bits-bits-requires : goal.book_leaf_bits-bits-requires
book_leaf_bits-bits-requires c =
    let s = c in
    let a = s.args in
    let q = s.requires in
    let l = c.level_leaf-c in
    let r = c.raise_codebook in
    let bytes : Bytes a.codebook.now = λ k. omega (arith, c.shared_slice_known-2-1.given k) in
    let f = found_level a.codebook.now r.new.out a.terms (level_number a.level) a.target.now a.predictor.now
    l.result _ l.new.out bytes r.ensures q.stages q.target l.ensures in
    (q.known, found_fits a.codebook.now a.terms (level_number a.level) a.target.now a.predictor.now l.result.code l.result.stages l.result.error _ q.stages q.skips f)

pub returns : goal.returns
returns c =
    let s = c in
    let a = s.args in
    let q = s.requires in
    let l = c.level_leaf-c in
    let r = c.raise_codebook in
    let bytes : Bytes a.codebook.now = λ k. omega (arith, c.shared_slice_known-2-1.given k) in
    let f = found_level a.codebook.now r.new.out a.terms (level_number a.level) a.target.now a.predictor.now
    l.result _ l.new.out bytes r.ensures q.stages q.target l.ensures in
    rw c.found_answer.ensures.0
    (record { leaf = f; counted = c.book_leaf_bits-bits.ensures l.result.stages c.found_answer.ensures.1; behind = l.ensures.behind })
