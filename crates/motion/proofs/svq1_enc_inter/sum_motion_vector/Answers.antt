-- Refused as the search is; 23 for a vector beyond -32..31; else both vectors raised, and what is answered of the spot.
use Rattle.std.proofs.Common.{rules, sym, ◌∙◌, arith, w32}
use Rattle.std.proofs.lemmas.Int.{to_z-of_z}
use Rattle.bits.specs.CallsLaws.{answer_met}
use Rattle.compensation.specs.RowForms.{best_or_none}
use Rattle.motion.specs.Search.{Search}
use Rattle.motion.specs.Sum.{sum_answer}
use Rattle.motion.specs.SearchCall.{Raised}
use Rattle.motion.specs.SearchCallLaws.{passes, ready, spot_is}
use Rattle.motion.specs.SumCallLaws.{vector_is, sum_beyond, spot_told}
use Rattle.motion.proofs.svq1_enc_inter.sum_motion_vector.Goals as goal

pub returns-in_err-check_search : goal.returns-in_err-check_search
unfolding sum_answer
returns-in_err-check_search c = search (rules, answer_met, c.in_err-check_search.ensures)

pub returns-then-not-vector_ok : goal.returns-then-not-vector_ok
returns-then-not-vector_ok c =
    let a = c.args in
    let g : Search = record { reference = record { samples = a.reference.now; stride = a.stride; rows = a.rows }; width = a.width; height = a.height; target = a.target.now; side = a.side; x = a.x; y = a.y; predictor = a.predictor; radius = 0 } in
    sum_beyond g a.v (best_or_none a.best) (sym c.in_ok-check_search.ensures) (sym c.vector_ok.ensures ∙ c.if-not-vector_ok.true)

pub raise-px-requires : goal.raise-px-requires
raise-px-requires c =
    let a = c.args in
    let g : Search = record { reference = record { samples = a.reference.now; stride = a.stride; rows = a.rows }; width = a.width; height = a.height; target = a.target.now; side = a.side; x = a.x; y = a.y; predictor = a.predictor; radius = 0 } in
    let p = passes g (sym c.in_ok-check_search.ensures) in
    rw (to_z-of_z w32 a.predictor.x (record { sfits = omega arith })) p.px

pub raise-py-requires : goal.raise-py-requires
raise-py-requires c =
    let a = c.args in
    let g : Search = record { reference = record { samples = a.reference.now; stride = a.stride; rows = a.rows }; width = a.width; height = a.height; target = a.target.now; side = a.side; x = a.x; y = a.y; predictor = a.predictor; radius = 0 } in
    let p = passes g (sym c.in_ok-check_search.ensures) in
    rw (to_z-of_z w32 a.predictor.y (record { sfits = omega arith })) p.py

pub summed-requires : goal.summed-requires
summed-requires c =
    let a = c.args in
    let g : Search = record { reference = record { samples = a.reference.now; stride = a.stride; rows = a.rows }; width = a.width; height = a.height; target = a.target.now; side = a.side; x = a.x; y = a.y; predictor = a.predictor; radius = 0 } in
    let p : Raised a.predictor.x c.raise-px.result = simp (to_z-of_z w32 a.predictor.x (record { sfits = omega arith })) at c.raise-px.ensures in
    let q : Raised a.predictor.y c.raise-py.result = simp (to_z-of_z w32 a.predictor.y (record { sfits = omega arith })) at c.raise-py.ensures in
    (ready g _ _ p q (sym c.in_ok-check_search.ensures) (omega arith), omega (arith, c.raise-ux.ensures), omega (arith, c.raise-uy.ensures))

pub returns : goal.returns
returns c =
    let a = c.args in
    let g : Search = record { reference = record { samples = a.reference.now; stride = a.stride; rows = a.rows }; width = a.width; height = a.height; target = a.target.now; side = a.side; x = a.x; y = a.y; predictor = a.predictor; radius = 0 } in
    let p : Raised a.predictor.x c.raise-px.result = simp (to_z-of_z w32 a.predictor.x (record { sfits = omega arith })) at c.raise-px.ensures in
    let q : Raised a.predictor.y c.raise-py.result = simp (to_z-of_z w32 a.predictor.y (record { sfits = omega arith })) at c.raise-py.ensures in
    let ux : Raised a.v.x c.raise-ux.result = simp (to_z-of_z w32 a.v.x (record { sfits = omega arith })) at c.raise-ux.ensures in
    let uy : Raised a.v.y c.raise-uy.result = simp (to_z-of_z w32 a.v.y (record { sfits = omega arith })) at c.raise-uy.ensures in
    c.summed.ensures ∙ spot_told _ g _ a.v (best_or_none a.best) (spot_is g _ _ p q) (vector_is a.v _ _ ux uy) (sym c.in_ok-check_search.ensures)
