-- A call that passes makes the search's spot, with the predictor raised; what it finds, lowered, is the definition's answer.
use Rattle.std.proofs.Common.{rules, sym, ◌∙◌, ap, arith, w32}
use Rattle.std.proofs.lemmas.Int.{to_z-of_z}
use Rattle.bits.specs.CallsLaws.{answer_met}
use Rattle.motion.specs.Search.{Search, Best, search_best, search_answer, vector_of, vector_answer}
use Rattle.motion.specs.SearchCall.{Raised}
use Rattle.motion.specs.SearchCallLaws.{passes, ready, spot_is, answer_found}
use Rattle.motion.proofs.svq1_enc_inter.search_motion_vector.Goals as goal

pub returns-in_err-check_search : goal.returns-in_err-check_search
unfolding search_answer
returns-in_err-check_search c = search (rules, answer_met, c.in_err-check_search.ensures)

pub raise-px-requires : goal.raise-px-requires
raise-px-requires c =
    let a = c.args in
    let g : Search = record { reference = record { samples = a.reference.now; stride = a.stride; rows = a.rows }; width = a.width; height = a.height; target = a.target.now; side = a.side; x = a.x; y = a.y; predictor = a.predictor; radius = a.radius } in
    let p = passes g (sym c.in_ok-check_search.ensures) in
    rw (to_z-of_z w32 a.predictor.x (record { sfits = omega arith })) p.px

pub raise-py-requires : goal.raise-py-requires
raise-py-requires c =
    let a = c.args in
    let g : Search = record { reference = record { samples = a.reference.now; stride = a.stride; rows = a.rows }; width = a.width; height = a.height; target = a.target.now; side = a.side; x = a.x; y = a.y; predictor = a.predictor; radius = a.radius } in
    let p = passes g (sym c.in_ok-check_search.ensures) in
    rw (to_z-of_z w32 a.predictor.y (record { sfits = omega arith })) p.py

pub search_best-requires : goal.search_best-requires
search_best-requires c =
    let a = c.args in
    let g : Search = record { reference = record { samples = a.reference.now; stride = a.stride; rows = a.rows }; width = a.width; height = a.height; target = a.target.now; side = a.side; x = a.x; y = a.y; predictor = a.predictor; radius = a.radius } in
    let p : Raised a.predictor.x c.raise-px.result = simp (to_z-of_z w32 a.predictor.x (record { sfits = omega arith })) at c.raise-px.ensures in
    let q : Raised a.predictor.y c.raise-py.result = simp (to_z-of_z w32 a.predictor.y (record { sfits = omega arith })) at c.raise-py.ensures in
    rw c.from.ensures (ready g _ _ p q (sym c.in_ok-check_search.ensures) (omega arith))

pub returns : goal.returns
returns c =
    let a = c.args in
    let g : Search = record { reference = record { samples = a.reference.now; stride = a.stride; rows = a.rows }; width = a.width; height = a.height; target = a.target.now; side = a.side; x = a.x; y = a.y; predictor = a.predictor; radius = a.radius } in
    let p : Raised a.predictor.x c.raise-px.result = simp (to_z-of_z w32 a.predictor.x (record { sfits = omega arith })) at c.raise-px.ensures in
    let q : Raised a.predictor.y c.raise-py.result = simp (to_z-of_z w32 a.predictor.y (record { sfits = omega arith })) at c.raise-py.ensures in
    c.answered.ensures
    ∙ ap (λ (f : Best). vector_answer (vector_of f)) ((rw c.from.ensures at c.search_best.ensures.0) ∙ ap search_best (spot_is g _ _ p q))
    ∙ answer_found g (sym c.in_ok-check_search.ensures)
