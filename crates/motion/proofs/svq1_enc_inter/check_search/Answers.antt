-- One law for each refusal in their order, and one for none.
use Rattle.std.proofs.Common.{◌≡◌, rules, sym, ◌∙◌, refl}
use Rattle.bits.specs.Basics.{or_else}
use Rattle.bits.specs.declared.refusal.Refusal.{Refusal}
use Rattle.bits.specs.Refusals.{number_of}
use Rattle.bits.specs.CallsLaws.{refusal_met}
use Rattle.canvas.specs.Canvas.{size_refusal, canvas_refusal}
use Rattle.motion.specs.Search.{Search, search_refusal}
use Rattle.motion.specs.SearchCallLaws.{by_plane, by_block, by_vector, by_none}
use Rattle.motion.proofs.svq1_enc_inter.check_search.Goals as goal

-- a plane that is refused is refused with its number
plane_met : (g : Search) (r : Refusal) → number_of r ≡ or_else (size_refusal g.width g.height) (canvas_refusal g.width g.height g.reference)
    → number_of r ≡ search_refusal g
plane_met g r e = by_plane g (number_of r) e (refusal_met r (number_of r) refl)

pub returns-in_err-check_plane : goal.returns-in_err-check_plane
returns-in_err-check_plane c = search (rules, plane_met, c.in_err-check_plane.ensures)

pub returns-then-not-block_ok : goal.returns-then-not-block_ok
returns-then-not-block_ok c =
    let a = c.args in
    let g : Search = record { reference = record { samples = a.reference.now; stride = a.stride; rows = a.rows }; width = a.width; height = a.height; target = a.target.now; side = a.side; x = a.x; y = a.y; predictor = a.predictor; radius = a.radius } in
    search (rules, by_block g, by_vector g, c.in_ok-check_plane.ensures)

pub returns : goal.returns
returns c =
    let a = c.args in
    let g : Search = record { reference = record { samples = a.reference.now; stride = a.stride; rows = a.rows }; width = a.width; height = a.height; target = a.target.now; side = a.side; x = a.x; y = a.y; predictor = a.predictor; radius = a.radius } in
    by_none g (sym c.in_ok-check_plane.ensures) (sym c.block_ok.ensures ∙ c.if-not-block_ok.false) (sym c.vector_ok.ensures ∙ c.if-not-vector_ok.false)
