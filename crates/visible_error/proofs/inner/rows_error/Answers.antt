-- The sum of the rows; sixteen of sixteen samples stay far below 2^32. Assumes nothing.
use Rattle.std.proofs.Common.{rules, ℕ, ◌+◌, ◌≤◌, ◌^◌, ◌∙◌, arith, ◌≡◌}
use borrow.Author.Tests.{tests}
use Rattle.bits.specs.Basics.{sum as total}
use Rattle.std.proofs.lemmas.Iterator.{YieldsList-from_map, YieldsList-from_range}
use Rattle.std.proofs.lemmas.Iterator.Adapters.{fits_from_length, at_most_from_yields_List}
use Rattle.std.proofs.lemmas.Iterator.Consumers.{sum_from_yields_List}
use Rattle.std.proofs.lemmas.List.FromFn.{length-range_with_len}
use Rattle.visible_error.specs.Visible.{ShownPlane, square_at}
use Rattle.visible_error.specs.VisibleNeeds.{shown_by}
use Rattle.visible_error.specs.VisibleLaws.{row_most}
use Rattle.visible_error.proofs.RangeSum.{range_sum, sum_most}
use Rattle.visible_error.proofs.inner.rows_error.Goals as goal

pub sum-requires-clause-fits : goal.sum-requires-clause-fits
sum-requires-clause-fits c =
    let a = c.args in
    let n : a.n ≤ 16 = c.requires.1 in
    fits_from_length _ _ 16 (2 ^ 32) (at_most_from_yields_List (YieldsList-from_range 0 _ a.m c.map.ensures.source (omega arith)) (omega (arith, length-range_with_len 0 a.m, c.requires.2))) c.map.ensures.closure (omega arith) (λ x r q k. search (rules, tests, arith))

pub returns : goal.returns
returns c =
    let a = c.args in
    let s : ShownPlane = shown_by a.canvas a.source.now a.recon.now in
    let h : ℕ → ℕ = λ j. total (λ i. square_at s (a.x + i) (a.y + j)) a.n in
    let e : c.sum.result ≡ total h a.m = sum_from_yields_List c.map.result _ c.sum.ensures.ran (YieldsList-from_map _ h (YieldsList-from_range 0 _ a.m c.map.ensures.source (omega arith)) c.map.ensures.closure (λ x r q k. search (rules, tests))) ∙ range_sum h a.m in
    (e, omega (arith, e, c.requires.2, sum_most h 1040400 (λ j. omega (arith, c.requires.1, row_most s c.requires.0 (λ k. (c.type_inv.source k).fits) (λ k. (c.type_inv.recon k).fits) a.x (a.y + j) a.n)) a.m))
