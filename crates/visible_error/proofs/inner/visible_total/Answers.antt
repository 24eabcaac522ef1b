-- The sum of the macroblocks; 4,096 of them stay far below 2^64. Assumes nothing.
use Rattle.std.proofs.Common.{rules, ℕ, ◌*◌, ◌≤◌, ◌^◌, ◌≡◌, ◌∙◌, ap, ap₂, arith}
use borrow.Author.Tests.{tests}
use Rattle.bits.specs.Basics.{sum as total}
use native.Mathlib.Nat.{mul-le-mul}
use Rattle.std.proofs.lemmas.Iterator.{YieldsList-from_map, YieldsList-from_range}
use Rattle.std.proofs.lemmas.Iterator.Adapters.{fits_from_length, at_most_from_yields_List}
use Rattle.std.proofs.lemmas.Iterator.Consumers.{sum_from_yields_List}
use Rattle.std.proofs.lemmas.List.FromFn.{length-range_with_len}
use Rattle.visible_error.specs.Visible.{ShownPlane, visible_error, visible_total}
use Rattle.visible_error.specs.VisibleNeeds.{shown_by, shown_blocks}
use Rattle.visible_error.proofs.RangeSum.{range_sum}
use Rattle.visible_error.proofs.inner.visible_total.Goals as goal

pub sum-requires-clause-fits : goal.sum-requires-clause-fits
sum-requires-clause-fits c =
    let count = c.blocks_along.result * c.blocks_along-2.result in
    let tall : c.blocks_along.result ≤ 64 = omega (arith, c.blocks_along.ensures, c.requires.fits.height) in
    let wide : c.blocks_along-2.result ≤ 64 = omega (arith, c.blocks_along-2.ensures, c.requires.fits.width) in
    let few : count ≤ 64 * 64 = mul-le-mul tall wide in
    fits_from_length _ _ 4096 (2 ^ 64) (at_most_from_yields_List (YieldsList-from_range 0 _ count c.map.ensures.source (omega arith)) (omega (arith, length-range_with_len 0 count, few))) c.map.ensures.closure (omega arith) (λ x r q k. search (rules, tests, arith))

pub returns : goal.returns
unfolding visible_total
returns c =
    let a = c.args in
    let s : ShownPlane = shown_by a.canvas a.source.now a.recon.now in
    let n = c.blocks_along.result * c.blocks_along-2.result in
    let count : c.blocks_along.result * c.blocks_along-2.result ≡ shown_blocks s = ap₂ ◌*◌ c.blocks_along.ensures c.blocks_along-2.ensures in
    sum_from_yields_List c.map.result _ c.sum.ensures.ran (YieldsList-from_map _ (visible_error s) (YieldsList-from_range 0 _ n c.map.ensures.source (omega arith)) c.map.ensures.closure (λ x r q k. search (rules, tests))) ∙ range_sum (visible_error s) n ∙ ap (λ (n : ℕ). total (visible_error s) n) count
