-- Each field that is read leaves the text behind it; the first that is none decides.
use native.Mathlib.Omega.{arith}
use mathlib.Core.Path.{sym}
use Rattle.std.proofs.Common.{rules}
use Rattle.listing_job.specs.JobLaws.{none_read, then-field, then-none, then_last, fields_small}
use Rattle.listing_job.proofs.read_fields.Goals as goal

-- the line, read as far as behind a field, is `behind_` and the field's name
pub returns-in_err-width : goal.returns-in_err-width
returns-in_err-width c =
    search (rules, then-none (none_read c.args.t.now) c.in_err-width.ensures)

pub returns-in_err-height : goal.returns-in_err-height
returns-in_err-height c =
    let behind_width = then-field (none_read c.args.t.now) c.in_ok-width.ensures in
    search (rules, then-none behind_width c.in_err-height.ensures)

pub returns-in_err-lambda : goal.returns-in_err-lambda
returns-in_err-lambda c =
    let behind_width = then-field (none_read c.args.t.now) c.in_ok-width.ensures in
    let behind_height = then-field behind_width c.in_ok-height.ensures in
    search (rules, then-none behind_height c.in_err-lambda.ensures)

pub returns-in_err-radius : goal.returns-in_err-radius
returns-in_err-radius c =
    let behind_width = then-field (none_read c.args.t.now) c.in_ok-width.ensures in
    let behind_height = then-field behind_width c.in_ok-height.ensures in
    let behind_lambda = then-field behind_height c.in_ok-lambda.ensures in
    search (rules, then-none behind_lambda c.in_err-radius.ensures)

pub returns-in_err-four : goal.returns-in_err-four
returns-in_err-four c =
    let behind_width = then-field (none_read c.args.t.now) c.in_ok-width.ensures in
    let behind_height = then-field behind_width c.in_ok-height.ensures in
    let behind_lambda = then-field behind_height c.in_ok-lambda.ensures in
    let behind_radius = then-field behind_lambda c.in_ok-radius.ensures in
    search (rules, then-none behind_radius c.in_err-four.ensures)

pub returns-in_err-margin : goal.returns-in_err-margin
returns-in_err-margin c =
    let behind_width = then-field (none_read c.args.t.now) c.in_ok-width.ensures in
    let behind_height = then-field behind_width c.in_ok-height.ensures in
    let behind_lambda = then-field behind_height c.in_ok-lambda.ensures in
    let behind_radius = then-field behind_lambda c.in_ok-radius.ensures in
    let behind_four = then-field behind_radius c.in_ok-four.ensures in
    search (rules, then_last behind_four c.in_err-margin.ensures)

pub overflow_cast-result : goal.overflow_cast-result
overflow_cast-result c =
    let behind_width = then-field (none_read c.args.t.now) c.in_ok-width.ensures in
    let behind_height = then-field behind_width c.in_ok-height.ensures in
    let behind_lambda = then-field behind_height c.in_ok-lambda.ensures in
    let behind_radius = then-field behind_lambda c.in_ok-radius.ensures in
    let behind_four = then-field behind_radius c.in_ok-four.ensures in
    omega (arith, (fields_small _ _ (sym (then_last behind_four c.in_ok-margin.ensures))).2)

pub overflow_cast-result-2 : goal.overflow_cast-result-2
overflow_cast-result-2 c =
    let behind_width = then-field (none_read c.args.t.now) c.in_ok-width.ensures in
    let behind_height = then-field behind_width c.in_ok-height.ensures in
    let behind_lambda = then-field behind_height c.in_ok-lambda.ensures in
    let behind_radius = then-field behind_lambda c.in_ok-radius.ensures in
    let behind_four = then-field behind_radius c.in_ok-four.ensures in
    omega (arith, (fields_small _ _ (sym (then_last behind_four c.in_ok-margin.ensures))).3)

pub returns : goal.returns
returns c =
    let behind_width = then-field (none_read c.args.t.now) c.in_ok-width.ensures in
    let behind_height = then-field behind_width c.in_ok-height.ensures in
    let behind_lambda = then-field behind_height c.in_ok-lambda.ensures in
    let behind_radius = then-field behind_lambda c.in_ok-radius.ensures in
    let behind_four = then-field behind_radius c.in_ok-four.ensures in
    then_last behind_four c.in_ok-margin.ensures
