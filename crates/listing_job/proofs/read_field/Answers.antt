-- The comma found parts the field from what stands behind it.
use native.Mathlib.Omega.{arith}
use mathlib.Core.Path.{sym}
use Rattle.std.proofs.Common.{rules, length}
use Rattle.listing_job.specs.JobLaws.{field_last, field_bad, field_read}
use Rattle.listing_job.proofs.read_field.Goals as goal

pub returns-in_err-n : goal.returns-in_err-n
returns-in_err-n c =
    let a = c.args in
    search (rules, field_last a.most a.t.now (length a.t.now) (sym c.in_err-n.ensures) (omega arith))

pub returns-in_err-value : goal.returns-in_err-value
returns-in_err-value c =
    let a = c.args in
    search (rules, field_bad a.most a.t.now c.in_ok-n.n c.in_ok-n.ensures.count c.in_ok-n.ensures.within (sym c.in_err-value.ensures))

pub returns : goal.returns
returns c =
    let a = c.args in
    field_read a.most a.t.now c.in_ok-n.n c.in_ok-n.ensures.count c.in_ok-n.ensures.within c.in_ok-value.value (sym c.in_ok-value.ensures)
