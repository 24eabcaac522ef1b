-- The line feed found ends the line; behind it nothing stands.
use native.Mathlib.Omega.{arith}
use mathlib.Core.Path.{sym, ap, ◌∙◌}
use Rattle.std.proofs.Common.{rules, length}
use Rattle.listing_job.specs.Job.{job_answer}
use Rattle.listing_job.specs.JobLaws.{job_open, job_more, job_one}
use Rattle.listing_job.proofs.read_job.Goals as goal

pub returns-in_err-n : goal.returns-in_err-n
returns-in_err-n c =
    let t = c.args.line.now in
    search (rules, ap job_answer (sym (job_open t (length t) (sym c.in_err-n.ensures) (omega arith))))

pub returns-then-n-line : goal.returns-then-n-line
returns-then-n-line c = ap job_answer (sym (job_more c.args.line.now c.in_ok-n.n c.in_ok-n.ensures.count (omega arith)))

pub returns : goal.returns
returns c =
    ap job_answer (c.read_fields.ensures ∙ sym (job_one c.args.line.now c.in_ok-n.n c.in_ok-n.ensures.count c.in_ok-n.ensures.within (omega arith)))
