-- Too short a text, a job line of another form, or the job.
use mathlib.Core.Path.{◌≡◌, ◌∙◌}
use mathlib.Core.List.{[]}
use Rattle.listing_job.specs.JobForms.{job_by}
use Rattle.listing_text.specs.Listing.{Files}
use Rattle.listing_text.specs.Listed.{files_by}
use Rattle.listing_job.specs.JobLaws.{job_small, job-told}
use Rattle.listing_text.specs.FilesLaws.{text_by}
use Rattle.listing_text.specs.RoomLaws.{listed_short, listed_none, listed_job}
use Rattle.std.proofs.Common.{Some}
use Rattle.listing_job.specs.Job.{job_in}
use Rattle.listing_text.proofs.listing.listing.Goals as goal

pub returns-then-text-lt16384 : goal.returns-then-text-lt16384
returns-then-text-lt16384 c =
    let a = c.args in
    let f : Files = files_by a.book.now a.codebook.now a.source.now a.reference.now a.job.now in
    listed_short f a.text.now c.if-text-lt16384.true

pub returns-in_default : goal.returns-in_default
returns-in_default c =
    let a = c.args in
    let f : Files = files_by a.book.now a.codebook.now a.source.now a.reference.now a.job.now in
    listed_none f a.text.now _ _ c.if-text-lt16384.false (job-told c.read_job.result (job_in a.job.now) c.read_job.ensures ∙ rw c.in_default.is) c.put_refused.ensures

pub list_job-requires : goal.list_job-requires
list_job-requires c =
    let a = c.args in
    let f : Files = files_by a.book.now a.codebook.now a.source.now a.reference.now a.job.now in
    let asked : job_in a.job.now ≡ Some (job_by c.in-Some.j) = job-told (Some c.in-Some.j) (job_in a.job.now) c.in-Some.ensures in
    let small = job_small a.job.now (job_by c.in-Some.j) asked in
    (small.0, small.1, c.if-text-lt16384.false)

pub returns : goal.returns
returns c =
    let a = c.args in
    let f : Files = files_by a.book.now a.codebook.now a.source.now a.reference.now a.job.now in
    let asked : job_in a.job.now ≡ Some (job_by c.in-Some.j) = job-told (Some c.in-Some.j) (job_in a.job.now) c.in-Some.ensures in
    listed_job f a.text.now (job_by c.in-Some.j) _ _ c.if-text-lt16384.false asked (rw (text_by a.book.now a.codebook.now a.source.now a.reference.now a.job.now [] (job_by c.in-Some.j)) c.list_job.ensures)
