-- The refusal of the files, or the plane that they mean.
use Rattle.std.proofs.Common.{◌≡◌, [], refl, sym}
use Rattle.bits.specs.Refusals.{number_of}
use Rattle.listing_job.specs.Job.{Job}
use Rattle.listing_job.specs.JobForms.{job_by}
use Rattle.listing_text.specs.Listing.{Files, files_refusal}
use Rattle.listing_text.specs.Listed.{files_by}
use Rattle.listing_text.specs.FilesLaws.{files_listable, put_job_refused_by, text_plane}
use Rattle.listing_text.proofs.listing.list_job.Goals as goal

pub returns-in-Err : goal.returns-in-Err
returns-in-Err c =
    let a = c.args in
    let f : Files = files_by a.book.now a.codebook.now a.source.now a.reference.now [] in
    let j : Job = job_by a.job in
    let v = c.canvas_of-canvas.ensures in
    let n : number_of c.in-Err.refusal ≡ files_refusal f j = rw v at c.in-Err.ensures.refused in
    put_job_refused_by f j c.in-Err.refusal n a.text.now _ _ c.put_refused.ensures

pub list_plane-requires : goal.list_plane-requires
list_plane-requires c =
    let a = c.args in
    let f : Files = files_by a.book.now a.codebook.now a.source.now a.reference.now [] in
    let j : Job = job_by a.job in
    let v = c.canvas_of-canvas.ensures in
    let k = rw c.in_default.is at c.check_files-checked.ensures in
    let n : 0 ≡ files_refusal f j = rw v at k.refused in
    (rw (v, k.held refl) (files_listable f j c.requires.0 c.requires.1 (sym n)), c.requires.2)

pub returns : goal.returns
returns c =
    let a = c.args in
    let f : Files = files_by a.book.now a.codebook.now a.source.now a.reference.now [] in
    let j : Job = job_by a.job in
    let v = c.canvas_of-canvas.ensures in
    let k = rw c.in_default.is at c.check_files-checked.ensures in
    let n : 0 ≡ files_refusal f j = rw v at k.refused in
    rw (text_plane f j (sym n)) (rw (v, k.held refl) at c.list_plane.ensures)
