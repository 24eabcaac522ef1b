-- The tests in the order of the refusals; the book file last.
use Rattle.std.proofs.Common.{sym, rules}
use Rattle.canvas.specs.Canvas.{Canvas}
use Rattle.listing_text.specs.FilesLaws.{files_plane_by, files_codebook, files_book}
use Rattle.listing_text.proofs.listing.check_files.Goals as goal

pub returns-in_err-check_source : goal.returns-in_err-check_source
returns-in_err-check_source c =
    let a = c.args in
    let v : Canvas = record { samples = a.reference.now; stride = a.canvas.stride; rows = a.canvas.rows } in
    let met = files_plane_by a.canvas.width a.canvas.height v a.source a.codebook a.file.now c.in_err-check_source.field-0.0 a.book.now c.in_err-check_source.ensures in
    search (rules, met)

pub returns-then-codebook-ne-CODEBOOK_BYTES : goal.returns-then-codebook-ne-CODEBOOK_BYTES
returns-then-codebook-ne-CODEBOOK_BYTES c =
    let a = c.args in
    let v : Canvas = record { samples = a.reference.now; stride = a.canvas.stride; rows = a.canvas.rows } in
    files_codebook a.canvas.width a.canvas.height v a.source a.codebook a.file.now (sym c.in_ok-check_source.ensures) _ c.if-codebook-ne-CODEBOOK_BYTES.true

pub returns : goal.returns
returns c =
    let a = c.args in
    let v : Canvas = record { samples = a.reference.now; stride = a.canvas.stride; rows = a.canvas.rows } in
    files_book a.canvas.width a.canvas.height v a.source a.codebook a.file.now (sym c.in_ok-check_source.ensures) a.book.now _ _ c.if-codebook-ne-CODEBOOK_BYTES.false c.requires c.read_book_file.ensures
