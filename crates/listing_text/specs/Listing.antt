-- What the listing program prints (document 01, "Refused for the state met", the listing program; "Bench cards"; document 02, §1, §2, §4).
use Rattle.std.specs.Prelude.{ℕ, zero, suc, ◌*◌, ◌/◌, ◌%◌, List, [], ◌∷◌, ◌++◌, eqb, length, replicate, Option, None, Some}
use Rattle.bits.specs.Basics.{pick, first_of, unless}
use Rattle.bits.specs.Bits.{bits_of}
use Rattle.book.specs.Book.{codebook_bytes}
use Rattle.text.specs.Text.{ascii, decimal, line_of}
use Rattle.book_file.specs.BookFile.{file_refusal, file_book}
use Rattle.canvas.specs.Canvas.{Canvas, padded16, source_links}
use Rattle.macroblock.specs.declared.svq1_enc_inter.Svq1MbMode.{Svq1MbMode}
use Rattle.macroblock.specs.declared.svq1_enc_inter.Svq1MbMode.TheVariants.{Inter, Inter4Mv, Intra, Skip}
use Rattle.macroblock.specs.Macroblock.{Given, cols}
use Rattle.macroblock.specs.Limit.{unlimited}
use Rattle.macroblock.specs.Choice.{Task}
use Rattle.macroblock.specs.Slices.{Slices}
use Rattle.plane.specs.Run.{End}
use Rattle.plane.specs.Plane.{count, Writing, step_stated, write_plane, writing_at}
use Rattle.visible_error.specs.Visible.{ShownPlane, visible_error, visible_total}
use Rattle.listing_job.specs.Job.{Job, job_in}

-- the five files; one that cannot be opened reads as empty
pub record Files : Type 0 where
  pub book : List ℕ
  pub codebook : List ℕ
  pub source : List ℕ
  pub reference : List ℕ
  pub job : List ℕ

-- the plane that a job and the files mean
abbrev pub given_of : Files → Job → Given
given_of f j = record {
  width = j.width;
  height = j.height;
  reference = record { samples = f.reference; stride = padded16 j.width; rows = padded16 j.height };
  book = file_book f.book;
  codebook = f.codebook;
}

abbrev pub task_of : Files → Job → Task
task_of f j = record { source = f.source; settings = record { lambda = j.lambda; radius = j.radius; four = j.allow_four; margin = j.margin }; limit = unlimited }

-- the chain of its refusals, lowest number first but 30 before 6, by the lengths of the source and the codebook; 0 for none
unfoldable pub files_refusal_by : ℕ → ℕ → Canvas → ℕ → ℕ → List ℕ → ℕ
files_refusal_by w h reference source codebook file =
    first_of (source_links w h source reference ++ (unless (eqb codebook codebook_bytes) 5 ∷ file_refusal file ∷ []))

abbrev pub files_refusal : Files → Job → ℕ
files_refusal f j = files_refusal_by j.width j.height (given_of f j).reference (length f.source) (length f.codebook) f.book

-- the output that the program writes into, from bit 0, and its result slices
abbrev pub output_bytes : ℕ
output_bytes = 65536

abbrev pub no_slices : Given → Slices
no_slices g = record {
  recon = replicate (g.reference.stride * g.reference.rows) 0;
  vx = replicate (4 * count g) 0;
  vy = replicate (4 * count g) 0;
}

-- the plane's source beside a reconstruction
abbrev pub plane_showing : Given → Task → List ℕ → ShownPlane
plane_showing g t recon = record {
  width = g.width;
  height = g.height;
  source = t.source;
  recon = record { samples = recon; stride = g.reference.stride; rows = g.reference.rows };
}

-- ---- text
-- a macroblock's mode
abbrev pub mode_name : Svq1MbMode → List ℕ
mode_name Inter = ascii "INTER"
mode_name Inter4Mv = ascii "INTER_4MV"
mode_name Intra = ascii "INTRA"
mode_name Skip = ascii "SKIP"

-- `refused,` and the number
unfoldable pub refused_text : ℕ → List ℕ
refused_text n = line_of (ascii "refused" ∷ decimal n ∷ [])

-- `total`, bits, error
unfoldable pub total_line : ℕ → ℕ → List ℕ
total_line bits error = line_of (ascii "total" ∷ decimal bits ∷ decimal error ∷ [])

-- a plane listed as it is written from bit 0 into an output, given as its bits
module _ (g : Given) (t : Task) (out : List ℕ) where
  abbrev pub listed_state : ℕ → Writing
  listed_state k = writing_at g t out 0 (no_slices g) k

  -- its end
  abbrev pub listed_end : End Writing
  listed_end = write_plane g t out 0 (no_slices g)

  -- what the panel shows at the end
  abbrev pub listed_plane : ShownPlane
  listed_plane = plane_showing g t listed_end.state.slices.recon

  -- row, column, mode, bits, error of macroblock k; rows and columns count macroblocks
  unfoldable pub macroblock_line : (ℕ → ℕ) → ℕ → List ℕ
  macroblock_line error k =
      let m = step_stated g t k (listed_state k) in
      line_of (decimal (k / cols g) ∷ decimal (k % cols g) ∷ mode_name m.mode ∷ decimal m.bits ∷ decimal (error k) ∷ [])

  -- the lines of the first n macroblocks
  unfoldable pub lines_to : (ℕ → ℕ) → ℕ → List ℕ
  lines_to error zero = []
  lines_to error (suc n) = lines_to error n ++ macroblock_line error n

  -- the macroblocks and the total, with any errors and any total of them; an early end would print its refusal
  unfoldable pub text_with : (ℕ → ℕ) → ℕ → List ℕ
  text_with error total =
      pick (eqb listed_end.refusal 0) (lines_to error (count g) ++ total_line listed_end.state.bits total) (refused_text listed_end.refusal)

  -- both error fields are taken over visible samples (document 02, §1)
  unfoldable pub text_into : List ℕ
  text_into = text_with (visible_error listed_plane) (visible_total listed_plane)

-- the program's output has 65,536 bytes; a plane of its sizes always fits (99 macroblocks of at most 3,135 bits)
unfoldable pub plane_text : Given → Task → List ℕ
plane_text g t = text_into g t (bits_of (replicate output_bytes 0))

unfoldable pub job_text : Files → Option Job → List ℕ
job_text f None = refused_text 1
job_text f (Some j) =
    let n = files_refusal f j in
    pick (eqb n 0) (plane_text (given_of f j) (task_of f j)) (refused_text n)

-- what the program prints
unfoldable pub listing : Files → List ℕ
listing f = job_text f (job_in f.job)
