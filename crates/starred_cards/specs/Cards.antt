-- The starred cards as one table, and what each says of the definitions (document 01, "Bench cards"; the house book throughout).
use Rattle.std.specs.Prelude.{ℕ, Option, Some, None, ◌*◌, true, List, [], ◌∷◌, ◌≡◌, ℤ, pos, negsuc, length, replicate}
use Rattle.bits.specs.Bits.{bits_of}
use Rattle.house.specs.House.{house_book, house_codebook}
use Rattle.book.specs.declared.svq1_vlc.Svq1Half.TheVariants.{Inter}
use Rattle.codebook.specs.Codebook.{raster_of}
use Rattle.codebook.specs.Mean.{mean_of}
use Rattle.vectors.specs.declared.svq1_motion_predictor.Svq1Mv.{Svq1Mv}
use Rattle.vectors.specs.Vectors.{predicted}
use Rattle.compensation.specs.Compensation.{mean2, mean4}
use Rattle.bits.specs.Refusals.{done}
use Rattle.motion.specs.Search.{Search, search_answer}
use Rattle.canvas.specs.Canvas.{padded16}
use Rattle.macroblock.specs.Macroblock.{Given}
use Rattle.macroblock.specs.Limit.{unlimited}
use Rattle.macroblock.specs.Choice.{Task}
use Rattle.plane.specs.Plane.{write_plane}
use Rattle.text.specs.Text.{ascii}
use Rattle.listing_job.specs.Job.{Job, job_in}
use Rattle.listing_text.specs.Listing.{no_slices, plane_text}

abbrev pub mv : ℤ → ℤ → Svq1Mv
mv x y = record { x = x; y = y }

-- a plane of one source value over one reference value
abbrev pub flat_given : Job → ℕ → Given
flat_given j reference = record {
  width = j.width;
  height = j.height;
  reference = record { samples = replicate (padded16 j.width * padded16 j.height) reference; stride = padded16 j.width; rows = padded16 j.height };
  book = house_book;
  codebook = house_codebook;
}

abbrev pub flat_task : Job → ℕ → Task
flat_task j source = record { source = replicate (j.width * j.height) source; settings = record { lambda = j.lambda; radius = j.radius; four = j.allow_four; margin = j.margin }; limit = unlimited }

-- a search of a block in a flat square plane whose samples, and the target's, are all 100
abbrev pub flat_search : ℕ → ℕ → ℕ → ℕ → ℕ → Svq1Mv → Search
flat_search size radius side x y p = record {
  reference = record { samples = replicate (padded16 size * padded16 size) 100; stride = padded16 size; rows = padded16 size };
  width = size;
  height = size;
  target = replicate (side * side) 100;
  side = side;
  x = x;
  y = y;
  predictor = p;
  radius = radius;
}

pub data Card : Type 0 where
  -- a job line, a flat source and a flat reference: the bytes written and the whole listing
  plane : List ℕ → Job → ℕ → ℕ → List ℕ → List ℕ → Card
  -- a residual's sum over some samples, inter half: the mean
  mean : ℤ → ℕ → ℤ → Card
  -- left, top and top right: the predictor
  predictor : Option Svq1Mv → Option Svq1Mv → Option Svq1Mv → Svq1Mv → Card
  -- a level and a byte of a vector: its raster place
  raster : ℕ → ℕ → ℕ → Card
  -- two samples, and four: their mean
  two : ℕ → ℕ → ℕ → Card
  four : ℕ → ℕ → ℕ → ℕ → ℕ → Card
  -- size of a flat plane, radius, side, place and predictor: the vector found
  search : ℕ → ℕ → ℕ → ℕ → ℕ → Svq1Mv → Svq1Mv → Card

-- what a card says
abbrev pub Holds : Card → Type 0
Holds (plane line job source reference bytes text) =
    (job_in line ≡ Some job)
    × ((write_plane (flat_given job reference) (flat_task job source) (bits_of (replicate (length bytes) 0)) 0 (no_slices (flat_given job reference))).state.out ≡ bits_of bytes)
    × (plane_text (flat_given job reference) (flat_task job source) ≡ text)
Holds (mean sum n m) = mean_of Inter sum n ≡ m
Holds (predictor l t r v) = predicted l t r ≡ v
Holds (raster level byte place) = raster_of level byte ≡ place
Holds (two a b m) = mean2 a b ≡ m
Holds (four a b c d m) = mean4 a b c d ≡ m
Holds (search size radius side x y p v) = search_answer (flat_search size radius side x y p) ≡ done v

-- the jobs of the first two cards, at margin 0 (document 02, §4)
abbrev pub first_line : List ℕ
first_line = ascii "16,16,32,8,1,0\n"

abbrev pub largest_line : List ℕ
largest_line = ascii "16,16,18446744073709551615,8,1,0\n"

-- what is listed for each
abbrev pub first_text : List ℕ
first_text = ascii "0,0,INTRA,22,0\ntotal,22,0\n"

abbrev pub largest_text : List ℕ
largest_text = ascii "0,0,SKIP,1,2560000\ntotal,1,2560000\n"

-- the table
abbrev pub cards : List Card
cards =
    plane first_line (record { width = 16; height = 16; lambda = 32; radius = 8; allow_four = true; margin = 0 }) 100 0 (0x21 ∷ 0x01 ∷ 0x94 ∷ []) first_text
    ∷ plane largest_line (record { width = 16; height = 16; lambda = 18446744073709551615; radius = 8; allow_four = true; margin = 0 }) 100 0 (0x80 ∷ []) largest_text
    ∷ mean (pos 4) 8 (pos 1)
    ∷ mean (pos 3) 8 (pos 0)
    ∷ mean (negsuc 2) 8 (pos 0)
    ∷ mean (negsuc 3) 8 (negsuc 0)
    ∷ predictor (Some (mv (pos 4) (pos 4))) (Some (mv (pos 6) (negsuc 0))) None (mv (pos 4) (pos 0))
    ∷ predictor None (Some (mv (pos 7) (negsuc 1))) None (mv (pos 7) (negsuc 1))
    ∷ raster 3 37 41
    ∷ raster 2 20 12
    ∷ two 10 11 11
    ∷ four 1 2 3 4 3
    ∷ search 32 8 16 16 0 (mv (negsuc 31) (pos 0)) (mv (negsuc 31) (pos 0))
    ∷ []
