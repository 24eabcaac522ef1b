-- The refusals of the plane calls: one chain for each call, lowest number first, 20 and 21 behind the others (document 01, "Refused for what came in", "Refused for the state met").
use Rattle.std.specs.Prelude.{ℕ, ◌*◌, Bool, ◌&&◌, ◌||◌, List, [], ◌∷◌, ◌++◌, eqb, leb, length}
use Rattle.bits.specs.Basics.{first_of, unless}
use Rattle.bits.specs.Calls.{start_refusal}
use Rattle.book.specs.Book.{data_refusal}
use Rattle.canvas.specs.Canvas.{canvas_links, source_links}
use Rattle.macroblock.specs.Macroblock.{Given}
use Rattle.macroblock.specs.Choice.{Task}
use Rattle.macroblock.specs.Slices.{Slices}
use Rattle.plane.specs.declared.svq1_plane.inner.SliceLengths.{SliceLengths}
use Rattle.plane.specs.Plane.{count}

-- 20, by the lengths of the result slices (`recon`, `vx`, `vy`): a block slice shorter than four a macroblock, or a reconstruction whose length is not stride × rows
unfoldable pub lengths_refusal : Given → SliceLengths → ℕ
lengths_refusal g l =
    unless ((leb (4 * count g) l.vx && leb (4 * count g) l.vy) && eqb l.recon (g.reference.stride * g.reference.rows)) 20

-- what both calls test last: book and codebook, the result slices, and the bit string with its start bit (21: above 2^28 bytes, or the start bit beyond it)
abbrev pub lent_links : Given → ℕ → ℕ → SliceLengths → List ℕ
lent_links g bytes start l = data_refusal g.book g.codebook ∷ lengths_refusal g l ∷ start_refusal bytes start ∷ []

-- of the writer, for a source of n samples; 0 for none
unfoldable pub write_refusal_by : Given → ℕ → ℕ → ℕ → SliceLengths → ℕ
write_refusal_by g n bytes start l = first_of (source_links g.width g.height n g.reference ++ lent_links g bytes start l)

-- of the reader
unfoldable pub read_refusal_by : Given → ℕ → ℕ → SliceLengths → ℕ
read_refusal_by g bytes start l = first_of (canvas_links g.width g.height g.reference ++ lent_links g bytes start l)

-- ---- the same by what is lent
abbrev pub lengths_of : Slices → SliceLengths
lengths_of s = record { recon = length s.recon; vx = length s.vx; vy = length s.vy }

abbrev pub slices_refusal : Given → Slices → ℕ
slices_refusal g s = lengths_refusal g (lengths_of s)

abbrev pub write_refusal : Given → Task → List ℕ → ℕ → Slices → ℕ
write_refusal g t out start s = write_refusal_by g (length t.source) (length out) start (lengths_of s)

abbrev pub read_refusal : Given → List ℕ → ℕ → Slices → ℕ
read_refusal g bytes start s = read_refusal_by g (length bytes) start (lengths_of s)

-- ---- in the middle of a plane
-- the refusals that add the macroblock's index: 10, 11, 22 and 24
unfoldable pub mid_plane : ℕ → Bool
mid_plane n = (eqb n 10 || eqb n 11) || (eqb n 22 || eqb n 24)
