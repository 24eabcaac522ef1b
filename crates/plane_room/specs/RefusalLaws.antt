-- No refusal of the writer for what is lent is above 21, so none of them is 22.
-- Assumes nothing.
use Rattle.std.specs.Prelude.{ℕ, ◌*◌, ◌^◌, ◌≤◌, Bool, true, false, ◌&&◌, List, [], ◌∷◌, ◌++◌, eqb, leb, length}
use Rattle.std.proofs.Common.{arith}
use Rattle.bits.specs.Basics.{pick, All, or_else, first_of, unless}
use Rattle.book.specs.Book.{codebook_bytes, book_bytes, code_table_sizes, each_prefix_free, codes_refusal, book_refusal, data_refusal}
use Rattle.code_tables.specs.Codes.{good_table}
use Rattle.canvas.specs.Canvas.{Canvas, side_ok, padded16, canvas_refusal, source_links}
use Rattle.macroblock.specs.Macroblock.{Given}
use Rattle.plane.specs.Plane.{count}
use Rattle.plane.specs.declared.svq1_plane.inner.SliceLengths.{SliceLengths}
use Rattle.plane.specs.Refusals.{lengths_refusal, lent_links, write_refusal_by}

unless_most : (b : Bool) (n : ℕ) → n ≤ 21 → unless b n ≤ 21
unless_most true n h = omega arith
unless_most false n h = h

or_most : (a b : ℕ) → a ≤ 21 → b ≤ 21 → or_else a b ≤ 21
or_most a b ha hb = go (eqb a 0)
  where
    go : (q : Bool) → pick q b a ≤ 21
    go true = hb
    go false = ha

canvas_most : (w h : ℕ) (c : Canvas) → canvas_refusal w h c ≤ 21
canvas_most w h c =
    let sides = eqb c.stride (padded16 w) && eqb c.rows (padded16 h) in
    let samples = eqb (length c.samples) (c.stride * c.rows) in
    or_most (unless sides 3) (unless samples 4) (unless_most sides 3 (omega arith)) (unless_most samples 4 (omega arith))

data_most : (book codebook : List ℕ) → data_refusal book codebook ≤ 21
unfolding data_refusal book_refusal codes_refusal
data_most book codebook =
    let size = eqb (length book) book_bytes in
    let good = good_table book in
    let free = each_prefix_free code_table_sizes book in
    let codes = or_else (unless good 6) (unless free 7) in
    or_most (unless (eqb (length codebook) codebook_bytes) 5) (or_else (unless size 5) codes) (unless_most (eqb (length codebook) codebook_bytes) 5 (omega arith))
    (or_most (unless size 5) codes (unless_most size 5 (omega arith))
    (or_most (unless good 6) (unless free 7) (unless_most good 6 (omega arith)) (unless_most free 7 (omega arith))))

lengths_most : (g : Given) (l : SliceLengths) → lengths_refusal g l ≤ 21
unfolding lengths_refusal
lengths_most g l =
    unless_most ((leb (4 * count g) l.vx && leb (4 * count g) l.vy) && eqb l.recon (g.reference.stride * g.reference.rows)) 20 (omega arith)

-- a chain is at most what its links are
first_most : (ns : List ℕ) → All (λ n. n ≤ 21) ns → first_of ns ≤ 21
unfolding first_of
first_most [] h = omega arith
first_most (n ∷ ns) h = or_most n (first_of ns) h.0 (first_most ns h.1)

pub refusal_most : (g : Given) (n bytes start : ℕ) (l : SliceLengths) → write_refusal_by g n bytes start l ≤ 21
unfolding write_refusal_by
refusal_most g n bytes start l =
    first_most (source_links g.width g.height n g.reference ++ lent_links g bytes start l) (
      unless_most (side_ok g.width && side_ok g.height) 1 (omega arith),
      (
        unless_most (eqb n (g.width * g.height)) 2 (omega arith),
        (
          canvas_most g.width g.height g.reference,
          (data_most g.book g.codebook, (lengths_most g l, (unless_most (leb bytes (2 ^ 28) && leb start (8 * bytes)) 21 (omega arith), tt))),
        ),
      ),
    )
