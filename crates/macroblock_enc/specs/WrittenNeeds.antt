-- What writing a macroblock asks and leaves (document 01, `svq1_enc_inter.rs`, refusal 22).
use Rattle.std.specs.Prelude.{◌≡◌, Bool, List, ◌++◌, ℕ, ◌+◌, ◌*◌, ◌≤◌, ◌<◌, leb, length}
use Rattle.bits.specs.Refusals.{number_told}
use Rattle.bits.specs.Basics.{pick, unless, Bytes}
use Rattle.bits.specs.Bits.{bits_of, put_bits}
use Rattle.bits.specs.BitNeeds.{Fits}
use Rattle.book.specs.Book.{tables_of, book_refusal}
use Rattle.codebook.specs.CodebookForms.{raised_codebook}
use Rattle.mv_cache.specs.Neighbours.{Near}
use Rattle.mv_cache.specs.NeighboursLaws.{Ranged}
use Rattle.canvas.specs.Canvas.{blocks_along}
use Rattle.tree.specs.NodeForms.{tree_of}
use Rattle.tree.specs.Plan.{Weight}
use Rattle.tree.specs.TreeBits.{Node, tree_bits}
use Rattle.tree.specs.WalkNeeds.{SoundTree}
use Rattle.macroblock_choice.specs.declared.svq1_enc_inter.inner.candidates.MbCandidate.{MbCandidate}
use Rattle.macroblock_enc.specs.declared.svq1_enc_inter.inner.writing.WrittenMb.{WrittenMb}
use Rattle.canvas.specs.declared.svq1_plane.Svq1PlaneCanvas.{Svq1PlaneCanvas}
use Rattle.macroblock.specs.Macroblock.{Given, cols, rows, Motion, Choice, skipped, coded, mode_of, half_of, vectors_of, motion_bits, choice_bits}
use Rattle.macroblock.specs.MacroblockLaws.{Codables}
use Rattle.macroblock.specs.Choice.{Task, weight_of, chosen}
use Rattle.macroblock.specs.Slices.{Slices, Lent, BlockSlice, blocks_in, near, laid}
use Rattle.macroblock.specs.MacroblockNeeds.{given_by, Accepted, Held, by_book}
use Rattle.macroblock.specs.LayingNeeds.{ShowingIf, Laying}
use Rattle.macroblock.specs.MotionForms.{motion_of, Differs}
use Rattle.macroblock_choice.specs.CandidateNeeds.{skips, choice_of}

-- ---- bits
-- a choice that has codes: codable vectors, and leaves that can be written
abbrev pub Codes : Near → Choice → Type 0
Codes n skipped = Unit
Codes n (coded m t) = Codables n m × SoundTree (half_of m) t

-- vectors and tree with room for their bits
pub record CodedRoom (book : List ℕ) (n : Near) (m : Motion) (t : List Node) (bytes at : ℕ) : Type 0 where
  pub passes : book_refusal book ≡ 0
  pub codable : Codables n m
  pub sound : SoundTree (half_of m) t
  pub room : Fits bytes at (length (motion_bits (by_book book) n m ++ tree_bits (tables_of book (half_of m)) t))

-- a candidate with room for its bits, whose one vector goes with its difference
pub record PutReady (book : List ℕ) (n : Near) (c : MbCandidate) (bytes at : ℕ) : Type 0 where
  pub passes : book_refusal book ≡ 0
  pub mode : c.mode ≡ mode_of (choice_of c)
  pub codes : Codes n (choice_of c)
  pub differs : Differs n c.motion
  pub room : Fits bytes at (length (choice_bits (by_book book) n (choice_of c)))

-- ---- samples and vectors
-- a candidate that can be shown, result slices that hold the macroblock, and the vectors to store
pub record LayReady (c : Svq1PlaneCanvas) (reference : List ℕ) (raised k : ℕ) (d : MbCandidate) (u : Slices) : Type 0 where
  pub shows : ShowingIf (skips d.mode) (record { samples = reference; stride = c.stride; rows = c.rows }) (blocks_along c.width) k raised (half_of (motion_of d.motion d.vectors)) (tree_of d.blocks)
  pub lays : Laying c k d.vectors u
  pub vectors : d.vectors ≡ vectors_of (choice_of d)

-- the slices as the candidate leaves them, by any codebook whose raised copy was lent
abbrev pub LaysCandidate : Svq1PlaneCanvas → List ℕ → List ℕ → ℕ → MbCandidate → Slices → Slices → Type 0
LaysCandidate c reference raised k d u v =
    (book codebook : List ℕ) → Bytes codebook → raised ≡ raised_codebook codebook
    → v ≡ laid (given_by c reference book codebook) k (choice_of d) u

-- ---- a candidate written, where it fits
-- its bits, counted and few, from a bit of a string that is not too long
pub record WriteReady (book : List ℕ) (n : Near) (c : MbCandidate) (bytes at : ℕ) : Type 0 where
  pub passes : book_refusal book ≡ 0
  pub mode : c.mode ≡ mode_of (choice_of c)
  pub codes : Codes n (choice_of c)
  pub differs : Differs n c.motion
  pub bits : c.bits ≡ length (choice_bits (by_book book) n (choice_of c))
  pub few : c.bits ≤ 65536
  pub start : Fits bytes at 0

-- it fits behind bit `at` of so many bytes
abbrev pub fits_in : ℕ → ℕ → ℕ → Bool
fits_in bytes at bits = leb (at + bits) (8 * bytes)

-- what is answered, and what the output's bits are then: those put, or as they were with 22
pub record CandidateWritten (book : List ℕ) (n : Near) (c : MbCandidate) (out : List ℕ) (at : ℕ) (r : WrittenMb) (left : List ℕ) : Type 0 where
  pub mode : r.mode ≡ c.mode
  pub bits : r.bits ≡ c.bits
  pub error : r.error ≡ c.error
  pub refused : number_told r.refused ≡ unless (fits_in (length out) at c.bits) 22
  pub next : r.next ≡ pick (fits_in (length out) at c.bits) (at + c.bits) at
  pub output : bits_of left ≡ pick (fits_in (length out) at c.bits) (put_bits (bits_of out) at (choice_bits (by_book book) n (choice_of c))) (bits_of out)

-- and the slices
abbrev pub CandidateLaid : Svq1PlaneCanvas → List ℕ → List ℕ → ℕ → MbCandidate → ℕ → ℕ → Slices → Slices → Type 0
CandidateLaid c reference raised k d bytes at u v =
    (book codebook : List ℕ) → Bytes codebook → raised ≡ raised_codebook codebook
    → v ≡ pick (fits_in bytes at d.bits) (laid (given_by c reference book codebook) k (choice_of d) u) u

-- ---- a macroblock written
-- what is lent passes and holds macroblock k, the output is not too long, the bit lies in it, and the vectors of the macroblocks before k are in -32..31
pub record MbReady (g : Given) (raised source : List ℕ) (k bytes at : ℕ) (s : Slices) : Type 0 where
  pub ok : Accepted g raised
  pub held : Held g s
  pub number : k < rows g * cols g
  pub samples : length source ≡ g.width * g.height
  pub start : Fits bytes at 0
  pub ranged : (b : BlockSlice) → Ranged (cols g) k (blocks_in b s)

-- what is written for macroblock k with so many bits spent before it, and what it weighs
abbrev pub mb_choice : Given → Task → ℕ → ℕ → Slices → Choice
mb_choice g t k spent s = chosen g t k (near g s k) spent

abbrev pub mb_weight : Given → Task → ℕ → ℕ → Slices → Weight
mb_weight g t k spent s = weight_of g t k (near g s k) (mb_choice g t k spent s)

-- its mode, bits and error are stated, whether it fits or not; where it fits, its bits are put and its samples and vectors laid, and else it is 22 with everything as it was
pub record MbWritten (g : Given) (t : Task) (k spent at : ℕ) (l : Lent) (r : WrittenMb) (l' : Lent) : Type 0 where
  pub mode : r.mode ≡ mode_of (mb_choice g t k spent l.slices)
  pub bits : r.bits ≡ (mb_weight g t k spent l.slices).bits
  pub error : r.error ≡ (mb_weight g t k spent l.slices).err
  pub refused : number_told r.refused ≡ unless (fits_in (length l.out) at (mb_weight g t k spent l.slices).bits) 22
  pub next : r.next ≡ pick (fits_in (length l.out) at (mb_weight g t k spent l.slices).bits) (at + (mb_weight g t k spent l.slices).bits) at
  pub output : bits_of l'.out ≡ pick (fits_in (length l.out) at (mb_weight g t k spent l.slices).bits) (put_bits (bits_of l.out) at (choice_bits g (near g l.slices k) (mb_choice g t k spent l.slices))) (bits_of l.out)
  pub slices : l'.slices ≡ pick (fits_in (length l.out) at (mb_weight g t k spent l.slices).bits) (laid g k (mb_choice g t k spent l.slices) l.slices) l.slices
