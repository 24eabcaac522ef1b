-- What showing a choice and laying it into the result slices asks and leaves (document 01, `svq1_enc_inter.rs`, over the definitions of Macroblock and Slices).
use Rattle.std.specs.Prelude.{◌≡◌, Bool, true, false, List, ℕ, ◌*◌, ◌<◌}
use Rattle.bits.specs.Basics.{All, Bytes}
use Rattle.book.specs.declared.svq1_vlc.Svq1Half.{Svq1Half}
use Rattle.vectors.specs.declared.svq1_motion_predictor.Svq1Mv.{Svq1Mv}
use Rattle.vectors.specs.VectorsLaws.{Inside}
use Rattle.tree.specs.TreeBits.{Node}
use Rattle.tree.specs.WalkNeeds.{SoundTree}
use Rattle.macroblock.specs.Macroblock.{Motion, Choice, skipped, coded, shown}
use Rattle.book.specs.Book.{codebook_bytes}
use Rattle.codebook.specs.CodebookForms.{raised_codebook}
use Rattle.mv_cache.specs.CacheNeeds as cache
use Rattle.canvas.specs.Canvas.{Canvas, blocks_along, padded16}
use Rattle.canvas.specs.declared.svq1_plane.Svq1PlaneCanvas.{Svq1PlaneCanvas}
use Rattle.macroblock.specs.MacroblockNeeds.{given_by}
use Rattle.macroblock.specs.Slices.{Slices}
use Rattle.macroblock.specs.SampleNeeds.{Stands, Laid}

-- SKIP, or a motion with its tree
abbrev pub choice_by : Bool → Motion → List Node → Choice
choice_by true m t = skipped
choice_by false m t = coded m t

-- SKIP, or a tree that can be shown
pub record ShowingIf (skip : Bool) (c : Canvas) (wide k raised : ℕ) (h : Svq1Half) (t : List Node) : Type 0 where
  pub place : Stands c wide k
  pub copy : raised ≡ codebook_bytes
  pub sound : skip ≡ false → SoundTree h t

-- slices that hold macroblock k, and vectors that can be stored there
pub record Laying (c : Svq1PlaneCanvas) (k : ℕ) (vs : List Svq1Mv) (u : Slices) : Type 0 where
  pub stride_is : c.stride ≡ padded16 c.width
  pub rows_are : c.rows ≡ padded16 c.height
  pub recon_room : cache.BlocksRoom 16 (blocks_along c.width) k u.recon
  pub vectors_room : cache.VectorSlices (blocks_along c.width) (blocks_along c.height) u.vx u.vy
  pub number : k < blocks_along c.height * blocks_along c.width
  pub inside : All Inside vs

-- what a choice shows and its vectors, put into the slices
abbrev pub LaysChoice : Svq1PlaneCanvas → List ℕ → List ℕ → ℕ → Choice → List Svq1Mv → Slices → Slices → Type 0
LaysChoice c reference raised k d vs u w =
    (book codebook : List ℕ) → Bytes codebook → raised ≡ raised_codebook codebook
    → Laid (blocks_along c.width) k (shown (given_by c reference book codebook) k d) vs u w
