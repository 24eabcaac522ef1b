-- Parts of a macroblock's 256 samples, moved by a vector, as the code writes them, and the numbers it raises places by (document 01, `svq1_enc_inter.rs`, over the definitions of Compensation).
use Rattle.std.specs.Prelude.{ℕ, ◌+◌, ◌-◌, ◌*◌, ◌/◌, ◌%◌, ◌<◌, ◌≤◌, ◌≡◌, Bool, ◌&&◌, List, ℤ, leb, length}
use Rattle.std.proofs.Math.IntN.{sub_ℕ}
use Rattle.bits.specs.Basics.{values_from}
use Rattle.vectors.specs.declared.svq1_motion_predictor.Svq1Mv.{Svq1Mv}
use Rattle.canvas.specs.Canvas.{Canvas, largest_side, padded16}
use Rattle.compensation.specs.Compensation.{moved_sample}
use Rattle.mv_cache.specs.Grid.{entry_of, put_part}
use Rattle.compensation.specs.RowForms.{Sides, cell}

-- the samples xs of the macroblock at (x, y) with its part q, of side s, taken from the canvas moved by a vector: with 1 part a row the whole macroblock, with 2 a quarter
unfoldable pub moved_part : Canvas → ℕ → ℕ → Svq1Mv → ℕ → ℕ → ℕ → List ℕ → List ℕ
moved_part c x y v s cols q xs = put_part s cols q (values_from (λ j. moved_sample c 16 x y v (entry_of s cols q j)) (s * s) 0) xs

-- the parts of side s, in raster order, make up 16 samples a row
pub record Parts (s cols q : ℕ) : Type 0 where
  pub sides : Sides s
  pub across : s * cols ≡ 16
  pub inside : q < cols * cols

-- a macroblock in a canvas
pub record Placed (c : Canvas) (x y : ℕ) : Type 0 where
  pub canvas_len : length c.samples ≡ c.stride * c.rows
  pub stride_most : c.stride ≤ padded16 largest_side
  pub rows_most : c.rows ≤ padded16 largest_side
  pub x_in : x + 16 ≤ c.stride
  pub y_in : y + 16 ≤ c.rows

-- a component of 32 bits is raised by 2^32, and half of it by 2^31, so that no place falls below 0
abbrev pub down : ℕ → ℤ
down u = sub_ℕ u 4294967296

abbrev pub down_half : ℕ → ℤ
down_half u = sub_ℕ u 2147483648

abbrev pub down_mv : ℕ → ℕ → Svq1Mv
down_mv ux uy = record { x = down ux; y = down uy }

-- raised places stay below this
abbrev pub up_end : ℕ
up_end = 8589934592

pub record Lifted (z : ℤ) (u : ℕ) : Type 0 where
  pub same : down u ≡ z
  pub most : u ≤ 6442450944

-- ---- where every read lies in the canvas
-- a part of side s whose corner is read at x0, y0, between columns and rows as ox and oy say
pub record InCanvas (c : Canvas) (s ox oy x0 y0 : ℕ) : Type 0 where
  pub ox_bit : ox < 2
  pub oy_bit : oy < 2
  pub canvas_len : length c.samples ≡ c.stride * c.rows
  pub x_in : x0 + ox + s ≤ c.stride
  pub y_in : y0 + oy + s ≤ c.rows

-- the samples xs with part q read there
unfoldable pub cell_part : Canvas → ℕ → ℕ → ℕ → ℕ → ℕ → ℕ → ℕ → List ℕ → List ℕ
cell_part c ox oy x0 y0 s cols q xs = put_part s cols q (values_from (λ j. cell c ox oy ((y0 + j / s) * c.stride + x0 + j % s)) (s * s) 0) xs

-- on one axis, from a raised half-sample place h on
abbrev pub inside_up : ℕ → ℕ → ℕ → Bool
inside_up h s size = leb 4294967296 h && leb (h / 2 - 2147483648 + h % 2 + s) size
