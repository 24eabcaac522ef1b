-- Rows of a block as the code reads them where every read lies in the canvas, and their sum against the best found so far as the code holds it (document 01, `svq1_enc_inter.rs`, document 02, §6, over the definitions of Compensation and Error). What they amount to is in `RowFormsLaws` and `EarlyLaws`.
use Rattle.std.specs.Prelude.{ℕ, ◌+◌, ◌*◌, ◌%◌, ◌≤◌, ◌<◌, ◌≡◌, List, eqb, ltb, length, get_or}
use Rattle.std.proofs.Math.Option.{Option, none, some}
use Rattle.bits.specs.Basics.{pick, gap, sum}
use Rattle.canvas.specs.Canvas.{Canvas}
use Rattle.compensation.specs.Compensation.{mean2, mean4}
use Rattle.compensation.specs.Error.{sum_rows}
use Rattle.compensation.specs.declared.svq1_enc_inter.inner.VectorSum.{VectorSum}

-- the sample at place p of the canvas's list, with no clamp; ox and oy, 0 or 1, say whether it lies between two columns and two rows
unfoldable pub cell : Canvas → ℕ → ℕ → ℕ → ℕ
cell c ox oy p =
    let a = get_or c.samples p 0 in
    let right = get_or c.samples (p + 1) 0 in
    let below = get_or c.samples (p + c.stride) 0 in
    let across = get_or c.samples (p + c.stride + 1) 0 in
    pick (eqb ox 0) (pick (eqb oy 0) a (mean2 a below)) (pick (eqb oy 0) (mean2 a right) (mean4 a right below across))

-- a block's side is 8 or 16
pub record Sides (n : ℕ) : Type 0 where
  pub some : 8 ≤ n
  pub even : n % 8 ≡ 0
  pub most : n ≤ 16

-- the absolute error of n samples of t against a row, against the means of two rows, and of four
abbrev pub against : List ℕ → List ℕ → ℕ → ℕ
against t a n = sum (λ k. gap (get_or t k 0) (get_or a k 0)) n

abbrev pub against_two : List ℕ → List ℕ → List ℕ → ℕ → ℕ
against_two t a b n = sum (λ k. gap (get_or t k 0) (mean2 (get_or a k 0) (get_or b k 0))) n

abbrev pub against_four : List ℕ → List ℕ → List ℕ → List ℕ → List ℕ → ℕ → ℕ
against_four t a b c d n = sum (λ k. gap (get_or t k 0) (mean4 (get_or a k 0) (get_or b k 0) (get_or c k 0) (get_or d k 0))) n

-- the absolute error of the n samples of t from place ti on against those at p, between columns and rows as ox and oy say
abbrev pub cells : List ℕ → Canvas → ℕ → ℕ → ℕ → ℕ → ℕ → ℕ
cells t c n ox oy ti p = sum (λ j. gap (get_or t (ti + j) 0) (cell c ox oy (p + j))) n

-- of row i of the block of side n whose corner is read at x0, y0
unfoldable pub row_at : List ℕ → Canvas → ℕ → ℕ → ℕ → ℕ → ℕ → ℕ → ℕ
row_at t c n ox oy x0 y0 i = cells t c n ox oy (n * i) ((y0 + i) * c.stride + x0)

-- the best found so far as a number: no block's absolute error is as much as `no_best`, so that number and every larger one stand for none
abbrev pub no_best : ℕ
no_best = 65536

abbrev pub best_or_none : ℕ → Option ℕ
best_or_none b = pick (ltb b no_best) (some b) none

-- the parts of a block that is read inside the canvas: its side 8 or 16, its corner at (x0, y0), between columns and rows as ox and oy say
pub record ReadIn (t : List ℕ) (c : Canvas) (n ox oy x0 y0 : ℕ) : Type 0 where
  pub side : Sides n
  pub ox_bit : ox < 2
  pub oy_bit : oy < 2
  pub target_len : length t ≡ n * n
  pub canvas_len : length c.samples ≡ c.stride * c.rows
  pub x_in : x0 + ox + n ≤ c.stride
  pub y_in : y0 + oy + n ≤ c.rows

-- what summing answers, and that it is below the number for none
pub record Summed (t : List ℕ) (c : Canvas) (n ox oy x0 y0 best : ℕ) (r : VectorSum) : Type 0 where
  pub answer : r ≡ sum_rows (row_at t c n ox oy x0 y0) (best_or_none best) n 0 0
  pub small : r.sum < no_best
