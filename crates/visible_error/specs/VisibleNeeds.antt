-- What summing visible samples asks (over the definitions of Visible).
use Rattle.std.specs.Prelude.{ℕ, ◌*◌, List, ◌≡◌, length}
use Rattle.canvas.specs.Canvas.{blocks_along}
use Rattle.canvas.specs.CanvasLaws.{Fitting}
use Rattle.canvas.specs.declared.svq1_plane.Svq1PlaneCanvas.{Svq1PlaneCanvas}
use Rattle.visible_error.specs.Visible.{ShownPlane}

-- the plane of a canvas, its source and its reconstruction
abbrev pub shown_by : Svq1PlaneCanvas → List ℕ → List ℕ → ShownPlane
shown_by c source recon = record { width = c.width; height = c.height; source = source; recon = record { samples = recon; stride = c.stride; rows = c.rows } }

-- how many macroblocks it has
abbrev pub shown_blocks : ShownPlane → ℕ
shown_blocks s = blocks_along s.height * blocks_along s.width

-- one that no refusal meets
pub record Showable (s : ShownPlane) : Type 0 where
  pub fits : Fitting s.width s.height s.recon
  pub samples : length s.source ≡ s.width * s.height
