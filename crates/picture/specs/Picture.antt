-- A picture: planes one behind the other in one output, inside one allowance of bits (document 02, §5).
use Rattle.std.specs.Prelude.{ℕ, ◌+◌, ◌-◌, ◌*◌, List, [], ◌∷◌, eqb}
use Rattle.bits.specs.Basics.{pick, or_else}
use Rattle.canvas.specs.Canvas.{blocks_along}
use Rattle.canvas.specs.declared.svq1_plane.Svq1PlaneCanvas.{Svq1PlaneCanvas}
use Rattle.macroblock.specs.declared.svq1_enc_inter.Settings.{Settings}
use Rattle.macroblock.specs.Macroblock.{Given}
use Rattle.macroblock.specs.Limit.{within}
use Rattle.macroblock.specs.Choice.{Task}
use Rattle.macroblock.specs.Slices.{Slices, slices_by}
use Rattle.macroblock.specs.MacroblockNeeds.{given_by}
use Rattle.macroblock_choice.specs.ChosenNeeds.{task_in}
use Rattle.plane.specs.Run.{End}
use Rattle.plane.specs.Plane.{Writing, to_write, write_plane}
use Rattle.plane_enc.specs.Stated.{stated_in}

-- what the planes of a picture share
pub record Shared : Type 0 where
  pub book : List ℕ
  pub codebook : List ℕ
  pub settings : Settings

abbrev pub shared_by : List ℕ → List ℕ → Settings → Shared
shared_by book codebook settings = record { book = book; codebook = codebook; settings = settings }

-- what a plane is lent to be written into, or has left there: its result slices, and its slice of stated numbers
pub record Results : Type 0 where
  pub slices : Slices
  pub stated : List ℕ

abbrev pub results_by : List ℕ → List ℕ → List ℕ → List ℕ → Results
results_by recon vx vy stated = record { slices = slices_by recon vx vy; stated = stated }

-- a plane as it is given: its size with that of its canvas, its source, its reference, and what it is lent to be written into
pub record PlaneIn : Type 0 where
  pub canvas : Svq1PlaneCanvas
  pub source : List ℕ
  pub reference : List ℕ
  pub results : Results

abbrev pub plane_by : Svq1PlaneCanvas → List ℕ → List ℕ → Results → PlaneIn
plane_by canvas source reference results = record { canvas = canvas; source = source; reference = reference; results = results }

abbrev pub plane_given : Shared → PlaneIn → Given
plane_given s p = given_by p.canvas p.reference s.book s.codebook

-- the macroblocks of a plane, and of planes together
abbrev pub canvas_blocks : Svq1PlaneCanvas → ℕ
canvas_blocks c = blocks_along c.height * blocks_along c.width

unfoldable pub macroblocks : List PlaneIn → ℕ
macroblocks [] = 0
macroblocks (p ∷ ps) = canvas_blocks p.canvas + macroblocks ps

-- what a plane is handed by those before it: the output's bits, the bit to go on from, what is left of the allowance, and the refusal with which one of them ended early, 0 for none
pub record Handed : Type 0 where
  pub out : List ℕ
  pub next : ℕ
  pub remaining : ℕ
  pub refusal : ℕ

abbrev pub handed_by : List ℕ → ℕ → ℕ → ℕ → Handed
handed_by out next remaining refusal = record { out = out; next = next; remaining = remaining; refusal = refusal }

-- the task of a plane, with so many macroblocks in the planes behind it: what is left of the allowance is for it and for them
abbrev pub plane_task : Shared → PlaneIn → ℕ → Handed → Task
plane_task s p behind h = task_in p.source s.settings (within (record { allowance = h.remaining; behind = behind }))

-- how a plane ends. One behind a plane that ended early is not reached: nothing is done, at the bit where writing ended
unfoldable pub plane_end : Shared → PlaneIn → ℕ → Handed → End Writing
plane_end s p behind h =
    pick (eqb h.refusal 0) (write_plane (plane_given s p) (plane_task s p behind h) h.out h.next p.results.slices)
    (record { refusal = 0; done = 0; state = to_write h.out h.next p.results.slices })

-- what it leaves in its own slices
unfoldable pub plane_left : Shared → PlaneIn → ℕ → Handed → Results
plane_left s p behind h =
    let e = plane_end s p behind h in
    record {
      slices = e.state.slices;
      stated = stated_in (plane_given s p) (plane_task s p behind h) h.out h.next p.results.slices p.results.stated e.done;
    }

-- what the plane behind it is handed: the next plane begins at the bit where this one ended
abbrev pub hand_on : Handed → End Writing → Handed
hand_on h e = record { out = e.state.out; next = e.state.next; remaining = h.remaining - e.state.bits; refusal = or_else h.refusal e.refusal }

-- something of each plane in turn: by the plane, the macroblocks of those behind it, and what it is handed
unfoldable pub in_turn : {A : Type 0} → Shared → (PlaneIn → ℕ → Handed → A) → List PlaneIn → Handed → List A
in_turn s f [] h = []
in_turn s f (p ∷ ps) h = f p (macroblocks ps) h ∷ in_turn s f ps (hand_on h (plane_end s p (macroblocks ps) h))

-- what is handed on behind the last of them
unfoldable pub behind_last : Shared → List PlaneIn → Handed → Handed
behind_last s [] h = h
behind_last s (p ∷ ps) h = behind_last s ps (hand_on h (plane_end s p (macroblocks ps) h))
