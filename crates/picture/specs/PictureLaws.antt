-- Laws of a picture: what a plane hands on and what the next one asks. That three planes make a picture is in proofs/PictureLaws.
-- Assumes nothing.
use Rattle.std.specs.Prelude.{◌≡◌, Bool, List, ◌∷◌, ℕ, ◌+◌, ◌-◌, ◌*◌, ◌%◌, ◌≤◌, length, None}
use Rattle.std.proofs.Math.Path.{refl, sym}
use Rattle.std.proofs.Common.{◌∙◌, arith, add-zero, mul-le-mul_left}
use Rattle.std.proofs.Math.Bool.{true, false}
use Rattle.std.proofs.Math.Dec.{eqb}
use borrow.Author.Tests.{eq-eqb, ne_eqb, eqb-true, leb-true, le-leb}
use Rattle.bits.specs.Basics.{pick}
use Rattle.bits.specs.Bits.{bits_of}
use Rattle.macroblock.specs.Macroblock.{Given}
use Rattle.macroblock.specs.Limit.{can_skip_rest}
use Rattle.macroblock.specs.Choice.{Task}
use Rattle.macroblock.specs.Slices.{Slices, lent_by}
use Rattle.plane.specs.Run.{End, after}
use Rattle.plane.specs.RunLaws.{run_stands}
use Rattle.plane.specs.Plane.{count, Writing, fits, written, to_write, write_plane}
use Rattle.plane.specs.PlaneLaws.{AppendsOnly, appends_end, inside_end}
use Rattle.plane.specs.LimitLaws.{skip_rest_end}
use Rattle.plane.specs.RefusalsLaws.{write_accepted}
use Rattle.plane_enc.specs.declared.svq1_enc_inter.WriteEnd.{WriteEnd}
use Rattle.plane_enc.specs.Stated.{ToldThrough}
use Rattle.plane_enc.specs.StatedLaws.{in_none}
use Rattle.picture.specs.Picture.{Shared, PlaneIn, plane_given, canvas_blocks, macroblocks, Handed, handed_by, plane_task, plane_end, plane_left, hand_on}
use Rattle.picture.specs.Refusals.{skip_bits, plane_refusal}
use Rattle.picture.specs.PictureNeeds.{Intact, NextReady, PlaneThrough}

-- ---- one plane, reached or not
module _ (s : Shared) (p : PlaneIn) (behind : ℕ) (h : Handed) where
  abbrev g : Given
  g = plane_given s p

  abbrev t : Task
  t = plane_task s p behind h

  abbrev reached : End Writing
  reached = write_plane g t h.out h.next p.results.slices

  abbrev unreached : End Writing
  unreached = record { refusal = 0; done = 0; state = to_write h.out h.next p.results.slices }

  pub either_way : (P : End Writing → Type 0) → (h.refusal ≡ 0 → P reached) → P unreached → P (plane_end s p behind h)
  unfolding plane_end
  either_way P f n = go (eqb h.refusal 0) refl
    where
      go : (q : Bool) → eqb h.refusal 0 ≡ q → P (pick q reached unreached)
      go true e = f (eqb-true h.refusal 0 e)
      go false e = n

  pub is_reached_lem : h.refusal ≡ 0 → plane_end s p behind h ≡ reached
  unfolding plane_end
  is_reached_lem e = rw (eq-eqb h.refusal 0 e)

  pub done_most : (plane_end s p behind h).done ≤ canvas_blocks p.canvas
  unfolding write_plane after
  done_most =
      let u = run_stands 22 (fits g t) (written g t) (to_write h.out h.next p.results.slices) (count g) 0 in
      either_way (λ e. e.done ≤ canvas_blocks p.canvas) (λ z. omega (arith, u.at_most)) (omega arith)

  module _ (whole : length h.out % 8 ≡ 0) (inside : h.next ≤ length h.out) where
    pub appends_only : AppendsOnly h.out h.next (plane_end s p behind h).state
    appends_only =
        either_way (λ e. AppendsOnly h.out h.next e.state) (λ z. appends_end g t h.out whole h.next p.results.slices)
        (record { long = refl; before = refl; next = sym (add-zero h.next) })

    pub ends_inside : (plane_end s p behind h).state.next ≤ length h.out
    ends_inside = either_way (λ e. e.state.next ≤ length h.out) (λ z. inside_end g t h.out whole h.next p.results.slices inside) inside

  module _ (enough : skip_bits s.book * (canvas_blocks p.canvas + behind) ≤ h.remaining) where
    pub begins : can_skip_rest t.limit g 0 0 ≡ true
    begins =
        let q : count g - 0 + behind ≡ canvas_blocks p.canvas + behind = omega arith in
        le-leb _ h.remaining (rw q (omega arith))

    pub bits_left : (plane_end s p behind h).state.bits + skip_bits s.book * behind ≤ h.remaining
    bits_left =
        let less : skip_bits s.book * behind ≤ skip_bits s.book * (canvas_blocks p.canvas + behind) = mul-le-mul_left (skip_bits s.book) (omega arith) in
        let some : skip_bits s.book * behind ≤ skip_bits s.book * (count g - reached.done + behind) = mul-le-mul_left (skip_bits s.book) (omega arith) in
        let at-end = leb-true _ h.remaining (skip_rest_end g t begins h.out h.next p.results.slices) in
        either_way (λ e. e.state.bits + skip_bits s.book * behind ≤ h.remaining) (λ z. omega arith) (omega arith)

-- ---- what is handed on
module _ (s : Shared) (p : PlaneIn) (ps : List PlaneIn) (bytes : ℕ) (h : Handed) (i : Intact s (p ∷ ps) bytes h) where
  has_enough : skip_bits s.book * (canvas_blocks p.canvas + macroblocks ps) ≤ h.remaining
  unfolding macroblocks
  has_enough = i.enough

  has_whole : length h.out % 8 ≡ 0
  has_whole = rw i.long (omega arith)

  has_inside : h.next ≤ length h.out
  has_inside = rw i.long i.inside

  pub spent_most : (plane_end s p (macroblocks ps) h).state.bits + skip_bits s.book * macroblocks ps ≤ h.remaining
  spent_most = bits_left s p (macroblocks ps) h has_enough

  pub handed_on : Intact s ps bytes (hand_on h (plane_end s p (macroblocks ps) h))
  handed_on =
      record {
        long = (appends_only s p (macroblocks ps) h has_whole has_inside).long ∙ i.long;
        inside = omega (arith, ends_inside s p (macroblocks ps) h has_whole has_inside, i.long);
        enough = omega (arith, spent_most);
      }

  -- what writing the plane asks
  pub next_ready : (start : ℕ) → plane_refusal s bytes start p ≡ 0 → macroblocks ps ≤ 4294967296 → NextReady s p (macroblocks ps) h.remaining bytes h.next
  next_ready start e few =
      let w = write_accepted (plane_given s p) p.results.slices bytes start (length p.source) e in
      let a = w.0 in
      record {
        plane = record { size = a.size; canvas = a.canvas; tables = a.tables; held = a.held; from = record { bytes_fit = a.from.bytes_fit; bits_fit = omega (arith, i.inside) } };
        samples = w.1;
        spends = record { skips_rest = begins s p (macroblocks ps) h has_enough; few = few };
      }

-- ---- one plane by the code
module _ (s : Shared) (p : PlaneIn) (behind : ℕ) (out : List ℕ) (start remaining before : ℕ) where
  abbrev H : Handed
  H = handed_by (bits_of out) start remaining before

  pub through_unreached : (before ≡ 0 → ⊥) → PlaneThrough s p behind H (record { refused = None; done = 0; next = start; bits = 0; error = 0 }) out p.results
  unfolding plane_end plane_left
  through_unreached n =
      let q = ne_eqb before 0 n in
      record { ended = rw q; left = rw (q, in_none (plane_given s p) (plane_task s p behind H) (bits_of out) start p.results.slices p.results.stated) }

  pub through_reached : before ≡ 0 → (r : WriteEnd) (out' : List ℕ) (v : Slices) (stated' : List ℕ)
      → ToldThrough (plane_given s p) (plane_task s p behind H) start (lent_by out p.results.slices) p.results.stated r (lent_by out' v) stated'
      → PlaneThrough s p behind H r out' (record { slices = v; stated = stated' })
  unfolding plane_end plane_left
  through_reached z r out' v stated' w =
      let q = eq-eqb before 0 z in
      record { ended = rw q w.written; left = rw (q, w.written, ← w.stated) }
