-- Laws of the plane reader: one macroblock is one step of the run, the loop's turns, and the call refused or read.
-- Assumes nothing.
use Rattle.std.specs.Prelude.{◌≡◌, List, ℕ, ◌+◌, ◌-◌, ◌≤◌, ◌<◌, drop, Some, None, Ok, Err}
use Rattle.std.proofs.Math.Path.{sym}
use Rattle.std.proofs.Common.{◌∙◌, arith}
use Rattle.std.proofs.Math.Bool.{true, false}
use Rattle.std.proofs.Math.Dec.{eqb}
use Rattle.std.proofs.Math.ListN.{length, length-drop}
use borrow.Author.Tests.{eq-eqb, ne_eqb}
use Rattle.bits.specs.Basics.{or_else, first_of}
use Rattle.bits.specs.BasicsLaws.{chain_met, chain_passed, two_links}
use Rattle.bits.specs.Bits.{bits_of}
use Rattle.bits.specs.BitsLaws.{length_bits_of}
use Rattle.bits.specs.Refusals.{number_of}
use Rattle.bits.specs.CallsLaws.{refusal_met}
use Rattle.bits.specs.declared.refusal.Refusal.{Refusal}
use Rattle.canvas.specs.Canvas.{size_refusal, canvas_refusal, canvas_links}
use Rattle.macroblock.specs.Macroblock.{Given}
use Rattle.macroblock.specs.Slices.{Slices}
use Rattle.macroblock_dec.specs.ReadNeeds.{ReadReady, MbRead}
use Rattle.plane.specs.declared.svq1_plane.inner.SliceLengths.{SliceLengths}
use Rattle.plane.specs.Run.{Step, on, stop}
use Rattle.plane.specs.RunLaws.{set_out, gone_on, ends_early, ends_last}
use Rattle.plane.specs.Plane.{count, ReadingState, read_step, read_up_to, read_plane}
use Rattle.plane.specs.Refusals.{lent_links, read_refusal_by, read_refusal}
use Rattle.plane.specs.Calls.{PlaneRead, read_plane_answer, read_slices}
use Rattle.plane.specs.PlaneNeeds.{PlaneReady}
use Rattle.plane.specs.SlicesLaws.{same_at_first, laid_same, same_held}
use Rattle.plane_dec.specs.declared.svq1_plane.ReadEnd.{ReadEnd}
use Rattle.plane_dec.specs.ReaderNeeds.{read_end_of, ReadThrough, Going}

-- ---- one macroblock is one step
module _ (g : Given) (bytes : List ℕ) (at k : ℕ) (u left : Slices) where
  abbrev step_here : Step ReadingState
  step_here = read_step g (bits_of bytes) k (record { next = at; slices = u })

  pub step_on : (next : ℕ) → MbRead g bytes at k u (Ok next) left → step_here ≡ on (record { next = next; slices = left })
  unfolding read_step
  step_on next m =
      let n : length (bits_of bytes) - length (drop next (bits_of bytes)) ≡ next = omega (arith, length-drop next (bits_of bytes), length_bits_of bytes, m.found.within) in
      rw (← m.found.is, n, ← m.slices)

  pub step_stop : (r : Refusal) → MbRead g bytes at k u (Err r) left → step_here ≡ stop (number_of r)
  unfolding read_step
  step_stop r m = rw (← m.0)

-- ---- the loop
module _ (g : Given) (raised bytes : List ℕ) (start : ℕ) (u₀ : Slices) (p : PlaneReady g raised u₀ (length bytes) start) where
  pub begun : Going g bytes start u₀ u₀ 0 start
  begun = record { same = same_at_first u₀; within = omega (arith, p.from.bits_fit); loop = set_out (read_step g (bits_of bytes)) (count g) _ }

  module _ (u : Slices) (k at : ℕ) (i : Going g bytes start u₀ u k at) where
    pub ready : k < count g → ReadReady g raised u k (length bytes) at
    ready h = record { ok = p.ok; held = same_held g u₀ u i.same p.held; number = h; from = record { bytes_fit = p.from.bytes_fit; bits_fit = omega (arith, i.within) } }

    module _ (left : Slices) (h : k < count g) where
      pub turn : (next : ℕ) → MbRead g bytes at k u (Ok next) left → Going g bytes start u₀ left (k + 1) next
      turn next m = record {
        same = rw m.slices (laid_same g k m.choice u₀ u i.same);
        within = m.found.within;
        loop = gone_on (read_step g (bits_of bytes)) (count g) _ k _ i.loop (record { next = next; slices = left }) h (step_on g bytes at k u left next m);
      }

      pub stop_early : (r : Refusal) → MbRead g bytes at k u (Err r) left → ReadThrough g bytes start u₀ (record { refused = Some r; done = k; next = at }) left
      unfolding read_plane read_up_to
      stop_early r m =
          ends_early (read_step g (bits_of bytes)) (count g) _ k _ i.loop (number_of r) h (step_stop g bytes at k u left r m) ∙ rw m.1

    pub stop_last : count g ≤ k → ReadThrough g bytes start u₀ (record { refused = None; done = k; next = at }) u
    unfolding read_plane read_up_to
    stop_last h = ends_last (read_step g (bits_of bytes)) (count g) _ k _ i.loop h

-- ---- refusals, by the code's tests
module _ (g : Given) (bytes start : ℕ) (l : SliceLengths) (plane : ℕ) (e : plane ≡ or_else (size_refusal g.width g.height) (canvas_refusal g.width g.height g.reference)) where
  abbrev before : List ℕ
  before = canvas_links g.width g.height g.reference

  pub by_plane : (plane ≡ 0 → ⊥) → plane ≡ read_refusal_by g bytes start l
  unfolding read_refusal_by
  by_plane h = chain_met plane before (lent_links g bytes start l) (e ∙ sym (two_links _ _)) h

  pub by_lent : (n : ℕ) → plane ≡ 0 → n ≡ first_of (lent_links g bytes start l) → n ≡ read_refusal_by g bytes start l
  unfolding read_refusal_by
  by_lent n z q = chain_passed n before (lent_links g bytes start l) (two_links _ _ ∙ sym e ∙ z) q

-- ---- the call
module _ (g : Given) (bytes : List ℕ) (start : ℕ) (u : Slices) where
  pub call_refused : (r : Refusal) → number_of r ≡ read_refusal g bytes start u → PlaneRead g bytes start u (read_end_of (record { refused = Some r; done = 0; next = 0 })) u
  unfolding read_plane_answer read_slices
  call_refused r e =
      let no : eqb (read_refusal g bytes start u) 0 ≡ false = ne_eqb (read_refusal g bytes start u) 0 (refusal_met r (read_refusal g bytes start u) e) in
      record { answer = rw (no, ← e); left_slices = rw no }

  pub call_read : (r : ReadEnd) (left : Slices) → read_refusal g bytes start u ≡ 0 → ReadThrough g bytes start u r left → PlaneRead g bytes start u (read_end_of r) left
  unfolding read_plane_answer read_slices
  call_read r left z e =
      let yes : eqb (read_refusal g bytes start u) 0 ≡ true = eq-eqb (read_refusal g bytes start u) 0 z in
      record { answer = rw (yes, e); left_slices = rw (yes, e) }
