-- Laws of three planes written one behind the other: what each call asks, and that nothing overflows.
-- Assumes nothing.
use Rattle.std.specs.Prelude.{◌≡◌, ℕ, ◌+◌, ◌-◌, ◌*◌, ◌≤◌, length}
use Rattle.std.proofs.Math.Path.{sym}
use Rattle.std.proofs.Common.{ap, ◌∙◌, arith, add-zero}
use mathlib.Core.List.{List, [], ◌∷◌}
use Rattle.bits.specs.Refusals.{number_told}
use Rattle.bits.specs.Basics.{or_else}
use Rattle.bits.specs.Bits.{bits_of}
use Rattle.bits.specs.BitsLaws.{length_bits_of}
use Rattle.plane.specs.Run.{End}
use Rattle.plane.specs.Plane.{Writing}
use Rattle.plane.specs.RefusalsLaws.{write_accepted}
use Rattle.plane_enc.specs.declared.svq1_enc_inter.WriteEnd.{WriteEnd}
use Rattle.plane_enc.specs.WriterNeeds.{write_end_of}
use Rattle.picture.specs.Picture.{Shared, Results, PlaneIn, plane_given, canvas_blocks, macroblocks, Handed, handed_by}
use Rattle.picture.specs.Refusals.{plane_refusal, plane_lengths, picture_refusal}
use Rattle.picture.specs.PictureNeeds.{SmallSides, Intact, NextReady, PlaneThrough, PictureThrough}
use Rattle.picture.specs.RefusalsLaws.{checks_pass, planes_pass, most_blocks, few_blocks}
use Rattle.picture.specs.PictureLaws.{done_most, spent_most, handed_on, next_ready}
use Rattle.picture.proofs.PictureLaws.{three_through}

-- ---- planes that pass
pub small_sides : (s : Shared) (p : PlaneIn) (bytes start : ℕ) → plane_refusal s bytes start p ≡ 0 → SmallSides p.canvas
small_sides s p bytes start e = (checks_pass (plane_lengths p) p.reference s.book s.codebook bytes start e).0

done_few : (s : Shared) (p : PlaneIn) (behind : ℕ) (h : Handed) {r : WriteEnd} {out' : List ℕ} {x : Results} → SmallSides p.canvas → PlaneThrough s p behind h r out' x → r.done ≤ most_blocks
done_few s p behind h small t = omega (arith, few_blocks p.canvas small, ap (λ (e : End Writing). e.done) t.ended, done_most s p behind h)

module _ (s : Shared) (a b c : PlaneIn) (out : List ℕ) (start allowance : ℕ) (e : picture_refusal s (a ∷ b ∷ c ∷ []) allowance (length out) start ≡ 0) where
  abbrev bytes : ℕ
  bytes = length out

  abbrev first : Handed
  first = handed_by (bits_of out) start allowance 0

  pub small0 : SmallSides a.canvas
  small0 = small_sides s a bytes start (planes_pass s (a ∷ b ∷ c ∷ []) allowance bytes start e).0.0

  pub small1 : SmallSides b.canvas
  small1 = small_sides s b bytes start (planes_pass s (a ∷ b ∷ c ∷ []) allowance bytes start e).0.1.0

  pub small2 : SmallSides c.canvas
  small2 = small_sides s c bytes start (planes_pass s (a ∷ b ∷ c ∷ []) allowance bytes start e).0.1.1.0

  starts : start ≤ 8 * bytes
  starts =
      let w = write_accepted (plane_given s a) a.results.slices bytes start (length a.source) (planes_pass s (a ∷ b ∷ c ∷ []) allowance bytes start e).0.0 in
      omega (arith, w.0.from.bits_fit)

  intact0 : Intact s (a ∷ b ∷ c ∷ []) bytes first
  intact0 = record { long = length_bits_of out; inside = starts; enough = (planes_pass s (a ∷ b ∷ c ∷ []) allowance bytes start e).1 }

  -- with the macroblocks of the third plane and of the second, as they are counted
  module _ {last next : ℕ} (l : last ≡ canvas_blocks c.canvas) (n : next ≡ canvas_blocks b.canvas) where
    behind_second : last ≡ macroblocks (c ∷ [])
    unfolding macroblocks
    behind_second = l ∙ sym (add-zero (canvas_blocks c.canvas))

    behind_first : next + last ≡ macroblocks (b ∷ c ∷ [])
    unfolding macroblocks
    behind_first = omega (arith, l, n)

    few_behind : macroblocks (b ∷ c ∷ []) ≤ 2 * most_blocks
    few_behind = omega (arith, behind_first, l, n, few_blocks b.canvas small1, few_blocks c.canvas small2)

    few_last : macroblocks (c ∷ []) ≤ most_blocks
    few_last = omega (arith, behind_second, l, few_blocks c.canvas small2)

    pub ready_first : NextReady s a (next + last) allowance bytes start
    ready_first =
        rw behind_first (next_ready s a (b ∷ c ∷ []) bytes first intact0 start (planes_pass s (a ∷ b ∷ c ∷ []) allowance bytes start e).0.0 (omega (arith, few_behind)))

    module _ {r0 : WriteEnd} {out0 : List ℕ} {x0 : Results} (t0 : PlaneThrough s a (next + last) first r0 out0 x0) where
      through0 : PlaneThrough s a (macroblocks (b ∷ c ∷ [])) first r0 out0 x0
      through0 = rw behind_first at t0

      abbrev second : Handed
      second = handed_by (bits_of out0) r0.next (allowance - r0.bits) (number_told r0.refused)

      pub spent_first : r0.bits ≤ allowance
      spent_first = omega (arith, spent_most s a (b ∷ c ∷ []) bytes first intact0, ap (λ (x : End Writing). x.state.bits) through0.ended)

      intact1 : Intact s (b ∷ c ∷ []) bytes second
      intact1 = rw through0.ended at (handed_on s a (b ∷ c ∷ []) bytes first intact0)

      pub ready_second : {m : ℕ} → m ≡ bytes → NextReady s b last (allowance - r0.bits) m r0.next
      ready_second q =
          rw (behind_second, q) (next_ready s b (c ∷ []) bytes second intact1 start (planes_pass s (a ∷ b ∷ c ∷ []) allowance bytes start e).0.1.0 (omega (arith, few_last)))

      module _ {r1 : WriteEnd} {out1 : List ℕ} {x1 : Results} (t1 : PlaneThrough s b last second r1 out1 x1) where
        through1 : PlaneThrough s b (macroblocks (c ∷ [])) second r1 out1 x1
        through1 = rw behind_second at t1

        pub spent_second : r1.bits ≤ allowance - r0.bits
        spent_second = omega (arith, spent_most s b (c ∷ []) bytes second intact1, ap (λ (x : End Writing). x.state.bits) through1.ended)

        module _ {two : ℕ} (so : two ≡ or_else (number_told r0.refused) (number_told r1.refused)) where
          abbrev third : Handed
          third = handed_by (bits_of out1) r1.next (allowance - r0.bits - r1.bits) two

          intact2 : Intact s (c ∷ []) bytes third
          intact2 = rw so (rw through1.ended at (handed_on s b (c ∷ []) bytes second intact1))

          pub ready_third : {m : ℕ} → m ≡ bytes → NextReady s c 0 (allowance - r0.bits - r1.bits) m r1.next
          unfolding macroblocks
          ready_third q = rw q (next_ready s c [] bytes third intact2 start (planes_pass s (a ∷ b ∷ c ∷ []) allowance bytes start e).0.1.1.0 (omega arith))

          module _ {r2 : WriteEnd} {out2 : List ℕ} {x2 : Results} (t2 : PlaneThrough s c 0 third r2 out2 x2) where
            pub few_done : (r1.done + r2.done ≤ 2 * most_blocks) × (r0.done + (r1.done + r2.done) ≤ 3 * most_blocks)
            few_done =
                let d0 = done_few s a (next + last) first small0 t0 in
                let d1 = done_few s b last second small1 t1 in
                let d2 = done_few s c 0 third small2 t2 in
                (omega arith, omega arith)

            pub planes_through : {refused : ℕ} → refused ≡ or_else two (number_told r2.refused)
                → PictureThrough s (a ∷ b ∷ c ∷ []) first (record { refusal = refused; done = r0.done + (r1.done + r2.done); planes = write_end_of r0 ∷ write_end_of r1 ∷ write_end_of r2 ∷ [] }) out2 (x0 ∷ x1 ∷ x2 ∷ [])
            planes_through ends = three_through s a b c out start allowance through0 through1 so t2 ends
