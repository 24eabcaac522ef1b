-- The claim holds of a plane written and read back in memory.
-- Assumes nothing.
use Rattle.std.specs.Prelude.{◌≡◌, true, List, ℕ, ◌*◌, ◌≤◌, length, take, drop}
use Rattle.std.proofs.Common.{sym, ap, ◌∙◌, arith, le_refl, eq-eqb}
use Rattle.bits.specs.Bits.{bits_of}
use Rattle.bits.specs.BitsLaws.{length_bits_of, bits_whole}
use Rattle.bits.specs.Calls.{start_refusal}
use Rattle.plan.specs.PlanClaim.{largest_lambda}
use Rattle.macroblock.specs.Macroblock.{Given}
use Rattle.macroblock.specs.Limit.{can_skip_rest}
use Rattle.macroblock.specs.Choice.{Task}
use Rattle.macroblock.specs.Slices.{Slices, blocks_in}
use Rattle.plane.specs.Run.{End}
use Rattle.plane.specs.Plane.{count, Writing, write_plane, ReadingState, read_plane}
use Rattle.plane.specs.Refusals.{write_refusal, read_refusal, slices_refusal}
use Rattle.plane.specs.RefusalsLaws.{results_pass}
use Rattle.plane.specs.Calls.{PlaneAnswer, PlaneWritten, PlaneRead, written_answer, end_answer, write_answer, write_out, write_slices, read_plane_answer, read_slices}
use Rattle.plane_enc.specs.Stated.{PlaneStated}
use Rattle.plane_enc.specs.StatedLaws.{stated_at}
use Rattle.claim.specs.Claim.{state_at, final, Claim, InMemory, ReadBack}
use Rattle.claim.specs.OutputLaws.{same_length}
use Rattle.claim.specs.ClaimLaws.{claimed}
use Rattle.claim.specs.RoundTrip.{Ended, Returned, TripLent, RoundTrip}

-- ---- the reader alone: where what is read back is as claimed, its answer and its slices are those of the state that the writer ended in
module _ (g : Given) (bytes : List ℕ) (start : ℕ) (d : Slices) (s : ℕ → Writing) (back : ReadBack g bytes start d s) (r : PlaneAnswer) (d' : Slices) (read : PlaneRead g bytes start d r d') where
  abbrev f : End ReadingState
  f = read_plane g (bits_of bytes) start d

  gave : r ≡ end_answer f
  unfolding read_plane_answer
  gave = read.answer ∙ rw (eq-eqb (read_refusal g bytes start d) 0 back.accepted)

  gave_slices : d' ≡ f.state.slices
  unfolding read_slices
  gave_slices = read.left_slices ∙ rw (eq-eqb (read_refusal g bytes start d) 0 back.accepted)

  ends_none : f.refusal ≡ 0
  unfolding read_plane
  ends_none = back.goes_on (count g) (le_refl (count g))

  ends_last : f.done ≡ count g
  unfolding read_plane
  ends_last = back.reads (count g) (le_refl (count g))

  pub comes_back : (w : PlaneAnswer) (a' : Slices) → w.done ≡ count g → w.next ≡ (s (count g)).next → a' ≡ (s (count g)).slices → Returned g w r a' d d'
  comes_back w a' done next slices = record {
    refusal = ap (λ (x : PlaneAnswer). x.refusal) gave ∙ ends_none;
    done = ap (λ (x : PlaneAnswer). x.done) gave ∙ ends_last ∙ sym done;
    next = ap (λ (x : PlaneAnswer). x.next) gave ∙ back.ends ∙ sym next;
    recon = ap (λ (x : Slices). x.recon) gave_slices ∙ back.recon ∙ sym (ap (λ (x : Slices). x.recon) slices);
    blocks = λ b.
        ap (λ (x : Slices). take (4 * count g) (blocks_in b x)) gave_slices ∙ back.blocks b
        ∙ sym (ap (λ (x : Slices). take (4 * count g) (blocks_in b x)) slices);
    rest = λ b. ap (λ (x : Slices). drop (4 * count g) (blocks_in b x)) gave_slices ∙ back.rest b;
  }

-- ---- both
module _ (g : Given) (t : Task) (start : ℕ) (m : TripLent) (w r : PlaneAnswer) (m' : TripLent) (enough : can_skip_rest t.limit g 0 0 ≡ true) (mem : InMemory g t)
    (told : PlaneStated g t start m.written m.stated w m'.written m'.stated) (read : PlaneRead g m'.written.out start m.back r m'.back) where
  abbrev wrote : PlaneWritten g t start m.written w m'.written
  wrote = told.written

  abbrev out : List ℕ
  out = m.written.out

  abbrev a : Slices
  a = m.written.slices

  abbrev d : Slices
  d = m.back

  abbrev out' : List ℕ
  out' = m'.written.out

  module _ (passes : write_refusal g t out start a ≡ 0) (most : t.settings.lambda ≤ largest_lambda) (whole : w.refusal ≡ 0) where
    abbrev e : End Writing
    e = write_plane g t (bits_of out) start a

    -- an accepted call answers and leaves the plane's end
    answered : w ≡ written_answer e
    unfolding write_answer
    answered = wrote.answer ∙ rw (eq-eqb (write_refusal g t out start a) 0 passes)

    put : bits_of out' ≡ e.state.out
    unfolding write_out
    put = wrote.left_out ∙ rw (eq-eqb (write_refusal g t out start a) 0 passes)

    laid : write_slices g t out start a ≡ e.state.slices
    unfolding write_slices
    laid = rw (eq-eqb (write_refusal g t out start a) 0 passes)

    ends : e.refusal ≡ 0
    ends = sym (ap (λ (x : PlaneAnswer). x.refusal) answered) ∙ whole

    holds : Claim g t (bits_of out) start a
    holds = claimed g t out start a enough mem passes most ends

    trip_ended : Ended g t start m.written m.stated w m'.written m'.stated
    trip_ended =
        let s = holds.reaches in
        record {
          done = all;
          next = ap (λ (x : PlaneAnswer). x.next) answered ∙ ap (λ (x : End Writing). x.state.next) s;
          bits = ap (λ (x : PlaneAnswer). x.bits) answered ∙ ap (λ (x : End Writing). x.state.bits) s;
          error = ap (λ (x : PlaneAnswer). x.error) answered ∙ ap (λ (x : End Writing). x.state.error) s;
          output = put ∙ ap (λ (x : End Writing). x.state.out) s;
          slices = same ∙ laid ∙ ap (λ (x : End Writing). x.state.slices) s;
          stated = λ k h r. rw told.stated (stated_at g t (bits_of out) start a m.stated w.done k (rw all h) r);
        }
      where
        all : w.done ≡ count g
        all = ap (λ (x : PlaneAnswer). x.done) answered ∙ ap (λ (x : End Writing). x.done) holds.reaches

        same : m'.written.slices ≡ write_slices g t out start a
        same = wrote.left_slices

    module _ (fits : slices_refusal g d ≡ 0) where
      starts : start_refusal (length out') start ≡ 0
      starts =
          let same : length out' ≡ length out = omega (arith, same_length g t (bits_of out) (bits_whole out) start a ends out' trip_ended.output, length_bits_of out) in
          rw same (results_pass g a (length out) start (length t.source) passes).1

      abbrev back : ReadBack g out' start d (state_at g t (bits_of out) start a)
      back = holds.read_back out' d (ap (take (final g t (bits_of out) start a).next) trip_ended.output) starts fits

      trip_returned : Returned g w r m'.written.slices d m'.back
      trip_returned =
          let u = trip_ended in
          comes_back g out' start d (state_at g t (bits_of out) start a) back r m'.back read w m'.written.slices u.done u.next u.slices

  pub tripped : RoundTrip g t start m w r m'
  tripped =
      record {
        wrote = told;
        read = read;
        claim = λ p. (holds p.0 p.1 p.2, trip_ended p.0 p.1 p.2);
        returned = λ p s. trip_returned p.0 p.1 p.2 s;
      }
