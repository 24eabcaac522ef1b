-- The claim about a picture holds: of every picture that no refusal meets, plane by plane.
-- Assumes nothing.
use Rattle.std.specs.Prelude.{ℕ, ◌+◌, ◌%◌, ◌≤◌, ◌≡◌, refl, true, length, take}
use Rattle.std.proofs.Math.Path.{sym, ap}
use Rattle.std.proofs.Common.{◌∙◌, arith, add-zero, take-take, eq-eqb}
use mathlib.Core.List.{List, [], ◌∷◌}
use Rattle.bits.specs.Basics.{All}
use Rattle.bits.specs.Bits.{bits_of}
use Rattle.bits.specs.BitsLaws.{length_bits_of}
use Rattle.bits.specs.Calls.{start_refusal}
use Rattle.plan.specs.PlanClaim.{largest_lambda}
use Rattle.macroblock.specs.Macroblock.{Given}
use Rattle.macroblock.specs.Limit.{can_skip_rest}
use Rattle.macroblock.specs.Choice.{Task, without_limit}
use Rattle.macroblock.specs.Slices.{Slices}
use Rattle.plane.specs.Run.{End}
use Rattle.plane.specs.Plane.{Writing, write_plane, FirstFits}
use Rattle.plane.specs.Refusals.{slices_refusal}
use Rattle.plane.specs.RefusalsLaws.{write_accepted, results_pass, write_later}
use Rattle.plane.specs.PlaneLaws.{AppendsOnly}
use Rattle.plane.specs.AloneLaws.{as_alone, stated_step_alone}
use Rattle.plane.specs.Calls.{PlaneAnswer, written_answer}
use Rattle.plane_enc.specs.Stated.{stated_in}
use Rattle.plane_enc.specs.StatedLaws.{stated_alone}
use Rattle.claim.specs.Claim.{state_at, final, Claim, ReadBack}
use Rattle.claim.specs.AcceptedLaws.{AcceptedPlane, accepted}
use Rattle.claim.specs.ClaimLaws.{claimed_from}
use Rattle.picture.specs.Picture.{Shared, PlaneIn, plane_given, macroblocks, Handed, plane_task, plane_end, plane_left, hand_on, in_turn, behind_last}
use Rattle.picture.specs.Refusals.{plane_refusal, picture_refusal}
use Rattle.picture.specs.RefusalsLaws.{planes_pass}
use Rattle.picture.specs.Calls.{begin, written_picture, picture_answer}
use Rattle.picture.specs.PictureNeeds.{Intact}
use Rattle.picture.specs.PictureLaws.{is_reached_lem, appends_only, begins, spent_most, handed_on}
use Rattle.picture_claim.specs.PictureClaim.{EachPlane, PictureInMemory, PlaneClaim, bits_in, PictureClaim}

shorter : (n m : ℕ) (x y : List ℕ) → n ≤ m → take m x ≡ take m y → take n x ≡ take n y
shorter n m x y h e = sym (take-take n m x h) ∙ ap (take n) e ∙ take-take n m y h

-- ---- planes to come, of a picture from bit start on: they pass their checks, and are byte slices
pub record ToCome (s : Shared) (bytes start : ℕ) (ps : List PlaneIn) (h : Handed) : Type 0 where
  pub intact : Intact s ps bytes h
  pub checks : All (λ p. plane_refusal s bytes start p ≡ 0) ps
  pub memory : PictureInMemory ps

module _ (s : Shared) (bytes start : ℕ) (p : PlaneIn) (ps : List PlaneIn) (h : Handed) (c : ToCome s bytes start (p ∷ ps) h) where
  abbrev g : Given
  g = plane_given s p

  abbrev t : Task
  t = plane_task s p (macroblocks ps) h

  abbrev a : Slices
  a = p.results.slices

  abbrev end : End Writing
  end = plane_end s p (macroblocks ps) h

  pub behind_first : ToCome s bytes start ps (hand_on h end)
  behind_first = record { intact = handed_on s p ps bytes h c.intact; checks = c.checks.1; memory = c.memory.1 }

  pub ok : AcceptedPlane g t
  ok = accepted g t bytes start a (record { source = c.memory.0.0; reference = c.memory.0.1 }) c.checks.0

  pub even : length h.out % 8 ≡ 0
  even = rw c.intact.long (omega arith)

  pub enough : can_skip_rest t.limit g 0 0 ≡ true
  unfolding macroblocks
  enough = begins s p (macroblocks ps) h c.intact.enough

  pub appends : AppendsOnly h.out h.next end.state
  appends = appends_only s p (macroblocks ps) h even (rw c.intact.long c.intact.inside)

  pub spent : end.state.bits ≤ h.remaining
  spent = omega (arith, spent_most s p ps bytes h c.intact)

  module _ (reached : h.refusal ≡ 0) where
    pub end_is : end ≡ write_plane g t h.out h.next a
    end_is = is_reached_lem s p (macroblocks ps) h reached

    module _ (first : FirstFits g t h.out h.next a) where
      abbrev end_alone : End Writing
      end_alone = write_plane g (without_limit t) h.out h.next a

      as_alone_end : end ≡ end_alone
      as_alone_end = end_is ∙ as_alone g t enough h.out h.next a first

      as_alone_stated : (plane_left s p (macroblocks ps) h).stated ≡ stated_in g (without_limit t) h.out h.next a p.results.stated end_alone.done
      unfolding plane_left
      as_alone_stated =
          ap (λ (e : End Writing). stated_in g t h.out h.next a p.results.stated e.done) as_alone_end
          ∙ stated_alone g t (without_limit t) h.out h.next a p.results.stated end_alone.done (stated_step_alone g t enough h.out h.next a first)

    module _ (all : end.refusal ≡ 0) (low : s.settings.lambda ≤ largest_lambda) where
      as_claimed : Claim g t h.out h.next a
      as_claimed =
          claimed_from g t ok h.out even h.next a (results_pass g a bytes start (length p.source) c.checks.0).0 enough low
          (sym (ap (λ (e : End Writing). e.refusal) end_is) ∙ all)

      state_is : end.state ≡ final g t h.out h.next a
      state_is = ap (λ (e : End Writing). e.state) (end_is ∙ as_claimed.reaches)

    -- the planes behind it end with `last`
    module _ (last : Handed) (later : end.state.next ≤ last.next) (kept : take end.state.next last.out ≡ take end.state.next end.state.out) where
      reads : end.refusal ≡ 0 → s.settings.lambda ≤ largest_lambda → (read : List ℕ) (d : Slices) → take last.next (bits_of read) ≡ take last.next last.out
          → start_refusal (length read) h.next ≡ 0 → slices_refusal g d ≡ 0 → ReadBack g read h.next d (state_at g t h.out h.next a)
      reads all low read d e =
          let begin : take end.state.next (bits_of read) ≡ take end.state.next end.state.out = shorter end.state.next last.next (bits_of read) last.out later e ∙ kept in
          (as_claimed all low).read_back read d (rw (state_is all low) at begin)

      pub plane_claimed : PlaneClaim s bytes last p (macroblocks ps) h
      plane_claimed =
          record {
            accepted = write_later g a bytes start (length p.source) c.checks.0 h.next c.intact.inside;
            alone = λ first. (as_alone_end first, as_alone_stated first);
            claim = as_claimed;
            ends_before = later;
            bits_stay = kept;
            read_back = reads;
          }

-- ---- planes together
abbrev answers : Shared → List PlaneIn → Handed → List PlaneAnswer
answers s = in_turn s (λ p behind h. written_answer (plane_end s p behind h))

-- from any planes on
record Together (s : Shared) (bytes : ℕ) (ps : List PlaneIn) (h : Handed) : Type 0 where
  within : bits_in (answers s ps h) ≤ h.remaining
  next : (behind_last s ps h).next ≡ h.next + bits_in (answers s ps h)
  before : take h.next (behind_last s ps h).out ≡ take h.next h.out
  each : EachPlane (λ p behind u. u.refusal ≡ 0 → PlaneClaim s bytes (behind_last s ps h) p behind u) s ps h

module _ (s : Shared) (bytes : ℕ) where
  none_together : (h : Handed) → Together s bytes [] h
  unfolding in_turn behind_last bits_in EachPlane
  none_together h = record { within = omega arith; next = sym (add-zero h.next); before = refl; each = tt }

  together : (start : ℕ) (ps : List PlaneIn) (h : Handed) → ToCome s bytes start ps h → Together s bytes ps h
  unfolding in_turn behind_last bits_in EachPlane
  together start [] h c = none_together h
  together start (p ∷ ps) h c =
      let end = plane_end s p (macroblocks ps) h in
      let last = behind_last s ps (hand_on h end) in
      let rest = together start ps (hand_on h end) (behind_first s bytes start p ps h c) in
      let own = appends s bytes start p ps h c in
      record {
        within = omega (arith, rest.within, spent s bytes start p ps h c);
        next = omega (arith, rest.next, own.next);
        before = shorter h.next end.state.next last.out end.state.out (omega (arith, own.next)) rest.before ∙ own.before;
        each = (λ reached. plane_claimed s bytes start p ps h c reached last (omega (arith, rest.next)) rest.before, rest.each);
      }

-- what is left of an allowance, before each plane
remaining_each : (s : Shared) (bytes start n : ℕ) (ps : List PlaneIn) (h : Handed) → ToCome s bytes start ps h → h.next + h.remaining ≡ n → EachPlane (λ p behind u. u.next + u.remaining ≡ n) s ps h
unfolding EachPlane
remaining_each s bytes start n [] h c e = tt
remaining_each s bytes start n (p ∷ ps) h c e =
    let own = appends s bytes start p ps h c in
    (e, remaining_each s bytes start n ps (hand_on h (plane_end s p (macroblocks ps) h)) (behind_first s bytes start p ps h c) (omega (arith, own.next, spent s bytes start p ps h c)))

-- ---- a picture that no refusal meets
pub answered : (s : Shared) (ps : List PlaneIn) (allowance : ℕ) (out : List ℕ) (start : ℕ) → picture_refusal s ps allowance (length out) start ≡ 0
    → picture_answer s ps allowance out start ≡ written_picture s ps (begin allowance out start)
unfolding picture_answer
answered s ps allowance out start e = rw (eq-eqb (picture_refusal s ps allowance (length out) start) 0 e)

pub all_to_come : (s : Shared) (p : PlaneIn) (ps : List PlaneIn) (allowance : ℕ) (out : List ℕ) (start : ℕ) → picture_refusal s (p ∷ ps) allowance (length out) start ≡ 0
    → PictureInMemory (p ∷ ps) → ToCome s (length out) start (p ∷ ps) (begin allowance out start)
all_to_come s p ps allowance out start e mem =
    let pass = planes_pass s (p ∷ ps) allowance (length out) start e in
    let from = (write_accepted (plane_given s p) p.results.slices (length out) start (length p.source) pass.0.0).0.from in
    record { intact = record { long = length_bits_of out; inside = omega (arith, from.bits_fit); enough = pass.1 }; checks = pass.0; memory = mem }

all_together : (s : Shared) (ps : List PlaneIn) (allowance : ℕ) (out : List ℕ) (start : ℕ) → picture_refusal s ps allowance (length out) start ≡ 0 → PictureInMemory ps
    → Together s (length out) ps (begin allowance out start)
all_together s [] allowance out start e mem = none_together s (length out) (begin allowance out start)
all_together s (p ∷ ps) allowance out start e mem =
    together s (length out) start (p ∷ ps) (begin allowance out start) (all_to_come s p ps allowance out start e mem)

remaining_first : (s : Shared) (ps : List PlaneIn) (allowance : ℕ) (out : List ℕ) (start : ℕ) → picture_refusal s ps allowance (length out) start ≡ 0 → PictureInMemory ps
    → EachPlane (λ p behind u. u.next + u.remaining ≡ start + allowance) s ps (begin allowance out start)
unfolding EachPlane
remaining_first s [] allowance out start e mem = tt
remaining_first s (p ∷ ps) allowance out start e mem =
    remaining_each s (length out) start (start + allowance) (p ∷ ps) (begin allowance out start) (all_to_come s p ps allowance out start e mem) refl

-- THE CLAIM HOLDS
pub picture_claimed : (s : Shared) (ps : List PlaneIn) (allowance : ℕ) (out : List ℕ) (start : ℕ) → picture_refusal s ps allowance (length out) start ≡ 0 → PictureInMemory ps
    → PictureClaim s ps allowance out start
unfolding written_picture
picture_claimed s ps allowance out start e mem =
    let u = all_together s ps allowance out start e mem in
    let same = answered s ps allowance out start e in
    record { within_allowance = rw same u.within; next_bit = rw same u.next; before = u.before; remains = remaining_first s ps allowance out start e mem; each = u.each }
