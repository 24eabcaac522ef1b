-- The claim about a picture: its bits are inside the allowance, and each plane that is reached is one as demand 3 has it, from the bit where the plane before it ended (document 02, §5; document 00, demand 3).
use Rattle.std.specs.Prelude.{ℕ, ◌+◌, ◌≤◌, List, [], ◌∷◌, ◌≡◌, length, take}
use Rattle.bits.specs.Basics.{All, Bytes}
use Rattle.bits.specs.Bits.{bits_of}
use Rattle.bits.specs.Calls.{start_refusal}
use Rattle.plan.specs.PlanClaim.{largest_lambda}
use Rattle.macroblock.specs.Macroblock.{Given}
use Rattle.macroblock.specs.Choice.{Task, without_limit}
use Rattle.macroblock.specs.Slices.{Slices}
use Rattle.plane.specs.Run.{End}
use Rattle.plane.specs.Plane.{Writing, write_plane, FirstFits}
use Rattle.plane.specs.Refusals.{lengths_of, slices_refusal, write_refusal_by}
use Rattle.plane.specs.Calls.{PlaneAnswer}
use Rattle.plane_enc.specs.Stated.{stated_in}
use Rattle.claim.specs.Claim.{state_at, Claim, ReadBack}
use Rattle.picture.specs.Picture.{Shared, PlaneIn, plane_given, macroblocks, Handed, plane_task, plane_end, plane_left, hand_on, behind_last}
use Rattle.picture.specs.Calls.{begin, picture_answer}

-- P of each plane in turn: of the plane, the macroblocks of those behind it, and what it is handed
unfoldable pub EachPlane : (PlaneIn → ℕ → Handed → Type 0) → Shared → List PlaneIn → Handed → Type 0
EachPlane P s [] h = Unit
EachPlane P s (p ∷ ps) h = P p (macroblocks ps) h × EachPlane P s ps (hand_on h (plane_end s p (macroblocks ps) h))

-- the sources and references of the planes are byte slices
abbrev pub PictureInMemory : List PlaneIn → Type 0
PictureInMemory = All (λ p. Bytes p.source × Bytes p.reference)

-- a plane that is reached, with so many macroblocks in the planes behind it, of a picture in an output of so many bytes; `last` is what the last plane hands on
module _ (s : Shared) (bytes : ℕ) (last : Handed) (p : PlaneIn) (behind : ℕ) (h : Handed) where
  abbrev g : Given
  g = plane_given s p

  abbrev t : Task
  t = plane_task s p behind h

  abbrev a : Slices
  a = p.results.slices

  abbrev end : End Writing
  end = plane_end s p behind h

  abbrev end_alone : End Writing
  end_alone = write_plane g (without_limit t) h.out h.next a

  pub record PlaneClaim : Type 0 where
    -- alone from the bit where the plane before it ended, it is refused by nothing
    pub accepted : write_refusal_by g (length p.source) bytes h.next (lengths_of a) ≡ 0
    -- where each mode that it would write alone from there fits the allowance, it ends as alone from there, and states the same
    pub alone : FirstFits g t h.out h.next a
        → (end ≡ end_alone) × ((plane_left s p behind h).stated ≡ stated_in g (without_limit t) h.out h.next a p.results.stated end_alone.done)
    -- written to its last macroblock, with lambda at most 2^48: the sentences of demand 3, of the modes that fit
    pub claim : end.refusal ≡ 0 → s.settings.lambda ≤ largest_lambda → Claim g t h.out h.next a
    -- the planes behind it go on from its end, and do not touch its bits
    pub ends_before : end.state.next ≤ last.next
    pub bits_stay : take end.state.next last.out ≡ take end.state.next end.state.out
    -- so it is read back from the picture's output, or from any bytes that pass 21 and begin as that does up to the picture's next bit
    pub read_back : end.refusal ≡ 0 → s.settings.lambda ≤ largest_lambda → (read : List ℕ) (d : Slices) → take last.next (bits_of read) ≡ take last.next last.out
        → start_refusal (length read) h.next ≡ 0 → slices_refusal g d ≡ 0 → ReadBack g read h.next d (state_at g t h.out h.next a)

-- the bits of planes together, as they are answered
unfoldable pub bits_in : List PlaneAnswer → ℕ
bits_in [] = 0
bits_in (a ∷ rest) = a.bits + bits_in rest

-- a picture that no refusal meets, ended early or not: what its last plane hands on, and the bits that its planes answer
module _ (s : Shared) (ps : List PlaneIn) (allowance : ℕ) (out : List ℕ) (start : ℕ) where
  abbrev pub last_handed : Handed
  last_handed = behind_last s ps (begin allowance out start)

  abbrev pub picture_bits : ℕ
  picture_bits = bits_in (picture_answer s ps allowance out start).planes

  pub record PictureClaim : Type 0 where
    -- its bits never pass the allowance
    pub within_allowance : picture_bits ≤ allowance
    -- they stand from the start bit on, and before it what the output held
    pub next_bit : last_handed.next ≡ start + picture_bits
    pub before : take start last_handed.out ≡ take start (bits_of out)
    -- before each plane the allowance has left what those before it did not take
    pub remains : EachPlane (λ p behind h. h.next + h.remaining ≡ start + allowance) s ps (begin allowance out start)
    -- each plane that is reached
    pub each : EachPlane (λ p behind h. h.refusal ≡ 0 → PlaneClaim s (length out) last_handed p behind h) s ps (begin allowance out start)
