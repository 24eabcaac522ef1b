-- The room suffices: a picture that no refusal meets, with the room of its planes or with its allowance behind its start bit, is written to its last macroblock.
-- Assumes nothing.
use Prim.Native.Nat.{ℕ, ◌+◌, ◌*◌, ◌≤◌}
use Rattle.std.specs.Prelude.{◌≡◌, refl, Bool, eqb, leb, length}
use Rattle.std.proofs.Common.{sym, ◌∙◌, le_refl, ne_eqb}
use Rattle.std.proofs.Math.Path.{ap₂}
use Rattle.std.proofs.Math.Bool.{true, false}
use mathlib.Core.List.{List, [], ◌∷◌, ◌++◌, map}
use native.Mathlib.Omega.{arith}
use Rattle.std.proofs.Math.Decide.{ℕ_discrete}
use Rattle.std.proofs.Math.Nat.{mul-add}
use Rattle.bits.specs.Basics.{pick, or_else, first_of, unless}
use Rattle.bits.specs.BasicsLaws.{or_next}
use Rattle.book.specs.Book.{book_refusal}
use Rattle.macroblock.specs.Macroblock.{Given}
use Rattle.macroblock.specs.Limit.{Budget}
use Rattle.macroblock.specs.Choice.{Task}
use Rattle.macroblock.specs.Slices.{Slices}
use Rattle.plane.specs.Run.{End}
use Rattle.plane.specs.Plane.{count, Writing, write_plane, writing_at}
use Rattle.plane.specs.Refusals.{lengths_of}
use Rattle.plane.specs.Calls.{written_answer}
use Rattle.plane_room.specs.Room.{book_bits, any_bits}
use Rattle.plane_room.specs.BitsLaws.{book_any}
use Rattle.plane_room.specs.RefusalLaws.{refusal_most}
use Rattle.plane_room.specs.RoomLaws.{room_run, allowance_run}
use Rattle.picture.specs.Picture.{Shared, PlaneIn, plane_given, canvas_blocks, macroblocks, Handed, plane_task, plane_end, hand_on, in_turn, behind_last}
use Rattle.picture.specs.Refusals.{skip_bits, plane_refusal, allowance_refusal, picture_refusal}
use Rattle.picture.specs.Calls.{done_in, begin, written_picture, picture_answer}
use Rattle.picture_claim.specs.PictureClaim.{EachPlane, PictureInMemory}
use Rattle.picture_claim.specs.PictureClaimLaws.{ToCome, behind_first, ok, even, enough, appends, spent, end_is, answered, all_to_come}
use Rattle.picture_claim.specs.PictureRoom.{picture_room, PictureWhole, PictureHasRoom}

-- ---- no refusal of a picture is 22
or_never : (a b : ℕ) → (a ≡ 22 → ⊥) → (b ≡ 22 → ⊥) → or_else a b ≡ 22 → ⊥
or_never a b ha hb = go (eqb a 0)
  where
    go : (q : Bool) → pick q b a ≡ 22 → ⊥
    go true = hb
    go false = ha

module _ (s : Shared) (bytes start : ℕ) where
  allowance_never : (blocks allowance : ℕ) → allowance_refusal s.book blocks allowance ≡ 22 → ⊥
  unfolding allowance_refusal
  allowance_never blocks allowance = go (leb (skip_bits s.book * blocks) allowance)
    where
      go : (q : Bool) → unless q 31 ≡ 22 → ⊥
      go true e = omega arith
      go false e = omega arith

  chain_never : (ps : List PlaneIn) (n : ℕ) → (n ≡ 22 → ⊥) → first_of (map (plane_refusal s bytes start) ps ++ (n ∷ [])) ≡ 22 → ⊥
  unfolding first_of
  chain_never [] n h = or_never n 0 h (λ e. omega arith)
  chain_never (p ∷ ps) n h =
      or_never (plane_refusal s bytes start p) (first_of (map (plane_refusal s bytes start) ps ++ (n ∷ [])))
      (λ e. omega (arith, refusal_most (plane_given s p) (length p.source) bytes start (lengths_of p.results.slices))) (chain_never ps n h)

  pub refusal_never : (ps : List PlaneIn) (allowance : ℕ) → picture_refusal s ps allowance bytes start ≡ 22 → ⊥
  unfolding picture_refusal
  refusal_never ps allowance = chain_never ps (allowance_refusal s.book (macroblocks ps) allowance) (allowance_never (macroblocks ps) allowance)

-- ---- planes that are all written to their last macroblock
record AllWhole (s : Shared) (ps : List PlaneIn) (h : Handed) : Type 0 where
  each : EachPlane (λ p behind u. ((plane_end s p behind u).refusal ≡ 0) × ((plane_end s p behind u).done ≡ canvas_blocks p.canvas)) s ps h
  refusal : (behind_last s ps h).refusal ≡ 0
  done : done_in (in_turn s (λ p behind u. written_answer (plane_end s p behind u)) ps h) ≡ macroblocks ps

-- the first of them is, and P holds of what it hands on
abbrev Passed : Shared → (List PlaneIn → Handed → Type 0) → PlaneIn → List PlaneIn → Handed → Type 0
Passed s P p ps h =
    ((plane_end s p (macroblocks ps) h).refusal ≡ 0) × ((plane_end s p (macroblocks ps) h).done ≡ canvas_blocks p.canvas) × P ps (hand_on h (plane_end s p (macroblocks ps) h))

none-whole : (s : Shared) (h : Handed) → h.refusal ≡ 0 → AllWhole s [] h
unfolding EachPlane behind_last in_turn done_in macroblocks
none-whole s h z = record { each = tt; refusal = z; done = refl }

module _ (s : Shared) (bytes start : ℕ) (P : List PlaneIn → Handed → Type 0)
    (step : (p : PlaneIn) (ps : List PlaneIn) (h : Handed) → ToCome s bytes start (p ∷ ps) h → h.refusal ≡ 0 → P (p ∷ ps) h → Passed s P p ps h) where
  all_whole_lem : (ps : List PlaneIn) (h : Handed) → ToCome s bytes start ps h → h.refusal ≡ 0 → P ps h → AllWhole s ps h
  unfolding EachPlane behind_last in_turn done_in macroblocks
  all_whole_lem [] h c z q = none-whole s h z
  all_whole_lem (p ∷ ps) h c z q =
      let end = plane_end s p (macroblocks ps) h in
      let one = step p ps h c z q in
      let rest = all_whole_lem ps (hand_on h end) (behind_first s bytes start p ps h c) (or_next h.refusal end.refusal z ∙ one.0) one.2 in
      record { each = ((one.0, one.1), rest.each); refusal = rest.refusal; done = ap₂ ◌+◌ one.1 rest.done }

-- ---- one plane, with room for so many bits a macroblock, or for what is left of the allowance
abbrev HoldsBits : ℕ → ℕ → List PlaneIn → Handed → Type 0
HoldsBits bytes b ps h = h.next + b * macroblocks ps ≤ 8 * bytes

abbrev HoldsLeft : ℕ → List PlaneIn → Handed → Type 0
HoldsLeft bytes ps h = h.next + h.remaining ≤ 8 * bytes

module _ (s : Shared) (bytes start : ℕ) (p : PlaneIn) (ps : List PlaneIn) (h : Handed) (c : ToCome s bytes start (p ∷ ps) h) (reached : h.refusal ≡ 0) where
  abbrev g : Given
  g = plane_given s p

  abbrev t : Task
  t = plane_task s p (macroblocks ps) h

  abbrev a : Slices
  a = p.results.slices

  abbrev end : End Writing
  end = plane_end s p (macroblocks ps) h

  abbrev S : ℕ → Writing
  S = writing_at g t h.out h.next a

  abbrev next-is : end.state.next ≡ h.next + end.state.bits
  next-is = (appends s bytes start p ps h c).next

  ended : write_plane g t h.out h.next a ≡ record { refusal = 0; done = count g; state = S (count g) } → end ≡ record { refusal = 0; done = count g; state = S (count g) }
  ended r = end_is s bytes start p ps h c reached ∙ r

  by_bits : (b : ℕ) → (book_refusal s.book ≡ 0 → book_bits s.book ≤ b) → HoldsBits bytes b (p ∷ ps) h → Passed s (HoldsBits bytes b) p ps h
  unfolding macroblocks
  by_bits b few room =
      let fine = (ok s bytes start p ps h c).fine in
      let parts : b * (count g + macroblocks ps) ≡ b * count g + b * macroblocks ps = mul-add b (count g) (macroblocks ps) in
      let r = room_run g t h.out (even s bytes start p ps h c) h.next a fine b (few fine.book) (rw c.intact.long (omega arith)) in
      let e = ended r.0 in
      let most : end.state.bits ≤ b * count g = rw e r.1 in
      (rw e, rw e, omega (arith, next-is))

  by_allowance : HoldsLeft bytes (p ∷ ps) h → Passed s (HoldsLeft bytes) p ps h
  by_allowance room =
      let b : Budget = record { allowance = h.remaining; behind = macroblocks ps } in
      let e = ended (allowance_run g t h.out (even s bytes start p ps h c) h.next a b refl (enough s bytes start p ps h c) (rw c.intact.long room)) in
      (rw e, rw e, omega (arith, next-is, spent s bytes start p ps h c))

-- ---- a picture
module _ (s : Shared) (allowance : ℕ) (out : List ℕ) (start : ℕ) (P : List PlaneIn → Handed → Type 0)
    (step : (p : PlaneIn) (ps : List PlaneIn) (h : Handed) → ToCome s (length out) start (p ∷ ps) h → h.refusal ≡ 0 → P (p ∷ ps) h → Passed s P p ps h) where
  from_begin : (ps : List PlaneIn) → picture_refusal s ps allowance (length out) start ≡ 0 → PictureInMemory ps → P ps (begin allowance out start) → AllWhole s ps (begin allowance out start)
  from_begin [] e mem q = none-whole s (begin allowance out start) refl
  from_begin (p ∷ ps) e mem q = all_whole_lem s (length out) start P step (p ∷ ps) (begin allowance out start) (all_to_come s p ps allowance out start e mem) refl q

  module _ (ps : List PlaneIn) (mem : PictureInMemory ps) (q : P ps (begin allowance out start)) where
    written-whole : picture_refusal s ps allowance (length out) start ≡ 0 → PictureWhole s ps allowance out start
    unfolding written_picture
    written-whole e =
        let u = from_begin ps e mem q in
        let same = answered s ps allowance out start e in
        record { each = u.each; answer_refusal = rw same u.refusal; answer_done = rw same u.done }

    refused_told : (picture_refusal s ps allowance (length out) start ≡ 0 → ⊥) → (picture_answer s ps allowance out start).refusal ≡ picture_refusal s ps allowance (length out) start
    unfolding picture_answer
    refused_told d = rw (ne_eqb (picture_refusal s ps allowance (length out) start) 0 d)

    has_room : PictureHasRoom s ps allowance out start
    has_room =
        let e = go (ℕ_discrete (picture_refusal s ps allowance (length out) start) 0) in
        record { told = e; never_22 = λ z. refusal_never s (length out) start ps allowance (sym e ∙ z); whole = written-whole }
      where
        go : Dec (picture_refusal s ps allowance (length out) start ≡ 0) → (picture_answer s ps allowance out start).refusal ≡ picture_refusal s ps allowance (length out) start
        go (yes e) = (written-whole e).answer_refusal ∙ sym e
        go (no d) = refused_told d

-- ---- THE ROOM SUFFICES
room_holds : (b : ℕ) (ps : List PlaneIn) → b * macroblocks ps ≤ 8 * picture_room b ps
unfolding macroblocks picture_room
room_holds b [] = omega arith
room_holds b (p ∷ ps) = omega (arith, mul-add b (canvas_blocks p.canvas) (macroblocks ps), room_holds b ps)

module _ (s : Shared) (ps : List PlaneIn) (allowance : ℕ) (out : List ℕ) (start : ℕ) (mem : PictureInMemory ps) where
  room_of_lem : (b : ℕ) → (book_refusal s.book ≡ 0 → book_bits s.book ≤ b) → start + 8 * picture_room b ps ≤ 8 * length out → PictureHasRoom s ps allowance out start
  room_of_lem b few room =
      has_room s allowance out start (HoldsBits (length out) b) (λ p qs h c z. by_bits s (length out) start p qs h c z b few) ps mem (omega (arith, room_holds b ps))

  -- by the book's longest codes
  pub picture_room_lem : start + 8 * picture_room (book_bits s.book) ps ≤ 8 * length out → PictureHasRoom s ps allowance out start
  picture_room_lem = room_of_lem (book_bits s.book) (λ e. le_refl (book_bits s.book))

  -- for any book that passes
  pub picture_room_for_any : start + 8 * picture_room any_bits ps ≤ 8 * length out → PictureHasRoom s ps allowance out start
  picture_room_for_any = room_of_lem any_bits (book_any s.book)

  -- by the allowance
  pub allowance_room : start + allowance ≤ 8 * length out → PictureHasRoom s ps allowance out start
  allowance_room = has_room s allowance out start (HoldsLeft (length out)) (by_allowance s (length out) start) ps mem
