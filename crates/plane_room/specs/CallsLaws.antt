-- Laws of the calls: sizes that pass, and answers whose bytes suffice.
-- Assumes nothing.
use Rattle.std.specs.Prelude.{ℕ, ◌*◌, ◌≤◌, ◌≡◌, List, Result, Ok, Err}
use Rattle.std.proofs.Math.Path.{sym}
use Rattle.std.proofs.Common.{◌∙◌, arith, mul-le-mul}
use Rattle.bits.specs.Basics.{or_else}
use Rattle.bits.specs.BasicsLaws.{or_next}
use Rattle.bits.specs.Refusals.{number_of, done}
use Rattle.bits.specs.CallsLaws.{met_first, met_behind, answer_met}
use Rattle.bits.specs.declared.refusal.Refusal.{Refusal}
use Rattle.book.specs.Book.{book_refusal}
use Rattle.canvas.specs.Canvas.{largest_side, blocks_along, size_refusal}
use Rattle.canvas.specs.CanvasLaws.{size_passes}
use Rattle.macroblock.specs.Macroblock.{Given}
use Rattle.plane_room.specs.Room.{book_bits, any_bits, room_bytes, Suffices, OfSize, OfSizeUnder}
use Rattle.plane_room.specs.Calls.{room_or, room_answer, room_under_answer, RoomTold}
use Rattle.plane_room.specs.RoomLaws.{size_suffices, book_suffices}

-- ---- sizes
pub sides_most : (width height : ℕ) → size_refusal width height ≡ 0 → (width ≤ largest_side) × (height ≤ largest_side)
sides_most width height e = let s = size_passes width height e in (s.0.most, s.1.most)

-- a plane whose size passes has few macroblocks, and few bits
module _ (width height : ℕ) (w : width ≤ largest_side) (h : height ≤ largest_side) where
  pub few_blocks : blocks_along height * blocks_along width ≤ blocks_along largest_side * blocks_along largest_side
  few_blocks =
      let across : blocks_along width ≤ blocks_along largest_side = omega arith in
      let down : blocks_along height ≤ blocks_along largest_side = omega arith in
      mul-le-mul down across

  pub few_bits : (bits : ℕ) → bits ≤ any_bits → bits * (blocks_along height * blocks_along width) ≤ any_bits * (blocks_along largest_side * blocks_along largest_side)
  few_bits bits b = mul-le-mul b few_blocks

-- ---- answers
module _ (Kind : Given → Type 0) (n width height bits : ℕ) (enough : Suffices Kind (room_bytes bits (blocks_along height * blocks_along width))) where
  told_refused : (r : Refusal) → number_of r ≡ n → RoomTold Kind (room_or n width height bits) (Err r)
  told_refused r e = record { is = answer_met r n (done (room_bytes bits (blocks_along height * blocks_along width))) e; suffices = tt }

  told_bytes : (b : ℕ) → n ≡ 0 → b ≡ room_bytes bits (blocks_along height * blocks_along width) → RoomTold Kind (room_or n width height bits) (Ok b)
  told_bytes b z e = record { is = rw (z, e); suffices = rw e enough }

module _ (width height : ℕ) where
  pub any_refused : (r : Refusal) → number_of r ≡ size_refusal width height → RoomTold (OfSize width height) (room_answer width height) (Err r)
  unfolding room_answer
  any_refused = told_refused (OfSize width height) (size_refusal width height) width height any_bits (size_suffices width height)

  pub any_bytes : (b : ℕ) → size_refusal width height ≡ 0 → b ≡ room_bytes any_bits (blocks_along height * blocks_along width)
      → RoomTold (OfSize width height) (room_answer width height) (Ok b)
  unfolding room_answer
  any_bytes = told_bytes (OfSize width height) (size_refusal width height) width height any_bits (size_suffices width height)

  module _ (book : List ℕ) where
    abbrev Told : Result ℕ Refusal → Type 0
    Told = RoomTold (OfSizeUnder width height book) (room_under_answer width height book)

    abbrev either : ℕ
    either = or_else (size_refusal width height) (book_refusal book)

    pub under_refused_size : (r : Refusal) → number_of r ≡ size_refusal width height → Told (Err r)
    unfolding room_under_answer
    under_refused_size r e =
        told_refused (OfSizeUnder width height book) either width height (book_bits book) (book_suffices width height book) r
        (met_first r (size_refusal width height) (book_refusal book) e)

    pub under_refused_book : (r : Refusal) → size_refusal width height ≡ 0 → number_of r ≡ book_refusal book → Told (Err r)
    unfolding room_under_answer
    under_refused_book r z e =
        told_refused (OfSizeUnder width height book) either width height (book_bits book) (book_suffices width height book) r
        (met_behind (size_refusal width height) (book_refusal book) (number_of r) (sym z) e)

    pub under_bytes : (b : ℕ) → size_refusal width height ≡ 0 → book_refusal book ≡ 0 → b ≡ room_bytes (book_bits book) (blocks_along height * blocks_along width)
        → Told (Ok b)
    unfolding room_under_answer
    under_bytes b z e =
        told_bytes (OfSizeUnder width height book) either width height (book_bits book) (book_suffices width height book) b
        (or_next (size_refusal width height) (book_refusal book) z ∙ e)
