-- What the calls of this crate answer, and what a host may do with it (beyond document 01; refusals 1, 5, 6 and 7 as it has them).
use Rattle.std.specs.Prelude.{ℕ, ◌*◌, List, ◌≡◌, Result, IfOk}
use Rattle.bits.specs.Basics.{or_else}
use Rattle.bits.specs.Refusals.{Answer, done, answer_of}
use Rattle.bits.specs.Calls.{unless_refused}
use Rattle.bits.specs.declared.refusal.Refusal.{Refusal}
use Rattle.book.specs.Book.{book_refusal}
use Rattle.canvas.specs.Canvas.{blocks_along, size_refusal}
use Rattle.macroblock.specs.Macroblock.{Given}
use Rattle.plane_room.specs.Room.{book_bits, any_bits, room_bytes, Suffices}

-- the number of a refusal, or the bytes for a plane of a size with so many bits a macroblock
abbrev pub room_or : ℕ → ℕ → ℕ → ℕ → Answer ℕ
room_or refusal width height bits = unless_refused refusal (done (room_bytes bits (blocks_along height * blocks_along width)))

-- under any book: 1, or the bytes
unfoldable pub room_answer : ℕ → ℕ → Answer ℕ
room_answer width height = room_or (size_refusal width height) width height any_bits

-- under a book: 1, then 5, 6 or 7 of the book, or the bytes
unfoldable pub room_under_answer : ℕ → ℕ → List ℕ → Answer ℕ
room_under_answer width height book = room_or (or_else (size_refusal width height) (book_refusal book)) width height (book_bits book)

-- r is the answer, and where it is no refusal its bytes suffice for every plane of the kind
pub record RoomTold (Kind : Given → Type 0) (answer : Answer ℕ) (r : Result ℕ Refusal) : Type 0 where
  pub is : answer_of r ≡ answer
  pub suffices : IfOk r (λ bytes. Suffices Kind bytes)
