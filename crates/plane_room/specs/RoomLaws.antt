-- The room suffices: a call that no refusal meets, with it behind its start bit, is written to its last macroblock.
-- Assumes nothing.
use Prim.Native.Nat.{ℕ, zero, suc, ◌+◌, ◌-◌, ◌*◌, ◌%◌, ◌≤◌}
use Rattle.std.specs.Prelude.{◌≡◌, List, length}
use Rattle.std.proofs.Common.{sym, ◌∙◌, le_refl, mul-le-mul, mul-le-mul_left}
use Rattle.std.proofs.Math.Bool.{true}
use native.Mathlib.Omega.{arith}
use Rattle.std.proofs.Math.Nat.{le_trans, mul-suc}
use Rattle.std.proofs.Math.Decide.{ℕ_discrete}
use Rattle.std.proofs.Math.Dec.{eqb}
use borrow.Author.Tests.{eq-eqb, ne_eqb, leb-true}
use Rattle.bits.specs.Bits.{bits_of}
use Rattle.bits.specs.BitsLaws.{length_bits_of, bits_whole}
use Rattle.canvas.specs.Canvas.{blocks_along}
use Rattle.macroblock.specs.declared.svq1_enc_inter.Svq1MbMode.TheVariants.{Skip}
use Rattle.macroblock.specs.Macroblock.{Given, cols, rows, mode_bits}
use Rattle.macroblock.specs.Limit.{Budget, Limit, within, can_skip_rest}
use Rattle.macroblock.specs.Choice.{Task, weight_of}
use Rattle.macroblock.specs.MacroblockLaws.{Fine}
use Rattle.macroblock.specs.Slices.{Slices, near}
use Rattle.plane.specs.Run.{after}
use Rattle.plane.specs.Plane.{count, Writing, wrote_weight, written, write_plane, writing_at}
use Rattle.plane.specs.PlaneLaws.{reached_if}
use Rattle.plane.specs.LimitLaws.{skip_rest_at}
use Rattle.plane.specs.Refusals.{lengths_of, write_refusal}
use Rattle.plane.specs.Calls.{write_answer}
use Rattle.claim.specs.Claim.{InMemory}
use Rattle.claim.specs.AcceptedLaws.{accepted}
use Rattle.plane_room.specs.Room.{book_bits, any_bits, room_bytes, WrittenWhole, HasRoom, Suffices, OfSize, OfSizeUnder}
use Rattle.plane_room.specs.RefusalLaws.{refusal_most}
use Rattle.plane_room.specs.BitsLaws.{chosen_few, book_any}

-- bits spent that leave an allowance a SKIP code for each macroblock to come are inside it
inside_limit : (g : Given) (b : Budget) (l : Limit) (done spent : ℕ) → l ≡ within b → can_skip_rest l g done spent ≡ true → spent ≤ b.allowance
inside_limit g b l done spent e h =
    let left : can_skip_rest (within b) g done spent ≡ true = rw e at h in
    omega (arith, leb-true (spent + length (mode_bits g Skip) * (rows g * cols g - done + b.behind)) b.allowance left)

-- ---- the run, in an output of whole bytes
module _ (g : Given) (t : Task) (bits : List ℕ) (even : length bits % 8 ≡ 0) (start : ℕ) (s : Slices) where
  abbrev S : ℕ → Writing
  S = writing_at g t bits start s

  abbrev Reached : Type 0
  Reached = write_plane g t bits start s ≡ record { refusal = 0; done = count g; state = S (count g) }

  -- with room for b bits a macroblock, b no less than the book's
  module _ (ok : Fine g t) (b : ℕ) (few : book_bits g.book ≤ b) where
    bits_few : (k : ℕ) → (wrote_weight g t k (S k)).bits ≤ b
    unfolding weight_of
    bits_few k = le_trans (chosen_few g t ok k (near g (S k).slices k) (S k).bits) few

    bits_most : (k : ℕ) → (S k).bits ≤ b * k
    unfolding after written
    bits_most zero = omega arith
    bits_most (suc k) = omega (arith, bits_most k, bits_few k, mul-suc b k)

    pub room_run : start + b * count g ≤ length bits → Reached × ((S (count g)).bits ≤ b * count g)
    room_run room =
        (reached_if g t bits even start s (λ k h. omega (arith, bits_most k, bits_few k, mul-suc b k, mul-le-mul_left b h)), bits_most (count g))

  -- with room for the allowance
  module _ (b : Budget) (limited : t.limit ≡ within b) (enough : can_skip_rest t.limit g 0 0 ≡ true) where
    spent_most : (k : ℕ) → k ≤ count g → (S k).bits ≤ b.allowance
    spent_most k h = inside_limit g b t.limit k (S k).bits limited (skip_rest_at g t enough bits start s k h)

    pub allowance_run : start + b.allowance ≤ length bits → Reached
    unfolding after written
    allowance_run room = reached_if g t bits even start s (λ k h. omega (arith, spent_most (suc k) h))

-- ---- so the plane is written whole
module _ (g : Given) (t : Task) (out : List ℕ) (start : ℕ) (s : Slices) where
  written-whole : (b : ℕ) → book_bits g.book ≤ b → InMemory g t → write_refusal g t out start s ≡ 0
      → start + 8 * room_bytes b (count g) ≤ 8 * length out → WrittenWhole g t out start s
  unfolding write_answer
  written-whole b few mem e room =
      let r = (room_run g t (bits_of out) (bits_whole out) start s (accepted g t (length out) start s mem e).fine b few (rw (length_bits_of out) (omega arith))).0 in
      let yes : eqb (write_refusal g t out start s) 0 ≡ true = eq-eqb (write_refusal g t out start s) 0 e in
      record { refusal = rw r; done = rw r; answer_refusal = rw (yes, r); answer_done = rw (yes, r) }

  book_passes : InMemory g t → write_refusal g t out start s ≡ 0 → book_bits g.book ≤ any_bits
  book_passes mem e = book_any g.book (accepted g t (length out) start s mem e).fine.book

  -- THE ROOM SUFFICES, by the book's longest codes
  pub room_suffices : InMemory g t → write_refusal g t out start s ≡ 0 → start + 8 * room_bytes (book_bits g.book) (count g) ≤ 8 * length out
      → WrittenWhole g t out start s
  room_suffices = written-whole (book_bits g.book) (le_refl (book_bits g.book))

  -- and for any book that passes
  pub room_for_any : InMemory g t → write_refusal g t out start s ≡ 0 → start + 8 * room_bytes any_bits (count g) ≤ 8 * length out
      → WrittenWhole g t out start s
  room_for_any mem e = written-whole any_bits (book_passes mem e) mem e

  refused_told : (write_refusal g t out start s ≡ 0 → ⊥) → (write_answer g t out start s).refusal ≡ write_refusal g t out start s
  unfolding write_answer
  refused_told d = rw (ne_eqb (write_refusal g t out start s) 0 d)

  -- a call that is written whole where no refusal meets it has room
  has_room : (write_refusal g t out start s ≡ 0 → WrittenWhole g t out start s) → HasRoom g t out start s
  has_room f =
      let e = go (ℕ_discrete (write_refusal g t out start s) 0) in
      record { told = e; never_22 = λ z. omega (arith, refusal_most g (length t.source) (length out) start (lengths_of s), e); whole = f }
    where
      go : Dec (write_refusal g t out start s ≡ 0) → (write_answer g t out start s).refusal ≡ write_refusal g t out start s
      go (yes e) = (f e).answer_refusal ∙ sym e
      go (no d) = refused_told d

-- ---- as a host asks for it: so many bytes suffice for every plane of the size
pub size_suffices : (width height : ℕ) → Suffices (OfSize width height) (room_bytes any_bits (blocks_along height * blocks_along width))
size_suffices width height g t out start s kind mem room =
    has_room g t out start s (λ e. room_for_any g t out start s mem e (rw (kind.0, kind.1) room))

pub book_suffices : (width height : ℕ) (book : List ℕ) → Suffices (OfSizeUnder width height book) (room_bytes (book_bits book) (blocks_along height * blocks_along width))
book_suffices width height book g t out start s kind mem room =
    has_room g t out start s (λ e. room_suffices g t out start s mem e (rw (kind.0, kind.1, kind.2) room))

-- ---- the listing program's planes (document 01: sizes to 176 × 144, from bit 0 into 65,536 bytes) never end early: 99 macroblocks of at most 3,135 bits
listing_blocks : (g : Given) → g.width ≤ 176 → g.height ≤ 144 → count g ≤ 99
listing_blocks g w h =
    let across : blocks_along g.width ≤ 11 = omega arith in
    let down : blocks_along g.height ≤ 9 = omega arith in
    mul-le-mul down across

pub listing_never_ends_early : (g : Given) (t : Task) (out : List ℕ) (s : Slices) → Fine g t → g.width ≤ 176 → g.height ≤ 144 → length out ≡ 65536
    → ((write_plane g t (bits_of out) 0 s).refusal ≡ 0) × ((write_plane g t (bits_of out) 0 s).done ≡ count g)
listing_never_ends_early g t out s ok w h l =
    let bits : any_bits * count g ≤ any_bits * 99 = mul-le-mul_left any_bits (listing_blocks g w h) in
    let r = (room_run g t (bits_of out) (bits_whole out) 0 s ok any_bits (book_any g.book ok.book) (rw (length_bits_of out) (omega arith))).0 in
    (rw r, rw r)
