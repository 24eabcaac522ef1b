-- Laws of a plane's states: each macroblock that fits only appends; and a plane with room for each of its macroblocks is written to the last one.
-- Assumes nothing.
use Rattle.std.specs.Prelude.{◌≡◌, refl, true, List, take}
use Rattle.std.proofs.Common.{sym, ◌∙◌, arith, add-zero, zero-add, take-take, length-take-le}
use Rattle.std.proofs.Math.Path.{ap}
use Prim.Native.Nat.{ℕ, zero, suc, ◌+◌, ◌%◌, ◌≤◌, ◌<◌}
use Rattle.std.proofs.Math.ListN.{length}
use Rattle.std.proofs.lemmas.List.{take-append-le}
use borrow.Author.Tests.{leb-true, le-leb}
use Rattle.bits.specs.Bits.{put_bits}
use Rattle.bits.specs.BitsLaws.{put_length}
use Rattle.macroblock.specs.Macroblock.{Given}
use Rattle.macroblock.specs.Choice.{Task, weight_of}
use Rattle.macroblock.specs.Slices.{Slices}
use Rattle.plane.specs.Run.{after}
use Rattle.plane.specs.RunLaws.{testing, run_on, run_holds}
use Rattle.plane.specs.Plane.{count, Writing, wrote_weight, wrote_bits, fits, written, to_write, write_plane, writing_at}

take_put : (bs xs : List ℕ) (n at : ℕ) → n ≤ at → at ≤ length bs → take n (put_bits bs at xs) ≡ take n bs
unfolding put_bits
take_put bs xs n at h l = take-append-le n (take at bs) _ (rw (length-take-le at bs l) h) ∙ take-take n at bs h

-- a state of a plane that is written from bit start of these bits: as many bits, those before the start bit as they were, and the next bit behind the bits written
pub record AppendsOnly (bits : List ℕ) (start : ℕ) (s : Writing) : Type 0 where
  pub long : length s.out ≡ length bits
  pub before : take start s.out ≡ take start bits
  pub next : s.next ≡ start + s.bits

module _ (g : Given) (t : Task) (bits : List ℕ) (even : length bits % 8 ≡ 0) (start : ℕ) where
  appends_first : (a : Slices) → AppendsOnly bits start (to_write bits start a)
  appends_first a = record { long = refl; before = refl; next = sym (add-zero start) }

  appends_one : (k : ℕ) (s : Writing) → AppendsOnly bits start s → fits g t k s ≡ true → AppendsOnly bits start (written g t k s)
  unfolding written weight_of
  appends_one k s p e =
      let room : s.next + (wrote_weight g t k s).bits ≤ length s.out = leb-true (s.next + (wrote_weight g t k s).bits) (length s.out) e in
      record {
        long = put_length s.out (wrote_bits g t k s) s.next (rw p.long even) room ∙ p.long;
        before = take_put s.out (wrote_bits g t k s) start s.next (omega (arith, p.next)) (omega (arith, room)) ∙ p.before;
        next = omega (arith, p.next);
      }

  module _ (a : Slices) where
    abbrev S : ℕ → Writing
    S = writing_at g t bits start a

    -- as far as each macroblock fits
    pub appends_to : (n : ℕ) → ((k : ℕ) → k < n → fits g t k (S k) ≡ true) → AppendsOnly bits start (S n)
    unfolding after
    appends_to zero f = appends_first a
    appends_to (suc n) f = appends_one n (S n) (appends_to n (λ k h. f k (omega arith))) (f n (omega arith))

    -- ended early or not
    pub appends_end : AppendsOnly bits start (write_plane g t bits start a).state
    unfolding write_plane
    appends_end = run_holds 22 (fits g t) (written g t) (AppendsOnly bits start) appends_one (count g) 0 (to_write bits start a) (appends_first a)

    -- the next bit lies in the output
    record Inside (s : Writing) : Type 0 where
      appends : AppendsOnly bits start s
      inside : s.next ≤ length bits

    inside_one : (k : ℕ) (s : Writing) → Inside s → fits g t k s ≡ true → Inside (written g t k s)
    unfolding written weight_of
    inside_one k s i e =
        record { appends = appends_one k s i.appends e; inside = rw i.appends.long at (leb-true (s.next + (wrote_weight g t k s).bits) (length s.out) e) }

    pub inside_end : start ≤ length bits → (write_plane g t bits start a).state.next ≤ length bits
    unfolding write_plane
    inside_end h =
        (run_holds 22 (fits g t) (written g t) Inside inside_one (count g) 0 (to_write bits start a) (record { appends = appends_first a; inside = h })).inside

    -- with room for each macroblock
    module _ (room : (k : ℕ) → k < count g → start + (S k).bits + (wrote_weight g t k (S k)).bits ≤ length bits) where
      fit : (k : ℕ) → k < count g → AppendsOnly bits start (S k) → fits g t k (S k) ≡ true
      fit k h p = le-leb ((S k).next + (wrote_weight g t k (S k)).bits) (length (S k).out) (rw (p.next, p.long) (room k h))

      along : (k : ℕ) → k ≤ count g → AppendsOnly bits start (S k)
      unfolding after
      along zero h = appends_first a
      along (suc k) h = let p = along k (omega arith) in appends_one k (S k) p (fit k h p)

      pub reached_if : write_plane g t bits start a ≡ record { refusal = 0; done = count g; state = S (count g) }
      unfolding after write_plane
      reached_if =
          run_on (testing 22 (fits g t) (written g t)) S (count g) 0 (λ j q l. rw (fit j (omega arith) (along j (omega arith))))
          ∙ ap (λ (i : ℕ). record { refusal = 0; done = i; state = S i }) (zero-add (count g))
