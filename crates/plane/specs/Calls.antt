-- The plane calls: their answers, and every byte they leave (document 01, "Files as they stay", "Refused for the state met").
use Rattle.std.specs.Prelude.{ℕ, List, ◌≡◌, eqb}
use Rattle.bits.specs.Basics.{pick}
use Rattle.bits.specs.Bits.{bits_of}
use Rattle.macroblock.specs.Macroblock.{Given}
use Rattle.macroblock.specs.Choice.{Task}
use Rattle.plane.specs.Run.{End}
use Rattle.macroblock.specs.Slices.{Slices, Lent}
use Rattle.plane.specs.Plane.{Writing, write_plane, ReadingState, read_plane}
use Rattle.plane.specs.Refusals.{write_refusal, read_refusal}

-- what a plane call answers: the refusal, 0 for none; the macroblocks done, which with 10, 11, 22 and 24 is the index of the one refused; the next bit; and the writer's totals, which are 0 in the reader
pub record PlaneAnswer : Type 0 where
  pub refusal : ℕ
  pub done : ℕ
  pub next : ℕ
  pub bits : ℕ
  pub error : ℕ

-- refused for what came in, or 20 or 21: nothing done
abbrev pub refused_answer : ℕ → PlaneAnswer
refused_answer n = record { refusal = n; done = 0; next = 0; bits = 0; error = 0 }

abbrev pub written_answer : End Writing → PlaneAnswer
written_answer e = record { refusal = e.refusal; done = e.done; next = e.state.next; bits = e.state.bits; error = e.state.error }

abbrev pub end_answer : End ReadingState → PlaneAnswer
end_answer e = record { refusal = e.refusal; done = e.done; next = e.state.next; bits = 0; error = 0 }

-- ---- the writer as a call: what it answers, the output's bits and the slices that it leaves; a refused call leaves all as it was
unfoldable pub write_answer : Given → Task → List ℕ → ℕ → Slices → PlaneAnswer
write_answer g t out start s =
    let n = write_refusal g t out start s in
    pick (eqb n 0) (written_answer (write_plane g t (bits_of out) start s)) (refused_answer n)

unfoldable pub write_out : Given → Task → List ℕ → ℕ → Slices → List ℕ
write_out g t out start s =
    pick (eqb (write_refusal g t out start s) 0) (write_plane g t (bits_of out) start s).state.out (bits_of out)

unfoldable pub write_slices : Given → Task → List ℕ → ℕ → Slices → Slices
write_slices g t out start s = pick (eqb (write_refusal g t out start s) 0) (write_plane g t (bits_of out) start s).state.slices s

-- what a call of the writer meets: r is its answer, l' what it leaves of l
pub record PlaneWritten (g : Given) (t : Task) (start : ℕ) (l : Lent) (r : PlaneAnswer) (l' : Lent) : Type 0 where
  pub answer : r ≡ write_answer g t l.out start l.slices
  pub left_out : bits_of l'.out ≡ write_out g t l.out start l.slices
  pub left_slices : l'.slices ≡ write_slices g t l.out start l.slices

-- ---- the reader as a call
unfoldable pub read_plane_answer : Given → List ℕ → ℕ → Slices → PlaneAnswer
read_plane_answer g bytes start s =
    let n = read_refusal g bytes start s in
    pick (eqb n 0) (end_answer (read_plane g (bits_of bytes) start s)) (refused_answer n)

unfoldable pub read_slices : Given → List ℕ → ℕ → Slices → Slices
read_slices g bytes start s = pick (eqb (read_refusal g bytes start s) 0) (read_plane g (bits_of bytes) start s).state.slices s

pub record PlaneRead (g : Given) (bytes : List ℕ) (start : ℕ) (s : Slices) (r : PlaneAnswer) (s' : Slices) : Type 0 where
  pub answer : r ≡ read_plane_answer g bytes start s
  pub left_slices : s' ≡ read_slices g bytes start s
