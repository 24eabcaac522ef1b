use Prim.Native.Nat.{◌+◌, ◌*◌, ◌≤◌}
use mathlib.Core.Path.{◌≡◌}
use Rattle.bits.specs.Basics.{sum}
use Rattle.book_file.specs.FileLength.{digits_at, frame_bytes}
use Rattle.book_file_writer.proofs.file_length.Given as goal

abbrev pub invariant-loop-e : goal.invariant-loop-e
invariant-loop-e l = (l.n ≤ frame_bytes + 40 * l.e) × (l.n ≡ frame_bytes + sum (digits_at l.book) l.e)
