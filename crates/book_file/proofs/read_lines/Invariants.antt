use Prim.Native.Nat.{◌-◌, ◌≤◌}
use mathlib.Core.Path.{◌≡◌}
use lib.ListN.{length, drop}
use Rattle.book_file.specs.BookFile.{file_lines}
use Rattle.book_file.specs.BookFileForms.{begun, scanned}
use Rattle.book_file.proofs.read_lines.Given as goal

abbrev pub invariant-loop-at : goal.invariant-loop-at
invariant-loop-at l =
    (l.at ≤ length l.file) × (l.next ≤ l.at) × (length l.book ≡ length l.initial.book) × (length l.met ≡ length l.initial.met)
    × (scanned l.next (file_lines (drop l.at l.file)) (record { book = l.book; met = l.met; ordered = l.ordered })
    ≡ scanned 0 (file_lines l.file) (begun l.initial.book l.initial.met))

abbrev pub decreases-loop-at : goal.decreases-loop-at
decreases-loop-at l = length l.file - l.at
