use Prim.Native.Nat.{◌+◌, ◌*◌}
use mathlib.Core.Path.{◌≡◌}
use lib.ListN.{length, drop}
use Rattle.book.specs.Book.{code_table_sizes, each_prefix_free}
use Rattle.book.specs.BookLaws.{sizes_sum}
use Rattle.book_check.proofs.each_prefix_free_in.Given as goal

abbrev pub invariant-loop-size : goal.invariant-loop-size
invariant-loop-size l =
    (l.before + sizes_sum (drop l.size-index code_table_sizes) ≡ 932) × (each_prefix_free code_table_sizes l.book ≡ each_prefix_free (drop l.size-index code_table_sizes) (drop (3 * l.before) l.book))
    × (length l.lows ≡ length l.initial.lows) × (length l.highs ≡ length l.initial.highs)
