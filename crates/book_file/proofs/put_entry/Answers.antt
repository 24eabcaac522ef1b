-- `book_file::put_entry` meets its contract: the three bytes go in where the entry stands. Assumes nothing.
use Prim.Native.Nat.{◌+◌, ◌*◌}
use mathlib.Core.Path.{◌∙◌}
use borrow.Author.Tests.{le-leb}
use lib.ListN.{length}
use Rattle.book_file.proofs.put_entry.Goals as goal

pub returns : goal.returns
returns c =
    c.put_text.ensures.bytes_after
    ∙ rw (le-leb (3 * c.args.e + 3) (length c.args.book.now) c.requires.0, c.min.ensures)
