-- `book_file::entry_named` meets its contract: the names that were no match, and the one that was, decide the definition's tests. Assumes nothing.
use mathlib.Core.Path.{sym, ◌∙◌}
use Rattle.book_file.specs.BookFile.{entry_named}
use Rattle.book_file.proofs.entry_named.Goals as goal

pub returns-then-same : goal.returns-then-same
unfolding entry_named
returns-then-same c = c.entry_in.ensures ∙ sym (rw (sym c.same.ensures ∙ c.if-same.true))

pub returns-then-same-2 : goal.returns-then-same-2
unfolding entry_named
returns-then-same-2 c =
    c.entry_in-then-same-2.ensures ∙ sym (rw (sym c.same.ensures ∙ c.if-same.false, sym c.same-2.ensures ∙ c.if-same-2.true))

pub returns-then-same-3 : goal.returns-then-same-3
unfolding entry_named
returns-then-same-3 c =
    c.entry_in-then-same-3.ensures ∙ sym (rw (sym c.same.ensures ∙ c.if-same.false, sym c.same-2.ensures ∙ c.if-same-2.false, sym c.same-3.ensures ∙ c.if-same-3.true))

pub returns-then-same-4 : goal.returns-then-same-4
unfolding entry_named
returns-then-same-4 c =
    c.entry_in-then-same-4.ensures ∙ sym (rw (sym c.same.ensures ∙ c.if-same.false, sym c.same-2.ensures ∙ c.if-same-2.false, sym c.same-3.ensures ∙ c.if-same-3.false, sym c.same-4.ensures ∙ c.if-same-4.true))

pub returns-then-same-5 : goal.returns-then-same-5
unfolding entry_named
returns-then-same-5 c =
    c.entry_in-then-same-5.ensures ∙ sym (rw (sym c.same.ensures ∙ c.if-same.false, sym c.same-2.ensures ∙ c.if-same-2.false, sym c.same-3.ensures ∙ c.if-same-3.false, sym c.same-4.ensures ∙ c.if-same-4.false, sym c.same-5.ensures ∙ c.if-same-5.true))

pub returns-then-same-6 : goal.returns-then-same-6
unfolding entry_named
returns-then-same-6 c =
    c.entry_in-then-same-6.ensures ∙ sym (rw (sym c.same.ensures ∙ c.if-same.false, sym c.same-2.ensures ∙ c.if-same-2.false, sym c.same-3.ensures ∙ c.if-same-3.false, sym c.same-4.ensures ∙ c.if-same-4.false, sym c.same-5.ensures ∙ c.if-same-5.false, sym c.same-6.ensures ∙ c.if-same-6.true))

pub returns : goal.returns
unfolding entry_named
returns c =
    sym (rw (sym c.same.ensures ∙ c.if-same.false, sym c.same-2.ensures ∙ c.if-same-2.false, sym c.same-3.ensures ∙ c.if-same-3.false, sym c.same-4.ensures ∙ c.if-same-4.false, sym c.same-5.ensures ∙ c.if-same-5.false, sym c.same-6.ensures ∙ c.if-same-6.false))
