-- `read_code` meets its contract: the comma found parts the length from the code.
use Rattle.std.proofs.Common.{◌+◌, ◌≡◌, None, Some, sym, ◌∙◌, rules, arith, length, take}
use lib.Seq.{length-take-le}
use Rattle.bits.specs.BasicsLaws.{part_from}
use Rattle.text.specs.Text.{fields_of}
use Rattle.book_file.specs.BookFile.{line_at, line_number}
use Rattle.book_file.specs.BookFileForms.{file_code_at}
use Rattle.book_file.specs.BookFileFormsLaws.{code_short, code_both}
use Rattle.book_file.proofs.read_code.Goals as goal
use Rattle.book_file.proofs.read_code.Goals.{In_ok-a}

-- a length and a code
both : (c : In_ok-a) →
    let a = c.args in
    let t = a.t.now in
    file_code_at (Some a.entry) (fields_of t) ≡ line_at (Some a.entry) (line_number (take c.in_ok-a.a t)) (line_number (part_from (c.in_ok-a.a + 1) t))
both c = code_both c.args.entry c.args.t.now c.in_ok-a.a c.in_ok-a.ensures.count c.in_ok-a.ensures.within

pub returns-in_err-a : goal.returns-in_err-a
returns-in_err-a c =
    let a = c.args in
    search (rules, sym (code_short (Some a.entry) a.t.now (length a.t.now) (sym c.in_err-a.ensures) (omega arith)))

pub slice_bounds-read_number-end : goal.slice_bounds-read_number-end
slice_bounds-read_number-end c = sym (length-take-le c.in_ok-a.a c.args.t.now (omega (arith, c.in_ok-a.ensures.within)))

pub returns-in_err-long : goal.returns-in_err-long
returns-in_err-long c =
    let a = c.args in
    let e : file_code_at (Some a.entry) (fields_of a.t.now) ≡ None = both (goal.at.returns-in_err-long c).In_ok-a ∙ rw (← c.in_err-long.ensures) in
    search (rules, sym e)

pub returns-in_err-value : goal.returns-in_err-value
returns-in_err-value c =
    let a = c.args in
    let e : file_code_at (Some a.entry) (fields_of a.t.now) ≡ None =
    both (goal.at.returns-in_err-value c).In_ok-a ∙ rw (← c.in_ok-long.ensures, ← c.in_err-value.ensures) in
    search (rules, sym e)

pub returns : goal.returns
returns c = sym (both (goal.at.returns c).In_ok-a ∙ rw (← c.in_ok-long.ensures, ← c.in_ok-value.ensures))
