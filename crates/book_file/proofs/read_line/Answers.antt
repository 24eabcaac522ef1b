-- `read_line` meets its contract: the commas found are those that part the fields.
use Rattle.std.proofs.Common.{◌+◌, ◌≡◌, sym, ◌∙◌, rules, arith, length, take}
use lib.Seq.{length-take-le}
use Rattle.bits.specs.BasicsLaws.{part_from}
use Rattle.text.specs.Text.{fields_of}
use Rattle.book_file.specs.BookFile.{line_read}
use Rattle.book_file.specs.BookFileForms.{place_at}
use Rattle.book_file.specs.BookFileFormsLaws.{line_short, line_first, place_short, place-first, place_none}
use Rattle.book_file.proofs.read_line.Goals as goal
use Rattle.book_file.proofs.read_line.Goals.{In_ok-a}

-- behind the name
named : (c : In_ok-a) →
    let t = c.args.t.now in
    line_read (fields_of t) ≡ place_at (take c.in_ok-a.a t) (fields_of (part_from (c.in_ok-a.a + 1) t))
named c = line_first c.args.t.now c.in_ok-a.a c.in_ok-a.ensures.count c.in_ok-a.ensures.within

pub returns-in_err-a : goal.returns-in_err-a
returns-in_err-a c =
    let t = c.args.t.now in
    search (rules, sym (line_short t (length t) (sym c.in_err-a.ensures) (omega arith)))

pub returns-in_err-b : goal.returns-in_err-b
returns-in_err-b c =
    let t = c.args.t.now in
    let a = c.in_ok-a.a in
    let rest = part_from (a + 1) t in
    search (rules, sym (named (goal.at.returns-in_err-b c).In_ok-a ∙ place_short (take a t) rest (length rest) (sym c.in_err-b.ensures) (omega arith)))

pub slice_bounds-read_number-end : goal.slice_bounds-read_number-end
slice_bounds-read_number-end c = sym (length-take-le c.in_ok-b.b _ (omega (arith, c.in_ok-b.ensures.within)))

pub returns-in_err-p : goal.returns-in_err-p
returns-in_err-p c =
    let t = c.args.t.now in
    let a = c.in_ok-a.a in
    search (rules, sym (named (goal.at.returns-in_err-p c).In_ok-a ∙ place_none (take a t) (part_from (a + 1) t) c.in_ok-b.b c.in_ok-b.ensures.count c.in_ok-b.ensures.within (rw (← c.in_err-p.ensures))))

pub slice_bounds-entry_named-end : goal.slice_bounds-entry_named-end
slice_bounds-entry_named-end c = sym (length-take-le c.in_ok-a.a c.args.t.now (omega (arith, c.in_ok-a.ensures.within)))

pub returns-in_err-entry : goal.returns-in_err-entry
returns-in_err-entry c =
    let t = c.args.t.now in
    let a = c.in_ok-a.a in
    search (rules, sym (named (goal.at.returns-in_err-entry c).In_ok-a ∙ place_none (take a t) (part_from (a + 1) t) c.in_ok-b.b c.in_ok-b.ensures.count c.in_ok-b.ensures.within (rw (← c.in_ok-p.ensures, ← c.in_err-entry.ensures))))

pub returns : goal.returns
returns c =
    let t = c.args.t.now in
    let a = c.in_ok-a.a in
    c.read_code.ensures
    ∙ sym (named (goal.at.returns c).In_ok-a ∙ place-first (take a t) (part_from (a + 1) t) c.in_ok-b.b c.in_ok-b.ensures.count c.in_ok-b.ensures.within ∙ rw (← c.in_ok-p.ensures, ← c.in_ok-entry.ensures))
