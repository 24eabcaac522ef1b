-- `book_file::read_lines` meets its contract: what the lines read so far leave, with the lines left, makes what all lines leave. Assumes nothing.
use Prim.Native.Nat.{ℕ, suc, ◌+◌, ◌-◌}
use mathlib.Core.Path.{◌≡◌, refl, sym, ap, ◌∙◌}
use mathlib.Core.Bool.{◌&&◌}
use mathlib.Core.List.{List}
use Rattle.std.proofs.Common.{Option, Some, None, rules}
use native.Mathlib.Numerals.{add-one}
use native.Mathlib.Omega.{arith}
use borrow.Author.Tests.{eq-eqb, ne_eqb}
use lib.Dec.{eqb}
use lib.ListN.{length, take, drop, get_or, length-set}
use Rattle.bits.specs.Basics.{pick}
use Rattle.bits.specs.BasicsLaws.{part_from, length_part}
use lib.Seq.{length-take-le}
use Rattle.text.specs.Text.{fields_of}
use Rattle.book_file.specs.BookFile.{Line, line_read, file_lines}
use Rattle.book_file.specs.BookFileForms.{BookHeld, begun, scan_lines, scanned, kept}
use Rattle.book_file.specs.BookFileFormsLaws.{LineFits, line_fits, file_end, file_open, file_bad, file_line, scan_step, kept_is}
use Rattle.book_file.proofs.read_lines.Goals as goal
use Rattle.book_file.proofs.read_lines.Goals.{In_ok-line}

-- the line that was read, which says something
abbrev line : In_ok-line → Line
line d = record { entry = d.in_ok-line.line.entry; long = d.in_ok-line.line.long; value = d.in_ok-line.line.value }

abbrev bytes : In_ok-line → ℕ
bytes d = d.in_ok-n.n

abbrev state : In_ok-line → BookHeld
state d = record { book = d.loop-at.book; met = d.loop-at.met; ordered = d.loop-at.ordered }

told : (d : In_ok-line) → line_read (fields_of (take (bytes d) (part_from d.loop-at.at d.args.file.now))) ≡ Some (line d)
told d = sym d.in_ok-line.ensures

fits : (d : In_ok-line) → LineFits (line d)
fits d = line_fits (fields_of (take (bytes d) (part_from d.loop-at.at d.args.file.now))) (line d) (told d)

-- what the line's turn makes of the whole
more : (d : In_ok-line) →
    scanned 0 (file_lines d.args.file.now) (begun d.args.book.now d.args.met.now)
    ≡ pick (eqb (get_or d.loop-at.met d.in_ok-line.line.entry 0) 0)
    (scanned (suc d.loop-at.next) (file_lines (drop (d.loop-at.at + (bytes d + 1)) d.args.file.now)) (kept d.loop-at.next (line d) (state d)))
    None
more d =
    let u = d.loop-at in
    let file : List ℕ = d.args.file.now in
    sym u.invariant.4
    ∙ ap (λ (o : Option (List Line)). scanned u.next o (state d)) (file_line file u.at (bytes d) d.in_ok-n.ensures.count d.in_ok-n.ensures.within (line d) (told d))
    ∙ scan_step u.next (line d) (file_lines (drop (u.at + (bytes d + 1)) file)) (state d)

pub loop-at-init : goal.loop-at-init
loop-at-init c = (omega arith, omega arith, refl, refl, refl)

pub slice_bounds-rest-count : goal.slice_bounds-rest-count
slice_bounds-rest-count c = omega arith

pub slice_bounds-rest-start : goal.slice_bounds-rest-start
slice_bounds-rest-start c = omega arith

pub slice_bounds-rest-end : goal.slice_bounds-rest-end
slice_bounds-rest-end c = omega arith

pub returns-in_err-n : goal.returns-in_err-n
returns-in_err-n c =
    let file = c.args.file.now in
    let at = c.loop-at.at in
    let e : scanned 0 (file_lines file) (begun c.args.book.now c.args.met.now) ≡ None =
    sym c.loop-at.invariant.4 ∙ rw (file_open file at (length (part_from at file)) c.loop-at-test.true (sym c.in_err-n.ensures) (omega arith)) in
    search (rules, sym e)

pub slice_bounds-read_line-end : goal.slice_bounds-read_line-end
slice_bounds-read_line-end c = sym (length-take-le c.in_ok-n.n _ (omega (arith, c.in_ok-n.ensures.within)))

pub returns-in_err-line : goal.returns-in_err-line
returns-in_err-line c =
    let file = c.args.file.now in
    let e : scanned 0 (file_lines file) (begun c.args.book.now c.args.met.now) ≡ None =
    sym c.loop-at.invariant.4 ∙ rw (file_bad file c.loop-at.at c.in_ok-n.n c.in_ok-n.ensures.count c.in_ok-n.ensures.within (sym c.in_err-line.ensures)) in
    search (rules, sym e)

pub bounds-met-line : goal.bounds-met-line
bounds-met-line c = omega (arith, (fits (goal.at.bounds-met-line c).In_ok-line).entry_below, c.loop-at.invariant.3, c.requires)

pub shape_of-book-then-met-line-ne0 : goal.shape_of-book-then-met-line-ne0
shape_of-book-then-met-line-ne0 c = c.loop-at.invariant.2

pub shape_of-met-then-met-line-ne0 : goal.shape_of-met-then-met-line-ne0
shape_of-met-then-met-line-ne0 c = c.loop-at.invariant.3

pub returns-then-met-line-ne0 : goal.returns-then-met-line-ne0
returns-then-met-line-ne0 c = sym (more (goal.at.returns-then-met-line-ne0 c).In_ok-line ∙ rw (ne_eqb (get_or c.loop-at.met c.in_ok-line.line.entry 0) 0 c.if-met-line-ne0.true))

pub bounds-met-line-in-loop-at : goal.bounds-met-line-in-loop-at
bounds-met-line-in-loop-at c = omega (arith, (fits (goal.at.bounds-met-line-in-loop-at c).In_ok-line).entry_below, c.loop-at.invariant.3, c.requires)

pub put_entry-requires : goal.put_entry-requires
put_entry-requires c =
    let d = c in (omega (arith, (fits (goal.at.put_entry-requires c).In_ok-line).entry_below, c.loop-at.invariant.2, c.requires), (fits (goal.at.put_entry-requires c).In_ok-line).value_le)

pub overflow_add-next : goal.overflow_add-next
overflow_add-next c = omega arith

pub overflow_add-at : goal.overflow_add-at
overflow_add-at c = omega (arith, c.in_ok-n.ensures.within)

pub overflow_add-at-in-loop-at : goal.overflow_add-at-in-loop-at
overflow_add-at-in-loop-at c = omega (arith, c.in_ok-n.ensures.within)

pub loop-at-smaller : goal.loop-at-smaller
loop-at-smaller c = omega arith

pub loop-at-preserved : goal.loop-at-preserved
loop-at-preserved c =
    let s = goal.at.loop-at-preserved c in
    let rest : length (part_from c.loop-at.at c.args.file.now) ≡ length c.args.file.now - c.loop-at.at = omega (arith, length_part c.loop-at.at c.args.file.now) in
    let same = kept_is c.loop-at.next (line s.In_ok-line) (state s.In_ok-line) c.put_entry.new.book (c.loop-at.ordered && eqb c.in_ok-line.line.entry c.loop-at.next) c.put_entry.ensures refl in (
      omega (arith, c.in_ok-n.ensures.within, rest, c.loop-at.invariant.0),
      omega (arith, c.loop-at.invariant.1),
      c.put_entry.auto.book ∙ c.loop-at.invariant.2,
      simp length-set c.loop-at.invariant.3,
      rw (add-one c.loop-at.next, same) (sym (more s.In_ok-line ∙ rw (eq-eqb (get_or c.loop-at.met c.in_ok-line.line.entry 0) 0 (omega arith)))),
    )

pub shape_of-book : goal.shape_of-book
shape_of-book c = c.loop-at.invariant.2

pub shape_of-met : goal.shape_of-met
shape_of-met c = c.loop-at.invariant.3

pub returns : goal.returns
unfolding scan_lines
returns c =
    sym (sym c.loop-at.invariant.4 ∙ rw (file_end c.args.file.now c.loop-at.at (omega arith)))
