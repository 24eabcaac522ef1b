-- `read_into` meets its contract: what the lines leave decides the refusals in their order.
use Rattle.std.proofs.Common.{◌≡◌, Some, sym, ap, ◌∙◌, arith, Option, Bool}
use Rattle.book_file.specs.BookFile.{file_lines}
use Rattle.book_file.specs.BookFileForms.{BookHeld, begun, held_told, scanned}
use Rattle.book_file.specs.CallLaws.{file_stopped, file_missing, file_moved, file_whole}
use Rattle.book_file.proofs.read_into.Goals as goal
use Rattle.book_file.proofs.read_into.Goals.{In-Some}

-- what the lines leave
abbrev left : In-Some → BookHeld
left d = record { book = d.read_lines.new.book; met = d.read_lines.new.met; ordered = d.in-Some.ordered }

whole : (d : In-Some) →
    scanned 0 (file_lines d.args.file.now) (begun d.args.book.now d.args.met.now) ≡ Some (left d)
whole d = sym d.in-Some.ensures

pub read_lines-requires : goal.read_lines-requires
read_lines-requires c = (c.requires.0, c.requires.1.size)

pub returns-in_default : goal.returns-in_default
returns-in_default c =
    let r = c.read_lines in
    record {
      refusal =
          sym (file_stopped c.args.file.now c.args.book.now c.args.met.now c.requires.1
          (sym r.ensures ∙ ap (λ (a : Option Bool). held_told a r.new.book r.new.met) c.in_default.is));
      held = λ q. absurd (omega arith);
    }

pub returns-then-not-all_met : goal.returns-then-not-all_met
returns-then-not-all_met c =
    let w = (goal.at.returns-then-not-all_met c).In-Some in
    record {
      refusal =
          sym (file_missing c.args.file.now c.args.book.now c.args.met.now c.requires.1 (left w) (whole w)
          (sym c.all_met.ensures ∙ c.if-not-all_met.true));
      held = λ q. absurd (omega arith);
    }

pub returns-then-not-ordered : goal.returns-then-not-ordered
returns-then-not-ordered c =
    let w = (goal.at.returns-then-not-ordered c).In-Some in
    record {
      refusal =
          sym (file_moved c.args.file.now c.args.book.now c.args.met.now c.requires.1 (left w) (whole w)
          (sym c.all_met.ensures ∙ c.if-not-all_met.false) c.if-not-ordered.true);
      held = λ q. absurd (omega arith);
    }

pub returns : goal.returns
returns c =
    let w = (goal.at.returns c).In-Some in
    let both =
    file_whole c.args.file.now c.args.book.now c.args.met.now c.requires.1 (left w) (whole w) c.requires.0
    (sym c.all_met.ensures ∙ c.if-not-all_met.false) c.if-not-ordered.false in
    record { refusal = c.check_book.ensures ∙ both.refusal; held = λ q. both.held (sym c.check_book.ensures ∙ q) }
