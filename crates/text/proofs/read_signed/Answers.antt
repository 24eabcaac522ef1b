-- `text::read_signed` meets its contract: the first byte tells which number follows.
use Rattle.std.proofs.Common.{Some, pos, sym, ap, ◌∙◌, arith, rules, tests, w64}
use Rattle.std.proofs.lemmas.Int.{to_z-of_z}
use Rattle.bits.specs.BasicsLaws.{part_from_lem}
use Rattle.text.specs.Text.{above_zero, below_zero}
use Rattle.text.specs.TextLaws.{number_le}
use Rattle.text.specs.SignedFormsLaws.{signed_empty, signed_minus, signed_plain}
use Rattle.text.proofs.read_signed.Goals as goal

pub returns-then-is_empty : goal.returns-then-is_empty
returns-then-is_empty c = sym (signed_empty _ _ c.args.t.now (search (rules, tests)))

-- with a minus, what follows it is read; with none, the whole
pub returns-in_err-read_number : goal.returns-in_err-read_number
returns-in_err-read_number c =
    let t = c.args.t.now in
    search (rules, sym (signed_minus 9223372036854775808 9223372036854775807 t (search (rules, tests)) c.if-t-eq45.true ∙ ap below_zero (sym (rw (part_from_lem 1 t) at c.in_err-read_number.ensures))))

pub below_zero-requires : goal.below_zero-requires
below_zero-requires c = let e = c.in_ok-read_number.ensures in number_le _ _ _ (sym c.in_ok-read_number.ensures)

pub returns-then-t-eq45 : goal.returns-then-t-eq45
returns-then-t-eq45 c =
    let t = c.args.t.now in
    c.below_zero.ensures ∙ ap below_zero c.in_ok-read_number.ensures ∙ rw (part_from_lem 1 t) (sym (signed_minus _ _ t (search (rules, tests)) c.if-t-eq45.true))

pub returns-in_err-size : goal.returns-in_err-size
returns-in_err-size c =
    let t = c.args.t.now in
    search (rules, sym (signed_plain 9223372036854775808 9223372036854775807 t (search (rules, tests)) c.if-t-eq45.false ∙ ap above_zero (sym c.in_err-size.ensures)))

pub overflow_cast-result : goal.overflow_cast-result
overflow_cast-result c = record { sfits = omega (arith, number_le _ _ _ (sym c.in_ok-size.ensures)) }

pub returns : goal.returns
returns c =
    let t = c.args.t.now in
    ap Some (to_z-of_z w64 (pos c.in_ok-size.size) (overflow_cast-result c)) ∙ ap above_zero c.in_ok-size.ensures
    ∙ sym (signed_plain _ _ t (search (rules, tests)) c.if-t-eq45.false)
