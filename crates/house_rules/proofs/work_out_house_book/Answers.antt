-- `house_rules::work_out_house_book` meets its contract: the entries passed stand one behind the other, and one more each turn. Assumes nothing.
use Prim.Native.Nat.{◌*◌}
use mathlib.Core.Path.{◌≡◌, refl, sym, ◌∙◌}
use native.Mathlib.Omega.{arith}
use lib.ListN.{length}
use lib.Seq.{sets}
use Rattle.bits.specs.FillLaws.{sets_all}
use Rattle.book.specs.Book.{book_entries, book_bytes}
use Rattle.house.specs.House.{house_entry, house_from, house_book}
use Rattle.house.specs.HouseLaws.{length_house_book, house_book_lem}
use Rattle.house.specs.FillLaws.{fill_done}
use Rattle.house_rules.specs.RulesLaws.{entry_put}
use Rattle.house_rules.proofs.work_out_house_book.Goals as goal

pub loop-e-init : goal.loop-e-init
unfolding house_from
loop-e-init c = (refl, refl)

pub loop-e-preserved : goal.loop-e-preserved
loop-e-preserved c =
    let o = c.args.out.now in
    let put : c.put_row.new.out ≡ sets c.loop-e.out (3 * c.loop-e.e) (house_entry c.loop-e.e) = rw c.house_entry.ensures at c.put_row.ensures in
    (c.put_row.auto.out ∙ c.loop-e.invariant.0, put ∙ rw c.loop-e.invariant.1 (entry_put o c.loop-e.e))

pub returns : goal.returns
unfolding house_book
returns c =
    let o = c.args.out.now in
    let size : length o ≡ book_bytes = c.if-out-ne-BOOK_BYTES.false in
    let all : c.loop-e.e ≡ book_entries = omega arith in
    let whole : c.loop-e.out ≡ house_book = c.loop-e.invariant.1 ∙ rw all (sets_all o (house_from book_entries 0) (size ∙ sym length_house_book)) in
    record { filled = fill_done book_bytes house_book o c.loop-e.out size whole; holds = λ z. rw whole house_book_lem }
