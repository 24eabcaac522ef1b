-- `house::fill_house_codebook` meets its contract. The first `i` bytes are the rule's.
use Prim.Native.Nat.{ℕ}
use mathlib.Core.Path.{◌≡◌, sym, ◌∙◌}
use mathlib.Core.List.{List}
use native.Mathlib.Omega.{arith}
use lib.ListN.{length, get_or, length-set}
use Rattle.book.specs.Book.{codebook_bytes}
use Rattle.house.specs.House.{house_codebook}
use Rattle.house.specs.HouseLaws.{length_house_codebook, house_sample_at}
use Rattle.bits.specs.FillLaws.{fill_step, fill_end}
use Rattle.house.specs.FillLaws.{codebook_done}
use Rattle.house.proofs.fill_house_codebook.Goals as goal

pub loop-i-preserved : goal.loop-i-preserved
loop-i-preserved c =
    let u = c in
    let s = u in
    let out : List ℕ = u.loop-i.out in
    let i : ℕ = u.loop-i.i in
    let byte : c.house_byte.result ≡ get_or house_codebook i 0 = c.house_byte.ensures ∙ sym (house_sample_at i (omega arith)) in
    (length-set out i _ ∙ u.loop-i.invariant.0, fill_step house_codebook out i _ (omega arith) (omega (arith, length_house_codebook)) u.loop-i.invariant.1 byte)

pub returns : goal.returns
returns c =
    let u = c in
    let size : length u.args.out.now ≡ codebook_bytes = u.if-out-ne-CODEBOOK_BYTES.false in
    codebook_done _ u.loop-i.out size
    (fill_end house_codebook u.loop-i.out u.loop-i.i (u.loop-i.invariant.0 ∙ size ∙ sym length_house_codebook) (omega (arith, length_house_codebook)) u.loop-i.invariant.1)
