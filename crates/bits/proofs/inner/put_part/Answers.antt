-- `inner::put_part` meets its contract. One byte changes, by put-set.
use Prim.Native.Nat.{ℕ, ◌+◌, ◌-◌, ◌*◌, ◌/◌, ◌%◌}
use mathlib.Core.Path.{◌≡◌}
use mathlib.Core.List.{List}
use native.Mathlib.Omega.{arith}
use lib.Pow.{shl_lt}
use Rattle.bits.specs.BitsLaws.{put_set}
use Rattle.bits.proofs.inner.put_part.Goals as goal

pub byte_with-requires : goal.byte_with-requires
byte_with-requires c =
    let a = c.args in (omega arith, omega arith, shl_lt a.n (8 - a.at % 8 - a.n) c.requires.3)

pub returns : goal.returns
returns c =
    let s = c in
    let out : List ℕ = s.args.out.now in
    let at : ℕ = s.args.at in
    let n : ℕ = s.args.n in
    let whole : 8 * (at / 8) + at % 8 ≡ at = omega arith in
    let put = put_set out (at / 8) (at % 8) n (8 - at % 8 - n) s.args.v s.requires.2 (omega arith) s.requires.0 s.requires.3 in
    rw c.byte_with.ensures (rw whole at put)
