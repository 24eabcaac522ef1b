-- `inner::get_bits` meets its contract. `acc` is the number of the bits passed; each turn adds those of one byte.
use Prim.Native.Nat.{ℕ, ◌+◌, ◌-◌, ◌*◌, ◌/◌, ◌%◌, ◌^◌}
use mathlib.Core.Path.{◌≡◌, sym, ◌∙◌}
use native.Mathlib.Nat.{lt_of_lt_of_le}
use native.Mathlib.Omega.{arith}
use lib.Pow.{pow_mono}
use lib.ListN.{take, drop}
use Rattle.bits.specs.Bits.{bits_of, val_of}
use Rattle.bits.specs.ReadLaws.{more_bits, run_lt}
use Rattle.bits.proofs.inner.get_bits.Goals as goal
use Rattle.bits.proofs.inner.get_bits.Goals.{After-part_of-part}

-- what a turn adds: the value of the bits read so far, with those of this turn
read : (c : After-part_of-part) →
    let u = c in
    let a = u.args in
    let k = c.min-k.result in
    u.loop-left.acc * 2 ^ k + c.part_of-part.result ≡ val_of (take (a.n - (u.loop-left.left - k)) (drop a.at (bits_of a.s.now)))
read c =
    let u = c in
    let a = u.args in
    let k : ℕ = c.min-k.result in
    let p : ℕ = u.loop-left.p in
    let m : ℕ = a.n - u.loop-left.left in
    let e : a.n - (u.loop-left.left - k) ≡ m + k = omega arith in
    rw (c.part_of-part.ensures, u.loop-left.invariant.2, e) (sym (more_bits a.s.now a.at m (p / 8) (p % 8) k (8 - p % 8 - k) (omega arith) (omega arith) (omega arith)))

pub loop-left-init : goal.loop-left-init
unfolding val_of
loop-left-init c =
    let z : c.args.n - c.args.n ≡ 0 = omega arith in
    (omega arith, omega arith, rw z)

pub overflow_cast-room : goal.overflow_cast-room
overflow_cast-room c = omega arith

pub overflow_sub-room : goal.overflow_sub-room
overflow_sub-room c = omega arith

pub min-k-requires : goal.min-k-requires
min-k-requires c = omega arith

pub bounds-s-q : goal.bounds-s-q
bounds-s-q c = omega arith

pub overflow_cast-s : goal.overflow_cast-s
overflow_cast-s c = omega (arith, c.shared_slice_known-in-loop-left-1.given (c.loop-left.p / 8))

pub overflow_sub-room-in-loop-left : goal.overflow_sub-room-in-loop-left
overflow_sub-room-in-loop-left c = omega arith

pub part_of-part-requires : goal.part_of-part-requires
part_of-part-requires c = omega arith

pub joined-acc-requires : goal.joined-acc-requires
joined-acc-requires c =
    let u = c in
    let a = u.args in
    let m : ℕ = a.n - (u.loop-left.left - c.min-k.result) in
    (omega arith, rw (read c) (lt_of_lt_of_le (run_lt a.s.now a.at m (omega arith)) (pow_mono {j = 32} (omega arith))))

pub overflow_cast-p : goal.overflow_cast-p
overflow_cast-p c = omega arith

pub overflow_add-p : goal.overflow_add-p
overflow_add-p c = omega arith

pub overflow_sub-left : goal.overflow_sub-left
overflow_sub-left c = omega arith

pub loop-left-smaller : goal.loop-left-smaller
loop-left-smaller c = omega arith

pub loop-left-preserved : goal.loop-left-preserved
loop-left-preserved c = (omega arith, omega arith, c.joined-acc.ensures ∙ read (goal.at.loop-left-preserved c).After-part_of-part)

pub returns : goal.returns
returns c =
    let a = c.args in
    let e : a.n - c.loop-left.left ≡ a.n = omega arith in
    rw e at c.loop-left.invariant.2
