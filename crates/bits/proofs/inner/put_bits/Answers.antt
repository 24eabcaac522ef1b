-- `inner::put_bits` meets its contract. All but the last `left` bits stand in the slice; each turn adds those that one byte takes, by put-turn.
use Prim.Native.Nat.{ℕ, ◌≤◌}
use mathlib.Core.Path.{refl, ◌∙◌}
use mathlib.Core.List.{List}
use native.Mathlib.Omega.{arith}
use native.Mathlib.Nat.{mod-lt}
use lib.ListN.{length}
use lib.Pow.{pow_pos}
use Rattle.bits.specs.Bits.{bits_of}
use Rattle.bits.specs.BitsLaws.{put_turn, put_first_lem, put_last, length_msb, length_bits_of}
use Rattle.bits.proofs.inner.put_bits.Goals as goal

pub loop-left-init : goal.loop-left-init
loop-left-init c = (omega arith, omega arith, refl, put_first_lem _ _ _ _)

pub overflow_cast-room : goal.overflow_cast-room
overflow_cast-room c = omega arith

pub overflow_sub-room : goal.overflow_sub-room
overflow_sub-room c = omega arith

pub min-n-requires : goal.min-n-requires
min-n-requires c = omega arith

pub overflow_sub-left : goal.overflow_sub-left
overflow_sub-left c = omega arith

pub part_of-part-requires : goal.part_of-part-requires
part_of-part-requires c = omega arith

pub put_part-requires : goal.put_part-requires
put_part-requires c =
    (omega arith, omega arith, omega arith, rw c.part_of-part.ensures (mod-lt _ (pow_pos _)))

pub overflow_cast-p : goal.overflow_cast-p
overflow_cast-p c = omega arith

pub overflow_add-p : goal.overflow_add-p
overflow_add-p c = omega arith

pub overflow_sub-left-in-loop-left : goal.overflow_sub-left-in-loop-left
overflow_sub-left-in-loop-left c = omega arith

pub loop-left-smaller : goal.loop-left-smaller
loop-left-smaller c = omega arith

pub loop-left-preserved : goal.loop-left-preserved
loop-left-preserved c =
    let q = c in
    let u = q in
    let a = u.args in
    let out₀ : List ℕ = a.out.now in
    let room : a.at ≤ length (bits_of out₀) = omega (arith, length_bits_of out₀, u.requires) in (
      omega arith,
      omega arith,
      q.put_part.auto.out ∙ u.loop-left.invariant.2,
      put_turn (bits_of out₀) _ _ a.at a.width u.loop-left.left q.min-n.result a.value u.loop-left.p _ (omega arith) u.loop-left.invariant.0 room u.loop-left.invariant.1 u.loop-left.invariant.3 q.part_of-part.ensures q.put_part.ensures,
    )

pub shape_of-out : goal.shape_of-out
shape_of-out c = c.loop-left.invariant.2

pub returns : goal.returns
returns c =
    let a = c.args in
    record {
      behind = rw length_msb (omega arith);
      bits = c.loop-left.invariant.3 ∙ put_last _ a.at a.width _ a.value c.loop-left-test.false;
    }
