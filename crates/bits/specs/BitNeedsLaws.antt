-- Laws of writing, one run of bits behind another, by what `inner` says it wrote. Upper layers cite wrote_none, wrote-more and wrote-size.
use Rattle.std.specs.Prelude.{ℕ, ◌+◌, ◌*◌, ◌≤◌, ◌≡◌, List, [], ◌++◌, length}
use Rattle.std.proofs.Common.{sym, ap, ◌∙◌, add-zero, arith, length-append}
use Rattle.bits.specs.Bits.{bits_of}
use Rattle.bits.specs.BitsLaws.{put_nil, put_put, put_length, bits_whole, length_bits_of}
use Rattle.bits.specs.BitNeeds.{Wrote}

pub wrote_none : (out : List ℕ) (at : ℕ) → Wrote out at [] at out
wrote_none out at = record { behind = sym (add-zero at); bits = sym (put_nil (bits_of out) at) }

-- two runs, the second put where the first ends, are one run
pub wrote_more : {out mid left : List ℕ} {at p q : ℕ} {xs ys : List ℕ} → at ≤ 8 * length out → Wrote out at xs p mid → Wrote mid p ys q left → Wrote out at (xs ++ ys) q left
wrote_more {out} {mid} {left} {at} {p} {q} {xs} {ys} h one two =
    let room : at ≤ length (bits_of out) = rw length_bits_of h in
    record {
      behind = rw length-append (omega (arith, one.behind, two.behind));
      bits = two.bits ∙ rw (one.bits, one.behind) (put_put (bits_of out) xs ys at room);
    }

-- bits that fit keep the number of bytes
pub wrote_size : {out left : List ℕ} {at next : ℕ} {xs : List ℕ} → at + length xs ≤ 8 * length out → Wrote out at xs next left → length left ≡ length out
wrote_size {out} {left} {at} {next} {xs} h w =
    let fits : at + length xs ≤ length (bits_of out) = rw length_bits_of h in
    let same : length (bits_of left) ≡ length (bits_of out) = ap length w.bits ∙ put_length (bits_of out) xs at (bits_whole out) fits in
    omega (arith, same, length_bits_of left, length_bits_of out)
