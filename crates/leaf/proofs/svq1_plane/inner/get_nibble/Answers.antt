-- Four bits are below 16. Assumes nothing.
use native.Mathlib.Omega.{arith}
use Rattle.bits.specs.ReadLaws.{run_lt}
use borrow.Author.Rules.{rules}
use Rattle.leaf.proofs.svq1_plane.inner.get_nibble.Goals as goal

pub overflow_cast-result : goal.overflow_cast-result
overflow_cast-result c =
    let a = c.args in
    record { fits = omega (arith, c.get_bits.ensures, run_lt a.s.now a.at 4 (search rules)) }
