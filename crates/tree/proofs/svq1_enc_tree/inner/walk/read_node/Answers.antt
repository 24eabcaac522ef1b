-- A leaf at L0, and above it what the flag says. Assumes nothing.
use native.Mathlib.Omega.{arith}
use Rattle.tree.specs.WalkReadLaws.{flag_none, flag_short, flag_split}
use Rattle.book.specs.Book.{tables_of}
use Rattle.bits.specs.BitsLaws.{length_bits_of}
use Rattle.bits.specs.Bits.{bits_of}
use lib.ListN.{length}
use Prim.Native.Nat.{◌<◌, ◌≤◌}
use mathlib.Core.Path.{◌≡◌, ◌∙◌}
use borrow.Author.Rules.{rules}
use Rattle.book.specs.Level.{level_number}
use Rattle.tree.proofs.svq1_enc_tree.inner.walk.read_node.Goals as goal

pub returns-then-number-eq0 : goal.returns-then-number-eq0
returns-then-number-eq0 c =
    let a = c.args in
    record {
      is = c.read_leaf_at.ensures.is ∙ flag_none (tables_of a.book.now a.half) (level_number a.level) a.at (bits_of a.s.now) (rw c.number.ensures.0 at c.if-number-eq0.true);
      within = c.read_leaf_at.ensures.within;
    }

pub returns-then-s-at : goal.returns-then-s-at
returns-then-s-at c =
    let a = c.args in
    let h : length (bits_of a.s.now) ≤ a.at = rw length_bits_of (search rules) in
    record {
      is = flag_short (tables_of a.book.now a.half) (level_number a.level) a.at (bits_of a.s.now) (rw c.number.ensures.0 at c.if-number-eq0.false) h;
      within = tt;
    }

pub returns : goal.returns
returns c =
    let a = c.args in
    let h : a.at < length (bits_of a.s.now) = rw length_bits_of (search rules) in
    record {
      is = flag_split (tables_of a.book.now a.half) (level_number a.level) a.at (bits_of a.s.now) (rw c.number.ensures.0 at c.if-number-eq0.false) h (λ e. let z : c.get_bits.result ≡ 0 = c.get_bits.ensures ∙ e in omega arith);
      within = omega arith;
    }
