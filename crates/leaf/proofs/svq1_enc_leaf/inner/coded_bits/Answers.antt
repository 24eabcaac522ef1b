-- A coded leaf's bits: two codes and four bits a stage. Assumes nothing.
use mathlib.Core.Path.{◌≡◌, sym}
use mir.ValLaws.{to_z-of_z}
use mir.Syntax.{w16}
use Rattle.codebook.specs.Mean.{mean_position}
use Rattle.leaf.specs.LentNeedsLaws.{coded_size}
use Rattle.leaf.proofs.svq1_enc_leaf.inner.coded_bits.Goals as goal

pub returns : goal.returns
returns c =
    let s = c in
    let a = s.args in
    let k : c.mean_position-k.result ≡ mean_position a.half a.mean = simp (to_z-of_z w16 a.mean s.ranges.mean) at c.mean_position-k.ensures in
    let n = c.stage_count-n.ensures in
    λ js six.
    rw (c.entry_len-s.ensures, c.entry_len-m.ensures)
    (sym (coded_size a.half a.stage.now a.means.now js s.requires.0 six a.mean a.count _ _ s.requires.1 n k))
