-- The parts of a coded leaf, one behind the other. Assumes nothing.
use mathlib.Core.Path.{◌≡◌}
use native.Mathlib.Omega.{arith}
use lib.ListN.{length}
use mir.ValLaws.{to_z-of_z}
use mir.Syntax.{w16}
use Rattle.code_tables.specs.CodesLaws.{code-length}
use Rattle.codebook.specs.Mean.{mean_position}
use Rattle.leaf.specs.LentNeedsLaws.{coded_parts, coded_wrote}
use Rattle.leaf.proofs.svq1_enc_leaf.inner.put_coded.Goals as goal

pub put_code-p-requires : goal.put_code-p-requires
put_code-p-requires c =
    let s = c in
    let a = s.args in
    let k : c.mean_position-k.result ≡ mean_position a.half a.mean = simp (to_z-of_z w16 a.mean s.ranges.mean) at c.mean_position-k.ensures in
    let n = c.stage_count-n.ensures in
    let six : length a.stages ≡ 6 = s.well_formed.1.1.1.1.1.1.1.0.1.0.1 in
    let t = s.requires.tables in
    let p = coded_parts a.half a.stage.now a.means.now a.stages t six a.mean a.count _ _ s.requires.known n k (length a.out.now) a.at s.requires.room in
    (p.stage_entry, record { bytes_fit = p.whole.bytes_fit; bits_fit = omega (arith, p.whole.bits_fit) })

pub put_code-q-requires : goal.put_code-q-requires
put_code-q-requires c =
    let s = c in
    let a = s.args in
    let k : c.mean_position-k.result ≡ mean_position a.half a.mean = simp (to_z-of_z w16 a.mean s.ranges.mean) at c.mean_position-k.ensures in
    let n = c.stage_count-n.ensures in
    let six : length a.stages ≡ 6 = s.well_formed.1.1.1.1.1.1.1.0.1.0.1 in
    let t = s.requires.tables in
    let p = coded_parts a.half a.stage.now a.means.now a.stages t six a.mean a.count _ _ s.requires.known n k (length a.out.now) a.at s.requires.room in
    let w = c.put_code-p in
    let l = code-length a.stage.now _ p.stage_entry.there in
    (p.mean_entry, record { bytes_fit = omega (arith, p.whole.bytes_fit, w.auto.out); bits_fit = omega (arith, p.whole.bits_fit, w.auto.out, w.ensures.behind, l) })

pub put_stages-requires : goal.put_stages-requires
put_stages-requires c =
    let s = c in
    let a = s.args in
    let k : c.mean_position-k.result ≡ mean_position a.half a.mean = simp (to_z-of_z w16 a.mean s.ranges.mean) at c.mean_position-k.ensures in
    let n = c.stage_count-n.ensures in
    let six : length a.stages ≡ 6 = s.well_formed.1.1.1.1.1.1.1.0.1.0.1 in
    let t = s.requires.tables in
    let p = coded_parts a.half a.stage.now a.means.now a.stages t six a.mean a.count _ _ s.requires.known n k (length a.out.now) a.at s.requires.room in
    let w = c.put_code-p in
    let v = c.put_code-q in
    let l = code-length a.stage.now _ p.stage_entry.there in
    let m = code-length a.means.now _ p.mean_entry.there in
    (omega (arith, n), record { bytes_fit = omega (arith, p.whole.bytes_fit, w.auto.out, v.auto.out); bits_fit = omega (arith, p.whole.bits_fit, w.auto.out, v.auto.out, w.ensures.behind, v.ensures.behind, l, m) })

pub returns : goal.returns
returns c =
    let s = c in
    let a = s.args in
    let k : c.mean_position-k.result ≡ mean_position a.half a.mean = simp (to_z-of_z w16 a.mean s.ranges.mean) at c.mean_position-k.ensures in
    let n = c.stage_count-n.ensures in
    let six : length a.stages ≡ 6 = s.well_formed.1.1.1.1.1.1.1.0.1.0.1 in
    let t = s.requires.tables in
    let p = coded_parts a.half a.stage.now a.means.now a.stages t six a.mean a.count _ _ s.requires.known n k (length a.out.now) a.at s.requires.room in
    coded_wrote a.half a.stage.now a.means.now a.stages t six a.mean a.count _ _ s.requires.known n k
    a.out.now _ _ _ a.at _ _ _ p.whole.bits_fit c.put_code-p.ensures c.put_code-q.ensures c.put_stages.ensures
