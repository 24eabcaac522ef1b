-- The coded leaf: mean, seed, the error before any stage, stages and samples. Assumes nothing.
use mathlib.Core.Path.{◌≡◌}
use Prim.Native.Nat.{◌<◌}
use native.Mathlib.Omega.{arith}
use mir.Syntax.{w16}
use mir.Val.{to_z, of_z}
use mir.ValLaws.{to_z-of_z}
use lib.IntN.{sub_ℕ}
use Rattle.leaf_search.specs.InnerLaws.{coded_done}
use Rattle.leaf.specs.SignedLaws.{sub_sfits}
use borrow.Author.Rules.{rules}
use Rattle.leaf_search.proofs.svq1_enc_leaf.inner.search_coded.Goals as goal

pub search_stages-s-requires : goal.search_stages-s-requires
search_stages-s-requires c =
    let d = c in
    let s = d in
    record {
      t_len_bound = (s.requires.few, search rules, d.seed.ensures.below, search rules);
      cap_bound = (s.requires.stages, s.requires.page, c.sums_error-first.ensures);
    }

pub returns : goal.returns
returns c =
    let k = c in
    let d = k in
    let m = d.residual_mean-mean in
    let q = d in
    let a = q.args in
    let s = k.search_stages-s in
    let mean = m.result in
    let small : mean < 32768 = omega (arith, m.ensures.upper_bound) in
    let stored : to_z w16 (of_z w16 c.signed_mean.result) ≡ sub_ℕ mean 256 =
    rw c.signed_mean.ensures (to_z-of_z w16 (sub_ℕ mean 256) (sub_sfits mean 256 small (omega arith))) in
    coded_done a.terms a.t.now a.p.now a.book.now _ _ _ a.base mean c.bias_of.result (to_z w16 (of_z w16 c.signed_mean.result)) s.result
    m.ensures.result_value d.seed.ensures.a_after s.ensures stored c.bias_of.ensures c.show.ensures
    (omega (arith, s.ensures.counted, q.requires.stages))
