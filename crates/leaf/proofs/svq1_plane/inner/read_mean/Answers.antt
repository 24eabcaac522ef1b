-- The mean, and the stages behind it. Assumes nothing.
use mathlib.Core.Path.{◌≡◌, sym}
use Prim.Native.Nat.{◌<◌}
use native.Mathlib.Omega.{arith}
use borrow.Author.Rules.{rules}
use mir.ValLaws.{to_z-of_z}
use mir.Val.{to_z, of_z}
use mir.Syntax.{w16}
use Rattle.bits.specs.Bits.{bits_of}
use Rattle.code_tables.specs.CallsLaws.{answer_found}
use Rattle.codebook.specs.Mean.{mean_at}
use Rattle.leaf.specs.LentNeeds.{read_indices}
use Rattle.leaf.specs.LentReadLaws.{read_on, means_most, mean_fits, mean_found, take_refused, refused_read}
use Rattle.leaf.proofs.svq1_plane.inner.read_mean.Goals as goal

pub returns-in_err-found : goal.returns-in_err-found
returns-in_err-found c =
    let a = c.args in
    let e = take_refused a.table.now (bits_of a.s.now) a.at _ (λ i l. read_indices (mean_at a.half i) a.count l) c.in_err-found.ensures in
    search (rules, refused_read, sym e)

pub mean_at-requires : goal.mean_at-requires
mean_at-requires c =
    let a = c.args in
    let found = c.in_ok-found.found in
    let o = read_on a.s.now a.table.now a.at _ _ c.requires.1 (answer_found _ found c.in_ok-found.ensures) in
    omega (arith, o.0, c.requires.2.size, means_most a.half)

pub read_stages-requires : goal.read_stages-requires
read_stages-requires c =
    let a = c.args in
    let found = c.in_ok-found.found in
    let o = read_on a.s.now a.table.now a.at _ _ c.requires.1 (answer_found _ found c.in_ok-found.ensures) in
    (c.requires.0, o.1)

pub returns : goal.returns
returns c =
    let a = c.args in
    let b = bits_of a.s.now in
    let found = c.in_ok-found.found in
    let e = answer_found _ found c.in_ok-found.ensures in
    let o = read_on a.s.now a.table.now a.at _ _ c.requires.1 e in
    let small : found.position < 512 = omega (arith, o.0, c.requires.2.size, means_most a.half) in
    let m = to_z w16 (of_z w16 c.mean_at.result) in
    let q : m ≡ mean_at a.half found.position =
    rw c.mean_at.ensures (to_z-of_z w16 (mean_at a.half found.position) (mean_fits a.half found.position small)) in
    mean_found a.half a.table.now b a.at found.position found.next a.count m _ e q c.read_stages.ensures
