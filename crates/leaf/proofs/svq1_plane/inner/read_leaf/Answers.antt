-- A leaf: its stage code, and what stands behind it. Assumes nothing.
use mathlib.Core.Path.{◌∙◌, sym}
use native.Mathlib.Omega.{arith}
use borrow.Author.Rules.{rules}
use lib.ListN.{drop}
use Rattle.bits.specs.Bits.{bits_of}
use Rattle.code_tables.specs.CallsLaws.{answer_found}
use Rattle.leaf.specs.LentNeeds.{lent_rest}
use Rattle.leaf.specs.LentReadLaws.{read_on, read_by, take_found, take_refused, refused_read}
use Rattle.leaf.proofs.svq1_plane.inner.read_leaf.Goals as goal

pub returns-in_err-found : goal.returns-in_err-found
returns-in_err-found c =
    let a = c.args in
    let from = drop a.at (bits_of a.s.now) in
    let rest = lent_rest a.half a.means.now a.level in
    let e = read_by a.half a.stage.now a.means.now a.level from ∙ take_refused a.stage.now (bits_of a.s.now) a.at _ rest c.in_err-found.ensures in
    search (rules, refused_read, sym e)

pub read_rest-requires : goal.read_rest-requires
read_rest-requires c =
    let a = c.args in
    let found = c.in_ok-found.found in
    let o = read_on a.s.now a.stage.now a.at _ _ c.requires.0 (answer_found _ found c.in_ok-found.ensures) in
    (omega (arith, o.0, c.requires.1.stage_size), o.1, c.requires.1.means)

pub returns : goal.returns
returns c =
    let a = c.args in
    let b = bits_of a.s.now in
    let found = c.in_ok-found.found in
    let e = answer_found _ found c.in_ok-found.ensures in
    rw (read_by a.half a.stage.now a.means.now a.level (drop a.at b), take_found a.stage.now b a.at found.position found.next (lent_rest a.half a.means.now a.level) e)
    c.read_rest.ensures
