-- What is read, and laid where it is not refused. Assumes nothing.
use native.Mathlib.Omega.{arith}
use borrow.Author.Rules.{rules}
use Rattle.bits.specs.Basics.{Bytes}
use Rattle.macroblock.specs.Slices.{Slices, slices_by}
use Rattle.macroblock_dec.specs.ReadCallLaws.{among_asks, call_refused, lay_ready, call_laid}
use Rattle.macroblock_dec.proofs.svq1_plane.inner.reading.read_macroblock.Goals as goal

pub read_among-requires : goal.read_among-requires
read_among-requires c =
    let a = c.args in
    let u : Slices = slices_by a.recon.now a.vx.now a.vy.now in
    among_asks a.canvas a.reference.now a.book.now a.codebook.now a.raised.now a.s.now a.at a.k u c.requires

pub returns-in_err-read : goal.returns-in_err-read
returns-in_err-read c =
    let a = c.args in
    let u : Slices = slices_by a.recon.now a.vx.now a.vy.now in
    let e = call_refused a.canvas a.reference.now a.book.now a.codebook.now a.raised.now a.s.now a.at a.k u c.requires _ c.in_err-read.ensures in
    search (rules, e)

pub lay_choice-requires : goal.lay_choice-requires
lay_choice-requires c =
    let a = c.args in
    let u : Slices = slices_by a.recon.now a.vx.now a.vy.now in
    let both = lay_ready a.canvas a.reference.now a.book.now a.codebook.now a.raised.now a.s.now a.at a.k u c.requires c.in_ok-read.read c.in_ok-read.ensures in
    record { showing_if = both.0; laying = both.1 }

pub returns : goal.returns
returns c =
    let a = c.args in
    let u : Slices = slices_by a.recon.now a.vx.now a.vy.now in
    let bytes : Bytes a.codebook.now = λ i. omega (arith, c.type_inv.codebook i) in
    call_laid a.canvas a.reference.now a.book.now a.codebook.now a.raised.now a.s.now a.at a.k u c.requires c.in_ok-read.read c.in_ok-read.ensures _ bytes c.lay_choice.ensures
