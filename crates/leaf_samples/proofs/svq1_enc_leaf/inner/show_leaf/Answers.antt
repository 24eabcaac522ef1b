-- A leaf by its code. Assumes nothing.
use Rattle.leaf_samples.specs.ShowNeedsLaws.{shown_skip, shown_coded}
use mir.Syntax.{w16}
use mir.ValLaws.{to_z-of_z}
use borrow.Author.Rules.{rules}
use Rattle.leaf_samples.proofs.svq1_enc_leaf.inner.show_leaf.Goals as goal

pub raised_mean-m-requires : goal.raised_mean-m-requires
raised_mean-m-requires c =
    let s = c in
    let e = to_z-of_z w16 c.in-Coded.mean (record { sfits = c.in-Coded.known_told-1-own.given.0.1 }) in
    simp e (rw c.in-Coded.is at s.requires.1).0

pub show_coded-requires : goal.show_coded-requires
show_coded-requires c =
    let s = c in
    (c.raised_mean-m.ensures.1, s.requires.0, rw c.stage_count-n.ensures (rw c.in-Coded.is at s.requires.1).1)

pub returns-in-Skip : goal.returns-in-Skip
returns-in-Skip c =
    shown_skip _ _ _ _ _ c.in-Skip.is c.copy_from_slice.ensures.after

pub returns-in-Coded : goal.returns-in-Coded
returns-in-Coded c =
    let e = to_z-of_z w16 c.in-Coded.mean (record { sfits = c.in-Coded.known_told-1-own.given.0.1 }) in
    shown_coded _ _ _ _ _ _ _ _ _ c.in-Coded.is (simp e at c.raised_mean-m.ensures.0) (search rules) c.stage_count-n.ensures c.show_coded.ensures
