-- The leaf's fields, as they are. Assumes nothing.
use mir.ValLaws.{to_z-of_z}
use mir.Syntax.{w16}
use borrow.Author.Rules.{rules}
use Rattle.call_entries.proofs.leaf_part.found_part.Goals as goal

pub returns : goal.returns
returns c =
    let l = c.leaf_node-leaf in
    let m = to_z-of_z w16 l.result.mean (record { sfits = c.struct_told-1.given.0.1 }) in
    (rw (m, l.ensures), search rules)
