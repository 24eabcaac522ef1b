-- Skip, or a coded leaf with zeros behind its stages. Assumes nothing.
use mir.ValLaws.{to_z-of_z}
use mir.Syntax.{w16}
use Rattle.call_entries.specs.NodeLaws.{coded_node}
use Rattle.call_entries.proofs.inner.leaf_node.Goals as goal

pub returns-in-Skip : goal.returns-in-Skip
returns-in-Skip c = rw c.in-Skip.is

pub returns-in-Coded : goal.returns-in-Coded
returns-in-Coded c =
    let a = c.args in
    let m = to_z-of_z w16 c.in-Coded.mean (record { sfits = c.in-Coded.known_told-1-own.given.0.1 }) in
    rw (m, c.in-Coded.is) (coded_node c.in-Coded.mean c.in-Coded.count _ a.stages _ c.front_of-front.ensures.1 c.most_six-count.ensures.0 c.front_of-front.ensures.0)
