-- What the writer leaves is put as its text.
use Rattle.macroblock.specs.Macroblock.{Given}
use Rattle.macroblock.specs.Choice.{Task}
use Rattle.macroblock.specs.Slices.{slices_by, Lent, lent_by}
use Rattle.macroblock_choice.specs.ChosenNeeds.{task_by}
use Rattle.macroblock.specs.MacroblockNeeds.{given_by}
use Rattle.listing_text.specs.ListedLaws.{plane_ended, plane_text_lem}
use Rattle.listing_text.proofs.listing.list_written.Goals as goal
use Rattle.listing_text.proofs.listing.list_written.Goals.{Start}

-- the plane, what is asked of it, and what is lent
abbrev plane : Start → Given
plane e = let a = e.args in given_by a.canvas a.reference.now a.book.now a.codebook.now

abbrev task : Start → Task
task e = task_by e.args.source.now e.args.settings

abbrev lent : Start → Lent
lent e = let a = e.args in lent_by a.out.now (slices_by a.recon.now a.vx.now a.vy.now)

pub put_plane-requires : goal.put_plane-requires
put_plane-requires c =
    let e = c in
    let w = c.encode_inter_plane_stated-end in
    (plane_ended (plane (goal.at.put_plane-requires c).Start) (task (goal.at.put_plane-requires c).Start) e.requires.0 (lent (goal.at.put_plane-requires c).Start) e.args.stated.now e.requires.1 w.result _ _ w.ensures w.auto.recon w.auto.stated, e.requires.2)

pub returns : goal.returns
returns c =
    let e = c in
    let w = c.encode_inter_plane_stated-end in
    rw (← plane_text_lem (plane (goal.at.returns c).Start) (task (goal.at.returns c).Start) e.requires.0 (lent (goal.at.returns c).Start) e.args.stated.now e.requires.1 w.result _ _ w.ensures) c.put_plane.ensures
