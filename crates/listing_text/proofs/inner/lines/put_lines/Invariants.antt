use Prim.Native.Nat.{◌*◌}
use mathlib.Core.Path.{◌≡◌}
use lib.ListN.{length}
use Rattle.visible_error.specs.VisibleNeeds.{shown_by}
use Rattle.listing_text.specs.LineForms.{ListedPut, lines_from}
use Rattle.listing_text.proofs.inner.lines.put_lines.Given as goal

abbrev pub invariant-loop-k : goal.invariant-loop-k
invariant-loop-k l =
    (length l.text ≡ length l.initial.text) × ListedPut (94 * l.k) l.initial.text 0 (lines_from (shown_by l.canvas l.source l.recon) l.stated l.k) l.at l.text
