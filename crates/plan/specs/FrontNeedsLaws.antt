-- Laws of what a tree shows at the front of a slice.
-- Assumes nothing.
use Rattle.std.specs.Prelude.{◌≡◌, List, ◌++◌, ℕ, ◌-◌, ◌≤◌, length, take, drop}
use Rattle.std.proofs.Common.{ap, ◌∙◌, arith, take_at, drop_at}
use Rattle.book.specs.Level.{width, area}
use Rattle.book.specs.declared.svq1_vlc.Svq1Half.{Svq1Half}
use Rattle.tree.specs.Blocks.{first}
use Rattle.tree.specs.GeometryLaws.{area_most, at_first, in_first}
use Rattle.tree_samples.specs.RebuildNeeds.{Rebuilding, rebuilt_by}
use Rattle.tree_samples.specs.RebuildNeedsLaws.{cut-length}
use Rattle.tree_samples.specs.SubtreeFormsLaws.{width_most}
use Rattle.tree.specs.TreeBits.{Node}
use Rattle.plan.specs.FrontNeeds.{FrontReady, FrontShown}

pub front_lies : (h : Svq1Half) (t : List Node) (predictor raised d out s i n : ℕ) → FrontReady h t predictor raised d out → s ≡ width d → i ≡ first d → n ≡ area d
    → Rebuilding h t predictor raised s d i n
front_lies h t predictor raised d out s i n f es ei en =
    let at = at_first d f.five in
    let few = area_most d f.five in
    let lies = in_first d f.five in
    rw (es, ei, en, f.whole) (record {
      lies = record {
        deep = at.0;
        number = at.1;
        stride = omega (arith, width_most d f.five);
        predictor = lies;
        predictor_small = omega arith;
        shown = lies;
        shown_small = omega arith;
      };
      copy = f.copy;
      sound = f.sound;
    })

pub front_shown : (h : Svq1Half) (t : List Node) (predictor raised : List ℕ) (d : ℕ) (out new : List ℕ) (n s i : ℕ) → length out ≡ 256 → d ≤ 5 → n ≡ area d → s ≡ width d → i ≡ first d
    → length new ≡ length (take (n - 0) (drop 0 out)) → new ≡ rebuilt_by raised h s predictor t d i (take (n - 0) (drop 0 out))
    → FrontShown h t predictor raised d out (new ++ drop (n - 0) out)
front_shown h t predictor raised d out new n s i room five en es ei size e =
    let few = area_most d five in
    let same : n - 0 ≡ n = omega arith in
    let long : length new ≡ area d = size ∙ cut-length out n (omega (arith, en)) ∙ en in
    record {
      front = take_at new (drop (n - 0) out) (area d) long ∙ e ∙ rw (same, en, es, ei);
      behind = drop_at new (drop (n - 0) out) (area d) long ∙ ap (λ (k : ℕ). drop k out) (same ∙ en);
    }
