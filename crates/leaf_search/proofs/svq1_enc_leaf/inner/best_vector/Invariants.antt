use mathlib.Core.Path.{◌≡◌}
use Prim.Native.Nat.{◌≤◌, ◌<◌, ◌-◌}
use Rattle.leaf.specs.Leaf.{argmin}
use Rattle.leaf.specs.LeafForms.{less, vector_error}
use Rattle.leaf_search.proofs.svq1_enc_leaf.inner.best_vector.Given as goal

abbrev pub invariant-loop-j : goal.invariant-loop-j
invariant-loop-j l =
    (1 ≤ l.j) × (l.j ≤ 16) × (l.index ≡ argmin (vector_error l.t (less l.bias l.a) l.book l.base) (l.j - 1)) ×
    (l.error ≡ vector_error l.t (less l.bias l.a) l.book l.base l.index) ×
    (l.index < l.j)
