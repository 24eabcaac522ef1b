-- Rows of a block in a plane, as the code reads and writes them (over the definitions of tree/Blocks).
use Rattle.std.specs.Prelude.{◌≡◌, List, ℕ, zero, suc, ◌+◌, ◌*◌, ◌≤◌, take, drop}
use Rattle.std.proofs.lemmas.List.Edits.{sets}
use Rattle.tree.specs.RowsLaws.{RowsInside}

-- h rows of w samples that lie in a plane of n samples and stride s from `at` on, and a run of that many samples; all small
pub record Rows (s h w at n xs : ℕ) : Type 0 where
  pub inside : RowsInside s h w at n
  pub run : xs ≡ h * w
  pub small : n ≤ 4096
  pub begins : at ≤ 4096
  pub apart : s ≤ 4096
  pub wide : w ≤ 4096
  pub long : xs ≤ 4096

-- h rows of w samples of m, from p on and b apart, put into `out` from q on and a apart
unfoldable pub moved : ℕ → ℕ → ℕ → ℕ → ℕ → ℕ → List ℕ → List ℕ → List ℕ
moved a b zero w q p m out = out
moved a b (suc h) w q p m out = moved a b h w (q + a) (p + b) m (sets out q (take w (drop p m)))

-- such rows lie in n samples and in k samples
pub record Moves (a b h w q p n k : ℕ) : Type 0 where
  pub to : RowsInside a h w q n
  pub from : RowsInside b h w p k
  pub stride : a ≤ 4096
  pub step : b ≤ 4096
