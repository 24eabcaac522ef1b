-- What counting bits answers, and the differences of four vectors (document 01, "The book", "Reading").
use Rattle.std.specs.Prelude.{◌≡◌, List, [], ◌∷◌, ℕ, ◌≤◌, length}
use Rattle.vectors.specs.declared.svq1_motion_predictor.Svq1Mv.{Svq1Mv}
use Rattle.vectors.specs.Vectors.{difference_mv}
use Rattle.mv_cache.specs.Neighbours.{Near, for_first, for_second, for_third, for_fourth}

-- r is how many bits there are, at most so many
pub record Counted (bits : List ℕ) (most r : ℕ) : Type 0 where
  pub is : r ≡ length bits
  pub few : r ≤ most

-- each vector's from its predictor, which goes by those before it
abbrev pub four_differences : Near → Svq1Mv → Svq1Mv → Svq1Mv → Svq1Mv → List Svq1Mv
four_differences n a b c d =
    difference_mv (for_first n) a ∷ difference_mv (for_second n a) b ∷ difference_mv (for_third n a b) c ∷ difference_mv (for_fourth a b c) d ∷ []
