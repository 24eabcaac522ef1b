-- Laws of the choice in a room: it has what every mode tried has, and it is the choice under the limit that the room stands for.
-- Assumes nothing.
use Rattle.std.specs.Prelude.{◌≡◌, true, List, map, ℕ, suc, ◌+◌}
use Rattle.std.proofs.Math.Path.{ap}
use Rattle.std.proofs.Common.{arith}
use Rattle.bits.specs.Basics.{All, passing}
use Rattle.mv_cache.specs.Neighbours.{Near}
use Rattle.macroblock.specs.Macroblock.{Given, Choice, skipped}
use Rattle.macroblock.specs.Limit.{Limit, unlimited, within, can_skip_rest}
use Rattle.macroblock.specs.Choice.{Task, tried, fitting_in, fitting, motions_tried, weight_of, best_of, best_from, chosen}
use Rattle.macroblock.specs.ChoiceLaws.{FitsLimit, best_one}
use Rattle.bits.specs.ListLaws.{all_passing, passing_all, passing-same}
use Rattle.macroblock.specs.MacroblockLaws.{Fine, Good, tried_good}
use Rattle.macroblock_choice.specs.CandidateNeeds.{coded_for, in_room, chosen_in}
use Rattle.macroblock_choice.specs.ChosenNeeds.{Allows}

module _ (g : Given) (t : Task) (ok : Fine g t) (k : ℕ) (n : Near) (room : ℕ) where
  abbrev others : List Choice
  others = map (coded_for g t k) (motions_tried g t k n)

  pub room_one : (P : Choice → Type 0) → All P (tried g t k n) → P (chosen_in g t k n room)
  unfolding chosen_in tried
  room_one P h = best_one g t P k n skipped (passing (in_room g t k n room) others) h.0 (all_passing P (in_room g t k n room) others h.1)

  module _ (spent : ℕ) where
    short : (l : Limit) → Allows l g k spent room → (c : Choice) → Good g t ok k n c → in_room g t k n room c ≡ can_skip_rest l g (suc k) (spent + (weight_of g t k n c).bits)
    unfolding weight_of
    short l a c h = a _ (omega (arith, h.short))

    within_limit : (l : Limit) → Allows l g k spent room → can_skip_rest l g (suc k) (spent + (weight_of g t k n skipped).bits) ≡ true
        → best_of g t k n skipped (passing (in_room g t k n room) others) ≡ best_from g t k n (fitting_in l g t k n spent)
    unfolding tried passing
    within_limit unlimited a e = ap (best_of g t k n skipped) (passing_all (in_room g t k n room) (Good g t ok k n) others (short unlimited a) (tried_good g t ok k n).1)
    within_limit (within b) a e =
        rw e (ap (best_of g t k n skipped) (passing-same (in_room g t k n room) _ (Good g t ok k n) others (short (within b) a) (tried_good g t ok k n).1))

    pub room_limit : Allows t.limit g k spent room → FitsLimit g t k n spent skipped → chosen_in g t k n room ≡ chosen g t k n spent
    unfolding chosen_in chosen fitting
    room_limit a e = within_limit t.limit a e
