-- Laws of the search of one leaf at a level.
-- Assumes nothing.
use Rattle.std.specs.Prelude.{ℕ, zero, suc, ◌≤◌, ◌≡◌, refl, true, List, []}
use Rattle.std.proofs.Common.{arith, lt-ltb, le-ltb}
use Rattle.std.proofs.Math.Decide.{dec_lt}
use Rattle.book.specs.Book.{tables_of}
use Rattle.book.specs.Level.{area}
use Rattle.book.specs.declared.svq1_vlc.Svq1Half.TheVariants.{Inter}
use Rattle.codebook.specs.Codebook.{vector_at}
use Rattle.leaf.specs.Leaf.{cap_at}
use Rattle.leaf.specs.LeafLaws.{rule_allowed}
use Rattle.leaf.specs.LeafNeeds.{LeafFound}
use Rattle.leaf.specs.LentNeeds.{CodeFits}
use Rattle.leaf.specs.LentNeedsLaws.{allowed-fits}
use Rattle.leaf.specs.declared.svq1_enc_leaf.LeafCode.{LeafCode}
use Rattle.leaf.specs.declared.svq1_enc_leaf.LeafTerms.{LeafTerms}

-- the leaf found may stand at its level, so its mean has an entry
pub found_fits : (codebook : List ℕ) (terms : LeafTerms) (d : ℕ) (t p : List ℕ) (code : LeafCode) (js : List ℕ) (e : ℕ) (out : List ℕ) → terms.cap ≤ 6
    → (terms.skip ≡ true → terms.half ≡ Inter) → LeafFound codebook terms d t p code js e out → CodeFits terms.half code
found_fits codebook terms d t p code js e out most opened f =
    let T = tables_of [] terms.half in
    allowed-fits T d code js (rw f.leaf (rule_allowed T (vector_at codebook terms.half d) d terms t p refl most opened))

-- a block has 8 to 256 samples
pub area_range : (d : ℕ) → d ≤ 5 → (1 ≤ area d) × (area d ≤ 256)
area_range zero h = (omega arith, omega arith)
area_range (suc zero) h = (omega arith, omega arith)
area_range (suc (suc zero)) h = (omega arith, omega arith)
area_range (suc (suc (suc zero))) h = (omega arith, omega arith)
area_range (suc (suc (suc (suc zero)))) h = (omega arith, omega arith)
area_range (suc (suc (suc (suc (suc zero))))) h = (omega arith, omega arith)
area_range (suc (suc (suc (suc (suc (suc d)))))) h = absurd (omega arith)

pub cap_small : (d cap : ℕ) → cap ≤ 6 → cap_at d cap ≤ 6
cap_small d cap h = elim (dec_lt d 4) [ yes a ↦ rw (lt-ltb d 4 a) h | no a ↦ rw (le-ltb d 4 (omega arith)) (omega arith) ]
