-- Which modes are tried for a macroblock, which of them fit, and which is written (document 01, `svq1_enc_inter.rs`, "Behind demand 3"; document 02, §4 and §5).
use Rattle.std.specs.Prelude.{Option, Some, None, ℕ, suc, ◌+◌, ◌-◌, ◌*◌, ◌/◌, ◌%◌, min, Bool, true, false, ◌&&◌, ◌||◌, List, [], ◌∷◌, ◌++◌, map, eqb, ltb, length, get_or}
use Rattle.bits.specs.Basics.{pick, passing, values_from}
use Rattle.canvas.specs.Canvas.{blocks_along, padded16}
use Rattle.book.specs.Book.{tables_of}
use Rattle.book.specs.declared.svq1_vlc.Svq1Half.{Svq1Half}
use Rattle.book.specs.declared.svq1_vlc.Svq1Half.TheVariants.{Intra, Inter}
use Rattle.codebook.specs.Codebook.{vector_at, stages_per_page}
use Rattle.leaf.specs.Leaf.{sse}
use Rattle.leaf.specs.declared.svq1_enc_leaf.LeafTerms.{LeafTerms}
use Rattle.vectors.specs.declared.svq1_motion_predictor.Svq1Mv.{Svq1Mv}
use Rattle.mv_cache.specs.Neighbours.{Near, for_one, for_first, for_second, for_third, for_fourth}
use Rattle.mv_cache.specs.Grid.{part}
use Rattle.motion.specs.Search.{Search, searched}
use Rattle.tree.specs.Blocks.{gather}
use Rattle.tree.specs.Plan.{Weight, Planning, cost}
use Rattle.tree.specs.TreeBits.{plan_tree}
use Rattle.macroblock.specs.Macroblock.{Given, Motion, still, single, four, Choice, skipped, coded, half_of, left_of, top_of, baseline, shown, choice_bits}
use Rattle.macroblock.specs.declared.svq1_enc_inter.Settings.{Settings}
use Rattle.macroblock.specs.Limit.{Limit, unlimited, within, can_skip_rest}

-- what the writer is given besides: the source, the settings (`lambda`, `radius`, whether `four` vectors are tried, and the `margin` of its leaves' stages), and the limit on its bits
pub record Task : Type 0 where
  pub source : List ℕ
  pub settings : Settings
  pub limit : Limit

-- the same with no limit
abbrev pub without_limit : Task → Task
without_limit t = record { source = t.source; settings = t.settings; limit = unlimited }

-- a source of this width and height, its last column and row repeated to whole macroblocks (`block`). Its stride and its rows are the width and the height
-- rounded up to 16. A canvas of any other stride or rows is refused by 3, so in a plane that is accepted source and reference have the same places
unfoldable pub padded_source : ℕ → ℕ → List ℕ → List ℕ
padded_source width height source =
    values_from (λ p. get_or source (min (p / padded16 width) (height - 1) * width + min (p % padded16 width) (width - 1)) 0) (padded16 width * padded16 height) 0

-- its macroblock k
unfoldable pub target_of : ℕ → ℕ → List ℕ → ℕ → List ℕ
target_of width height source k = part 16 (blocks_along width) k (padded_source width height source)

abbrev pub target : Given → Task → ℕ → List ℕ
target g t k = target_of g.width g.height t.source k

-- ---- vectors
-- the search for macroblock k, and for its 8×8 block j in raster order
abbrev pub search_for : Given → Task → ℕ → Svq1Mv → Search
search_for g t k p = record {
  reference = g.reference;
  width = g.width;
  height = g.height;
  target = target g t k;
  side = 16;
  x = left_of g k;
  y = top_of g k;
  predictor = p;
  radius = t.settings.radius;
}

abbrev pub block_search_for : Given → Task → ℕ → ℕ → Svq1Mv → Search
block_search_for g t k j p = record {
  reference = g.reference;
  width = g.width;
  height = g.height;
  target = gather 16 8 8 (128 * (j / 2) + 8 * (j % 2)) (target g t k);
  side = 8;
  x = left_of g k + 8 * (j % 2);
  y = top_of g k + 8 * (j / 2);
  predictor = p;
  radius = t.settings.radius;
}

abbrev pub if_found : Option Svq1Mv → (Svq1Mv → List Motion) → List Motion
if_found None f = []
if_found (Some v) f = f v

-- one vector, where its search finds it
unfoldable pub single_tried : Given → Task → ℕ → Near → List Motion
single_tried g t k n = if_found (searched (search_for g t k (for_one n))) (λ v. single v ∷ [])

-- four, where their four searches find them, each predicted from those before it
unfoldable pub four_tried : Given → Task → ℕ → Near → List Motion
four_tried g t k n =
    if_found (searched (block_search_for g t k 0 (for_first n))) λ a.
    if_found (searched (block_search_for g t k 1 (for_second n a))) λ b.
    if_found (searched (block_search_for g t k 2 (for_third n a b))) λ c.
    if_found (searched (block_search_for g t k 3 (for_fourth a b c))) λ d.
    four a b c d ∷ []

-- INTER where its search finds, INTRA, and with the flag set INTER_4MV where its searches find
unfoldable pub motions_tried : Given → Task → ℕ → Near → List Motion
motions_tried g t k n = single_tried g t k n ++ (still ∷ pick t.settings.four (four_tried g t k n) [])

-- ---- plans
abbrev pub skips_leaves : Svq1Half → Bool
skips_leaves Intra = false
skips_leaves Inter = true

-- every stage of a level open
abbrev pub open_terms : Svq1Half → Bool → ℕ → LeafTerms
open_terms h allow_skip margin = record { half = h; cap = stages_per_page; skip = allow_skip; margin = margin }

-- in a plane a leaf has every stage of its level open and, for the inter half, skip too; the margin is the same for both halves (document 02, §4)
abbrev pub plane_terms : ℕ → Svq1Half → LeafTerms
plane_terms margin h = open_terms h (skips_leaves h) margin

-- the plan of macroblock k for a motion, over its baseline
unfoldable pub planning_for : Given → Task → ℕ → Motion → Planning
planning_for g t k m = record {
  tables = tables_of g.book (half_of m);
  vectors = vector_at g.codebook (half_of m);
  terms = plane_terms t.settings.margin (half_of m);
  lambda = t.settings.lambda;
  level = 5;
  target = target g t k;
  predictor = baseline g k m;
}

-- ---- candidates
-- SKIP, INTER, INTRA, INTER_4MV, as far as they are tried
unfoldable pub tried : Given → Task → ℕ → Near → List Choice
tried g t k n = skipped ∷ map (λ m. coded m (plan_tree (planning_for g t k m))) (motions_tried g t k n)

-- a mode's bits are all that it writes, its error the squared distance of what it shows from the padded source
unfoldable pub weight_of : Given → Task → ℕ → Near → Choice → Weight
weight_of g t k n c = record { bits = length (choice_bits g n c); err = sse (target g t k) (shown g k c) }

-- ---- what fits and what is written
-- the modes tried that fit: after their bits the macroblocks behind can still be skipped. Without a limit all of them
abbrev pub fitting_in : Limit → Given → Task → ℕ → Near → ℕ → List Choice
fitting_in unlimited g t k n spent = tried g t k n
fitting_in (within b) g t k n spent = passing (λ c. can_skip_rest (within b) g (suc k) (spent + (weight_of g t k n c).bits)) (tried g t k n)

unfoldable pub fitting : Given → Task → ℕ → Near → ℕ → List Choice
fitting g t k n spent = fitting_in t.limit g t k n spent

-- d is written and not c: less cost, or the same with fewer bits
unfoldable pub beats : Given → Task → ℕ → Near → Choice → Choice → Bool
beats g t k n d c =
    let a = weight_of g t k n d in
    let b = weight_of g t k n c in
    ltb (cost t.settings.lambda a) (cost t.settings.lambda b) || (eqb (cost t.settings.lambda a) (cost t.settings.lambda b) && ltb a.bits b.bits)

-- the first that no later one beats
unfoldable pub best_of : Given → Task → ℕ → Near → Choice → List Choice → Choice
best_of g t k n c [] = c
best_of g t k n c (d ∷ ds) = best_of g t k n (pick (beats g t k n d c) d c) ds

-- the best of a list; SKIP of an empty one, which an allowance that passes 31 never leaves
abbrev pub best_from : Given → Task → ℕ → Near → List Choice → Choice
best_from g t k n [] = skipped
best_from g t k n (c ∷ cs) = best_of g t k n c cs

-- what is written for macroblock k, with so many bits spent before it: the best of those that fit
unfoldable pub chosen : Given → Task → ℕ → Near → ℕ → Choice
chosen g t k n spent = best_from g t k n (fitting g t k n spent)
