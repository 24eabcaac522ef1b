-- The cards hold of the definitions: each is computed; the two planes by way of the law of flat planes.
-- Assumes nothing.
use Rattle.std.specs.Prelude.{◌≡◌, refl, true, List, [], ◌∷◌, ℕ, ◌≤◌, leb, length, replicate}
use Rattle.std.proofs.Common.{ap, ◌∙◌, arith, le-leb}
use Rattle.std.proofs.lemmas.List.{length-replicate}
use Rattle.bits.specs.Basics.{All, sum, every, values_from}
use Rattle.book.specs.declared.svq1_vlc.Svq1Half.TheVariants.{Intra, Inter}
use Rattle.vectors.specs.Vectors.{zero_mv, median, predicted, codable}
use Rattle.mv_cache.specs.Neighbours.{Near, neighbour_at, near_of}
use Rattle.macroblock.specs.Macroblock.{Given, Motion, still, single, four, Choice, skipped, coded, half_of, reference_block, baseline, shown, vector_bits, motion_bits, choice_bits}
use Rattle.macroblock.specs.Choice.{Task, padded_source, target_of, target, single_tried, four_tried, motions_tried, planning_for, tried, fitting, weight_of, beats, best_of, chosen}
use Rattle.macroblock.specs.Slices.{near, laid}
use Rattle.tree.specs.TreeBits.{Node, plan_tree, node_bits, emit, tree_bits, tree_shown}
use Rattle.listing_job.specs.Job.{Job, each_up_to, job_read, job_in}
use Rattle.listing_text.specs.Listing.{no_slices, plane_showing, output_bytes, total_line, macroblock_line, lines_to, text_with, text_into, plane_text}
use Rattle.visible_error.specs.Visible.{square_at, visible_error, visible_total}
use Rattle.starred_cards.specs.Cards.{flat_given, flat_task, plane, first_line, first_text, largest_line, largest_text, Holds, cards}
use Rattle.starred_cards.specs.Flat.{flat, flat_planning, mean_leaf, one_leaf, tree_is, leaf_at_32, leaf_at_largest}
use Rattle.bits.specs.Bits.{msb, bits_of, cleared, after_bits, put_bits}
use Rattle.bits.specs.BitsLaws.{length_bits_of}
use Rattle.code_tables.specs.Codes.{codes_of}
use Rattle.house.specs.House.{log_under, signed_rank, rank, house_from, house_book}
use Rattle.codebook.specs.Codebook.{raster_of}
use Rattle.leaf.specs.Leaf.{sse, seeded, staged, samples, leaf_shown}
use Rattle.leaf.specs.LeafBits.{stage_bits, leaf_bits}
use Rattle.codebook.specs.Mean.{rounded, clamp_mean, mean_of, saturate}
use Rattle.compensation.specs.Compensation.{sample_at, half_sample, moved_block}
use Rattle.mv_cache.specs.Grid.{owner, place_in, part, put_from, put_part}
use Rattle.motion.specs.Search.{in_window, allowed, error_of, consider, full_at, row_to, rows_to, full_search, around_to, search_best, searched, search_ok, search_refusal, search_answer}
use Rattle.compensation.specs.Error.{sad}
use Rattle.plane.specs.Plane.{written, write_plane}
use Rattle.plane.specs.Run.{run, after}
use Rattle.text.specs.Text.{is_number, value_from, number_up_to, pieces, all_ended, lines_of, fields_of, digits_before, decimal, joined, line_of}
use Rattle.tree.specs.Blocks.{gather, paint, place_under, place, block_of, paint_at, rebuilt}
use Rattle.tree.specs.Plan.{shown_at}

-- the plane of the first two cards, at any lambda
abbrev job : ℕ → Job
job lambda = record { width = 16; height = 16; lambda = lambda; radius = 8; allow_four = true; margin = 0 }

abbrev given : ℕ → Given
given lambda = flat_given (job lambda) 0

abbrev task : ℕ → Task
task lambda = flat_task (job lambda) 100

-- no macroblock stands before the first
abbrev around : ℕ → Near
around lambda = near (given lambda) (no_slices (given lambda)) 0

-- every search finds the zero vector
motions_are : (lambda : ℕ) → motions_tried (given lambda) (task lambda) 0 (around lambda) ≡ single zero_mv ∷ still ∷ four zero_mv zero_mv zero_mv zero_mv ∷ []
unfolding padded_source target_of part values_from single_tried four_tried motions_tried near_of neighbour_at predicted median searched search_best full_search rows_to row_to around_to consider allowed codable in_window full_at error_of sad moved_block half_sample sample_at gather
motions_are lambda = refl

target_is : (lambda : ℕ) → target (given lambda) (task lambda) 0 ≡ flat 256 100
unfolding padded_source target_of part values_from
target_is lambda = refl

abbrev Over0 : ℕ → Motion → Type 0
Over0 lambda m = baseline (given lambda) 0 m ≡ flat 256 0

baselines_are : (lambda : ℕ) → All (Over0 lambda) (single zero_mv ∷ still ∷ four zero_mv zero_mv zero_mv zero_mv ∷ [])
unfolding baseline moved_block values_from half_sample sample_at
baselines_are lambda = (refl, (refl, (refl, tt)))

planning_is : (lambda : ℕ) (m : Motion) → Over0 lambda m → planning_for (given lambda) (task lambda) 0 m ≡ flat_planning (half_of m) lambda
unfolding planning_for
planning_is lambda m e = rw (target_is lambda, e)

-- what is tried: SKIP, and three times the one leaf
abbrev tree : List Node
tree = one_leaf mean_leaf 62

abbrev candidates : List Choice
candidates = skipped ∷ coded (single zero_mv) tree ∷ coded still tree ∷ coded (four zero_mv zero_mv zero_mv zero_mv) tree ∷ []

tried_are : (lambda : ℕ) → plan_tree (flat_planning Intra lambda) ≡ tree → plan_tree (flat_planning Inter lambda) ≡ tree
    → tried (given lambda) (task lambda) 0 (around lambda) ≡ candidates
unfolding tried
tried_are lambda a b =
    let over = baselines_are lambda in
    let one = ap plan_tree (planning_is lambda (single zero_mv) over.0) ∙ b in
    let two = ap plan_tree (planning_is lambda still over.1.0) ∙ a in
    let three = ap plan_tree (planning_is lambda (four zero_mv zero_mv zero_mv zero_mv) over.1.1.0) ∙ b in
    rw (motions_are lambda, one, two, three)

-- INTRA wins at lambda 32; at the largest lambda all costs are equal and SKIP has the fewest bits
chosen_at_32 : chosen (given 32) (task 32) 0 (around 32) 0 ≡ coded still tree
unfolding chosen fitting best_of beats weight_of codes_of msb house_book house_from rank signed_rank log_under vector_bits motion_bits choice_bits node_bits emit tree_bits leaf_bits stage_bits shown tree_shown rebuilt paint_at paint block_of gather place place_under shown_at leaf_shown staged samples seeded saturate baseline moved_block values_from half_sample sample_at reference_block part sse padded_source target_of near_of neighbour_at predicted median
chosen_at_32 = rw (tried_are 32 (tree_is Intra 32 (leaf_at_32 Intra)) (tree_is Inter 32 (leaf_at_32 Inter)))

abbrev largest : ℕ
largest = 18446744073709551615

chosen_at_largest : chosen (given largest) (task largest) 0 (around largest) 0 ≡ skipped
unfolding chosen fitting best_of beats weight_of codes_of msb house_book house_from rank signed_rank log_under vector_bits motion_bits choice_bits node_bits emit tree_bits leaf_bits stage_bits shown tree_shown rebuilt paint_at paint block_of gather place place_under shown_at leaf_shown staged samples seeded saturate baseline moved_block values_from half_sample sample_at reference_block part sse padded_source target_of near_of neighbour_at predicted median
chosen_at_largest = rw (tried_are largest (tree_is Intra largest (leaf_at_largest Intra)) (tree_is Inter largest (leaf_at_largest Inter)))

-- what they weigh
weight_at_32 : weight_of (given 32) (task 32) 0 (around 32) (coded still tree) ≡ record { bits = 22; err = 0 }
unfolding weight_of codes_of msb house_book house_from rank signed_rank log_under vector_bits motion_bits choice_bits node_bits emit tree_bits leaf_bits stage_bits shown tree_shown rebuilt paint_at paint block_of gather place place_under shown_at leaf_shown staged samples seeded saturate baseline moved_block values_from half_sample sample_at reference_block part sse padded_source target_of
weight_at_32 = refl

weight_at_largest : weight_of (given largest) (task largest) 0 (around largest) skipped ≡ record { bits = 1; err = 2560000 }
unfolding weight_of codes_of msb house_book house_from rank signed_rank log_under vector_bits motion_bits choice_bits node_bits emit tree_bits leaf_bits stage_bits shown tree_shown rebuilt paint_at paint block_of gather place place_under shown_at leaf_shown staged samples seeded saturate baseline moved_block values_from half_sample sample_at reference_block part sse padded_source target_of
weight_at_largest = refl

-- what they leave of the reconstruction, and its visible error
recon_at_32 : (laid (given 32) 0 (coded still tree) (no_slices (given 32))).recon ≡ flat 256 100
unfolding laid put_part put_from owner place_in shown tree_shown rebuilt paint_at paint block_of gather place place_under shown_at leaf_shown staged samples seeded saturate baseline moved_block values_from half_sample sample_at reference_block part
recon_at_32 = refl

recon_at_largest : (laid (given largest) 0 skipped (no_slices (given largest))).recon ≡ flat 256 0
unfolding laid put_part put_from owner place_in shown tree_shown rebuilt paint_at paint block_of gather place place_under shown_at leaf_shown staged samples seeded saturate baseline moved_block values_from half_sample sample_at reference_block part
recon_at_largest = refl

errors_at_32 : (visible_error (plane_showing (given 32) (task 32) (flat 256 100)) 0 ≡ 0) × (visible_total (plane_showing (given 32) (task 32) (flat 256 100)) ≡ 0)
unfolding visible_error visible_total square_at sum
errors_at_32 = (refl, refl)

errors_at_largest : (visible_error (plane_showing (given largest) (task largest) (flat 256 0)) 0 ≡ 2560000) × (visible_total (plane_showing (given largest) (task largest) (flat 256 0)) ≡ 2560000)
unfolding visible_error visible_total square_at sum
errors_at_largest = (refl, refl)

-- what is listed for a plane of one macroblock: of the output only its length matters
text_at_32 : (out : List ℕ) → leb 22 (length out) ≡ true → text_into (given 32) (task 32) out ≡ first_text
unfolding text_into text_with lines_to macroblock_line total_line line_of joined decimal digits_before write_plane run after written
text_at_32 out h = rw (chosen_at_32, weight_at_32, h, recon_at_32, errors_at_32.0, errors_at_32.1)

text_at_largest : (out : List ℕ) → leb 1 (length out) ≡ true → text_into (given largest) (task largest) out ≡ largest_text
unfolding text_into text_with lines_to macroblock_line total_line line_of joined decimal digits_before write_plane run after written
text_at_largest out h = rw (chosen_at_largest, weight_at_largest, h, recon_at_largest, errors_at_largest.0, errors_at_largest.1)

-- the program's output is long enough
room : (n : ℕ) → n ≤ 524288 → leb n (length (bits_of (replicate output_bytes 0))) ≡ true
room n h =
    le-leb n (length (bits_of (replicate output_bytes 0)))
    (omega (arith, length_bits_of (replicate output_bytes 0), length-replicate {A = ℕ} output_bytes 0))

first_card : Holds (plane first_line (job 32) 100 0 (0x21 ∷ 0x01 ∷ 0x94 ∷ []) first_text)
unfolding job_in job_read each_up_to lines_of fields_of pieces all_ended number_up_to is_number value_from every write_plane run after written weight_of put_bits after_bits cleared bits_of plane_text codes_of msb house_book house_from rank signed_rank log_under vector_bits motion_bits choice_bits node_bits emit tree_bits leaf_bits stage_bits shown tree_shown rebuilt paint_at paint block_of gather place place_under shown_at leaf_shown staged samples seeded saturate baseline moved_block values_from half_sample sample_at reference_block part sse padded_source target_of
first_card = (refl, rw chosen_at_32, text_at_32 (bits_of (replicate output_bytes 0)) (room 22 (omega arith)))

largest_card : Holds (plane largest_line (job largest) 100 0 (0x80 ∷ []) largest_text)
unfolding job_in job_read each_up_to lines_of fields_of pieces all_ended number_up_to is_number value_from every write_plane run after written weight_of put_bits after_bits cleared bits_of plane_text codes_of msb house_book house_from rank signed_rank log_under vector_bits motion_bits choice_bits node_bits emit tree_bits leaf_bits stage_bits shown tree_shown rebuilt paint_at paint block_of gather place place_under shown_at leaf_shown staged samples seeded saturate baseline moved_block values_from half_sample sample_at reference_block part sse padded_source target_of
largest_card = (refl, rw chosen_at_largest, text_at_largest (bits_of (replicate output_bytes 0)) (room 1 (omega arith)))

-- THE CARDS
pub starred : All Holds cards
unfolding mean_of rounded clamp_mean predicted median raster_of values_from search_answer search_refusal search_ok searched search_best full_search rows_to row_to around_to consider allowed codable in_window full_at error_of sad moved_block half_sample sample_at
starred = (first_card, (largest_card, (refl, (refl, (refl, (refl, (refl, (refl, (refl, (refl, (refl, (refl, (refl, tt)))))))))))))
