-- One macroblock, read from the front of a bit list (document 01, "Reading", refusals 10, 11, 24).
use Rattle.std.specs.Prelude.{ℕ, zero, suc, List}
use Rattle.code_tables.specs.Codes.{Got, got, then, take_code}
use Rattle.book.specs.Book.{tables_of}
use Rattle.vectors.specs.declared.svq1_motion_predictor.Svq1Mv.{Svq1Mv}
use Rattle.vectors.specs.Vectors.{final_mv, difference_at}
use Rattle.mv_cache.specs.Neighbours.{Near, for_one, for_first, for_second, for_third, for_fourth}
use Rattle.tree.specs.TreeBits.{read_tree}
use Rattle.macroblock.specs.Macroblock.{Given, Motion, still, single, four, Choice, skipped, coded, half_of, mode_codes, vector_codes}

-- a difference: the codes of its components, x before y
unfoldable pub read_difference : Given → List ℕ → Got Svq1Mv
read_difference g bits =
    then (take_code (vector_codes g) bits) λ dx r.
    then (take_code (vector_codes g) r) λ dy q.
    got (record { x = difference_at dx; y = difference_at dy }) q

-- a vector: its difference, added to the predictor and clipped
unfoldable pub read_vector : Given → Svq1Mv → List ℕ → Got Svq1Mv
read_vector g p bits = then (read_difference g bits) λ d r. got (final_mv p d.x d.y) r

-- the tree behind a motion
unfoldable pub read_coded : Given → Motion → List ℕ → Got Choice
read_coded g m bits = then (read_tree (tables_of g.book (half_of m)) 5 bits) λ t r. got (coded m t) r

-- what stands behind the mode at a position: 0 INTER, 1 INTER_4MV, 2 INTRA, 3 SKIP
unfoldable pub read_behind : Given → Near → ℕ → List ℕ → Got Choice
read_behind g n zero bits = then (read_vector g (for_one n) bits) λ v r. read_coded g (single v) r
read_behind g n (suc zero) bits =
    then (read_vector g (for_first n) bits) λ a r1.
    then (read_vector g (for_second n a) r1) λ b r2.
    then (read_vector g (for_third n a b) r2) λ c r3.
    then (read_vector g (for_fourth a b c) r3) λ d r4. read_coded g (four a b c d) r4
read_behind g n (suc (suc zero)) bits = read_coded g still bits
read_behind g n (suc (suc (suc k))) bits = got skipped bits

unfoldable pub read_macroblock : Given → Near → List ℕ → Got Choice
read_macroblock g n bits = then (take_code (mode_codes g) bits) (read_behind g n)
