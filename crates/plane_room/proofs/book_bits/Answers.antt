-- The six tables one after the other.
use native.Mathlib.Omega.{arith}
use Rattle.book.specs.BookLaws.{good_book}
use Rattle.plane_room.specs.Room.{book_bits}
use Rattle.plane_room.specs.BitsLaws.{longest_by}
use Rattle.plane_room.proofs.book_bits.Goals as goal

pub mode_table-requires : goal.mode_table-requires
mode_table-requires c = (good_book _ c.requires).size

pub vector_table-requires : goal.vector_table-requires
vector_table-requires c = (good_book _ c.requires).size

pub mean_table-requires : goal.mean_table-requires
mean_table-requires c = (good_book _ c.requires).size

pub mean_table-requires-2 : goal.mean_table-requires-2
mean_table-requires-2 c = (good_book _ c.requires).size

pub stage_family-requires : goal.stage_family-requires
stage_family-requires c = (good_book _ c.requires).size

pub stage_family-requires-2 : goal.stage_family-requires-2
stage_family-requires-2 c = (good_book _ c.requires).size

pub most_bits-requires : goal.most_bits-requires
most_bits-requires c =
    let u = c in
    let s = u in
    let told = longest_by s.args.book.now s.requires in
    let mode = told 0 4 _ _ u.mode_table.ensures u.longest_code-mode.ensures in
    let vector = told 4 64 _ _ u.vector_table.ensures u.longest_code-vector.ensures in
    let intra-mean = told 68 256 _ _ u.mean_table.ensures u.longest_code-intra_mean.ensures in
    let inter-mean = told 324 512 _ _ u.mean_table-2.ensures u.longest_code-inter_mean.ensures in
    let intra-stage = told 836 48 _ _ u.stage_family.ensures u.longest_code-intra_stage.ensures in
    let inter-stage = told 884 48 _ _ u.stage_family-2.ensures u.longest_code-inter_stage.ensures in
    let mean = c.max-mean.ensures in
    let stage = c.max-stage.ensures in
    (mode.1, vector.1, omega (arith, stage, intra-stage.1, inter-stage.1), omega (arith, mean, intra-mean.1, inter-mean.1))

pub returns : goal.returns
unfolding book_bits
returns c =
    let u = c in
    let s = u in
    let told = longest_by s.args.book.now s.requires in
    let mode = told 0 4 _ _ u.mode_table.ensures u.longest_code-mode.ensures in
    let vector = told 4 64 _ _ u.vector_table.ensures u.longest_code-vector.ensures in
    let intra-mean = told 68 256 _ _ u.mean_table.ensures u.longest_code-intra_mean.ensures in
    let inter-mean = told 324 512 _ _ u.mean_table-2.ensures u.longest_code-inter_mean.ensures in
    let intra-stage = told 836 48 _ _ u.stage_family.ensures u.longest_code-intra_stage.ensures in
    let inter-stage = told 884 48 _ _ u.stage_family-2.ensures u.longest_code-inter_stage.ensures in
    let mean = c.max-mean.ensures in
    let stage = c.max-stage.ensures in
    let whole = c.most_bits.ensures in
    omega (arith, whole, stage, mean, mode.0, vector.0, intra-mean.0, inter-mean.0, intra-stage.0, inter-stage.0)
