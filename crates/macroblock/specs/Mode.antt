-- The modes and their positions in the mode table: 0 INTER, 1 INTER_4MV, 2 INTRA, 3 SKIP (document 01, "The book").
use Rattle.std.specs.Prelude.{ℕ}
use Rattle.macroblock.specs.declared.svq1_enc_inter.Svq1MbMode.{Svq1MbMode}
use Rattle.macroblock.specs.declared.svq1_enc_inter.Svq1MbMode.TheVariants.{Inter, Inter4Mv, Intra, Skip}

abbrev pub mode_position : Svq1MbMode → ℕ
mode_position Inter = 0
mode_position Inter4Mv = 1
mode_position Intra = 2
mode_position Skip = 3
