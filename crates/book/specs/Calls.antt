-- What this crate's calls answer and leave: a level's parts, a part of a lent stage family (document 01, `svq1_blocktree.rs`, "The shape of some places", refusal 5).
use Rattle.std.specs.Prelude.{ℕ, zero, suc, List, [], eqb, length, Option, Some, None}
use Rattle.bits.specs.Basics.{pick}
use Rattle.book.specs.Level.{level_number}
use Rattle.book.specs.Book.{stage_table}
use Rattle.book.specs.declared.svq1_blocktree.Svq1Level.{Svq1Level}
use Rattle.book.specs.declared.svq1_vlc.Svq1Half.{Svq1Half}
use Rattle.book.specs.declared.svq1_vlc.Svq1Half.TheVariants.{Intra, Inter}

-- the number of the level of a block's two parts; none for a block that is not split
abbrev pub parts_of : Option Svq1Level → Option ℕ
parts_of (Some l) = Some (level_number l)
parts_of None = None

-- a block's two parts are one level down; L0 has none
abbrev pub parts_level : ℕ → Option ℕ
parts_level zero = None
parts_level (suc d) = Some d

-- of two lent stage families the one that the half names
abbrev pub lent_family : Svq1Half → List ℕ → List ℕ → List ℕ
lent_family Intra intra inter = intra
lent_family Inter intra inter = inter

-- bytes of a stage family: 48 entries
abbrev pub family_bytes : ℕ
family_bytes = 144

-- level d's eight entries of a lent family; nothing of one that has another size
unfoldable pub family_part : ℕ → List ℕ → List ℕ
family_part d family = pick (eqb (length family) family_bytes) (stage_table d family) []
