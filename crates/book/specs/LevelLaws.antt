-- Laws of levels and of their parts of a stage family.
use Rattle.std.specs.Prelude.{ℕ, zero, suc, ◌+◌, ◌-◌, ◌*◌, ◌<◌, ◌≤◌, ◌≡◌, Option, Some, None, is_some, List, [], length, take, drop}
use Rattle.std.proofs.Common.{arith, sym, ap, ◌∙◌, true≢false, length-drop, length-take-le, eq-eqb, ne_eqb}
use Rattle.book.specs.Level.{level_number}
use Rattle.book.specs.Book.{book_bytes, stage_family, stage_table}
use Rattle.book.specs.declared.svq1_vlc.Svq1Half.{Svq1Half}
use Rattle.book.specs.declared.svq1_vlc.Svq1Half.TheVariants.{Intra, Inter}
use Rattle.book.specs.Calls.{parts_level, lent_family, family_bytes, family_part}
use Rattle.book.specs.declared.svq1_blocktree.Svq1Level.{Svq1Level}
use Rattle.book.specs.declared.svq1_blocktree.Svq1Level.TheVariants.{L0, L1, L2, L3, L4, L5}

-- a level is one of six
pub level_most : (l : Svq1Level) → level_number l ≤ 5
level_most L0 = omega arith
level_most L1 = omega arith
level_most L2 = omega arith
level_most L3 = omega arith
level_most L4 = omega arith
level_most L5 = omega arith

-- a block's parts are one level down, and a block with none is of the lowest level
number_in : Option ℕ → ℕ
number_in (Some n) = n
number_in None = 0

pub part_below : (d e : ℕ) → Some e ≡ parts_level d → (0 < d) × (e ≡ d - 1)
unfolding number_in
part_below zero e h = absurd (true≢false (ap is_some h))
part_below (suc d) e h =
    let k : d ≡ suc d - 1 = omega arith in
    (omega arith, ap number_in h ∙ k)

pub no_part_below : (d : ℕ) → None ≡ parts_level d → d ≤ 0
no_part_below zero h = omega arith
no_part_below (suc d) h = absurd (true≢false (sym (ap is_some h)))

-- the bytes of a level's part of a family
pub family_part_is : (d : ℕ) (family : List ℕ) → length family ≡ family_bytes → take (24 * d + 24 - 24 * d) (drop (24 * d) family) ≡ family_part d family
unfolding family_part
family_part_is d family h =
    let k : 24 * d + 24 - 24 * d ≡ 24 = omega arith in
    let s : 24 * d ≡ 3 * (8 * d) = omega arith in
    rw (eq-eqb (length family) family_bytes h, k, s)

pub family_part_whole : (d : ℕ) (family : List ℕ) → length family ≡ family_bytes → family_part d family ≡ stage_table d family
unfolding family_part
family_part_whole d family h = rw (eq-eqb (length family) family_bytes h)

-- lent the two families of a book, the half's table of the level
pub lent_stage : (book : List ℕ) → length book ≡ book_bytes → (h : Svq1Half) (d : ℕ)
    → family_part d (lent_family h (stage_family Intra book) (stage_family Inter book)) ≡ stage_table d (stage_family h book)
lent_stage book n Intra d = family_part_whole d (stage_family Intra book) (length-take-le family_bytes (drop 2508 book) (rw length-drop (omega arith)))
lent_stage book n Inter d = family_part_whole d (stage_family Inter book) (length-take-le family_bytes (drop 2652 book) (rw length-drop (omega arith)))

-- nothing of a slice of another size
pub family_part_none : (d : ℕ) (family : List ℕ) → (length family ≡ family_bytes → ⊥) → [] ≡ family_part d family
unfolding family_part
family_part_none d family h = rw (ne_eqb (length family) family_bytes h)
