-- The limit of the code as the definitions' limit, and the room that it leaves a macroblock (document 02, §5).
use Rattle.std.specs.Prelude.{◌≡◌, true, List, ℕ, ◌+◌, ◌-◌, ◌*◌, ◌≤◌, ◌<◌, length, Option, Some, None}
use Rattle.book.specs.Book.{book_refusal}
use Rattle.macroblock.specs.declared.svq1_enc_inter.Svq1MbMode.TheVariants.{Skip}
use Rattle.macroblock.specs.Macroblock.{Given, mode_bits}
use Rattle.macroblock.specs.Limit.{Limit, unlimited, within, can_skip_rest}
use Rattle.macroblock.specs.MacroblockNeeds.{by_book}
use Rattle.macroblock_choice.specs.ChosenNeeds.{ample_room}
use Rattle.macroblock_enc.specs.declared.svq1_enc_inter.inner.limit.BitLimit.{BitLimit}

-- the limit that the code passes on
abbrev pub limit_of : Option BitLimit → Limit
limit_of None = unlimited
limit_of (Some l) = within (record { allowance = l.allowance; behind = l.behind })

-- the macroblocks of the planes behind, as far as the limit counts them
abbrev pub behind_of : Option BitLimit → ℕ
behind_of None = 0
behind_of (Some l) = l.behind

-- what is left behind the bits spent and a SKIP code for each macroblock to come, so many in this plane; with no limit, more than any macroblock takes
abbrev pub room_under : Option BitLimit → ℕ → ℕ → ℕ → ℕ
room_under None spent skip left = ample_room
room_under (Some l) spent skip left = l.allowance - (spent + skip * (left + l.behind))

-- a SKIP code is left for each macroblock to come, of which there are not too many to count
abbrev pub Reserved : Option BitLimit → ℕ → ℕ → ℕ → Type 0
Reserved None spent skip left = Unit
Reserved (Some l) spent skip left = (spent + skip * (left + l.behind) ≤ l.allowance) × (left + l.behind ≤ 8589934592)

-- the same for macroblock k of a plane with this book and so many macroblocks
pub record Reserving (book : List ℕ) (limit : Option BitLimit) (cols rows k spent : ℕ) : Type 0 where
  pub passes : book_refusal book ≡ 0
  pub number : k < rows * cols
  pub small : rows * cols ≤ 4294967296
  pub stays : Reserved limit spent (length (mode_bits (by_book book) Skip)) (rows * cols - k - 1)

-- before macroblock k a SKIP code is left for it and each to come, of which there are not too many to count
pub record Spends (g : Given) (limit : Option BitLimit) (k spent : ℕ) : Type 0 where
  pub skips_rest : can_skip_rest (limit_of limit) g k spent ≡ true
  pub few : behind_of limit ≤ 4294967296
