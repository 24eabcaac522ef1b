-- The house book's room: 1,740 bits a macroblock, a little more than half of what any book may need.
-- Assumes nothing.
use Rattle.std.specs.Prelude.{◌≡◌, refl}
use Rattle.house.specs.House.{log_under, signed_rank, rank, house_from, house_book}
use Rattle.plane_room.specs.Room.{longest, book_bits}

pub house_bits : book_bits house_book ≡ 1740
unfolding log_under signed_rank rank house_from house_book longest book_bits
house_bits = refl
