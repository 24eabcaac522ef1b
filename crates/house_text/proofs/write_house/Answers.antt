-- `write_house` meets its contract: both tables are the house's, which pass.
use Rattle.std.proofs.Common.{refl}
use Rattle.book.specs.Book.{book_bytes, codebook_bytes}
use Rattle.house.specs.House.{house_book, house_codebook}
use Rattle.house.specs.FillLaws.{fill_whole}
use Rattle.house_text.specs.HouseTextLaws.{house_written}
use Rattle.house_text.proofs.write_house.Goals as goal

pub returns : goal.returns
returns c =
    house_written _ _ _ _ _ (fill_whole book_bytes house_book _ _ _ refl c.in_ok-work_out_house_book.ensures.filled)
    (fill_whole codebook_bytes house_codebook _ _ _ refl c.in_ok-fill_house_codebook.ensures.filled) c.write_tables.ensures
