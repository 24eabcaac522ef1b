-- What the listing program reads of its files: of each one byte more than the longest that its length does not refuse (document 01, "The book", "Refused for what came in", the listing program; document 02, §4).
use Rattle.std.specs.Prelude.{ℕ, ◌+◌, ◌*◌, take}
use Rattle.book.specs.Book.{codebook_bytes}
use Rattle.listing_job.specs.Job.{most_width, most_height}
use Rattle.listing_text.specs.Listing.{Files}

-- `176,144,18446744073709551615,255,1,4294967295` and its line feed
abbrev pub longest_job : ℕ
longest_job = 46

-- the longest book file that 5 does not refuse: every entry once, its length and its code of five digits. One that is accepted is shorter (`longest_book_file`)
abbrev pub longest_book : ℕ
longest_book = 23698

abbrev pub cut : Files → Files
cut f = record {
  book = take (longest_book + 1) f.book;
  codebook = take (codebook_bytes + 1) f.codebook;
  source = take (most_width * most_height + 1) f.source;
  reference = take (most_width * most_height + 1) f.reference;
  job = take (longest_job + 1) f.job;
}
