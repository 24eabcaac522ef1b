-- `house::house_book` meets its contract. The test of the house book, computed over the constant.
use mathlib.Core.Path.{refl}
use Rattle.bits.specs.Bits.{msb}
use Rattle.code_tables.specs.Codes.{codes_of, good_table}
use Rattle.house.specs.House.{rank, signed_rank, log_under}
use Rattle.house.specs.TrieForms.{free, enter, all_free}
use Rattle.house.specs.HouseLaws.{ruled, each_free, house_test, by_test}
use Rattle.house.proofs.house_book.Goals as goal

pub returns : goal.returns
unfolding house_test ruled each_free good_table rank signed_rank log_under all_free free enter codes_of msb
returns c = by_test _ refl
