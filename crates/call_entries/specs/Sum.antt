-- What summing one vector answers, field by field (document 02, §6, refusals 1, 3, 4, 9 and 23).
use Rattle.bits.specs.Refusals.{Answer, done, refused}
use Rattle.compensation.specs.declared.svq1_enc_inter.inner.VectorSum.{VectorSum}
use Rattle.call_entries.specs.declared.sum_part.SumPart.{SumPart}

-- the sum and the rows taken; or a refusal's number, everything else 0
abbrev pub sum_part : Answer VectorSum → SumPart
sum_part (done s) = record { sum = s.sum; rows = s.rows; refused = 0 }
sum_part (refused n) = record { sum = 0; rows = 0; refused = n }
