-- A cost by its numbers (document 01, `svq1_enc_tree.rs`, over the definitions of tree/Plan).
use Rattle.std.specs.Prelude.{ℕ}
use Rattle.tree.specs.Plan.{cost}

abbrev pub cost_of : ℕ → ℕ → ℕ → ℕ
cost_of lambda bits err = cost lambda (record { bits = bits; err = err })
