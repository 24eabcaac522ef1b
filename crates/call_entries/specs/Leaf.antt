-- What the leaf search answers, field by field (document 01, `svq1_enc_leaf.rs`, refusals 5 to 8).
use Rattle.std.specs.Prelude.{ℕ, ◌-◌, List, ◌++◌, pos, length, replicate}
use Rattle.bits.specs.Refusals.{Answer, done, refused}
use Rattle.leaf.specs.Leaf.{Leaf}
use Rattle.leaf.specs.LeafCall.{LeafChosen}
use Rattle.leaf.specs.LentNeeds.{six_of}
use Rattle.call_entries.specs.Node.{kind_of, leaf_mean, count_of}
use Rattle.call_entries.specs.declared.leaf_part.LeafPart.{LeafPart}

-- a block's samples, and zeros up to the 256 of a macroblock
abbrev pub filled : List ℕ → List ℕ
filled s = s ++ replicate (256 - length s) 0

-- a leaf with its bits, its error and 256 samples
abbrev pub leaf_part_of : Leaf → ℕ → ℕ → List ℕ → LeafPart
leaf_part_of l bits error samples = record {
  bits = bits;
  error = error;
  mean = leaf_mean l;
  refused = 0;
  kind = kind_of l;
  count = count_of l;
  stages = six_of l;
  samples = samples;
}

-- a refusal's number, everything else 0
abbrev pub nothing : ℕ → LeafPart
nothing n = record {
  bits = 0;
  error = 0;
  mean = pos 0;
  refused = n;
  kind = 0;
  count = 0;
  stages = replicate 6 0;
  samples = replicate 256 0;
}

-- the answer of the call
abbrev pub leaf_part : Answer LeafChosen → LeafPart
leaf_part (done c) = leaf_part_of c.leaf c.bits c.error (filled c.shown)
leaf_part (refused n) = nothing n
