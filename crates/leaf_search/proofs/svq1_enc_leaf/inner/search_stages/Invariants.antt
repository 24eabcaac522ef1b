use Rattle.leaf_search.specs.StagesLaws.{StagesGoing}
use Rattle.leaf_search.proofs.svq1_enc_leaf.inner.search_stages.Given as goal

abbrev pub invariant-loop-count : goal.invariant-loop-count
invariant-loop-count l =
    StagesGoing (record { target = l.t; sums = l.initial.a; codebook = l.book; base = l.base; bias = l.bias; terms = l.terms }) l.a l.index l.count l.at l.plus l.current
