-- The planes in turn; where they pass, 31 can be judged. Assumes nothing.
use Rattle.picture.specs.RefusalsLaws.{judged, told}
use Rattle.picture.proofs.inner.picture_refusals.Goals as goal

pub allowance_refusal-short-requires : goal.allowance_refusal-short-requires
allowance_refusal-short-requires c =
    let a = c.args in
    judged a.p0 a.p1 a.p2 a.reference0.now a.reference1.now a.reference2.now a.book.now a.codebook.now a.bytes a.start c.next_refusal-first.result c.next_refusal-second.result c.first_of-two.result c.next_refusal-third.result c.first_of-planes.result c.next_refusal-first.ensures c.next_refusal-second.ensures c.first_of-two.ensures c.next_refusal-third.ensures c.first_of-planes.ensures

pub returns : goal.returns
returns c =
    let a = c.args in
    told a.p0 a.p1 a.p2 a.reference0.now a.reference1.now a.reference2.now a.book.now a.codebook.now a.bytes a.start c.next_refusal-first.result c.next_refusal-second.result c.first_of-two.result c.next_refusal-third.result c.first_of-planes.result c.next_refusal-first.ensures c.next_refusal-second.ensures c.first_of-two.ensures c.next_refusal-third.ensures c.first_of-planes.ensures a.allowance c.allowance_refusal-short.result _ c.allowance_refusal-short.ensures c.first_of.ensures
