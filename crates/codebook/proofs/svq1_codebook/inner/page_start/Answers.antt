-- By the half, then the level: the half's enum fact and the number met in the match fix the page. Intra has its page for L3 at 0.
use mathlib.Core.Path.{◌≡◌, sym}
use Rattle.codebook.specs.Codebook.{page_offset}
use Rattle.codebook.specs.CodebookCallsLaws.{last_intra, behind_inter}
use borrow.Author.Rules.{rules}
use Rattle.codebook.proofs.svq1_codebook.inner.page_start.Goals as goal

pub returns-in-0 : goal.returns-in-0
unfolding page_offset
returns-in-0 c =
    let e : c.args.d ≡ 0 = search rules in
    rw (c.in-Intra.is, e)

pub returns-in-1 : goal.returns-in-1
unfolding page_offset
returns-in-1 c =
    let e : c.args.d ≡ 1 = search rules in
    rw (c.in-Intra.is, e)

pub returns-in-2 : goal.returns-in-2
unfolding page_offset
returns-in-2 c =
    let e : c.args.d ≡ 2 = search rules in
    rw (c.in-Intra.is, e)

pub returns-in_default : goal.returns-in_default
returns-in_default c = rw c.in-Intra.is (sym (last_intra c.args.d (search rules)))

pub returns-in-0-d : goal.returns-in-0-d
unfolding page_offset
returns-in-0-d c =
    let e : c.args.d ≡ 0 = search rules in
    rw (c.in-Inter.is, e)

pub returns-in-1-d : goal.returns-in-1-d
unfolding page_offset
returns-in-1-d c =
    let e : c.args.d ≡ 1 = search rules in
    rw (c.in-Inter.is, e)

pub returns-in-2-d : goal.returns-in-2-d
unfolding page_offset
returns-in-2-d c =
    let e : c.args.d ≡ 2 = search rules in
    rw (c.in-Inter.is, e)

pub returns-in-3 : goal.returns-in-3
unfolding page_offset
returns-in-3 c =
    let e : c.args.d ≡ 3 = search rules in
    rw (c.in-Inter.is, e)

pub returns-in_default-d : goal.returns-in_default-d
returns-in_default-d c = rw c.in-Inter.is (sym (behind_inter c.args.d (search rules)))
