-- The invariant holds stages, sums, error and place together; `taken` carries it over one stage, `stopped` ends it at the definition.
use native.Mathlib.Omega.{arith}
use mathlib.Core.Path.{◌≡◌, refl, sym, ◌∙◌}
use Prim.Native.Nat.{◌-◌}
use lib.ListN.{length}
use Rattle.leaf_samples.specs.RaisedLaws.{part_room}
use Rattle.leaf_search.specs.StagesLaws.{all_taken, stopped, taken}
use borrow.Author.Rules.{rules}
use Rattle.leaf_search.proofs.svq1_enc_leaf.inner.search_stages.Goals as goal

pub loop-count-init : goal.loop-count-init
loop-count-init c =
    let s = c in
    let z : s.args.terms.cap - 0 ≡ s.args.terms.cap = omega arith in
    record {
      within = search rules;
      same = s.requires.t_len_bound.1;
      six = refl;
      place = omega arith;
      biased = omega arith;
      low = λ i. omega (arith, s.requires.t_len_bound.2 i);
      indices = rw z;
      sums = rw z;
      found = s.requires.cap_bound.2;
      behind = refl;
    }

pub best_vector-best-requires : goal.best_vector-best-requires
best_vector-best-requires c =
    let s = c in
    let l = c.loop-count in
    record {
      few = s.requires.t_len_bound.0;
      same = l.invariant.same;
      low = λ i. omega (arith, l.invariant.low i);
      small = search rules;
      room = omega (arith, part_room (length s.args.t.now) l.count s.args.terms.cap (search rules));
    }

pub shape_of-a-then-not-stays : goal.shape_of-a-then-not-stays
shape_of-a-then-not-stays c = omega arith

pub returns-then-not-stays : goal.returns-then-not-stays
returns-then-not-stays c =
    let b = c.best_vector-best in
    stopped c.loop-count.invariant b.result.index b.result.error (search rules) b.ensures.index_value b.ensures.error_value (sym c.stays.ensures ∙ c.if-not-stays.true)

pub add_stage-requires : goal.add_stage-requires
add_stage-requires c =
    let s = c in
    let l = c.loop-count in
    (omega (arith, part_room (length s.args.t.now) l.count s.args.terms.cap (search rules)), search rules, (λ i. omega (arith, l.invariant.low i)))

pub overflow_add-at : goal.overflow_add-at
overflow_add-at c =
    let s = c in
    let l = c.loop-count in
    omega (arith, part_room (length s.args.t.now) l.count s.args.terms.cap (search rules))

pub loop-count-preserved : goal.loop-count-preserved
loop-count-preserved c =
    let s = c in
    let b = c.best_vector-best in
    let d = c.add_stage in
    taken c.loop-count.invariant b.result.index b.result.error (search rules) b.ensures.index_value b.ensures.error_value
    d.new.a s.requires.cap_bound.0 (sym c.stays.ensures ∙ c.if-not-stays.false) d.ensures.a_after d.auto.a d.ensures.by_index

pub shape_of-a : goal.shape_of-a
shape_of-a c = omega arith

pub returns : goal.returns
returns c =
    let e : c.loop-count.count ≡ c.args.terms.cap = omega (arith, c.loop-count.invariant.within) in
    rw e at (all_taken c.loop-count.invariant (search rules))
