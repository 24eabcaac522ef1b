-- `each_prefix_free_in` meets its contract. `before` entries are passed, those of the tables from this turn's on are left, and the whole test is what is left of it.
use Prim.Native.Nat.{ℕ, ◌+◌, ◌-◌, ◌*◌, ◌/◌, ◌≤◌}
use mathlib.Core.Path.{◌≡◌, refl, sym, ap, ◌∙◌}
use mathlib.Core.Bool.{◌&&◌}
use mathlib.Core.List.{List, ◌++◌}
use native.Mathlib.Omega.{arith}
use lib.ListN.{length, take, drop, get_or, length-drop}
use lib.Seq.{length-take-le}
use Rattle.bits.specs.BasicsLaws.{front_size}
use Rattle.code_tables.specs.Codes.{codes_of, prefix_free}
use Rattle.code_tables.specs.CodesLaws.{good_take, good_drop}
use Rattle.book.specs.Book.{code_table_sizes, each_prefix_free}
use Rattle.book.specs.BookLaws.{sizes_sum, total-step, each_step, each_end, size_le}
use Rattle.book_check.proofs.each_prefix_free_in.Goals as goal
use Rattle.book_check.proofs.each_prefix_free_in.Goals.{In-loop-size, After-prefix_free}

-- the tables from here on have the entries that are left
room : (c : In-loop-size) →
    let l = c.loop-size in
    l.before + (get_or code_table_sizes l.size-index 0 + sizes_sum (drop (l.size-index + 1) code_table_sizes)) ≡ 932
room c =
    ap (λ (n : ℕ). c.loop-size.before + n) (sym (total-step code_table_sizes c.loop-size.size-index (omega arith))) ∙ c.loop-size.invariant.0

-- there is room for the ranges of the table's codes
ranges : (c : In-loop-size) →
    let l = c.loop-size in
    let n = get_or code_table_sizes l.size-index 0 in
    (n ≤ length l.lows) × (n ≤ length l.highs) × (n ≤ 512)
ranges c =
    let l = c.loop-size in
    let n : get_or code_table_sizes l.size-index 0 ≤ 512 = size_le l.size-index (omega arith) in
    (omega (arith, l.invariant.2, c.requires.2), omega (arith, l.invariant.3, c.requires.3), n)

-- a turn's step of the definition
step : (c : After-prefix_free) →
    let b = c.args.book.now in
    let l = c.loop-size in
    each_prefix_free code_table_sizes b
    ≡ (c.prefix_free.result && each_prefix_free (drop (l.size-index + 1) code_table_sizes) (drop (3 * (l.before + get_or code_table_sizes l.size-index 0)) b))
step c =
    let b : List ℕ = c.args.book.now in
    let l = c.loop-size in
    let p : ℕ = l.before in
    let n : ℕ = get_or code_table_sizes l.size-index 0 in
    let k : 3 * p + 3 * n - 3 * p ≡ 3 * n = omega arith in
    let e : c.prefix_free.result ≡ prefix_free (codes_of (take (3 * n) (drop (3 * p) b))) = rw k at c.prefix_free.ensures in
    l.invariant.1 ∙ each_step code_table_sizes b l.size-index p (omega arith) ∙ rw (← e)

-- the lent slices keep their lengths
sizes : (c : After-prefix_free) →
    let n = get_or code_table_sizes c.loop-size.size-index 0 in
    let a = c.args in
    n ≤ length c.loop-size.lows → n ≤ length c.loop-size.highs
    → (length (c.prefix_free.new.lows ++ drop n c.loop-size.lows) ≡ length a.lows.now)
    × (length (c.prefix_free.new.highs ++ drop n c.loop-size.highs) ≡ length a.highs.now)
sizes c l h =
    let n : ℕ = get_or code_table_sizes c.loop-size.size-index 0 in (
      front_size c.prefix_free.new.lows c.loop-size.lows n (c.prefix_free.auto.lows ∙ length-take-le n c.loop-size.lows l) l ∙ c.loop-size.invariant.2,
      front_size c.prefix_free.new.highs c.loop-size.highs n (c.prefix_free.auto.highs ∙ length-take-le n c.loop-size.highs h) h ∙ c.loop-size.invariant.3,
    )

pub loop-size-init : goal.loop-size-init
unfolding sizes_sum
loop-size-init c = (refl, refl, refl, refl)

pub overflow_mul-from : goal.overflow_mul-from
overflow_mul-from c = omega arith

pub overflow_mul-to : goal.overflow_mul-to
overflow_mul-to c = omega (arith, room c)

pub overflow_add-to : goal.overflow_add-to
overflow_add-to c = omega (arith, room c)

pub slice_bounds-prefix_free-count : goal.slice_bounds-prefix_free-count
slice_bounds-prefix_free-count c = omega (arith, room c)

pub slice_bounds-prefix_free-start : goal.slice_bounds-prefix_free-start
slice_bounds-prefix_free-start c = omega (arith, room c)

pub slice_bounds-prefix_free-end : goal.slice_bounds-prefix_free-end
slice_bounds-prefix_free-end c = omega (arith, room c)

pub slice_bounds-prefix_free-end-in-loop-size : goal.slice_bounds-prefix_free-end-in-loop-size
slice_bounds-prefix_free-end-in-loop-size c = (ranges (goal.at.slice_bounds-prefix_free-end-in-loop-size c).In-loop-size).0

pub slice_bounds-prefix_free-end-in-loop-size-2 : goal.slice_bounds-prefix_free-end-in-loop-size-2
slice_bounds-prefix_free-end-in-loop-size-2 c = let q = c in sym (length-take-le _ q.loop-size.lows (ranges (goal.at.slice_bounds-prefix_free-end-in-loop-size-2 c).In-loop-size).0)

pub slice_bounds-prefix_free-end-in-loop-size-3 : goal.slice_bounds-prefix_free-end-in-loop-size-3
slice_bounds-prefix_free-end-in-loop-size-3 c = (ranges (goal.at.slice_bounds-prefix_free-end-in-loop-size-3 c).In-loop-size).1

pub slice_bounds-prefix_free-end-in-loop-size-4 : goal.slice_bounds-prefix_free-end-in-loop-size-4
slice_bounds-prefix_free-end-in-loop-size-4 c = let q = c in sym (length-take-le _ q.loop-size.highs (ranges (goal.at.slice_bounds-prefix_free-end-in-loop-size-4 c).In-loop-size).1)

pub prefix_free-requires : goal.prefix_free-requires
prefix_free-requires c =
    let b : List ℕ = c.args.book.now in
    let n : ℕ = get_or code_table_sizes c.loop-size.size-index 0 in
    let p : ℕ = c.loop-size.before in
    let k : 3 * p + 3 * n - 3 * p ≡ 3 * n = omega arith in
    let r = ranges (goal.at.prefix_free-requires c).In-loop-size in
    let whole : 3 * n ≤ length (drop (3 * p) b) = omega (arith, room (goal.at.prefix_free-requires c).In-loop-size, length-drop (3 * p) b, c.requires.0) in
    let t : length (take (3 * n) (drop (3 * p) b)) / 3 ≡ n = omega (arith, length-take-le (3 * n) (drop (3 * p) b) whole) in
    rw (k, t, length-take-le n c.loop-size.lows r.0, length-take-le n c.loop-size.highs r.1)
    (good_take (drop (3 * p) b) n (good_drop b p c.requires.1), refl, refl, omega (arith, r.2))

pub overflow_add-before : goal.overflow_add-before
overflow_add-before c = omega (arith, room (goal.at.overflow_add-before c).In-loop-size)

pub loop-size-preserved : goal.loop-size-preserved
loop-size-preserved c =
    let s = goal.at.loop-size-preserved c in
    let r = ranges s.In-loop-size in
    let same = sizes s.After-prefix_free r.0 r.1 in
    (omega (arith, room s.In-loop-size), step s.After-prefix_free ∙ rw c.if-not-prefix_free.false, same.0, same.1)

pub shape_of-lows-then-not-prefix_free : goal.shape_of-lows-then-not-prefix_free
shape_of-lows-then-not-prefix_free c =
    let s = goal.at.shape_of-lows-then-not-prefix_free c in
    let r = ranges s.In-loop-size in
    (sizes s.After-prefix_free r.0 r.1).0

pub shape_of-highs-then-not-prefix_free : goal.shape_of-highs-then-not-prefix_free
shape_of-highs-then-not-prefix_free c =
    let s = goal.at.shape_of-highs-then-not-prefix_free c in
    let r = ranges s.In-loop-size in
    (sizes s.After-prefix_free r.0 r.1).1

pub returns-then-not-prefix_free : goal.returns-then-not-prefix_free
returns-then-not-prefix_free c = sym (step (goal.at.returns-then-not-prefix_free c).After-prefix_free ∙ rw c.if-not-prefix_free.true)

pub shape_of-lows : goal.shape_of-lows
shape_of-lows c = c.loop-size.invariant.2

pub shape_of-highs : goal.shape_of-highs
shape_of-highs c = c.loop-size.invariant.3

pub returns : goal.returns
returns c = sym (c.loop-size.invariant.1 ∙ each_end code_table_sizes (drop (3 * c.loop-size.before) c.args.book.now) c.loop-size.size-index (omega arith))
