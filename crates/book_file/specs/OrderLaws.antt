-- Laws of lines in a book's order: each entry has one, and the book that they hold says what they do. Assumes nothing.
use Rattle.std.specs.Prelude.{ℕ, zero, suc, ◌+◌, ◌*◌, ◌/◌, ◌%◌, ◌^◌, ◌≤◌, ◌<◌, min, ◌≡◌, refl, Bool, true, false, ◌&&◌, List, [], ◌∷◌, ◌++◌, eqb, leb, ltb, length, drop, get_or}
use Rattle.std.proofs.Common.{sym, ◌∙◌, append_assoc, add-one, div-add-mod', arith, length-append, drop_of_length-le, drop-cons, get_or-append-add, eqb-true, eq-eqb, ne_eqb, leb-true, ltb-true, ltb-false}
use Rattle.std.proofs.lemmas.Bool.{eqb-false, lt-leb}
use Rattle.bits.specs.Basics.{pick, All, Bytes, or_else, unless, values_from}
use Rattle.bits.specs.BasicsLaws.{or_none, unless-none, both_true}
use Rattle.code_tables.specs.Codes.{good_entry, good_table}
use Rattle.book.specs.Book.{book_entries, code_table_sizes, each_prefix_free, codes_refusal}
use Rattle.book_file.specs.BookFile.{Line, mentions, once_each, in_order, book_of}
use Rattle.book_file.specs.FileText.{line_for}
use Rattle.book_file.specs.HeldLaws.{held_of, once_at}

-- ---- each entry once
-- of lines that speak of each entry once
pub one_line_lem : (ls : List Line) → once_each book_entries 0 ls ≡ true → (k : ℕ) → k < book_entries → mentions k ls ≡ 1
one_line_lem ls once k h = let z : 0 + k ≡ k = omega arith in rw z at (once_at book_entries 0 k ls once h)

once_from : (n e : ℕ) (ls : List Line) → ((k : ℕ) → e ≤ k → k < e + n → mentions k ls ≡ 1) → once_each n e ls ≡ true
unfolding once_each
once_from zero e ls f = refl
once_from (suc n) e ls f = rw (eq-eqb (mentions e ls) 1 (f e (omega arith) (omega arith)), once_from n (suc e) ls (λ k i j. f k (omega arith) (omega arith)))

-- a line in order, and those behind it
order_split : (e : ℕ) (l : Line) (ls : List Line) → in_order e (l ∷ ls) ≡ true → (l.entry ≡ e) × (in_order (suc e) ls ≡ true)
unfolding in_order
order_split e l ls o = let two = both_true (eqb l.entry e) (in_order (suc e) ls) o in (eqb-true l.entry e two.0, two.1)

-- no line in order speaks of an entry before or behind them
none_before : (e k : ℕ) (ls : List Line) → in_order e ls ≡ true → k < e → mentions k ls ≡ 0
unfolding mentions
none_before e k [] o h = refl
none_before e k (l ∷ ls) o h =
    let two = order_split e l ls o in
    rw (ne_eqb l.entry k (λ q. omega (arith, two.0)), none_before (suc e) k ls two.1 (omega arith))

none_behind : (e k : ℕ) (ls : List Line) → in_order e ls ≡ true → e + length ls ≤ k → mentions k ls ≡ 0
unfolding mentions
none_behind e k [] o h = refl
none_behind e k (l ∷ ls) o h =
    let two = order_split e l ls o in
    rw (ne_eqb l.entry k (λ q. omega (arith, two.0)), none_behind (suc e) k ls two.1 (omega arith))

one_each : (e k : ℕ) (ls : List Line) → in_order e ls ≡ true → e ≤ k → k < e + length ls → mentions k ls ≡ 1
unfolding mentions
one_each e k [] o h j = absurd (omega arith)
one_each e k (l ∷ ls) o h j = let two = order_split e l ls o in go (eqb l.entry k) refl two.0 two.1 (one_each (suc e) k ls two.1)
  where
    go : (b : Bool) → eqb l.entry k ≡ b → l.entry ≡ e → in_order (suc e) ls ≡ true → (suc e ≤ k → k < suc e + length ls → mentions k ls ≡ 1) → pick b 1 0 + mentions k ls ≡ 1
    go true q x rest next = rw (none_before (suc e) k ls rest (omega (arith, eqb-true l.entry k q)))
    go false q x rest next = omega (arith, next (omega (arith, eqb-false l.entry k q)) (omega arith))

-- lines in order, as many as a book's entries, speak of each once
pub order_once : (ls : List Line) → in_order 0 ls ≡ true → length ls ≡ book_entries → once_each book_entries 0 ls ≡ true
order_once ls o h = once_from book_entries 0 ls (λ k i j. one_each 0 k ls o i (omega arith))

order_within : (e n : ℕ) (ls : List Line) → in_order e ls ≡ true → All (λ l. l.entry < n) ls → e ≤ n → e + length ls ≤ n
order_within e n [] o f h = omega arith
order_within e n (l ∷ ls) o f h =
    let two = order_split e l ls o in
    omega (arith, order_within (suc e) n ls two.1 f.1 (omega (arith, two.0, f.0)))

-- where they speak of each entry once, and of no other, they are as many
pub order_length : (ls : List Line) → once_each book_entries 0 ls ≡ true → in_order 0 ls ≡ true → All (λ l. l.entry < book_entries) ls → length ls ≡ book_entries
order_length ls once o f = go (ltb (length ls) book_entries) refl
  where
    go : (b : Bool) → ltb (length ls) book_entries ≡ b → length ls ≡ book_entries
    go true q =
        let short = ltb-true (length ls) book_entries q in
        absurd (omega (arith, one_line_lem ls once (length ls) short, none_behind 0 (length ls) ls o (omega arith)))
    go false q = omega (arith, ltb-false (length ls) book_entries q, order_within 0 book_entries ls o f (omega arith))

-- ---- the book of lines
pub book_length_lem : (ls : List Line) → length (book_of ls) ≡ 3 * length ls
unfolding book_of
book_length_lem [] = refl
book_length_lem (l ∷ ls) = omega (arith, book_length_lem ls)

-- behind the bytes of the entries before e, lines in order are what their book says
order_says : (e : ℕ) (ls : List Line) (before : List ℕ) → in_order e ls ≡ true → length before ≡ 3 * e → ls ≡ values_from (line_for (before ++ book_of ls)) (length ls) e
unfolding values_from book_of
order_says e [] before o h = refl
order_says e (l ∷ ls) before o h =
    let two = order_split e l ls o in
    let three : List ℕ = l.value / 256 ∷ l.value % 256 ∷ l.long ∷ [] in
    let longer : length (before ++ three) ≡ 3 * suc e = omega (arith, length-append before three) in
    let one : (before ++ three) ++ book_of ls ≡ before ++ book_of (l ∷ ls) = append_assoc before three (book_of ls) in
    let next : ls ≡ values_from (line_for (before ++ book_of (l ∷ ls))) (length ls) (suc e) = rw one at (order_says (suc e) ls (before ++ three) two.1 longer) in
    let first : l ≡ line_for (before ++ book_of (l ∷ ls)) e = line_is l e (book_of ls) before two.0 h in
    rw (← next, ← first)
  where
    line_is : (l : Line) (e : ℕ) (rest before : List ℕ) → l.entry ≡ e → length before ≡ 3 * e
        → l ≡ line_for (before ++ (l.value / 256 ∷ l.value % 256 ∷ l.long ∷ rest)) e
    line_is l e rest before x h =
        let three : List ℕ = l.value / 256 ∷ l.value % 256 ∷ l.long ∷ rest in
        let at : (i : ℕ) → get_or (before ++ three) (3 * e + i) 0 ≡ get_or three i 0 = λ i. rw (← h) (get_or-append-add before three i 0) in
        let y : 3 * e + 0 ≡ 3 * e = omega arith in
        let high : get_or (before ++ three) (3 * e) 0 ≡ l.value / 256 = rw y at (at 0) in
        let low : get_or (before ++ three) (3 * e + 1) 0 ≡ l.value % 256 = at 1 in
        let long : get_or (before ++ three) (3 * e + 2) 0 ≡ l.long = at 2 in
        rw (high, low, long, ← x, div-add-mod' l.value 256)

-- lines in order are those of the book that they hold
pub order_lines : (ls : List Line) → in_order 0 ls ≡ true → ls ≡ values_from (line_for (book_of ls)) (length ls) 0
order_lines ls o = order_says 0 ls [] o refl

-- a book's lines are in order
pub values_order : (book : List ℕ) (n e : ℕ) → in_order e (values_from (line_for book) n e) ≡ true
unfolding in_order values_from
values_order book zero e = refl
values_order book (suc n) e = rw (eq-eqb e e refl) (values_order book n (suc e))

-- and hold it
pub values_book : (book : List ℕ) (n e : ℕ) → Bytes book → length book ≡ 3 * (e + n) → book_of (values_from (line_for book) n e) ≡ drop (3 * e) book
unfolding values_from book_of
values_book book zero e b h = let past : length book ≤ 3 * e = omega arith in sym (drop_of_length-le book past)
values_book book (suc n) e b h =
    let x : ℕ = get_or book (3 * e) 0 in
    let y : ℕ = get_or book (3 * e + 1) 0 in
    let high : (x * 256 + y) / 256 ≡ x = omega (arith, b (3 * e + 1)) in
    let low : (x * 256 + y) % 256 ≡ y = omega (arith, b (3 * e + 1)) in
    let next = values_book book n (suc e) b (omega arith) in
    let z : 3 * suc e ≡ suc (suc (suc (3 * e))) = omega arith in
    let w : 3 * e + 2 ≡ suc (suc (3 * e)) = omega arith in
    rw (high, low, next, z, w, add-one (3 * e))
    (sym (drop-cons book (3 * e) 0 (omega arith) ∙ rw (drop-cons book (suc (3 * e)) 0 (omega arith), drop-cons book (suc (suc (3 * e))) 0 (omega arith))))

-- ---- the bytes held in place of that book while lines are read
good_most : (v n : ℕ) → good_entry v (min n 255) ≡ good_entry v n
good_most v n = go (ltb n 256) refl
  where
    go : (b : Bool) → ltb n 256 ≡ b → good_entry v (min n 255) ≡ good_entry v n
    go true q = let z : min n 255 ≡ n = omega (arith, ltb-true n 256 q) in rw z
    go false q = let z : min n 255 ≡ 255 = omega (arith, ltb-false n 256 q) in rw (z, lt-leb n 32 (omega (arith, ltb-false n 256 q))) (off (leb 1 n))
      where
        off : (a : Bool) → false ≡ ((a && false) && ltb v (2 ^ n))
        off true = refl
        off false = refl

held_good : (ls : List Line) → good_table (held_of ls) ≡ good_table (book_of ls)
unfolding held_of book_of good_table
held_good [] = refl
held_good (l ∷ ls) = rw (good_most (l.value / 256 * 256 + l.value % 256) l.long, held_good ls)

good_byte : (v n : ℕ) → good_entry v n ≡ true → min n 255 ≡ n
good_byte v n q =
    let h : n ≤ 32 = leb-true n 32 (both_true (leb 1 n) (leb n 32) (both_true (leb 1 n && leb n 32) (ltb v (2 ^ n)) q).0).1 in
    omega arith

-- of good codes they are the book's
pub held_book : (ls : List Line) → good_table (book_of ls) ≡ true → held_of ls ≡ book_of ls
unfolding held_of book_of good_table
held_book [] g = refl
held_book (l ∷ ls) g =
    let two = both_true (good_entry (l.value / 256 * 256 + l.value % 256) l.long) (good_table (book_of ls)) g in
    rw (good_byte _ l.long two.0, held_book ls two.1)

-- codes that pass are good
pub codes_good : (book : List ℕ) → codes_refusal book ≡ 0 → good_table book ≡ true
unfolding codes_refusal
codes_good book z = unless-none (good_table book) 6 (omega arith) (or_none (unless (good_table book) 6) (unless (each_prefix_free code_table_sizes book) 7) z).0

-- both are refused alike
pub held_codes : (ls : List Line) → codes_refusal (held_of ls) ≡ codes_refusal (book_of ls)
unfolding codes_refusal
held_codes ls = go (good_table (book_of ls)) refl
  where
    go : (b : Bool) → good_table (book_of ls) ≡ b
        → or_else (unless (good_table (held_of ls)) 6) (unless (each_prefix_free code_table_sizes (held_of ls)) 7)
        ≡ or_else (unless (good_table (book_of ls)) 6) (unless (each_prefix_free code_table_sizes (book_of ls)) 7)
    go true q = rw (held_book ls q)
    go false q = rw (held_good ls, q)

pub held_length : (ls : List Line) → length (held_of ls) ≡ 3 * length ls
unfolding held_of
held_length [] = refl
held_length (l ∷ ls) = omega (arith, held_length ls)
