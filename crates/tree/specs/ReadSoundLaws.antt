-- What is read can be shown: the leaves of a tree that was read are sound.
-- Assumes nothing.
use Rattle.std.specs.Prelude.{◌≡◌, refl, Bool, true, false, pos, length, get_or, take, drop}
use Rattle.std.proofs.Common.{ap, ◌∙◌, arith, length-drop, length-append, drop-drop}
use mathlib.Core.List.{List, [], ◌∷◌, ◌++◌}
use Prim.Native.Nat.{ℕ, zero, suc, ◌+◌, ◌-◌, ◌*◌, ◌≤◌, ◌<◌}
use Rattle.std.proofs.Math.Decide.{dec_lt}
use Rattle.std.proofs.Math.IntN.{sub_ℕ}
use borrow.Author.Tests.{lt-ltb, le-ltb}
use Rattle.std.proofs.Math.ListN.{get_or-append, get_or-eq_default}
use Rattle.std.proofs.lemmas.List.{get_or_at}
use Rattle.bits.specs.Basics.{natural}
use Rattle.bits.specs.Bits.{bits_of, val_of}
use Rattle.bits.specs.BitsLaws.{length_bits_of}
use Rattle.bits.specs.ReadLaws.{run_lt}
use Rattle.code_tables.specs.Codes.{CodeRead, Code, NoCode, Ends as Cut, Got, got, bad, then, code_got, read_code, take_code, take_bits}
use Rattle.book.specs.Book.{Tables, tables_of, book_refusal}
use Rattle.book.specs.BookLaws.{GoodTables, good_tables}
use Rattle.book.specs.declared.svq1_vlc.Svq1Half.{Svq1Half}
use Rattle.book.specs.declared.svq1_vlc.Svq1Half.TheVariants.{Intra, Inter}
use Rattle.leaf.specs.Leaf.{Leaf, skip, coded}
use Rattle.leaf.specs.LeafBits.{read_stages, read_skip, read_rest, read_leaf}
use Rattle.leaf.specs.LentReadLaws.{code_in}
use Rattle.codebook.specs.Mean.{mean_position, mean_at}
use Rattle.bits.specs.DifferenceLaws.{sub_add, sub_over}
use Rattle.tree.specs.Blocks.{block_count, level, first}
use Rattle.tree.specs.BlocksLaws.{level_le}
use Rattle.tree.specs.TreeBits.{Node, Off, Split, Ends, reached, as_node, read_node, read_if, read_from, read_tree}
use Rattle.tree.specs.WalkNeeds.{Sound, SoundNode, SoundTree}

-- one reading after another, where neither was refused
record Through {A B : Type 0} (g : Got A) (f : A → List ℕ → Got B) (b : B) (r : List ℕ) : Type 0 where
  value : A
  left : List ℕ
  one : g ≡ got value left
  two : f value left ≡ got b r

never : {A : Type 0} {C : Type 0} (k : ℕ) (a : A) (r : List ℕ) → bad k ≡ got a r → C
never k a r e = absurd (let z : ◌≡◌ {A = ℕ} 0 1 = cc in omega arith)

through : {A B : Type 0} (g : Got A) (f : A → List ℕ → Got B) (b : B) (r : List ℕ) → then g f ≡ got b r → Through g f b r
through (got a q) f b r e = record { value = a; left = q; one = refl; two = e }
through (bad k) f b r e = never k b r e

-- the bits left of a string of bytes, from some bit on
record From (s bits : List ℕ) : Type 0 where
  at : ℕ
  here : bits ≡ drop at (bits_of s)

from_drop : (s bits : List ℕ) (n : ℕ) → From s bits → From s (drop n bits)
from_drop s bits n f = record { at = f.at + n; here = ap (drop n) f.here ∙ drop-drop n f.at (bits_of s) }

from_same : (s p q : List ℕ) → p ≡ q → From s p → From s q
from_same s p q e f = rw e at f

-- a code that was read is one of the table
code_read : (cs : List (List ℕ)) (s bits : List ℕ) (k : ℕ) (r : List ℕ) → From s bits → take_code cs bits ≡ got k r → (k < length cs) × From s r
unfolding take_code
code_read cs s bits k r f e = go (read_code cs bits 0) refl e
  where
    go : (c : CodeRead) → read_code cs bits 0 ≡ c → code_got bits c ≡ got k r → (k < length cs) × From s r
    go (Code j next) q g =
        let i = code_in cs bits 0 j next (omega arith) q in
        let same : j ≡ k = cc in
        let left : drop next bits ≡ r = cc in
        (rw same at i.there, from_same s (drop next bits) r left (from_drop s bits next f))
    go NoCode q g = never 10 k r g
    go Cut q g = never 24 k r g

-- four bits are below 16
nibble : (s bits : List ℕ) (j : ℕ) (r : List ℕ) → From s bits → take_bits 4 bits ≡ got j r → (j < 16) × From s r
unfolding take_bits
nibble s bits j r f e = go (dec_lt (length bits) 4)
  where
    go : Dec (length bits < 4) → (j < 16) × From s r
    go (yes l) = never 24 j r (rw (lt-ltb (length bits) 4 l) at e)
    go (no l) =
        let g : got (val_of (take 4 bits)) (drop 4 bits) ≡ got j r = rw (le-ltb (length bits) 4 (omega arith)) at e in
        let value : val_of (take 4 bits) ≡ j = cc in
        let left : drop 4 bits ≡ r = cc in
        let long : length bits ≡ 8 * length s - f.at = ap length f.here ∙ length-drop f.at (bits_of s) ∙ rw length_bits_of in
        let small : val_of (take 4 bits) < 16 = rw f.here (run_lt s f.at 4 (omega arith)) in
        (rw value at small, from_same s (drop 4 bits) r left (from_drop s bits 4 f))

record Nibbles (s : List ℕ) (n : ℕ) (js r : List ℕ) : Type 0 where
  count : length js ≡ n
  small : (k : ℕ) → get_or js k 0 < 16
  left : From s r

stages_read : (s : List ℕ) (n : ℕ) (bits js r : List ℕ) → From s bits → read_stages n bits ≡ got js r → Nibbles s n js r
unfolding read_stages
stages_read s zero bits js r f e =
    let none : [] ≡ js = cc in
    let left : bits ≡ r = cc in
    rw (← none) (record { count = refl; small = λ k. omega arith; left = from_same s bits r left f })
stages_read s (suc n) bits js r f e =
    let a = through (take_bits 4 bits) (λ j q. then (read_stages n q) (λ ks p. got (j ∷ ks) p)) js r e in
    let one = nibble s bits a.value a.left f a.one in
    let b = through (read_stages n a.left) (λ ks p. got (a.value ∷ ks) p) js r a.two in
    let more = stages_read s n a.left b.value b.left one.1 b.one in
    let q : got (a.value ∷ b.value) b.left ≡ got js r = b.two in
    let list : a.value ∷ b.value ≡ js = cc in
    let left : b.left ≡ r = cc in
    rw (← list) (record { count = ap suc more.count; small = all a.value b.value one.0 more.small; left = from_same s b.left r left more.left })
  where
    all : (x : ℕ) (xs : List ℕ) → x < 16 → ((k : ℕ) → get_or xs k 0 < 16) → (k : ℕ) → get_or (x ∷ xs) k 0 < 16
    all x xs h g zero = h
    all x xs h g (suc k) = g k

-- the mean at a position has that position
position_at : (h : Svq1Half) (k : ℕ) → mean_position h (mean_at h k) ≡ k
position_at Intra k = refl
position_at Inter k =
    let e : k + 256 ≡ 256 + k = omega arith in
    let z : sub_ℕ (k + 256) 256 ≡ pos k = rw e (sub_over 256 k) in
    ap natural (sub_add k 256 256 0 ∙ z)

-- ---- a leaf
module _ (T : Tables) (g : GoodTables T) (d : ℕ) (deep : d ≤ 5) (s : List ℕ) where
  abbrev Read : Leaf → List ℕ → Type 0
  Read l r = Sound T.half d l × From s r

  skip_read : (h : Svq1Half) (bits : List ℕ) (l : Leaf) (r : List ℕ) → From s bits → read_skip h bits ≡ got l r → Read l r
  skip_read Intra bits l r f e = never 11 l r e
  skip_read Inter bits l r f e =
      let same : skip ≡ l = cc in
      let left : bits ≡ r = cc in
      rw (← same) (tt, from_same s bits r left f)

  coded_read : (n : ℕ) (bits : List ℕ) (l : Leaf) (r : List ℕ) → n ≤ 6 → (4 ≤ d → n ≡ 0) → From s bits
      → then (take_code T.mean bits) (λ k q. then (read_stages n q) (λ js p. got (coded (mean_at T.half k) js) p)) ≡ got l r → Read l r
  coded_read n bits l r most bare f e =
      let a = through (take_code T.mean bits) (λ k q. then (read_stages n q) (λ js p. got (coded (mean_at T.half k) js) p)) l r e in
      let one = code_read T.mean s bits a.value a.left f a.one in
      let b = through (read_stages n a.left) (λ js p. got (coded (mean_at T.half a.value) js) p) l r a.two in
      let more = stages_read s n a.left b.value b.left one.1 b.one in
      let q : got (coded (mean_at T.half a.value) b.value) b.left ≡ got l r = b.two in
      let same : coded (mean_at T.half a.value) b.value ≡ l = cc in
      let left : b.left ≡ r = cc in
      let at : mean_position T.half (mean_at T.half a.value) ≡ a.value = position_at T.half a.value in
      rw (← same) (
        record {
          place = rw (at, ← g.mean_count) one.0;
          back = ap (mean_at T.half) at;
          few = omega (arith, more.count);
          bare = λ h. more.count ∙ bare h;
          small = more.small;
        },
        from_same s b.left r left more.left,
      )

  rest_read : (k : ℕ) (bits : List ℕ) (l : Leaf) (r : List ℕ) → k < 8 → From s bits → read_rest T d k bits ≡ got l r → Read l r
  unfolding read_rest
  rest_read zero bits l r h f e = skip_read T.half bits l r f e
  rest_read (suc n) bits l r h f e = go (dec_lt 3 d) (dec_lt 0 n)
    where
      go : Dec (3 < d) → Dec (0 < n) → Read l r
      go (yes a) (yes b) = never 11 l r (rw (lt-ltb 3 d a, lt-ltb 0 n b) at e)
      go (yes a) (no b) = coded_read n bits l r (omega arith) (λ x. omega arith) f (rw (lt-ltb 3 d a, le-ltb 0 n (omega arith)) at e)
      go (no a) b = coded_read n bits l r (omega arith) (λ x. absurd (omega arith)) f (rw (le-ltb 3 d (omega arith)) at e)

  leaf_read : (bits : List ℕ) (l : Leaf) (r : List ℕ) → From s bits → read_leaf T d bits ≡ got l r → Read l r
  unfolding read_leaf
  leaf_read bits l r f e =
      let a = through (take_code (T.stage d) bits) (read_rest T d) l r e in
      let one = code_read (T.stage d) s bits a.value a.left f a.one in
      rest_read a.value a.left l r (omega (arith, one.0, g.stage_count d deep)) one.1 a.two

  as_read : (bits : List ℕ) (x : Node) (r : List ℕ) → From s bits → as_node (read_leaf T d bits) ≡ got x r → SoundNode T.half d x × From s r
  as_read bits x r f e =
      let a = through (read_leaf T d bits) (λ l q. got (Ends l) q) x r e in
      let one = leaf_read bits a.value a.left f a.one in
      let q : got (Ends a.value) a.left ≡ got x r = a.two in
      let same : Ends a.value ≡ x = cc in
      let left : a.left ≡ r = cc in
      rw (← same) (one.0, from_same s a.left r left one.1)

-- ---- a block, and the tree
module _ (T : Tables) (g : GoodTables T) (s : List ℕ) where
  node_read : (d : ℕ) → d ≤ 5 → (bits : List ℕ) (x : Node) (r : List ℕ) → From s bits → read_node T d bits ≡ got x r → SoundNode T.half d x × From s r
  unfolding read_node
  node_read zero h bits x r f e = as_read T g zero h s bits x r f e
  node_read (suc d) h [] x r f e = never 24 x r e
  node_read (suc d) h (zero ∷ bits) x r f e = as_read T g (suc d) h s bits x r (from_drop s (zero ∷ bits) 1 f) e
  node_read (suc d) h (suc b ∷ bits) x r f e =
      let same : Split ≡ x = cc in
      let left : bits ≡ r = cc in
      rw (← same) (tt, from_same s bits r left (from_drop s (suc b ∷ bits) 1 f))

  if_read : (l : Bool) (d : ℕ) → d ≤ 5 → (bits : List ℕ) (x : Node) (r : List ℕ) → From s bits → read_if T l d bits ≡ got x r → SoundNode T.half d x × From s r
  if_read true d h bits x r f e = node_read d h bits x r f e
  if_read false d h bits x r f e =
      let same : Off ≡ x = cc in
      let left : bits ≡ r = cc in
      rw (← same) (tt, from_same s bits r left f)

  one_more : (h : Svq1Half) (t : List Node) (x : Node) → SoundTree h t → SoundNode h (level (length t)) x → SoundTree h (t ++ (x ∷ []))
  one_more h t x all here i = go (dec_lt i (length t)) (dec_lt (length t) i)
    where
      go : Dec (i < length t) → Dec (length t < i) → SoundNode h (level i) (get_or (t ++ (x ∷ [])) i Off)
      go (yes a) b = rw (get_or-append t (x ∷ []) Off i a) (all i)
      go (no a) (yes b) = rw (get_or-eq_default (t ++ (x ∷ [])) Off {n = i} (simp length-append (omega arith))) tt
      go (no a) (no b) = let e : i ≡ length t = omega arith in rw (e, get_or_at t x [] Off (length t) refl) here

  from_read : (r n : ℕ) (t : List Node) (bits : List ℕ) (u : List Node) (rest : List ℕ) → From s bits → SoundTree T.half t
      → read_from T r n t bits ≡ got u rest → SoundTree T.half u
  unfolding read_from
  from_read r zero t bits u rest f all e = let same : t ≡ u = cc in rw same at all
  from_read r (suc n) t bits u rest f all e =
      let d = level (length t) in
      let a = through (read_if T (reached r t (length t)) d bits) (λ x q. read_from T r n (t ++ (x ∷ [])) q) u rest e in
      let one = if_read (reached r t (length t)) d (level_le (length t)) bits a.value a.left f a.one in
      from_read r n (t ++ (a.value ∷ [])) a.left u rest one.1 (one_more T.half t a.value all one.0) a.two

-- EVERY LEAF OF A TREE THAT WAS READ can be shown, and written again
pub read_sound : (book : List ℕ) → book_refusal book ≡ 0 → (h : Svq1Half) (d : ℕ) (s : List ℕ) (at : ℕ) (t : List Node) (rest : List ℕ)
    → read_tree (tables_of book h) d (drop at (bits_of s)) ≡ got t rest → SoundTree h t
unfolding read_tree
read_sound book passes h d s at t rest e =
    from_read (tables_of book h) (good_tables book passes h) s (first d) block_count [] (drop at (bits_of s)) t rest (record { at = at; here = refl }) (λ i. tt) e
