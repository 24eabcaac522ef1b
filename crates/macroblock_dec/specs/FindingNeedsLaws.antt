-- Laws of what reading finds: one reading behind another, and the first refusal met.
-- Assumes nothing.
use Rattle.std.specs.Prelude.{◌≡◌, refl, List, [], ◌∷◌, ◌⊎◌, ℕ, ◌*◌, ◌≤◌, min, ℤ, pos, negsuc, ◌+ℤ◌, length, drop, replicate, Result, Ok, Err}
use Rattle.std.proofs.Common.{sym, arith}
use Rattle.std.proofs.Math.Logic.{⊎_elim}
use Rattle.std.proofs.Math.Option.{some}
use Rattle.bits.specs.Basics.{All}
use Rattle.bits.specs.Bits.{bits_of}
use Rattle.code_tables.specs.Codes.{codes_of, read_code, Got, got, bad, then, take_code}
use Rattle.code_tables.specs.CodeReadLaws.{code_at_bit}
use Rattle.code_tables.specs.Calls.{read_answer}
use Rattle.code_tables.specs.CallsLaws.{answer_found, answer_bad}
use Rattle.code_tables.specs.declared.svq1_vlc.CodeFound.{CodeFound}
use Rattle.bits.specs.BitNeeds.{Fits}
use Rattle.bits.specs.Refusals.{answer_of, number_of}
use Rattle.bits.specs.declared.refusal.Refusal.{Refusal}
use Rattle.book.specs.Book.{vector_table, tables_of, book_refusal}
use Rattle.book.specs.declared.svq1_vlc.Svq1Half.{Svq1Half}
use Rattle.leaf.specs.LentReadLaws.{read_on}
use Rattle.vectors.specs.declared.svq1_motion_predictor.Svq1Mv.{Svq1Mv}
use Rattle.vectors.specs.Vectors.{zero_mv, clipped, final_mv, difference_at}
use Rattle.mv_cache.specs.Neighbours.{Near, for_one, for_first, for_second, for_third, for_fourth}
use Rattle.vectors.specs.VectorsLaws.{InRange, pos_in, neg_in, Inside, zero_inside}
use Rattle.tree.specs.declared.svq1_enc_tree.inner.walk.ReadTree.{ReadTree}
use Rattle.tree.specs.NodeForms.{tree_of}
use Rattle.tree.specs.TreeBits.{read_tree}
use Rattle.tree.specs.ReadSoundLaws.{read_sound}
use Rattle.tree.specs.WalkNeeds.{Reads, TreeHere}
use Rattle.macroblock.specs.declared.svq1_enc_inter.Svq1MbMode.{Svq1MbMode}
use Rattle.macroblock.specs.declared.svq1_enc_inter.Svq1MbMode.TheVariants as Mode
use Rattle.macroblock.specs.declared.svq1_enc_inter.MbMotion.TheVariants.{None, One, Four}
use Rattle.macroblock_dec.specs.declared.svq1_plane.inner.reading.ReadFour.{ReadFour}
use Rattle.macroblock_dec.specs.declared.svq1_plane.inner.reading.ReadMotion.{ReadMotion}
use Rattle.macroblock.specs.Mode.{mode_position}
use Rattle.macroblock.specs.Macroblock.{Motion, still, single}
use Rattle.macroblock.specs.Reading.{read_difference, read_vector}
use Rattle.macroblock_dec.specs.FindingNeeds.{Found, PositionFound, value_of, difference_here, read_four, FourThere, four_of, read_motion, MotionThere, TreeFound}
use Rattle.macroblock.specs.MacroblockNeeds.{by_book}
use Rattle.macroblock.specs.SampleNeedsLaws.{four_are}

-- ---- one reading behind another
-- the first is refused: so is the whole
pub bad_first : {A B : Type 0} (g : Got A) (f : A → List ℕ → Got B) (n : ℕ) → bad n ≡ g → bad n ≡ then g f
bad_first g f n e = rw (← e)

module _ {A B : Type 0} (s : List ℕ) (g : Got A) (f : A → List ℕ → Got B) (a : A) (next : ℕ) (one : Found s g a next) where
  -- the first is not: the whole is the second, from the bit behind the first
  pub found_then : (b : B) (behind : ℕ) → Found s (f a (drop next (bits_of s))) b behind → Found s (then g f) b behind
  found_then b behind two = record { is = rw (← one.is) two.is; within = two.within }

  pub bad_then : (n : ℕ) → bad n ≡ f a (drop next (bits_of s)) → bad n ≡ then g f
  bad_then n e = rw (← one.is) e

-- a value made of the one that was read
pub found_made : {A B : Type 0} (s : List ℕ) (g : Got A) (h : A → B) (a : A) (next : ℕ) → Found s g a next → Found s (then g (λ x r. got (h x) r)) (h a) next
found_made s g h a next one = record { is = rw (← one.is); within = one.within }

-- a value that was read is the one that stands there
pub found_value : {A : Type 0} (s : List ℕ) (g : Got A) (a : A) (next : ℕ) → Found s g a next → value_of g ≡ some a
found_value s g a next f = rw (← f.is)

-- a string that goes on behind what was read
pub reads_on : (book : List ℕ) (d bytes at next : ℕ) → Reads book d bytes at → next ≤ 8 * bytes → Reads book d bytes next
reads_on book d bytes at next r h = record { passes = r.passes; deep = r.deep; from = record { bytes_fit = r.from.bytes_fit; bits_fit = omega arith } }

-- ---- a code
pub position_found : (s : List ℕ) (at : ℕ) (t : List ℕ) (r : Result CodeFound Refusal) → Fits (length s) at 0
    → answer_of r ≡ read_answer (read_code (codes_of t) (bits_of s) at) → PositionFound s at t r
position_found s at t (Ok c) f e =
    let q = answer_found (read_code (codes_of t) (bits_of s) at) c e in
    let o = read_on s t at c.position c.next f q in
    (record { is = rw (← code_at_bit (codes_of t) (bits_of s) at, q); within = omega (arith, o.1.bits_fit) }, o.0)
position_found s at t (Err n) f e =
    sym (rw (← code_at_bit (codes_of t) (bits_of s) at) (answer_bad (read_code (codes_of t) (bits_of s) at) (bits_of s) (number_of n) e))

-- ---- a vector
module _ (s book : List ℕ) (at : ℕ) where
  abbrev codes : List (List ℕ)
  codes = codes_of (vector_table book)

  pub first_component_refused : (n : ℕ) → bad n ≡ take_code codes (drop at (bits_of s)) → bad n ≡ difference_here s book at
  unfolding read_difference
  first_component_refused n e = bad_first _ _ n e

  module _ (a next : ℕ) (one : Found s (take_code codes (drop at (bits_of s))) a next) where
    pub second_component_refused : (n : ℕ) → bad n ≡ take_code codes (drop next (bits_of s)) → bad n ≡ difference_here s book at
    unfolding read_difference
    second_component_refused n e = bad_then s _ _ a next one n (bad_first _ _ n e)

    pub difference_found : (b behind : ℕ) → Found s (take_code codes (drop next (bits_of s))) b behind
        → Found s (difference_here s book at) (record { x = difference_at a; y = difference_at b }) behind
    unfolding read_difference
    difference_found b behind two =
        found_then s _ _ a next one (record { x = difference_at a; y = difference_at b }) behind
        (found_made s (take_code codes (drop next (bits_of s))) (λ (j : ℕ). record { x = difference_at a; y = difference_at j }) b behind two)

clipped_in : (z : ℤ) → InRange (clipped z)
clipped_in (pos n) = pos_in (min 31 n) (omega arith)
clipped_in (negsuc n) = neg_in (min 31 n) (omega arith)

pub vector_found_lem : (s book : List ℕ) (at : ℕ) (p v d : Svq1Mv) (next : ℕ) → v ≡ final_mv p d.x d.y
    → Found s (difference_here s book at) d next → Found s (read_vector (by_book book) p (drop at (bits_of s))) v next × Inside v
unfolding read_vector
vector_found_lem s book at p v d next e f =
    rw e (
      found_made s (difference_here s book at) (λ (w : Svq1Mv). final_mv p w.x w.y) d next f,
      record { x_in = clipped_in (p.x +ℤ d.x); y_in = clipped_in (p.y +ℤ d.y) },
    )

pub vector_refused : (s book : List ℕ) (at : ℕ) (p : Svq1Mv) (n : ℕ) → bad n ≡ difference_here s book at → bad n ≡ read_vector (by_book book) p (drop at (bits_of s))
unfolding read_vector
vector_refused s book at p n e = bad_first _ _ n e

pub zeros_inside : (v : Svq1Mv) → v ≡ zero_mv → All Inside (replicate 4 v)
zeros_inside v e = rw e (zero_inside, (zero_inside, (zero_inside, (zero_inside, tt))))

-- ---- four vectors, one behind the other
module _ (s book : List ℕ) (n : Near) (at : ℕ) where
  abbrev vector_at : Svq1Mv → ℕ → Got Svq1Mv
  vector_at p i = read_vector (by_book book) p (drop i (bits_of s))

  abbrev whole : Got (List Svq1Mv)
  whole = read_four (by_book book) n (drop at (bits_of s))

  pub first_refused : (k : ℕ) → bad k ≡ vector_at (for_first n) at → bad k ≡ whole
  unfolding read_four
  first_refused k e = bad_first _ _ k e

  module _ (a : Svq1Mv) (i1 : ℕ) (one : Found s (vector_at (for_first n) at) a i1) where
    pub second_refused : (k : ℕ) → bad k ≡ vector_at (for_second n a) i1 → bad k ≡ whole
    unfolding read_four
    second_refused k e = bad_then s _ _ a i1 one k (bad_first _ _ k e)

    module _ (b : Svq1Mv) (i2 : ℕ) (two : Found s (vector_at (for_second n a) i1) b i2) where
      pub third_refused : (k : ℕ) → bad k ≡ vector_at (for_third n a b) i2 → bad k ≡ whole
      unfolding read_four
      third_refused k e = bad_then s _ _ a i1 one k (bad_then s _ _ b i2 two k (bad_first _ _ k e))

      module _ (c : Svq1Mv) (i3 : ℕ) (three : Found s (vector_at (for_third n a b) i2) c i3) where
        pub fourth_refused : (k : ℕ) → bad k ≡ vector_at (for_fourth a b c) i3 → bad k ≡ whole
        unfolding read_four
        fourth_refused k e = bad_then s _ _ a i1 one k (bad_then s _ _ b i2 two k (bad_then s _ _ c i3 three k (bad_first _ _ k e)))

        pub four_found_lem : (d : Svq1Mv) (i4 : ℕ) → Found s (vector_at (for_fourth a b c) i3) d i4 → Found s whole (a ∷ b ∷ c ∷ d ∷ []) i4
        unfolding read_four
        four_found_lem d i4 last =
            let made = found_made s (vector_at (for_fourth a b c) i3) (λ (v : Svq1Mv). a ∷ b ∷ c ∷ v ∷ []) d i4 last in
            found_then s _ _ a i1 one (a ∷ b ∷ c ∷ d ∷ []) i4
            (found_then s _ _ b i2 two (a ∷ b ∷ c ∷ d ∷ []) i4 (found_then s _ _ c i3 three (a ∷ b ∷ c ∷ d ∷ []) i4 made))

-- ---- a motion
module _ (s book : List ℕ) (n : Near) (at : ℕ) (m : Svq1MbMode) where
  abbrev motion_at : Got Motion
  motion_at = read_motion (by_book book) n (mode_position m) (drop at (bits_of s))

  pub one_refused : (k : ℕ) → m ≡ Mode.Inter → bad k ≡ read_vector (by_book book) (for_one n) (drop at (bits_of s)) → bad k ≡ motion_at
  unfolding read_motion
  one_refused k e h = rw e (bad_first _ _ k h)

  pub one_found_lem : (v d : Svq1Mv) (next : ℕ) → m ≡ Mode.Inter → Found s (read_vector (by_book book) (for_one n) (drop at (bits_of s))) v next → Inside v
      → Found s (difference_here s book at) d next → MotionThere s motion_at (difference_here s book at) (record { next = next; motion = One v d; vectors = replicate 4 v })
  unfolding read_motion
  one_found_lem v d next e f i h = rw e (record {
    found = found_made s (read_vector (by_book book) (for_one n) (drop at (bits_of s))) single v next f;
    vectors_are = refl;
    inside = (i, (i, (i, (i, tt))));
    differs = found_value s (difference_here s book at) d next h;
  })

  pub fours_refused : (k : ℕ) → m ≡ Mode.Inter4Mv → bad k ≡ read_four (by_book book) n (drop at (bits_of s)) → bad k ≡ motion_at
  unfolding read_motion
  fours_refused k e h = rw e (bad_first _ _ k h)

  pub fours_found : (r : ReadFour) → m ≡ Mode.Inter4Mv → FourThere s (read_four (by_book book) n (drop at (bits_of s))) r
      → MotionThere s motion_at (difference_here s book at) (record { next = r.next; motion = Four; vectors = r.vectors })
  unfolding read_motion
  fours_found r e f = rw e (record {
    found = found_made s (read_four (by_book book) n (drop at (bits_of s))) four_of r.vectors r.next f.found;
    vectors_are = four_are r.vectors f.count;
    inside = f.inside;
    differs = tt;
  })

  pub none_found_lem : at ≤ 8 * length s → (m ≡ Mode.Intra) ⊎ (m ≡ Mode.Skip) → (r : ReadMotion) → r ≡ record { next = at; motion = None; vectors = replicate 4 zero_mv } → MotionThere s motion_at (difference_here s book at) r
  unfolding read_motion
  none_found_lem l e r z =
      let is : got still (drop at (bits_of s)) ≡ motion_at = ⊎_elim (λ a. rw a) (λ a. rw a) e in
      rw z (record { found = record { is = is; within = l }; vectors_are = refl; inside = zeros_inside zero_mv refl; differs = tt })

-- ---- a tree
pub tree_found : (book : List ℕ) → book_refusal book ≡ 0 → (h : Svq1Half) (s : List ℕ) (at : ℕ) (r : Result ReadTree Refusal) → TreeHere (tables_of book h) 5 s at r
    → TreeFound s (read_tree (tables_of book h) 5 (drop at (bits_of s))) h r
tree_found book passes h s at (Ok r) t = record {
  found = record { is = t.is; within = t.within };
  sound = read_sound book passes h 5 s at (tree_of r.blocks) (drop r.next (bits_of s)) (sym t.is);
}
tree_found book passes h s at (Err n) t = t.is
