-- Laws of a macroblock that is read: its mode, its motion and its tree, the first refusal met, and what it leaves in the result slices.
-- Assumes nothing.
use Rattle.std.specs.Prelude.{◌≡◌, false, List, [], length, drop, Result, Ok, Err}
use Rattle.std.proofs.Math.Path.{refl}
use Rattle.std.proofs.Common.{◌∙◌, true≢false, arith}
use Prim.Native.Nat.{ℕ, zero, suc, ◌*◌, ◌≤◌, ◌<◌}
use Rattle.bits.specs.Bits.{bits_of}
use Rattle.bits.specs.Refusals.{number_of}
use Rattle.bits.specs.declared.refusal.Refusal.{Refusal}
use Rattle.code_tables.specs.Codes.{codes_of, Got, got, bad, then, take_code}
use Rattle.book.specs.Book.{mode_table, tables_of}
use Rattle.book.specs.declared.svq1_vlc.Svq1Half.{Svq1Half}
use Rattle.vectors.specs.declared.svq1_motion_predictor.Svq1Mv.{Svq1Mv}
use Rattle.vectors.specs.Vectors.{zero_mv}
use Rattle.mv_cache.specs.Neighbours.{Near, for_one, for_first, for_second, for_third, for_fourth}
use Rattle.tree.specs.declared.svq1_enc_tree.inner.walk.ReadTree.{ReadTree}
use Rattle.tree.specs.NodeForms.{tree_of}
use Rattle.tree.specs.TreeBits.{Node, read_tree}
use Rattle.macroblock_dec.specs.declared.svq1_plane.inner.reading.ReadMotion.{ReadMotion}
use Rattle.macroblock_dec.specs.declared.svq1_plane.inner.reading.ReadChoice.{ReadChoice}
use Rattle.macroblock.specs.Macroblock.{Given, Motion, still, single, four, Choice, skipped, coded, half_of, vectors_of, mode_codes}
use Rattle.macroblock.specs.MotionForms.{motion_of}
use Rattle.macroblock.specs.Reading.{read_difference, read_vector, read_coded, read_behind, read_macroblock}
use Rattle.macroblock_dec.specs.FindingNeeds.{Found, read_four, read_motion, MotionThere, TreeThere, choice_found, difference_here, mode_difference, skipped_at, ChoiceThere, ChoiceFound}
use Rattle.macroblock.specs.MacroblockNeeds.{by_book}
use Rattle.macroblock_dec.specs.FindingNeedsLaws.{bad_first, found_then, bad_then, found_made, zeros_inside}

-- readings in a row, gathered and handed on at the end, or handed on one by one
handed : {A B D E : Type 0} (v : Got A) (f : A → List ℕ → Got B) (make : B → List ℕ → Got D) (on : D → List ℕ → Got E) (h : A → List ℕ → Got E)
    → ((a : A) (r : List ℕ) → then (then (f a r) make) on ≡ h a r) → then (then (then v f) make) on ≡ then v h
handed (got a r) f make on h e = e a r
handed (bad k) f make on h e = refl

-- what stands behind a mode is its motion and its tree; behind SKIP it is nothing
behind_coded : (g : Given) (n : Near) (k : ℕ) (bits : List ℕ) → k < 3 → then (read_motion g n k bits) (read_coded g) ≡ read_behind g n k bits
unfolding read_motion read_four read_behind
behind_coded g n zero bits h = one (read_vector g (for_one n) bits)
  where
    one : (v : Got Svq1Mv) → then (then v (λ v r. got (single v) r)) (read_coded g) ≡ then v (λ v r. read_coded g (single v) r)
    one (got v r) = refl
    one (bad k) = refl
behind_coded g n (suc zero) bits h =
    handed (read_vector g (for_first n) bits) _ _ _ _ (λ a r1. handed (read_vector g (for_second n a) r1) _ _ _ _ (λ b r2. handed (read_vector g (for_third n a b) r2) _ _ _ _
    (λ c r3. handed (read_vector g (for_fourth a b c) r3) _ _ _ _ (λ d r4. refl))))
behind_coded g n (suc (suc zero)) bits h = refl
behind_coded g n (suc (suc (suc k))) bits h = absurd (omega arith)

-- the vectors that a motion leaves do not depend on its tree
of_motion : (m : Motion) (t u : List Node) → vectors_of (coded m t) ≡ vectors_of (coded m u)
of_motion still t u = refl
of_motion (single v) t u = refl
of_motion (four a b c d) t u = refl

-- ---- behind a mode
module _ (s book : List ℕ) (n : Near) (at k : ℕ) where
  abbrev behind_at : Got Choice
  behind_at = read_behind (by_book book) n k (drop at (bits_of s))

  abbrev motion_from : Got Motion
  motion_from = read_motion (by_book book) n k (drop at (bits_of s))

  pub motion_refused : (m : ℕ) → k < 3 → bad m ≡ motion_from → bad m ≡ behind_at
  motion_refused m l e = rw (← behind_coded (by_book book) n k (drop at (bits_of s)) l) (bad_first motion_from (read_coded (by_book book)) m e)

  module _ (r : ReadMotion) (l : k < 3) (f : MotionThere s motion_from (difference_here s book at) r) where
    abbrev moved : Motion
    moved = motion_of r.motion r.vectors

    abbrev tree_here : Svq1Half → Got (List Node)
    tree_here half = read_tree (tables_of book half) 5 (drop r.next (bits_of s))

    pub tree_refused : (m : ℕ) (half : Svq1Half) → half ≡ half_of moved → bad m ≡ tree_here half → bad m ≡ behind_at
    unfolding read_coded
    tree_refused m half e h =
        rw (← behind_coded (by_book book) n k (drop at (bits_of s)) l)
        (bad_then s motion_from (read_coded (by_book book)) moved r.next f.found m (bad_first (tree_here (half_of moved)) _ m (rw e at h)))

    tree_behind : (t : ReadTree) → TreeThere s (tree_here (half_of moved)) (half_of moved) t
        → Found s (read_coded (by_book book) moved (drop r.next (bits_of s))) (coded moved (tree_of t.blocks)) t.next
    unfolding read_coded
    tree_behind t g = found_made s (tree_here (half_of moved)) (coded moved) (tree_of t.blocks) t.next g.found

    pub coded_found : (t : ReadTree) (half : Svq1Half) → half ≡ half_of moved → TreeThere s (tree_here half) half t
        → ChoiceThere s behind_at (difference_here s book at) (record { next = t.next; skip = false; motion = r.motion; vectors = r.vectors; blocks = t.blocks })
    coded_found t half e g =
        let here : TreeThere s (tree_here (half_of moved)) (half_of moved) t = rw e at g in
        record {
          found = rw (← behind_coded (by_book book) n k (drop at (bits_of s)) l)
              (found_then s motion_from (read_coded (by_book book)) moved r.next f.found (coded moved (tree_of t.blocks)) t.next (tree_behind t here));
          vectors_are = f.vectors_are ∙ of_motion moved [] (tree_of t.blocks);
          inside = f.inside;
          differs = f.differs;
          sound = λ _. here.sound;
        }

  behind_skip : (k : ℕ) (bits : List ℕ) → 3 ≤ k → got skipped bits ≡ read_behind (by_book book) n k bits
  unfolding read_behind
  behind_skip zero bits l = absurd (omega arith)
  behind_skip (suc zero) bits l = absurd (omega arith)
  behind_skip (suc (suc zero)) bits l = absurd (omega arith)
  behind_skip (suc (suc (suc k))) bits l = refl

  pub skip_found : (r : ReadChoice) → 3 ≤ k → at ≤ 8 * length s → r ≡ skipped_at at → ChoiceThere s behind_at (difference_here s book at) r
  skip_found r l h z = rw z (record {
    found = record { is = behind_skip k (drop at (bits_of s)) l; within = h };
    vectors_are = refl;
    inside = zeros_inside zero_mv refl;
    differs = tt;
    sound = λ e. absurd (true≢false e);
  })

-- ---- a macroblock, by its mode
module _ (s book : List ℕ) (n : Near) (at : ℕ) where
  abbrev macroblock_at : Got Choice
  macroblock_at = read_macroblock (by_book book) n (drop at (bits_of s))

  pub mode_refused : (m : ℕ) → bad m ≡ take_code (codes_of (mode_table book)) (drop at (bits_of s)) → bad m ≡ macroblock_at
  unfolding read_macroblock
  mode_refused m e = bad_first _ _ m e

  module _ (k next : ℕ) (f : Found s (take_code (codes_of (mode_table book)) (drop at (bits_of s))) k next) where
    pub mode_found : (c : Result ReadChoice Refusal) → ChoiceFound s (read_behind (by_book book) n k (drop next (bits_of s))) (difference_here s book next) c → ChoiceFound s macroblock_at (mode_difference s book at) c
    unfolding read_macroblock mode_difference
    mode_found (Ok c) g = record {
      found = found_then s _ _ k next f (choice_found c) c.next g.found;
      vectors_are = g.vectors_are;
      inside = g.inside;
      differs = rw (← f.is) g.differs;
      sound = g.sound;
    }
    mode_found (Err r) g = bad_then s _ _ k next f (number_of r) g

-- READING LOOKS AT THE BOOK, and at nothing else of what is given
pub by_book_lem : (g : Given) (n : Near) (bits : List ℕ) → read_macroblock (by_book g.book) n bits ≡ read_macroblock g n bits
unfolding read_macroblock read_behind read_coded read_vector read_difference
by_book_lem g n bits = go (take_code (mode_codes g) bits)
  where
    each : (k : ℕ) (r : List ℕ) → read_behind (by_book g.book) n k r ≡ read_behind g n k r
    each zero r = refl
    each (suc zero) r = refl
    each (suc (suc zero)) r = refl
    each (suc (suc (suc k))) r = refl

    go : (m : Got ℕ) → then m (read_behind (by_book g.book) n) ≡ then m (read_behind g n)
    go (got k r) = each k r
    go (bad k) = refl
