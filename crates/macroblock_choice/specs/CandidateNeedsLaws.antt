-- Laws of the candidates: what they state is what the definitions weigh, and the one kept is the definitions' best.
-- Assumes nothing.
use Rattle.std.specs.Prelude.{◌≡◌, Bool, ◌&&◌, ℕ, ◌+◌, ◌≤◌, ◌<◌, leb}
use Rattle.std.proofs.Math.Path.{refl, sym, ap}
use Rattle.std.proofs.Common.{◌∙◌}
use Rattle.std.proofs.Math.Bool.{true, false}
use mathlib.Core.List.{List, [], ◌∷◌, ◌++◌, map}
use borrow.Author.Tests.{lt-ltb, le-ltb, eq-eqb, ne_eqb, le-leb, lt-leb}
use Rattle.std.proofs.Math.ListN.{length, length-append}
use Rattle.bits.specs.Basics.{pick, passing}
use Rattle.bits.specs.ListLaws.{passing-append}
use Rattle.book.specs.Book.{tables_of}
use Rattle.leaf.specs.Leaf.{sse}
use Rattle.vectors.specs.declared.svq1_motion_predictor.Svq1Mv.{Svq1Mv}
use Rattle.mv_cache.specs.Neighbours.{Near}
use Rattle.mv_cache.specs.Grid.{part}
use Rattle.canvas.specs.Canvas.{blocks_along}
use Rattle.tree.specs.declared.svq1_enc_tree.Block.{Block}
use Rattle.tree.specs.NodeForms.{tree_of}
use Rattle.costs.specs.Cost.{cost_of}
use Rattle.tree.specs.TreeBits.{Node, tree_bits}
use Rattle.macroblock_choice.specs.declared.svq1_enc_inter.inner.candidates.MbCandidate.{MbCandidate}
use Rattle.macroblock.specs.declared.svq1_enc_inter.Settings.{Settings}
use Rattle.macroblock.specs.declared.svq1_enc_inter.MbMotion.{MbMotion}
use Rattle.macroblock.specs.declared.svq1_enc_inter.Svq1MbMode.TheVariants as Mode
use Rattle.macroblock.specs.Macroblock.{Given, Motion, still, single, four, Choice, skipped, coded, mode_of, motion_mode, half_of, vectors_of, reference_block, shown, vector_bits, motion_bits, mode_bits, choice_bits}
use Rattle.macroblock.specs.Choice.{Task, target, single_tried, four_tried, motions_tried, weight_of, beats, best_of}
use Rattle.macroblock.specs.MotionForms.{motion_of, Differs}
use Rattle.macroblock.specs.MacroblockNeeds.{by_book}
use Rattle.macroblock.specs.LayingNeeds.{choice_by}
use Rattle.macroblock_choice.specs.CandidateNeeds.{skips, choice_of, Stated, Skipping, CandidateOf, preferred, coded_for, in_room, Tried, chosen_in}

-- ---- SKIP
module _ (b e : ℕ) (r : MbCandidate) (s : Skipping b e r) where
  pub skip_is : choice_of r ≡ skipped
  skip_is = rw s.mode

  pub skip_stated : (g : Given) (block : List ℕ) (k : ℕ) (n : Near) → b ≡ length (mode_bits g Mode.Skip) → e ≡ sse block (reference_block g k) → Stated g block k n r
  unfolding choice_bits shown
  skip_stated g block k n eb ee = record {
    mode = s.mode ∙ sym (ap mode_of skip_is);
    vectors = s.vectors ∙ sym (ap vectors_of skip_is);
    differs = rw s.motion_is tt;
    bits = s.bits_are ∙ eb ∙ sym (ap (λ (c : Choice). length (choice_bits g n c)) skip_is);
    error = s.error_is ∙ ee ∙ sym (ap (λ (c : Choice). sse block (shown g k c)) skip_is);
  }

-- ---- a motion and its tree
coded_as : (m : Motion) (t : List Node) → choice_by (skips (motion_mode m)) m t ≡ coded m t
coded_as still t = refl
coded_as (single v) t = refl
coded_as (four a b c d) t = refl

vectors_any : (m : Motion) (t u : List Node) → vectors_of (coded m t) ≡ vectors_of (coded m u)
vectors_any still t u = refl
vectors_any (single v) t u = refl
vectors_any (four a b c d) t u = refl

-- vectors have their bits from the book alone
pub motion_of_book : (g : Given) (n : Near) (m : Motion) → motion_bits (by_book g.book) n m ≡ motion_bits g n m
unfolding motion_bits vector_bits
motion_of_book g n still = refl
motion_of_book g n (single v) = refl
motion_of_book g n (four a b c d) = refl

pub choice_of_book : (g : Given) (n : Near) (c : Choice) → choice_bits (by_book g.book) n c ≡ choice_bits g n c
unfolding choice_bits
choice_of_book g n skipped = refl
choice_of_book g n (coded m t) = rw (motion_of_book g n m)

module _ (g : Given) (block : List ℕ) (k : ℕ) (n : Near) (motion : MbMotion) (vectors : List Svq1Mv) (blocks : List Block) (b e : ℕ) (r : MbCandidate)
    (c : CandidateOf g.book n motion vectors blocks b e r) where
  abbrev m : Motion
  m = motion_of motion vectors

  pub coded_is : choice_of r ≡ coded m (tree_of blocks)
  coded_is = rw (c.mode, c.motion_is, c.vectors_are, c.blocks_are) (coded_as m (tree_of blocks))

  counted : length (choice_bits g n (coded m (tree_of blocks))) ≡ length (mode_bits g (motion_mode m)) + (length (motion_bits g n m) + length (tree_bits (tables_of g.book (half_of m)) (tree_of blocks)))
  unfolding choice_bits
  counted = length-append (mode_bits g (motion_mode m)) _ ∙ ap (λ (i : ℕ). length (mode_bits g (motion_mode m)) + i) (length-append (motion_bits g n m) _)

  pub coded_stated : vectors ≡ vectors_of (coded m []) → Differs n motion → b ≡ length (tree_bits (tables_of g.book (half_of m)) (tree_of blocks)) → e ≡ sse block (shown g k (coded m (tree_of blocks)))
      → Stated g block k n r
  coded_stated ev ed eb ee = record {
    mode = c.mode ∙ sym (ap mode_of coded_is);
    vectors = c.vectors_are ∙ ev ∙ vectors_any m [] (tree_of blocks) ∙ sym (ap vectors_of coded_is);
    differs = rw c.motion_is ed;
    bits = c.bits_are ∙ rw (motion_of_book g n m, eb) (sym counted) ∙ sym (ap (λ (d : Choice). length (choice_bits g n d)) coded_is);
    error = c.error_is ∙ ee ∙ sym (ap (λ (d : Choice). sse block (shown g k d)) coded_is);
  }

-- ---- which of two is kept
module _ (lambda : ℕ) (best d : MbCandidate) (p q : ℕ) (hp : p ≡ cost_of lambda d.bits d.error) (hq : q ≡ cost_of lambda best.bits best.error) where
  pub kept_less : p < q → d ≡ pick (preferred lambda d best) d best
  unfolding preferred
  kept_less h = rw (← hp, ← hq, lt-ltb p q h)

  pub kept_fewer : q ≤ p → p ≡ q → d.bits < best.bits → d ≡ pick (preferred lambda d best) d best
  unfolding preferred
  kept_fewer h e l = rw (← hp, ← hq, le-ltb p q h, eq-eqb p q e, lt-ltb d.bits best.bits l)

  pub kept_more : q ≤ p → p ≡ q → best.bits ≤ d.bits → best ≡ pick (preferred lambda d best) d best
  unfolding preferred
  kept_more h e l = rw (← hp, ← hq, le-ltb p q h, eq-eqb p q e, le-ltb d.bits best.bits l)

  pub kept_dear : q ≤ p → (p ≡ q → ⊥) → best ≡ pick (preferred lambda d best) d best
  unfolding preferred
  kept_dear h e = rw (← hp, ← hq, le-ltb p q h, ne_eqb p q e)

-- and none that has no room
module _ (lambda room : ℕ) (best d : MbCandidate) where
  abbrev pub keeps : Bool
  keeps = leb d.bits room && preferred lambda d best

  pub kept_in : (r : MbCandidate) → d.bits ≤ room → r ≡ pick (preferred lambda d best) d best → r ≡ pick keeps d best
  kept_in r h e = rw (le-leb d.bits room h) e

  pub kept_out : room < d.bits → best ≡ pick keeps d best
  kept_out h = rw (lt-leb d.bits room h)

pick_choice : (f : Bool) (d c : MbCandidate) → choice_of (pick f d c) ≡ pick f (choice_of d) (choice_of c)
pick_choice true d c = refl
pick_choice false d c = refl

module _ (g : Given) (block : List ℕ) (settings : Settings) (room k : ℕ) (n : Near) where
  pick_stated : (f : Bool) (d c : MbCandidate) → Stated g block k n d → Stated g block k n c → Stated g block k n (pick f d c)
  pick_stated true d c h j = h
  pick_stated false d c h j = j

  preferred-beats : (t : Task) (d c : MbCandidate) → Stated g block k n d → Stated g block k n c → block ≡ target g t k → settings ≡ t.settings
      → preferred settings.lambda d c ≡ beats g t k n (choice_of d) (choice_of c)
  unfolding preferred beats weight_of
  preferred-beats t d c h j eb el = rw (h.bits, h.error, j.bits, j.error, eb, el)

  room_is : (t : Task) (d : MbCandidate) → Stated g block k n d → leb d.bits room ≡ in_room g t k n room (choice_of d)
  unfolding weight_of
  room_is t d h = rw h.bits

  one_kept : (t : Task) (c d : Choice) (o : Bool) → best_of g t k n c (pick o (d ∷ []) []) ≡ pick (o && beats g t k n d c) d c
  unfolding best_of
  one_kept t c d true = refl
  one_kept t c d false = refl

  -- no motion to try, and one
  pub tried-none : (c : MbCandidate) (ms : List Motion) → ms ≡ [] → Stated g block k n c → Tried g block settings room k n ms c c
  unfolding best_of passing
  tried-none c ms e h = record { stated = h; is = λ t eb el. rw e }

  pub tried_one : (m : Motion) (ms : List Motion) (c d r : MbCandidate) → ms ≡ m ∷ [] → Stated g block k n c → Stated g block k n d
      → ((t : Task) → block ≡ target g t k → settings ≡ t.settings → choice_of d ≡ coded_for g t k m)
      → r ≡ pick (keeps settings.lambda room c d) d c → Tried g block settings room k n ms c r
  unfolding passing
  tried_one m ms c d r e hc hd ed er = record {
    stated = rw er (pick_stated (keeps settings.lambda room c d) d c hd hc);
    is = λ t eb el.
        ap choice_of er ∙ pick_choice (keeps settings.lambda room c d) d c
        ∙ rw (e, preferred-beats t d c hd hc eb el, room_is t d hd, ed t eb el) (sym (one_kept t (choice_of c) (coded_for g t k m) (in_room g t k n room (coded_for g t k m))));
  }

  -- ---- all of them
  best_append : (t : Task) (c : Choice) (xs ys : List Choice) → best_of g t k n c (xs ++ ys) ≡ best_of g t k n (best_of g t k n c xs) ys
  unfolding best_of
  best_append t c [] ys = refl
  best_append t c (x ∷ xs) ys = best_append t (pick (beats g t k n x c) x c) xs ys

  map_append : (f : Motion → Choice) (xs ys : List Motion) → map f (xs ++ ys) ≡ map f xs ++ map f ys
  map_append f [] ys = refl
  map_append f (x ∷ xs) ys = ap (λ (l : List Choice). f x ∷ l) (map_append f xs ys)

  abbrev among : Task → List Motion → List Choice
  among t ms = passing (in_room g t k n room) (map (coded_for g t k) ms)

  best_both : (t : Task) (c : Choice) (xs ys : List Motion) → best_of g t k n c (among t (xs ++ ys)) ≡ best_of g t k n (best_of g t k n c (among t xs)) (among t ys)
  best_both t c xs ys =
      ap (λ (l : List Choice). best_of g t k n c (passing (in_room g t k n room) l)) (map_append (coded_for g t k) xs ys)
      ∙ ap (best_of g t k n c) (passing-append (in_room g t k n room) (map (coded_for g t k) xs) (map (coded_for g t k) ys))
      ∙ best_append t c (among t xs) (among t ys)

  -- SKIP first, then one vector, none, and four
  pub chosen_is : (t : Task) (s a b r : MbCandidate) (one none more : List Motion) → block ≡ target g t k → settings ≡ t.settings → choice_of s ≡ skipped
      → Tried g block settings room k n one s a → Tried g block settings room k n none a b → Tried g block settings room k n more b r
      → one ≡ single_tried g t k n → none ≡ still ∷ [] → more ≡ pick t.settings.four (four_tried g t k n) [] → choice_of r ≡ chosen_in g t k n room
  unfolding chosen_in motions_tried
  chosen_is t s a b r one none more eb el es ha hb hr e1 e2 e3 =
      hr.is t eb el
      ∙ rw (hb.is t eb el, ha.is t eb el, es, e1, e2, e3)
      (sym (best_both t skipped (single_tried g t k n) (still ∷ pick t.settings.four (four_tried g t k n) [])
      ∙ best_both t (best_of g t k n skipped (among t (single_tried g t k n))) (still ∷ []) (pick t.settings.four (four_tried g t k n) [])))

-- the error of SKIP, by the reference's block as it was taken
pub skip_error_lem : (g : Given) (k cols e : ℕ) (block here : List ℕ) → cols ≡ blocks_along g.width → e ≡ sse block here → here ≡ part 16 cols k g.reference.samples → e ≡ sse block (reference_block g k)
unfolding reference_block
skip_error_lem g k cols e block here ec ee eh = ee ∙ rw (eh, ec)
