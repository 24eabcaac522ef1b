-- Laws of writing a macroblock.
-- Assumes nothing.
use Rattle.std.specs.Prelude.{◌≡◌, refl, Bool, true, false, List, ◌++◌, ℕ, ◌+◌, ◌*◌, ◌≤◌, ◌<◌, length, Some, None}
use Rattle.std.proofs.Common.{sym, ◌∙◌, arith, le-leb, length-append}
use Rattle.std.proofs.Math.Path.{ap}
use Rattle.std.proofs.lemmas.Bool.{lt-leb}
use Rattle.bits.specs.declared.refusal.Refusal.TheVariants.{NoRoom}
use Rattle.bits.specs.BitNeeds.{Fits, Wrote}
use Rattle.book.specs.Book.{tables_of}
use Rattle.book.specs.declared.svq1_vlc.Svq1Half.{Svq1Half}
use Rattle.mv_cache.specs.Neighbours.{Near}
use Rattle.tree.specs.NodeForms.{tree_of}
use Rattle.tree.specs.TreeBits.{Node, tree_bits}
use Rattle.tree.specs.WalkNeeds.{SoundTree, TreeRoom}
use Rattle.macroblock_choice.specs.declared.svq1_enc_inter.inner.candidates.MbCandidate.{MbCandidate}
use Rattle.macroblock.specs.declared.svq1_enc_inter.Svq1MbMode.{Svq1MbMode}
use Rattle.canvas.specs.declared.svq1_plane.Svq1PlaneCanvas.{Svq1PlaneCanvas}
use Rattle.macroblock.specs.Macroblock.{Motion, skipped, coded, mode_of, half_of, vectors_of, motion_bits, mode_bits, choice_bits}
use Rattle.macroblock.specs.MacroblockLaws.{Codables}
use Rattle.macroblock.specs.MotionForms.{motion_of}
use Rattle.macroblock.specs.MacroblockNeeds.{given_by, by_book}
use Rattle.macroblock.specs.LayingNeeds.{choice_by, LaysChoice}
use Rattle.macroblock.specs.LayLaws.{laid_is}
use Rattle.macroblock_bits.specs.CodingNeedsLaws.{first_fits, second_fits}
use Rattle.macroblock_choice.specs.CandidateNeeds.{skips, choice_of}
use Rattle.macroblock_enc.specs.WrittenNeeds.{Codes, CodedRoom, PutReady, LaysCandidate, WriteReady, CandidateWritten, CandidateLaid}
use Rattle.macroblock.specs.Slices.{Slices}

-- ---- vectors and tree
module _ (book : List ℕ) (n : Near) (m : Motion) (t : List Node) (bytes at : ℕ) (r : CodedRoom book n m t bytes at) where
  pub motion_fits : Fits bytes at (length (motion_bits (by_book book) n m))
  motion_fits = first_fits (motion_bits (by_book book) n m) (tree_bits (tables_of book (half_of m)) t) r.room

pub tree_room : (book : List ℕ) (n : Near) (m : Motion) (t : List Node) (h : Svq1Half) (out mid : List ℕ) (at next bytes : ℕ)
    → CodedRoom book n m t (length out) at → h ≡ half_of m → Wrote out at (motion_bits (by_book book) n m) next mid → bytes ≡ length out → TreeRoom book h t bytes next
tree_room book n m t h out mid at next bytes r e w s = rw e (record {
  passes = r.passes;
  sound = r.sound;
  room = second_fits (motion_bits (by_book book) n m) (tree_bits (tables_of book (half_of m)) t) r.room w s;
})

-- ---- SKIP or not
module _ (c : MbCandidate) where
  abbrev m : Motion
  m = motion_of c.motion c.vectors

  abbrev t : List Node
  t = tree_of c.blocks

  pub is_skipped : skips c.mode ≡ true → choice_of c ≡ skipped
  is_skipped e = rw e

  pub is_coded : skips c.mode ≡ false → choice_of c ≡ coded m t
  is_coded e = rw e

  -- ---- its bits
  module _ (book : List ℕ) (n : Near) where
    abbrev tail : List ℕ
    tail = motion_bits (by_book book) n m ++ tree_bits (tables_of book (half_of m)) t

    pub skip_bits_lem : c.mode ≡ mode_of (choice_of c) → skips c.mode ≡ true → choice_bits (by_book book) n (choice_of c) ≡ mode_bits (by_book book) c.mode
    unfolding choice_bits
    skip_bits_lem e s =
        let q = is_skipped s in
        ap (choice_bits (by_book book) n) q ∙ ap (mode_bits (by_book book)) (sym (e ∙ ap mode_of q))

    pub coded_bits_lem : c.mode ≡ mode_of (choice_of c) → skips c.mode ≡ false → choice_bits (by_book book) n (choice_of c) ≡ mode_bits (by_book book) c.mode ++ tail
    unfolding choice_bits
    coded_bits_lem e s =
        let q = is_coded s in
        ap (choice_bits (by_book book) n) q ∙ ap (λ (x : Svq1MbMode). mode_bits (by_book book) x ++ tail) (sym (e ∙ ap mode_of q))

    codes_coded : skips c.mode ≡ false → Codes n (choice_of c) → Codables n m × SoundTree (half_of m) t
    codes_coded s h = rw (is_coded s) at h

    mode_long : (b : Bool) → skips c.mode ≡ b → c.mode ≡ mode_of (choice_of c) → length (mode_bits (by_book book) c.mode) ≤ length (choice_bits (by_book book) n (choice_of c))
    mode_long true s e = rw (skip_bits_lem e s) (omega arith)
    mode_long false s e = rw (coded_bits_lem e s) (omega (arith, length-append (mode_bits (by_book book) c.mode) tail))

    module _ (bytes at : ℕ) (r : PutReady book n c bytes at) where
      pub mode_fits : Fits bytes at (length (mode_bits (by_book book) c.mode))
      mode_fits = record { bytes_fit = r.room.bytes_fit; bits_fit = omega (arith, r.room.bits_fit, mode_long (skips c.mode) refl r.mode) }

    pub coded_room : (out mid : List ℕ) (at next bytes : ℕ) → PutReady book n c (length out) at → skips c.mode ≡ false
        → Wrote out at (mode_bits (by_book book) c.mode) next mid → bytes ≡ length out → CodedRoom book n m t bytes next
    coded_room out mid at next bytes r s w e = record {
      passes = r.passes;
      codable = (codes_coded s r.codes).0;
      sound = (codes_coded s r.codes).1;
      room = second_fits (mode_bits (by_book book) c.mode) tail (rw (coded_bits_lem r.mode s) at r.room) w e;
    }

-- ---- what it lays
pub lays_candidate : (v : Svq1PlaneCanvas) (reference raised : List ℕ) (k : ℕ) (c : MbCandidate) (f : Bool) (u w : Slices) → f ≡ skips c.mode → c.vectors ≡ vectors_of (choice_of c)
    → LaysChoice v reference raised k (choice_by f (motion_of c.motion c.vectors) (tree_of c.blocks)) c.vectors u w
    → LaysCandidate v reference raised k c u w
lays_candidate v reference raised k c f u w e ev l book codebook b h =
    laid_is (given_by v reference book codebook) k (choice_of c) u w c.vectors ev (rw e at (l book codebook b h))

-- ---- a candidate, where it fits
module _ (book : List ℕ) (n : Near) (c : MbCandidate) (out : List ℕ) (at : ℕ) (w : WriteReady book n c (length out) at) where
  pub put_ready : at + c.bits ≤ 8 * length out → PutReady book n c (length out) at
  put_ready h = record {
    passes = w.passes;
    mode = w.mode;
    codes = w.codes;
    differs = w.differs;
    room = record { bytes_fit = w.start.bytes_fit; bits_fit = omega (arith, w.bits) };
  }

  pub wrote_candidate : (next : ℕ) (left : List ℕ) → at + c.bits ≤ 8 * length out → Wrote out at (choice_bits (by_book book) n (choice_of c)) next left
      → CandidateWritten book n c out at (record { refused = None; mode = c.mode; bits = c.bits; error = c.error; next = next }) left
  wrote_candidate next left h o =
      let f = le-leb (at + c.bits) (8 * length out) h in
      record { mode = refl; bits = refl; error = refl; refused = rw f; next = rw f (o.behind ∙ ap (λ (i : ℕ). at + i) (sym w.bits)); output = rw f o.bits }

  pub wrote_nothing : 8 * length out < at + c.bits
      → CandidateWritten book n c out at (record { refused = Some NoRoom; mode = c.mode; bits = c.bits; error = c.error; next = at }) out
  wrote_nothing h =
      let f = lt-leb (at + c.bits) (8 * length out) h in
      record { mode = refl; bits = refl; error = refl; refused = rw f; next = rw f; output = rw f }

module _ (v : Svq1PlaneCanvas) (reference raised : List ℕ) (k : ℕ) (c : MbCandidate) (bytes at : ℕ) (u : Slices) where
  pub laid_candidate : (w : Slices) → at + c.bits ≤ 8 * bytes → LaysCandidate v reference raised k c u w
      → CandidateLaid v reference raised k c bytes at u w
  laid_candidate w h l book codebook b e = rw (le-leb (at + c.bits) (8 * bytes) h) (l book codebook b e)

  pub laid-nothing : 8 * bytes < at + c.bits → CandidateLaid v reference raised k c bytes at u u
  laid-nothing h book codebook b e = rw (lt-leb (at + c.bits) (8 * bytes) h)
