-- Laws of writing a macroblock: what is chosen can be written, and what is written is what was chosen.
-- Assumes nothing.
use Rattle.std.specs.Prelude.{◌≡◌, false, List, ℕ, ◌-◌, ◌*◌, ◌≤◌, length, Option}
use Rattle.std.proofs.Common.{sym, ◌∙◌, arith, mul-le-mul}
use Rattle.std.proofs.Math.Path.{ap}
use Rattle.bits.specs.Basics.{All, Bytes}
use Rattle.codebook.specs.CodebookFormsLaws.{raised-length}
use Rattle.mv_cache.specs.Neighbours.{Near}
use Rattle.mv_cache.specs.NeighboursLaws.{Around, around}
use Rattle.tree.specs.NodeForms.{tree_of}
use Rattle.plan.specs.SoundLaws.{plan_sound}
use Rattle.tree.specs.WalkNeeds.{SoundTree}
use Rattle.macroblock_choice.specs.declared.svq1_enc_inter.inner.candidates.MbCandidate.{MbCandidate}
use Rattle.canvas.specs.Canvas.{largest_side, blocks_along}
use Rattle.canvas.specs.declared.svq1_plane.Svq1PlaneCanvas.{Svq1PlaneCanvas}
use Rattle.macroblock.specs.declared.svq1_enc_inter.Settings.{Settings}
use Rattle.macroblock.specs.declared.svq1_enc_inter.Svq1MbMode.TheVariants.{Skip}
use Rattle.macroblock.specs.Macroblock.{Given, cols, rows, Motion, coded, mode_of, half_of, mode_bits}
use Rattle.bits.specs.ListLaws.{all_map}
use Rattle.macroblock.specs.MacroblockLaws.{Fine, Good, tried_good, Codables, planned_for, motions_codable}
use Rattle.macroblock.specs.LimitLaws.{skip_fits}
use Rattle.macroblock.specs.Choice.{Task, planning_for, motions_tried, tried, weight_of}
use Rattle.macroblock.specs.MotionForms.{motion_of}
use Rattle.macroblock.specs.Slices.{Slices, lent_by, x_slice, y_slice, near}
use Rattle.macroblock.specs.MacroblockNeeds.{given_by}
use Rattle.macroblock.specs.MacroblockNeedsLaws.{fits, book_passes, stands, vectors_held, recon_held}
use Rattle.macroblock_choice.specs.CandidateNeeds.{skips, choice_of, coded_for}
use Rattle.macroblock_choice.specs.RoomLaws.{room_one, room_limit}
use Rattle.macroblock_choice.specs.CandidateNeedsLaws.{choice_of_book}
use Rattle.macroblock_enc.specs.WrittenNeedsLaws.{is_coded}
use Rattle.macroblock_enc.specs.declared.svq1_enc_inter.inner.writing.WrittenMb.{WrittenMb}
use Rattle.macroblock_enc.specs.declared.svq1_enc_inter.inner.limit.BitLimit.{BitLimit}
use Rattle.macroblock_enc.specs.LimitForms.{limit_of, room_under, Reserving, Spends}
use Rattle.macroblock_enc.specs.LimitFormsLaws.{reserved, allows}
use Rattle.macroblock_enc.specs.WrittenNeeds.{Codes, LayReady, WriteReady, CandidateWritten, CandidateLaid, MbReady, mb_choice, mb_weight, MbWritten}
use Rattle.macroblock_choice.specs.ChosenNeeds.{task_in, Sourced, ChosenBy}

-- ---- what is chosen can be written
module _ (g : Given) (t : Task) (ok : Fine g t) (k : ℕ) (n : Near) where
  coded_codes : (m : Motion) → Codables n m → Codes n (coded_for g t k m)
  unfolding planning_for
  coded_codes m h = (h, plan_sound (planning_for g t k m) (planned_for g t ok k m))

  tried_codes : All (Codes n) (tried g t k n)
  unfolding tried
  tried_codes = (tt, all_map (Codables n) (Codes n) (coded_for g t k) (motions_tried g t k n) coded_codes (motions_codable g t ok k n))

-- ---- a macroblock written, by what was chosen and what was done with it
module _ (g : Given) (raised source : List ℕ) (k bytes at : ℕ) (s : Slices) (ready : MbReady g raised source k bytes at s) where
  pub sourced : Sourced g raised source k
  sourced = record { ok = ready.ok; number = ready.number; samples = ready.samples }

  pub near-around : Around (near g s k)
  near-around = around (cols g) (rows g) k s.vx s.vy (ready.ranged x_slice) (ready.ranged y_slice)

  few_blocks : rows g * cols g ≤ 4294967296
  few_blocks =
      let f = fits g raised ready.ok in
      let c : cols g ≤ blocks_along largest_side = omega (arith, f.width.most) in
      let r : rows g ≤ blocks_along largest_side = omega (arith, f.height.most) in
      omega (arith, mul-le-mul r c)

  pub reserving : (limit : Option BitLimit) (spent : ℕ) → Spends g limit k spent → Reserving g.book limit (cols g) (rows g) k spent
  reserving limit spent x = record {
    passes = book_passes g raised ready.ok;
    number = ready.number;
    small = few_blocks;
    stays = reserved g k spent ready.number limit few_blocks x;
  }

module _ (v : Svq1PlaneCanvas) (reference book codebook raised source : List ℕ) (settings : Settings) (limit : Option BitLimit) (spent k at : ℕ) (out : List ℕ) (s : Slices)
    (ready : MbReady (given_by v reference book codebook) raised source k (length out) at s) (source_bytes : Bytes source) (reference_bytes : Bytes reference) (spends : Spends (given_by v reference book codebook) limit k spent) where
  abbrev g : Given
  g = given_by v reference book codebook

  abbrev t : Task
  t = task_in source settings (limit_of limit)

  all_fine : Fine g t
  all_fine = record { book = book_passes g raised ready.ok; source_bytes = source_bytes; reference_bytes = reference_bytes }

  module _ (n : Near) (en : n ≡ near g s k) (c : MbCandidate) (room : ℕ) (er : room ≡ room_under limit spent (length (mode_bits g Skip)) (rows g * cols g - k - 1)) (h : ChosenBy g t room k n c) where
    codes_it : Codes n (choice_of c)
    codes_it = rw h.is (room_one g t all_fine k n room (Codes n) (tried_codes g t all_fine k n))

    good_it : Good g t all_fine k n (choice_of c)
    good_it = rw h.is (room_one g t all_fine k n room (Good g t all_fine k n) (tried_good g t all_fine k n))

    chosen_it : choice_of c ≡ mb_choice g t k spent s
    chosen_it =
        h.is ∙ room_limit g t all_fine k n room spent (allows g k spent ready.number limit room spends er) (skip_fits g t k n spent ready.number spends.skips_rest) ∙ rw en

    pub write_ready : WriteReady book n c (length out) at
    write_ready = record {
      passes = book_passes g raised ready.ok;
      mode = h.stated.mode;
      codes = codes_it;
      differs = h.stated.differs;
      bits = h.stated.bits ∙ ap length (sym (choice_of_book g n (choice_of c)));
      few = omega (arith, h.stated.bits, good_it.short);
      start = ready.start;
    }

    sound_it : skips c.mode ≡ false → SoundTree (half_of (motion_of c.motion c.vectors)) (tree_of c.blocks)
    sound_it e = let z : Codes n (coded (motion_of c.motion c.vectors) (tree_of c.blocks)) = rw (is_coded c e) at codes_it in z.1

    pub lay_ready : LayReady v reference (length raised) k c s
    lay_ready =
        let f = fits g raised ready.ok in
        record {
          shows = record { place = stands g raised ready.ok k ready.number; copy = ap length ready.ok.copy ∙ raised-length g.codebook; sound = sound_it };
          lays = record {
            stride_is = f.stride;
            rows_are = f.rows;
            recon_room = recon_held g raised ready.ok s ready.held k ready.number;
            vectors_room = vectors_held g raised ready.ok s ready.held;
            number = ready.number;
            inside = rw h.stated.vectors good_it.inside;
          };
          vectors = h.stated.vectors;
        }

    pub mb_written : (r : WrittenMb) (left : List ℕ) (u : Slices) → Bytes codebook → CandidateWritten book n c out at r left
        → CandidateLaid v reference raised k c (length out) at s u
        → MbWritten g t k spent at (lent_by out s) r (lent_by left u)
    unfolding weight_of
    mb_written r left u bytes w l =
        let ec = chosen_it in
        let eb : c.bits ≡ (mb_weight g t k spent s).bits = h.stated.bits ∙ rw (ec, en) in
        let ee : c.error ≡ (mb_weight g t k spent s).err = h.stated.error ∙ rw ec in
        record {
          mode = w.mode ∙ h.stated.mode ∙ ap mode_of ec;
          bits = w.bits ∙ eb;
          error = w.error ∙ ee;
          refused = rw eb at w.refused;
          next = rw eb at w.next;
          output = w.output ∙ rw (eb, choice_of_book g n (choice_of c), ec, en);
          slices = l book codebook bytes ready.ok.copy ∙ rw (eb, ec);
        }
