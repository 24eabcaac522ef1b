-- The claim about a whole plane holds: of every accepted plane that is written to its last macroblock.
-- Assumes nothing.
use Rattle.std.specs.Prelude.{◌≡◌, true}
use Rattle.std.proofs.Math.Path.{refl, sym, ap}
use Rattle.std.proofs.Common.{ap₂, ◌∙◌, add-zero, zero-add, add-suc, le_refl, mul-add, length-drop}
use Prim.Native.Nat.{ℕ, zero, suc, ◌+◌, ◌-◌, ◌*◌, ◌%◌, ◌≤◌, ◌<◌}
use native.Mathlib.Omega.{arith}
use Rattle.std.proofs.Math.Nat.{mul-suc}
use mathlib.Core.List.{List}
use Rattle.std.proofs.Math.ListN.{length, take, drop, length-append}
use Rattle.bits.specs.Basics.{All, sum}
use Rattle.bits.specs.Bits.{bits_of}
use Rattle.bits.specs.BitsLaws.{bits_whole}
use Rattle.bits.specs.Calls.{start_refusal}
use Rattle.leaf.specs.Leaf.{sse}
use Rattle.mv_cache.specs.Grid.{part}
use Rattle.mv_cache.specs.GridLaws.{part_own, part_other, agree_whole, agree_take}
use Rattle.mv_cache.specs.NeighboursLaws.{Ranged, Around, around}
use Rattle.tree.specs.Plan.{Weight}
use Rattle.plan.specs.PlanClaim.{largest_lambda}
use Rattle.macroblock.specs.declared.svq1_enc_inter.Svq1MbMode.TheVariants.{Skip}
use Rattle.macroblock.specs.Macroblock.{Given, cols, rows, Choice, shown, reference_block, mode_bits, choice_bits}
use Rattle.macroblock.specs.Limit.{can_skip_rest}
use Rattle.macroblock.specs.Choice.{Task, padded_source, target_of, target, motions_tried, fitting, weight_of}
use Rattle.bits.specs.ListLaws.{all_any}
use Rattle.macroblock.specs.MacroblockLaws.{Good, chosen_good, chosen_least, under_skip, unpruned}
use Rattle.macroblock.specs.LimitLaws.{skip_fits}
use Rattle.macroblock.specs.MacroblockNeedsLaws.{four_each}
use Rattle.macroblock.specs.Reading.{read_macroblock}
use Rattle.plane.specs.Run.{on, End, after}
use Rattle.plane.specs.RunLaws.{run_on}
use Rattle.macroblock.specs.Slices.{Slices, BlockSlice, x_slice, y_slice, blocks_in, near, laid}
use Rattle.plane.specs.Plane.{count, Writing, wrote, wrote_weight, wrote_bits, written, write_plane, ReadingState, taken, read_step, read_up_to, read_plane}
use Rattle.plane.specs.Refusals.{slices_refusal}
use Rattle.plane.specs.RefusalsLaws.{lent_passes, read_passes, results_pass}
use Rattle.plane.specs.LimitLaws.{skip_rest_at}
use Rattle.plane.specs.SlicesLaws.{SizedSlices, holds_recon, laid_sized, ranged_laid, Alike, alike_laid, alike_near, laid_past}
use Rattle.claim.specs.SumLaws.{sse_blocks}
use Rattle.claim.specs.OutputLaws.{reached, appended, only_appends, held, stands_in}
use Rattle.claim.specs.Claim.{ReadBack, state_at, final, mode_cost, Claim, Claimed}
use Rattle.claim.specs.AcceptedLaws.{AcceptedPlane, accepted, slices_sized, padded_size}

module _ (g : Given) (t : Task) (ok : AcceptedPlane g t) (bits : List ℕ) (even : length bits % 8 ≡ 0) (start : ℕ) (a : Slices) (sized : SizedSlices g a)
    (whole : (write_plane g t bits start a).refusal ≡ 0) where
  abbrev S : ℕ → Writing
  S = state_at g t bits start a

  abbrev W : ℕ → Choice
  W k = wrote g t k (S k)

  abbrev weigh : ℕ → Weight
  weigh k = wrote_weight g t k (S k)

  abbrev E : Writing
  E = final g t bits start a

  good : (k : ℕ) → Good g t ok.fine k (near g (S k).slices k) (W k)
  good k = chosen_good g t ok.fine k (near g (S k).slices k) (S k).bits

  erring : (k : ℕ) → (weigh k).err ≡ sse (target g t k) (shown g k (W k))
  unfolding weight_of
  erring k = refl

  -- ---- the slices
  pub sized_at : (k : ℕ) → SizedSlices g (S k).slices
  unfolding after written
  sized_at zero = sized
  sized_at (suc k) = laid_sized g ok.wide k (W k) (S k).slices (sized_at k)

  -- every vector stored is in -32..31, and so every predictor of the run (refusal 9 is never met)
  ranged : (b : BlockSlice) (k : ℕ) → k ≤ count g → Ranged (cols g) k (blocks_in b (S k).slices)
  unfolding after written
  ranged b zero h = λ j l. absurd (omega arith)
  ranged b (suc k) h = ranged_laid g ok.wide b k (W k) (S k).slices h (good k).inside ((sized_at k).blocks b) (ranged b k (omega arith))

  pub all_around : (k : ℕ) → k ≤ count g → Around (near g (S k).slices k)
  all_around k h = around (cols g) (rows g) k (S k).slices.vx (S k).slices.vy (ranged x_slice k h) (ranged y_slice k h)

  -- any slices with the first k macroblocks laid
  shown_to : Slices → ℕ → Slices
  shown_to d zero = d
  shown_to d (suc k) = laid g k (W k) (shown_to d k)

  shown_sized : (d : Slices) → SizedSlices g d → (k : ℕ) → SizedSlices g (shown_to d k)
  unfolding shown_to
  shown_sized d z zero = z
  shown_sized d z (suc k) = laid_sized g ok.wide k (W k) (shown_to d k) (shown_sized d z k)

  never : (j : ℕ) {X : Type 0} → j < 0 → X
  never j h = absurd (omega arith)

  alike : (d : Slices) → SizedSlices g d → (k : ℕ) → k ≤ count g → Alike g ok.wide k (shown_to d k) (S k).slices
  unfolding shown_to after written
  alike d z zero h = record { recon = λ j l. never _ l; blocks = λ b j l. never _ l }
  alike d z (suc k) h =
      alike_laid g ok.wide k (W k) (shown_to d k) (S k).slices h (shown_sized d z k) (sized_at k) (alike d z k (omega arith))

  past : (b : BlockSlice) (d : Slices) (k : ℕ) → k ≤ count g → drop (4 * count g) (blocks_in b (shown_to d k)) ≡ drop (4 * count g) (blocks_in b d)
  unfolding shown_to
  past b d zero h = refl
  past b d (suc k) h = laid_past g ok.wide b k (W k) (shown_to d k) h ∙ past b d k (omega arith)

  -- the writer's slices are its own with every macroblock laid
  slices_are : (k : ℕ) → (S k).slices ≡ shown_to a k
  unfolding shown_to after written
  slices_are zero = refl
  slices_are (suc k) = ap (laid g k (W k)) (slices_are k)

  pub rest : (b : BlockSlice) → drop (4 * count g) (blocks_in b E.slices) ≡ drop (4 * count g) (blocks_in b a)
  rest b = ap (λ (u : Slices). drop (4 * count g) (blocks_in b u)) (slices_are (count g)) ∙ past b a (count g) (le_refl (count g))

  -- ---- reading back
  abbrev R : Slices → ℕ → ReadingState
  R d k = record { next = (S k).next; slices = shown_to d k }

  -- the reader over bits that begin as the output does
  module _ (xs : List ℕ) (begin : take E.next xs ≡ take E.next E.out) (d : Slices) (z : SizedSlices g d) where
    read_one : (k : ℕ) → k < count g → read_step g xs k (R d k) ≡ on (R d (suc k))
    unfolding read_step shown_to
    read_one k h =
        let here = stands_in g t bits even start a whole xs begin k h in
        let r : List ℕ = here.0 in
        let p = appended g t bits even start a whole k h in
        let len : length xs - (S k).next ≡ length (wrote_bits g t k (S k)) + length r =
        sym (length-drop (S k).next xs) ∙ ap length here.1 ∙ length-append (wrote_bits g t k (S k)) r in
        let nx : length xs - length r ≡ (S (suc k)).next = omega (arith, here.2, p.next, p.stated) in
        ap (taken g (length xs) k (shown_to d k))
        (ap₂ (read_macroblock g) (alike_near g ok.wide k (shown_to d k) (S k).slices (alike d z k (omega arith))) here.1 ∙ (good k).reads r)
        ∙ ap (λ (i : ℕ). on (record { next = i; slices = laid g k (W k) (shown_to d k) })) nx

    read_to : (k : ℕ) → k ≤ count g → read_up_to g xs start d k ≡ record { refusal = 0; done = k; state = R d k }
    unfolding after shown_to read_up_to
    read_to k h =
        run_on (read_step g xs) (R d) k 0 (λ j q l. read_one j (omega arith))
        ∙ ap (λ (i : ℕ). record { refusal = 0; done = i; state = R d i }) (zero-add k)

  pub read_back : (bytes : List ℕ) (d : Slices) → take E.next (bits_of bytes) ≡ take E.next E.out → start_refusal (length bytes) start ≡ 0 → slices_refusal g d ≡ 0 → ReadBack g bytes start d S
  unfolding read_plane
  read_back bytes d e st sl =
      let n : ℕ = count g in
      let z = slices_sized g t ok d sl in
      let x = alike d z n (le_refl n) in
      let zd = shown_sized d z n in
      let ze = sized_at n in
      let to = read_to (bits_of bytes) e d z in
      let f : (read_up_to g (bits_of bytes) start d n).state.slices ≡ shown_to d n = ap (λ (u : End ReadingState). u.state.slices) (to n (le_refl n)) in
      record {
        accepted = read_passes g d (length bytes) start ok.size_passes ok.canvas_passes (lent_passes g d (length bytes) start ok.data_passes sl st);
        goes_on = λ k h. ap (λ (u : End ReadingState). u.refusal) (to k h);
        reads = λ k h. ap (λ (u : End ReadingState). u.done) (to k h);
        same_bit = λ k h. ap (λ (u : End ReadingState). u.state.next) (to k h);
        ends = ap (λ (u : End ReadingState). u.state.next) (to n (le_refl n));
        recon = ap (λ (u : Slices). u.recon) f ∙ agree_whole 16 (cols g) (omega arith) ok.wide (rows g) _ _ x.recon zd.recon ze.recon;
        blocks = λ b.
            ap (λ (u : Slices). take (4 * n) (blocks_in b u)) f
            ∙ agree_take 2 (cols g) (omega arith) ok.wide (rows g) _ _ (x.blocks b) (4 * n) (four_each (rows g) (cols g)) (zd.blocks b) (ze.blocks b);
        rest = λ b. ap (λ (u : Slices). drop (4 * n) (blocks_in b u)) f ∙ past b d n (le_refl n);
      }

  -- ---- errors
  part_later : (m k : ℕ) → suc k + m ≤ count g → part 16 (cols g) k (S (suc k + m)).slices.recon ≡ shown g k (W k)
  unfolding after written laid
  part_later zero k h =
      rw (add-zero (suc k)) (part_own 16 (cols g) (omega arith) ok.wide k (shown g k (W k)) (S k).slices.recon
      (holds_recon g ok.wide (S k).slices (suc k) (omega arith) (sized_at k)) (good k).block.size)
  part_later (suc m) k h =
      rw (add-suc (suc k) m) (part_other 16 (cols g) (omega arith) ok.wide k (suc k + m) (shown g (suc k + m) (W (suc k + m))) (S (suc k + m)).slices.recon
      (holds_recon g ok.wide (S (suc k + m)).slices (suc k) (omega arith) (sized_at (suc k + m))) (omega arith)
      ∙ part_later m k (omega arith))

  pub error_is : (k : ℕ) → k < count g → (weigh k).err ≡ sse (target g t k) (part 16 (cols g) k E.slices.recon)
  error_is k h =
      let q : suc k + (count g - suc k) ≡ count g = omega arith in
      erring k ∙ ap (sse (target g t k)) (sym (part_later (count g - suc k) k (omega arith)) ∙ ap (λ (i : ℕ). part 16 (cols g) k (S i).slices.recon) q)

  -- ---- totals
  pub bits_to : (m : ℕ) → (S m).bits ≡ sum (λ k. (weigh k).bits) m
  unfolding after written sum
  bits_to zero = refl
  bits_to (suc m) = ap (λ (i : ℕ). i + (weigh m).bits) (bits_to m)

  pub errors_to : (m : ℕ) → (S m).error ≡ sum (λ k. (weigh k).err) m
  unfolding after written sum
  errors_to zero = refl
  errors_to (suc m) = ap (λ (i : ℕ). i + (weigh m).err) (errors_to m)

  -- ---- against skipping
  abbrev skip_error : ℕ → ℕ
  skip_error k = sse (target g t k) (reference_block g k)

  abbrev skip_length : ℕ
  skip_length = length (mode_bits g Skip)

  module _ (low : t.settings.lambda ≤ largest_lambda) where
    pub cheapest : (k : ℕ) → All (λ c. mode_cost g t bits start a k (W k) ≤ mode_cost g t bits start a k c) (fitting g t k (near g (S k).slices k) (S k).bits)
    cheapest k = chosen_least g t ok.fine low k (near g (S k).slices k) (S k).bits

    module _ (enough : can_skip_rest t.limit g 0 0 ≡ true) where
      below_skip : (k : ℕ) → k < count g → (weigh k).err + t.settings.lambda * (weigh k).bits ≤ skip_error k + t.settings.lambda * skip_length
      unfolding weight_of choice_bits shown
      below_skip k h = under_skip g t ok.fine low k (near g (S k).slices k) (S k).bits (skip_fits g t k (near g (S k).slices k) (S k).bits h (skip_rest_at g t enough bits start a k (omega arith)))

      below_skipping : (m : ℕ) → m ≤ count g → (S m).error + t.settings.lambda * (S m).bits ≤ sum skip_error m + t.settings.lambda * (skip_length * m)
      unfolding after written sum
      below_skipping zero h = omega arith
      below_skipping (suc m) h = rw (mul-add, mul-suc, mul-add) (omega (arith, below_skipping m (omega arith), below_skip m h))

      pub never_above : E.error + t.settings.lambda * E.bits ≤ sse (padded_source g.width g.height t.source) g.reference.samples + t.settings.lambda * (skip_length * count g)
      unfolding target_of reference_block
      never_above =
          rw (sse_blocks 16 (cols g) (omega arith) ok.wide (padded_source g.width g.height t.source) g.reference.samples (rows g) (padded_size g.width g.height t.source) ok.reference_size)
          at (below_skipping (count g) (le_refl (count g)))

-- the claim holds of every accepted plane, written into any output of whole bytes
pub claimed_from : (g : Given) (t : Task) → AcceptedPlane g t → (bits : List ℕ) → length bits % 8 ≡ 0 → (start : ℕ) (a : Slices) → slices_refusal g a ≡ 0
    → can_skip_rest t.limit g 0 0 ≡ true → t.settings.lambda ≤ largest_lambda → (write_plane g t bits start a).refusal ≡ 0 → Claim g t bits start a
claimed_from g t ok bits even start a fits enough low whole =
    let sized = slices_sized g t ok a fits in
    let kept = only_appends g t bits even start a whole (count g) (le_refl (count g)) in
    record {
      reaches = reached g t bits even start a whole;
      appends = appended g t bits even start a whole;
      holds = held g t bits even start a whole;
      before = kept.before;
      error = error_is g t ok bits even start a sized whole;
      bit_total = bits_to g t ok bits even start a sized whole (count g);
      error_total = errors_to g t ok bits even start a sized whole (count g);
      next_bit = kept.next;
      rest = rest g t ok bits even start a sized whole;
      read_back = read_back g t ok bits even start a sized whole;
      no_pruning_cheaper = λ k h. all_any _ (motions_tried g t k _) (λ m. unpruned g t ok.fine low k m);
      no_mode_cheaper = λ k h. cheapest g t ok bits even start a sized whole low k;
      never_above_skipping = never_above g t ok bits even start a sized whole low enough;
      within_allowance = skip_rest_at g t enough bits start a;
    }

-- the claim holds of every plane
pub claimed : (g : Given) (t : Task) (out : List ℕ) (start : ℕ) (a : Slices) → Claimed g t out start a
claimed g t out start a enough mem e =
    claimed_from g t (accepted g t (length out) start a mem e) (bits_of out) (bits_whole out) start a (results_pass g a (length out) start (length t.source) e).0 enough
