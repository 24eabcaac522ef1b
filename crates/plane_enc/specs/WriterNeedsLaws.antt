-- Laws of the plane writer: one macroblock is one step of the run, the loop's turns, and the call refused or written.
-- Assumes nothing.
use Rattle.std.specs.Prelude.{◌≡◌, refl, Bool, List, ℕ, ◌+◌, ◌*◌, ◌≤◌, ◌<◌, length, Some, None}
use Rattle.std.proofs.Common.{sym, ap, ◌∙◌, arith, add-one}
use Rattle.std.proofs.Math.Bool.{true, false}
use Rattle.std.proofs.Math.Dec.{eqb}
use borrow.Author.Tests.{eq-eqb, ne_eqb, leb-true}
use Rattle.bits.specs.Refusals.{number_of, number_told}
use Rattle.bits.specs.CallsLaws.{refusal_met}
use Rattle.bits.specs.declared.refusal.Refusal.{Refusal}
use Rattle.bits.specs.Basics.{unless, first_of}
use Rattle.bits.specs.BasicsLaws.{unless-none, chain_met, chain_passed}
use Rattle.bits.specs.Bits.{bits_of, put_bits}
use Rattle.bits.specs.BitsLaws.{length_bits_of}
use Rattle.canvas.specs.Canvas.{source_links}
use Rattle.macroblock.specs.Macroblock.{Given, shown, choice_bits}
use Rattle.macroblock.specs.ChoiceLaws.{chosen-fits}
use Rattle.macroblock.specs.MacroblockLaws.{Fine, Good, chosen_good, target_block, near_24}
use Rattle.macroblock.specs.LimitLaws.{skip_fits}
use Rattle.macroblock.specs.Limit.{can_skip_rest}
use Rattle.macroblock.specs.Choice.{Task, target, weight_of}
use Rattle.macroblock.specs.Slices.{Slices, Lent, near, laid}
use Rattle.macroblock.specs.MacroblockNeeds.{Held}
use Rattle.macroblock.specs.MacroblockNeedsLaws.{book_passes, wide}
use Rattle.macroblock_enc.specs.declared.svq1_enc_inter.inner.writing.WrittenMb.{WrittenMb}
use Rattle.macroblock_enc.specs.WrittenNeeds.{MbReady, MbWritten, mb_choice, mb_weight, fits_in}
use Rattle.plane_enc.specs.declared.svq1_enc_inter.WriteEnd.{WriteEnd}
use Rattle.plane.specs.declared.svq1_plane.inner.SliceLengths.{SliceLengths}
use Rattle.plane.specs.Run.{on, stop}
use Rattle.plane.specs.RunLaws.{set_out, gone_on, ends_early, ends_last}
use Rattle.plane.specs.Plane.{count, Writing, fits, written, to_write, write_step, write_plane}
use Rattle.plane.specs.Refusals.{lent_links, write_refusal_by, write_refusal}
use Rattle.plane.specs.Calls.{PlaneWritten, write_answer, write_out, write_slices}
use Rattle.plane.specs.SlicesLaws.{same_at_first, laid_same, same_held, ranged_laid}
use Rattle.plane_enc.specs.WriterNeeds.{write_end_of, WrittenThrough, Writes, Underway}

-- ---- one macroblock is one step
module _ (g : Given) (t : Task) (k at bits error : ℕ) (l : Lent) (r : WrittenMb) (l' : Lent) (m : MbWritten g t k bits at l r l') where
  abbrev here : Writing
  here = record { out = bits_of l.out; next = at; slices = l.slices; bits = bits; error = error }

  abbrev there : Writing
  there = record { out = bits_of l'.out; next = r.next; slices = l'.slices; bits = bits + r.bits; error = error + r.error }

  abbrev fitting : Bool
  fitting = fits_in (length l.out) at (mb_weight g t k bits l.slices).bits

  same_fit : fits g t k here ≡ fitting
  same_fit = rw (length_bits_of l.out)

  pub fits_if : number_told r.refused ≡ 0 → fitting ≡ true
  fits_if z = unless-none fitting 22 (omega arith) (sym m.refused ∙ z)

  unfit_if : (number_told r.refused ≡ 0 → ⊥) → fitting ≡ false
  unfit_if e = go fitting refl
    where
      go : (q : Bool) → fitting ≡ q → q ≡ false
      go true f = absurd (e (m.refused ∙ ap (λ (b : Bool). unless b 22) f))
      go false f = refl

  pub step_on : number_told r.refused ≡ 0 → write_step g t k here ≡ on there
  unfolding written
  step_on z =
      let f = fits_if z in
      let o : bits_of l'.out ≡ put_bits (bits_of l.out) at (choice_bits g (near g l.slices k) (mb_choice g t k bits l.slices)) = rw f at m.output in
      let n : r.next ≡ at + (mb_weight g t k bits l.slices).bits = rw f at m.next in
      let s : l'.slices ≡ laid g k (mb_choice g t k bits l.slices) l.slices = rw f at m.slices in
      rw (same_fit, f, o, n, s, m.bits, m.error)

  pub step_stop : (number_told r.refused ≡ 0 → ⊥) → write_step g t k here ≡ stop (number_told r.refused)
  step_stop e =
      let f = unfit_if e in
      let c : number_told r.refused ≡ 22 = rw f at m.refused in
      rw (same_fit, f, c)

  pub as_it_was : (number_told r.refused ≡ 0 → ⊥) → (bits_of l'.out ≡ bits_of l.out) × (l'.slices ≡ l.slices)
  as_it_was e =
      let f = unfit_if e in
      (rw f at m.output, rw f at m.slices)

-- ---- the loop
module _ {g : Given} {raised : List ℕ} {t : Task} {start : ℕ} {l₀ : Lent} (w : Writes g raised t start l₀) where
  ok : Fine g t
  ok = record { book = book_passes g raised w.ready.ok; source_bytes = w.source_bytes; reference_bytes = w.reference_bytes }

  pub begun : can_skip_rest t.limit g 0 0 ≡ true → Underway g t start l₀ l₀ 0 start 0 0
  begun enough = record {
    out_same = refl;
    same = same_at_first l₀.slices;
    within = omega (arith, w.ready.from.bits_fit);
    ranged = λ b j l. absurd (omega arith);
    few_bits = omega arith;
    low_error = omega arith;
    skips_rest = enough;
    loop = set_out (write_step g t) (count g) (to_write (bits_of l₀.out) start l₀.slices);
  }

  module _ {l : Lent} {k at bits error : ℕ} (i : Underway g t start l₀ l k at bits error) where
    abbrev u : Slices
    u = l.slices

    held : Held g u
    held = same_held g l₀.slices u i.same w.ready.held

    pub ready : k < count g → MbReady g raised t.source k (length l.out) at u
    ready h = record {
      ok = w.ready.ok;
      held = held;
      number = h;
      samples = w.samples;
      start = record { bytes_fit = rw i.out_same w.ready.from.bytes_fit; bits_fit = omega (arith, i.within) };
      ranged = i.ranged;
    }

    module _ {r : WrittenMb} {l' : Lent} (h : k < count g) (m : MbWritten g t k bits at l r l') where
      good : Good g t ok k (near g u k) (mb_choice g t k bits u)
      good = chosen_good g t ok k (near g u k) bits

      pub few : r.bits ≤ 65536
      unfolding weight_of
      few = omega (arith, m.bits, good.short)

      pub low : r.error ≤ 16777216
      unfolding weight_of
      low = omega (arith, m.error, near_24 (target g t k) (shown g k (mb_choice g t k bits u)) (target_block g t ok k) good.block)

      pub turn : length l'.out ≡ length l.out → number_told r.refused ≡ 0 → Underway g t start l₀ l' (k + 1) r.next (bits + r.bits) (error + r.error)
      turn e z =
          let f = fits_if g t k at bits error l r l' m z in
          let n : r.next ≡ at + (mb_weight g t k bits u).bits = rw f at m.next in
          let room : at + (mb_weight g t k bits u).bits ≤ 8 * length l.out = leb-true (at + (mb_weight g t k bits u).bits) (8 * length l.out) f in
          let s : l'.slices ≡ laid g k (mb_choice g t k bits u) u = rw f at m.slices in
          record {
            out_same = e ∙ i.out_same;
            same = rw s (laid_same g k (mb_choice g t k bits u) l₀.slices u i.same);
            within = omega (arith, n, room, e);
            ranged = λ b. rw (s, add-one k) (ranged_laid g (wide g raised w.ready.ok) b k (mb_choice g t k bits u) u h good.inside (held.blocks_long b) (i.ranged b));
            few_bits = omega (arith, few, i.few_bits);
            low_error = omega (arith, low, i.low_error);
            skips_rest = rw (add-one k, m.bits) (chosen-fits g t k (near g u k) bits (skip_fits g t k (near g u k) bits h i.skips_rest));
            loop = gone_on (write_step g t) (count g) _ k _ i.loop (there g t k at bits error l r l' m) h (step_on g t k at bits error l r l' m z);
          }

      pub stop_early : (number_told r.refused ≡ 0 → ⊥) → WrittenThrough g t start l₀ (record { refused = r.refused; done = k; next = at; bits = bits; error = error }) l'
      unfolding write_plane
      stop_early e =
          let a = as_it_was g t k at bits error l r l' m e in
          ends_early (write_step g t) (count g) _ k _ i.loop (number_told r.refused) h (step_stop g t k at bits error l r l' m e) ∙ rw (a.0, a.1)

    pub stop_last : count g ≤ k → WrittenThrough g t start l₀ (record { refused = None; done = k; next = at; bits = bits; error = error }) l
    unfolding write_plane
    stop_last h = ends_last (write_step g t) (count g) _ k _ i.loop h

-- ---- refusals, by the code's tests
module _ (g : Given) (n bytes start : ℕ) (l : SliceLengths) where
  abbrev before : List ℕ
  before = source_links g.width g.height n g.reference

  pub by_source : (r : Refusal) → number_of r ≡ first_of before → number_of r ≡ write_refusal_by g n bytes start l
  unfolding write_refusal_by
  by_source r e = chain_met (number_of r) before (lent_links g bytes start l) e (refusal_met r (number_of r) refl)

  pub by_lent : (r : ℕ) → first_of before ≡ 0 → r ≡ first_of (lent_links g bytes start l) → r ≡ write_refusal_by g n bytes start l
  unfolding write_refusal_by
  by_lent r z q = chain_passed r before (lent_links g bytes start l) z q

-- ---- the call
module _ (g : Given) (t : Task) (start : ℕ) (l : Lent) where
  abbrev refusal : ℕ
  refusal = write_refusal g t l.out start l.slices

  pub call_refused : (r : Refusal) → number_of r ≡ refusal → PlaneWritten g t start l (write_end_of (record { refused = Some r; done = 0; next = 0; bits = 0; error = 0 })) l
  unfolding write_answer write_out write_slices
  call_refused r e =
      let no : eqb refusal 0 ≡ false = ne_eqb refusal 0 (λ z. refusal_met r refusal e z) in
      record { answer = rw (no, ← e); left_out = rw no; left_slices = rw no }

  pub call_written : (r : WriteEnd) (l' : Lent) → refusal ≡ 0 → WrittenThrough g t start l r l' → PlaneWritten g t start l (write_end_of r) l'
  unfolding write_answer write_out write_slices
  call_written r l' z e =
      let yes : eqb refusal 0 ≡ true = eq-eqb refusal 0 z in
      record { answer = rw (yes, e); left_out = rw (yes, e); left_slices = rw (yes, e) }
