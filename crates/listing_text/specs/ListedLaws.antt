-- Laws of the listing of a plane: its lines are those of its macroblocks. Assumes nothing.
use Prim.Native.Nat.{ℕ, zero, suc, ◌+◌, ◌*◌, ◌/◌, ◌≤◌, ◌<◌, min}
use Rattle.std.specs.Prelude.{◌≡◌, Bool, take, replicate, None, Some}
use Rattle.std.proofs.Math.Path.{refl, ap}
use Rattle.std.proofs.Common.{◌∙◌, le_refl, length-append, get_or-append-add, eq-eqb, ne_eqb, eqb-true}
use Rattle.std.proofs.Math.Bool.{true, false}
use mathlib.Core.List.{List, ◌∷◌, ◌++◌, append_assoc}
use native.Mathlib.Omega.{arith}
use Rattle.std.proofs.Math.Decide.{dec_lt}
use Rattle.std.proofs.Math.Dec.{eqb}
use Rattle.std.proofs.Math.ListN.{length, drop, get_or, get_or-append}
use Rattle.std.proofs.lemmas.List.{length-replicate}
use Rattle.bits.specs.Basics.{pick}
use Rattle.bits.specs.declared.refusal.Refusal.{Refusal}
use Rattle.bits.specs.Refusals.{number_of, number_told}
use Rattle.bits.specs.CallsLaws.{refusal_met}
use Rattle.bits.specs.BasicsLaws.{or_next}
use Rattle.bits.specs.Bits.{bits_of}
use Rattle.canvas.specs.Canvas.{size_refusal, canvas_refusal}
use Rattle.canvas.specs.CanvasLaws.{Fitting, plane_passes}
use Rattle.macroblock.specs.declared.svq1_enc_inter.Svq1MbMode.{Svq1MbMode}
use Rattle.macroblock.specs.declared.svq1_enc_inter.Svq1MbMode.TheVariants.{Inter, Inter4Mv, Intra, Skip}
use Rattle.macroblock.specs.Mode.{mode_position}
use Rattle.macroblock.specs.Macroblock.{Given, cols, rows}
use Rattle.macroblock.specs.Choice.{Task}
use Rattle.macroblock.specs.Slices.{Slices, slices_by, Lent, lent_by}
use Rattle.plane_enc.specs.declared.svq1_enc_inter.WriteEnd.{WriteEnd}
use Rattle.plane.specs.Run.{End, after}
use Rattle.plane.specs.RunLaws.{RunStands, run_stands}
use Rattle.plane.specs.Plane.{count, Writing, step_stated, fits, written, to_write, write_plane, writing_at}
use Rattle.plane.specs.Refusals.{write_refusal}
use Rattle.plane.specs.RefusalsLaws.{write_accepted}
use Rattle.plane.specs.Calls.{PlaneAnswer, PlaneWritten, written_answer, write_answer, write_slices}
use Rattle.plane_enc.specs.WriterNeeds.{write_end_of}
use Rattle.plane_enc.specs.Stated.{three_of, stated_to, stated_in, PlaneStated}
use Rattle.listing_job.specs.Job.{most_width, most_height}
use Rattle.visible_error.specs.Visible.{ShownPlane, visible_error, visible_total}
use Rattle.listing_text.specs.Listing.{output_bytes, mode_name, no_slices, plane_showing, listed_end, listed_plane, macroblock_line, lines_to, total_line, refused_text, text_with, text_into, plane_text}
use Rattle.listing_text.specs.LineForms.{ListedPut, name_at, line_text, listing_line_at, lines_from}
use Rattle.listing_text.specs.LineFormsLaws.{put_two}
use Rattle.listing_text.specs.Listed.{listing_room, most_blocks, Listable, Fresh, EmptyFor, ListedReady, end_text}
use Rattle.listing_text.specs.FilesLaws.{count_small, area_small}

-- ---- what is stated of the macroblocks gives their lines
-- a mode's position stands for its name
name_is : (m : Svq1MbMode) → name_at (mode_position m) ≡ mode_name m
name_is Inter = refl
name_is Inter4Mv = refl
name_is Intra = refl
name_is Skip = refl

module _ (g : Given) (t : Task) (out : List ℕ) (start : ℕ) (s : Slices) where
  abbrev three : ℕ → List ℕ
  three k = three_of (step_stated g t k (writing_at g t out start s k))

  stated_long : (n : ℕ) → length (stated_to g t out start s n) ≡ 3 * n
  unfolding stated_to
  stated_long zero = refl
  stated_long (suc n) = rw (length-append, stated_long n) (omega arith)

  -- the numbers of macroblock k among those of the first n
  stated_at : (n k i : ℕ) (rest : List ℕ) → k < n → i < 3 → get_or (stated_to g t out start s n ++ rest) (3 * k + i) 0 ≡ get_or (three k) i 0
  unfolding stated_to
  stated_at zero k i rest h l = absurd (omega arith)
  stated_at (suc n) k i rest h l = rw append_assoc (go (dec_lt k n) (λ q. stated_at n k i (three n ++ rest) q l))
    where
      go : Dec (k < n) → (k < n → get_or (stated_to g t out start s n ++ (three n ++ rest)) (3 * k + i) 0 ≡ get_or (three k) i 0)
          → get_or (stated_to g t out start s n ++ (three n ++ rest)) (3 * k + i) 0 ≡ get_or (three k) i 0
      go (yes q) next = next q
      go (no q) next =
          let e : n ≡ k = omega arith in
          let place : 3 * k + i ≡ length (stated_to g t out start s n) + i = omega (arith, stated_long n) in
          rw (place, get_or-append-add) (get_or-append (three n) rest 0 i l ∙ ap (λ (m : ℕ). get_or (three m) i 0) e)

  -- in a list with room for n macroblocks
  stated_in_lem : (held : List ℕ) (n : ℕ) → 3 * n ≤ length held → stated_in g t out start s held n ≡ stated_to g t out start s n ++ drop (3 * n) held
  unfolding stated_in
  stated_in_lem held n h =
      let m : min n (length held / 3) ≡ n = omega arith in
      rw m

-- the lines of a plane from what is stated of it
module _ (g : Given) (t : Task) (out held : List ℕ) where
  stated_line : (n k : ℕ) → 3 * n ≤ length held → k < n → listing_line_at (listed_plane g t out) (stated_in g t out 0 (no_slices g) held n) k ≡ macroblock_line g t out (visible_error (listed_plane g t out)) k
  unfolding macroblock_line line_text
  stated_line n k h l =
      let m = step_stated g t k (writing_at g t out 0 (no_slices g) k) in
      let z : 3 * k ≡ 3 * k + 0 = omega arith in
      let rest : List ℕ = drop (3 * n) held in
      let mode : get_or (stated_to g t out 0 (no_slices g) n ++ rest) (3 * k) 0 ≡ mode_position m.mode = rw z (stated_at g t out 0 (no_slices g) n k 0 rest l (omega arith)) in
      let bits : get_or (stated_to g t out 0 (no_slices g) n ++ rest) (3 * k + 1) 0 ≡ m.bits = stated_at g t out 0 (no_slices g) n k 1 rest l (omega arith) in
      rw (stated_in_lem g t out 0 (no_slices g) held n h, mode, bits, name_is m.mode)

  stated_lines : (n k : ℕ) → 3 * n ≤ length held → k ≤ n → lines_from (listed_plane g t out) (stated_in g t out 0 (no_slices g) held n) k ≡ lines_to g t out (visible_error (listed_plane g t out)) k
  unfolding lines_from lines_to
  stated_lines n zero h l = refl
  stated_lines n (suc k) h l = rw (stated_lines n k h (omega arith), stated_line n k h l)

-- ---- a plane's end gives its text
module _ (g : Given) (t : Task) (out : List ℕ) (passes : write_refusal g t out 0 (no_slices g) ≡ 0) where
  abbrev end : End Writing
  end = listed_end g t (bits_of out)

  abbrev shown : ShownPlane
  shown = listed_plane g t (bits_of out)

  stands : RunStands 22 (fits g t) (written g t) (to_write (bits_of out) 0 (no_slices g)) (0 + count g) end
  unfolding write_plane after
  stands = run_stands 22 (fits g t) (written g t) (to_write (bits_of out) 0 (no_slices g)) (count g) 0

  module _ (r : WriteEnd) (left : Lent) (p : PlaneWritten g t 0 (lent_by out (no_slices g)) (write_end_of r) left) where
    answered : write_end_of r ≡ written_answer end
    unfolding write_answer
    answered = p.answer ∙ rw (eq-eqb (write_refusal g t out 0 (no_slices g)) 0 passes)

    ended_refused : number_told r.refused ≡ end.refusal
    ended_refused = ap (λ (a : PlaneAnswer). a.refusal) answered

    ended_done : r.done ≡ end.done
    ended_done = ap (λ (a : PlaneAnswer). a.done) answered

    done_most : r.done ≤ count g
    done_most = omega (arith, ended_done, stands.at_most)

    -- not refused, it is whole
    done_all : number_told r.refused ≡ 0 → r.done ≡ count g
    done_all z = go (dec_lt end.done (0 + count g))
      where
        go : Dec (end.done < 0 + count g) → r.done ≡ count g
        go (yes q) = absurd (omega (arith, (stands.early q).0, ended_refused))
        go (no q) = omega (arith, ended_done, stands.at_most)

    -- what is left of the reconstruction is the one that is listed
    recon_left : left.slices.recon ≡ end.state.slices.recon
    unfolding write_slices
    recon_left =
        let e : write_slices g t out 0 (no_slices g) ≡ end.state.slices = rw (eq-eqb (write_refusal g t out 0 (no_slices g)) 0 passes) in
        ap (λ (s : Slices). s.recon) (p.left_slices ∙ e)

    plane_left_lem : plane_showing g t left.slices.recon ≡ shown
    plane_left_lem = ap (plane_showing g t) recon_left

    module _ (held : List ℕ) (room : 3 * count g ≤ length held) where
      pub end_text_lem : end_text shown (stated_in g t (bits_of out) 0 (no_slices g) held r.done) r ≡ text_into g t (bits_of out)
      unfolding end_text text_into text_with
      end_text_lem = rw (← ended_refused) (go (eqb (number_told r.refused) 0) refl)
        where
          go : (b : Bool) → eqb (number_told r.refused) 0 ≡ b
              → pick b (lines_from shown (stated_in g t (bits_of out) 0 (no_slices g) held r.done) r.done ++ total_line r.bits (visible_total shown)) (refused_text (number_told r.refused))
              ≡ pick b (lines_to g t (bits_of out) (visible_error shown) (count g) ++ total_line end.state.bits (visible_total shown)) (refused_text (number_told r.refused))
          go true q =
              let all = done_all (eqb-true (number_told r.refused) 0 q) in
              rw (all, stated_lines g t (bits_of out) held (count g) (count g) room (le_refl (count g)), ← ap (λ (a : PlaneAnswer). a.bits) answered)
          go false q = refl

-- ---- the text put into a slice
module _ (s : ShownPlane) (stated : List ℕ) (e : WriteEnd) (bytes : List ℕ) (room : listing_room ≤ length bytes) (r : ℕ) (after : List ℕ) where
  pub put_refused_end : (n : Refusal) → e.refused ≡ Some n → ListedPut 29 bytes 0 (refused_text (number_of n)) r after → ListedPut listing_room bytes 0 (end_text s stated e) r after
  unfolding end_text
  put_refused_end n is p = rw (is, ne_eqb (number_of n) 0 (refusal_met n (number_of n) refl)) (record { next = p.next; short = omega (arith, p.short); bytes_after = p.bytes_after })

  pub put_listed_end : (at : ℕ) (mid : List ℕ) → e.refused ≡ None → e.done ≤ most_blocks → ListedPut (94 * e.done) bytes 0 (lines_from s stated e.done) at mid
      → ListedPut 48 mid at (total_line e.bits (visible_total s)) r after → ListedPut listing_room bytes 0 (end_text s stated e) r after
  unfolding end_text
  put_listed_end at mid h few p q =
      let both = put_two (94 * e.done) bytes 0 _ at mid p (omega arith) 48 _ r after q in
      rw h (record { next = both.next; short = omega (arith, both.short); bytes_after = both.bytes_after })

-- ---- a plane of the program's sizes in its own slices
pub record Sizes (g : Given) : Type 0 where
  pub blocks_are : g.reference.rows / 16 * (g.reference.stride / 16) ≡ count g
  pub few_blocks : count g ≤ most_blocks
  pub small_area : g.reference.stride * g.reference.rows ≤ most_width * most_height

zeros-taken : (n m : ℕ) → n ≤ m → ◌≡◌ {A = List ℕ} (take n (replicate m 0)) (replicate n 0)
zeros-taken zero m h = refl
zeros-taken (suc n) zero h = absurd (omega arith)
zeros-taken (suc n) (suc m) h = ap (λ (l : List ℕ). 0 ∷ l) (zeros-taken n m (omega arith))

module _ (g : Given) (t : Task) (ok : Listable g t) where
  fitting : Fitting g.width g.height g.reference
  fitting =
      let p = (write_accepted g (no_slices g) _ 0 (length t.source) ok.passes).0 in
      plane_passes g.width g.height g.reference (or_next (size_refusal g.width g.height) (canvas_refusal g.width g.height g.reference) p.size ∙ p.canvas)

  pub sizes : Sizes g
  sizes =
      let fit = fitting in
      let wide : g.reference.stride / 16 ≡ cols g = omega (arith, fit.stride) in
      let high : g.reference.rows / 16 ≡ rows g = omega (arith, fit.rows) in
      record {
        blocks_are = rw (wide, high);
        few_blocks = count_small g.width g.height ok.wide ok.high;
        small_area = rw (fit.stride, fit.rows) (area_small g.width g.height ok.wide ok.high);
      }

  module _ (out recon vx vy held : List ℕ) (f : Fresh out recon vx vy held) where
    -- the parts that are lent
    abbrev lent : Slices
    lent =
        let n = 4 * (g.reference.rows / 16 * (g.reference.stride / 16)) in
        slices_by (take (g.reference.stride * g.reference.rows) recon) (take n vx) (take n vy)

    pub recon_long : g.reference.stride * g.reference.rows ≤ length recon
    recon_long = omega (arith, sizes.small_area, ap length f.samples, length-replicate {A = ℕ} (most_width * most_height) 0)

    pub vx_long : 4 * (g.reference.rows / 16 * (g.reference.stride / 16)) ≤ length vx
    vx_long = omega (arith, sizes.blocks_are, sizes.few_blocks, ap length f.vectors_x, length-replicate {A = ℕ} (4 * most_blocks) 0)

    pub vy_long : 4 * (g.reference.rows / 16 * (g.reference.stride / 16)) ≤ length vy
    vy_long = omega (arith, sizes.blocks_are, sizes.few_blocks, ap length f.vectors_y, length-replicate {A = ℕ} (4 * most_blocks) 0)

    lent_are : lent ≡ no_slices g
    lent_are =
        let few : 4 * count g ≤ 4 * most_blocks = omega (arith, sizes.few_blocks) in
        let samples : take (g.reference.stride * g.reference.rows) recon ≡ replicate (g.reference.stride * g.reference.rows) 0 =
        ap (take (g.reference.stride * g.reference.rows)) f.samples ∙ zeros-taken _ _ sizes.small_area in
        let x : take (4 * count g) vx ≡ replicate (4 * count g) 0 = ap (take (4 * count g)) f.vectors_x ∙ zeros-taken _ _ few in
        let y : take (4 * count g) vy ≡ replicate (4 * count g) 0 = ap (take (4 * count g)) f.vectors_y ∙ zeros-taken _ _ few in
        rw (sizes.blocks_are, samples, x, y)

    pub lent_empty : EmptyFor g (lent_by out lent) held
    lent_empty = record { empty = rw (f.output, lent_are); numbers = f.numbers }

  -- ---- a plane written into empty slices
  module _ (l : Lent) (held : List ℕ) (f : EmptyFor g l held) (r : WriteEnd) (left : Lent) (stated : List ℕ) (p : PlaneStated g t 0 l held (write_end_of r) left stated) where
    own : PlaneStated g t 0 (lent_by (replicate output_bytes 0) (no_slices g)) held (write_end_of r) left stated
    own = rw f.empty at p

    room : 3 * count g ≤ length held
    room = omega (arith, f.numbers, sizes.few_blocks)

    abbrev showing : ShownPlane
    showing = plane_showing g t left.slices.recon

    pub plane_ended : length left.slices.recon ≡ length l.slices.recon → length stated ≡ length held → ListedReady showing stated r
    plane_ended e n =
        let w = write_accepted g (no_slices g) _ 0 (length t.source) ok.passes in
        let z = fitting in
        record {
          fits = record {
            fits = record { width = z.width; height = z.height; stride = z.stride; rows = z.rows; samples = e ∙ ap (λ (u : Lent). length u.slices.recon) f.empty ∙ length-replicate {A = ℕ} _ 0 };
            samples = w.1;
          };
          done = done_most g t (replicate output_bytes 0) ok.passes r left own.written;
          few = sizes.few_blocks;
          numbers = n ∙ f.numbers;
        }

    pub plane_text_lem : end_text showing stated r ≡ plane_text g t
    unfolding plane_text
    plane_text_lem = rw (plane_left_lem g t (replicate output_bytes 0) ok.passes r left own.written, own.stated) (end_text_lem g t (replicate output_bytes 0) ok.passes r left own.written held room)
