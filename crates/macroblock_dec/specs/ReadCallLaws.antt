-- Laws of reading a macroblock as a call: what it asks of its parts, and what it leaves.
-- Assumes nothing.
use Rattle.std.specs.Prelude.{◌≡◌, refl, List, ℕ, ◌*◌, ◌/◌, ◌<◌, length, drop, Ok, Err}
use Rattle.std.proofs.Common.{ap, ◌∙◌, arith}
use Rattle.bits.specs.Basics.{Bytes}
use Rattle.bits.specs.Bits.{bits_of}
use Rattle.bits.specs.Refusals.{number_of}
use Rattle.bits.specs.declared.refusal.Refusal.{Refusal}
use Rattle.code_tables.specs.Codes.{Got, bad}
use Rattle.mv_cache.specs.CacheNeeds as cache
use Rattle.canvas.specs.Canvas.{blocks_along}
use Rattle.mv_cache.specs.Neighbours.{near_of}
use Rattle.tree.specs.NodeForms.{tree_of}
use Rattle.tree.specs.WalkNeeds.{Reads}
use Rattle.canvas.specs.declared.svq1_plane.Svq1PlaneCanvas.{Svq1PlaneCanvas}
use Rattle.macroblock_dec.specs.declared.svq1_plane.inner.reading.ReadChoice.{ReadChoice}
use Rattle.macroblock.specs.Macroblock.{Given, cols, rows, Choice, half_of}
use Rattle.macroblock.specs.Reading.{read_macroblock}
use Rattle.macroblock.specs.Slices.{Slices, near}
use Rattle.macroblock.specs.MacroblockNeeds.{given_by, by_book}
use Rattle.macroblock.specs.MacroblockNeedsLaws.{fits, book_passes, stands, vectors_held, recon_held}
use Rattle.macroblock_dec.specs.FindingNeeds.{read_motion_of, choice_found, mode_difference, ChoiceThere}
use Rattle.macroblock_dec.specs.ReadNeedsLaws.{by_book_lem}
use Rattle.macroblock.specs.LayingNeeds.{ShowingIf, Laying, LaysChoice}
use Rattle.macroblock_dec.specs.ReadNeeds.{ReadReady, MbRead}
use Rattle.codebook.specs.CodebookFormsLaws.{raised-length}
use Rattle.macroblock.specs.LayLaws.{laid_is}

module _ (c : Svq1PlaneCanvas) (reference book codebook raised s : List ℕ) (at k : ℕ) (u : Slices)
    (go : ReadReady (given_by c reference book codebook) raised u k (length s) at) where
  abbrev g : Given
  g = given_by c reference book codebook

  cols_call : c.stride / 16 ≡ cols g
  cols_call = omega (arith, (fits g raised go.ok).stride)

  rows_call : c.rows / 16 ≡ rows g
  rows_call = omega (arith, (fits g raised go.ok).rows)

  pub among_asks : Reads book 5 (length s) at × cache.VectorSlices (c.stride / 16) (c.rows / 16) u.vx u.vy × (k < c.rows / 16 * (c.stride / 16))
  among_asks = rw (cols_call, rows_call) (
    record { passes = book_passes g raised go.ok; deep = omega arith; from = go.from },
    vectors_held g raised go.ok u go.held,
    go.number,
  )

  -- what is read there
  abbrev here : Got Choice
  here = read_macroblock (by_book book) (near_of (c.stride / 16) (c.rows / 16) u.vx u.vy k) (drop at (bits_of s))

  here_is : here ≡ read_macroblock g (near g u k) (drop at (bits_of s))
  here_is = rw (cols_call, rows_call) (by_book_lem g (near g u k) (drop at (bits_of s)))

  pub call_refused : (n : Refusal) → bad (number_of n) ≡ here → MbRead g s at k u (Err n) u
  call_refused n e = (e ∙ here_is, refl)

  module _ (r : ReadChoice) (f : ChoiceThere s here (mode_difference s book at) r) where
    pub lay_ready : ShowingIf r.skip g.reference (blocks_along c.width) k (length raised) (half_of (read_motion_of r)) (tree_of r.blocks)
        × Laying c k r.vectors u
    lay_ready = (
      record { place = stands g raised go.ok k go.number; copy = ap length go.ok.copy ∙ raised-length codebook; sound = f.sound },
      record {
        stride_is = (fits g raised go.ok).stride;
        rows_are = (fits g raised go.ok).rows;
        recon_room = recon_held g raised go.ok u go.held k go.number;
        vectors_room = vectors_held g raised go.ok u go.held;
        number = go.number;
        inside = f.inside;
      },
    )

    pub call_laid : (w : Slices) → Bytes codebook → LaysChoice c reference raised k (choice_found r) r.vectors u w → MbRead g s at k u (Ok r.next) w
    call_laid w bytes l = record {
      choice = choice_found r;
      found = record { is = f.found.is ∙ here_is; within = f.found.within };
      slices = laid_is g k (choice_found r) u w r.vectors f.vectors_are (l book codebook bytes go.ok.copy);
    }
