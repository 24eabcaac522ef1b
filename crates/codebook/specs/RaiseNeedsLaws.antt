-- Laws of how the raised copy is made: four bytes at a time, vector after vector, level after level.
-- Assumes nothing.
use Rattle.std.specs.Prelude.{◌≡◌, refl, List, ℕ, zero, suc, ◌+◌, ◌-◌, ◌*◌, ◌/◌, ◌%◌, ◌≤◌, ◌<◌, length, get_or, set}
use Rattle.std.proofs.Common.{sym, ◌∙◌, ap, add_assoc, suc-mul, add-one, arith, length-set, get_or-set_same, get_or-set_other, ext_get_or}
use Rattle.std.proofs.Math.Decide.{dec_lt}
use Rattle.book.specs.Book.{codebook_bytes}
use Rattle.book.specs.Level.{area}
use Rattle.book.specs.declared.svq1_vlc.Svq1Half.TheVariants.{Intra}
use Rattle.codebook.specs.Codebook.{page_offset, raster_of, byte_of}
use Rattle.codebook.specs.CodebookLaws.{raster}
use Rattle.codebook.specs.CodebookForms.{raised_codebook, VectorStands}
use Rattle.codebook.specs.CodebookFormsLaws.{vector_stands, raised-length, raised_at}
use Rattle.codebook.specs.Raster.{raster_start, raster_numbers, RasterOrder}
use Rattle.codebook.specs.RasterLaws.{numbers_in}
use Rattle.codebook.specs.RaiseNeeds.{LevelVectors, RaisedTo, BytesPlaced, VectorFilling, four_raised}

module _ (codebook : List ℕ) (d at : ℕ) (s : VectorStands d at) where
  -- byte b of the vector, raised, is what the copy has at its place
  byte_placed : (b : ℕ) → b < area d → get_or (raised_codebook codebook) (at + raster_of d b) 0 ≡ (get_or codebook (at + b) 0 + 128) % 256
  byte_placed b h =
      let r = raster d b s.level h in
      rw (raised_at codebook (at + raster_of d b) (omega (arith, r.raster_in, s.inside)), s.comes (raster_of d b) r.raster_in, r.byte_raster)

  -- no two bytes have one place
  apart : (q b : ℕ) → q < b → b < area d → raster_of d q ≡ raster_of d b → ⊥
  apart q b l h e =
      let p : q ≡ b = sym (raster d q s.level (omega arith)).byte_raster ∙ ap (byte_of d) e ∙ (raster d b s.level h).byte_raster in
      omega arith

  -- one byte more
  place_byte : (out : List ℕ) (b n f t : ℕ) → b < area d → n ≡ b + 1 → f ≡ at + b → t ≡ at + raster_of d b → BytesPlaced codebook d at b out
      → BytesPlaced codebook d at n (set out t ((get_or codebook f 0 + 128) % 256))
  place_byte out b n f t h m e g p =
      let v = (get_or codebook f 0 + 128) % 256 in
      let r = raster d b s.level h in
      let inside : t < length out = omega (arith, r.raster_in, s.inside, p.before.size) in
      record {
        before = record {
          size = length-set out t v ∙ p.before.size;
          front = λ k l. get_or-set_other out t k v 0 (λ z. omega arith) ∙ p.before.front k l;
        };
        bytes = λ q l.
            elim (dec_lt q b) [
              | yes y ↦ get_or-set_other out t (at + raster_of d q) v 0 (λ z. apart q b y h (omega arith)) ∙ p.bytes q y
              | no y ↦
                  let z : q ≡ b = omega arith in
                  rw (z, ← g, get_or-set_same out t v 0 inside, e) (rw g (sym (byte_placed b h)))
            ];
      }

  -- four bytes stay together
  together : (b c : ℕ) → b % 4 ≡ 0 → c < 4 → b + c < area d → raster_of d (b + c) ≡ raster_of d b + c
  together b c m l h =
      let x : (b + c) / 4 * 4 ≡ b = omega arith in
      let y : (b + c) % 4 ≡ c = omega arith in
      rw (x, y) at (raster d (b + c) s.level h).four

  -- four bytes more
  place_four : (out : List ℕ) (b p : ℕ) → b % 4 ≡ 0 → b + 4 ≤ area d → p ≡ raster_of d b → BytesPlaced codebook d at b out
      → BytesPlaced codebook d at (b + 4) (four_raised codebook out (at + b) (at + p))
  place_four out b p m h e o =
      place_byte _ (b + 3) (b + 4) _ _ (omega arith) (omega arith) (omega arith) (omega (arith, together b 3 m (omega arith) (omega arith)))
      (place_byte _ (b + 2) (b + 3) _ _ (omega arith) (omega arith) (omega arith) (omega (arith, together b 2 m (omega arith) (omega arith)))
      (place_byte _ (b + 1) (b + 2) _ _ (omega arith) (omega arith) (omega arith) (omega (arith, together b 1 m (omega arith) (omega arith)))
      (place_byte _ b (b + 1) _ _ (omega arith) (omega arith) (omega arith) (omega arith) o)))

  -- the whole vector
  place_end : (out : List ℕ) (b : ℕ) → area d ≤ b → BytesPlaced codebook d at b out → RaisedTo codebook (at + area d) out
  place_end out b h p =
      record {
        size = p.before.size;
        front = λ k l.
            elim (dec_lt k at) [
              | yes y ↦ p.before.front k y
              | no y ↦
                  let r = raster d (k - at) s.level (omega arith) in
                  let e : at + raster_of d (byte_of d (k - at)) ≡ k = omega (arith, r.raster_byte) in
                  rw e at (p.bytes (byte_of d (k - at)) (omega (arith, r.byte_in)))
            ];
      }

-- a vector is so many fours
fours_in : (d : ℕ) → d < 4 → area d % 4 ≡ 0
fours_in zero h = refl
fours_in (suc zero) h = refl
fours_in (suc (suc zero)) h = refl
fours_in (suc (suc (suc zero))) h = refl
fours_in (suc (suc (suc (suc d)))) h = absurd (omega arith)

-- where the next four stand, and where they go
pub record NextFour (order : List ℕ) (n s at b : ℕ) : Type 0 where
  pub left : b + 4 ≤ n
  pub number : s + b < raster_numbers
  pub from : at + b + 4 ≤ codebook_bytes
  pub to : at + get_or order (s + b) 0 + 4 ≤ codebook_bytes

module _ (codebook order : List ℕ) (n s at : ℕ) where
  next_place : (b : ℕ) (out : List ℕ) (f : VectorFilling codebook order n s at b out) → b < n → get_or order (s + b) 0 ≡ raster_of f.d b
  next_place b out f h = rw f.starts (f.table.rule f.d b f.vector.level (omega (arith, f.bytes)))

  pub next_four : (b : ℕ) (out : List ℕ) → VectorFilling codebook order n s at b out → b < n → NextFour order n s at b
  next_four b out f h =
      let d = f.d in
      let v = f.vector in
      let left : b + 4 ≤ area d = omega (arith, fours_in d v.level, f.fours, f.bytes) in
      let last = (raster d (b + 3) v.level (omega arith)).raster_in in
      let run = together codebook d at v b 3 f.fours (omega arith) (omega arith) in
      record {
        left = omega (arith, f.bytes);
        number = omega (arith, numbers_in d v.level, f.starts);
        from = omega (arith, v.inside);
        to = omega (arith, v.inside, next_place b out f h);
      }

  pub fill_four : (b : ℕ) (out : List ℕ) → VectorFilling codebook order n s at b out → b < n
      → VectorFilling codebook order n s at (b + 4) (four_raised codebook out (at + b) (at + get_or order (s + b) 0))
  fill_four b out f h =
      record {
        d = f.d;
        bytes = f.bytes;
        starts = f.starts;
        table = f.table;
        vector = f.vector;
        fours = omega (arith, f.fours);
        placed = place_four codebook f.d at f.vector out b (get_or order (s + b) 0) f.fours (omega (arith, (next_four b out f h).left, f.bytes)) (next_place b out f h) f.placed;
      }

  pub fill_end : (b : ℕ) (out : List ℕ) → VectorFilling codebook order n s at b out → n ≤ b → RaisedTo codebook (at + n) out
  fill_end b out f h = rw f.bytes (place_end codebook f.d at f.vector out b (omega (arith, f.bytes)) f.placed)

-- the vectors of a level, one behind the other
pub vectors_of_lem : (order : List ℕ) → RasterOrder order → (d : ℕ) → d < 4 → LevelVectors order (area d) (raster_start d) (page_offset Intra d)
vectors_of_lem order t d h = record { d = d; level = h; bytes = refl; starts = refl; page = refl; table = t }

module _ (order : List ℕ) (n s from : ℕ) (v : LevelVectors order n s from) where
  stands_here : (k : ℕ) → k < 192 → VectorStands v.d (from + k * n)
  stands_here k l = rw (v.page, v.bytes) (vector_stands v.d k v.level l)

  pub vector_in : (k : ℕ) → k < 192 → from + k * n ≤ codebook_bytes
  vector_in k l = omega (arith, (stands_here k l).inside)

  pub vector-begins : (codebook : List ℕ) (k : ℕ) (out : List ℕ) → k < 192 → RaisedTo codebook (from + k * n) out → VectorFilling codebook order n s (from + k * n) 0 out
  vector-begins codebook k out l r =
      record {
        d = v.d;
        bytes = v.bytes;
        starts = v.starts;
        table = v.table;
        vector = stands_here k l;
        fours = refl;
        placed = record { before = r; bytes = λ q a. absurd (omega arith) };
      }

pub vector_next : (codebook out : List ℕ) (n from k : ℕ) → RaisedTo codebook (from + k * n + n) out → RaisedTo codebook (from + (k + 1) * n) out
vector_next codebook out n from k r =
    let z : from + (k + 1) * n ≡ from + k * n + n = rw (add-one, suc-mul k n) (sym (add_assoc from (k * n) n)) in
    rw z r

-- nothing is there yet, and all is there
pub raise_begins : (codebook out : List ℕ) → length out ≡ codebook_bytes → RaisedTo codebook 0 out
raise_begins codebook out e = record { size = e; front = λ k l. absurd (omega arith) }

pub raise_ends : (codebook out : List ℕ) → RaisedTo codebook codebook_bytes out → out ≡ raised_codebook codebook
raise_ends codebook out r = ext_get_or 0 out (raised_codebook codebook) (r.size ∙ sym (raised-length codebook)) (λ i l. r.front i (omega (arith, r.size)))
