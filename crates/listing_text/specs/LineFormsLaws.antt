-- Laws of lines written one behind the other. Assumes nothing.
use Rattle.std.specs.Prelude.{ℕ, ◌+◌, ◌*◌, ◌≤◌, ◌≡◌, refl, List, [], ◌∷◌, ◌++◌, length}
use Rattle.std.proofs.Common.{◌∙◌, append_assoc, add-one, arith, length-append, le-leb}
use Rattle.text.specs.Text.{ascii, comma, line_feed, decimal, joined, line_of}
use Rattle.text.specs.WritingForms.{put_text, TextPut}
use Rattle.text.specs.PutLaws.{append_put}
use Rattle.visible_error.specs.Visible.{ShownPlane}
use Rattle.listing_text.specs.LineForms.{ListedPut, name_at, line_text, listing_line_at, lines_from}
use Rattle.listing_text.specs.Listing.{total_line, refused_text}

-- a text put where there is room
pub put_room : (most : ℕ) (bytes : List ℕ) (at : ℕ) (t : List ℕ) (r : ℕ) (after : List ℕ) → TextPut bytes at t r after → length t ≤ most → at + most ≤ length bytes
    → ListedPut most bytes at t r after
put_room most bytes at t r after p h room =
    let e = le-leb (at + length t) (length bytes) (omega arith) in
    record { next = rw e at p.next; short = h; bytes_after = rw e at p.bytes_after }

module _ (most : ℕ) (bytes : List ℕ) (at : ℕ) (s : List ℕ) (x : ℕ) (mid : List ℕ) (p : ListedPut most bytes at s x mid) (room : at + most ≤ length bytes) where
  inside : at + length s ≤ length bytes
  inside = omega (arith, p.short)

  pub put_two : (more : ℕ) (t : List ℕ) (r : ℕ) (after : List ℕ) → ListedPut more mid x t r after → ListedPut (most + more) bytes at (s ++ t) r after
  put_two more t r after q =
      let long = length-append s t in
      record {
        next = omega (arith, q.next, p.next, long);
        short = omega (arith, q.short, p.short, long);
        bytes_after = q.bytes_after ∙ rw (p.bytes_after, p.next) (append_put bytes at s t inside);
      }

-- ---- lines of fields
-- a number and the comma behind it
abbrev comma_behind : List ℕ → List ℕ
comma_behind t = t ++ (comma ∷ [])

abbrev last_of : List ℕ → List ℕ
last_of t = t ++ (line_feed ∷ [])

line_fields : (row column mode bits error : ℕ)
    → (((comma_behind (decimal row) ++ comma_behind (decimal column)) ++ comma_behind (name_at mode)) ++ comma_behind (decimal bits)) ++ last_of (decimal error)
    ≡ line_text row column mode bits error
unfolding line_text line_of joined
line_fields row column mode bits error = simp append_assoc

-- a macroblock's line, field by field
pub put_line_lem : (bytes : List ℕ) (at row column mode bits error a b c d r : ℕ) (s t u v after : List ℕ) → at + 94 ≤ length bytes
    → ListedPut 21 bytes at (comma_behind (decimal row)) a s → ListedPut 21 s a (comma_behind (decimal column)) b t → ListedPut 10 t b (comma_behind (name_at mode)) c u
    → ListedPut 21 u c (comma_behind (decimal bits)) d v → ListedPut 21 v d (last_of (decimal error)) r after
    → ListedPut 94 bytes at (line_text row column mode bits error) r after
put_line_lem bytes at row column mode bits error a b c d r s t u v after room p q o n m =
    let two = put_two 21 bytes at _ a s p (omega arith) 21 _ b t q in
    let three = put_two 42 bytes at _ b t two (omega arith) 10 _ c u o in
    let four = put_two 52 bytes at _ c u three (omega arith) 21 _ d v n in
    rw (← line_fields row column mode bits error) (put_two 73 bytes at _ d v four (omega arith) 21 _ r after m)

-- the line of both totals
total_fields : (bits error : ℕ) → (ascii "total," ++ comma_behind (decimal bits)) ++ last_of (decimal error) ≡ total_line bits error
unfolding total_line line_of joined
total_fields bits error = simp append_assoc

pub put_total : (bytes : List ℕ) (at bits error a b r : ℕ) (s t after : List ℕ) → at + 48 ≤ length bytes
    → TextPut bytes at (ascii "total,") a s → ListedPut 21 s a (comma_behind (decimal bits)) b t → ListedPut 21 t b (last_of (decimal error)) r after
    → ListedPut 48 bytes at (total_line bits error) r after
put_total bytes at bits error a b r s t after room p q o =
    let one = put_room 6 bytes at _ a s p (omega arith) (omega arith) in
    let two = put_two 6 bytes at _ a s one (omega arith) 21 _ b t q in
    rw (← total_fields bits error) (put_two 27 bytes at _ b t two (omega arith) 21 _ r after o)

-- the line of a refusal
refused_fields : (n : ℕ) → ascii "refused," ++ last_of (decimal n) ≡ refused_text n
unfolding refused_text line_of joined
refused_fields n = simp append_assoc

pub put_refusal : (bytes : List ℕ) (n a r : ℕ) (s after : List ℕ) → 29 ≤ length bytes
    → TextPut bytes 0 (ascii "refused,") a s → ListedPut 21 s a (last_of (decimal n)) r after
    → ListedPut 29 bytes 0 (refused_text n) r after
put_refusal bytes n a r s after room p q =
    let one = put_room 8 bytes 0 _ a s p (omega arith) (omega arith) in
    rw (← refused_fields n) (put_two 8 bytes 0 _ a s one (omega arith) 21 _ r after q)

-- ---- the lines of all macroblocks
-- before the first, and one more
pub no_lines : (s : ShownPlane) (stated bytes : List ℕ) → ListedPut (94 * 0) bytes 0 (lines_from s stated 0) 0 bytes
unfolding lines_from put_text
no_lines s stated bytes = record { next = refl; short = omega arith; bytes_after = refl }

pub more_lines : (s : ShownPlane) (stated bytes : List ℕ) (k at r : ℕ) (mid after : List ℕ) → 94 * k ≤ length bytes → ListedPut (94 * k) bytes 0 (lines_from s stated k) at mid
    → ListedPut 94 mid at (listing_line_at s stated k) r after → ListedPut (94 * (k + 1)) bytes 0 (lines_from s stated (k + 1)) r after
unfolding lines_from
more_lines s stated bytes k at r mid after room p q =
    let e : 94 * (k + 1) ≡ 94 * k + 94 = omega arith in
    rw (e, add-one k) (put_two (94 * k) bytes 0 _ at mid p (omega arith) 94 _ r after q)
