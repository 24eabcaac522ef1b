-- Laws of a picture's refusals: what planes that pass have, the code's tests in turn, and what a call answers. Assumes nothing.
use Rattle.std.specs.Prelude.{ℕ, ◌+◌, ◌*◌, ◌≤◌, ◌<◌, ◌≡◌, refl, Bool, true, false, List, [], ◌∷◌, ◌++◌, map, Option, eqb, leb, length}
use Rattle.std.proofs.Common.{sym, ap, ◌∙◌, add-zero, mul-le-mul, arith}
use borrow.Author.Tests.{eq-eqb, ne_eqb, leb-true, le-leb, lt-leb}
use Rattle.bits.specs.Refusals.{number_told}
use Rattle.bits.specs.declared.refusal.Refusal.{Refusal}
use Rattle.bits.specs.Basics.{All, or_else, first_of}
use Rattle.bits.specs.BasicsLaws.{or_none, unless-none, first_last, first-append, two_links, first-none}
use Rattle.bits.specs.Bits.{bits_of}
use Rattle.book.specs.Book.{book_refusal}
use Rattle.book.specs.BookLaws.{data_passes}
use Rattle.canvas.specs.Canvas.{largest_side, blocks_along, source_links}
use Rattle.canvas.specs.CanvasLaws.{size_passes}
use Rattle.canvas.specs.declared.svq1_plane.Svq1PlaneCanvas.{Svq1PlaneCanvas}
use Rattle.macroblock.specs.declared.svq1_enc_inter.Svq1MbMode.TheVariants.{Skip}
use Rattle.macroblock.specs.Macroblock.{Given, mode_bits}
use Rattle.macroblock.specs.MacroblockNeeds.{given_by, by_book}
use Rattle.macroblock_bits.specs.CodingNeeds.{Counted}
use Rattle.plane.specs.Calls.{refused_answer}
use Rattle.plane.specs.Refusals.{lent_links, write_refusal_by}
use Rattle.picture.specs.declared.inner.PictureRefusals.{PictureRefusals}
use Rattle.picture.specs.declared.inner.PlaneLengths.{PlaneLengths}
use Rattle.picture.specs.Picture.{Shared, Results, PlaneIn, canvas_blocks, macroblocks, handed_by}
use Rattle.picture.specs.Refusals.{skip_bits, plane_refusal_by, plane_refusal, allowance_refusal, picture_refusal}
use Rattle.picture.specs.Calls.{PictureAnswer, refused_planes, picture_answer, picture_out, picture_left, PictureWritten}
use Rattle.picture.specs.PictureNeeds.{behind_others, RefusalsTold, SmallSides, AllowanceReady, PictureThrough}

-- ---- planes that pass
-- by its lengths: a size below the largest, and a book that passes
pub checks_pass : (p : PlaneLengths) (reference book codebook : List ℕ) (bytes start : ℕ) → plane_refusal_by p reference book codebook bytes start ≡ 0 → SmallSides p.canvas × (book_refusal book ≡ 0)
unfolding write_refusal_by
checks_pass p reference book codebook bytes start e =
    let g : Given = given_by p.canvas reference book codebook in
    let links = first-none (source_links g.width g.height p.source g.reference ++ lent_links g bytes start p.slices) e in
    let sides = size_passes g.width g.height links.0 in
    (record { width = sides.0.most; height = sides.1.most }, (data_passes book codebook links.1.1.1.0).1)

-- where a chain of one check for each element refuses nothing, each passes
each_passes : {A : Type 0} (f : A → ℕ) (xs : List A) → first_of (map f xs) ≡ 0 → All (λ (x : A). f x ≡ 0) xs
unfolding first_of
each_passes f [] e = tt
each_passes f (x ∷ xs) e = let two = or_none (f x) (first_of (map f xs)) e in (two.0, each_passes f xs two.1)

allowance_passes : (book : List ℕ) (blocks allowance : ℕ) → allowance_refusal book blocks allowance ≡ 0 → skip_bits book * blocks ≤ allowance
unfolding allowance_refusal
allowance_passes book blocks allowance e =
    leb-true (skip_bits book * blocks) allowance (unless-none (leb (skip_bits book * blocks) allowance) 31 (omega arith) e)

-- of a picture: each plane passes its checks, and the allowance holds a SKIP code for each macroblock
pub planes_pass : (s : Shared) (ps : List PlaneIn) (allowance bytes start : ℕ) → picture_refusal s ps allowance bytes start ≡ 0
    → All (λ (p : PlaneIn). plane_refusal s bytes start p ≡ 0) ps × (skip_bits s.book * macroblocks ps ≤ allowance)
unfolding picture_refusal
planes_pass s ps allowance bytes start e =
    let checks = map (plane_refusal s bytes start) ps in
    let short = allowance_refusal s.book (macroblocks ps) allowance in
    let two = or_none (first_of checks) (first_of (short ∷ [])) (sym (first-append checks (short ∷ [])) ∙ e) in
    (each_passes (plane_refusal s bytes start) ps two.0, allowance_passes s.book (macroblocks ps) allowance (first-none (short ∷ []) two.1).0)

-- ---- one check behind others
pub behind_asked : (before n : ℕ) → before ≡ 0 → behind_others before n ≡ n
behind_asked before n e = rw (eq-eqb before 0 e)

pub behind_refused : (before n : ℕ) → (before ≡ 0 → ⊥) → behind_others before n ≡ 0
behind_refused before n h = rw (ne_eqb before 0 h)

or_behind : (a b : ℕ) → or_else a (behind_others a b) ≡ or_else a b
or_behind a b = go (eqb a 0) refl
  where
    go : (t : Bool) → eqb a 0 ≡ t → or_else a (behind_others a b) ≡ or_else a b
    go true e = rw e
    go false e = rw e

-- a chain, and one more link
one_more : (ns : List ℕ) (n : ℕ) {before m : ℕ} → before ≡ first_of ns → m ≡ or_else before (behind_others before n) → m ≡ first_of (ns ++ (n ∷ []))
one_more ns n {before} {m} e h = rw (first-append ns (n ∷ []), ← first_last n n refl, ← e) (h ∙ or_behind before n)

-- ---- three planes in turn, as the code asks
module _ (p q r : PlaneLengths) (x y z book codebook : List ℕ) (bytes start : ℕ) where
  abbrev a : ℕ
  a = plane_refusal_by p x book codebook bytes start

  abbrev b : ℕ
  b = plane_refusal_by q y book codebook bytes start

  abbrev c : ℕ
  c = plane_refusal_by r z book codebook bytes start

  abbrev d : ℕ → ℕ
  d allowance = allowance_refusal book (canvas_blocks p.canvas + (canvas_blocks q.canvas + canvas_blocks r.canvas)) allowance

  module _ (first second two third planes : Option Refusal) (e : number_told first ≡ a) (f : number_told second ≡ behind_others (number_told first) b)
      (g : number_told two ≡ or_else (number_told first) (number_told second)) (h : number_told third ≡ behind_others (number_told two) c)
      (k : number_told planes ≡ or_else (number_told two) (number_told third)) where
    two_are : number_told two ≡ first_of (a ∷ b ∷ [])
    two_are = one_more (a ∷ []) b (first_last (number_told first) a e) (g ∙ ap (or_else (number_told first)) f)

    planes_are : number_told planes ≡ first_of (a ∷ b ∷ c ∷ [])
    planes_are = one_more (a ∷ b ∷ []) c two_are (k ∙ ap (or_else (number_told two)) h)

    -- where all pass, 31 can be judged
    pub judged : number_told planes ≡ 0 → AllowanceReady book p.canvas q.canvas r.canvas
    judged none =
        let each = first-none (a ∷ b ∷ c ∷ []) (sym planes_are ∙ none) in
        let one = checks_pass p x book codebook bytes start each.0 in
        record {
          passes = one.1;
          first = one.0;
          second = (checks_pass q y book codebook bytes start each.1.0).0;
          third = (checks_pass r z book codebook bytes start each.1.1.0).0;
        }

    -- and then 31
    pub told : (allowance : ℕ) (short last : Option Refusal) → number_told short ≡ behind_others (number_told planes) (d allowance)
        → number_told last ≡ or_else (number_told planes) (number_told short)
        → RefusalsTold a b c (d allowance) (record { first = first; second = second; third = third; picture = last })
    told allowance short last i l =
        record {
          first = e;
          second = f ∙ ap (λ (n : ℕ). behind_others n b) e;
          third = h ∙ ap (λ (n : ℕ). behind_others n c) (two_are ∙ two_links a b);
          picture = one_more (a ∷ b ∷ c ∷ []) (d allowance) planes_are (l ∙ ap (or_else (number_told planes)) i);
        }

-- ---- 31
-- the macroblocks of the largest plane
abbrev pub most_blocks : ℕ
most_blocks = blocks_along largest_side * blocks_along largest_side

pub few_blocks : (c : Svq1PlaneCanvas) → SmallSides c → canvas_blocks c ≤ most_blocks
few_blocks c small =
    let h : blocks_along c.height ≤ blocks_along largest_side = omega arith in
    let w : blocks_along c.width ≤ blocks_along largest_side = omega arith in
    mul-le-mul h w

module _ (book : List ℕ) (a b c : Svq1PlaneCanvas) {skip x y z : ℕ} (s : Counted (mode_bits (by_book book) Skip) 32 skip) (e : x ≡ canvas_blocks a) (f : y ≡ canvas_blocks b) (g : z ≡ canvas_blocks c) where
  abbrev all_blocks : ℕ
  all_blocks = canvas_blocks a + (canvas_blocks b + canvas_blocks c)

  pub sums_few : AllowanceReady book a b c → (y + z ≤ 2 * most_blocks) × (x + (y + z) ≤ 3 * most_blocks)
  sums_few j =
      let first = few_blocks a j.first in
      let second = few_blocks b j.second in
      let third = few_blocks c j.third in
      (omega arith, omega arith)

  pub codes_few : AllowanceReady book a b c → skip * (x + (y + z)) ≤ 32 * (3 * most_blocks)
  codes_few j = mul-le-mul s.few (sums_few j).1

  codes_are : skip * (x + (y + z)) ≡ skip_bits book * all_blocks
  codes_are = rw (s.is, e, f, g)

  module _ (before allowance : ℕ) (none : before ≡ 0) where
    pub enough : skip * (x + (y + z)) ≤ allowance → 0 ≡ behind_others before (allowance_refusal book all_blocks allowance)
    unfolding allowance_refusal
    enough h = rw (eq-eqb before 0 none, le-leb (skip_bits book * all_blocks) allowance (rw codes_are at h))

    pub too_few : allowance < skip * (x + (y + z)) → 31 ≡ behind_others before (allowance_refusal book all_blocks allowance)
    unfolding allowance_refusal
    too_few h = rw (eq-eqb before 0 none, lt-leb (skip_bits book * all_blocks) allowance (rw codes_are at h))

-- ---- the call
-- the refusals of three planes are told, for an output of so many bytes
abbrev pub ThreeTold : Shared → PlaneIn → PlaneIn → PlaneIn → ℕ → ℕ → ℕ → PictureRefusals → Type 0
ThreeTold s a b c allowance bytes start r =
    RefusalsTold (plane_refusal s bytes start a) (plane_refusal s bytes start b) (plane_refusal s bytes start c) (allowance_refusal s.book (canvas_blocks a.canvas + (canvas_blocks b.canvas + canvas_blocks c.canvas)) allowance) r

module _ (s : Shared) (a b c : PlaneIn) (allowance : ℕ) where
  abbrev three : List PlaneIn
  three = a ∷ b ∷ c ∷ []

  pub refusal_of_three : (bytes start : ℕ) {r : PictureRefusals} → ThreeTold s a b c allowance bytes start r → number_told r.picture ≡ picture_refusal s three allowance bytes start
  unfolding picture_refusal macroblocks
  refusal_of_three bytes start t = rw (add-zero (canvas_blocks c.canvas)) t.picture

  module _ (out : List ℕ) (start : ℕ) {r : PictureRefusals} (t : ThreeTold s a b c allowance (length out) start r) (h : number_told r.picture ≡ 0 → ⊥) where
    abbrev answer : PictureAnswer
    answer = record { refusal = number_told r.picture; done = 0; planes = refused_answer (number_told r.first) ∷ refused_answer (number_told r.second) ∷ refused_answer (number_told r.third) ∷ [] }

    same : number_told r.picture ≡ picture_refusal s three allowance (length out) start
    same = refusal_of_three (length out) start t

    refused : eqb (picture_refusal s three allowance (length out) start) 0 ≡ false
    refused = ne_eqb (picture_refusal s three allowance (length out) start) 0 (λ z. h (same ∙ z))

    answered : answer ≡ picture_answer s three allowance out start
    unfolding picture_answer refused_planes
    answered = rw (refused, ← same, t.first, t.second, t.third)

    -- a refused picture leaves all as it was
    pub call_refused : PictureWritten s three allowance out start answer out (a.results ∷ b.results ∷ c.results ∷ [])
    unfolding picture_out picture_left
    call_refused = record { answer = answered; left_out = rw refused; left_planes = rw refused }

-- one that no refusal meets is written as far as it goes
pub call_written : (s : Shared) (ps : List PlaneIn) (allowance : ℕ) (out : List ℕ) (start : ℕ) {r : PictureAnswer} {out' : List ℕ} {left : List Results} → picture_refusal s ps allowance (length out) start ≡ 0
    → PictureThrough s ps (handed_by (bits_of out) start allowance 0) r out' left → PictureWritten s ps allowance out start r out' left
unfolding picture_answer picture_out picture_left
call_written s ps allowance out start e t =
    let passed = eq-eqb (picture_refusal s ps allowance (length out) start) 0 e in
    record { answer = rw passed t.answer; left_out = rw passed t.left_out; left_planes = rw passed t.left_planes }
