-- Laws of reading a leaf by lent tables.
-- Assumes nothing.
use Rattle.std.specs.Prelude.{ℕ, zero, suc, ◌+◌, ◌-◌, ◌*◌, ◌/◌, ◌≤◌, ◌<◌, ◌≡◌, refl, Bool, true, false, ◌&&◌, List, [], ◌∷◌, ◌++◌, ltb, ℤ, length, take, drop, set, replicate, Result, Ok, Err}
use Rattle.std.proofs.Common.{sym, ap, ◌∙◌, arith, length-append, length-drop, take_at, SFits}
use Rattle.std.proofs.Math.Decide.{dec_le}
use Rattle.bits.specs.Basics.{pick}
use Rattle.std.specs.Int.{w16}
use Rattle.bits.specs.Bits.{val_of, bits_of}
use Rattle.bits.specs.BitsLaws.{length_bits_of}
use Rattle.bits.specs.BitNeeds.{Fits}
use Rattle.code_tables.specs.Codes.{CodeRead, Code, NoCode, Ends, begins, first_code, any_start, read_code, Got, got, bad, then, take_code, take_bits, codes_of}
use Rattle.code_tables.specs.CodesLaws.{begins_true, length_codes_of}
use Rattle.code_tables.specs.CodeReadLaws.{code_at_bit, bits_at_bit, bits_short}
use Rattle.bits.specs.Refusals.{refused, number_of}
use Rattle.bits.specs.declared.refusal.Refusal.{Refusal}
use Rattle.code_tables.specs.Calls.{read_answer}
use Rattle.code_tables.specs.CallsLaws.{answer_bad}
use Rattle.book.specs.Book.{Tables, tables_of, stage_table, stage_family, mean_table}
use Rattle.book.specs.declared.svq1_vlc.Svq1Half.{Svq1Half}
use Rattle.book.specs.declared.svq1_vlc.Svq1Half.TheVariants.{Intra, Inter}
use Rattle.book.specs.BookLaws.{means}
use Rattle.leaf.specs.SignedLaws.{sub_sfits}
use Rattle.codebook.specs.Mean.{mean_at}
use Rattle.leaf.specs.Leaf.{Leaf, skip}
use Rattle.leaf.specs.LeafBits.{read_stages, read_skip, read_rest, read_leaf}
use Rattle.leaf.specs.LentNeeds.{lent_tables, padded, LeafRead, nibbles, read_indices, read_mean, lent_rest}
use Rattle.leaf.specs.declared.svq1_plane.inner.ReadLeaf.{ReadLeaf}
use Rattle.leaf.specs.declared.svq1_enc_leaf.LeafCode.TheVariants.{Skip, Coded}

-- ---- the stage table is read once: what stands behind its code is read by the mean table alone
rest_same : (S T : Tables) → S.half ≡ T.half → S.mean ≡ T.mean → (d k : ℕ) (bits : List ℕ) → read_rest S d k bits ≡ read_rest T d k bits
unfolding read_rest
rest_same S T h m d zero bits = rw h
rest_same S T h m d (suc n) bits = rw (h, m)

pub read_by : (h : Svq1Half) (stage mean : List ℕ) (d : ℕ) (bits : List ℕ)
    → read_leaf (lent_tables h stage mean) d bits ≡ then (take_code (codes_of stage) bits) (lent_rest h mean d)
unfolding read_leaf
read_by h stage mean d bits = go (take_code (codes_of stage) bits)
  where
    go : (g : Got ℕ) → then g (read_rest (lent_tables h stage mean) d) ≡ then g (lent_rest h mean d)
    go (got k r) = rest_same (lent_tables h stage mean) (lent_tables h [] mean) refl refl d k r
    go (bad k) = refl

-- by a book's two tables for level d, reading is reading by the book
pub book_read_lem : (book : List ℕ) (h : Svq1Half) (d : ℕ) (bits : List ℕ)
    → read_leaf (lent_tables h (stage_table d (stage_family h book)) (mean_table h book)) d bits ≡ read_leaf (tables_of book h) d bits
unfolding read_leaf
book_read_lem book h d bits = go (take_code (codes_of (stage_table d (stage_family h book))) bits)
  where
    S : Tables
    S = lent_tables h (stage_table d (stage_family h book)) (mean_table h book)

    go : (g : Got ℕ) → then g (read_rest (lent_tables h (stage_table d (stage_family h book)) (mean_table h book)) d) ≡ then g (read_rest (tables_of book h) d)
    go (got k r) = rest_same (lent_tables h (stage_table d (stage_family h book)) (mean_table h book)) (tables_of book h) refl refl d k r
    go (bad k) = refl

-- ---- a code that was read lies in the table and in the string
begins-fits : (c bs : List ℕ) → begins c bs ≡ true → length c ≤ length bs
begins-fits c bs e =
    let n = ap length (begins_true c bs e) ∙ length-append c (drop (length c) bs) in
    omega arith

pub record InTable (cs : List (List ℕ)) (bits : List ℕ) (k next : ℕ) : Type 0 where
  pub there : k < length cs
  pub within : next ≤ length bits

first_in : (cs : List (List ℕ)) (j : ℕ) (bs : List ℕ) (at : ℕ) (other : CodeRead) (k next : ℕ) → (other ≡ Code k next → ⊥)
    → first_code cs j bs at other ≡ Code k next → (k < j + length cs) × (next ≤ at + length bs)
unfolding first_code
first_in [] j bs at other k next never e = absurd (never e)
first_in (c ∷ cs) j bs at other k next never e = go (begins c bs) refl (first_in cs (suc j) bs at other k next never)
  where
    go : (b : Bool) → begins c bs ≡ b → (first_code cs (suc j) bs at other ≡ Code k next → (k < suc j + length cs) × (next ≤ at + length bs))
        → (k < j + length (c ∷ cs)) × (next ≤ at + length bs)
    go true t more =
        let q : Code j (at + length c) ≡ Code k next = rw t at e in
        let k₁ : j ≡ k = cc in
        let n₁ : at + length c ≡ next = cc in
        (omega arith, omega (arith, begins-fits c bs t))
    go false t more =
        let two = more (rw t at e) in
        (omega (arith, two.0), two.1)

pub code_in : (cs : List (List ℕ)) (bits : List ℕ) (at k next : ℕ) → at ≤ length bits → read_code cs bits at ≡ Code k next → InTable cs bits k next
code_in cs bits at k next h e =
    let two = first_in cs 0 (drop at bits) at (pick (any_start cs (drop at bits)) Ends NoCode) k next (none (any_start cs (drop at bits))) e in
    record { there = omega (arith, two.0); within = omega (arith, two.1, length-drop at bits) }
  where
    none : (b : Bool) → pick b Ends NoCode ≡ Code k next → ⊥
    none true q = let z : ◌≡◌ {A = ℕ} 0 1 = cc in omega arith
    none false q = let z : ◌≡◌ {A = ℕ} 0 1 = cc in omega arith

-- ---- the stages
pub length_nibbles : (bits : List ℕ) (at n : ℕ) → length (nibbles bits at n) ≡ n
unfolding nibbles
length_nibbles bits at zero = refl
length_nibbles bits at (suc n) = ap suc (length_nibbles bits (at + 4) n)

-- one more at the end
nibbles_more : (bits : List ℕ) (at n : ℕ) → nibbles bits at (n + 1) ≡ nibbles bits at n ++ (val_of (take 4 (drop (at + 4 * n) bits)) ∷ [])
unfolding nibbles
nibbles_more bits at zero =
    let z : at + 4 * 0 ≡ at = omega arith in
    rw z
nibbles_more bits at (suc n) =
    let a : suc n + 1 ≡ suc (n + 1) = omega arith in
    let b : at + 4 * suc n ≡ at + 4 + 4 * n = omega arith in
    rw (a, b) (ap (λ (l : List ℕ). val_of (take 4 (drop at bits)) ∷ l) (nibbles_more bits (at + 4) n))

-- where they are all there, and where the string ends before
pub stages_there : (bits : List ℕ) (at n : ℕ) → at + 4 * n ≤ length bits → read_stages n (drop at bits) ≡ got (nibbles bits at n) (drop (at + 4 * n) bits)
unfolding read_stages nibbles
stages_there bits at zero h =
    let z : at + 4 * 0 ≡ at = omega arith in
    rw z
stages_there bits at (suc n) h =
    let b : at + 4 * suc n ≡ at + 4 + 4 * n = omega arith in
    rw (bits_at_bit 4 at bits (omega arith), stages_there bits (at + 4) n (omega arith), b)

pub stages_short : (bits : List ℕ) (at n : ℕ) → at ≤ length bits → length bits < at + 4 * n → read_stages n (drop at bits) ≡ bad 24
unfolding read_stages
stages_short bits at zero h l = absurd (omega arith)
stages_short bits at (suc n) h l = go (dec_le (at + 4) (length bits)) (λ e. stages_short bits (at + 4) n e (omega arith))
  where
    go : Dec (at + 4 ≤ length bits) → (at + 4 ≤ length bits → read_stages n (drop (at + 4) bits) ≡ bad 24)
        → then (take_bits 4 (drop at bits)) (λ j r. then (read_stages n r) (λ js q. got (j ∷ js) q)) ≡ bad 24
    go (yes e) more = rw (bits_at_bit 4 at bits e, more e)
    go (no e) more = rw (bits_short 4 at bits h (omega arith))

-- six indices, of which the first are filled
set_pad : (xs : List ℕ) (k v : ℕ) → set (xs ++ replicate (suc k) 0) (length xs) v ≡ xs ++ (v ∷ replicate k 0)
set_pad [] k v = refl
set_pad (x ∷ xs) k v = ap (λ (l : List ℕ). x ∷ l) (set_pad xs k v)

append_more : (xs ys : List ℕ) (v : ℕ) → (xs ++ (v ∷ [])) ++ ys ≡ xs ++ (v ∷ ys)
append_more [] ys v = refl
append_more (x ∷ xs) ys v = ap (λ (l : List ℕ). x ∷ l) (append_more xs ys v)

pub nibbles_start : (bits : List ℕ) (at : ℕ) → replicate 6 0 ≡ padded (nibbles bits at 0)
unfolding nibbles
nibbles_start bits at = refl

pub nibble_put : (bits stages : List ℕ) (at i v : ℕ) → i < 6 → stages ≡ padded (nibbles bits at i) → v ≡ val_of (take 4 (drop (at + 4 * i) bits))
    → set stages i v ≡ padded (nibbles bits at (i + 1))
nibble_put bits stages at i v h e f =
    let xs = nibbles bits at i in
    let n = length_nibbles bits at i in
    let m = length_nibbles bits at (i + 1) in
    let a : 6 - length xs ≡ suc (5 - i) = omega arith in
    let b : 6 - length (nibbles bits at (i + 1)) ≡ 5 - i = omega arith in
    let put : set (xs ++ replicate (suc (5 - i)) 0) i v ≡ xs ++ (v ∷ replicate (5 - i) 0) =
    rw n at (set_pad xs (5 - i) v) in
    rw (e, a, put, b, nibbles_more bits at i, ← f) (sym (append_more xs (replicate (5 - i) 0) v))

-- ---- the answers
pub refused_read : (r : Refusal) (bits : List ℕ) (g : Got Leaf) → bad (number_of r) ≡ g → LeafRead bits g (Err r)
refused_read r bits g e = record { leaf = e; within = tt; clean = tt }

pub skip_read : (bits : List ℕ) (at : ℕ) (r : ReadLeaf) → at ≤ length bits → r ≡ record { next = at; code = Skip; stages = replicate 6 0 }
    → LeafRead bits (got skip (drop at bits)) (Ok r)
skip_read bits at r h e =
    rw e (record { leaf = refl; within = h; clean = record { code = refl; stages = refl } })

pub coded_read : (bits : List ℕ) (at n : ℕ) (m : ℤ) (r : ReadLeaf) → n ≤ 6 → at + 4 * n ≤ length bits
    → r ≡ record { next = at + 4 * n; code = Coded m n; stages = padded (nibbles bits at n) }
    → LeafRead bits (read_indices m n (drop at bits)) (Ok r)
coded_read bits at n m r h l e =
    let js = nibbles bits at n in
    let size = length_nibbles bits at n in
    let front : take n (padded js) ≡ js = take_at js (replicate (6 - length js) 0) n size in
    rw (e, stages_there bits at n l)
    (record {
      leaf = rw front;
      within = l;
      clean = record { code = rw (front, size); stages = rw front };
    })

-- behind the stage code
pub rest_skip : (h : Svq1Half) (mean : List ℕ) (d k : ℕ) (bits : List ℕ) → k ≡ 0 → lent_rest h mean d k bits ≡ read_skip h bits
unfolding read_rest
rest_skip h mean d k bits e = rw e

pub rest_closed : (h : Svq1Half) (mean : List ℕ) (d k n : ℕ) (bits : List ℕ) → k ≡ suc n → (ltb 3 d && ltb 0 n) ≡ true → lent_rest h mean d k bits ≡ bad 11
unfolding read_rest
rest_closed h mean d k n bits e c = rw (e, c)

pub rest_open : (h : Svq1Half) (mean : List ℕ) (d k n : ℕ) (bits : List ℕ) → k ≡ suc n → (ltb 3 d && ltb 0 n) ≡ false
    → lent_rest h mean d k bits ≡ read_mean h mean n bits
unfolding read_rest
rest_open h mean d k n bits e c = rw (e, c)

-- taking a code at a bit, by what reading it there finds
pub take_found : {A : Type 0} (t bits : List ℕ) (at k next : ℕ) (f : ℕ → List ℕ → Got A) → read_code (codes_of t) bits at ≡ Code k next
    → then (take_code (codes_of t) (drop at bits)) f ≡ f k (drop next bits)
take_found t bits at k next f e = rw (← code_at_bit (codes_of t) bits at, e)

pub take_none : {A : Type 0} (t bits : List ℕ) (at : ℕ) (f : ℕ → List ℕ → Got A) → read_code (codes_of t) bits at ≡ NoCode
    → then (take_code (codes_of t) (drop at bits)) f ≡ bad 10
take_none t bits at f e = rw (← code_at_bit (codes_of t) bits at, e)

pub take_ends : {A : Type 0} (t bits : List ℕ) (at : ℕ) (f : ℕ → List ℕ → Got A) → read_code (codes_of t) bits at ≡ Ends
    → then (take_code (codes_of t) (drop at bits)) f ≡ bad 24
take_ends t bits at f e = rw (← code_at_bit (codes_of t) bits at, e)

-- and where it is refused, by the number of the refusal
pub take_refused : {A : Type 0} (t bits : List ℕ) (at n : ℕ) (f : ℕ → List ℕ → Got A) → refused n ≡ read_answer (read_code (codes_of t) bits at)
    → then (take_code (codes_of t) (drop at bits)) f ≡ bad n
take_refused t bits at n f e = rw (← code_at_bit (codes_of t) bits at, answer_bad (read_code (codes_of t) bits at) bits n e)

-- a code that was read: its position, and that the string goes on behind it
pub read_on : (s t : List ℕ) (at k next : ℕ) → Fits (length s) at 0 → read_code (codes_of t) (bits_of s) at ≡ Code k next
    → (k < length t / 3) × Fits (length s) next 0
read_on s t at k next f e =
    let n = length_bits_of s in
    let b = f.bits_fit in
    let i = code_in (codes_of t) (bits_of s) at k next (omega arith) e in
    let l = length_codes_of t in
    let w = i.within in
    let p = i.there in
    (omega arith, record { bytes_fit = f.bytes_fit; bits_fit = omega arith })

pub means_most : (h : Svq1Half) → means h ≤ 512
means_most Intra = omega arith
means_most Inter = omega arith

pub mean_fits : (h : Svq1Half) (k : ℕ) → k < 512 → SFits w16 (mean_at h k)
mean_fits Intra k l = record { sfits = omega arith }
mean_fits Inter k l = sub_sfits k 256 (omega arith) (omega arith)

-- a mean was read, and then its stages
pub mean_found : (h : Svq1Half) (t bits : List ℕ) (at k next n : ℕ) (m : ℤ) (r : Result ReadLeaf Refusal) → read_code (codes_of t) bits at ≡ Code k next → m ≡ mean_at h k
    → LeafRead bits (read_indices m n (drop next bits)) r → LeafRead bits (read_mean h t n (drop at bits)) r
mean_found h t bits at k next n m r e q l =
    rw (take_found t bits at k next (λ i b. read_indices (mean_at h i) n b) e, ← q) l
