-- Laws of rows of samples: reading a block out of a plane, putting one in, and squared distances.
-- Assumes nothing.
use Rattle.std.specs.Prelude.{◌≡◌, refl, List, [], ◌∷◌, ◌++◌, ℕ, zero, suc, ◌+◌, ◌*◌, ◌≤◌, ◌<◌, length, take, drop, set}
use Rattle.std.proofs.Common.{sym, ap, ◌∙◌, append_assoc, zero-add, suc-add, arith, length-append, length-take, length-drop, take-append-drop, drop_of_length-le, take_at, drop_at, length-take-le, take-add, drop-drop}
use Rattle.std.proofs.lemmas.List.{take-append-le, drop-append-le, set_comm}
use Rattle.std.proofs.lemmas.List.Edits.{sets}
use Rattle.bits.specs.Basics.{All, Bytes}
use Rattle.bits.specs.FillLaws.{sets_append, sets_all}
use Rattle.leaf.specs.Leaf.{sse}
use Rattle.tree.specs.Blocks.{gather, paint}

-- two blocks of h rows of w samples, side by side
unfoldable pub weave : ℕ → ℕ → List ℕ → List ℕ → List ℕ
weave zero w l r = []
weave (suc h) w l r = take w l ++ (take w r ++ weave h w (drop w l) (drop w r))

-- the block lies in the plane
pub record RowsInside (s h w at n : ℕ) : Type 0 where
  pub row : (k : ℕ) → k < h → at + s * k + w ≤ n

-- ---- squared distance
pub sse-append : (xs ys us vs : List ℕ) → length xs ≡ length ys → sse (xs ++ us) (ys ++ vs) ≡ sse xs ys + sse us vs
unfolding sse
sse-append [] [] us vs e = omega arith
sse-append [] (y ∷ ys) us vs e = absurd (omega arith)
sse-append (x ∷ xs) [] us vs e = absurd (omega arith)
sse-append (x ∷ xs) (y ∷ ys) us vs e = omega (arith, sse-append xs ys us vs (omega arith))

sse-none : (xs ys : List ℕ) → length xs ≡ 0 → sse xs ys ≡ 0
unfolding sse
sse-none [] ys e = refl
sse-none (x ∷ xs) ys e = absurd (omega arith)

-- a run in two
sse_split : (w : ℕ) (xs ys : List ℕ) → length xs ≡ length ys → sse xs ys ≡ sse (take w xs) (take w ys) + sse (drop w xs) (drop w ys)
sse_split w xs ys e =
    ap (λ (l : List ℕ). sse l ys) (sym (take-append-drop w xs)) ∙ ap (sse (take w xs ++ drop w xs)) (sym (take-append-drop w ys))
    ∙ sse-append (take w xs) (take w ys) (drop w xs) (drop w ys) (simp length-take (omega arith))

pub sse-weave : (h w : ℕ) (l r l' r' : List ℕ) → length l ≡ h * w → length r ≡ h * w → length l' ≡ h * w → length r' ≡ h * w
    → sse (weave h w l r) (weave h w l' r') ≡ sse l l' + sse r r'
unfolding weave sse
sse-weave zero w l r l' r' a b c d = omega (arith, sse-none l l' (omega arith), sse-none r r' (omega arith))
sse-weave (suc h) w l r l' r' a b c d =
    let ih = sse-weave h w (drop w l) (drop w r) (drop w l') (drop w r') (simp length-drop (omega arith)) (simp length-drop (omega arith)) (simp length-drop (omega arith)) (simp length-drop (omega arith)) in
    sse-append (take w l) (take w l') _ _ (simp length-take (omega arith))
    ∙ ap (λ (n : ℕ). sse (take w l) (take w l') + n) (sse-append (take w r) (take w r') _ _ (simp length-take (omega arith)))
    ∙ omega (arith, ih, sse_split w l l' (omega arith), sse_split w r r' (omega arith))

-- ---- reading
pub gather_add : (s h k w at : ℕ) (m : List ℕ) → gather s (h + k) w at m ≡ gather s h w at m ++ gather s k w (at + s * h) m
unfolding gather
gather_add s zero k w at m = let e : at + s * 0 ≡ at = omega arith in rw (zero-add, e)
gather_add s (suc h) k w at m =
    let e : at + s + s * h ≡ at + s * suc h = omega arith in
    rw (suc-add, gather, gather_add s h k w (at + s) m, e, append_assoc)

pub inside_down : (s h w at n : ℕ) → RowsInside s (suc h) w at n → RowsInside s h w (at + s) n
inside_down s h w at n i = record { row = λ k l. omega (arith, i.row (suc k) (omega arith)) }

pub gather-weave : (s h w at : ℕ) (m : List ℕ) → RowsInside s h (w + w) at (length m)
    → gather s h (w + w) at m ≡ weave h w (gather s h w at m) (gather s h w (at + w) m)
unfolding gather weave
gather-weave s zero w at m i = refl
gather-weave s (suc h) w at m i =
    let r0 : at + w + w ≤ length m = omega (arith, i.row 0 (omega arith)) in
    let A = take w (drop at m) in
    let B = take w (drop (at + w) m) in
    let la : length A ≡ w = length-take-le w (drop at m) (simp length-drop (omega arith)) in
    let lb : length B ≡ w = length-take-le w (drop (at + w) m) (simp length-drop (omega arith)) in
    let e : at + w + s ≡ at + s + w = omega arith in
    let As = gather s h w (at + s) m in
    let Bs = gather s h w (at + s + w) m in
    rw (
      take-add w w (drop at m),
      drop-drop w at m,
      e,
      take_at A As w la,
      take_at B Bs w lb,
      drop_at A As w la,
      drop_at B Bs w lb,
      append_assoc,
      ← gather-weave s h w (at + s) m (inside_down s h (w + w) at (length m) i),
    )

pub length_gather : (s h w at : ℕ) (m : List ℕ) → RowsInside s h w at (length m) → length (gather s h w at m) ≡ h * w
unfolding gather
length_gather s zero w at m i = omega arith
length_gather s (suc h) w at m i =
    let r0 : at + w ≤ length m = omega (arith, i.row 0 (omega arith)) in
    simp (length-append, length-take, length-drop) (omega (arith, length_gather s h w (at + s) m (inside_down s h w at (length m) i)))

pub length_weave : (h w : ℕ) (l r : List ℕ) → length l ≡ h * w → length r ≡ h * w → length (weave h w l r) ≡ h * (w + w)
unfolding weave
length_weave zero w l r a b = omega arith
length_weave (suc h) w l r a b =
    simp (length-append, length-take) (omega (arith, length_weave h w (drop w l) (drop w r) (simp length-drop (omega arith)) (simp length-drop (omega arith))))

-- rows as long as the plane's are one run
pub gather-whole : (s h at : ℕ) (m : List ℕ) → at + h * s ≡ length m → gather s h s at m ≡ drop at m
unfolding gather
gather-whole s zero at m e = sym (drop_of_length-le m {i = at} (omega arith))
gather-whole s (suc h) at m e = rw (gather-whole s h (at + s) m (omega arith), ← drop-drop s at m) (take-append-drop s (drop at m))

-- ---- putting in
set_sets : (xs m : List ℕ) (i j a : ℕ) → j < i → set (sets m i xs) j a ≡ sets (set m j a) i xs
set_sets [] m i j a h = refl
set_sets (x ∷ xs) m i j a h =
    set_sets xs (set m i x) (suc i) j a (omega arith) ∙ ap (λ (l : List ℕ). sets l (suc i) xs) (set_comm m i j x a (omega arith))

-- runs that do not meet are put in in either order
sets_sets : (ys m xs : List ℕ) (i j : ℕ) → j + length ys ≤ i → sets (sets m i xs) j ys ≡ sets (sets m j ys) i xs
sets_sets [] m xs i j h = refl
sets_sets (y ∷ ys) m xs i j h = rw (set_sets xs m i j y (omega arith)) (sets_sets ys (set m j y) xs i (suc j) (omega arith))

paint_sets : (s h w at : ℕ) (xs m ys : List ℕ) (j : ℕ) → j + length ys ≤ at → sets (paint s h w at xs m) j ys ≡ paint s h w at xs (sets m j ys)
unfolding paint
paint_sets s zero w at xs m ys j h = refl
paint_sets s (suc k) w at xs m ys j h =
    paint_sets s k w (at + s) (drop w xs) (sets m at (take w xs)) ys j (omega arith)
    ∙ ap (paint s k w (at + s) (drop w xs)) (sets_sets ys m (take w xs) at j h)

pub paint_add : (s h k w at : ℕ) (xs ys m : List ℕ) → length xs ≡ h * w
    → paint s (h + k) w at (xs ++ ys) m ≡ paint s k w (at + s * h) ys (paint s h w at xs m)
unfolding paint
paint_add s zero k w at [] ys m e = let z : at + s * 0 ≡ at = omega arith in rw (zero-add, z)
paint_add s zero k w at (x ∷ xs) ys m e = absurd (omega arith)
paint_add s (suc h) k w at xs ys m e =
    let z : at + s + s * h ≡ at + s * suc h = omega arith in
    rw (suc-add, paint, take-append-le w xs ys (omega arith), drop-append-le w xs ys (omega arith))
    (paint_add s h k w (at + s) (drop w xs) ys (sets m at (take w xs)) (simp length-drop (omega arith))
    ∙ ap (λ (n : ℕ). paint s k w n ys (paint s h w (at + s) (drop w xs) (sets m at (take w xs)))) z)

pub paint-weave : (s h w at : ℕ) (l r m : List ℕ) → w + w ≤ s → length l ≡ h * w → length r ≡ h * w
    → paint s h (w + w) at (weave h w l r) m ≡ paint s h w (at + w) r (paint s h w at l m)
unfolding paint weave
paint-weave s zero w at l r m f a b = refl
paint-weave s (suc h) w at l r m f a b =
    let A = take w l in
    let B = take w r in
    let l' = drop w l in
    let r' = drop w r in
    let W = weave h w l' r' in
    let la : length A ≡ w = length-take-le w l (omega arith) in
    let lb : length B ≡ w = length-take-le w r (omega arith) in
    let lab : length (A ++ B) ≡ w + w = simp length-append (omega arith) in
    let e : at + w + s ≡ at + s + w = omega arith in
    let t : take (w + w) (A ++ (B ++ W)) ≡ A ++ B = rw (← append_assoc A B W) (take_at (A ++ B) W (w + w) lab) in
    let d : drop (w + w) (A ++ (B ++ W)) ≡ W = rw (← append_assoc A B W) (drop_at (A ++ B) W (w + w) lab) in
    rw (t, d, sets_append m at A B, la, e)
    (paint-weave s h w (at + s) l' r' (sets (sets m at A) (at + w) B) f (simp length-drop (omega arith)) (simp length-drop (omega arith))
    ∙ ap (paint s h w (at + s + w) r') (sym (paint_sets s h w (at + s) l' (sets m at A) B (at + w) (omega arith))))

paint-run : (s h at : ℕ) (xs m : List ℕ) → length xs ≡ h * s → paint s h s at xs m ≡ sets m at xs
unfolding paint
paint-run s zero at [] m e = refl
paint-run s zero at (x ∷ xs) m e = absurd (omega arith)
paint-run s (suc h) at xs m e =
    let la : length (take s xs) ≡ s = length-take-le s xs (omega arith) in
    paint-run s h (at + s) (drop s xs) (sets m at (take s xs)) (simp length-drop (omega arith))
    ∙ ap (λ (n : ℕ). sets (sets m at (take s xs)) (at + n) (drop s xs)) (sym la)
    ∙ sym (sets_append m at (take s xs) (drop s xs)) ∙ ap (sets m at) (take-append-drop s xs)

-- what fills the plane is the plane, whatever it held
pub paint-whole : (s h : ℕ) (xs m : List ℕ) → length xs ≡ h * s → length m ≡ h * s → paint s h s 0 xs m ≡ xs
paint-whole s h xs m a b =
    paint-run s h 0 xs m a ∙ sets_all m xs (omega arith)

-- ---- what stands together comes apart in one way
pub append_apart : (l r l' r' : List ℕ) → length l ≡ length l' → l ++ r ≡ l' ++ r' → (l ≡ l') × (r ≡ r')
append_apart l r l' r' e h = (
  sym (take_at l r (length l) refl) ∙ ap (take (length l)) h ∙ take_at l' r' (length l) (sym e),
  sym (drop_at l r (length l) refl) ∙ ap (drop (length l)) h ∙ drop_at l' r' (length l) (sym e),
)

no_samples : (l l' : List ℕ) → length l ≡ 0 → length l' ≡ 0 → l ≡ l'
no_samples [] [] a b = refl
no_samples [] (x ∷ l') a b = absurd (omega arith)
no_samples (x ∷ l) l' a b = absurd (omega arith)

rejoin : (w : ℕ) (l l' : List ℕ) → take w l ≡ take w l' → drop w l ≡ drop w l' → l ≡ l'
rejoin w l l' a b = sym (take-append-drop w l) ∙ rw (a, b) (take-append-drop w l')

pub weave-apart : (h w : ℕ) (l r l' r' : List ℕ) → length l ≡ h * w → length r ≡ h * w → length l' ≡ h * w → length r' ≡ h * w
    → weave h w l r ≡ weave h w l' r' → (l ≡ l') × (r ≡ r')
unfolding weave
weave-apart zero w l r l' r' a b c d e = (no_samples l l' (omega arith) (omega arith), no_samples r r' (omega arith) (omega arith))
weave-apart (suc h) w l r l' r' a b c d e =
    let one = append_apart (take w l) _ (take w l') _ (simp length-take (omega arith)) e in
    let two = append_apart (take w r) _ (take w r') _ (simp length-take (omega arith)) one.1 in
    let ih = weave-apart h w (drop w l) (drop w r) (drop w l') (drop w r') (simp length-drop (omega arith)) (simp length-drop (omega arith)) (simp length-drop (omega arith)) (simp length-drop (omega arith)) two.1 in
    (rejoin w l l' one.0 ih.0, rejoin w r r' two.0 ih.1)

-- ---- bytes
-- the same said of every element in turn
abbrev AllBytes : List ℕ → Type 0
AllBytes = All (λ x. x < 256)

all_bytes : (xs : List ℕ) → Bytes xs → AllBytes xs
all_bytes [] h = tt
all_bytes (x ∷ xs) h = (h 0, all_bytes xs (λ k. h (suc k)))

at_bytes : (xs : List ℕ) → AllBytes xs → Bytes xs
at_bytes [] h k = omega arith
at_bytes (x ∷ xs) h zero = h.0
at_bytes (x ∷ xs) h (suc k) = at_bytes xs h.1 k

bytes_append : (xs ys : List ℕ) → AllBytes xs → AllBytes ys → AllBytes (xs ++ ys)
bytes_append [] ys h k = k
bytes_append (x ∷ xs) ys h k = (h.0, bytes_append xs ys h.1 k)

bytes_take : (n : ℕ) (xs : List ℕ) → AllBytes xs → AllBytes (take n xs)
bytes_take zero xs h = tt
bytes_take (suc n) [] h = tt
bytes_take (suc n) (x ∷ xs) h = (h.0, bytes_take n xs h.1)

bytes_drop : (n : ℕ) (xs : List ℕ) → AllBytes xs → AllBytes (drop n xs)
bytes_drop zero xs h = h
bytes_drop (suc n) [] h = tt
bytes_drop (suc n) (x ∷ xs) h = bytes_drop n xs h.1

gathered : (s h w at : ℕ) (m : List ℕ) → AllBytes m → AllBytes (gather s h w at m)
unfolding gather
gathered s zero w at m b = tt
gathered s (suc h) w at m b = bytes_append (take w (drop at m)) _ (bytes_take w (drop at m) (bytes_drop at m b)) (gathered s h w (at + s) m b)

pub bytes_gather : (s h w at : ℕ) (m : List ℕ) → Bytes m → Bytes (gather s h w at m)
bytes_gather s h w at m b = at_bytes (gather s h w at m) (gathered s h w at m (all_bytes m b))

pub bytes_both : (xs ys : List ℕ) → Bytes xs → Bytes ys → Bytes (xs ++ ys)
bytes_both xs ys h k = at_bytes (xs ++ ys) (bytes_append xs ys (all_bytes xs h) (all_bytes ys k))

woven : (h w : ℕ) (l r : List ℕ) → AllBytes l → AllBytes r → AllBytes (weave h w l r)
unfolding weave
woven zero w l r a b = tt
woven (suc h) w l r a b =
    bytes_append (take w l) _ (bytes_take w l a) (bytes_append (take w r) _ (bytes_take w r b) (woven h w (drop w l) (drop w r) (bytes_drop w l a) (bytes_drop w r b)))

pub bytes_weave : (h w : ℕ) (l r : List ℕ) → Bytes l → Bytes r → Bytes (weave h w l r)
bytes_weave h w l r a b = at_bytes (weave h w l r) (woven h w l r (all_bytes l a) (all_bytes r b))
