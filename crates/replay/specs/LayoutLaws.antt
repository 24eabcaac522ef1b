-- Laws of the fixed list's layout: parts and numbers, and a scene and a job by their tests.
-- Assumes nothing.
use Rattle.std.specs.Prelude.{◌≡◌, Bool, true, false, not, List, [], ◌∷◌, eqb, leb, ltb, take, Option, Some, None, Result, Ok, Err}
use Rattle.std.proofs.Math.Path.{refl, ap}
use Rattle.std.proofs.Common.{◌∙◌, pow-suc, mul-le-mul, length-drop, get_or-drop}
use Prim.Native.Nat.{ℕ, zero, suc, ◌+◌, ◌-◌, ◌*◌, ◌/◌, ◌%◌, ◌^◌, ◌≤◌, ◌<◌}
use native.Mathlib.Omega.{arith}
use Rattle.std.proofs.Math.ListN.{length, drop, get_or}
use Rattle.std.proofs.Math.Seq.{drop-cons, drop-length}
use borrow.Author.Tests.{eq-eqb, ne_eqb, le-leb, lt-leb, lt-ltb, le-ltb, leb-true}
use Rattle.bits.specs.Basics.{pick, Bytes}
use Rattle.canvas.specs.Canvas.{padded16}
use Rattle.replay.specs.declared.inner.file.Scene.{Scene}
use Rattle.replay.specs.declared.inner.file.Job.{Job}
use Rattle.replay.specs.declared.inner.file.SceneError.{SceneError}
use Rattle.replay.specs.declared.inner.file.SceneError.TheVariants as scene
use Rattle.replay.specs.Layout.{part_in, little, number_in, bytes_for, most_side, most_size, jobs_at, scene_of, book_at, codebook_at, sized_in, scene_in, measured_in, job_of_list}

-- ---- parts
pub part_off : (t : List ℕ) (at n : ℕ) → length t < at + n → ◌≡◌ {A = List ℕ} [] (part_in t at n)
unfolding part_in
part_off t at n h = rw (lt-leb (at + n) (length t) h)

pub part_on : (t : List ℕ) (at n : ℕ) → at + n ≤ length t → take (at + n - at) (drop at t) ≡ part_in t at n
unfolding part_in
part_on t at n h =
    let m : at + n - at ≡ n = omega arith in
    rw (le-leb (at + n) (length t) h, m)

-- ---- numbers
above_none : (n : ℕ) → 0 < 256 ^ n
above_none zero = omega arith
above_none (suc n) = rw pow-suc (omega (arith, above_none n))

little_low : (n : ℕ) (t : List ℕ) → Bytes t → length t ≤ n → little t < 256 ^ n
unfolding little
little_low n [] b h = above_none n
little_low zero (x ∷ t) b h = absurd (omega arith)
little_low (suc n) (x ∷ t) b h = rw pow-suc (omega (arith, little_low n t (λ k. b (suc k)) (omega arith), b 0))

module _ (t : List ℕ) (b : Bytes t) (i n : ℕ) (low : 0 < i) (most : i ≤ length t) (few : length t ≤ 8) (e : n ≡ little (drop i t)) where
  -- with one byte more it still has at most 64 bits
  pub short : n < 72057594037927936
  short =
      let here : Bytes (drop i t) = λ k. rw (get_or-drop i t k 0) (b (i + k)) in
      let l : length (drop i t) ≤ 7 = rw length-drop (omega arith) in
      rw e (little_low 7 (drop i t) here l)

  pub one_byte : 256 * n + get_or t (i - 1) 0 ≡ little (drop (i - 1) t)
  unfolding little
  one_byte =
      let s : suc (i - 1) ≡ i = omega arith in
      let h : i - 1 < length t = omega arith in
      let d : drop (i - 1) t ≡ get_or t (i - 1) 0 ∷ drop i t = drop-cons t (i - 1) 0 h ∙ ap (λ (k : ℕ). get_or t (i - 1) 0 ∷ drop k t) s in
      rw (d, e)

pub no_byte : (t : List ℕ) → 0 ≡ little (drop (length t) t)
unfolding little
no_byte t = rw (drop-length t)

pub number_many : (t : List ℕ) → 8 < length t → 0 ≡ number_in t
unfolding number_in
number_many t h = rw (lt-leb (length t) 8 h)

pub number_few : (t : List ℕ) → length t ≤ 8 → little t ≡ number_in t
unfolding number_in
number_few t h = rw (le-leb (length t) 8 h)

-- ---- bytes for bits
pub bytes_whole : (n : ℕ) → n % 8 ≡ 0 → n / 8 ≡ bytes_for n
unfolding bytes_for
bytes_whole n e = rw (eq-eqb (n % 8) 0 e)

pub bytes_more : (n : ℕ) → (n % 8 ≡ 0 → ⊥) → n / 8 + 1 ≡ bytes_for n
unfolding bytes_for
bytes_more n e = rw (ne_eqb (n % 8) 0 e)

-- ---- a scene
module _ (t : List ℕ) (at w h s r : ℕ) (wide : s ≡ padded16 w) (high : r ≡ padded16 h) where
  pub sized_ends : at ≤ length t → length t - at ≤ 4 + w * h + s * r → (Err scene.Ends) ≡ sized_in t at w h
  unfolding sized_in
  sized_ends l m =
      let a : s * r ≡ padded16 w * padded16 h = rw (wide, high) in
      let n : length t ≤ jobs_at at w h = omega arith in
      rw (le-ltb (jobs_at at w h) (length t) n)

  pub sized_whole : (j : ℕ) → 4 + w * h + s * r < length t - at → j ≡ get_or t (at + 4 + w * h + s * r) 0
      → Ok (record { canvas = record { width = w; height = h; stride = s; rows = r }; samples = w * h; size = s * r; source = at + 4; reference = at + 4 + w * h; jobs = j; first = at + 4 + w * h + s * r + 1 })
      ≡ sized_in t at w h
  unfolding sized_in
  sized_whole j m e =
      let a : s * r ≡ padded16 w * padded16 h = rw (wide, high) in
      let n : jobs_at at w h < length t = omega arith in
      rw (lt-ltb (jobs_at at w h) (length t) n, e, wide, high)

module _ (t : List ℕ) (at : ℕ) where
  pub scene_short : length t < at + 4 → (Err scene.Ends) ≡ scene_in t at
  unfolding scene_in
  scene_short h = rw (lt-leb (at + 4) (length t) h)

  module _ (begun : at + 4 ≤ length t) (w h : ℕ) (ew : w ≡ number_in (part_in t at 2)) (eh : h ≡ number_in (part_in t (at + 2) 2)) where
    pub scene_wide : most_side < w → (Err scene.TooLarge) ≡ scene_in t at
    unfolding scene_in
    scene_wide m = rw (le-leb (at + 4) (length t) begun, ← ew, lt-leb w most_side m)

    pub scene_high : w ≤ most_side → most_side < h → (Err scene.TooLarge) ≡ scene_in t at
    unfolding scene_in
    scene_high l m = rw (le-leb (at + 4) (length t) begun, ← ew, ← eh, le-leb w most_side l, lt-leb h most_side m)

    pub scene_sized : (r : Result Scene SceneError) → w ≤ most_side → h ≤ most_side → r ≡ sized_in t at w h → r ≡ scene_in t at
    unfolding scene_in
    scene_sized r l m e = rw (le-leb (at + 4) (length t) begun, ← ew, ← eh, le-leb w most_side l, le-leb h most_side m) e

-- the largest canvas
pub small_area : (a b : ℕ) → a ≤ most_side → b ≤ most_side → a * b ≤ most_size
small_area a b h k = mul-le-mul h k

-- ---- a job
module _ (t : List ℕ) (books size at n bytes : ℕ) (e : bytes ≡ bytes_for n) where
  abbrev blocks : ℕ
  blocks = size / 256

  pub measured_ends : at ≤ length t → length t - at < 16 + bytes + 7 * blocks + size + 4 * blocks + 4 * blocks → None ≡ measured_in t books size at n
  unfolding measured_in
  measured_ends l m =
      let s : length t < at + 16 + bytes_for n + 7 * blocks + size + 4 * blocks + 4 * blocks = omega arith in
      rw (lt-leb (at + 16 + bytes_for n + 7 * blocks + size + 4 * blocks + 4 * blocks) (length t) s)

  module _ (b k l r f : ℕ) (book : b ≡ get_or t at 0) (codebook : k ≡ get_or t (at + 1) 0) (lambda : l ≡ number_in (part_in t (at + 2) 8)) (radius : r ≡ get_or t (at + 10) 0) (flag : f ≡ get_or t (at + 11) 0) where
    pub measured_whole : at ≤ length t → 16 + bytes + 7 * blocks + size + 4 * blocks + 4 * blocks ≤ length t - at
        → Some (record {
          book = book_at b;
          codebook = codebook_at books k;
          lambda = l;
          radius = r;
          four = not (eqb f 0);
          count = n;
          bits = at + 16;
          steps = at + 16 + bytes;
          recon = at + 16 + bytes + 7 * blocks;
          vx = at + 16 + bytes + 7 * blocks + size;
          vy = at + 16 + bytes + 7 * blocks + size + 4 * blocks;
          next = at + 16 + bytes + 7 * blocks + size + 4 * blocks + 4 * blocks;
        }) ≡ measured_in t books size at n
    unfolding measured_in
    measured_whole h m =
        let s : at + 16 + bytes_for n + 7 * blocks + size + 4 * blocks + 4 * blocks ≤ length t = omega arith in
        rw (le-leb (at + 16 + bytes_for n + 7 * blocks + size + 4 * blocks + 4 * blocks) (length t) s, book, codebook, lambda, radius, flag, e)

module _ (t : List ℕ) (books size at : ℕ) where
  pub job_short : length t < at + 16 → None ≡ job_of_list t books size at
  unfolding job_of_list
  job_short h = rw (lt-leb (at + 16) (length t) h)

  pub job_measured : (n : ℕ) (r : Option Job) → at + 16 ≤ length t → n ≡ number_in (part_in t (at + 12) 4) → r ≡ measured_in t books size at n → r ≡ job_of_list t books size at
  unfolding job_of_list
  job_measured n r h e q = rw (le-leb (at + 16) (length t) h, ← e) q

-- ---- a scene that is read is not too large
no_scene : (r : Result Scene SceneError) (s : Scene) → r ≡ Ok s → r ≡ (Err scene.Ends) → ⊥
no_scene r s e f = let z : ◌≡◌ {A = ℕ} 0 1 = cc in omega arith

no_large : (r : Result Scene SceneError) (s : Scene) → r ≡ Ok s → r ≡ (Err scene.TooLarge) → ⊥
no_large r s e f = let z : ◌≡◌ {A = ℕ} 0 1 = cc in omega arith

picked : (q : Bool) (u s : Scene) → u.size ≤ most_size → pick q (Ok u) (Err scene.Ends) ≡ Ok s → s.size ≤ most_size
picked true u s h e =
    let same : u ≡ s = cc in
    rw (← same) h
picked false u s h e = absurd (no_scene (Err scene.Ends) s e refl)

module _ (t : List ℕ) (at : ℕ) (s : Scene) where
  sized_small : (w h : ℕ) → w ≤ most_side → h ≤ most_side → sized_in t at w h ≡ Ok s → s.size ≤ most_size
  unfolding sized_in
  sized_small w h l m e = picked (ltb (jobs_at at w h) (length t)) (scene_of t at w h) s (small_area (padded16 w) (padded16 h) (omega arith) (omega arith)) e

  by_tests : (a b c : Bool) (w h : ℕ) → leb w most_side ≡ b → leb h most_side ≡ c
      → pick a (pick b (pick c (sized_in t at w h) (Err scene.TooLarge)) (Err scene.TooLarge)) (Err scene.Ends) ≡ Ok s → s.size ≤ most_size
  by_tests false b c w h l m e = absurd (no_scene (Err scene.Ends) s e refl)
  by_tests true false c w h l m e = absurd (no_large (Err scene.TooLarge) s e refl)
  by_tests true true false w h l m e = absurd (no_large (Err scene.TooLarge) s e refl)
  by_tests true true true w h l m e = sized_small w h (leb-true w most_side l) (leb-true h most_side m) e

  pub scene_small : scene_in t at ≡ Ok s → s.size ≤ most_size
  unfolding scene_in
  scene_small e = by_tests (leb (at + 4) (length t)) _ _ (number_in (part_in t at 2)) (number_in (part_in t (at + 2) 2)) refl refl e
