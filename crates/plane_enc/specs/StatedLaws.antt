-- Laws of what the writer tells: a slice keeps its length, one macroblock more, and the loop's turns.
-- Assumes nothing.
use Rattle.std.specs.Prelude.{◌≡◌, set}
use Rattle.std.proofs.Math.Path.{refl, sym, ap, ap₂}
use Rattle.std.proofs.Common.{◌∙◌, length-append, length-drop, take_at, drop-drop}
use mathlib.Core.List.{List, [], ◌∷◌, ◌++◌, append_assoc}
use Prim.Native.Nat.{ℕ, zero, suc, ◌+◌, ◌*◌, ◌/◌, ◌≤◌, ◌<◌, min}
use native.Mathlib.Omega.{arith}
use Rattle.std.proofs.Math.Numerals.{add-one}
use Rattle.std.proofs.Math.Decide.{dec_lt}
use Rattle.std.proofs.Math.ListN.{length, take, drop}
use Rattle.std.proofs.lemmas.List.Edits.{sets, sets-eq}
use Rattle.std.proofs.Math.Seq.{drop_at, drop-append-add}
use borrow.Author.Tests.{lt-ltb, le-ltb}
use Rattle.bits.specs.Refusals.{number_told}
use Rattle.bits.specs.Bits.{bits_of}
use Rattle.macroblock.specs.Mode.{mode_position}
use Rattle.macroblock.specs.Macroblock.{Given}
use Rattle.macroblock.specs.Choice.{Task}
use Rattle.macroblock.specs.Slices.{Slices, Lent, laid}
use Rattle.macroblock_enc.specs.declared.svq1_enc_inter.inner.writing.WrittenMb.{WrittenMb}
use Rattle.macroblock_enc.specs.WrittenNeeds.{MbWritten, mb_choice}
use Rattle.plane.specs.Run.{after}
use Rattle.plane.specs.Plane.{written, step_stated, writing_at}
use Rattle.plane_enc.specs.WriterNeedsLaws.{fits_if}
use Rattle.plane_enc.specs.Stated.{three_of, stated_to, stated_in, told, Telling}

-- ---- three numbers in a list
module _ (l : List ℕ) (k a b c : ℕ) where
  pub told_there : k < length l / 3 → set (set (set l (3 * k) a) (3 * k + 1) b) (3 * k + 2) c ≡ told l k (a ∷ b ∷ c ∷ [])
  unfolding told
  told_there h =
      let two : 3 * k + 2 ≡ suc (suc (3 * k)) = omega arith in
      rw (lt-ltb k (length l / 3) h, add-one, two)

  pub told_past : length l / 3 ≤ k → l ≡ told l k (a ∷ b ∷ c ∷ [])
  unfolding told
  told_past h = rw (le-ltb k (length l / 3) h)

-- behind k macroblocks that are told
stored : (p held three : List ℕ) (k : ℕ) → length three ≡ 3 → length p ≡ 3 * k → 3 * k + 3 ≤ length held
    → sets (p ++ drop (3 * k) held) (3 * k) three ≡ p ++ three ++ drop (3 * suc k) held
stored p held three k z e h =
    let long : 3 * k + length three ≤ length (p ++ drop (3 * k) held) = simp (length-append, length-drop) (omega arith) in
    let n : 3 * k + length three ≡ length p + 3 = omega arith in
    let m : 3 * k + 3 ≡ 3 * suc k = omega arith in
    let rest : drop (3 * k + length three) (p ++ drop (3 * k) held) ≡ drop (3 * suc k) held = rw (n, drop-append-add, drop-drop, m) in
    sets-eq three (p ++ drop (3 * k) held) (3 * k) long ∙ rw (take_at p (drop (3 * k) held) (3 * k) e, rest)

-- ---- the macroblocks of a plane
module _ (g : Given) (t : Task) (out : List ℕ) (start : ℕ) (s : Slices) where
  length_to : (n : ℕ) → length (stated_to g t out start s n) ≡ 3 * n
  unfolding stated_to
  length_to zero = refl
  length_to (suc n) = rw (length-append, length_to n) (omega arith)

  module _ (held : List ℕ) where
    pub length_in : (n : ℕ) → length (stated_in g t out start s held n) ≡ length held
    unfolding stated_in
    length_in n = rw (length-append, length_to, length-drop) (omega arith)

    pub in_none : stated_in g t out start s held 0 ≡ held
    unfolding stated_in stated_to
    in_none =
        let z : min 0 (length held / 3) ≡ 0 = omega arith in
        rw z

    in_room_lem : (n : ℕ) → n ≤ length held / 3 → stated_in g t out start s held n ≡ stated_to g t out start s n ++ drop (3 * n) held
    unfolding stated_in
    in_room_lem n h =
        let m : min n (length held / 3) ≡ n = omega arith in
        rw m

    -- the three numbers of macroblock k, where it is done and there is room for them
    to_at : (n k : ℕ) → k < n → (r : List ℕ) → take 3 (drop (3 * k) (stated_to g t out start s n ++ r)) ≡ three_of (step_stated g t k (writing_at g t out start s k))
    unfolding stated_to
    to_at zero k h r = absurd (omega arith)
    to_at (suc n) k h r =
        let three = three_of (step_stated g t n (writing_at g t out start s n)) in
        rw (append_assoc (stated_to g t out start s n) three r) (go (λ l. to_at n k l (three ++ r)) (dec_lt k n))
      where
        go : (k < n → take 3 (drop (3 * k) (stated_to g t out start s n ++ (three_of (step_stated g t n (writing_at g t out start s n)) ++ r))) ≡ three_of (step_stated g t k (writing_at g t out start s k))) → Dec (k < n) → take 3 (drop (3 * k) (stated_to g t out start s n ++ (three_of (step_stated g t n (writing_at g t out start s n)) ++ r))) ≡ three_of (step_stated g t k (writing_at g t out start s k))
        go i (yes l) = i l
        go i (no l) =
            let e : k ≡ n = omega arith in
            rw (e, drop_at (stated_to g t out start s n) (three_of (step_stated g t n (writing_at g t out start s n)) ++ r) (3 * n) (length_to n))

    pub stated_at : (n k : ℕ) → k < n → k < length held / 3 → take 3 (drop (3 * k) (stated_in g t out start s held n)) ≡ three_of (step_stated g t k (writing_at g t out start s k))
    unfolding stated_in
    stated_at n k h l = to_at (min n (length held / 3)) k (omega arith) _

    full : (k : ℕ) → length held / 3 ≤ k → stated_in g t out start s held k ≡ stated_in g t out start s held (suc k)
    unfolding stated_in
    full k h =
        let m : min k (length held / 3) ≡ min (suc k) (length held / 3) = omega arith in
        rw m

    module _ (k : ℕ) where
      abbrev next : List ℕ
      next = three_of (step_stated g t k (writing_at g t out start s k))

      told_room : k < length held / 3 → told (stated_in g t out start s held k) k next ≡ stated_in g t out start s held (suc k)
      unfolding told stated_to
      told_room h =
          let test = lt-ltb k (length held / 3) h in
          let room : k ≤ length held / 3 = omega arith in
          rw (length_in, test, in_room_lem k room, in_room_lem (suc k) h) (stored (stated_to g t out start s k) held next k refl (length_to k) (omega arith))

      told_full : length held / 3 ≤ k → told (stated_in g t out start s held k) k next ≡ stated_in g t out start s held (suc k)
      unfolding told
      told_full h = rw (length_in, le-ltb k (length held / 3) h) (full k h)

      one_more : told (stated_in g t out start s held k) k next ≡ stated_in g t out start s held (suc k)
      one_more = go (dec_lt k (length held / 3))
        where
          go : Dec (k < length held / 3) → told (stated_in g t out start s held k) k next ≡ stated_in g t out start s held (suc k)
          go (yes h) = told_room h
          go (no h) = told_full (omega arith)

-- ---- two tasks whose steps state the same
module _ (g : Given) (t u : Task) (out : List ℕ) (start : ℕ) (s : Slices) where
  abbrev SameSteps : ℕ → Type 0
  SameSteps n = (k : ℕ) → k < n → step_stated g t k (writing_at g t out start s k) ≡ step_stated g u k (writing_at g u out start s k)

  to_alone : (n : ℕ) → SameSteps n → stated_to g t out start s n ≡ stated_to g u out start s n
  unfolding stated_to
  to_alone zero h = refl
  to_alone (suc n) h = ap₂ ◌++◌ (to_alone n (λ k l. h k (omega arith))) (ap three_of (h n (omega arith)))

  pub stated_alone : (held : List ℕ) (n : ℕ) → SameSteps n → stated_in g t out start s held n ≡ stated_in g u out start s held n
  unfolding stated_in
  stated_alone held n h = ap (λ (l : List ℕ). l ++ drop (3 * min n (length held / 3)) held) (to_alone (min n (length held / 3)) (λ k l. h k (omega arith)))

-- ---- the loop
module _ (g : Given) (t : Task) (start : ℕ) (l₀ : Lent) (held : List ℕ) where
  abbrev out : List ℕ
  out = bits_of l₀.out

  abbrev s : Slices
  s = l₀.slices

  pub telling_begun : Telling g t start l₀ held s held 0 0
  unfolding after
  telling_begun = record { slices = refl; spends = refl; stated = sym (in_none g t out start s held) }

  module _ (k spent at : ℕ) (l : Lent) (r : WrittenMb) (l' : Lent) (m : MbWritten g t k spent at l r l') where
    pub telling_turn : (now now' : List ℕ) → number_told r.refused ≡ 0 → Telling g t start l₀ held l.slices now k spent → now' ≡ told now k (mode_position r.mode ∷ r.bits ∷ r.error ∷ [])
        → Telling g t start l₀ held l'.slices now' (k + 1) (spent + r.bits)
    unfolding after written
    telling_turn now now' z i e =
        let f = fits_if g t k at spent 0 l r l' m z in
        let w : l'.slices ≡ laid g k (mb_choice g t k spent l.slices) l.slices = rw f at m.slices in
        let three : mode_position r.mode ∷ r.bits ∷ r.error ∷ [] ≡ next g t out start s held k = rw (m.mode, m.bits, m.error, i.slices, i.spends) in
        record {
          slices = rw (add-one k, w, i.slices, i.spends);
          spends = rw (add-one k, m.bits, i.slices, i.spends);
          stated = rw (add-one k, e, i.stated, three) (one_more g t out start s held k);
        }
