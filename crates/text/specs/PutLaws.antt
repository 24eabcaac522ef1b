-- Laws of text put into a slice, byte after byte and digit after digit. Assumes nothing.
use Rattle.std.specs.Prelude.{ℕ, zero, suc, ◌+◌, ◌-◌, ◌/◌, ◌%◌, ◌^◌, ◌≤◌, ◌<◌, ◌≡◌, refl, Bool, true, false, List, [], ◌∷◌, ◌++◌, Result, Ok, Err, eqb, leb, ltb, take, drop, set}
use Rattle.std.proofs.Common.{sym, ap, ◌∙◌, append_assoc, append-nil, le_refl, arith, length-append, length-drop, length-set, take-append-drop, drop_of_length-le, length-take-le, take_at, drop-drop, take-take, drop-cons, drop-set-lt, get_or-set_same}
use Rattle.std.proofs.Math.ListN.{length}
use Rattle.std.proofs.lemmas.List.{drop-append-le, take-set-le, set_split}
use Rattle.std.proofs.Math.Seq.{drop-append-add}
use Rattle.std.proofs.lemmas.List.Edits.{sets, sets-eq}
use borrow.Author.Tests.{eqb-true, ne_eqb, le-leb, lt-leb, leb-true, lt-ltb, le-ltb, ltb-true}
use Rattle.bits.specs.Basics.{pick, unless}
use Rattle.bits.specs.declared.refusal.Refusal.{Refusal}
use Rattle.bits.specs.Refusals.{done, refused, number_of, refused_by, answer_of}
use Rattle.bits.specs.CallsLaws.{refusal_met, answer_met}
use Rattle.text.specs.Text.{digits_before, decimal}
use Rattle.text.specs.WritingForms.{put_text, TextPut, PutInRoom, text_refusal, text_answer, bytes_written, TextWritten, digit_count, last_digits}
use Rattle.text.specs.WritingFormsLaws.{tenth_below}

-- ---- a text
-- no room: nothing is written
pub put_none : (out : List ℕ) (at : ℕ) (t : List ℕ) → length out < at + length t → TextPut out at t at out
put_none out at t h = let e = lt-leb (at + length t) (length out) h in record { next = rw e; bytes_after = rw e }

module _ (out : List ℕ) (at : ℕ) (t : List ℕ) (room : at + length t ≤ length out) where
  -- the whole text is written
  pub put_whole : (after : List ℕ) → after ≡ take at out ++ (t ++ drop (at + length t) out) → TextPut out at t (at + length t) after
  unfolding put_text
  put_whole after h = let e = le-leb (at + length t) (length out) room in record { next = rw e; bytes_after = rw e h }

  pub put_end : (after : List ℕ) → after ≡ sets out at t → TextPut out at t (at + length t) after
  put_end after h = put_whole after (h ∙ sets-eq t out at room ∙ append_assoc (take at out) t (drop (at + length t) out))

-- a text of the slice's length takes its place
pub put_over : (out t : List ℕ) → length t ≡ length out → put_text out 0 t ≡ t
unfolding put_text
put_over out t h = let past : length out ≤ 0 + length t = omega arith in rw (drop_of_length-le out past) (append-nil t)

pub put_all : (out t : List ℕ) (r : ℕ) (after : List ℕ) → length t ≡ length out → TextPut out 0 t r after → after ≡ t
put_all out t r after h p =
    let room : 0 + length t ≤ length out = omega arith in
    p.bytes_after ∙ rw (le-leb (0 + length t) (length out) room) (put_over out t h)

-- no text
pub put_empty : (bytes : List ℕ) (at : ℕ) → put_text bytes at [] ≡ bytes
unfolding put_text
put_empty bytes at = let z : at + 0 ≡ at = omega arith in rw z (take-append-drop at bytes)

-- two texts, one behind the other
pub append_put : (bytes : List ℕ) (at : ℕ) (s t : List ℕ) → at + length s ≤ length bytes → put_text (put_text bytes at s) (at + length s) t ≡ put_text bytes at (s ++ t)
unfolding put_text
append_put bytes at s t room =
    let head : List ℕ = take at bytes ++ s in
    let rest : List ℕ = drop (at + length s) bytes in
    let long : length head ≡ at + length s = length-append (take at bytes) s ∙ ap (λ (n : ℕ). n + length s) (length-take-le at bytes (omega arith)) in
    let first : take (at + length s) (take at bytes ++ (s ++ rest)) ≡ head = rw (← append_assoc (take at bytes) s rest) (take_at head rest (at + length s) long) in
    let sum : at + length s + length t ≡ at + length (s ++ t) = omega (arith, length-append s t) in
    let last : drop (at + length s + length t) (take at bytes ++ (s ++ rest)) ≡ drop (at + length (s ++ t)) bytes =
    rw (← append_assoc (take at bytes) s rest) (ap (λ (n : ℕ). drop (n + length t) (head ++ rest)) (sym long) ∙ drop-append-add head rest (length t) ∙ drop-drop (length t) (at + length s) bytes ∙ ap (λ (n : ℕ). drop n bytes) sum) in
    rw (first, last) (simp append_assoc)

pub put_length : (bytes : List ℕ) (at : ℕ) (t : List ℕ) → at + length t ≤ length bytes → length (put_text bytes at t) ≡ length bytes
unfolding put_text
put_length bytes at t room =
    let front : length (take at bytes) ≡ at = length-take-le at bytes (omega arith) in
    length-append (take at bytes) (t ++ drop (at + length t) bytes) ∙ omega (arith, front, length-append t (drop (at + length t) bytes), length-drop (at + length t) bytes)

-- ---- a byte before a text that is put
set_put : (bytes : List ℕ) (at b : ℕ) → at < length bytes → set bytes at b ≡ put_text bytes at (b ∷ [])
unfolding put_text
set_put bytes at b h = let one : suc at ≡ at + 1 = omega arith in set_split bytes at b h ∙ ap (λ (n : ℕ). take at bytes ++ (b ∷ drop n bytes)) one

pub byte_before : {out : List ℕ} {at b : ℕ} {t : List ℕ} {r : ℕ} {after : List ℕ} → at + suc (length t) ≤ length out → TextPut (set out at b) (at + 1) t r after
    → TextPut out at (b ∷ t) r after
byte_before {out} {at} {b} {t} room p =
    let e = le-leb (at + suc (length t)) (length out) room in
    let long : at + 1 + length t ≤ length (set out at b) = rw (length-set out at b) (omega arith) in
    let f = le-leb (at + 1 + length t) (length (set out at b)) long in
    let first : at + 1 ≤ length out = omega arith in
    let sum : at + 1 + length t ≡ at + suc (length t) = omega arith in
    record {
      next = rw e (rw f at p.next ∙ sum);
      bytes_after = rw e (rw f at p.bytes_after ∙ rw (set_put out at b (omega arith)) (append_put out at (b ∷ []) t first));
    }

-- a text put into the front part of a slice
pub part_put : (out t : List ℕ) (room : ℕ) → length t ≤ room → room ≤ length out → put_text (take room out) 0 t ++ drop room out ≡ put_text out 0 t
unfolding put_text
part_put out t room h k =
    let n = 0 + length t in
    let long : n ≤ length (take room out) = omega (arith, length-take-le room out k) in
    let rest : drop n (take room out) ++ drop room out ≡ drop n out =
    sym (drop-append-le n (take room out) (drop room out) long) ∙ ap (drop n) (take-append-drop room out) in
    append_assoc t (drop n (take room out)) (drop room out) ∙ ap (◌++◌ t) rest

-- ---- a byte behind a text that was put
module _ {out : List ℕ} {at : ℕ} {t : List ℕ} {x : ℕ} {mid : List ℕ} (p : TextPut out at t x mid) (room : at + length t < length out) where
  put_next : x ≡ at + length t
  put_next = rw (le-leb (at + length t) (length out) (omega arith)) at p.next

  put_mid : mid ≡ put_text out at t
  put_mid = rw (le-leb (at + length t) (length out) (omega arith)) at p.bytes_after

  pub put_inside : x < length mid
  put_inside = omega (arith, put_next, ap length put_mid, put_length out at t (omega arith))

  pub put_byte : (b : ℕ) → TextPut out at (t ++ (b ∷ [])) (x + 1) (set mid x b)
  put_byte b =
      let long : at + length (t ++ (b ∷ [])) ≡ x + 1 = omega (arith, put_next, length-append t (b ∷ [])) in
      let e = le-leb (at + length (t ++ (b ∷ []))) (length out) (omega (arith, put_next, long)) in
      record { next = rw e (sym long); bytes_after = rw e (set_put mid x b put_inside ∙ rw (put_mid, put_next) (append_put out at t (b ∷ []) (omega arith))) }

-- ---- texts one behind the other, where there is room for all of them
pub in_room_lem : {bytes : List ℕ} {at : ℕ} {t : List ℕ} {r : ℕ} {after : List ℕ} → TextPut bytes at t r after → PutInRoom bytes at t r after
in_room_lem {bytes} {at} {t} p =
    record { next = λ h. rw (le-leb (at + length t) (length bytes) h) at p.next; bytes_after = λ h. rw (le-leb (at + length t) (length bytes) h) at p.bytes_after }

pub put_nothing : (bytes : List ℕ) (at : ℕ) → PutInRoom bytes at [] at bytes
put_nothing bytes at = record { next = λ h. omega arith; bytes_after = λ h. sym (put_empty bytes at) }

pub put_behind : {bytes : List ℕ} {at : ℕ} {s : List ℕ} {x : ℕ} {mid t : List ℕ} {r : ℕ} {after : List ℕ}
    → PutInRoom bytes at s x mid → PutInRoom mid x t r after → PutInRoom bytes at (s ++ t) r after
put_behind {bytes} {at} {s} {x} {mid} {t} {r} {after} p q = record { next = λ h. (ends h).0; bytes_after = λ h. (ends h).1 }
  where
    ends : at + length (s ++ t) ≤ length bytes → (r ≡ at + length (s ++ t)) × (after ≡ put_text bytes at (s ++ t))
    ends h =
        let long = length-append s t in
        let first : at + length s ≤ length bytes = omega (arith, h, long) in
        let place : x ≡ at + length s = p.next first in
        let bytes-then : mid ≡ put_text bytes at s = p.bytes_after first in
        let last : x + length t ≤ length mid = omega (arith, h, long, place, ap length bytes-then, put_length bytes at s first) in
        (omega (arith, q.next last, place, long), q.bytes_after last ∙ rw (bytes-then, place) (append_put bytes at s t first))

-- ---- a call that writes a text to the front of a lent slice
pub text_refused : (refusal : ℕ) (e : Refusal) (t out : List ℕ) → number_of e ≡ refusal → TextWritten refusal t out (Err e) out
text_refused refusal e t out q =
    let z = ne_eqb refusal 0 (refusal_met e refusal q) in record { answer = answer_met e refusal (done (length t)) q; left = rw z }

pub text_written : {t out : List ℕ} {r : ℕ} {after : List ℕ} (refusal : ℕ) → refusal ≡ 0 → length t ≤ length out → PutInRoom out 0 t r after
    → TextWritten refusal t out (Ok r) after
text_written {t} {out} {r} refusal e room p =
    let front : 0 + length t ≤ length out = omega arith in
    let size : r ≡ length t = omega (arith, p.next front) in
    record { answer = rw (e, size); left = rw e (p.bytes_after front) }

-- the number that is told of it, and how far it wrote
pub written_told : (refusal : ℕ) (t out : List ℕ) (r : Result ℕ Refusal) (left : List ℕ) → TextWritten refusal t out r left
    → (refused_by r ≡ refusal) × (bytes_written r ≡ pick (eqb refusal 0) (length t) 0)
written_told refusal t out r left w = go (eqb refusal 0) refl r w.answer
  where
    go : (b : Bool) → eqb refusal 0 ≡ b → (r : Result ℕ Refusal) → answer_of r ≡ pick b (done (length t)) (refused refusal)
        → (refused_by r ≡ refusal) × (bytes_written r ≡ pick b (length t) 0)
    go true q (Ok n) e = (sym (eqb-true refusal 0 q), cc)
    go true q (Err n) e = cc
    go false q (Ok n) e = cc
    go false q (Err n) e = (cc, refl)

-- what it wrote lies in the slice
pub written_inside : (t out : List ℕ) (r : Result ℕ Refusal) (left : List ℕ) → TextWritten (text_refusal t (length out)) t out r left → bytes_written r ≤ length out
written_inside t out (Err e) left w = omega arith
written_inside t out (Ok n) left w = go (leb (length t) (length out)) refl w.answer
  where
    go : (b : Bool) → leb (length t) (length out) ≡ b → done n ≡ text_answer (unless b 20) t → n ≤ length out
    go true q e = let size : n ≡ length t = cc in omega (arith, leb-true (length t) (length out) q)
    go false q e = cc

-- ---- digits
-- digits before a text are the digits and the text
before_append : (f n : ℕ) (s t : List ℕ) → digits_before f n (s ++ t) ≡ digits_before f n s ++ t
unfolding digits_before
before_append zero n s t = refl
before_append (suc f) n s t = go (ltb n 10) (before_append f (n / 10) ((48 + n % 10) ∷ s) t)
  where
    go : (b : Bool) → digits_before f (n / 10) ((48 + n % 10) ∷ (s ++ t)) ≡ digits_before f (n / 10) ((48 + n % 10) ∷ s) ++ t
        → pick b ((48 + n) ∷ (s ++ t)) (digits_before f (n / 10) ((48 + n % 10) ∷ (s ++ t)))
        ≡ pick b ((48 + n) ∷ s) (digits_before f (n / 10) ((48 + n % 10) ∷ s)) ++ t
    go true next = refl
    go false next = next

count_more : (f m : ℕ) → ltb m 10 ≡ false → digit_count (suc f) m ≡ suc (digit_count f (m / 10))
unfolding digits_before
count_more f m e =
    let two : digits_before f (m / 10) ((48 + m % 10) ∷ []) ≡ digits_before f (m / 10) [] ++ ((48 + m % 10) ∷ []) =
    before_append f (m / 10) [] ((48 + m % 10) ∷ []) in
    rw (e, two) (length-append (digits_before f (m / 10) []) ((48 + m % 10) ∷ []) ∙ omega arith)

-- a number with more than one digit has one more than its tenth
pub count_turn : (f m : ℕ) → 9 < m → m < 10 ^ suc f → (1 ≤ f) × (digit_count (suc f) m ≡ 1 + digit_count f (m / 10)) × (m / 10 < 10 ^ f)
count_turn zero m h k = absurd (omega arith)
count_turn (suc f) m h k =
    (omega arith, count_more (suc f) m (le-ltb m 10 (omega arith)) ∙ omega arith, tenth_below (suc f) m k)

pub count_last : (f m : ℕ) → m ≤ 9 → digit_count (suc f) m ≡ 1
unfolding digits_before
count_last f m h = rw (lt-ltb m 10 (omega arith))

last_digits_lem : (f n : ℕ) (t : List ℕ) → last_digits (digit_count f n) n t ≡ digits_before f n t
unfolding last_digits digits_before
last_digits_lem zero n t = refl
last_digits_lem (suc f) n t = go (ltb n 10) refl (last_digits_lem f (n / 10) ((48 + n % 10) ∷ t))
  where
    go : (b : Bool) → ltb n 10 ≡ b → last_digits (digit_count f (n / 10)) (n / 10) ((48 + n % 10) ∷ t) ≡ digits_before f (n / 10) ((48 + n % 10) ∷ t)
        → last_digits (digit_count (suc f) n) n t ≡ pick b ((48 + n) ∷ t) (digits_before f (n / 10) ((48 + n % 10) ∷ t))
    go true e next =
        let one : digit_count (suc f) n ≡ 1 = count_last f n (omega (arith, ltb-true n 10 e)) in
        let d : n % 10 ≡ n = omega (arith, ltb-true n 10 e) in
        rw (one, d)
    go false e next = rw (count_more f n e) next

-- the digits of a number before a text
pub decimal_last : (n : ℕ) (t : List ℕ) → last_digits (length (decimal n)) n t ≡ decimal n ++ t
unfolding decimal
decimal_last n t = last_digits_lem 20 n t ∙ before_append 20 n [] t

-- the byte of the last digit left
pub digits_turn : (at i m : ℕ) (out : List ℕ) → at < i → i ≤ length out
    → last_digits (i - at) m (drop i out) ≡ last_digits (i - 1 - at) (m / 10) (drop (i - 1) (set out (i - 1) (48 + m % 10)))
unfolding last_digits
digits_turn at i m out h k =
    let j : ℕ = i - 1 in
    let v : ℕ = 48 + m % 10 in
    let w : i - at ≡ suc (i - 1 - at) = omega arith in
    let s : suc j ≡ i = omega arith in
    let inside : j < length out = omega arith in
    let front : drop j (set out j v) ≡ v ∷ drop i out =
    drop-cons (set out j v) j 0 (rw (length-set out j v) inside)
    ∙ rw (get_or-set_same out j v 0 inside, drop-set-lt (suc j) out j v (le_refl (suc j)), s) in
    rw (w, front)

pub digits_kept : (i v : ℕ) (out out₀ : List ℕ) → 0 < i → take i out ≡ take i out₀ → take (i - 1) (set out (i - 1) v) ≡ take (i - 1) out₀
digits_kept i v out out₀ h e =
    let j : ℕ = i - 1 in
    take-set-le j out j v (le_refl j) ∙ sym (take-take j i out (omega arith)) ∙ ap (take j) e ∙ take-take j i out₀ (omega arith)

-- every digit is written
pub digits_end : (out : List ℕ) (at n i m : ℕ) (after : List ℕ) → at + length (decimal n) ≤ length out → i ≡ at → take i after ≡ take i out
    → last_digits (i - at) m (drop i after) ≡ last_digits (length (decimal n)) n (drop (at + length (decimal n)) out)
    → TextPut out at (decimal n) (at + length (decimal n)) after
unfolding last_digits
digits_end out at n i m after room e front back =
    let z : at - at ≡ 0 = omega arith in
    let tail : drop at after ≡ decimal n ++ drop (at + length (decimal n)) out =
    rw (e, z) at back ∙ decimal_last n (drop (at + length (decimal n)) out) in
    put_whole out at (decimal n) room after
    (sym (take-append-drop at after) ∙ rw (rw e at front, tail))
