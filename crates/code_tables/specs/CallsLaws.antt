-- Laws of the refusals of codes: what holds where none is met, and that what was written is read back.
-- Assumes nothing.
use Rattle.std.specs.Prelude.{ℕ, Result, ◌+◌, ◌/◌, ◌≡◌, refl, Bool, true, false, List, [], ◌∷◌, ◌++◌, eqb, ltb, length, drop}
use Rattle.std.proofs.Common.{sym, ap, ◌∙◌, true≢false, arith, eqb-true, eq-eqb, ltb-true}
use Rattle.bits.specs.Basics.{All, or_else, unless}
use Rattle.bits.specs.BasicsLaws.{or_none, or_next, unless-none}
use Rattle.bits.specs.Bits.{bits_of, put_bits}
use Rattle.bits.specs.BitsLaws.{length_bits_of, drop_put}
use Rattle.bits.specs.BitNeeds.{Fits}
use Rattle.bits.specs.BitNeedsLaws.{wrote_size}
use Rattle.bits.specs.Refusals.{done, refused}
use Rattle.bits.specs.Calls.{start_refusal, room_refusal, Put}
use Rattle.bits.specs.CallsLaws.{room_passes, start_is, answer_given}
use Rattle.bits.specs.declared.refusal.Refusal.{Refusal}
use Rattle.code_tables.specs.Codes.{code, code_len, codes_of, good_table, prefix_free, CodeRead, Code, NoCode, Ends, bad, code_got}
use Rattle.code_tables.specs.declared.svq1_vlc.CodeFound.{CodeFound}
use Rattle.code_tables.specs.CodesLaws.{code-length, length_codes_of, good_is}
use Rattle.code_tables.specs.CodeReadLaws.{read_at}
use Rattle.code_tables.specs.CodeNeeds.{GoodEntry}
use Rattle.code_tables.specs.Calls.{one_of, table_bytes, read_answer, table_refusal, code_refusal, code_at}

-- ---- one of some numbers
-- what holds of each of them
pub one_passes : (P : ℕ → Type 0) (ks : List ℕ) (n : ℕ) → one_of ks n ≡ true → All P ks → P n
unfolding one_of
one_passes P [] n e a = absurd (true≢false (sym e))
one_passes P (k ∷ ks) n e a = go (eqb n k) refl (λ h. one_passes P ks n (rw h at e) a.1)
  where
    go : (b : Bool) → eqb n k ≡ b → (eqb n k ≡ false → P n) → P n
    go true h f = rw (eqb-true n k h) a.0
    go false h f = f h

-- ---- no refusal
-- a table that is not refused
pub table_passes : (t : List ℕ) → table_refusal t ≡ 0 → (good_table t ≡ true) × (prefix_free (codes_of t) ≡ true)
unfolding table_refusal
table_passes t e =
    let rest = (or_none (unless (one_of table_bytes (length t)) 5) _ e).1 in
    let two = or_none (unless (good_table t) 6) (unless (prefix_free (codes_of t)) 7) rest in
    (unless-none (good_table t) 6 (omega arith) two.0, unless-none (prefix_free (codes_of t)) 7 (omega arith) two.1)

-- a code that can be written: its table is not refused, has an entry there, and the code fits
pub record CodePasses (bytes at : ℕ) (t : List ℕ) (k : ℕ) : Type 0 where
  pub table : table_refusal t ≡ 0
  pub entry : GoodEntry t k
  pub fits : Fits bytes at (code_len t k)

pub code_passes : (bytes at : ℕ) (t : List ℕ) (k : ℕ) → code_refusal bytes at t k ≡ 0 → CodePasses bytes at t k
unfolding code_refusal
code_passes bytes at t k e =
    let two = or_none (unless (ltb k (length t / 3)) 5) _ e in
    let there = ltb-true k (length t / 3) (unless-none (ltb k (length t / 3)) 5 (omega arith) two.0) in
    let more = or_none (table_refusal t) (room_refusal bytes at (code_len t k) 22) two.1 in
    record {
      table = more.0;
      entry = record { there = there; long = (good_is t (table_passes t more.0).0).long k there };
      fits = room_passes bytes at (code_len t k) 22 (omega arith) more.1;
    }

-- ---- what `push_code` writes, `read_code` answers: the code's position and the bit behind it
pub pushed_read : (s : List ℕ) (at : ℕ) (t : List ℕ) (k : ℕ) (r : Result ℕ Refusal) (left : List ℕ)
    → Put (code_refusal (length s) at t k) s at (code (codes_of t) k) r left → code_refusal (length s) at t k ≡ 0
    → code_at left at t ≡ done (record { position = k; next = at + length (code (codes_of t) k) })
unfolding code_at
pushed_read s at t k r left put e =
    let p = code_passes (length s) at t k e in
    let size : length (code (codes_of t) k) ≡ code_len t k = code-length t k p.entry.there in
    let bits : bits_of left ≡ put_bits (bits_of s) at (code (codes_of t) k) = rw (eq-eqb (code_refusal (length s) at t k) 0 e) at put.bits in
    let same : length left ≡ length s = wrote_size {next = at + length (code (codes_of t) k)} (omega arith) (record { behind = refl; bits = bits }) in
    let here : drop at (bits_of left) ≡ code (codes_of t) k ++ _ = ap (drop at) bits ∙ drop_put (bits_of s) (code (codes_of t) k) at (rw length_bits_of (omega arith)) in
    let read = read_at (codes_of t) k (bits_of left) _ at (table_passes t p.table).1 (rw length_codes_of p.entry.there) here in
    let none : or_else (table_refusal t) (start_refusal (length left) at) ≡ 0 = or_next _ _ p.table ∙ start_is (length left) at (omega arith) (omega arith) in
    answer_given _ _ none ∙ ap read_answer read

-- ---- what an answer tells of the code that was read
pub answer_found : (c : CodeRead) (x : CodeFound) → done x ≡ read_answer c → c ≡ Code x.position x.next
answer_found (Code k next) x e =
    let same : x ≡ record { position = k; next = next } = cc in
    rw same
answer_found NoCode x e = cc
answer_found Ends x e = cc

pub answer_bad : (c : CodeRead) (bits : List ℕ) (n : ℕ) → refused n ≡ read_answer c → code_got bits c ≡ bad n
answer_bad (Code k next) bits n e = cc
answer_bad NoCode bits n e = let same : n ≡ 10 = cc in rw same
answer_bad Ends bits n e = let same : n ≡ 24 = cc in rw same
