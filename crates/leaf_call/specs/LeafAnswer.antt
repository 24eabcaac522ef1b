-- The leaf search as a call, in memory: what its struct answers, and what its parts ask (document 01, refusal 8).
use Rattle.std.specs.Prelude.{ℕ, ◌-◌, ◌≤◌, ◌≡◌, Bool, true, not, ◌&&◌, List, eqb, leb, ltb, length, take, drop, replicate, Result, Ok, Err, IfOk}
use Rattle.bits.specs.Refusals.{Answer, done, refused, number_of}
use Rattle.bits.specs.declared.refusal.Refusal.{Refusal}
use Rattle.book.specs.Level.{area}
use Rattle.leaf.specs.LeafCall.{BlockIn, LeafChosen, leaf_answer}
use Rattle.leaf.specs.LeafForms.{leaf_of}
use Rattle.leaf.specs.LeafBits.{leaf_bits}
use Rattle.leaf.specs.LentNeeds.{Clean}
use Rattle.leaf.specs.LeafNeeds.{LeafFound}
use Rattle.book.specs.Book.{tables_of, codebook_bytes, book_refusal}
use Rattle.book.specs.declared.svq1_vlc.Svq1Half.TheVariants.{Inter}
use Rattle.leaf_call.specs.declared.svq1_enc_leaf.LeafAnswer.{LeafAnswer}
use Rattle.leaf.specs.declared.svq1_enc_leaf.LeafCode.{LeafCode}
use Rattle.leaf.specs.declared.svq1_enc_leaf.LeafTerms.{LeafTerms}

-- 8 by the numbers of a call: level, half, target and predictor lengths, cap, and whether skip is allowed
unfoldable pub block_fits : ℕ → ℕ → ℕ → ℕ → ℕ → Bool → Bool
block_fits level half target predictor cap allow_skip =
    ((ltb level 6 && ltb half 2) && (eqb target (area level) && eqb predictor (area level))) && (leb cap 6 && not (allow_skip && eqb half 0))

-- the answer of a block of n samples, by the struct's fields
abbrev pub leaf_answer_of : ℕ → Result LeafAnswer Refusal → Answer LeafChosen
leaf_answer_of n (Ok a) = done (record { leaf = leaf_of a.code a.stages; bits = a.bits; error = a.error; shown = take n a.samples })
leaf_answer_of n (Err r) = refused (number_of r)

-- what an accepted call answers
abbrev pub found_answer : LeafCode → List ℕ → ℕ → ℕ → List ℕ → LeafAnswer
found_answer c stages bits error samples = record { code = c; stages = stages; bits = bits; error = error; samples = samples }

-- a call's answer: by the definition, the leaf in its one form; the samples behind the block's are 0
pub record LeafAnswered (b : BlockIn) (r : Result LeafAnswer Refusal) : Type 0 where
  pub answer : leaf_answer_of (length b.target) r ≡ leaf_answer b
  pub behind : IfOk r (λ a. drop (length b.target) a.samples ≡ replicate (256 - length b.target) 0)
  pub clean : IfOk r (λ a. Clean a.code a.stages)

-- what an accepted call asks of its parts: a book and a codebook that pass, room for the copy, and a block of its level
pub record Searchable (book codebook raised : List ℕ) (d : ℕ) (terms : LeafTerms) (t p : List ℕ) : Type 0 where
  pub known : book_refusal book ≡ 0
  pub codebook_size : length codebook ≡ codebook_bytes
  pub room : length raised ≡ codebook_bytes
  pub target : length t ≡ area d
  pub predictor : length p ≡ area d
  pub stages : terms.cap ≤ 6
  pub skips : terms.skip ≡ true → terms.half ≡ Inter

-- and what it finds: the leaf by the codebook, its bits by the book, zeros behind its samples
pub record SearchFound (book codebook : List ℕ) (d : ℕ) (terms : LeafTerms) (t p : List ℕ) (r : LeafAnswer) : Type 0 where
  pub leaf : LeafFound codebook terms d t p r.code r.stages r.error (take (length t) r.samples)
  pub counted : r.bits ≡ length (leaf_bits (tables_of book terms.half) d (leaf_of r.code r.stages))
  pub behind : drop (length t) r.samples ≡ drop {A = ℕ} (length t) (replicate 256 0)
