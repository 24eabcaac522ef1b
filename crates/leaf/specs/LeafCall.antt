-- The leaf search as a call: its refusals and its answer (document 01, `svq1_enc_leaf.rs`, refusals 5 to 8; document 02, §4).
use Rattle.std.specs.Prelude.{ℕ, zero, suc, Bool, not, ◌&&◌, List, eqb, leb, ltb, length}
use Rattle.bits.specs.Basics.{or_else, unless}
use Rattle.bits.specs.Refusals.{Answer, done}
use Rattle.bits.specs.Calls.{unless_refused}
use Rattle.book.specs.Book.{tables_of, data_refusal}
use Rattle.book.specs.Level.{area}
use Rattle.book.specs.declared.svq1_vlc.Svq1Half.{Svq1Half}
use Rattle.book.specs.declared.svq1_vlc.Svq1Half.TheVariants.{Intra, Inter}
use Rattle.codebook.specs.Codebook.{vector_at}
use Rattle.leaf.specs.Leaf.{Leaf, sse, leaf_shown, leaf_rule, terms_at}
use Rattle.leaf.specs.LeafBits.{leaf_bits}
use Rattle.leaf.specs.declared.svq1_enc_leaf.LeafTerms.{LeafTerms}

-- what a leaf or a plan is asked with: level and half as numbers, so that unknown ones can be refused; 0 is the intra half, 1 the inter half
pub record BlockIn : Type 0 where
  pub book : List ℕ
  pub codebook : List ℕ
  pub level : ℕ
  pub half : ℕ
  pub cap : ℕ
  pub allow_skip : Bool
  pub target : List ℕ
  pub predictor : List ℕ
  pub margin : ℕ

-- by a call's arguments, in their order
abbrev pub block_by : List ℕ → List ℕ → ℕ → ℕ → List ℕ → List ℕ → ℕ → Bool → ℕ → BlockIn
block_by book codebook level half target predictor cap allow_skip margin = record {
  book = book;
  codebook = codebook;
  level = level;
  half = half;
  cap = cap;
  allow_skip = allow_skip;
  target = target;
  predictor = predictor;
  margin = margin;
}

abbrev pub half_at : ℕ → Svq1Half
half_at zero = Intra
half_at (suc n) = Inter

-- the terms by a call's half, cap, flag and margin
abbrev pub terms_by : ℕ → ℕ → Bool → ℕ → LeafTerms
terms_by half cap allow_skip margin = record { half = half_at half; cap = cap; skip = allow_skip; margin = margin }

abbrev pub terms_of : BlockIn → LeafTerms
terms_of b = terms_by b.half b.cap b.allow_skip b.margin

-- 8: unknown level or half, a block of wrong length, a cap above 6, skip allowed with the intra half
unfoldable pub block_ok : BlockIn → Bool
block_ok b =
    ((ltb b.level 6 && ltb b.half 2) && (eqb (length b.target) (area b.level) && eqb (length b.predictor) (area b.level)))
    && (leb b.cap 6 && not (b.allow_skip && eqb b.half 0))

-- of a leaf call and of a plan call alike; 0 for none
unfoldable pub block_refusal : BlockIn → ℕ
block_refusal b = or_else (data_refusal b.book b.codebook) (unless (block_ok b) 8)

-- what an accepted leaf call answers: the leaf, its bits, its error and the samples that it shows
pub record LeafChosen : Type 0 where
  pub leaf : Leaf
  pub bits : ℕ
  pub error : ℕ
  pub shown : List ℕ

unfoldable pub leaf_chosen : BlockIn → LeafChosen
leaf_chosen b =
    let terms = terms_of b in
    let vs = vector_at b.codebook terms.half b.level in
    let l = leaf_rule (terms_at b.level terms) vs b.target b.predictor in
    record {
      leaf = l;
      bits = length (leaf_bits (tables_of b.book terms.half) b.level l);
      error = sse b.target (leaf_shown vs b.predictor l);
      shown = leaf_shown vs b.predictor l;
    }

-- the leaf search as a call; it takes no result slice
unfoldable pub leaf_answer : BlockIn → Answer LeafChosen
leaf_answer b = unless_refused (block_refusal b) (done (leaf_chosen b))
