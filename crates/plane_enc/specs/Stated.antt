-- What the writer tells of each macroblock in a lent slice of numbers (document 01, "Files as they stay": a macroblock's step states its mode, bits and error).
use Rattle.std.specs.Prelude.{ℕ, zero, suc, ◌*◌, ◌/◌, min, List, [], ◌∷◌, ◌++◌, ◌≡◌, ltb, length, drop}
use Rattle.std.proofs.lemmas.List.Edits.{sets}
use Rattle.bits.specs.Basics.{pick}
use Rattle.bits.specs.Bits.{bits_of}
use Rattle.macroblock.specs.Mode.{mode_position}
use Rattle.macroblock.specs.Macroblock.{Given}
use Rattle.macroblock.specs.Choice.{Task}
use Rattle.macroblock.specs.Slices.{Slices, Lent}
use Rattle.plane_enc.specs.declared.svq1_enc_inter.WriteEnd.{WriteEnd}
use Rattle.plane.specs.Plane.{StepStated, step_stated, writing_at}
use Rattle.plane.specs.Calls.{PlaneAnswer, PlaneWritten}
use Rattle.plane_enc.specs.WriterNeeds.{WrittenThrough}

-- what a step states as three numbers: its mode's position in the mode table, its bits, its error
abbrev pub three_of : StepStated → List ℕ
three_of m = mode_position m.mode ∷ m.bits ∷ m.error ∷ []

-- the numbers of the first n macroblocks of a plane, one macroblock behind the other; out is the output's bits
unfoldable pub stated_to : Given → Task → List ℕ → ℕ → Slices → ℕ → List ℕ
stated_to g t out start s zero = []
stated_to g t out start s (suc n) = stated_to g t out start s n ++ three_of (step_stated g t n (writing_at g t out start s n))

-- a lent list when n macroblocks are done: the three numbers of each, as far as it has room for all three, and behind them what it held
unfoldable pub stated_in : Given → Task → List ℕ → ℕ → Slices → List ℕ → ℕ → List ℕ
stated_in g t out start s held n = let m = min n (length held / 3) in stated_to g t out start s m ++ drop (3 * m) held

-- a list when macroblock k is told in it: its three numbers stored at its place, where there is room for all three
unfoldable pub told : List ℕ → ℕ → List ℕ → List ℕ
told l k three = pick (ltb k (length l / 3)) (sets l (3 * k) three) l

-- before macroblock k: the slices and the bits spent are those of the state before it, and the macroblocks before it are told
pub record Telling (g : Given) (t : Task) (start : ℕ) (l : Lent) (held : List ℕ) (u : Slices) (numbers : List ℕ) (k spent : ℕ) : Type 0 where
  pub slices : u ≡ (writing_at g t (bits_of l.out) start l.slices k).slices
  pub spends : spent ≡ (writing_at g t (bits_of l.out) start l.slices k).bits
  pub stated : numbers ≡ stated_in g t (bits_of l.out) start l.slices held k

-- a plane that is not refused is written as far as it goes, and what is done is told: stated' is what is left of held
pub record ToldThrough (g : Given) (t : Task) (start : ℕ) (l : Lent) (held : List ℕ) (r : WriteEnd) (l' : Lent) (stated' : List ℕ) : Type 0 where
  pub written : WrittenThrough g t start l r l'
  pub stated : stated' ≡ stated_in g t (bits_of l.out) start l.slices held r.done

-- what a call of the writer that tells meets: what the writer alone does, and stated', what it leaves of held
pub record PlaneStated (g : Given) (t : Task) (start : ℕ) (l : Lent) (held : List ℕ) (r : PlaneAnswer) (l' : Lent) (stated' : List ℕ) : Type 0 where
  pub written : PlaneWritten g t start l r l'
  pub stated : stated' ≡ stated_in g t (bits_of l.out) start l.slices held r.done
