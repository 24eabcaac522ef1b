-- A run over macroblocks that may end early, over any state and any step (document 00, demand 1: earlier macroblocks are kept, the rest is untouched).
use Rattle.std.specs.Prelude.{ℕ, zero, suc}

-- a step goes on with a state, or stops with a refusal
pub data Step (S : Type 0) : Type 0 where
  on : S → Step S
  stop : ℕ → Step S

-- where a run ends: the refusal, 0 for none; the macroblocks done, which is also the index of the one that was refused; and the state
pub record End (S : Type 0) : Type 0 where
  pub refusal : ℕ
  pub done : ℕ
  pub state : S

abbrev pub go_on : {S : Type 0} → Step S → (S → End S) → ℕ → S → End S
go_on (on u) f k s = f u
go_on (stop c) f k s = record { refusal = c; done = k; state = s }

-- n steps from macroblock k on; a step that stops leaves the state before it
unfoldable pub run : {S : Type 0} → (ℕ → S → Step S) → ℕ → ℕ → S → End S
run f zero k s = record { refusal = 0; done = k; state = s }
run f (suc n) k s = go_on (f k s) (run f n (suc k)) k s

-- the states that a step which never stops goes through: the one before macroblock k
unfoldable pub after : {S : Type 0} → (ℕ → S → S) → S → ℕ → S
after g s zero = s
after g s (suc k) = g k (after g s k)
