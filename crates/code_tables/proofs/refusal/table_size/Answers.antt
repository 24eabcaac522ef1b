-- `refusal::table_size` meets its contract. The arms' keys are the definition's numbers.
use Prim.Native.Nat.{ℕ}
use mathlib.Core.Path.{◌≡◌, refl, sym}
use mathlib.Core.Logic.{inl, inr, ⊎_elim}
use mathlib.Core.Bool.{true}
use types.Run.{OneOf}
use Rattle.bits.specs.Basics.{All}
use Rattle.bits.specs.BasicsLaws.{is_false}
use Rattle.code_tables.specs.Calls.{one_of, table_bytes}
use Rattle.code_tables.specs.CallsLaws.{one_passes}
use Rattle.code_tables.proofs.refusal.table_size.Goals as goal

pub returns-in-12 : goal.returns-in-12
unfolding one_of
returns-in-12 c =
    let at : (k : ℕ) → true ≡ one_of table_bytes k → c.args.bytes ≡ k → true ≡ one_of table_bytes c.args.bytes = λ k t e. rw e t in
    ⊎_elim (at 12 refl) (⊎_elim (at 24 refl) (⊎_elim (at 192 refl) (⊎_elim (at 768 refl) (at 1536 refl)))) c.in-12.is

pub returns-in_default : goal.returns-in_default
returns-in_default c =
    let each : All (OneOf table_bytes) table_bytes = (inl refl, (inr (inl refl), (inr (inr (inl refl)), (inr (inr (inr (inl refl))), (inr (inr (inr (inr refl))), tt))))) in
    sym (is_false (one_of table_bytes c.args.bytes) (λ e. c.in_default.in_default-own.rest.1 (one_passes (OneOf table_bytes) table_bytes c.args.bytes e each)))
