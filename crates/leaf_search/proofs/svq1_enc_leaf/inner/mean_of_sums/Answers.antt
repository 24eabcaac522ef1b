-- By the sign of the sum: 256 and the rounded quotient, or 256 less it; below 0 intra has 256 alone.
use native.Mathlib.Omega.{arith}
use mathlib.Core.Path.{◌≡◌, sym, ◌∙◌, ap}
use Prim.Native.Nat.{ℕ, ◌-◌, ◌+◌, ◌/◌, min}
use lib.IntN.{pos, sub_ℕ}
use Rattle.bits.specs.DifferenceLaws.{sub_over}
use Rattle.leaf_samples.specs.RaisedLaws.{mean_up, mean_down_intra, mean_down_inter}
use borrow.Author.Rules.{rules}
use Rattle.leaf_search.proofs.svq1_enc_leaf.inner.mean_of_sums.Goals as goal

pub returns-then-q-lt255 : goal.returns-then-q-lt255
returns-then-q-lt255 c =
    let a = c.args in
    let q = (a.st - a.sp + a.n / 2) / a.n in
    let e : min 255 q ≡ q = omega arith in
    record {
      result_value = sub_over 256 q ∙ sym (mean_up a.half a.st a.sp a.n c.if-sp-st.true ∙ ap pos e);
      upper_bound = search rules;
    }

pub returns-else-q-lt255 : goal.returns-else-q-lt255
returns-else-q-lt255 c =
    let a = c.args in
    let q = (a.st - a.sp + a.n / 2) / a.n in
    let e : min 255 q ≡ 255 = omega arith in
    record {
      result_value = sym (mean_up a.half a.st a.sp a.n c.if-sp-st.true ∙ ap pos e);
      upper_bound = search rules;
    }

pub returns-in-Intra : goal.returns-in-Intra
returns-in-Intra c =
    let a = c.args in
    record {
      result_value = rw c.in-Intra.is (sym (mean_down_intra a.st a.sp a.n c.if-sp-st.false));
      upper_bound = search rules;
    }

pub returns-then-q-lt256 : goal.returns-then-q-lt256
returns-then-q-lt256 c =
    let a = c.args in record {
      result_value = rw c.in-Inter.is (sym (mean_down_inter a.st a.sp a.n c.if-sp-st.false));
      upper_bound = search rules;
    }

pub returns-else-q-lt256 : goal.returns-else-q-lt256
returns-else-q-lt256 c =
    let a = c.args in
    let q = (a.sp - a.st + a.n / 2) / a.n in
    let e : 256 - q ≡ 0 = omega arith in record {
      result_value = rw c.in-Inter.is
          (sym
          (mean_down_inter a.st a.sp a.n c.if-sp-st.false
          ∙ ap (λ (x : ℕ). sub_ℕ x 256) e));
      upper_bound = search rules;
    }
