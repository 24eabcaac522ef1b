-- Laws of signed numbers as text: one that is written is read back, and no other text is read as it (document 02, §3). Assumes nothing.
use Rattle.std.specs.Prelude.{ℕ, zero, suc, ◌^◌, ◌≤◌, ◌<◌, ◌≡◌, Bool, ℤ, Option, None, Some}
use Rattle.std.proofs.Math.Path.{refl, sym, ap}
use Rattle.std.proofs.Common.{◌∙◌, true≢false, arith, eqb-true}
use Rattle.std.proofs.Math.Bool.{true, false, not}
use mathlib.Core.List.{List, [], ◌∷◌}
use Rattle.std.proofs.Math.Dec.{eqb}
use Rattle.std.proofs.Math.IntN.{pos, negsuc}
use Rattle.std.specs.Int.Signed.{mag}
use Rattle.bits.specs.Basics.{pick, every}
use Rattle.text.specs.Text.{minus, is_digit, number_up_to, above_zero, below_zero, signed_in, decimal, signed_decimal}
use Rattle.text.specs.ReadingForms.{without}
use Rattle.text.specs.TextLaws.{none_some, number_empty, number_le}
use Rattle.text.specs.WritingFormsLaws.{decimal_digits, decimal_back, digits_without}
use Rattle.text.specs.OneTextLaws.{number_decimal}

-- a number from -least to most
abbrev pub Between : ℕ → ℕ → ℤ → Type 0
Between least most (pos n) = n ≤ most
Between least most (negsuc n) = suc n ≤ least

-- its text is read as it, and is the one that is
pub record SignedText (least most : ℕ) (z : ℤ) : Type 0 where
  pub back : signed_in least most (signed_decimal z) ≡ Some z
  pub one : (t : List ℕ) → signed_in least most t ≡ Some z → t ≡ signed_decimal z

module _ (least most : ℕ) (l : least < 10 ^ 20) (m : most < 10 ^ 20) where
  -- a text with no minus is read as a number with no sign
  plain : (t : List ℕ) → without minus t ≡ true → signed_in least most t ≡ above_zero (number_up_to most t)
  unfolding signed_in every
  plain [] h = sym (ap above_zero (number_empty most [] refl))
  plain (c ∷ t) h = go (eqb c minus) h
    where
      go : (b : Bool) → pick (not b) (every (λ c. not (eqb c minus)) t) false ≡ true
          → pick b (below_zero (number_up_to least t)) (above_zero (number_up_to most (c ∷ t))) ≡ above_zero (number_up_to most (c ∷ t))
      go true q = absurd (true≢false (sym q))
      go false q = refl

  read_back : (z : ℤ) → Between least most z → signed_in least most (signed_decimal z) ≡ Some z
  unfolding signed_in signed_decimal
  read_back (pos n) h = plain (decimal n) (digits_without minus (decimal n) refl (decimal_digits n)) ∙ ap above_zero (decimal_back most n (omega arith) h)
  read_back (negsuc n) h = ap below_zero (decimal_back least (suc n) (omega arith) h)

  above_one : (o : Option ℕ) (t : List ℕ) (z : ℤ) → number_up_to most t ≡ o → above_zero o ≡ Some z → t ≡ signed_decimal z
  unfolding signed_decimal
  above_one None t z q e = none_some e
  above_one (Some n) t z q e =
      let s : pos n ≡ z = cc in rw (← s) (number_decimal most n t q (omega (arith, number_le most n t q)))

  below_one : (o : Option ℕ) (t : List ℕ) (z : ℤ) → number_up_to least t ≡ o → below_zero o ≡ Some z → minus ∷ t ≡ signed_decimal z
  unfolding signed_decimal
  below_one None t z q e = none_some e
  below_one (Some zero) t z q e = none_some e
  below_one (Some (suc n)) t z q e =
      let s : negsuc n ≡ z = cc in
      rw (← s) (ap (λ (u : List ℕ). minus ∷ u) (number_decimal least (suc n) t q (omega (arith, number_le least (suc n) t q))))

  read_one : (z : ℤ) (t : List ℕ) → signed_in least most t ≡ Some z → t ≡ signed_decimal z
  unfolding signed_in
  read_one z [] q = none_some q
  read_one z (c ∷ t) q = go (eqb c minus) refl q
    where
      go : (b : Bool) → eqb c minus ≡ b → pick b (below_zero (number_up_to least t)) (above_zero (number_up_to most (c ∷ t))) ≡ Some z
          → c ∷ t ≡ signed_decimal z
      go true e h = rw (eqb-true c minus e) (below_one (number_up_to least t) t z refl h)
      go false e h = above_one (number_up_to most (c ∷ t)) (c ∷ t) z refl h

  pub signed_text : (z : ℤ) → Between least most z → SignedText least most z
  signed_text z h = record { back = read_back z h; one = read_one z }

-- what is read lies between the bounds
pub signed_within : (least most : ℕ) (t : List ℕ) (z : ℤ) → signed_in least most t ≡ Some z → Between least most z
unfolding signed_in
signed_within least most [] z q = none_some q
signed_within least most (c ∷ t) z q = go (eqb c minus) q
  where
    above : (o : Option ℕ) → number_up_to most (c ∷ t) ≡ o → above_zero o ≡ Some z → Between least most z
    above None p e = none_some e
    above (Some n) p e = let s : pos n ≡ z = cc in rw (← s) (number_le most n (c ∷ t) p)

    below : (o : Option ℕ) → number_up_to least t ≡ o → below_zero o ≡ Some z → Between least most z
    below None p e = none_some e
    below (Some zero) p e = none_some e
    below (Some (suc n)) p e = let s : negsuc n ≡ z = cc in rw (← s) (number_le least (suc n) t p)

    go : (b : Bool) → pick b (below_zero (number_up_to least t)) (above_zero (number_up_to most (c ∷ t))) ≡ Some z → Between least most z
    go true e = below (number_up_to least t) refl e
    go false e = above (number_up_to most (c ∷ t)) refl e

-- a small number lies between any larger bounds
pub small_between : (least most : ℕ) (z : ℤ) → mag z < least → mag z < most → Between least most z
small_between least most (pos n) h k = omega arith
small_between least most (negsuc n) h k = h

-- it holds no separator that is neither a digit nor a minus
pub signed_without : (s : ℕ) → is_digit s ≡ false → eqb minus s ≡ false → (z : ℤ) → without s (signed_decimal z) ≡ true
unfolding signed_decimal every
signed_without s d e (pos n) = digits_without s (decimal n) d (decimal_digits n)
signed_without s d e (negsuc n) = rw e (digits_without s (decimal (suc n)) d (decimal_digits (suc n)))
