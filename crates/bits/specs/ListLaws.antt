-- Laws of lists: what holds of every element, and the elements that pass a test.
use Rattle.std.specs.Prelude.{◌≡◌, refl, Bool, true, false, List, [], ◌∷◌, ◌++◌, map, ℕ, zero, suc, ◌<◌, length, get_or, set, replicate}
use Rattle.std.proofs.Common.{ap, arith}
use Rattle.bits.specs.Basics.{pick, All, passing}

-- ---- every element
pub all_append : {A : Type 0} (P : A → Type 0) (xs ys : List A) → All P xs → All P ys → All P (xs ++ ys)
all_append P [] ys h k = k
all_append P (x ∷ xs) ys h k = (h.0, all_append P xs ys h.1 k)

pub all_map : {A B : Type 0} (P : A → Type 0) (Q : B → Type 0) (f : A → B) (xs : List A) → ((x : A) → P x → Q (f x)) → All P xs → All Q (map f xs)
all_map P Q f [] h k = tt
all_map P Q f (x ∷ xs) h k = (h x k.0, all_map P Q f xs h k.1)

pub all_any : {A : Type 0} (P : A → Type 0) (xs : List A) → ((x : A) → P x) → All P xs
all_any P [] h = tt
all_any P (x ∷ xs) h = (h x, all_any P xs h)

pub all_both : {A : Type 0} (P Q R : A → Type 0) (xs : List A) → ((x : A) → P x → Q x → R x) → All P xs → All Q xs → All R xs
all_both P Q R [] f h k = tt
all_both P Q R (x ∷ xs) f h k = (f x h.0 k.0, all_both P Q R xs f h.1 k.1)

pub all_at : {A : Type 0} (P : A → Type 0) (xs : List A) (i : ℕ) (d : A) → i < length xs → All P xs → P (get_or xs i d)
all_at P [] i d h a = absurd (omega arith)
all_at P (x ∷ xs) zero d h a = a.0
all_at P (x ∷ xs) (suc i) d h a = all_at P xs i d (omega arith) a.1

pub all_set : {A : Type 0} (P : A → Type 0) (xs : List A) (i : ℕ) (v : A) → P v → All P xs → All P (set xs i v)
all_set P [] i v p a = tt
all_set P (x ∷ xs) zero v p a = (p, a.1)
all_set P (x ∷ xs) (suc i) v p a = (a.0, all_set P xs i v p a.1)

pub all_repeat : {A : Type 0} (P : A → Type 0) (n : ℕ) (x : A) → P x → All P (replicate n x)
all_repeat P zero x p = tt
all_repeat P (suc n) x p = (p, all_repeat P n x p)

-- ---- those that pass a test
pick_all : {A : Type 0} (P : A → Type 0) (q : Bool) (x : A) (xs : List A) → (q ≡ true → P x) → All P xs → All P (pick q (x ∷ xs) xs)
pick_all P true x xs h k = (h refl, k)
pick_all P false x xs h k = k

pub all_passing : {A : Type 0} (P : A → Type 0) (f : A → Bool) (xs : List A) → All P xs → All P (passing f xs)
unfolding passing
all_passing P f [] h = tt
all_passing P f (x ∷ xs) h = pick_all P (f x) x (passing f xs) (λ e. h.0) (all_passing P f xs h.1)

pub passing_pass : {A : Type 0} (f : A → Bool) (xs : List A) → All (λ x. f x ≡ true) (passing f xs)
unfolding passing
passing_pass f [] = tt
passing_pass f (x ∷ xs) = pick_all (λ x. f x ≡ true) (f x) x (passing f xs) (λ e. e) (passing_pass f xs)

-- all of them, where each passes
pub passing_all : {A : Type 0} (f : A → Bool) (P : A → Type 0) (xs : List A) → ((x : A) → P x → f x ≡ true) → All P xs → passing f xs ≡ xs
unfolding passing
passing_all f P [] e h = refl
passing_all f P (x ∷ xs) e h = rw (e x h.0) (ap (◌∷◌ x) (passing_all f P xs e h.1))

-- the same ones under two tests that agree
pub passing-same : {A : Type 0} (f e : A → Bool) (P : A → Type 0) (xs : List A) → ((x : A) → P x → f x ≡ e x) → All P xs → passing f xs ≡ passing e xs
unfolding passing
passing-same f e P [] s h = refl
passing-same f e P (x ∷ xs) s h = rw (s x h.0, passing-same f e P xs s h.1)

pick-append : {A : Type 0} (q : Bool) (x : A) (us vs : List A) → pick q (x ∷ (us ++ vs)) (us ++ vs) ≡ pick q (x ∷ us) us ++ vs
pick-append true x us vs = refl
pick-append false x us vs = refl

pub passing-append : {A : Type 0} (f : A → Bool) (xs ys : List A) → passing f (xs ++ ys) ≡ passing f xs ++ passing f ys
unfolding passing
passing-append f [] ys = refl
passing-append f (x ∷ xs) ys = rw (passing-append f xs ys) (pick-append (f x) x (passing f xs) (passing f ys))
