-- Laws of a block of a tree, field by field.
-- Assumes nothing.
use Rattle.std.specs.Prelude.{ℕ, suc, ◌+◌, ◌-◌, ◌<◌, min, ◌≡◌, List, ℤ, length, take, set, get_or, replicate}
use Rattle.std.proofs.Common.{sym, ap, ◌∙◌, add-one, arith, length-take, length-take-le, take_all, take-suc}
use Rattle.std.proofs.Math.Decide.{dec_le}
use Rattle.std.proofs.Math.Seq.{append_snoc}
use Rattle.std.proofs.lemmas.List.{set_at}
use Rattle.leaf.specs.Leaf.{coded}
use Rattle.leaf.specs.LentNeeds.{padded}
use Rattle.call_entries.specs.Node.{leaf_node}
use Rattle.call_entries.specs.declared.inner.NodePart.{NodePart}

-- one more stage index in front of the zeros
pub front_put : (stages : List ℕ) (i : ℕ) → length stages ≡ 6 → i < 6 → set (padded (take i stages)) i (get_or stages i 0) ≡ padded (take (i + 1) stages)
front_put stages i six h =
    let n = length-take-le i stages (omega arith) in
    let m = length-take-le (suc i) stages (omega arith) in
    let v = get_or stages i 0 in
    let a : 6 - length (take i stages) ≡ suc (5 - i) = omega arith in
    let b : 6 - length (take (suc i) stages) ≡ 5 - i = omega arith in
    let put = set_at (take i stages) 0 (replicate (5 - i) 0) v i n in
    rw (add-one i, a, b, put, take-suc stages i 0 (omega arith)) (sym (append_snoc (take i stages) v (replicate (5 - i) 0)))

-- a count above six takes what six takes
take_six : (stages : List ℕ) (n : ℕ) → length stages ≡ 6 → take (min 6 n) stages ≡ take n stages
take_six stages n six =
    elim (dec_le n 6) [
      | yes h ↦ (let m : min 6 n ≡ n = omega arith in rw m)
      | no h ↦ (let m : min 6 n ≡ 6 = omega arith in rw m (take_all 6 stages (omega arith) ∙ sym (take_all n stages (omega arith))))
    ]

pub coded_node : (m : ℤ) (n k : ℕ) (stages front : List ℕ) → length stages ≡ 6 → k ≡ min 6 n → front ≡ padded (take k stages)
    → ◌≡◌ {A = NodePart} (record { mean = m; kind = 3; count = k; stages = front }) (leaf_node (coded m (take n stages)))
coded_node m n k stages front six e f =
    let t : take k stages ≡ take n stages = ap (λ (i : ℕ). take i stages) e ∙ take_six stages n six in
    let l : k ≡ length (take n stages) = omega (arith, length-take n stages) in
    rw (f, t, l)
