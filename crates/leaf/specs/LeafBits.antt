-- A leaf's bits, and reading them (document 01, "Reading", refusals 10, 11, 24).
use Rattle.std.specs.Prelude.{ℕ, zero, suc, ◌&&◌, List, [], ◌∷◌, ◌++◌, ltb, length}
use Rattle.bits.specs.Basics.{pick}
use Rattle.bits.specs.Bits.{msb}
use Rattle.code_tables.specs.Codes.{code, Got, got, bad, then, take_code, take_bits}
use Rattle.book.specs.Book.{Tables}
use Rattle.book.specs.declared.svq1_vlc.Svq1Half.{Svq1Half}
use Rattle.book.specs.declared.svq1_vlc.Svq1Half.TheVariants.{Intra, Inter}
use Rattle.codebook.specs.Mean.{mean_position, mean_at}
use Rattle.leaf.specs.Leaf.{Leaf, skip, coded}

-- four bits a stage
unfoldable pub stage_bits : List ℕ → List ℕ
stage_bits [] = []
stage_bits (j ∷ js) = msb 4 j ++ stage_bits js

-- at level d: the stage code (position count + 1, 0 for skip), then the mean's code and the stages; behind skip nothing
unfoldable pub leaf_bits : Tables → ℕ → Leaf → List ℕ
leaf_bits T d skip = code (T.stage d) 0
leaf_bits T d (coded m js) = code (T.stage d) (suc (length js)) ++ (code T.mean (mean_position T.half m) ++ stage_bits js)

-- ---- reading
unfoldable pub read_stages : ℕ → List ℕ → Got (List ℕ)
read_stages zero bits = got [] bits
read_stages (suc n) bits = then (take_bits 4 bits) (λ j r. then (read_stages n r) (λ js q. got (j ∷ js) q))

-- skip is for the inter half only
abbrev pub read_skip : Svq1Half → List ℕ → Got Leaf
read_skip Intra bits = bad 11
read_skip Inter bits = got skip bits

-- what stands behind the stage code at position k; 11, intra skip or stages at L4 or L5, is met with that code, before anything more is read
unfoldable pub read_rest : Tables → ℕ → ℕ → List ℕ → Got Leaf
read_rest T d zero bits = read_skip T.half bits
read_rest T d (suc n) bits =
    pick (ltb 3 d && ltb 0 n) (bad 11)
    (then (take_code T.mean bits) (λ k r. then (read_stages n r) (λ js q. got (coded (mean_at T.half k) js) q)))

unfoldable pub read_leaf : Tables → ℕ → List ℕ → Got Leaf
read_leaf T d bits = then (take_code (T.stage d) bits) (read_rest T d)
