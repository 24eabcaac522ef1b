-- The claim about a whole plane, written and read back (document 00, demand 3; document 01, "Behind demand 3"; document 02, §4, §5).
use Rattle.std.specs.Prelude.{ℕ, suc, ◌+◌, ◌*◌, ◌≤◌, ◌<◌, Bool, true, List, ◌≡◌, length, take, drop}
use Rattle.bits.specs.Basics.{All, Bytes, sum}
use Rattle.bits.specs.Bits.{bits_of, put_bits}
use Rattle.bits.specs.Calls.{start_refusal}
use Rattle.leaf.specs.Leaf.{sse}
use Rattle.mv_cache.specs.Grid.{part}
use Rattle.tree.specs.Plan.{total, pruned_cost}
use Rattle.plan.specs.PlanClaim.{largest_lambda, plan_cost}
use Rattle.macroblock.specs.declared.svq1_enc_inter.Svq1MbMode.TheVariants.{Skip}
use Rattle.macroblock.specs.Macroblock.{Given, cols, Choice, mode_bits}
use Rattle.macroblock.specs.Limit.{can_skip_rest}
use Rattle.macroblock.specs.Choice.{Task, padded_source, target, motions_tried, planning_for, fitting, weight_of}
use Rattle.macroblock.specs.Slices.{Slices, BlockSlice, blocks_in, near}
use Rattle.plane.specs.Plane.{count, Writing, wrote, wrote_weight, wrote_bits, write_plane, writing_at, read_up_to, read_plane}
use Rattle.plane.specs.Refusals.{write_refusal, read_refusal, slices_refusal}

-- macroblock k, written in state s, leads to state u: it appends exactly the bits that it states
pub record Appended (g : Given) (t : Task) (k : ℕ) (s u : Writing) : Type 0 where
  pub stated : (wrote_weight g t k s).bits ≡ length (wrote_bits g t k s)
  pub output : u.out ≡ put_bits s.out s.next (wrote_bits g t k s)
  pub next : u.next ≡ s.next + (wrote_weight g t k s).bits
  pub bits : u.bits ≡ s.bits + (wrote_weight g t k s).bits
  pub error : u.error ≡ s.error + (wrote_weight g t k s).err

-- reading the bytes from bit start into the slices d is not refused, takes for each macroblock the bits that the writer appended, and ends as the writer ended; `s k` is the writer's state before macroblock k
pub record ReadBack (g : Given) (bytes : List ℕ) (start : ℕ) (d : Slices) (s : ℕ → Writing) : Type 0 where
  pub accepted : read_refusal g bytes start d ≡ 0
  pub goes_on : (k : ℕ) → k ≤ count g → (read_up_to g (bits_of bytes) start d k).refusal ≡ 0
  pub reads : (k : ℕ) → k ≤ count g → (read_up_to g (bits_of bytes) start d k).done ≡ k
  pub same_bit : (k : ℕ) → k ≤ count g → (read_up_to g (bits_of bytes) start d k).state.next ≡ (s k).next
  pub ends : (read_plane g (bits_of bytes) start d).state.next ≡ (s (count g)).next
  pub recon : (read_plane g (bits_of bytes) start d).state.slices.recon ≡ (s (count g)).slices.recon
  pub blocks : (b : BlockSlice) → take (4 * count g) (blocks_in b (read_plane g (bits_of bytes) start d).state.slices) ≡ take (4 * count g) (blocks_in b (s (count g)).slices)
  pub rest : (b : BlockSlice) → drop (4 * count g) (blocks_in b (read_plane g (bits_of bytes) start d).state.slices) ≡ drop (4 * count g) (blocks_in b d)

-- a plane written from bit start of an output of these bits, with the result slices a: the state before macroblock k, and the state at the end
module _ (g : Given) (t : Task) (bits : List ℕ) (start : ℕ) (a : Slices) where
  abbrev pub state_at : ℕ → Writing
  state_at = writing_at g t bits start a

  abbrev pub final : Writing
  final = state_at (count g)

  -- what any mode costs for macroblock k, with the vectors that those before it left
  abbrev pub mode_cost : ℕ → Choice → ℕ
  mode_cost k c = total t.settings.lambda (weight_of g t k (near g (state_at k).slices k) c)

  -- the seven sentences of demand 3, numbered as there
  pub record Claim : Type 0 where
    -- the run reaches the last macroblock with these states
    pub reaches : write_plane g t bits start a ≡ record { refusal = 0; done = count g; state = final }
    -- 1. each macroblock appends exactly its stated bits; at the end the output holds them from its bit on, and before the start bit what it held
    pub appends : (k : ℕ) → k < count g → Appended g t k (state_at k) (state_at (suc k))
    pub holds : (k : ℕ) → k < count g → take (wrote_weight g t k (state_at k)).bits (drop (state_at k).next final.out) ≡ wrote_bits g t k (state_at k)
    pub before : take start final.out ≡ take start bits
    -- 2. its stated error is its reconstruction's squared distance from the padded source
    pub error : (k : ℕ) → k < count g → (wrote_weight g t k (state_at k)).err ≡ sse (target g t k) (part 16 (cols g) k final.slices.recon)
    -- 3. both totals are the sums of these, and the next bit is the start bit plus the bit total
    pub bit_total : final.bits ≡ sum (λ k. (wrote_weight g t k (state_at k)).bits) (count g)
    pub error_total : final.error ≡ sum (λ k. (wrote_weight g t k (state_at k)).err) (count g)
    pub next_bit : final.next ≡ start + final.bits
    -- in each block slice, that of x and that of y, what lies behind the blocks of the plane stays
    pub rest : (b : BlockSlice) → drop (4 * count g) (blocks_in b final.slices) ≡ drop (4 * count g) (blocks_in b a)
    -- 4. the reader, given that output or any bytes that pass 21 and begin as it does up to the next bit, and any slices that pass 20, takes exactly those bits
    -- and ends with the writer's next bit, reconstruction and block vectors
    pub read_back : (bytes : List ℕ) (d : Slices) → take final.next (bits_of bytes) ≡ take final.next final.out → start_refusal (length bytes) start ≡ 0 → slices_refusal g d ≡ 0 → ReadBack g bytes start d state_at
    -- 5. in each plan every other pruning over the same leaf choices, those that the task's margin gives, costs at least as much
    pub no_pruning_cheaper : (k : ℕ) → k < count g → All (λ m. (cut : ℕ → Bool) → plan_cost (planning_for g t k m) ≤ pruned_cost (planning_for g t k m) cut) (motions_tried g t k (near g (state_at k).slices k))
    -- 6. no mode tried, and under an allowance no fitting mode, costs less than the one written
    pub no_mode_cheaper : (k : ℕ) → k < count g → All (λ c. mode_cost k (wrote g t k (state_at k)) ≤ mode_cost k c) (fitting g t k (near g (state_at k).slices k) (state_at k).bits)
    -- 7. squared error plus lambda times bits is never above that of skipping every macroblock
    pub never_above_skipping : final.error + t.settings.lambda * final.bits ≤ sse (padded_source g.width g.height t.source) g.reference.samples + t.settings.lambda * (length (mode_bits g Skip) * count g)
    -- under an allowance: before each macroblock, and at the end, it still holds a SKIP code for each to come, in this plane and behind it
    pub within_allowance : (k : ℕ) → k ≤ count g → can_skip_rest t.limit g k (state_at k).bits ≡ true

-- source and reference are byte slices
pub record InMemory (g : Given) (t : Task) : Type 0 where
  pub source : Bytes t.source
  pub reference : Bytes g.reference.samples

-- what has to be shown of every plane, written from bit start of the bytes out: one that no refusal meets, with lambda at most 2^48, at any margin, and with an allowance, if any, that holds a SKIP code for each macroblock, written to its last macroblock
abbrev pub Claimed : Given → Task → List ℕ → ℕ → Slices → Type 0
Claimed g t out start a =
    can_skip_rest t.limit g 0 0 ≡ true → InMemory g t → write_refusal g t out start a ≡ 0 → t.settings.lambda ≤ largest_lambda → (write_plane g t (bits_of out) start a).refusal ≡ 0
    → Claim g t (bits_of out) start a
