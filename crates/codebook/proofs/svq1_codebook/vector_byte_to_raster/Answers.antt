-- A byte of a vector of L0 to L3 has the table's number; behind a vector's last byte, and at L4 and L5, there is none. Assumes nothing.
use Prim.Native.Nat.{◌+◌, ◌<◌}
use native.Mathlib.Omega.{arith}
use Rattle.codebook.specs.CodebookCallsLaws.{no_level, no_byte, place_at_lem}
use Rattle.codebook.specs.Raster.{raster_numbers}
use Rattle.codebook.specs.RasterLaws.{numbers_in}
use Rattle.book.specs.Level.{area}
use Rattle.codebook.proofs.svq1_codebook.vector_byte_to_raster.Goals as goal
use Rattle.codebook.proofs.svq1_codebook.vector_byte_to_raster.Goals.{After-raster_start}

-- the byte is one of the vector
inside : (c : After-raster_start) → c.args.byte < area c.number-d.result
inside c =
    rw (← c.number-d.ensures.0) at (rw c.vector_length.ensures at c.if-vector_length-byte.false)

-- so its number is one of the table
numbered : (c : After-raster_start) → c.raster_start.result + c.args.byte < raster_numbers
numbered c = omega (arith, inside c, numbers_in c.number-d.result (omega arith), c.raster_start.ensures)

pub returns-then-d-gt3 : goal.returns-then-d-gt3
returns-then-d-gt3 c =
    let d = c.number-d.result in
    let b = c.args.byte in
    rw (← c.number-d.ensures.0) (no_level d b c.if-d-gt3.true)

pub returns-then-vector_length-byte : goal.returns-then-vector_length-byte
returns-then-vector_length-byte c =
    let d = c.number-d.result in
    let b = c.args.byte in
    rw (← c.number-d.ensures.0) (no_byte d b (omega (arith, c.if-d-gt3.false)) (rw (← c.number-d.ensures.0) at (rw c.vector_length.ensures at c.if-vector_length-byte.true)))

pub overflow_add-i : goal.overflow_add-i
overflow_add-i c = omega (arith, numbered c)

pub bounds-order-i : goal.bounds-order-i
bounds-order-i c = omega (arith, numbered c)

pub returns : goal.returns
returns c =
    let n = c in
    let d = n.number-d.result in
    let b = n.args.byte in
    rw (← n.number-d.ensures.0)
    (place_at_lem d b _ (omega arith) (inside c) (rw c.raster_start.ensures (c.raster_order-order.ensures.rule d b (omega arith) (inside c))))
