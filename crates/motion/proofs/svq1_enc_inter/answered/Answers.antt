-- An error below 65,536 is a found vector's; its components are small, so lowering them loses nothing.
use Rattle.std.proofs.Common.{arith, lt-ltb, le-ltb, w32, FitsSigned}
use Rattle.std.proofs.lemmas.Int.{to_z-of_z}
use Rattle.motion.specs.CandidateForms.{lowered, best_so_far}
use Rattle.vectors.specs.ClipLaws.{sub_mag}
use Rattle.motion.proofs.svq1_enc_inter.answered.Goals as goal

pub returns-then-b-ge65536 : goal.returns-then-b-ge65536
unfolding best_so_far
returns-then-b-ge65536 c = simp (le-ltb _ _ c.if-b-ge65536.true)

pub returns : goal.returns
unfolding best_so_far
returns c =
    let b = c.args.b in
    let h = c.requires in
    let f : FitsSigned w32 (lowered b.ux) = record { sfits = omega (arith, sub_mag b.ux 1024, h) } in
    let g : FitsSigned w32 (lowered b.uy) = record { sfits = omega (arith, sub_mag b.uy 1024, h) } in
    simp (lt-ltb _ _ c.if-b-ge65536.false, c.lower-x.ensures, c.lower-y.ensures, to_z-of_z w32 (lowered b.ux) f, to_z-of_z w32 (lowered b.uy) g)
