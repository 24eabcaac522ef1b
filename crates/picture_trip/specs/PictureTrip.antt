-- A picture written, and its planes read back, in memory (document 02, §5; document 00, demand 3).
use Rattle.std.specs.Prelude.{ℕ, ◌≤◌, List, [], ◌∷◌, map, ◌≡◌, length}
use Rattle.plan.specs.PlanClaim.{largest_lambda}
use Rattle.macroblock.specs.Slices.{Slices}
use Rattle.plane.specs.Refusals.{slices_refusal}
use Rattle.plane.specs.Calls.{PlaneAnswer, PlaneRead}
use Rattle.claim.specs.RoundTrip.{Returned}
use Rattle.picture.specs.Picture.{Shared, Results, PlaneIn, plane_given}
use Rattle.picture.specs.Refusals.{picture_refusal}
use Rattle.picture.specs.Calls.{PictureWritten}
use Rattle.picture_claim.specs.PictureClaim.{PictureClaim}

-- a plane there and back: as it was given, the writer's answer and what it left, the reader's slices, its answer, and what it left in them
pub record PlaneTrip : Type 0 where
  pub plane : PlaneIn
  pub wrote : PlaneAnswer
  pub left : Results
  pub back : Slices
  pub read : PlaneAnswer
  pub left_back : Slices

-- each plane is read from the bit where the one before it ended
unfoldable pub EachRead : Shared → List ℕ → ℕ → List PlaneTrip → Type 0
EachRead s bytes start [] = Unit
EachRead s bytes start (x ∷ xs) = PlaneRead (plane_given s x.plane) bytes start x.back x.read x.left_back × EachRead s bytes x.wrote.next xs

-- each plane that is written to its end, and into slices that pass 20, comes back as it was left; so it goes on as long as planes are written to their end
unfoldable pub EachReturned : Shared → List PlaneTrip → Type 0
EachReturned s [] = Unit
EachReturned s (x ∷ xs) =
    (x.wrote.refusal ≡ 0 → slices_refusal (plane_given s x.plane) x.back ≡ 0 → Returned (plane_given s x.plane) x.wrote x.read x.left.slices x.back x.left_back)
    × (x.wrote.refusal ≡ 0 → EachReturned s xs)

-- a picture that no refusal meets
abbrev pub PictureTaken : Shared → List PlaneTrip → ℕ → List ℕ → ℕ → Type 0
PictureTaken s xs allowance out start = picture_refusal s (map (λ x. x.plane) xs) allowance (length out) start ≡ 0

-- writer and readers answer as when they are called by themselves, and of every picture that no refusal meets the claim holds; with lambda at most 2^48 it comes back
pub record PictureTrip (s : Shared) (xs : List PlaneTrip) (allowance : ℕ) (out : List ℕ) (start refusal done : ℕ) (out' : List ℕ) : Type 0 where
  pub wrote : PictureWritten s (map (λ x. x.plane) xs) allowance out start (record { refusal = refusal; done = done; planes = map (λ x. x.wrote) xs }) out' (map (λ x. x.left) xs)
  pub read : EachRead s out' start xs
  pub claim : PictureTaken s xs allowance out start → PictureClaim s (map (λ x. x.plane) xs) allowance out start
  pub returned : PictureTaken s xs allowance out start → s.settings.lambda ≤ largest_lambda → EachReturned s xs
