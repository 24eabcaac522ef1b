-- The slices are made of zeros.
use mathlib.Core.Path.{refl}
use Rattle.listing_text.proofs.listing.list_plane.Goals as goal

pub list_into-requires : goal.list_into-requires
list_into-requires c =
    let s = c in
    (s.requires.0, record { output = refl; samples = refl; vectors_x = refl; vectors_y = refl; numbers = refl }, s.requires.1)
