-- Laws of the calls on the codebook.
-- Assumes nothing.
use Rattle.std.specs.Prelude.{ℕ, zero, suc, ◌≤◌, ◌<◌, ◌≡◌, refl, Some, None}
use Rattle.std.proofs.Common.{arith, lt-ltb, le-ltb}
use Rattle.book.specs.Level.{area}
use Rattle.book.specs.declared.svq1_vlc.Svq1Half.{Svq1Half}
use Rattle.book.specs.declared.svq1_vlc.Svq1Half.TheVariants.{Intra, Inter}
use Rattle.codebook.specs.Codebook.{page_offset, raster_of}
use Rattle.codebook.specs.CodebookCalls.{page_place, raster_place}
use Rattle.codebook.specs.CodebookForms.{page_start}

pub page_at : (d : ℕ) (h : Svq1Half) (x : ℕ) → d < 4 → x ≡ page_start h d → Some x ≡ page_place d h
unfolding page_place
page_at d h x l e = rw (e, lt-ltb d 4 l)

pub page_nowhere : (d : ℕ) (h : Svq1Half) → 4 ≤ d → None ≡ page_place d h
unfolding page_place
page_nowhere d h l = rw (le-ltb d 4 l)

-- L3 comes last of the four, and behind it there is none
pub last_intra : (d : ℕ) → 3 ≤ d → page_start Intra d ≡ 0
unfolding page_offset
last_intra (suc (suc (suc zero))) l = refl
last_intra (suc (suc (suc (suc d)))) l = rw (le-ltb (suc (suc (suc (suc d)))) 4 (omega arith))
last_intra zero l = absurd (omega arith)
last_intra (suc zero) l = absurd (omega arith)
last_intra (suc (suc zero)) l = absurd (omega arith)

pub behind_inter : (d : ℕ) → 4 ≤ d → page_start Inter d ≡ 0
behind_inter d l = rw (le-ltb d 4 l)

pub place_at_lem : (d b x : ℕ) → d < 4 → b < area d → x ≡ raster_of d b → Some x ≡ raster_place d b
unfolding raster_place
place_at_lem d b x h l e = rw (lt-ltb d 4 h, lt-ltb b (area d) l, e)

pub no_level : (d b : ℕ) → 4 ≤ d → None ≡ raster_place d b
unfolding raster_place
no_level d b l = rw (le-ltb d 4 l)

pub no_byte : (d b : ℕ) → d < 4 → area d ≤ b → None ≡ raster_place d b
unfolding raster_place
no_byte d b h l = rw (lt-ltb d 4 h, le-ltb b (area d) l)
