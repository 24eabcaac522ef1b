-- The main theorems of this repository, of the definitions, each stated by name and proved by one citation. What the functions promise of memory stands in their
-- contracts; those that hand a theorem on are named beside it. Nothing is assumed: no axiom, no hole.
use Rattle.std.specs.Prelude.{ℕ, ◌+◌, ◌*◌, ◌%◌, ◌^◌, ◌≤◌, ◌<◌, ◌≡◌, true, List, ℤ, length, get_or, Some, Result}
use Rattle.bits.specs.Basics.{All, Bytes, sum, signed_of}
use Rattle.bits.specs.Bits.{bits_of}
use Rattle.bits.specs.Refusals.{done}
use Rattle.bits.specs.Calls.{Put}
use Rattle.bits.specs.declared.refusal.Refusal.{Refusal}
use Rattle.code_tables.specs.Codes.{code, codes_of}
use Rattle.code_tables.specs.Calls.{code_refusal, code_at}
use Rattle.code_tables.specs.CallsLaws.{pushed_read}
use Rattle.text.specs.Text.{signed_in}
use Rattle.text.specs.SignedLaws.{Between, SignedText, signed_within, signed_text}
use Rattle.book.specs.Book.{book_entries, codebook_bytes}
use Rattle.house.specs.House.{HouseBook, log_under, house_value, house_sample, house_codebook}
use Rattle.house.specs.HouseLaws.{house_test, by_test, Logarithm, house_log, house_number_at}
use Rattle.codebook.specs.Raster.{RasterOrder}
use Rattle.codebook.specs.RasterLaws.{raster_test, raster_by_test}
use Rattle.leaf.specs.LeafCall.{BlockIn}
use Rattle.leaf.specs.Margin.{Margins}
use Rattle.leaf.specs.MarginLaws.{margins}
use Rattle.plan.specs.PlanClaim.{PlanClaimed}
use Rattle.plan.specs.PlanClaimLaws.{plan_claimed}
use Rattle.canvas.specs.Canvas.{blocks_along}
use Rattle.vectors.specs.declared.svq1_motion_predictor.Svq1Mv.{Svq1Mv}
use Rattle.motion.specs.Search.{Search}
use Rattle.motion.specs.Sum.{DroppedEarly}
use Rattle.motion.specs.SumLaws.{dropped_early}
use Rattle.macroblock.specs.Macroblock.{Given}
use Rattle.macroblock.specs.Limit.{can_skip_rest}
use Rattle.macroblock.specs.Choice.{Task, without_limit}
use Rattle.macroblock.specs.Slices.{Slices}
use Rattle.plane.specs.Plane.{write_plane, FirstFits}
use Rattle.plane.specs.Refusals.{write_refusal}
use Rattle.plane.specs.AloneLaws.{as_alone}
use Rattle.claim.specs.Claim.{InMemory, Claimed}
use Rattle.claim.specs.ClaimLaws.{claimed}
use Rattle.plane_room.specs.Room.{any_bits, book_bits, room_bytes, Suffices, OfSize, OfSizeUnder}
use Rattle.plane_room.specs.RoomLaws.{size_suffices, book_suffices}
use Rattle.picture.specs.Picture.{Shared, PlaneIn}
use Rattle.picture.specs.Refusals.{picture_refusal}
use Rattle.picture_claim.specs.PictureClaim.{PictureInMemory, PictureClaim}
use Rattle.picture_claim.specs.PictureClaimLaws.{picture_claimed}
use Rattle.picture_claim.specs.PictureRoom.{picture_room, PictureHasRoom}
use Rattle.picture_claim.specs.PictureRoomLaws.{picture_room_lem, allowance_room}
use Rattle.visible_error.specs.Visible.{ShownPlane, square_at, visible_total}
use Rattle.listing_job.specs.Job.{Job, job_in}
use Rattle.listing_text.specs.Listing.{Files, listing}
use Rattle.listed_errors.specs.PaddedLaws.{all_samples}
use Rattle.listed_errors.specs.ListedErrorLaws.{left_plane, stated_total, total_at_most, stated_listing, listing_as_before}
use Rattle.theorems.specs.BookFiles.{BookFiles, book_files}
use Rattle.theorems.specs.HousePrinted.{HousePrinted, house_printed_lem}
use Rattle.starred_cards.specs.Cards.{Holds, cards}
use Rattle.starred_cards.specs.Proof.{starred}

-- Demand 3, of every plane of bytes that no refusal meets, with lambda at most 2^48, at any margin, and with an allowance, if any, that holds a SKIP code for
-- each macroblock, written to its last macroblock: the seven sentences are the fields of `Claim` (claim/Claim). Of memory: `round_trip_inter_plane`.
pub a_plane_written_and_read : (g : Given) (t : Task) (out : List ℕ) (start : ℕ) (a : Slices) → Claimed g t out start a
a_plane_written_and_read = claimed

-- Its sentence on plans, of every plan that is called directly, at any margin. Of memory: `plan_macroblock`.
pub a_plan_called_directly : (b : BlockIn) (lambda : ℕ) → PlanClaimed b lambda
a_plan_called_directly = plan_claimed

-- So many bytes always hold a plane of a size, under any book and under one: 22 cannot come. Of memory: `plane_room`, `plane_room_under`.
pub room_for_a_size : (width height : ℕ) → Suffices (OfSize width height) (room_bytes any_bits (blocks_along height * blocks_along width))
room_for_a_size = size_suffices

pub room_under_a_book : (width height : ℕ) (book : List ℕ) → Suffices (OfSizeUnder width height book) (room_bytes (book_bits book) (blocks_along height * blocks_along width))
room_under_a_book = book_suffices

-- Document 01's starred cards, one table and one statement.
pub the_starred_cards : All Holds cards
the_starred_cards = starred

-- The house book by one computed test over its table. Of memory: `house_book` computes the test over the constant.
pub the_house_book : (t : List ℕ) → house_test t ≡ true → HouseBook t
the_house_book = by_test

-- Its lengths are 2 floor(log2(value)) + 1: what the rule counts is the logarithm.
pub the_house_lengths : (p : ℕ) → p < book_entries → Logarithm (house_value p) (log_under 16 (house_value p))
the_house_lengths = house_log

-- The number at each place of the house codebook is the rule's. Of memory: `fill_house_codebook`.
pub the_house_codebook : (i : ℕ) → i < codebook_bytes → signed_of (get_or house_codebook i 0) ≡ house_sample i
the_house_codebook = house_number_at

-- Document 02, §3: what is printed of the house is the built-in book's file and the built-in codebook's numbers, one a line; the sentences are the fields of
-- `HousePrinted` (theorems/HousePrinted). Of memory: `work_out_house_book`, `fill_house_codebook`, `write_house`.
pub the_house_printed : HousePrinted
the_house_printed = house_printed_lem

-- Its raster order: one computed test over a table of 120 numbers shows the rule at each entry, and one byte of a vector in each place of a level. Of memory:
-- `raster_order` computes the test over the constant.
pub the_raster_order : (t : List ℕ) → raster_test t ≡ true → RasterOrder t
the_raster_order = raster_by_test

-- What is read as a signed number is in range, and one in range has one text, which is read as it. Of memory: `put_signed`, `read_signed`.
pub a_signed_number_read : (least most : ℕ) (t : List ℕ) (z : ℤ) → signed_in least most t ≡ Some z → Between least most z
a_signed_number_read = signed_within

pub a_signed_number_written_and_read : (least most : ℕ) → least < 10 ^ 20 → most < 10 ^ 20 → (z : ℤ) → Between least most z → SignedText least most z
a_signed_number_written_and_read = signed_text

-- What `push_code` writes with any table that it takes, `read_code` reads.
pub a_code_written_and_read : (s : List ℕ) (at : ℕ) (t : List ℕ) (k : ℕ) (r : Result ℕ Refusal) (left : List ℕ)
    → Put (code_refusal (length s) at t k) s at (code (codes_of t) k) r left → code_refusal (length s) at t k ≡ 0
    → code_at left at t ≡ done (record { position = k; next = at + length (code (codes_of t) k) })
a_code_written_and_read = pushed_read

-- Document 02, §2: a book has one file, which is refused and read as the book is; the sentences are the fields of `BookFiles` (theorems/BookFiles).
-- Of memory: `read_book_file`, `write_book_file`.
pub a_book_filed_and_read : BookFiles
a_book_filed_and_read = book_files

-- What document 02, §4, makes of a leaf, sentence by sentence: the fields of `Margins` (leaf/Margin). Of memory: `search_leaf`, which answers the leaf by
-- these rules.
pub a_stage_earns_its_bits : Margins
a_stage_earns_its_bits = margins

-- Document 02, §5, of every picture of bytes that no refusal meets, of any number of planes, ended early or not: its bits are inside the allowance, and each plane
-- that is reached has the sentences of `PlaneClaim`, those of demand 3 among them (picture_claim/PictureClaim). Of memory: `round_trip_picture`.
pub a_picture_inside_its_allowance : (s : Shared) (ps : List PlaneIn) (allowance : ℕ) (out : List ℕ) (start : ℕ) → picture_refusal s ps allowance (length out) start ≡ 0 → PictureInMemory ps
    → PictureClaim s ps allowance out start
a_picture_inside_its_allowance = picture_claimed

-- 22 cannot come where the rooms of its planes fit behind the start bit, nor where the allowance's bits do (picture_claim/PictureRoom).
pub room_for_a_picture : (s : Shared) (ps : List PlaneIn) (allowance : ℕ) (out : List ℕ) (start : ℕ) → PictureInMemory ps → start + 8 * picture_room (book_bits s.book) ps ≤ 8 * length out
    → PictureHasRoom s ps allowance out start
room_for_a_picture = picture_room_lem

pub room_for_an_allowance : (s : Shared) (ps : List PlaneIn) (allowance : ℕ) (out : List ℕ) (start : ℕ) → PictureInMemory ps → start + allowance ≤ 8 * length out
    → PictureHasRoom s ps allowance out start
room_for_an_allowance = allowance_room

-- Where an allowance holds a SKIP code for each macroblock, and each mode that is written without a limit on bits fits it, the plane within it is the plane
-- without one.
pub within_an_allowance : (g : Given) (t : Task) → can_skip_rest t.limit g 0 0 ≡ true → (out : List ℕ) (start : ℕ) (a : Slices) → FirstFits g t out start a
    → write_plane g t out start a ≡ write_plane g (without_limit t) out start a
within_an_allowance = as_alone

-- Document 02, §6, of every search, vector and best found so far: the sum and the rows taken, that the sum reaches the best exactly where the whole absolute
-- error does, and that a candidate judged by it leaves the best that it leaves by its whole error: the fields of `DroppedEarly` (motion/Sum). So
-- `search_motion_vector`, whose contract speaks of whole errors, finds what it found. Of memory: `sum_motion_vector`.
pub a_beaten_vector_dropped_early : (g : Search) (v : Svq1Mv) → DroppedEarly g v
a_beaten_vector_dropped_early = dropped_early

-- Document 02, §1: a plane's visible error has each sample inside width × height once; of a plane written to its end it is never above the stated total; and a job of
-- whole macroblocks prints what it printed by the stated errors. Of memory: `visible_error`, `encode_inter_plane`, `listing`.
pub what_the_panel_shows : (s : ShownPlane) → visible_total s ≡ sum (λ y. sum (λ x. square_at s x y) s.width) s.height
what_the_panel_shows = all_samples

pub never_above_the_stated : (g : Given) (t : Task) (out : List ℕ) (start : ℕ) (a : Slices) → InMemory g t → write_refusal g t out start a ≡ 0
    → (write_plane g t (bits_of out) start a).refusal ≡ 0 → visible_total (left_plane g t out start a) ≤ stated_total g t out start a
never_above_the_stated = total_at_most

pub whole_macroblocks_as_before : (f : Files) → Bytes f.source → Bytes f.reference → ((j : Job) → job_in f.job ≡ Some j → (j.width % 16 ≡ 0) × (j.height % 16 ≡ 0)) → listing f ≡ stated_listing f
whole_macroblocks_as_before = listing_as_before
