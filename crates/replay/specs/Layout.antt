-- The fixed list of jobs and answers, byte by byte (oracle/README.md, "The fixed list").
use Rattle.std.specs.Prelude.{ℕ, ◌+◌, ◌*◌, ◌/◌, ◌%◌, ◌≤◌, not, List, [], ◌∷◌, eqb, leb, ltb, length, take, drop, get_or, Option, Some, None, Result, Ok, Err}
use Rattle.bits.specs.Basics.{pick}
use Rattle.book.specs.Book.{book_bytes, codebook_bytes}
use Rattle.canvas.specs.Canvas.{padded16}
use Rattle.replay.specs.declared.inner.file.Scene.{Scene}
use Rattle.replay.specs.declared.inner.file.Job.{Job}
use Rattle.replay.specs.declared.inner.file.SceneError.{SceneError}
use Rattle.replay.specs.declared.inner.file.SceneError.TheVariants as scene

-- the n bytes at a place; none where they are not all there
unfoldable pub part_in : List ℕ → ℕ → ℕ → List ℕ
part_in t at n = pick (leb (at + n) (length t)) (take n (drop at t)) []

-- the number that bytes stand for, lowest first
unfoldable pub little : List ℕ → ℕ
little [] = 0
little (b ∷ t) = 256 * little t + b

-- of at most eight bytes; more of them stand for 0
unfoldable pub number_in : List ℕ → ℕ
number_in t = pick (leb (length t) 8) (little t) 0

-- how many bytes n bits take
unfoldable pub bytes_for : ℕ → ℕ
bytes_for n = pick (eqb (n % 8) 0) (n / 8) (n / 8 + 1)

-- the largest side of a scene that the program takes, and the samples of the largest canvas
abbrev pub most_side : ℕ
most_side = 64

abbrev pub most_size : ℕ
most_size = 4096

-- its macroblocks
abbrev pub most_job_blocks : ℕ
most_job_blocks = 16

-- the first n bytes of what stands at a place are there
abbrev pub Begun : ℕ → ℕ → ℕ → Type 0
Begun bytes at n = at + n ≤ bytes

-- a scene of a width and a height: both numbers, source, reference, number of jobs, jobs
abbrev pub jobs_at : ℕ → ℕ → ℕ → ℕ
jobs_at at w h = at + 4 + w * h + padded16 w * padded16 h

abbrev pub scene_of : List ℕ → ℕ → ℕ → ℕ → Scene
scene_of t at w h = record {
  canvas = record { width = w; height = h; stride = padded16 w; rows = padded16 h };
  samples = w * h;
  size = padded16 w * padded16 h;
  source = at + 4;
  reference = at + 4 + w * h;
  jobs = get_or t (jobs_at at w h) 0;
  first = jobs_at at w h + 1;
}

unfoldable pub sized_in : List ℕ → ℕ → ℕ → ℕ → Result Scene SceneError
sized_in t at w h = pick (ltb (jobs_at at w h) (length t)) (Ok (scene_of t at w h)) (Err scene.Ends)

-- the scene at a place
unfoldable pub scene_in : List ℕ → ℕ → Result Scene SceneError
scene_in t at =
    let w = number_in (part_in t at 2) in
    let h = number_in (part_in t (at + 2) 2) in
    pick (leb (at + 4) (length t)) (pick (leb w most_side) (pick (leb h most_side) (sized_in t at w h) (Err scene.TooLarge)) (Err scene.TooLarge)) (Err scene.Ends)

-- where a book and a codebook stand: the books behind the list's three numbers, the codebooks behind the books
abbrev pub book_at : ℕ → ℕ
book_at k = 4 + book_bytes * k

abbrev pub codebook_at : ℕ → ℕ → ℕ
codebook_at books k = 4 + book_bytes * books + codebook_bytes * k

-- a job with an answer of n bits: book, codebook, lambda, radius, flag, bit count, bits, macroblocks, reconstruction, x and y of the vectors
unfoldable pub measured_in : List ℕ → ℕ → ℕ → ℕ → ℕ → Option Job
measured_in t books size at n =
    let blocks = size / 256 in
    let steps = at + 16 + bytes_for n in
    let recon = steps + 7 * blocks in
    let vx = recon + size in
    let vy = vx + 4 * blocks in
    pick (leb (vy + 4 * blocks) (length t))
    (Some (record {
      book = book_at (get_or t at 0);
      codebook = codebook_at books (get_or t (at + 1) 0);
      lambda = number_in (part_in t (at + 2) 8);
      radius = get_or t (at + 10) 0;
      four = not (eqb (get_or t (at + 11) 0) 0);
      count = n;
      bits = at + 16;
      steps = steps;
      recon = recon;
      vx = vx;
      vy = vy;
      next = vy + 4 * blocks;
    }))
    None

-- the job at a place
unfoldable pub job_of_list : List ℕ → ℕ → ℕ → ℕ → Option Job
job_of_list t books size at = pick (leb (at + 16) (length t)) (measured_in t books size at (number_in (part_in t (at + 12) 4))) None
