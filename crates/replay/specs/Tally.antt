-- What is counted of jobs.
use Rattle.std.specs.Prelude.{ℕ, ◌+◌, min, List, Option, None}
use Rattle.std.specs.Option.{option_or}
use Rattle.tree.specs.Plan.{saturated}
use Rattle.plane_enc.specs.declared.svq1_enc_inter.WriteEnd.{WriteEnd}
use Rattle.replay.specs.declared.inner.compare.Difference.{Difference}
use Rattle.replay.specs.declared.inner.tally.Tally.{Tally}
use Rattle.replay.specs.Compare.{modes_in}

abbrev pub none : Tally
none = record { jobs = 0; blocks = 0; inter = 0; four = 0; intra = 0; skip = 0; bits = 0; error = 0; written = None; read = None }

-- one job: the macroblocks that the writer did, of at most so many, by what it told of them, and its totals
unfoldable pub tallied_of : List ℕ → ℕ → WriteEnd → Option Difference → Option Difference → Tally
tallied_of s blocks w written read =
    let done = min w.done blocks in
    record {
      jobs = 1;
      blocks = done;
      inter = modes_in s 0 done;
      four = modes_in s 1 done;
      intra = modes_in s 2 done;
      skip = modes_in s 3 done;
      bits = w.bits;
      error = w.error;
      written = written;
      read = read;
    }

-- two together
unfoldable pub added : Tally → Tally → Tally
added a b = record {
  jobs = saturated (a.jobs + b.jobs);
  blocks = saturated (a.blocks + b.blocks);
  inter = saturated (a.inter + b.inter);
  four = saturated (a.four + b.four);
  intra = saturated (a.intra + b.intra);
  skip = saturated (a.skip + b.skip);
  bits = saturated (a.bits + b.bits);
  error = saturated (a.error + b.error);
  written = option_or a.written b.written;
  read = option_or a.read b.read;
}
