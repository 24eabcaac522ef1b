use Rattle.book.specs.Level.{level_number}
use Rattle.tree_samples.proofs.svq1_enc_tree.inner.rebuild.+rebuild.Given as goal

abbrev pub decreases-rebuild : goal.decreases-rebuild
decreases-rebuild l = level_number l.level
