use Rattle.std.proofs.Common.{length}
use Rattle.qccd_words.proofs.words.+option_words.Given as goal

abbrev pub decreases-option_words : goal.decreases-option_words
decreases-option_words l = length l.words.now
