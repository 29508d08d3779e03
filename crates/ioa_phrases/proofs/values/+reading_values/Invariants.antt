use Rattle.std.proofs.Common.{◌+◌, ◌-◌, ◌*◌}
use Rattle.ioa_phrases.proofs.values.+reading_values.Given as goal

abbrev pub decreases-read_init : goal.decreases-read_init
decreases-read_init l = 4 * (65 - l.depth) + 2

abbrev pub decreases-read_low_init : goal.decreases-read_low_init
decreases-read_low_init l = 4 * (65 - l.depth) + 1

abbrev pub decreases-read_fill : goal.decreases-read_fill
decreases-read_fill l = 4 * (65 - l.depth)
