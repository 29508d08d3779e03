use Rattle.std.proofs.Common.{◌+◌, ◌-◌, ◌*◌}
use Rattle.ioa_phrases.proofs.types.+reading_types.Given as goal

abbrev pub decreases-read_type : goal.decreases-read_type
decreases-read_type l = 4 * (65 - l.depth) + 3

abbrev pub decreases-read_low_type : goal.decreases-read_low_type
decreases-read_low_type l = 4 * (65 - l.depth) + 2

abbrev pub decreases-read_sequence : goal.decreases-read_sequence
decreases-read_sequence l = 4 * (65 - l.depth) + 1

abbrev pub decreases-read_array : goal.decreases-read_array
decreases-read_array l = 4 * (65 - l.depth) + 1

abbrev pub decreases-read_element : goal.decreases-read_element
decreases-read_element l = 4 * (65 - l.depth)
