-- Each answers for the bytes that it has not read. The measure of both is the number of these bytes.
use Rattle.std.proofs.Common.{◌+◌, ◌-◌}
use Rattle.host_name.proofs.+after_dot_in_label.Given as goal

abbrev pub decreases-after_dot : goal.decreases-after_dot
decreases-after_dot l = 256 - l.at

abbrev pub decreases-in_label : goal.decreases-in_label
decreases-in_label l = 256 - (l.at + 1)
