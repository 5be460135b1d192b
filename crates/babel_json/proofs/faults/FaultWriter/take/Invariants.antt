-- Each turn takes a line, and with it a line feed.
use Rattle.std.proofs.Common.{length}
use Rattle.babel_json.proofs.faults.FaultWriter.take.Given as goal

abbrev pub decreases-loop-part : goal.decreases-loop-part
decreases-loop-part g l = length l.rest
