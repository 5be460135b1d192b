use Rattle.babel_wire.proofs.Files.{last_tried}
use Rattle.babel_wire.proofs.laws.files_are_last_tried.Goals as goal

pub returns : goal.returns
returns c = last_tried
