-- A call that changes nothing counts nothing.
use Rattle.babel_speaker.specs.Versions.{SpeakerValue, CountsChanges}
use Rattle.std.proofs.Common.{refl}
use Rattle.babel_speaker.proofs.Counting.{counts_nothing}

pub nothing_counted : (s : SpeakerValue) → CountsChanges s s
nothing_counted s = counts_nothing s s refl
