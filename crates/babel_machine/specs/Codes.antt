-- The codes of refusals (profile).
use Rattle.std.specs.Prelude.{ℕ, List, codes}
use Rattle.babel_machine.specs.declared.errors.NetFault.{NetFault}
use Rattle.babel_machine.specs.declared.errors.NetFault.TheVariants as nets
use Rattle.babel_machine.specs.declared.errors.StepFault.{StepFault}
use Rattle.babel_machine.specs.declared.errors.StepFault.TheVariants as steps

abbrev pub net_code : NetFault → List ℕ
net_code nets.TooManyNodes = codes "M5"
net_code (nets.BadConfig node fault) = codes "M7"
net_code nets.CollectsSources = codes "M4"
net_code nets.AddressTwice = codes "M1"
net_code nets.RouterIdTwice = codes "M2"
net_code nets.Memory = codes "M6"

abbrev pub step_code : StepFault → List ℕ
step_code steps.NoNode = codes "N1"
step_code steps.NoDatagram = codes "N2"
step_code steps.NoInterface = codes "N3"
step_code steps.CostOutOfRange = codes "N4"
step_code steps.NotListed = codes "N5"
step_code steps.NotAnnounced = codes "N7"
step_code steps.Memory = codes "N6"
