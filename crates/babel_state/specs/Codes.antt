-- The codes of refusals (profile).
use Rattle.std.specs.Prelude.{ℕ, List, codes}
use Rattle.babel_message.specs.declared.errors.Refusal.TheVariants as refusals
use Rattle.babel_state.specs.declared.errors.ConfigFault.{ConfigFault}
use Rattle.babel_state.specs.declared.errors.ConfigFault.TheVariants as config_faults
use Rattle.babel_state.specs.declared.errors.RecvFault.{RecvFault}
use Rattle.babel_state.specs.declared.errors.RecvFault.TheVariants as recv_faults
use Rattle.babel_state.specs.declared.errors.RestoreFault.{RestoreFault}
use Rattle.babel_state.specs.declared.errors.RestoreFault.TheVariants as restore_faults
use Rattle.babel_state.specs.declared.errors.SetCostFault.{SetCostFault}
use Rattle.babel_state.specs.declared.errors.SetCostFault.TheVariants as set_cost_faults

abbrev pub config_code : ConfigFault → List ℕ
config_code config_faults.ReservedRouterId = codes "C1"
config_code config_faults.InterfaceCount = codes "C2"
config_code config_faults.NominalCost = codes "C3"
config_code config_faults.HelloInterval = codes "C4"
config_code config_faults.Prefixes = codes "C5"
config_code config_faults.InterfaceAddresses = codes "C6"
config_code config_faults.Memory = codes "C7"

abbrev pub restore_code : RestoreFault → List ℕ
restore_code (restore_faults.Config fault) = config_code fault
restore_code restore_faults.TooShort = codes "K1"
restore_code restore_faults.Beginning = codes "K2"
restore_code restore_faults.RouterId = codes "K3"
restore_code restore_faults.TooManyRecords = codes "K4"
restore_code restore_faults.Length = codes "K5"
restore_code (restore_faults.Record index) = codes "K6"
restore_code (restore_faults.Order index) = codes "K7"

abbrev pub recv_code : RecvFault → List ℕ
recv_code recv_faults.NoInterface = codes "S1"
recv_code recv_faults.ForeignSource = codes "S2"
recv_code recv_faults.OwnSource = codes "S3"
recv_code (recv_faults.Refused refusals.Short) = codes "P1"
recv_code (recv_faults.Refused refusals.Magic) = codes "P2"
recv_code (recv_faults.Refused refusals.Version) = codes "P3"
recv_code (recv_faults.Refused refusals.BodyLength) = codes "P4"
recv_code (recv_faults.Refused (refusals.Tlv offset)) = codes "P5"
recv_code (recv_faults.Refused refusals.Memory) = codes "P6"

abbrev pub set_cost_code : SetCostFault → List ℕ
set_cost_code set_cost_faults.NoInterface = codes "E1"
set_cost_code set_cost_faults.CostOutOfRange = codes "E2"
