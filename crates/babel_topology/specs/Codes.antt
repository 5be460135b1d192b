-- The codes of faults, as a command prints them (profile).
use Rattle.std.specs.Prelude.{ℕ, List, ◌++◌, codes}
use Rattle.std.specs.Fmt.{decimal}
use Rattle.babel_topology.specs.declared.errors.TopologyFault.{TopologyFault}
use Rattle.babel_topology.specs.declared.errors.TopologyFault.TheVariants as faults

abbrev pub fault_text : TopologyFault → List ℕ
fault_text faults.NotToml = codes "T1"
fault_text faults.Form = codes "T2"
fault_text faults.Text = codes "T3"
fault_text faults.Memory = codes "T4"
fault_text faults.Unreadable = codes "T5"
fault_text faults.NodeCount = codes "T6"
fault_text (faults.BadName number) = codes "T7 " ++ decimal number
fault_text (faults.RepeatedName number) = codes "T8 " ++ decimal number
fault_text (faults.BadRouterId number) = codes "T9 " ++ decimal number
fault_text (faults.UnknownEnd number) = codes "T10 " ++ decimal number
fault_text (faults.SameEnds number) = codes "T11 " ++ decimal number
fault_text (faults.RepeatedLink number) = codes "T12 " ++ decimal number
fault_text (faults.TooManyCosts number) = codes "T13 " ++ decimal number
fault_text (faults.BadStep number) = codes "T14 " ++ decimal number
fault_text (faults.EarlyStep number) = codes "T15 " ++ decimal number
fault_text (faults.LateStep number) = codes "T16 " ++ decimal number
fault_text (faults.SharedCost number) = codes "T17 " ++ decimal number
fault_text (faults.BadExpectation number) = codes "T18 " ++ decimal number
fault_text (faults.LateExpectation number) = codes "T19 " ++ decimal number
