-- What the refusals of sets, rules and surveys tell.
use Rattle.fault.specs.declared.Fault.{Fault}
use Rattle.fault.specs.Layers.{in_sets}
use Rattle.sets.specs.declared.faults.SetFault.{SetFault}
use Rattle.sets.specs.declared.faults.SetFault.TheVariants.{Unfit, NotInside, OtherWidth, Ended}

-- each refusal with its number
abbrev pub fault_of : SetFault → Fault
fault_of Unfit = in_sets 11
fault_of NotInside = in_sets 12
fault_of OtherWidth = in_sets 13
fault_of Ended = in_sets 14
