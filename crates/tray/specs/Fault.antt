-- What the refusals of trays tell.
use Rattle.fault.specs.declared.Fault.{Fault}
use Rattle.fault.specs.Layers.{in_trays}
use Rattle.tray.specs.declared.faults.TrayFault.{TrayFault}
use Rattle.tray.specs.declared.faults.TrayFault.TheVariants.{Full}

-- each refusal with its number
abbrev pub fault_of : TrayFault → Fault
fault_of Full = in_trays 21
