-- What each refusal of a line or a field tells.
use Rattle.fault.specs.declared.Fault.{Fault}
use Rattle.fault.specs.Layers.{in_fields}
use Rattle.text.specs.declared.faults.FieldFault.{FieldFault}
use Rattle.text.specs.declared.faults.FieldFault.TheVariants.{NoLineFeed, NoNumber}

abbrev pub fault_of : FieldFault → Fault
fault_of (NoLineFeed line) = in_fields 32 line 1
fault_of (NoNumber line byte) = in_fields 33 line byte
