-- What each refusal of an output tells.
use Rattle.fault.specs.declared.Fault.{Fault}
use Rattle.fault.specs.Layers.{in_output}
use Rattle.output.specs.declared.faults.OutputFault.{OutputFault}
use Rattle.output.specs.declared.faults.OutputFault.TheVariants.{Full}

abbrev pub fault_of : OutputFault → Fault
fault_of Full = in_output 51
