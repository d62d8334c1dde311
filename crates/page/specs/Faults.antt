-- What each refusal of a page tells.
use Rattle.fault.specs.declared.Fault.{Fault}
use Rattle.output.specs.Faults as output
use Rattle.page.specs.declared.faults.PageFault.{PageFault}
use Rattle.page.specs.declared.faults.PageFault.TheVariants.{Set, Output}
use Rattle.sets.specs.Fault as sets

-- a refusal is passed up whole
abbrev pub fault_of : PageFault → Fault
fault_of (Set inner) = sets.fault_of inner
fault_of (Output inner) = output.fault_of inner
