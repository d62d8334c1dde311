-- What the refusals of drafts tell.
use Rattle.fault.specs.declared.Fault.{Fault}
use Rattle.fault.specs.Layers.{in_drafts}
use Rattle.draft.specs.declared.faults.DraftFault.{DraftFault}
use Rattle.draft.specs.declared.faults.DraftFault.TheVariants.{Set, Tray, AtEnd, NotAtEnd}
use Rattle.sets.specs.Fault as sets
use Rattle.tray.specs.Fault as trays

-- each refusal with its number; that of a set or a tray is passed up whole
abbrev pub fault_of : DraftFault → Fault
fault_of (Set inner) = sets.fault_of inner
fault_of (Tray inner) = trays.fault_of inner
fault_of AtEnd = in_drafts 22
fault_of NotAtEnd = in_drafts 23
