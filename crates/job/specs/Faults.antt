-- What each refusal of a job tells.
use Rattle.fault.specs.declared.Fault.{Fault}
use Rattle.fault.specs.Layers.{in_jobs}
use Rattle.draft.specs.Faults as drafts
use Rattle.output.specs.Faults as outputs
use Rattle.page.specs.Faults as pages
use Rattle.table.specs.Faults as tables
use Rattle.tray.specs.Fault as trays
use Rattle.job.specs.declared.faults.JobFault.{JobFault}
use Rattle.job.specs.declared.faults.JobFault.TheVariants.{SmallOutput, Table, Output, Tray, Page, Draft}

abbrev pub fault_of : JobFault → Fault
fault_of SmallOutput = in_jobs 71
fault_of (Table inner) = tables.fault_of inner
fault_of (Output inner) = outputs.fault_of inner
fault_of (Tray inner) = trays.fault_of inner
fault_of (Page inner) = pages.fault_of inner
fault_of (Draft inner) = drafts.fault_of inner
