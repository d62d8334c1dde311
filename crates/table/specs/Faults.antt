-- What each refusal of a table text tells.
use Rattle.fault.specs.declared.Fault.{Fault}
use Rattle.fault.specs.Layers.{in_tables}
use Rattle.text.specs.Faults as fields
use Rattle.table.specs.declared.faults.TableFault.{TableFault}
use Rattle.table.specs.declared.faults.TableFault.TheVariants.{Field, TooLong, NotB, NotEmpty, TooMany, NoRoom, NotName, CellCount, NotCell}

abbrev pub fault_of : TableFault → Fault
fault_of (Field inner) = fields.fault_of inner
fault_of TooLong = in_tables 31 1 1
fault_of NotB = in_tables 34 1 1
fault_of (NotEmpty line) = in_tables 35 line 1
fault_of (TooMany line) = in_tables 36 line 1
fault_of NoRoom = in_tables 37 4 1
fault_of (NotName line byte) = in_tables 38 line byte
fault_of (CellCount line) = in_tables 39 line 1
fault_of (NotCell line byte) = in_tables 40 line byte
