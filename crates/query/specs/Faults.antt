-- What each refusal of a query tells.
use Rattle.fault.specs.declared.Fault.{Fault}
use Rattle.fault.specs.Layers.{in_query}
use Rattle.query.specs.declared.faults.QueryFault.{QueryFault}
use Rattle.query.specs.declared.faults.QueryFault.TheVariants.{Field, NoVerb, NoName, TooFew}
use Rattle.text.specs.Faults as text

-- a refusal of a line or a field is passed up whole
abbrev pub fault_of : QueryFault → Fault
fault_of (Field inner) = text.fault_of inner
fault_of (NoVerb line) = in_query 62 line 1
fault_of (NoName line byte) = in_query 63 line byte
fault_of (TooFew line byte) = in_query 64 line byte
