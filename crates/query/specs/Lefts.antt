-- The fields of a line that are still to be read.
use Rattle.std.specs.Prelude.{List}
use Rattle.query.specs.declared.field.Field.{Field as Part}
use Rattle.query.specs.declared.field.Fields.{Fields}
use Rattle.query.specs.Fields.{Field, fields_behind}

-- a field that was read
abbrev pub read_as : Part → Field
read_as part = record { byte = part.byte; bytes = part.bytes.now }

-- the fields behind those that were read
abbrev pub left : Fields → List Field
left fields = fields_behind fields.at fields.line.now
