-- Opened, what is wrong with the form of a line computes: a proof that works a case out names this alone.
use Rattle.line.specs.Fields.{body, fields}
use Rattle.line.specs.Name.{all_name_bytes, name_of}
use Rattle.line.specs.Number.{digits, plain, number_of}
use Rattle.line.specs.Malformed.{offending, end_of, fields_fault, fault_of}

unfoldable pub open_lines : {A : Type 0} → A → A
unfolding body fields all_name_bytes name_of digits plain number_of offending end_of fields_fault fault_of
open_lines a = a
