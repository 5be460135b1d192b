-- Lines of text, and the faults of their readers and writers (profile).
use Rattle.std.specs.Prelude.{ℕ, List, codes}
use Rattle.std.specs.declared.io.ErrorKind.{ErrorKind}
use Rattle.std.specs.declared.io.ErrorKind.TheVariants as kinds
use Rattle.hex.specs.declared.error.FromHexError.{FromHexError}
use Rattle.hex.specs.declared.error.FromHexError.TheVariants as hex_errors
use Rattle.babel_text.specs.declared.errors.LineFault.{LineFault}
use Rattle.babel_text.specs.declared.errors.LineFault.TheVariants.{Form, Number, Address, Hex, TooLong, Read, Write, Memory}

-- The most octets of a line, its line feed not counted. The law `limits_are_those_of_the_code` ties it to the code's.
abbrev pub max_line_len : ℕ
max_line_len = 131200

-- What a command prints.
abbrev pub line_fault_code : LineFault → List ℕ
line_fault_code Form = codes "L1"
line_fault_code Number = codes "L2"
line_fault_code Address = codes "L3"
line_fault_code Hex = codes "L4"
line_fault_code TooLong = codes "L5"
line_fault_code Read = codes "L6"
line_fault_code Write = codes "L7"
line_fault_code Memory = codes "L8"

-- Why nothing is read: L8 if an allocation failed, else L6.
abbrev pub reading_fault : ErrorKind → LineFault
reading_fault kinds.OutOfMemory = Memory
reading_fault kind = Read

-- Why nothing is written: L8 if an allocation failed, else L7.
abbrev pub writing_fault : ErrorKind → LineFault
writing_fault kinds.OutOfMemory = Memory
writing_fault kind = Write

-- Why a text isn't read as octets: L8 if an allocation failed, else L4.
abbrev pub hex_fault : FromHexError → LineFault
hex_fault hex_errors.OutOfMemory = Memory
hex_fault error = Hex
