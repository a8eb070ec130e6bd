-- The reasons why a list can't be read.
use Rattle.std.specs.Prelude.{◌≡◌, ◌≢◌, ℕ, Result, Err}
use Rattle.pack_lists.specs.declared.faults.LineFault.{LineFault}
use Rattle.pack_lists.specs.declared.faults.LineFault.TheVariants as line_faults
use Rattle.pack_lists.specs.declared.faults.ListFault.{ListFault}
use Rattle.pack_lists.specs.declared.faults.ListFault.TheVariants as list_faults

-- the fault of a line when memory runs out (this project)
abbrev pub no_memory_in_line : LineFault
no_memory_in_line = line_faults.NoMemory

-- the fault of a list when memory runs out (this project)
abbrev pub no_memory : ListFault
no_memory = list_faults.NoMemory

-- the fault of a list whose line with this number has this fault (this project)
abbrev pub told : ℕ → LineFault → ListFault
told number (line_faults.Flaw flaw) = list_faults.Line number flaw
told number line_faults.NoMemory = list_faults.NoMemory

-- the fault of a line is this one, or that memory ran out (this project)
abbrev pub TellsLine : {T : Type 0} → Result T LineFault → LineFault → Type 0
TellsLine wanted fault = fault ≢ line_faults.NoMemory → wanted ≡ Err fault

-- the fault of a list is this one, or that memory ran out (this project)
abbrev pub Tells : {T : Type 0} → Result T ListFault → ListFault → Type 0
Tells wanted fault = fault ≢ list_faults.NoMemory → wanted ≡ Err fault
