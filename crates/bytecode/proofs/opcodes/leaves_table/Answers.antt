use Rattle.bytecode.specs.Opcodes.{leaves_of}
use Rattle.bytecode.proofs.Tables.{entry_is}
use Rattle.bytecode.proofs.opcodes.leaves_table.Goals as goal

-- the table is the list of what the rows say of the opcodes below 256: antt computes it here
pub returns : goal.returns
returns c = entry_is leaves_of 256
