use Rattle.bytecode.specs.Opcodes.{length_of}
use Rattle.bytecode.proofs.Tables.{entry_is}
use Rattle.bytecode.proofs.opcodes.length_table.Goals as goal

-- the table is the list of what the rows say of the opcodes below 256: antt computes it here
pub returns : goal.returns
returns c = entry_is length_of 256
