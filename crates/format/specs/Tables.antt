-- What the tables of a file say of method k, as the code holds it.
use Rattle.std.specs.Prelude.{ℕ, List}
use Rattle.format.specs.declared.layout.MethodEntry.{MethodEntry}
use Rattle.format.specs.declared.layout.DebugHead.{DebugHead}
use Rattle.format.specs.Layout.{code_address, parameters, locals, debug_address, name_size, code_size}

abbrev pub entry_of : List ℕ → ℕ → MethodEntry
entry_of f k = record { code = code_address f k; parameters = parameters f k; locals = locals f k; debug = debug_address f k }

abbrev pub head_of : List ℕ → ℕ → DebugHead
head_of f k = record { name_size = name_size f k; code_size = code_size f k }
