-- What a sound program file is, in plain facts. No search stands in these.
use Rattle.std.specs.Prelude.{◌≡◌, ℕ, ◌+◌, ◌%◌, ◌<◌, ◌≤◌, List, length}
use Rattle.format.specs.Layout.{byte, methods, messages, tables_end, code_address, parameters, locals, debug_address, name_size, code_size, code_due, debug_due, message_due, message_size, program_size, program_address}

-- the size of a name
pub record Name (n : ℕ) : Type 0 where
  pub some : 2 ≤ n
  pub even : n % 2 ≡ 0

pub record Method (f : List ℕ) (k : ℕ) : Type 0 where
  pub variables : parameters f k + locals f k ≤ 255
  pub code : code_address f k ≡ code_due f k
  pub some : 1 ≤ code_size f k
  pub debug : debug_address f k ≡ debug_due f k
  pub name : Name (name_size f k)
  pub whole : debug_due f k + 3 + name_size f k ≤ length f

pub record Message (f : List ℕ) (k : ℕ) : Type 0 where
  pub even : message_size f k % 2 ≡ 0
  pub short : message_size f k ≤ 254
  pub whole : message_due f k + 2 + message_size f k ≤ length f

pub record Sound (f : List ℕ) : Type 0 where
  pub short : length f ≤ 65535
  pub magic : (byte f 0 ≡ 0x65) × (byte f 1 ≡ 0x4A) × (byte f 2 ≡ 0x56) × (byte f 3 ≡ 0x4D)
  pub version : byte f 4 ≡ 0x10
  pub some : 1 ≤ methods f
  pub tables : tables_end f ≤ length f
  pub main : parameters f 0 ≡ 0
  pub method : (k : ℕ) → k < methods f → Method f k
  pub message : (k : ℕ) → k < messages f → Message f k
  pub name : Name (program_size f)
  pub after : program_address f ≡ message_due f (messages f)
  pub end : program_address f + program_size f ≡ length f
