-- The interpreter of a run: the state of the plain machine that it stands for. Assumes nothing.
use Rattle.std.specs.Prelude.{ℕ, List, drop, Option}
use Rattle.bytecode.specs.declared.instruction.Instruction.{Instruction}
use Rattle.bytecode.specs.Opcodes.{decode}
use Rattle.output.specs.Mode.{mode_number}
use Rattle.machine.specs.Machine.{State}
use Rattle.frames.specs.Frames.{running, waiting, size}
use Rattle.run.specs.declared.interpreter.Interpreter.{Interpreter}

abbrev pub program : Interpreter → List ℕ
program m = m.frames.file.now

abbrev pub numbers : Interpreter → List ℕ
numbers m = m.sheet.now

abbrev pub cells : Interpreter → ℕ
cells m = size m.frames

abbrev pub state_of : Interpreter → State
state_of m = record { running = running m.frames; waiting = waiting m.frames; place = m.place; mode = mode_number m.mode; ended = m.ended }

-- the instruction at the place
abbrev pub stands : Interpreter → Option Instruction
stands m = decode (drop m.place (program m))
