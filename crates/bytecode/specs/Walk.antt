-- The places that a walk over a method has left. Assumes nothing.
use Rattle.std.specs.Prelude.{ℕ, ◌-◌, List}
use Rattle.bytecode.specs.declared.walk.Places.{Places}
use Rattle.bytecode.specs.Places.{decoded}

abbrev pub left : Places → List ℕ
left w = decoded w.file.now w.end w.place (w.end - w.place)
