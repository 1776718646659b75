-- The file that the verifier holds the code of. Assumes nothing.
use Rattle.std.specs.Prelude.{ℕ, List}
use Rattle.verifier.specs.declared.code.Code.{Code}

abbrev pub bytes : Code → List ℕ
bytes c = c.file.now
