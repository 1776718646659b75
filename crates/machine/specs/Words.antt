-- How the ends and the stops of a run are told. Assumes nothing.
use Rattle.std.specs.Prelude.{ℕ, List, ◌++◌, codes, decimal}
use Rattle.std.specs.Int.{w16}
use Rattle.std.proofs.Common.{to_z}
use Rattle.std.specs.Fmt.{signed_decimal}
use Rattle.machine.specs.declared.stop.End.{End}
use Rattle.machine.specs.declared.stop.End.TheVariants.{Plain, Value, Halt, Error}
use Rattle.machine.specs.declared.stop.Stop.{Stop}
use Rattle.machine.specs.declared.stop.Stop.TheVariants.{Ended, Spent, NoUnit, NoRoom, StackFull}

-- how a run ended; a value is sixteen bits, read as signed
abbrev pub end_words : End → List ℕ
end_words Plain = codes "return"
end_words (Value v) = codes "value " ++ signed_decimal (to_z w16 v)
end_words Halt = codes "halt"
end_words (Error i) = codes "error " ++ decimal i

-- why a go stopped
abbrev pub stop_words : Stop → List ℕ
stop_words (Ended e) = end_words e
stop_words Spent = codes "spent"
stop_words NoUnit = codes "waiting"
stop_words NoRoom = codes "full"
stop_words StackFull = codes "deep"
