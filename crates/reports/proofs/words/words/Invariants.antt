use Rattle.std.proofs.Common.{◌≡◌, take, string_bytes}
use Rattle.reports.specs.Words.{words}
use Rattle.reports.proofs.words.words.Given as goal

abbrev pub invariant-loop-number : goal.invariant-loop-number
invariant-loop-number g l = string_bytes l.text ≡ words g.T.Digits.digits (take l.number-index l.numbers)
