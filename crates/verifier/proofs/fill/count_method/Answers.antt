use Rattle.std.proofs.Common.{ℕ, ◌<◌, length, inl, arith, rules}
use Rattle.format.specs.Layout.{methods}
use Rattle.bytecode.specs.Places.{places}
use Rattle.bytecode.proofs.Accepted.{code_room, file_short}
use Rattle.verifier.specs.declared.code.Code.{Code}
use Rattle.verifier.specs.Bytes.{bytes}
use Rattle.verifier.proofs.Places.{places_few}
use Rattle.verifier.proofs.fill.count_method.Goals as goal

few : (c : Code) (k : ℕ) → k < methods (bytes c) → length (places (bytes c) k) < 65536
few c k l =
    let n = places_few (bytes c) k in
    let r = code_room (bytes c) k c.layout l in
    let s = file_short (bytes c) c.layout in
    omega arith

pub count-requires-clause-fits : goal.count-requires-clause-fits
count-requires-clause-fits c = inl (let l = few c.args.code.now c.args.k c.requires in search rules)

pub returns-clause-few : goal.returns-clause-few
returns-clause-few c = let l = few c.args.code.now c.args.k c.requires in search rules
