-- A table that lists what a rule says of the numbers below its length gives, at every number, what the rule says.
-- Where a table is written out, that it is this list is one computation over all of its entries. Assumes nothing.
use Rattle.std.proofs.Common.{◌≡◌, ℕ, ◌<◌, map, get_or, arith}
use Rattle.std.proofs.lemmas.List.FromFn.{get_or-map-range_with_len}
use Rattle.format.specs.Search.{upto}

pub entry_is : (g : ℕ → ℕ) (n k : ℕ) → k < n → get_or (map g (upto n)) k 0 ≡ g k
entry_is g n k h = get_or-map-range_with_len g 0 n k k 0 h (omega arith)
