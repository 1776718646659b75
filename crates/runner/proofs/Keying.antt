-- The units of some bytes, by their pairs. Assumes nothing.
use Rattle.std.proofs.Common.{◌≡◌, ℕ, zero, suc, ◌+◌, ◌*◌, ◌/◌, List, [], ◌∷◌, length, map, get_or, refl, ap, arith}
use Rattle.std.specs.Simd.{first_chunks}
use Rattle.host.specs.Recorder.{units_of}

-- the unit of a pair of bytes, the high one first
abbrev pub pair_unit : List ℕ → ℕ
pair_unit pair = get_or pair 0 0 * 256 + get_or pair 1 0

-- the units of some bytes are those of their pairs
pub paired : (bytes : List ℕ) (m : ℕ) → m ≡ length bytes / 2 → map pair_unit (first_chunks 2 m bytes) ≡ units_of bytes
paired [] zero e = refl
paired (x ∷ []) zero e = refl
paired (x ∷ y ∷ bytes) zero e = absurd (omega (arith, e))
paired [] (suc m) e = absurd (omega (arith, e))
paired (x ∷ []) (suc m) e = absurd (omega (arith, e))
paired (a ∷ b ∷ bytes) (suc m) e = ap (λ us. (a * 256 + b) ∷ us) (paired bytes m (omega (arith, e)))
