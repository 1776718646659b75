use Rattle.std.proofs.Common.{◌≡◌, ℕ, ◌<◌, max, List, set, sym, ap, ◌∙◌, arith, rules}
use Rattle.format.specs.Layout.{methods}
use Rattle.verifier.specs.Numbering.{peak}
use Rattle.verifier.proofs.Tally.{largest_more, peaks_more}
use Rattle.verifier.proofs.Peaks.{peaks_peak}
use Rattle.verifier.proofs.fill.write_peaks.Goals as goal

written : {s t : List ℕ} {p q v u : ℕ} → s ≡ t → p ≡ q → v ≡ u → set s p v ≡ set t q u
written a b d = cc

larger : {a b x y : ℕ} → a ≡ b → x ≡ y → max a x ≡ max b y
larger p q = cc

pub loop-k-preserved : goal.loop-k-preserved
loop-k-preserved c =
    let f = c.args.code.now.file.now in
    let l : c.loop-k.k < methods f = search rules in
    let p : c.peak_of-peak.result ≡ peak f c.args.sheet.now c.loop-k.k =
    c.peak_of-peak.ensures ∙ ap (λ t. peak f t c.loop-k.k) c.loop-k.invariant.0 ∙ peaks_peak f c.args.code.now.layout c.args.sheet.now c.loop-k.k (omega arith) c.loop-k.k l in
    let m : c.max-largest.result ≡ max c.loop-k.largest c.peak_of-peak.result = search rules in (
      written c.loop-k.invariant.0 c.entry_place.ensures p ∙ sym (peaks_more f c.args.sheet.now c.loop-k.k),
      m ∙ larger c.loop-k.invariant.1 p ∙ sym (largest_more f c.args.sheet.now c.loop-k.k),
    )
