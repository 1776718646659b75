use Rattle.std.proofs.Common.{◌≡◌, ℕ, None, Option, sym, ap, ◌∙◌, rules}
use Rattle.std.specs.Option.{option_map}
use Rattle.refusals.specs.declared.Rule.TheVariants.{NoNumbering}
use Rattle.refusals.specs.declared.Refusal.{Refusal}
use Rattle.format.specs.Search.{first, upto}
use Rattle.format.specs.Layout.{methods, code_address}
use Rattle.format.specs.Rules.{refused}
use Rattle.format.proofs.Finds.{mapped_none}
use Rattle.verifier.specs.Numbering.{unnumberable, numbering, with_peaks, count_to, largest_to}
use Rattle.verifier.proofs.Refusals.{refused_none}
use Rattle.verifier.proofs.Methods.{complete_numbering}
use Rattle.verifier.proofs.check.number_sheet.Goals as goal

pair : {a b x y : ℕ} → a ≡ x → b ≡ y → ◌≡◌ {A = ℕ × ℕ} (a, b) (x, y)
pair p q = cc

pub returns : goal.returns
returns c =
    let f = c.args.code.now.file.now in
    let passes : ◌≡◌ {A = Option Refusal} None (refused NoNumbering (option_map (code_address f) (first (unnumberable f) (upto (methods f))))) = search rules in
    let none : first (unnumberable f) (upto (methods f)) ≡ None = mapped_none (code_address f) (first (unnumberable f) (upto (methods f))) (refused_none NoNumbering (option_map (code_address f) (first (unnumberable f) (upto (methods f)))) (sym passes)) in
    let made : c.number_methods.new.sheet ≡ numbering f = complete_numbering f c.args.code.now.layout c.number_methods.new.sheet c.number_methods.ensures none in
    record {
      refuses = passes;
      tally = pair (c.count_numbered-count.ensures ∙ ap (λ s. count_to f s (methods f)) made) (c.write_peaks-largest.ensures.largest ∙ ap (λ s. largest_to f s (methods f)) made);
      sheet = c.write_peaks-largest.ensures.sheet ∙ ap (with_peaks f) made;
    }
