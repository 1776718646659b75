use Rattle.std.proofs.Common.{◌≡◌, ◌-◌, ◌++◌, length, sym, ◌∙◌, subst, arith, rules}
use Rattle.std.specs.Result.{result_err}
use borrow.Rule.Slice.PartMut.{post_of}
use Rattle.verifier.specs.Numbering.{check_refusal, sheet_after}
use Rattle.verifier.proofs.Checked.{late, early, left_layout, left_filled, laws_of}
use Rattle.verifier.proofs.check.check.Goals as goal

pub returns-in_err-read : goal.returns-in_err-read
returns-in_err-read c =
    let f = c.args.file.now in
    let e = sym c.in_err-read.ensures.refuses in
    let o = early f (length c.args.sheet.now) (length c.args.pending.now) c.in_err-read.field-0.0 e in
    let s = left_layout f c.args.sheet.now (length c.args.pending.now) c.in_err-read.field-0.0 e in
    let r : result_err c.from_residual.result ≡ check_refusal f (length c.args.sheet.now) (length c.args.pending.now) = search rules in
    record { refuses = r; tally = search rules; sheet = s; laws = laws_of f c.args.sheet.now c.args.sheet.now (length c.args.pending.now) _ r s }

pub returns-clause-laws : goal.returns-clause-laws
returns-clause-laws c =
    let f = c.args.file.now in
    let s = c.args.sheet.now in
    let g = sym c.in_ok-read.ensures.refuses in
    let a = c.if-sheet-size.false in
    let b = c.if-pending-size.false in
    let whole : length f - 0 ≡ length f = omega arith in
    let r = c.fill_sheet.ensures.refuses ∙ sym (late f (length s) (length c.args.pending.now) g a b) in
    let t = subst (λ n. c.fill_sheet.new.sheet ++ post_of 0 n s ≡ sheet_after f s (length c.args.pending.now)) (sym whole)
    (left_filled f s c.fill_sheet.new.sheet (length c.args.pending.now) c.fill_sheet.result g a b c.fill_sheet.ensures.refuses c.fill_sheet.ensures.sheet) in
    laws_of f s _ (length c.args.pending.now) _ r t
