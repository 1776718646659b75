use Rattle.std.proofs.Common.{arith}
use Rattle.run.proofs.Calling.{enough_below, peak_there, top_low}
use Rattle.run.proofs.interpreter.Interpreter.fits.Goals as goal

pub overflow_sub-base : goal.overflow_sub-base
overflow_sub-base c = let l = enough_below c.args.self.now c.args.index c.requires.here in rw (c.method_entry-parameters.ensures, c.top.ensures) l

pub frame_need-requires : goal.frame_need-requires
frame_need-requires c =
    let m = c.args.self.now in
    let l = top_low m c.args.index c.requires.here in
    record { inside = peak_there m c.args.index c.requires.here; low = omega (arith, l, c.top.ensures) }
