use Rattle.std.proofs.Common.{sym, ap, rules}
use Rattle.format.specs.Rules.{refused}
use Rattle.bytecode.proofs.Points.{points_go_on, points_stop, points_end}
use Rattle.bytecode.proofs.rules.every_method_keeps.Goals as goal

pub returns-in-Some : goal.returns-in-Some
returns-in-Some g c = λ t h.
    sym (ap (refused c.args.rule) (points_stop c.args.file.now t c.loop-k.k c.in-Some.place (c.loop-k.invariant t h) (search rules) (search (rules, h))))

pub loop-k-preserved : goal.loop-k-preserved
loop-k-preserved g c = λ t h. points_go_on c.args.file.now t c.loop-k.k (c.loop-k.invariant t h) (search rules) (search (rules, h))

pub returns : goal.returns
returns g c = λ t h. sym (ap (refused c.args.rule) (points_end c.args.file.now t c.loop-k.k (c.loop-k.invariant t h) (search rules)))
