use Rattle.std.proofs.Common.{◌≡◌, ℕ, true, false, eqb, sym, refl, ap, ◌∙◌, rules}
use Rattle.bytecode.specs.declared.instruction.Instruction.TheVariants.{Invokevirtual}
use Rattle.run.specs.Done.{is_free}
use Rattle.run.specs.Step.{host_of}
use Rattle.run.proofs.Fetching.{standing, standing_index, has_opcode}
use Rattle.run.proofs.Turning.{call_hinders, call_turn, free_hinders, free_turn}
use Rattle.run.proofs.interpreter.Interpreter.step.Goals as goal

pub call-requires : goal.call-requires
call-requires g c =
    record { here = standing_index c.args.self.now 0xB6 (sym c.in-182.is ∙ c.opcode.ensures) Invokevirtual refl _ c.index-index.ensures }

pub take_unit-requires : goal.take_unit-requires
take_unit-requires g c =
    record { here = standing c.args.self.now 0xF0 (sym c.in-240.is ∙ c.opcode.ensures); runs = c.requires.runs }

pub put_units-requires : goal.put_units-requires
put_units-requires g c =
    record { here = standing c.args.self.now 0xF1 (sym c.in-241.is ∙ c.opcode.ensures); runs = c.requires.runs }

pub returns-in-182 : goal.returns-in-182
returns-in-182 g c =
    let m = c.args.self.now in
    let k = c.index-index.result in
    let here = standing_index m 0xB6 (sym c.in-182.is ∙ c.opcode.ensures) Invokevirtual refl k c.index-index.ensures in
    let h = host_of (g.H.Host.waiting c.args.host.now) (g.H.Host.written c.args.host.now) (g.H.Host.space c.args.host.now) in
    record {
      kept = g.H.Host.kept_refl c.args.host.now;
      stop = c.call.ensures.stop ∙ sym (call_hinders m k here h);
      turn = call_turn m k here c.requires.runs c.call.result c.call.new.self c.call.ensures.state h;
    }

pub returns-in_default : goal.returns-in_default
returns-in_default g c =
    let m = c.args.self.now in
    let i = has_opcode m c.opcode.result c.opcode.ensures in
    let free : is_free c.opcode.result ≡ true = search rules in
    let not_in : eqb c.opcode.result 0xF0 ≡ false = search rules in
    let not_out : eqb c.opcode.result 0xF1 ≡ false = search rules in
    let h = host_of (g.H.Host.waiting c.args.host.now) (g.H.Host.written c.args.host.now) (g.H.Host.space c.args.host.now) in
    record {
      kept = g.H.Host.kept_refl c.args.host.now;
      stop = sym (free_hinders m i.0 i.1 (ap is_free i.2 ∙ free) h);
      turn = free_turn m i.0 i.1 c.requires.runs (ap (λ (k : ℕ). eqb k 0xF0) i.2 ∙ not_in) (ap (λ (k : ℕ). eqb k 0xF1) i.2 ∙ not_out) c.execute.new.self c.execute.ensures h;
    }
