use Rattle.std.proofs.Common.{◌≡◌, sym, refl, ap, ◌∙◌, inl, inr, rules}
use Rattle.std.proofs.lemmas.Bool.{both_ways}
use Rattle.bytecode.specs.declared.instruction.Instruction.{Instruction}
use Rattle.bytecode.specs.declared.instruction.Instruction.TheVariants.{Nop, Wide, Bipush, Ldc, Iload, Istore, Pop, Dup, Swap, Iadd, Isub, Iand, Ior, Iinc, Ifeq, Iflt, IfIcmpeq, Goto, Ireturn, Return, Invokevirtual, In, Out, Err, Setout, Halt}
use Rattle.bytecode.specs.Encoding.{opcode_of}
use Rattle.run.specs.Done.{is_free}
use Rattle.run.proofs.Fetching.{standing, standing_index, standing_number, standing_both, has_opcode}
use Rattle.run.proofs.interpreter.Interpreter.execute.Goals as goal

pub do_nothing-requires : goal.do_nothing-requires
do_nothing-requires c =
    let m = c.args.self.now in
    elim c.in-0.is [
      | inl e ↦ record { here = (Nop, standing m 0x00 (sym e ∙ c.requires.here), refl, refl, refl, λ x w. refl) }
      | inr e ↦ record { here = (Wide, standing m 0xC4 (sym e ∙ c.requires.here), refl, refl, refl, λ x w. refl) }
    ]

pub push_number-requires : goal.push_number-requires
push_number-requires c = record { here = standing_number c.args.self.now 0x10 (sym c.in-16.is ∙ c.requires.here) Bipush refl _ c.number_at.ensures }

pub load_constant-requires : goal.load_constant-requires
load_constant-requires c = record { here = standing_index c.args.self.now 0x12 (sym c.in-18.is ∙ c.requires.here) Ldc refl _ c.index.ensures }

pub load-requires : goal.load-requires
load-requires c = record { here = standing_index c.args.self.now 0x15 (sym c.in-21.is ∙ c.requires.here) Iload refl _ c.index-in-21.ensures }

pub store-requires : goal.store-requires
store-requires c = record { here = standing_index c.args.self.now 0x36 (sym c.in-54.is ∙ c.requires.here) Istore refl _ c.index-in-54.ensures }

pub pop-requires : goal.pop-requires
pop-requires c = record { here = standing c.args.self.now 0x57 (sym c.in-87.is ∙ c.requires.here) }

pub duplicate-requires : goal.duplicate-requires
duplicate-requires c = record { here = standing c.args.self.now 0x59 (sym c.in-89.is ∙ c.requires.here) }

pub swap-requires : goal.swap-requires
swap-requires c = record { here = standing c.args.self.now 0x5F (sym c.in-95.is ∙ c.requires.here) }

pub add-requires : goal.add-requires
add-requires c = record { here = standing c.args.self.now 0x60 (sym c.in-96.is ∙ c.requires.here) }

pub subtract-requires : goal.subtract-requires
subtract-requires c = record { here = standing c.args.self.now 0x64 (sym c.in-100.is ∙ c.requires.here) }

pub and-requires : goal.and-requires
and-requires c = record { here = standing c.args.self.now 0x7E (sym c.in-126.is ∙ c.requires.here) }

pub or-requires : goal.or-requires
or-requires c = record { here = standing c.args.self.now 0x80 (sym c.in-128.is ∙ c.requires.here) }

pub increment-requires : goal.increment-requires
increment-requires c = record { here = standing_both c.args.self.now 0x84 (sym c.in-132.is ∙ c.requires.here) Iinc refl _ _ c.index-in-132.ensures c.number_at-in-132.ensures }

pub jump_if_zero-requires : goal.jump_if_zero-requires
jump_if_zero-requires c = record { here = standing_number c.args.self.now 0x99 (sym c.in-153.is ∙ c.requires.here) Ifeq refl _ c.number_at-in-153.ensures }

pub jump_if_negative-requires : goal.jump_if_negative-requires
jump_if_negative-requires c = record { here = standing_number c.args.self.now 0x9B (sym c.in-155.is ∙ c.requires.here) Iflt refl _ c.number_at-in-155.ensures }

pub jump_if_equal-requires : goal.jump_if_equal-requires
jump_if_equal-requires c = record { here = standing_number c.args.self.now 0x9F (sym c.in-159.is ∙ c.requires.here) IfIcmpeq refl _ c.number_at-in-159.ensures }

pub jump-requires : goal.jump-requires
jump-requires c = record { here = standing_number c.args.self.now 0xA7 (sym c.in-167.is ∙ c.requires.here) Goto refl _ c.number_at-in-167.ensures }

pub give_back_value-requires : goal.give_back_value-requires
give_back_value-requires c = record { here = standing c.args.self.now 0xAC (sym c.in-172.is ∙ c.requires.here) }

pub give_back-requires : goal.give_back-requires
give_back-requires c = record { here = standing c.args.self.now 0xB1 (sym c.in-177.is ∙ c.requires.here) }

pub fail-requires : goal.fail-requires
fail-requires c = record { here = standing_index c.args.self.now 0xF2 (sym c.in-242.is ∙ c.requires.here) Err refl _ c.index-in-242.ensures }

pub set_mode-requires : goal.set_mode-requires
set_mode-requires c = record { here = standing_index c.args.self.now 0xFA (sym c.in-250.is ∙ c.requires.here) Setout refl _ c.index-in-250.ensures }

pub halt-requires : goal.halt-requires
halt-requires c = record { here = standing c.args.self.now 0xFF (sym c.in-255.is ∙ c.requires.here) }

-- no opcode is left
other : (c : goal.In_default) (i : Instruction) → opcode_of i ≡ c.args.opcode → ⊥
other c Nop e = search rules
other c Wide e = search rules
other c (Bipush k) e = search rules
other c (Ldc k) e = search rules
other c (Iload k) e = search rules
other c (Istore k) e = search rules
other c Pop e = search rules
other c Dup e = search rules
other c Swap e = search rules
other c Iadd e = search rules
other c Isub e = search rules
other c Iand e = search rules
other c Ior e = search rules
other c (Iinc k j) e = search rules
other c (Ifeq k) e = search rules
other c (Iflt k) e = search rules
other c (IfIcmpeq k) e = search rules
other c (Goto k) e = search rules
other c Ireturn e = search rules
other c Return e = search rules
other c (Invokevirtual k) e = both_ways (is_free c.args.opcode) (ap is_free (sym e)) c.requires.free
other c In e = both_ways (is_free c.args.opcode) (ap is_free (sym e)) c.requires.free
other c Out e = both_ways (is_free c.args.opcode) (ap is_free (sym e)) c.requires.free
other c (Err k) e = search rules
other c (Setout k) e = search rules
other c Halt e = search rules

pub unreachable-requires : goal.unreachable-requires
unreachable-requires c = let h = has_opcode c.args.self.now c.args.opcode c.requires.here in other c h.0 h.2
