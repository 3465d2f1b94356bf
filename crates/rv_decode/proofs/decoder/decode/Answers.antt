use Rattle.std.proofs.Common.{Some, refl, arith, ap}
use Rattle.rv_decode.proofs.Groups.{promised, none_answers, lui_answers, auipc_answers, jal_answers, jalr_answers, branch_answers, load_answers, store_answers, shift_or_imm_answers, word_shift_or_imm_answers, long_registers_answers, word_registers_answers, atomic_answers, fence_answers, system_answers}
use Rattle.rv_decode.proofs.decoder.decode.Goals as goal

pub returns-in-55 : goal.returns-in-55
returns-in-55 c = promised c.args.word _ _ (ap Some c.upper.ensures) (lui_answers c.args.word (omega arith) (omega arith))

pub returns-in-23 : goal.returns-in-23
returns-in-23 c = promised c.args.word _ _ (ap Some c.upper-in-23.ensures) (auipc_answers c.args.word (omega arith) (omega arith))

pub returns-in-111 : goal.returns-in-111
returns-in-111 c = promised c.args.word _ _ (ap Some c.jump.ensures) (jal_answers c.args.word (omega arith) (omega arith))

pub returns-in-103 : goal.returns-in-103
returns-in-103 c = promised c.args.word _ _ c.jump_register.ensures (jalr_answers c.args.word (omega arith) (omega arith))

pub returns-in-99 : goal.returns-in-99
returns-in-99 c = promised c.args.word _ _ c.branch-word.ensures (branch_answers c.args.word (omega arith) (omega arith))

pub returns-in-3 : goal.returns-in-3
returns-in-3 c = promised c.args.word _ _ c.load.ensures (load_answers c.args.word (omega arith) (omega arith))

pub returns-in-35 : goal.returns-in-35
returns-in-35 c = promised c.args.word _ _ c.store.ensures (store_answers c.args.word (omega arith) (omega arith))

pub returns-in-19 : goal.returns-in-19
returns-in-19 c = promised c.args.word _ _ c.shift_or_immediate.ensures (shift_or_imm_answers c.args.word (omega arith) (omega arith))

pub returns-in-27 : goal.returns-in-27
returns-in-27 c = promised c.args.word _ _ c.word_shift_or_immediate.ensures (word_shift_or_imm_answers c.args.word (omega arith) (omega arith))

pub returns-in-51 : goal.returns-in-51
returns-in-51 c = promised c.args.word _ _ c.registers.ensures (long_registers_answers c.args.word (omega arith) (omega arith))

pub returns-in-59 : goal.returns-in-59
returns-in-59 c = promised c.args.word _ _ c.word_registers.ensures (word_registers_answers c.args.word (omega arith) (omega arith))

pub returns-in-47 : goal.returns-in-47
returns-in-47 c = promised c.args.word _ _ c.atomic.ensures (atomic_answers c.args.word (omega arith) (omega arith))

pub returns-in-15 : goal.returns-in-15
returns-in-15 c = promised c.args.word _ _ c.fence.ensures (fence_answers c.args.word (omega arith) (omega arith))

pub returns-in-115 : goal.returns-in-115
returns-in-115 c = promised c.args.word _ _ c.system.ensures (system_answers c.args.word (omega arith) (omega arith))

pub returns-in_default : goal.returns-in_default
returns-in_default c = promised _ _ _ refl (none_answers c.args.word (omega arith) (omega arith) (omega arith) (omega arith) (omega arith) (omega arith) (omega arith) (omega arith) (omega arith) (omega arith) (omega arith) (omega arith) (omega arith) (omega arith) (omega arith))
