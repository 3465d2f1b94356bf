-- What a trap leaves.
use Rattle.std.specs.Prelude.{ℕ}
use Rattle.rv_decode.specs.declared.Instr.{Instr}
use Rattle.rv_decode.specs.declared.Instr.TheVariants.{Atomic}
use Rattle.rv_decode.specs.declared.AtomicOp.{AtomicOp}
use Rattle.rv_decode.specs.declared.AtomicOp.TheVariants.{Sc}
use Rattle.rv_execute.specs.Reservations.{without_own}
use Rattle.rv_execute.specs.Execution.{Setting}

abbrev pub after_atomic_trap : ℕ → AtomicOp → Setting → Setting
after_atomic_trap h Sc s = record s { reservations = without_own h s.reservations }
after_atomic_trap h _ s = s

-- a trap changes nothing, except that an sc has ended its own reservation
abbrev pub after_trap : ℕ → Instr → Setting → Setting
after_trap h (Atomic op wide aq rl rd rs1 rs2) s = after_atomic_trap h op s
after_trap h _ s = s
