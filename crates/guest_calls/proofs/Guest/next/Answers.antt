use Rattle.std.proofs.Common.{◌≡◌, ℕ, ap, refl, ◌∙◌, option_and_then}
use Rattle.guest_memory.specs.Memory.{MemoryMap, fetch}
use Rattle.rv_decode.specs.Instructions.{instruction_of}
use Rattle.guest_calls.specs.Guest.{Guest, memory_of, pc_of}
use Rattle.guest_calls.specs.Retire.{next_of}
use Rattle.guest_calls.proofs.Guest.next.Goals as goal

next_is : (g : Guest) (m : MemoryMap) (h pc : ℕ) → m ≡ memory_of g → pc ≡ pc_of g h → option_and_then instruction_of (fetch m pc) ≡ next_of g h
unfolding next_of
next_is g m h pc same at = rw (same, at) refl

pub returns : goal.returns
returns c =
    c.instr_at.ensures
    ∙ next_is c.args.self.now c.self.inside.memory c.args.hart.0 c.pc.result (ap (λ (g : Guest). memory_of g) c.self.view_is) c.pc.ensures
