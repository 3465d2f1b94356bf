use Rattle.std.proofs.Common.{◌≡◌, arith, ap, ◌∙◌, inl, inr}
use Rattle.guest_memory.specs.declared.Layout.{Layout}
use Rattle.guest_memory.specs.Memory.{MemoryMap, read_and_write}
use Rattle.guest_memory.proofs.Runs.{same_regions-with_rights_from}
use Rattle.guest_tests.proofs.guest_memory_tests.give_brk.Goals as goal

pub give-requires-clause-known : goal.give-requires-clause-known
give-requires-clause-known c q from below =
    let brk : c.args.memory.now.layout.brk ≡ 16777216 = ap (λ (l : Layout). l.brk) c.requires in
    inr (inl (omega arith, omega arith))

pub returns : goal.returns
returns c =
    let same = same_regions-with_rights_from c.args.memory.now 0x2000000 1 read_and_write in record {
      image = ap (λ (m : MemoryMap). m.image) c.give.ensures ∙ same.0;
      layout = ap (λ (m : MemoryMap). m.layout) c.give.ensures ∙ same.1;
    }
