use Rattle.std.proofs.Common.{◌≡◌, arith, ap, ◌∙◌, inl, inr}
use Rattle.guest_memory.specs.declared.Layout.{Layout}
use Rattle.guest_memory.specs.Memory.{MemoryMap}
use Rattle.guest_memory.proofs.Runs.{same_regions-with_rights_from}
use Rattle.guest_tests.proofs.guest_memory_tests.give_map.Goals as goal

pub give-requires-clause-known : goal.give-requires-clause-known
give-requires-clause-known c q from below =
    let map : c.args.memory.now.layout.map ≡ 50331648 = ap (λ (l : Layout). l.map) c.requires.layout in
    let few = c.requires.pages in
    inr (inr (inl (omega arith, omega arith)))

pub returns : goal.returns
returns c =
    let same = same_regions-with_rights_from c.args.memory.now _ c.args.pages c.args.rights in record {
      image = ap (λ (m : MemoryMap). m.image) c.give.ensures ∙ same.0;
      layout = ap (λ (m : MemoryMap). m.layout) c.give.ensures ∙ same.1;
    }
