use Rattle.std.proofs.Common.{ℕ, ◌≡◌, ◌≤◌, ◌+◌, ◌*◌, length, List, get_or, arith, refl, sym, ap, ◌∙◌}
use Rattle.guest_areas.proofs.Lookups.{page_allowed, numbers_more, with_numbers-none, rights-with_number}
use Rattle.guest_memory.specs.Memory.{MemoryMap}
use Rattle.guest_areas.specs.Entry.{with_numbers}
use Rattle.std.proofs.lemmas.List.{drop_all}
use Rattle.guest_areas.proofs.entry.write_numbers.Goals as goal

pub write_number-requires : goal.write_number-requires
write_number-requires c =
    page_allowed (λ r. r.write) c.args.memory.now c.loop-i.memory c.args.address (8 * c.loop-i.i) 8 c.requires.writable c.loop-i.invariant.rights (omega arith)

pub loop-i-init : goal.loop-i-init
loop-i-init c = record {
  written = ap (λ (q : ℕ). with_numbers q c.args.numbers.now c.args.memory.now) (let e : c.args.address + 8 * 0 ≡ c.args.address = omega arith in e);
  rights = refl;
}

pub loop-i-preserved : goal.loop-i-preserved
loop-i-preserved c = record {
  written = numbers_more c.loop-i.memory c.write_number.new.memory c.args.address c.loop-i.i c.args.numbers.now c.loop-i-test.true c.write_number.ensures ∙ c.loop-i.invariant.written;
  rights = ap (λ (m : MemoryMap). m.rights) c.write_number.ensures
      ∙ rights-with_number c.loop-i.memory (c.args.address + 8 * c.loop-i.i) 8 (get_or c.args.numbers.now c.loop-i.i 0) ∙ c.loop-i.invariant.rights;
}

pub returns : goal.returns
returns c =
    let end : length c.args.numbers.now ≤ c.loop-i.i = c.loop-i-test.false in
    sym (with_numbers-none c.loop-i.memory (c.args.address + 8 * c.loop-i.i))
    ∙ ap (λ (ns : List ℕ). with_numbers (c.args.address + 8 * c.loop-i.i) ns c.loop-i.memory) (sym (drop_all c.loop-i.i c.args.numbers.now end))
    ∙ c.loop-i.invariant.written
