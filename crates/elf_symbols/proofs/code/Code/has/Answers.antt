use Rattle.std.proofs.Common.{◌+◌, ◌-◌, List, inl, inr, refl, ap, ◌∙◌}
use Rattle.std.specs.BTreeMap.{get}
use Rattle.std.specs.List.{list_any}
use Rattle.std.specs.Ordering.{nat_cmp}
use Rattle.coz_types.specs.declared.image.Area.{Area}
use Rattle.elf_symbols.specs.Symbols.{is_in_area}
use Rattle.elf_symbols.proofs.CodeSpans.{asked, spans_of, too_far}
use Rattle.elf_symbols.proofs.code.Code.has.Goals as goal

pub returns-then-symbol-ge-LOAD_END : goal.returns-then-symbol-ge-LOAD_END
returns-then-symbol-ge-LOAD_END c =
    too_far c.self.inside.areas.now (get nat_cmp c.self.inside.ends) c.args.symbol.now c.self.invariant c.requires (inl c.if-symbol-ge-LOAD_END.true)
    ∙ ap (λ (areas : List Area). list_any (is_in_area c.args.symbol.now) areas) c.self.view_is

pub returns-then-symbol-gt-LOAD_END : goal.returns-then-symbol-gt-LOAD_END
returns-then-symbol-gt-LOAD_END c =
    too_far c.self.inside.areas.now (get nat_cmp c.self.inside.ends) c.args.symbol.now c.self.invariant c.requires (inr c.if-symbol-gt-LOAD_END.true)
    ∙ ap (λ (areas : List Area). list_any (is_in_area c.args.symbol.now) areas) c.self.view_is

pub has_within-requires : goal.has_within-requires
has_within-requires c = spans_of c.self.inside.areas.now (get nat_cmp c.self.inside.ends) c.self.invariant

pub returns : goal.returns
returns c =
    let s = c.args.symbol.now in
    asked c.self.inside.areas.now (get nat_cmp c.self.inside.ends) s (s.address + (s.size - 1)) (s.address + 1) c.has_within.result c.self.invariant c.requires refl refl c.has_within.ensures
    ∙ ap (λ (areas : List Area). list_any (is_in_area s) areas) c.self.view_is
