use Rattle.std.proofs.Common.{get_or}
use Rattle.std.proofs.lemmas.List.{get_or_default}
use Rattle.line_write.specs.Unit.{views}
use Rattle.elf_symbols.specs.declared.symbols.Symbol.{Symbol}
use Rattle.function_sequences.specs.Sequences.{IsOfFunction}
use Rattle.line_remap.proofs.Adding.{adds_next}
use Rattle.function_sequences.proofs.program.push_functions.Goals as goal

abbrev zero_symbol : Symbol
zero_symbol = record { name = 0; kind = 0; section = 0; address = 0; size = 0 }

pub loop-symbol-preserved : goal.loop-symbol-preserved
loop-symbol-preserved c =
    let symbols = c.args.symbols.now in
    let i = c.loop-symbol.symbol-index in
    let s : Symbol = get_or symbols i zero_symbol in
    adds_next (IsOfFunction c.args.index.now c.args.names.now) symbols i s (views c.args.out.now.list.items) c.loop-symbol.out.list.items c.push.new.self.list.items c.in_ok-sequence.sequence c.loop-symbol.invariant c.loop-symbol-test.true
    (get_or_default symbols i zero_symbol s c.loop-symbol-test.true) c.in_ok-sequence.ensures.of c.in_ok-sequence.ensures.writable c.in_ok-push.ensures
