use Rattle.std.proofs.Common.{◌≡◌, ℕ, List, sym, ap, ap₂, subst, ◌∙◌}
use Rattle.std.specs.Global.{Vec}
use Rattle.std.specs.Prelude.{All}
use Rattle.std.proofs.lemmas.Result.{IfOk-weaker}
use Rattle.coz_types.specs.declared.image.Area.{Area}
use Rattle.elf_symbols.specs.declared.symbols.Symbol.{Symbol}
use Rattle.function_sequences.specs.Sequences.{IsNamed, falling, functions_in, names_in}
use Rattle.function_sequences.specs.Functions.{functions}
use Rattle.function_lines.proofs.Named.{functions_named}
use Rattle.function_lines.proofs.file.functions_of.Goals as goal

pub returns-clause-right : goal.returns-clause-right
returns-clause-right c =
    let image = c.args.image.now in
    let found : c.in_ok-found.found.entries ≡ functions_in image =
    c.in_ok-found.ensures
    ∙ ap (λ (areas : List Area). functions areas c.bytes_in-table.result.now c.bytes_in-names.result.now) c.areas.ensures.areas
    ∙ ap₂ (λ (t n : List ℕ). functions image.areas t n) c.bytes_in-table.ensures c.bytes_in-names.ensures in
    IfOk-weaker c.falling.result (λ (v : Vec Symbol). v.items ≡ falling c.in_ok-found.found.entries) (λ (v : Vec Symbol). All (IsNamed (names_in image.file)) v.items)
    (λ v is. subst (λ (ss : List Symbol). All (IsNamed (names_in image.file)) ss) (sym (is ∙ ap falling found)) (functions_named image c.areas.ensures.valid)) c.falling.ensures
