use Rattle.std.proofs.Common.{ℕ, List, not, ◌==◌, drop, sym, subst}
use Rattle.std.specs.List.{AllPass}
use Rattle.function_sequences.proofs.NameTexts.{name_text}
use Rattle.function_sequences.proofs.program.sequence_of.Goals as goal

pub function_sequence-requires-clause-text : goal.function_sequence-requires-clause-text
function_sequence-requires-clause-text c =
    subst (λ (xs : List ℕ). AllPass (λ b. not (b == 0)) xs) (sym c.name_of.ensures) (name_text (drop c.args.symbol.now.name c.args.names.now))
