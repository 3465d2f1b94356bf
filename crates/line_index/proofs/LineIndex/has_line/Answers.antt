use Rattle.std.proofs.Common.{◌≡◌, None, refl, subst, sym, ap, ◌∙◌}
use Rattle.line_index.specs.Changes.{changes_of}
use Rattle.line_index.specs.Index.{Index, has_line}
use Rattle.line_index.specs.Turns.{Rises, is_within, turns}
use Rattle.line_index.proofs.Turning.{has_turned, turns_rise, turns_there, turns_nowhere}
use Rattle.line_index.proofs.LineIndex.has_line.Goals as goal
use Rattle.line_index.proofs.LineIndex.has_line.Goals.{In-Some}

there : (c : In-Some) → c.in-Some.turns.now ≡ turns c.args.line.0 None (changes_of c.self.inside.changes.items)
there c = turns_there c.self.inside.turns c.args.line.0 c.in-Some.turns.now (changes_of c.self.inside.changes.items) c.in-Some.ensures.there c.self.invariant.turns

pub is_within-requires : goal.is_within-requires
is_within-requires c =
    subst (Rises 0) (sym (there c)) (turns_rise c.args.line.0 0 None (changes_of c.self.inside.changes.items) c.self.invariant.rising)

pub returns-in-Some : goal.returns-in-Some
returns-in-Some c =
    c.is_within.ensures ∙ ap (is_within c.args.address) (there c.before) ∙ sym (has_turned c.args.line.0 c.args.address (changes_of c.self.inside.changes.items) c.self.invariant.rising) ∙ ap (λ (index : Index). has_line index c.args.line.0 c.args.address) c.self.view_is

pub returns-in-None : goal.returns-in-None
returns-in-None c =
    ap (is_within c.args.address) (turns_nowhere c.self.inside.turns c.args.line.0 (changes_of c.self.inside.changes.items) (c.in-None.ensures.nowhere refl) c.self.invariant.turns) ∙ sym (has_turned c.args.line.0 c.args.address (changes_of c.self.inside.changes.items) c.self.invariant.rising) ∙ ap (λ (index : Index). has_line index c.args.line.0 c.args.address) c.self.view_is
