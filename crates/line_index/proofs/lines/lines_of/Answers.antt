use Rattle.std.proofs.Common.{◌≡◌, List, length, map, All, Contains, sym, ap, subst, arith}
use Rattle.line_index.specs.declared.lines.Key.{Key}
use Rattle.line_index.specs.Changes.{changes_of}
use Rattle.line_index.specs.Keys.{IsBelow, line_change, key_change}
use Rattle.line_index.proofs.Found.{all_below}
use Rattle.line_index.proofs.lines.lines_of.Goals as goal

pub line_changes-requires-clause-each : goal.line_changes-requires-clause-each
line_changes-requires-clause-each c =
    λ key h. subst (λ (keys : List Key). Contains keys key) (sym c.deref.ensures.value) ((c.in_ok-keys.ensures.each key).1 h)

pub line_changes-requires-clause-few : goal.line_changes-requires-clause-few
line_changes-requires-clause-few c = omega (arith, ap length c.deref.ensures.value, c.in_ok-keys.ensures.few)

pub returns-clause-changes : goal.returns-clause-changes
returns-clause-changes c =
    subst (λ (keys : List Key). map (line_change keys) (changes_of c.in_ok-changes.changes.items) ≡ map (key_change c.args.rows.now c.args.positions.now) c.args.covering.now) c.deref.ensures.value c.in_ok-changes.ensures

pub returns-clause-below : goal.returns-clause-below
returns-clause-below c =
    subst (λ (keys : List Key). All (IsBelow (length keys)) (changes_of c.in_ok-changes.changes.items)) c.deref.ensures.value
    (all_below c.args.rows.now c.args.positions.now c.deref.result.now c.args.covering.now (changes_of c.in_ok-changes.changes.items) c.in_ok-changes.ensures)
