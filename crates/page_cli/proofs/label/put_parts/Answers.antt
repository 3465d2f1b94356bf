use Rattle.std.proofs.Common.{rules, ◌≡◌, ℕ, Bool, true, false, ◌==◌, sym, ap, ◌∙◌, if◌then◌else◌}
use Rattle.coz_types.specs.Labels.{Text, number_of, path_of}
use Rattle.profile_book.proofs.Gathering.{gathers_as}
use Rattle.page_values.specs.Labels.{html}
use Rattle.page_cli.specs.Lines.{numbered_text}
use Rattle.page_cli.proofs.label.put_parts.Goals as goal

abbrev text : Text → Bool → Text
text label none = if none then html label else numbered_text (path_of label) (number_of label)

pub returns-then-number-eq0 : goal.returns-then-number-eq0
returns-then-number-eq0 g c =
    let none : (number_of c.args.label.now == 0) ≡ true = search rules in
    gathers_as (sym (ap (text c.args.label.now) none)) c.put_bytes.ensures

pub returns-else-number-eq0 : goal.returns-else-number-eq0
returns-else-number-eq0 g c =
    let some : (number_of c.args.label.now == 0) ≡ false = search rules in
    let path = ap (λ (p : Text). numbered_text p c.number_of-number.result) c.path_of.ensures in
    let number = ap (λ (n : ℕ). numbered_text (path_of c.args.label.now) n) c.number_of-number.ensures in
    gathers_as (path ∙ number ∙ sym (ap (text c.args.label.now) some)) c.put_numbered.ensures
