use Rattle.std.proofs.Common.{ap, sym, ◌∙◌}
use Rattle.std.specs.Prelude.{bytes_eq}
use Rattle.std.specs.Map.{update}
use Rattle.rv_asm.specs.Views.{state_of, put_of, labels_of}
use Rattle.std.proofs.Common.{map, Some}
use Rattle.rv_asm.proofs.Labels.{one_more_label, labelled, absent}
use Rattle.rv_asm.proofs.state.State.add_label.Goals as goal

pub returns-in-None : goal.returns-in-None
returns-in-None c =
    let old = c.args.self.now in
    labelled (state_of old) _ c.args.name.now c.args.column (absent old.labels c.args.name (sym c.in_ok-insert.ensures.old ∙ c.in-None.is))
    (ap (λ labels. record { labels = labels; section = old.section; text = old.text; content = old.content; puts = map put_of old.puts.items })
    (one_more_label old.labels c.insert.new.self c.args.name _ c.in_ok-insert.ensures.updates ∙ ap (λ location. update bytes_eq (labels_of old.labels) c.args.name.now (Some location)) c.next_location-location.ensures))
