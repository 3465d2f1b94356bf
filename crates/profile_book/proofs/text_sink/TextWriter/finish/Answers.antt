use Rattle.std.proofs.Common.{ℕ, List, ◌++◌, ◌∙◌, ap}
use Rattle.coz_files.proofs.GatheredLemmas.{puts_whole}
use Rattle.profile_book.proofs.Gathering.{gathers_from}
use Rattle.profile_book.proofs.text_sink.TextWriter.finish.Goals as goal

pub returns-in-Done : goal.returns-in-Done
returns-in-Done c = λ start bytes empty none gathers.
    let whole = puts_whole (gathers_from empty gathers) c.finish.ensures in
    whole.done c.in-Done.is ∙ ap (λ (text : List ℕ). text ++ bytes) none
