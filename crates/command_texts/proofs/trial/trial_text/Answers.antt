use Rattle.std.proofs.Common.{codes, ap, ◌∙◌}
use Rattle.coz_files.proofs.GatheredLemmas.{gathers_then}
use Rattle.profile_book.proofs.Gathering.{gathers_as}
use Rattle.command_texts.specs.TrialText.{best_line, digest_line, trial_lines}
use Rattle.command_texts.proofs.trial.trial_text.Goals as goal

pub returns : goal.returns
unfolding trial_lines
returns c =
    let book = gathers_as (ap (digest_line (codes "profile ")) (c.deref.ensures.value ∙ c.in_ok-book.ensures)) c.put_digested.ensures in
    let best = gathers_as (ap best_line (c.as_slice.ensures ∙ c.in_ok-curves.ensures.ranked)) c.put_best.ensures in
    c.finish.ensures c.new-text.result _ c.new-text.ensures.buffer c.new-text.ensures.text (gathers_then (gathers_then c.put_counts.ensures book) best)
