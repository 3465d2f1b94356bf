-- What a page says of the runs.
use Rattle.std.specs.Prelude.{ℕ, ◌==◌, List, [], ◌++◌, length, find, flat_map, codes, decimal, Option, Some, None, if◌then◌else◌}
use Rattle.std.specs.Str.{bytes_eq}
use Rattle.coz_types.specs.Labels.{Text}
use Rattle.coz_types.specs.declared.record.Summary.{Summary}
use Rattle.profile_book.specs.declared.profile.Profile.{Profile}
use Rattle.causal_curves.specs.Curves.{label_in, visits}
use Rattle.page_cli.specs.declared.frame.TheConstants.{SCHEDULE}
use Rattle.page_values.specs.Endings.{count_of, others_of}

-- nothing if no run ended so
abbrev pub kind_text : List Summary → Text → Text
kind_text summaries kind =
    if count_of kind summaries == 0 then []
    else kind ++ codes ": " ++ decimal (count_of kind summaries) ++ codes ". "

-- the kinds of endings other than `exited`, each with its number
abbrev pub kinds_text : List Summary → Text
kinds_text summaries =
    kind_text summaries (codes "trapped") ++ kind_text summaries (codes "unsupported")
    ++ kind_text summaries (codes "clock") ++ kind_text summaries (codes "output-full")
    ++ kind_text summaries (codes "visits-full") ++ kind_text summaries (codes "stalled")
    ++ kind_text summaries (codes "spent")

abbrev pub warned : ℕ → List Summary → Text
warned others summaries =
    codes "<p class=\"warning\">Warning: runs that did not exit: " ++ decimal others
    ++ codes ". " ++ kinds_text summaries ++ codes "</p>\n"

-- a warning if a run did not exit
abbrev pub warning_text : List Summary → Text
warning_text summaries =
    if others_of summaries == 0 then [] else warned (others_of summaries) summaries

-- the speedup of a run of this line
abbrev pub speedup_at : Text → Summary → Text
speedup_at label s =
    if bytes_eq s.selected label then codes " " ++ decimal s.speedup ++ codes "%" else []

-- the speedups of this line
abbrev pub speedups_of : Text → List Summary → Text
speedups_of label summaries =
    codes " Speedups of the first line:" ++ flat_map (speedup_at label) summaries ++ codes "."

-- the speedups of the first line, if there is one
abbrev pub speedups_text : List Summary → Text
speedups_text summaries =
    if length summaries == 0 then [] else speedups_of (label_in summaries) summaries

-- what was run, of how many schedules, and how the runs ended
abbrev pub runs_text : Profile → Text
runs_text p =
    codes "<p>Budget of each run: " ++ decimal p.budget ++ codes " instructions. Runs: "
    ++ decimal (length p.summaries) ++ codes "." ++ speedups_text p.summaries
    ++ SCHEDULE.now ++ warning_text p.summaries

-- the first run at speedup 0
abbrev pub plain_run : List Summary → Option Summary
plain_run summaries = find (λ (s : Summary). s.speedup == 0) summaries

abbrev pub visits_of : ℕ → Summary → Text
visits_of point s =
    codes "<p>Visits at speedup 0: " ++ decimal (visits point s) ++ codes ".</p>\n"

abbrev pub visits_in : ℕ → Option Summary → Text
visits_in point None = []
visits_in point (Some s) = visits_of point s

-- the visits of a point in that run
abbrev pub visits_text : List Summary → ℕ → Text
visits_text summaries point = visits_in point (plain_run summaries)
