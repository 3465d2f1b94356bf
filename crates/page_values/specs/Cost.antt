-- What a line's own starts cost, as a part of a run's net time.
use Rattle.std.specs.Prelude.{ℕ, ◌*◌, ◌/◌, Bool, ◌&&◌, ◌||◌, ◌==◌, nat_lt, List, find, Option, Some, None, if◌then◌else◌}
use Rattle.std.specs.Str.{bytes_eq}
use Rattle.coz_types.specs.Labels.{Text}
use Rattle.coz_types.specs.declared.record.Summary.{Summary}
use Rattle.causal_curves.specs.Curves.{net}

-- the run of the line at speedup 0
abbrev pub is_base : Text → Summary → Bool
is_base label s = bytes_eq s.selected label && s.speedup == 0

-- a run of the line at a speedup over 0; the first of them has the least
abbrev pub is_sped : Text → Summary → Bool
is_sped label s = bytes_eq s.selected label && nat_lt 0 s.speedup

-- A start adds `speedup` hundredths of its cost to the delay, so `delay * 100 / speedup`
-- is the cost of all starts. This is it over the net time, in ten thousandths, rounded down.
abbrev pub cost_over : Summary → Summary → Option ℕ
cost_over base s =
    if net base == 0 || s.speedup == 0 then None
    else Some (s.outcome.delay * 1000000 / (net base * s.speedup))

-- absent without a run at 0 or one over 0
abbrev pub cost_between : Option Summary → Option Summary → Option ℕ
cost_between (Some base) (Some s) = cost_over base s
cost_between _ _ = None

abbrev pub base_in : Text → List Summary → Option Summary
base_in label summaries = find (is_base label) summaries

abbrev pub sped_in : Text → List Summary → Option Summary
sped_in label summaries = find (is_sped label) summaries

abbrev pub cost_of : List Summary → Text → Option ℕ
cost_of summaries label = cost_between (base_in label summaries) (sped_in label summaries)
