-- How many runs ended in which way.
use Rattle.std.specs.Prelude.{ℕ, ◌-◌, Bool, List, length, codes}
use Rattle.std.specs.List.{filter}
use Rattle.std.specs.Str.{bytes_eq}
use Rattle.coz_types.specs.Labels.{Text}
use Rattle.coz_types.specs.declared.ending.Ending.{Ending}
use Rattle.coz_types.specs.declared.ending.Ending.TheVariants.{Exited, Trapped, Unsupported, Clock, OutputFull, VisitsFull, Stalled, Spent}
use Rattle.coz_types.specs.declared.record.Summary.{Summary}

-- the kind of an ending, as its text begins
abbrev pub kind_of : Ending → Text
kind_of (Exited code) = codes "exited"
kind_of (Trapped trap) = codes "trapped"
kind_of (Unsupported number) = codes "unsupported"
kind_of Clock = codes "clock"
kind_of OutputFull = codes "output-full"
kind_of VisitsFull = codes "visits-full"
kind_of Stalled = codes "stalled"
kind_of Spent = codes "spent"

abbrev pub ended_so : Text → Summary → Bool
ended_so kind s = bytes_eq (kind_of s.outcome.ending) kind

-- how many runs ended so
abbrev pub count_of : Text → List Summary → ℕ
count_of kind summaries = length (filter (ended_so kind) summaries)

abbrev pub others_of : List Summary → ℕ
others_of summaries = length summaries - count_of (codes "exited") summaries
