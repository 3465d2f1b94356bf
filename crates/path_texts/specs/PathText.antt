-- What `path` prints: the segments of a critical path, how much of it each line has, and how long
-- it slept.
use Rattle.std.specs.Prelude.{ℕ, ◌+◌, Bool, false, ◌==◌, nat_lt, List, [], ◌++◌, length, map, flat_map, sum_by, Option, Some, None, is_none, if◌then◌else◌, codes}
use Rattle.std.specs.List.{filter, range_with_len}
use Rattle.coz_types.specs.Labels.{Text}
use Rattle.coz_types.specs.declared.ending.Ending.{Ending}
use Rattle.line_index.specs.Lines.{Line, label_at}
use Rattle.line_index.specs.Index.{Index}
use Rattle.profile_book.specs.Pieces.{named, number_line, end_line}
use Rattle.profile_labels.specs.Sorted.{sorted_by}
use Rattle.path_chains.specs.declared.event.Event.{Event}
use Rattle.path_chains.specs.declared.segment.Segment.{Segment}
use Rattle.path_chains.specs.declared.segment.Handover.{Handover}
use Rattle.path_chains.specs.declared.segment.Handover.TheVariants.{Start, Clone, Wake}
use Rattle.path_chains.specs.declared.share.Share.{Share}
use Rattle.path_chains.specs.Path.{event_at}
use Rattle.path_chains.specs.Segments.{segments_of}
use Rattle.path_chains.specs.Shares.{has_more}
use Rattle.path_texts.specs.declared.texts.CriticalPath.{CriticalPath}

-- ---- shares

-- an address has the line at this position
abbrev pub is_on : Option ℕ → ℕ → Bool
is_on None line = false
is_on (Some at) line = at == line

-- the work of the events whose addresses have this line
abbrev pub work_on : (ℕ → Option ℕ) → ℕ → List Event → ℕ
work_on line_of line path = sum_by (λ e. if is_on (line_of e.address) line then e.cost else 0) path

-- of those whose addresses have none
abbrev pub work_elsewhere : (ℕ → Option ℕ) → List Event → ℕ
work_elsewhere line_of path = sum_by (λ e. if is_none (line_of e.address) then e.cost else 0) path

-- how long a path slept
abbrev pub slept_on : List Event → ℕ
slept_on path = sum_by (λ e. e.slept) path

abbrev pub share_of : (ℕ → Option ℕ) → List Event → ℕ → Share
share_of line_of path line = record { line = line; ticks = work_on line_of line path }

abbrev pub has_some : Share → Bool
has_some s = nat_lt 0 s.ticks

-- the shares of the lines that have one, by falling ticks, and then in the order of the lines
abbrev pub shares_of : (ℕ → Option ℕ) → ℕ → List Event → List Share
shares_of line_of lines path =
    sorted_by has_more (filter has_some (map (share_of line_of path) (range_with_len 0 lines)))

-- the ticks of all shares: of the lines, of code without a line, and of sleep
abbrev pub all_shares : (ℕ → Option ℕ) → ℕ → List Event → ℕ
all_shares line_of lines path =
    sum_by (λ s. s.ticks) (shares_of line_of lines path)
    + work_elsewhere line_of path
    + slept_on path

-- ---- the text

abbrev pub by_text : Handover → Text
by_text Start = codes "start"
by_text Clone = codes "clone"
by_text Wake = codes "wake"

abbrev pub segment_line : Segment → Text
segment_line s = named (codes "segment ") s.hart.0
    ++ named (codes " from ") s.start
    ++ named (codes " to ") s.end
    ++ (codes " by " ++ by_text s.by) ++ codes "\n"

abbrev pub share_line : List Line → Share → Text
share_line lines s =
    (codes "share " ++ label_at lines s.line) ++ named (codes " ") s.ticks ++ codes "\n"

-- a name and a number on a line, unless the number is 0
abbrev pub amount_line : Text → ℕ → Text
amount_line name n = if n == 0 then [] else number_line name n

abbrev pub head_lines : Ending → ℕ → ℕ → ℕ → Text
head_lines ending net retired segments = end_line ending
    ++ number_line (codes "net ") net
    ++ number_line (codes "retired ") retired
    ++ number_line (codes "segments ") segments

-- the shares of lines, of code without a line, and of sleep
abbrev pub share_lines : List Line → List Share → ℕ → ℕ → Text
share_lines lines shares none sleep = flat_map (share_line lines) shares
    ++ amount_line (codes "share none ") none
    ++ amount_line (codes "sleep ") sleep

-- of a run with this ending, net time and number of instructions, by the events of its path
abbrev pub path_lines : Ending → ℕ → ℕ → List Event → List Line → List Share → ℕ → ℕ → Text
path_lines ending net retired path lines shares none sleep =
    head_lines ending net retired (length (segments_of path))
    ++ flat_map segment_line (segments_of path)
    ++ share_lines lines shares none sleep

-- what `path` prints of it, if each address has its line among these
unfoldable pub path_text : Ending → ℕ → ℕ → List Event → (ℕ → Option ℕ) → List Line → Text
path_text ending net retired path line_of lines =
    path_lines ending net retired path lines (shares_of line_of (length lines) path)
    (work_elsewhere line_of path) (slept_on path)

-- the events of a chain of numbers
abbrev pub events_on : List Event → List ℕ → List Event
events_on events chain = map (event_at events) chain

-- of a critical path, whose shares are of the lines of an index
abbrev pub written_path : CriticalPath → Index → Text
written_path path index =
    path_lines path.trace.ending path.net (length path.trace.events)
    (events_on path.trace.events path.chain.items) index.lines
    path.shares.lines path.shares.none path.shares.sleep
