-- The line of the first wrong item of a profile's text, after the program's name.
use Rattle.std.specs.Prelude.{ℕ, List, ◌++◌, codes, decimal}
use Rattle.profile_reader.specs.declared.fault.BookFault.{BookFault}
use Rattle.profile_reader.specs.declared.fault.BookField.{BookField}
use Rattle.profile_reader.specs.declared.fault.BookField.TheVariants.{Head, Version, Budget, Points, Point, Index, Name, Experiment, Selected, Speedup, End, Time, Delay, Retired, Starts, Output, Length, Digest, Throughput, Delta, Visits, Newline}

abbrev pub item_name : BookField → List ℕ
item_name Head = codes "Head"
item_name Version = codes "Version"
item_name Budget = codes "Budget"
item_name Points = codes "Points"
item_name Point = codes "Point"
item_name Index = codes "Index"
item_name Name = codes "Name"
item_name Experiment = codes "Experiment"
item_name Selected = codes "Selected"
item_name Speedup = codes "Speedup"
item_name End = codes "End"
item_name Time = codes "Time"
item_name Delay = codes "Delay"
item_name Retired = codes "Retired"
item_name Starts = codes "Starts"
item_name Output = codes "Output"
item_name Length = codes "Length"
item_name Digest = codes "Digest"
item_name Throughput = codes "Throughput"
item_name Delta = codes "Delta"
item_name Visits = codes "Visits"
item_name Newline = codes "Newline"

-- the name of the item and its offset
abbrev pub book_line : BookFault → List ℕ
book_line fault =
    codes "profile: " ++ item_name fault.field ++ codes " at " ++ decimal fault.place
