-- Which items a profile's text has, one after the other, and its first fault.
use Rattle.std.specs.Prelude.{ℕ, suc, ◌+◌, Bool, ◌&&◌, ◌||◌, ◌==◌, nat_lt, nat_le, true, false, List, [], ◌∷◌, length, drop, codes, Option, Some, None, unwrap_or, if◌then◌else◌}
use Rattle.std.specs.List.{list_all}
use Rattle.std.specs.Str.{bytes_eq}
use Rattle.std.specs.Str.Parse.{digits_value}
use Rattle.coz_types.specs.Labels.{Text, is_decimal, is_label, label_before}
use Rattle.coz_types.specs.declared.TheConstants.{MAX_SPEEDUP, MAX_POINTS, MAX_NUMBER, MAX_COUNT}
use Rattle.profile_reader.specs.EndingSpellings.{is_ending_text}
use Rattle.profile_book.specs.Profile.{field, number_field}
use Rattle.profile_reader.specs.Items.{items_of}
use Rattle.profile_reader.specs.declared.fault.BookField.{BookField}
use Rattle.profile_reader.specs.declared.fault.BookField.TheVariants.{Head, Version, Budget, Points, Point, Index, Name, Experiment, Selected, Speedup, End, Time, Delay, Retired, Starts, Output, Length, Digest, Throughput, Delta, Visits, Newline}
use Rattle.profile_reader.specs.declared.fault.BookFault.{BookFault}

-- ---- kinds

-- a number for each kind, so that kinds can be compared
abbrev pub code : BookField → ℕ
code Head = 0
code Version = 1
code Budget = 2
code Points = 3
code Point = 4
code Index = 5
code Name = 6
code Experiment = 7
code Selected = 8
code Speedup = 9
code End = 10
code Time = 11
code Delay = 12
code Retired = 13
code Starts = 14
code Output = 15
code Length = 16
code Digest = 17
code Throughput = 18
code Delta = 19
code Visits = 20
code Newline = 21

abbrev pub is_kind : BookField → BookField → Bool
is_kind a b = code a == code b

abbrev pub field_name : BookField → Text
field_name Version = codes "version"
field_name Budget = codes "budget"
field_name Points = codes "points"
field_name Index = codes "index"
field_name Name = codes "name"
field_name Selected = codes "selected"
field_name Speedup = codes "speedup"
field_name End = codes "end"
field_name Time = codes "time"
field_name Delay = codes "delay"
field_name Retired = codes "retired"
field_name Starts = codes "starts"
field_name Length = codes "length"
field_name Digest = codes "sha256"
field_name Delta = codes "delta"
field_name _ = []

-- ---- the items so far, each with its kind, the latest first

abbrev pub Before : Type 0
Before = List (BookField × Text)

-- a field begins with a tab, its name and `=`
abbrev pub prefix : BookField → Text
prefix kind = field (field_name kind) []

abbrev pub value_in : BookField → Text → Text
value_in kind item = drop (length (prefix kind)) item

abbrev pub number_in : BookField → Text → ℕ
number_in kind item = digits_value 10 (value_in kind item)

-- the value of the latest field of this kind
abbrev pub latest : BookField → Before → Option Text
latest kind [] = None
latest kind (item ∷ before) = elim (is_kind kind item.0) [
  | true ↦ Some (value_in kind item.1)
  | false ↦ latest kind before
]

abbrev pub latest_number : BookField → Before → ℕ
latest_number kind before = digits_value 10 (unwrap_or (latest kind before) [])

abbrev pub point_count : Before → ℕ
point_count before = latest_number Points before

-- the names so far
abbrev pub names_in : Before → ℕ
names_in [] = 0
names_in (item ∷ before) = elim (is_kind Name item.0) [
  | true ↦ suc (names_in before)
  | false ↦ names_in before
]

-- the counts so far in this block
abbrev pub counts_in : Before → ℕ
counts_in [] = 0
counts_in (item ∷ before) = elim (is_kind Experiment item.0) [
  | true ↦ 0
  | false ↦ elim (is_kind Delta item.0) [ true ↦ suc (counts_in before) | false ↦ counts_in before ]
]

-- ---- the next kind

abbrev pub point_or_block : Before → BookField
point_or_block before = if nat_lt (names_in before) (point_count before) then Point else Experiment

abbrev pub count_or_visits : Before → BookField
count_or_visits before =
    if nat_lt (counts_in before) (point_count before) then Throughput else Visits

-- after a newline, by the item before it and the items before that
abbrev pub line_after : BookField → Before → BookField
line_after Starts before = Output
line_after Delta before = count_or_visits before
line_after Digest (digest ∷ item ∷ before) =
    if is_kind Length item.0 then count_or_visits (digest ∷ item ∷ before) else Experiment
line_after kind before = point_or_block before

-- the kind of the next item: by the latest kinds, and, if a line may come again,
-- by how many points, names and counts there are
abbrev pub expected_field : Before → BookField
expected_field [] = Head
expected_field ((Newline, text) ∷ item ∷ before) = line_after item.0 (item ∷ before)
expected_field ((Index, text) ∷ item ∷ before) = if is_kind Point item.0 then Name else Delta
expected_field ((Head, text) ∷ before) = Version
expected_field ((Version, text) ∷ before) = Budget
expected_field ((Budget, text) ∷ before) = Points
expected_field ((Point, text) ∷ before) = Index
expected_field ((Experiment, text) ∷ before) = Selected
expected_field ((Selected, text) ∷ before) = Speedup
expected_field ((Speedup, text) ∷ before) = End
expected_field ((End, text) ∷ before) = Time
expected_field ((Time, text) ∷ before) = Delay
expected_field ((Delay, text) ∷ before) = Retired
expected_field ((Retired, text) ∷ before) = Starts
expected_field ((Output, text) ∷ before) = Length
expected_field ((Length, text) ∷ before) = Digest
expected_field ((Throughput, text) ∷ before) = Index
expected_field ((Visits, text) ∷ before) = Digest
expected_field (item ∷ before) = Newline

-- ---- spellings

-- the field of this name: it is the spelling of its own value
abbrev pub is_field : BookField → Text → Bool
is_field kind item = bytes_eq item (field (field_name kind) (value_in kind item))

-- the field with the spelling of a number up to a bound
abbrev pub has_number : BookField → ℕ → Text → Bool
has_number kind top item = is_field kind item && is_decimal top (value_in kind item)

abbrev pub is_lower_hex : ℕ → Bool
is_lower_hex b = (nat_le 48 b && nat_le b 57) || (nat_le 97 b && nat_le b 102)

abbrev pub is_digest : Text → Bool
is_digest text = length text == 64 && list_all is_lower_hex text

-- the number of this point or of this count
abbrev pub index_at : Before → ℕ
index_at [] = 0
index_at (item ∷ before) = if is_kind Point item.0 then names_in before else counts_in before

-- a label that comes after the latest one, or that isn't before it
abbrev pub comes_after : Option Text → Text → Bool
comes_after None label = true
comes_after (Some last) label = label_before last label

abbrev pub not_before : Option Text → Text → Bool
not_before None label = true
not_before (Some last) label = label_before last label || bytes_eq last label

-- a speedup that is greater than that of the block before, unless the label comes
-- after that block's
abbrev pub goes_on : Option Text → ℕ → Text → ℕ → Bool
goes_on None least label speedup = true
goes_on (Some last) least label speedup = label_before last label || nat_lt least speedup

-- the field with a label of which this holds
abbrev pub has_label : BookField → (Text → Bool) → Text → Bool
has_label kind passes item =
    is_field kind item && (is_label (value_in kind item) && passes (value_in kind item))

-- the speedup that follows the block's label, after the blocks before
abbrev pub has_speedup : Before → Text → Bool
has_speedup [] item = false
has_speedup (label ∷ before) item =
    has_number Speedup MAX_SPEEDUP item
    && goes_on (latest Selected before) (latest_number Speedup before) (value_in Selected label.1)
    (number_in Speedup item)

-- the item is a spelling of this kind, after the items before it
abbrev pub is_right : BookField → Before → Text → Bool
is_right Head before item = bytes_eq item (codes "coz-ticks")
is_right Version before item = bytes_eq item (field (codes "version") (codes "1"))
is_right Budget before item = has_number Budget MAX_NUMBER item
is_right Points before item = has_number Points MAX_POINTS item
is_right Point before item = bytes_eq item (codes "point")
is_right Index before item = bytes_eq item (number_field (codes "index") (index_at before))
is_right Name before item = has_label Name (comes_after (latest Name before)) item
is_right Experiment before item = bytes_eq item (codes "experiment")
is_right Selected before item = has_label Selected (not_before (latest Selected before)) item
is_right Speedup before item = has_speedup before item
is_right End before item = is_field End item && is_ending_text (value_in End item)
is_right Time before item = has_number Time MAX_NUMBER item
is_right Delay before item = has_number Delay (latest_number Time before) item
is_right Retired before item = has_number Retired MAX_NUMBER item
is_right Starts before item = has_number Starts MAX_NUMBER item
is_right Output before item = bytes_eq item (codes "output")
is_right Length before item = has_number Length MAX_NUMBER item
is_right Digest before item = is_field Digest item && is_digest (value_in Digest item)
is_right Throughput before item = bytes_eq item (codes "throughput-point")
is_right Delta before item = has_number Delta MAX_COUNT item
is_right Visits before item = bytes_eq item (codes "visits")
is_right Newline before item = bytes_eq item (codes "\n")

-- ---- the fault

-- the text may end if a block may follow
abbrev pub may_end : BookField → Bool
may_end Experiment = true
may_end _ = false

-- how many bytes there are so far
abbrev pub size : Before → ℕ
size [] = 0
size (item ∷ before) = size before + length item.1

abbrev pub fault : BookField → Before → BookFault
fault kind before = record { field = kind; place = size before }

-- the first item that isn't right after those before it, or the one that is missing
abbrev pub first_fault : Before → List Text → Option BookFault
first_fault before [] =
    if may_end (expected_field before) then None else Some (fault (expected_field before) before)
first_fault before (item ∷ items) = elim (is_right (expected_field before) before item) [
  | true ↦ first_fault ((expected_field before, item) ∷ before) items
  | false ↦ Some (fault (expected_field before) before)
]

unfoldable pub book_fault : Text → Option BookFault
book_fault bytes = first_fault [] (items_of bytes)
