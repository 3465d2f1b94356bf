-- Reading a profile off a list of items, from left to right, by what a reader keeps:
-- the values so far.
use Rattle.std.specs.Prelude.{◌≡◌, ℕ, zero, suc, ◌+◌, ◌-◌, ◌*◌, Bool, true, false, ◌&&◌, List, [], ◌∷◌, length, drop, codes, Option, Some, None, option_map, unwrap_or, Result, Ok, Err, nat_lt, ◌==◌, if◌then◌else◌}
use Rattle.std.specs.Str.{bytes_eq}
use Rattle.std.specs.Str.Parse.{digits_value}
use Rattle.std.specs.List.{slice_split}
use Rattle.coz_types.specs.Labels.{Text}
use Rattle.coz_types.specs.declared.TheConstants.{MAX_SPEEDUP, MAX_POINTS, MAX_NUMBER, MAX_COUNT}
use Rattle.profile_reader.specs.EndingSpellings.{is_ending_text}
use Rattle.coz_types.specs.declared.record.Summary.{Summary}
use Rattle.coz_types.specs.declared.record.Outcome.{Outcome}
use Rattle.coz_types.specs.declared.ending.Ending.{Ending}
use Rattle.coz_types.specs.declared.ending.Ending.TheVariants.{Exited, Trapped, Unsupported, Clock, OutputFull, VisitsFull, Stalled, Spent}
use Rattle.coz_types.specs.declared.ending.TrapCause.{TrapCause}
use Rattle.coz_types.specs.declared.ending.TrapCause.TheVariants.{Fetch, Illegal, Misaligned, Access, Break}
use Rattle.profile_book.specs.declared.profile.Profile.{Profile}
use Rattle.profile_reader.specs.declared.fault.BookField.{BookField}
use Rattle.profile_reader.specs.declared.fault.BookField.TheVariants.{Head, Version, Budget, Points, Point, Index, Name, Experiment, Selected, Speedup, End, Time, Delay, Retired, Starts, Output, Length, Digest, Throughput, Delta, Visits, Newline}
use Rattle.profile_reader.specs.declared.fault.BookFault.{BookFault}
use Rattle.profile_book.specs.Profile.{number_field}
use Rattle.profile_reader.specs.Grammar.{value_in, number_in, has_number, has_label, is_field, is_digest, comes_after, not_before, goes_on}

-- the items ahead, and how many bytes were read
pub record Ahead : Type 0 where
  pub items : List Text
  pub place : ℕ

unfoldable pub bind : {A B : Type 0} → Result A BookFault
    → (A → Result B BookFault) → Result B BookFault
bind (Ok x) f = f x
bind (Err e) f = Err e

infixl 10 ◌>>=◌
abbrev pub ◌>>=◌ : {A B : Type 0} → Result A BookFault
    → (A → Result B BookFault) → Result B BookFault
r >>= f = bind r f

-- what a test of a text answers: the value if it passes
abbrev pub Tells : {X Y : Type 0} → (X → Y) → Bool → Y → Option X → Type 0
Tells view passes value None = passes ≡ false
Tells view passes value (Some x) = (passes ≡ true) × (view x ≡ value)

-- ---- one item

-- the next item; nothing at the end, which is no item
abbrev pub next : List Text → Text
next [] = []
next (item ∷ items) = item

abbrev pub items_past : Ahead → Ahead
items_past a = record { items = drop 1 a.items; place = a.place + length (next a.items) }

abbrev pub judged_item : {X : Type 0} → Bool → BookField → X → Ahead → Result (X × Ahead) BookFault
judged_item true kind x a = Ok (x, items_past a)
judged_item false kind x a = Err (record { field = kind; place = a.place })

-- the value of the next item, if it passes
abbrev pub item_at : {X : Type 0} → BookField → (Text → Bool) → (Text → X) → Ahead
    → Result (X × Ahead) BookFault
item_at kind passes value a = judged_item (passes (next a.items)) kind (value (next a.items)) a

unfoldable pub word_at : BookField → Text → Ahead → Result (Unit {0} × Ahead) BookFault
word_at kind text a = item_at kind (λ item. bytes_eq item text) (λ item. tt) a

unfoldable pub number_at : BookField → ℕ → Ahead → Result (ℕ × Ahead) BookFault
number_at kind top a = item_at kind (has_number kind top) (number_in kind) a

unfoldable pub label_at : BookField → (Text → Bool) → Ahead → Result (Text × Ahead) BookFault
label_at kind passes a = item_at kind (has_label kind passes) (value_in kind) a

-- the speedup of a block with this label, after a block with that label and speedup
abbrev pub is_speedup : Option Text → ℕ → Text → Text → Bool
is_speedup last least label item =
    has_number Speedup MAX_SPEEDUP item && goes_on last least label (number_in Speedup item)

unfoldable pub speedup_at : Option Text → ℕ → Text → Ahead → Result (ℕ × Ahead) BookFault
speedup_at last least label a = item_at Speedup (is_speedup last least label) (number_in Speedup) a

abbrev pub cause_in : Text → TrapCause
cause_in text =
    if bytes_eq text (codes "fetch") then Fetch
    else (if bytes_eq text (codes "illegal") then Illegal
    else (if bytes_eq text (codes "misaligned") then Misaligned
    else (if bytes_eq text (codes "access") then Access else Break)))

abbrev pub ending_in_parts : List Text → Ending
ending_in_parts (word ∷ []) =
    if bytes_eq word (codes "stalled") then Stalled
    else (if bytes_eq word (codes "spent") then Spent
    else (if bytes_eq word (codes "output-full") then OutputFull
    else (if bytes_eq word (codes "visits-full") then VisitsFull else Clock)))
ending_in_parts (word ∷ n ∷ []) =
    if bytes_eq word (codes "exited") then Exited (digits_value 10 n)
    else Unsupported (digits_value 10 n)
ending_in_parts (word ∷ cause ∷ hart ∷ pc ∷ []) =
    Trapped (record {
      cause = cause_in cause;
      hart = record { 0 = digits_value 10 hart };
      pc = digits_value 16 (drop 2 pc);
    })
ending_in_parts _ = Spent

abbrev pub ending_in : Text → Ending
ending_in text = ending_in_parts (slice_split (λ b. b == 58) text)

unfoldable pub ending_at : Ahead → Result (Ending × Ahead) BookFault
ending_at a =
    item_at End (λ item. is_field End item && is_ending_text (value_in End item))
    (λ item. ending_in (value_in End item)) a

abbrev pub lower_value : ℕ → ℕ
lower_value b = if nat_lt b 97 then b - 48 else b - 87

-- the bytes of which the text has the digits
abbrev pub bytes_in : Text → List ℕ
bytes_in (high ∷ low ∷ rest) = (16 * lower_value high + lower_value low) ∷ bytes_in rest
bytes_in _ = []

unfoldable pub digest_at : Ahead → Result (List ℕ × Ahead) BookFault
digest_at a =
    item_at Digest (λ item. is_field Digest item && is_digest (value_in Digest item))
    (λ item. bytes_in (value_in Digest item)) a

-- ---- lines

unfoldable pub head_at : Ahead → Result ((ℕ × ℕ) × Ahead) BookFault
head_at a = do
  head ← word_at Head (codes "coz-ticks") a
  version ← word_at Version (codes "\tversion=1") head.1
  budget ← number_at Budget MAX_NUMBER version.1
  points ← number_at Points MAX_POINTS budget.1
  end ← word_at Newline (codes "\n") points.1
  Ok ((budget.0, points.0), end.1)

unfoldable pub name_at : ℕ → Option Text → Ahead → Result (Text × Ahead) BookFault
name_at index last a = do
  point ← word_at Point (codes "point") a
  number ← word_at Index (number_field (codes "index") index) point.1
  name ← label_at Name (comes_after last) number.1
  end ← word_at Newline (codes "\n") name.1
  Ok (name.0, end.1)

-- the names that are left, from this index on
unfoldable pub names_at : ℕ → ℕ → Option Text → Ahead → Result (List Text × Ahead) BookFault
names_at zero index last a = Ok ([], a)
names_at (suc left) index last a = do
  first ← name_at index last a
  others ← names_at left (suc index) (Some first.0) first.1
  Ok (first.0 ∷ others.0, others.1)

unfoldable pub count_at : ℕ → Ahead → Result (ℕ × Ahead) BookFault
count_at index a = do
  point ← word_at Throughput (codes "throughput-point") a
  number ← word_at Index (number_field (codes "index") index) point.1
  count ← number_at Delta MAX_COUNT number.1
  end ← word_at Newline (codes "\n") count.1
  Ok (count.0, end.1)

unfoldable pub counts_at : ℕ → ℕ → Ahead → Result (List ℕ × Ahead) BookFault
counts_at zero index a = Ok ([], a)
counts_at (suc left) index a = do
  first ← count_at index a
  others ← counts_at left (suc index) first.1
  Ok (first.0 ∷ others.0, others.1)

-- the label and the speedup of the block before
abbrev pub selected_of : Option Summary → Option Text
selected_of last = option_map (λ (s : Summary). s.selected) last

abbrev pub speedup_of : Option Summary → ℕ
speedup_of last = unwrap_or (option_map (λ (s : Summary). s.speedup) last) 0

unfoldable pub outcome_at : Ahead → Result (Outcome × Ahead) BookFault
outcome_at a = do
  ending ← ending_at a
  time ← number_at Time MAX_NUMBER ending.1
  delay ← number_at Delay time.0 time.1
  retired ← number_at Retired MAX_NUMBER delay.1
  starts ← number_at Starts MAX_NUMBER retired.1
  end ← word_at Newline (codes "\n") starts.1
  Ok (
    record {
      ending = ending.0;
      time = time.0;
      delay = delay.0;
      retired = retired.0;
      starts = starts.0;
    },
    end.1,
  )

unfoldable pub selection_at : Option Summary → Ahead → Result ((Text × ℕ) × Ahead) BookFault
selection_at last a = do
  experiment ← word_at Experiment (codes "experiment") a
  label ← label_at Selected (not_before (selected_of last)) experiment.1
  speedup ← speedup_at (selected_of last) (speedup_of last) label.0 label.1
  Ok ((label.0, speedup.0), speedup.1)

unfoldable pub output_at : Ahead → Result ((ℕ × List ℕ) × Ahead) BookFault
output_at a = do
  output ← word_at Output (codes "output") a
  size ← number_at Length MAX_NUMBER output.1
  digest ← digest_at size.1
  end ← word_at Newline (codes "\n") digest.1
  Ok ((size.0, digest.0), end.1)

unfoldable pub visits_at : Ahead → Result (List ℕ × Ahead) BookFault
visits_at a = do
  visits ← word_at Visits (codes "visits") a
  digest ← digest_at visits.1
  end ← word_at Newline (codes "\n") digest.1
  Ok (digest.0, end.1)

unfoldable pub block_at : ℕ → Option Summary → Ahead → Result (Summary × Ahead) BookFault
block_at points last a = do
  selection ← selection_at last a
  outcome ← outcome_at selection.1
  output ← output_at outcome.1
  counts ← counts_at points 0 output.1
  visits ← visits_at counts.1
  Ok (
    record {
      selected = selection.0.0;
      speedup = selection.0.1;
      outcome = outcome.0;
      length = output.0.0;
      output = record { bytes = output.0.1 };
      counts = counts.0;
      visits = record { bytes = visits.0 };
    },
    visits.1,
  )

-- ---- the whole

abbrev pub is_done : List Text → Bool
is_done [] = true
is_done (item ∷ items) = false

-- the blocks up to the end, of which there are at most `most`
unfoldable pub blocks_at : ℕ → ℕ → Option Summary → Ahead → Result (List Summary) BookFault
blocks_at zero points last a = Ok []
blocks_at (suc most) points last a = elim (is_done a.items) [
  | true ↦ Ok []
  | false ↦ do
    first ← block_at points last a
    others ← blocks_at most points (Some first.0) first.1
    Ok (first.0 ∷ others)
]

unfoldable pub profile_at : ℕ → List Text → Result Profile BookFault
profile_at most items = do
  head ← head_at (record { items = items; place = 0 })
  names ← names_at head.0.1 0 None head.1
  blocks ← blocks_at most head.0.1 None names.1
  Ok (record { budget = head.0.0; points = names.0; summaries = blocks })
