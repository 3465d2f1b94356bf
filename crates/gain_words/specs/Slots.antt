-- What some words give of an option that is given at most once.
use Rattle.std.specs.Prelude.{Option, Some, None}
use Rattle.gain_words.specs.declared.slot.Slot.{Slot}
use Rattle.gain_words.specs.declared.slot.Slot.TheVariants.{Absent, Once, Wrong}

-- one value more, None if it is wrong
abbrev pub fill : {A : Type 0} → Slot A → Option A → Slot A
fill Absent (Some x) = Once x
fill slot value = Wrong

-- the value, or the usual one if none is given
abbrev pub value_or : {A : Type 0} → Slot A → A → Option A
value_or Absent usual = Some usual
value_or (Once x) usual = Some x
value_or Wrong usual = None
