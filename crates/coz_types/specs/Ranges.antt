-- The ranges of what a profile says of one run.
use Rattle.std.specs.Prelude.{◌≡◌, ◌≤◌, ℕ, ◌-◌, Bool, ◌&&◌, nat_lt, nat_le, true, List, length}
use Rattle.std.specs.List.{list_all}
use Rattle.coz_types.specs.declared.TheConstants.{MAX_SPEEDUP, MAX_NUMBER, MAX_COUNT, HARTS}
use Rattle.coz_types.specs.Labels.{is_label}
use Rattle.coz_types.specs.declared.ending.Ending.{Ending}
use Rattle.coz_types.specs.declared.ending.Ending.TheVariants.{Exited, Trapped, Unsupported, Clock, OutputFull, VisitsFull, Stalled, Spent}
use Rattle.coz_types.specs.declared.record.Summary.{Summary}

-- 2^64 - 1
abbrev pub last_word : ℕ
last_word = 18446744073709551615

-- a code of one byte, one of the harts, and words of 64 bits
abbrev pub is_ending : Ending → Bool
is_ending (Exited code) = nat_le code 255
is_ending (Trapped trap) = nat_le trap.hart.0 (HARTS - 1) && nat_le trap.pc last_word
is_ending (Unsupported number) = nat_le number last_word
is_ending Clock = true
is_ending OutputFull = true
is_ending VisitsFull = true
is_ending Stalled = true
is_ending Spent = true

-- 32 bytes
pub record IsDigest (bytes : List ℕ) : Type 0 where
  pub size : length bytes ≡ 32
  pub bytes_fit : list_all (λ b. nat_lt b 256) bytes ≡ true

-- a summary of a run with `points` progress points
pub record IsSummary (points : ℕ) (s : Summary) : Type 0 where
  pub selected : is_label s.selected ≡ true
  pub speedup : s.speedup ≤ MAX_SPEEDUP
  pub ending : is_ending s.outcome.ending ≡ true
  pub time : s.outcome.time ≤ MAX_NUMBER
  pub delay : s.outcome.delay ≤ s.outcome.time
  pub retired : s.outcome.retired ≤ MAX_NUMBER
  pub starts : s.outcome.starts ≤ MAX_NUMBER
  pub size : s.length ≤ MAX_NUMBER
  pub output : IsDigest s.output.bytes
  pub visits : IsDigest s.visits.bytes
  pub counts : length s.counts ≡ points
  pub deltas : list_all (λ n. nat_le n MAX_COUNT) s.counts ≡ true
