-- The summary of a run, and that of a run which differs from it in its line alone.
use Rattle.std.specs.Prelude.{ℕ, ◌==◌, ◌||◌, Bool, List}
use Rattle.coz_types.specs.declared.record.Digest.{Digest}
use Rattle.coz_types.specs.declared.record.Outcome.{Outcome}
use Rattle.coz_types.specs.declared.record.Summary.{Summary}
use Rattle.machines.specs.Shortened.{NetVisit}
use Rattle.sha2.specs.Sha256.{sha256}
use Rattle.run_summary.specs.Kept.{visits_bytes, counts_of}

-- with this outcome, `size` bytes of output with this digest, and these visits of `points` points
abbrev pub kept : List ℕ → ℕ → Outcome → ℕ → Digest → ℕ → List NetVisit → Summary
kept label speedup outcome size digest points visits = record {
  selected = label;
  speedup = speedup;
  outcome = outcome;
  length = size;
  output = digest;
  counts = counts_of points visits;
  visits = record { bytes = sha256 (visits_bytes visits) };
}

-- with another label, speedup and number of starts
abbrev pub relabelled : List ℕ → ℕ → ℕ → Summary → Summary
relabelled label speedup starts s = record s {
  selected = label;
  speedup = speedup;
  outcome = record s.outcome { starts = starts };
}

-- a run at this speedup, whose line starts so often, delays nothing
abbrev pub is_undelayed : ℕ → ℕ → Bool
is_undelayed speedup starts = (speedup == 0) || (starts == 0)
