-- A machine's run tells whether runs are long.
use Rattle.std.proofs.Common.{◌≡◌, ℕ, Bool, not, ap, refl, ◌∙◌}
use Rattle.coz_types.specs.declared.ending.Ending.{Ending}
use Rattle.machines.specs.Delayed.{Delayed}
use Rattle.machines.specs.Records.{Record, record_of}
use Rattle.machines.specs.Standing.{standing, delayed_record}
use Rattle.timed_guest.specs.Guest.{Timed}
use Rattle.run_subject.specs.declared.Subject.{Subject}
use Rattle.run_subject.specs.Subjects.{experiment_on}
use Rattle.run_engine.specs.Seen.{Seen, experiment_of, machine_view}
use Rattle.run_engine.specs.declared.choice.Choice.{Choice}
use Rattle.profile_pool.specs.Worth.{is_long, is_success, small_choice}

module _ (s : Subject) (instructions : ℕ) where
  -- of a record, of what is run, and of a choice
  abbrev fails : Record → Bool
  fails r = not (is_success r.ending)

  abbrev fails_from : Seen (Delayed Timed) → Bool
  fails_from seen = fails (delayed_record (experiment_of seen))

  abbrev fails_under : Choice → Bool
  fails_under choice = fails (delayed_record (experiment_on s choice))

  fails_is : fails_under (small_choice instructions) ≡ is_long s instructions
  unfolding is_long
  fails_is = refl

  pub long_is : (choice : Choice) (seen : Seen (Delayed Timed)) (d : Delayed Timed) (ending : Ending)
      → choice ≡ small_choice instructions
      → seen ≡ machine_view s.image.now s.index.now s.points.now s.timing s.input.now choice (λ x. standing x 0)
      → record_of (experiment_of seen) d ending ≡ delayed_record (experiment_of seen)
      → not (is_success ending) ≡ is_long s instructions
  long_is choice seen d ending chosen made recorded =
      ap fails recorded
      ∙ ap fails_from made
      ∙ ap fails_under chosen
      ∙ fails_is
