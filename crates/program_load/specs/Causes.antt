-- The faults that errors of the steps are.
use Rattle.failures.specs.declared.Failure.{Failure}
use Rattle.profile_reader.specs.declared.fault.BookFault.{BookFault}
use Rattle.rv_asm.specs.declared.AsmFault.{AsmFault}
use Rattle.dwarf_lines.specs.declared.LineFault.{LineFault}
use Rattle.elf_load.specs.declared.ElfFault.{ElfFault}
use Rattle.failures.specs.declared.Failure.TheVariants as failing
use Rattle.progress_points.specs.declared.PointsError.{PointsError}
use Rattle.progress_points.specs.declared.PointsError.TheVariants as points
use Rattle.experiment_plan.specs.declared.experiment.PlanError.{PlanError}
use Rattle.experiment_plan.specs.declared.experiment.PlanError.TheVariants as planning
use Rattle.file_read.specs.declared.fault.FileFault.TheVariants.{Memory}
use Rattle.program_load.specs.declared.fault.Fault.{Fault}
use Rattle.program_load.specs.declared.fault.Fault.TheVariants.{File, Program, Lines, ManyPoints, ManyExperiments, Source, Profile}

abbrev pub loading_fault : Failure ElfFault → Fault
loading_fault (failing.Fault fault) = Program fault
loading_fault failing.Memory = File Memory

abbrev pub reading_fault : Failure LineFault → Fault
reading_fault (failing.Fault fault) = Lines fault
reading_fault failing.Memory = File Memory

abbrev pub points_fault : PointsError → Fault
points_fault (points.TooMany count) = ManyPoints count
points_fault points.Memory = File Memory

abbrev pub planning_fault : PlanError → Fault
planning_fault (planning.TooMany count) = ManyExperiments count
planning_fault planning.Memory = File Memory

abbrev pub assembling_fault : Failure AsmFault → Fault
assembling_fault (failing.Fault fault) = Source fault
assembling_fault failing.Memory = File Memory

abbrev pub profile_fault : Failure BookFault → Fault
profile_fault (failing.Fault fault) = Profile fault
profile_fault failing.Memory = File Memory
