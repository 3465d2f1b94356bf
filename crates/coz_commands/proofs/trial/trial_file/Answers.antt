use Rattle.std.proofs.Common.{◌≡◌, List, ℕ, Ok, subst, sym}
use Rattle.std.proofs.lemmas.Result.{err_from_is_err_and}
use Rattle.rv_asm.specs.Assembled.{assembled, view as program_of}
use Rattle.work_gen.specs.Text.{view}
use Rattle.coz_commands.proofs.Trials.{assembled_memory, file_of, trial_named}
use Rattle.coz_commands.proofs.trial.trial_file.Goals as goal

pub write_elf-requires-clause-named : goal.write_elf-requires-clause-named
write_elf-requires-clause-named c = trial_named

pub returns-clause-file : goal.returns-clause-file
returns-clause-file c =
    let given = c.in_ok-assembled in
    let stands : assembled c.args.source.now.text ≡ Ok (program_of given.assembled) = subst (λ (t : List ℕ). assembled t ≡ Ok (program_of given.assembled)) c.as_slice.ensures given.ensures.value in
    file_of (view c.args.source.now) (program_of given.assembled) c.in_ok-file.file.items c.requires.accepted stands given.ensures.program c.in_ok-file.ensures.bytes

pub returns-in_err-assembled-clause-memory : goal.returns-in_err-assembled-clause-memory
returns-in_err-assembled-clause-memory c =
    let gives = err_from_is_err_and c.from_residual.result c.from_residual.ensures.1 in
    let accepted = c.requires.accepted in
    rw (gives.1, gives.2) (assembled_memory c.as_slice.result.now accepted.0 c.in_err-assembled.field-0.0 (subst (λ (t : List ℕ). assembled t ≡ Ok accepted.0) (sym c.as_slice.ensures) accepted.1) c.in_err-assembled.ensures.value)
