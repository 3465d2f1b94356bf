use Rattle.std.proofs.Common.{sym, ◌∙◌, refl, arith}
use Rattle.guest_calls.specs.Calls.{at_any_time, ioctl, close, pipe2, lseek, read, write, readv, writev, exit, exit_group, set_tid_address, futex, nanosleep, clock_gettime, sched_yield, rt_sigprocmask, getpid, gettid, brk, munmap, mremap, clone, mmap, mprotect, madvise}
use Rattle.guest_calls.proofs.Rows.{call-known, call-unknown, unknown}
use Rattle.guest_calls.proofs.Guest.call_by_number.Goals as goal

pub returns-in-29 : goal.returns-in-29
returns-in-29 c =
    rw c.requires.started (c.ioctl.ensures ∙ call-known _ _ _ 29 (at_any_time ioctl) (sym c.in-29.is ∙ c.number.ensures) refl)

pub returns-in-57 : goal.returns-in-57
returns-in-57 c =
    c.close.ensures ∙ call-known _ _ _ 57 (at_any_time close) (sym c.in-57.is ∙ c.number.ensures) refl

pub returns-in-59 : goal.returns-in-59
returns-in-59 c =
    rw c.requires.started (c.pipe2.ensures ∙ call-known _ _ _ 59 (at_any_time pipe2) (sym c.in-59.is ∙ c.number.ensures) refl)

pub returns-in-62 : goal.returns-in-62
returns-in-62 c =
    rw c.requires.started (c.lseek.ensures ∙ call-known _ _ _ 62 (at_any_time lseek) (sym c.in-62.is ∙ c.number.ensures) refl)

pub returns-in-63 : goal.returns-in-63
returns-in-63 c =
    c.read.ensures ∙ call-known _ _ _ 63 (at_any_time read) (sym c.in-63.is ∙ c.number.ensures) refl

pub returns-in-64 : goal.returns-in-64
returns-in-64 c =
    c.write.ensures ∙ call-known _ _ _ 64 (at_any_time write) (sym c.in-64.is ∙ c.number.ensures) refl

pub returns-in-65 : goal.returns-in-65
returns-in-65 c =
    rw c.requires.started (c.readv.ensures ∙ call-known _ _ _ 65 (at_any_time readv) (sym c.in-65.is ∙ c.number.ensures) refl)

pub returns-in-66 : goal.returns-in-66
returns-in-66 c =
    rw c.requires.started (c.writev.ensures ∙ call-known _ _ _ 66 (at_any_time writev) (sym c.in-66.is ∙ c.number.ensures) refl)

pub returns-in-93 : goal.returns-in-93
returns-in-93 c =
    c.exit.ensures ∙ call-known _ _ _ 93 (at_any_time exit) (sym c.in-93.is ∙ c.number.ensures) refl

pub returns-in-94 : goal.returns-in-94
returns-in-94 c =
    rw c.requires.started (c.exit_group.ensures ∙ call-known _ _ _ 94 (at_any_time exit_group) (sym c.in-94.is ∙ c.number.ensures) refl)

pub returns-in-96 : goal.returns-in-96
returns-in-96 c =
    rw c.requires.started (c.set_tid_address.ensures ∙ call-known _ _ _ 96 (at_any_time set_tid_address) (sym c.in-96.is ∙ c.number.ensures) refl)

pub returns-in-98 : goal.returns-in-98
returns-in-98 c =
    c.futex.ensures ∙ call-known _ _ _ 98 (at_any_time futex) (sym c.in-98.is ∙ c.number.ensures) refl

pub returns-in-101 : goal.returns-in-101
returns-in-101 c =
    rw c.requires.started (c.nanosleep.ensures ∙ call-known _ _ _ 101 nanosleep (sym c.in-101.is ∙ c.number.ensures) refl)

pub returns-in-113 : goal.returns-in-113
returns-in-113 c =
    rw c.requires.started (c.clock_gettime.ensures ∙ call-known _ _ _ 113 clock_gettime (sym c.in-113.is ∙ c.number.ensures) refl)

pub returns-in-124 : goal.returns-in-124
returns-in-124 c =
    rw c.requires.started (c.sched_yield.ensures ∙ call-known _ _ _ 124 (at_any_time sched_yield) (sym c.in-124.is ∙ c.number.ensures) refl)

pub returns-in-135 : goal.returns-in-135
returns-in-135 c =
    rw c.requires.started (c.rt_sigprocmask.ensures ∙ call-known _ _ _ 135 (at_any_time rt_sigprocmask) (sym c.in-135.is ∙ c.number.ensures) refl)

pub returns-in-172 : goal.returns-in-172
returns-in-172 c =
    rw c.requires.started (c.getpid.ensures ∙ call-known _ _ _ 172 (at_any_time getpid) (sym c.in-172.is ∙ c.number.ensures) refl)

pub returns-in-178 : goal.returns-in-178
returns-in-178 c =
    rw c.requires.started (c.gettid.ensures ∙ call-known _ _ _ 178 (at_any_time gettid) (sym c.in-178.is ∙ c.number.ensures) refl)

pub returns-in-214 : goal.returns-in-214
returns-in-214 c =
    rw c.requires.started (c.brk.ensures ∙ call-known _ _ _ 214 (at_any_time brk) (sym c.in-214.is ∙ c.number.ensures) refl)

pub returns-in-215 : goal.returns-in-215
returns-in-215 c =
    rw c.requires.started (c.munmap.ensures ∙ call-known _ _ _ 215 (at_any_time munmap) (sym c.in-215.is ∙ c.number.ensures) refl)

pub returns-in-216 : goal.returns-in-216
returns-in-216 c =
    rw c.requires.started (c.mremap.ensures ∙ call-known _ _ _ 216 (at_any_time mremap) (sym c.in-216.is ∙ c.number.ensures) refl)

pub returns-in-220 : goal.returns-in-220
returns-in-220 c =
    c.clone.ensures ∙ call-known _ _ _ 220 (at_any_time clone) (sym c.in-220.is ∙ c.number.ensures) refl

pub returns-in-222 : goal.returns-in-222
returns-in-222 c =
    rw c.requires.started (c.mmap.ensures ∙ call-known _ _ _ 222 (at_any_time mmap) (sym c.in-222.is ∙ c.number.ensures) refl)

pub returns-in-226 : goal.returns-in-226
returns-in-226 c =
    rw c.requires.started (c.mprotect.ensures ∙ call-known _ _ _ 226 (at_any_time mprotect) (sym c.in-226.is ∙ c.number.ensures) refl)

pub returns-in-233 : goal.returns-in-233
returns-in-233 c =
    rw c.requires.started (c.madvise.ensures ∙ call-known _ _ _ 233 (at_any_time madvise) (sym c.in-233.is ∙ c.number.ensures) refl)

pub returns-in_default : goal.returns-in_default
returns-in_default c =
    rw c.requires.started
    (c.unsupported.ensures
    ∙ call-unknown _ _ _ c.number.result c.number.ensures
    (unknown c.number.result (omega arith) (omega arith) (omega arith) (omega arith) (omega arith) (omega arith) (omega arith) (omega arith) (omega arith) (omega arith) (omega arith) (omega arith) (omega arith) (omega arith) (omega arith) (omega arith) (omega arith) (omega arith) (omega arith) (omega arith) (omega arith) (omega arith) (omega arith) (omega arith) (omega arith)))
