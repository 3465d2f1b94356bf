-- The numbers of system calls that are not codes.
use Rattle.std.proofs.Common.{◌≡◌, ◌^◌, refl}
use Rattle.guest_calls.specs.declared.times.TheConstants.{SECOND, NANOSECOND, LAST_MOMENT}
use Rattle.guest_calls.specs.declared.pieces.TheConstants.{PIECES}

-- nanoseconds of a second (timespec(3))
second : SECOND ≡ 10 ^ 9
second = refl

-- ticks of a nanosecond: a cycle is 100 ticks, and takes a nanosecond
nanosecond : NANOSECOND ≡ 100
nanosecond = refl

-- ticks
last_moment : LAST_MOMENT ≡ 10 ^ 16
last_moment = refl

-- parts of a readv or writev (readv(2), IOV_MAX)
pieces : PIECES ≡ 1024
pieces = refl
