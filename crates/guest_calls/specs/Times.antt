-- Spans of time, as calls read and store them. 100 ticks are one nanosecond.
use Rattle.std.specs.Prelude.{ℕ, ◌+◌, ◌*◌, ◌/◌, ◌%◌, ◌^◌, if◌then◌else◌, nat_lt, List, ◌++◌, Option, Some, None, ℤ, pos}
use Rattle.std.specs.Int.{w64, to_le_bytes}
use Rattle.rv_decode.specs.Fields.{signed_bits}
use Rattle.guest_memory.specs.Memory.{MemoryMap, number_at}
use Rattle.guest_calls.specs.declared.times.TheConstants.{SECOND, NANOSECOND}
use Rattle.guest_calls.specs.declared.times.Span.{Span}

-- the span of these seconds and nanoseconds, if both are in their ranges
abbrev pub span_of : ℤ → ℤ → Option Span
span_of (pos seconds) (pos nanoseconds) =
    if nat_lt nanoseconds SECOND
    then Some (record { seconds = seconds; nanoseconds = nanoseconds })
    else None
span_of seconds nanoseconds = None

-- the span that stands at an address: two numbers of 8 bytes with signs
abbrev pub span_at : MemoryMap → ℕ → Option Span
span_at m address =
    span_of (signed_bits 64 (number_at m address 8)) (signed_bits 64 (number_at m (address + 8) 8))

abbrev pub span_bytes : Span → List ℕ
span_bytes span = to_le_bytes w64 span.seconds ++ to_le_bytes w64 span.nanoseconds

-- the net moment at which a hart wakes that sleeps for a span from net time v on
abbrev pub wake_moment : ℕ → Span → ℕ
wake_moment v span = v + (span.seconds * SECOND + span.nanoseconds) * NANOSECOND

-- the last moment until which a hart may sleep
abbrev pub last_moment : ℕ
last_moment = 10 ^ 16

-- what a clock shows at net time v
abbrev pub clock_at : ℕ → Span
clock_at v = record {
  seconds = v / (SECOND * NANOSECOND);
  nanoseconds = v % (SECOND * NANOSECOND) / NANOSECOND;
}
