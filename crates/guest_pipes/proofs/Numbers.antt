-- The numbers of pipes, each as a number of its own.
use Rattle.std.proofs.Common.{◌≡◌, ℕ, ◌*◌, ◌^◌, refl}
use Rattle.guest_pipes.specs.declared.TheConstants.{FIRST_NUMBER, NUMBERS, PIPES, PIPE_BYTES, ATOMIC_BYTES}

-- after the input and both outputs (stdio(3))
first_number : FIRST_NUMBER ≡ 3
first_number = refl

-- two ends of each pipe
numbers : NUMBERS ≡ 2 * 64
numbers = refl

-- pipes
pipes : PIPES ≡ 64
pipes = refl

-- 16 pages (pipe(7))
pipe_bytes : PIPE_BYTES ≡ 2 ^ 16
pipe_bytes = refl

-- a page (limits.h, PIPE_BUF)
atomic_bytes : ATOMIC_BYTES ≡ 4096
atomic_bytes = refl
