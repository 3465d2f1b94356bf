-- Pipes between the threads of a program (POSIX.1-2017, pipe, read, write and close; Linux, pipe(7)):
-- each has an end that reads and one that writes, and holds bytes between them.
use Rattle.std.specs.Prelude.{ℕ, ◌≤◌, ◌+◌, ◌-◌, Bool, true, false, not, ◌&&◌, ◌==◌, nat_le, nat_lt, min, if◌then◌else◌, List, [], ◌∷◌, ◌++◌, length, get_or, set, drop, map, filter, replicate, count_by, Option, Some, None, option_map, is_none}
use Rattle.std.specs.List.{list_any, position_or_len, range_with_len}
use Rattle.guest_pipes.specs.declared.TheConstants.{FIRST_NUMBER, NUMBERS, PIPES, PIPE_BYTES, ATOMIC_BYTES}
use Rattle.guest_pipes.specs.declared.ends.PipeEnd.{PipeEnd}
use Rattle.guest_pipes.specs.declared.ends.PipeEnd.TheVariants.{Reading, Writing}
use Rattle.guest_pipes.specs.declared.ends.End.{End}
use Rattle.guest_pipes.specs.declared.waiters.PipeWaiter.{PipeWaiter}
use Rattle.guest_pipes.specs.declared.Ready.{Ready}
use Rattle.guest_pipes.specs.declared.Ready.TheVariants.{Now, Closed, Wait}

pub record PipeMap : Type 0 where
  -- the open ends, by their numbers from the first one on
  pub ends : List (Option End)
  -- what each pipe holds, the oldest byte first
  pub bytes : List (List ℕ)
  -- at a reading end for bytes and at a writing one for room, the oldest first
  pub waiters : List PipeWaiter

unfoldable pub no_pipes : PipeMap
no_pipes = record {
  ends = replicate NUMBERS None;
  bytes = replicate PIPES [];
  waiters = [];
}

abbrev pub end_of : ℕ → PipeEnd → End
end_of pipe kind = record { pipe = pipe; kind = kind }

abbrev pub is_kind : PipeEnd → PipeEnd → Bool
is_kind Reading Reading = true
is_kind Reading Writing = false
is_kind Writing Reading = false
is_kind Writing Writing = true

abbrev pub is_same : End → End → Bool
is_same e f = (e.pipe == f.pipe) && is_kind e.kind f.kind

abbrev pub is_this : End → Option End → Bool
is_this e None = false
is_this e (Some f) = is_same e f

abbrev pub is_of_pipe : ℕ → Option End → Bool
is_of_pipe pipe None = false
is_of_pipe pipe (Some e) = e.pipe == pipe

abbrev pub is_open : End → List (Option End) → Bool
is_open e ends = list_any (is_this e) ends

-- a pipe is in use as long as one of its ends is open
abbrev pub is_used : List (Option End) → ℕ → Bool
is_used ends pipe = list_any (is_of_pipe pipe) ends

-- the end that a number is, if it is one
abbrev pub end_at : ℕ → PipeMap → Option End
end_at number p =
    if nat_lt number FIRST_NUMBER then None else get_or p.ends (number - FIRST_NUMBER) None

abbrev pub kind_at : ℕ → PipeMap → Option PipeEnd
kind_at number p = option_map (λ e. e.kind) (end_at number p)

-- an end that is open, and of this kind
abbrev pub is_end_kind : PipeEnd → Option PipeEnd → Bool
is_end_kind kind None = false
is_end_kind kind (Some k) = is_kind kind k

abbrev pub end_or_none : Option End → End
end_or_none None = end_of 0 Reading
end_or_none (Some e) = e

-- the end that an open number is
abbrev pub this_end : ℕ → PipeMap → End
this_end number p = end_or_none (end_at number p)

abbrev pub held : ℕ → PipeMap → List ℕ
held number p = get_or p.bytes (this_end number p).pipe []

-- the lowest pipe that isn't in use, or `PIPES`
unfoldable pub free_pipe : List (Option End) → ℕ
free_pipe ends = position_or_len (λ pipe. not (is_used ends pipe)) (range_with_len 0 PIPES)

-- the lowest free slot of a number
abbrev pub free_slot : List (Option End) → ℕ
free_slot ends = position_or_len is_none ends

abbrev pub with_end : End → List (Option End) → List (Option End)
with_end e ends = set ends (free_slot ends) (Some e)

-- a pipe isn't in use, and two numbers are free
abbrev pub can_make : PipeMap → Bool
can_make p = nat_lt (free_pipe p.ends) PIPES && nat_le 2 (count_by is_none p.ends)

-- with the reading end of the next pipe
abbrev pub half_made : List (Option End) → List (Option End)
half_made ends = with_end (end_of (free_pipe ends) Reading) ends

-- the lowest free number reads, and the next lowest writes
abbrev pub made_numbers : PipeMap → ℕ × ℕ
made_numbers p = (FIRST_NUMBER + free_slot p.ends, FIRST_NUMBER + free_slot (half_made p.ends))

abbrev pub made : PipeMap → PipeMap
made p = record p { ends = with_end (end_of (free_pipe p.ends) Writing) (half_made p.ends) }

-- what a read of `count` bytes, not 0, finds
abbrev pub read_readiness : ℕ → ℕ → PipeMap → Ready
read_readiness number count p =
    if not (length (held number p) == 0) then Now (min count (length (held number p)))
    else if is_open (end_of (this_end number p).pipe Writing) p.ends then Wait
    else Closed

abbrev pub room : ℕ → PipeMap → ℕ
room number p = PIPE_BYTES - length (held number p)

-- what a write of `count` bytes, not 0, finds
abbrev pub write_readiness : ℕ → ℕ → PipeMap → Ready
write_readiness number count p =
    if not (is_open (end_of (this_end number p).pipe Reading) p.ends) then Closed
    else if nat_lt (room number p) (min count ATOMIC_BYTES) then Wait
    else Now (min count (room number p))

abbrev pub readiness : ℕ → ℕ → PipeMap → Ready
readiness number count p =
    if is_kind (this_end number p).kind Reading then read_readiness number count p
    else write_readiness number count p

-- no more than a pipe holds at most
abbrev pub IsFew : Ready → Type 0
IsFew (Now count) = count ≤ PIPE_BYTES
IsFew Closed = Unit {0}
IsFew Wait = Unit {0}

abbrev pub with_held : ℕ → List ℕ → PipeMap → PipeMap
with_held number bytes p = record p { bytes = set p.bytes (this_end number p).pipe bytes }

-- the harts that wait at an end
abbrev pub waits_at : End → PipeWaiter → Bool
waits_at e w = is_same e w.at

abbrev pub woken_at : End → List PipeWaiter → List ℕ
woken_at e ws = map (λ w. w.hart.0) (filter (waits_at e) ws)

abbrev pub left_at : End → List PipeWaiter → List PipeWaiter
left_at e ws = filter (λ w. not (waits_at e w)) ws

abbrev pub without_waiters : End → PipeMap → PipeMap
without_waiters e p = record p { waiters = left_at e p.waiters }

-- those that wait for the bytes of a number's pipe, or for its room
abbrev pub woken_for : PipeEnd → ℕ → PipeMap → List ℕ
woken_for kind number p = woken_at (end_of (this_end number p).pipe kind) p.waiters

-- `count` bytes are taken from the front, and none waits for room
abbrev pub taken : ℕ → ℕ → PipeMap → PipeMap
taken number count p =
    without_waiters (end_of (this_end number p).pipe Writing)
    (with_held number (drop count (held number p)) p)

-- these bytes are put at the end, and none waits for bytes
abbrev pub put : ℕ → List ℕ → PipeMap → PipeMap
put number bytes p =
    without_waiters (end_of (this_end number p).pipe Reading)
    (with_held number (held number p ++ bytes) p)

-- a hart waits at an end from now on
abbrev pub waiting : ℕ → ℕ → PipeMap → PipeMap
waiting number hart p = record p {
  waiters = p.waiters ++ record { at = this_end number p; hart = record { 0 = hart } } ∷ [];
}

-- a pipe that isn't in use has no bytes
abbrev pub emptied : List (Option End) → ℕ → List (List ℕ) → List (List ℕ)
emptied ends pipe bytes = if is_used ends pipe then bytes else set bytes pipe []

abbrev pub ends_without : ℕ → PipeMap → List (Option End)
ends_without number p = set p.ends (number - FIRST_NUMBER) None

-- the number is free, and none waits at either end
abbrev pub closed : ℕ → PipeMap → PipeMap
closed number p =
    without_waiters (end_of (this_end number p).pipe Writing)
    (without_waiters (end_of (this_end number p).pipe Reading)
    (record p {
      ends = ends_without number p;
      bytes = emptied (ends_without number p) (this_end number p).pipe p.bytes;
    }))
