-- Pipes that are made, filled, read and closed.
use Rattle.std.proofs.Common.{ℕ, ◌≡◌, [], ◌∷◌, Some, None, refl, ◌+◌, ◌^◌}
use Rattle.guest_pipes.specs.declared.ends.PipeEnd.TheVariants.{Reading, Writing}
use Rattle.guest_pipes.specs.declared.Ready.TheVariants.{Now, Closed, Wait}
use Rattle.guest_pipes.specs.Pipes.{PipeMap, no_pipes, kind_at, held, made, made_numbers, readiness, free_pipe, woken_for, taken, put, waiting, closed}

-- what a proof unfolds to compute pipes
unfoldable on_literals : ◌≡◌ {A = ℕ} 0 0
unfolding no_pipes free_pipe
on_literals = refl

one : PipeMap
one = made no_pipes

two : PipeMap
two = made one

-- the lowest two numbers, then the next
first_numbers : made_numbers no_pipes ≡ (3, 4)
unfolding on_literals
first_numbers = refl

second_numbers : made_numbers one ≡ (5, 6)
unfolding on_literals one
second_numbers = refl

reads_and_writes : (kind_at 3 one ≡ Some Reading) × (kind_at 4 one ≡ Some Writing) × (kind_at 5 one ≡ None) × (kind_at 2 one ≡ None) × (kind_at (2 ^ 32 + 3) one ≡ None)
unfolding on_literals one
reads_and_writes = (refl, refl, refl, refl, refl)

-- a free number is taken again by the next pipe, which isn't the one that is half open
again : made_numbers (closed 3 two) ≡ (3, 7)
unfolding on_literals one two
again = refl

filled : PipeMap
filled = put 4 (1 ∷ 2 ∷ 3 ∷ []) one

eldest_bytes_first : held 3 (put 4 (4 ∷ []) (taken 3 2 filled)) ≡ 3 ∷ 4 ∷ []
unfolding on_literals one filled
eldest_bytes_first = refl

-- a read finds bytes, and then the end of them once no end writes
then_the_end : (readiness 3 8 filled ≡ Now 3) × (readiness 3 8 one ≡ Wait) × (readiness 3 8 (closed 4 filled) ≡ Now 3) × (readiness 3 8 (closed 4 one) ≡ Closed)
unfolding on_literals one filled
then_the_end = (refl, refl, refl, refl)

-- a write of 70,000 bytes is cut, and one to no reader is broken
writes : (readiness 4 70000 one ≡ Now 65536) × (readiness 4 1 (closed 3 one) ≡ Closed)
unfolding on_literals one
writes = (refl, refl)

-- those that wait are woken by what they wait for, the oldest first
waited : PipeMap
waited = waiting 3 7 (waiting 4 5 (waiting 3 2 one))

woken : (woken_for Reading 3 waited ≡ 2 ∷ 7 ∷ []) × (woken_for Writing 3 waited ≡ 5 ∷ []) × (woken_for Reading 3 (put 4 (9 ∷ []) waited) ≡ [])
unfolding on_literals one waited
woken = (refl, refl, refl)
