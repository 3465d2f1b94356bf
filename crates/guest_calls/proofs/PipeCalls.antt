-- The effect of a call on a pipe.
use Rattle.std.proofs.Common.{ℕ, ◌≡◌, ◌≤◌, Bool, true, false, not, if◌then◌else◌, List, [], ◌++◌, Some, pos, length, refl, ap, ◌∙◌}
use Rattle.machines.specs.declared.Fate.{Fate}
use Rattle.machines.specs.Guest.{Retirement}
use Rattle.guest_memory.specs.Memory.{is_writable}
use Rattle.guest_areas.specs.Answers.{bad_file, bad_address, too_many_files}
use Rattle.guest_pipes.specs.declared.ends.PipeEnd.TheVariants.{Reading, Writing}
use Rattle.guest_pipes.specs.declared.Ready.TheVariants.{Now}
use Rattle.guest_pipes.specs.Pipes.{PipeMap, kind_at, held, readiness, woken_for, closed, can_make, made, made_numbers}
use Rattle.guest_pipes.proofs.Readiness.{read_few, IsRoom, write_few}
use Rattle.guest_calls.specs.Guest.{Guest, memory_of, with_stored}
use Rattle.guest_calls.specs.Calls.{a0, a1, retirement, with_answer, with_answer_and, unsupported, is_stream, is_end, is_pipe_flags, number_bytes, with_pipes, woken_at_close, close, pipe2}

pub read_here : (g : Guest) (h number count n : ℕ) (p : PipeMap) → p ≡ g.pipes → number ≡ a0 g h → kind_at (a0 g h) g.pipes ≡ Some Reading → Now n ≡ readiness number count p → n ≤ length (held (a0 g h) g.pipes)
read_here g h number count n p view is reads now =
    read_few (a0 g h) count n g.pipes reads (now ∙ ap (λ (x : ℕ). readiness x count p) is ∙ ap (λ (x : PipeMap). readiness (a0 g h) count x) view)

pub write_here : (g : Guest) (h number count n : ℕ) (p : PipeMap) → p ≡ g.pipes → number ≡ a0 g h → kind_at (a0 g h) g.pipes ≡ Some Writing → Now n ≡ readiness number count p → IsRoom (a0 g h) count n g.pipes
write_here g h number count n p view is writes now =
    write_few (a0 g h) count n g.pipes writes (now ∙ ap (λ (x : ℕ). readiness x count p) is ∙ ap (λ (x : PipeMap). readiness (a0 g h) count x) view)

-- the last of a choice
else_is : {X : Type 0} (b : Bool) (x y : X) → b ≡ false → y ≡ (if b then x else y)
else_is true x y e = absurd (let never : true ≡ false = e in cc)
else_is false x y e = refl

close_is : (g : Guest) (h : ℕ) → is_stream (a0 g h) ≡ false → is_end (a0 g h) g ≡ true → with_answer_and (pos 0) h (woken_at_close g h) (with_pipes (closed (a0 g h) g.pipes) (woken_at_close g h) g) ≡ close g h
unfolding close
close_is g h stream open' =
    else_is (not (is_end (a0 g h) g)) (with_answer bad_file h g) (with_answer_and (pos 0) h (woken_at_close g h) (with_pipes (closed (a0 g h) g.pipes) (woken_at_close g h) g)) (ap not open')
    ∙ else_is (is_stream (a0 g h)) (unsupported g h) _ stream

pub close_done : (g after last : Guest) (h number : ℕ) (fate : Fate) (others : List ℕ) → is_stream (a0 g h) ≡ false → is_end (a0 g h) g ≡ true → number ≡ a0 g h → others ≡ woken_for Reading number g.pipes ++ woken_for Writing number g.pipes
    → after ≡ with_pipes (closed number g.pipes) (woken_for Reading number g.pipes ++ woken_for Writing number g.pipes) g → retirement last fate [] ≡ with_answer (pos 0) h after → retirement last fate others ≡ close g h
close_done g after last h number fate others stream open' is woken was answered =
    ap (λ (r : Retirement Guest). record r { others = others }) answered
    ∙ ap (λ (x : Guest). with_answer_and (pos 0) h others x) was
    ∙ ap (λ (hs : List ℕ). with_answer_and (pos 0) h hs (with_pipes (closed number g.pipes) (woken_for Reading number g.pipes ++ woken_for Writing number g.pipes) g)) woken
    ∙ ap (λ (n : ℕ). with_answer_and (pos 0) h (woken_for Reading n g.pipes ++ woken_for Writing n g.pipes) (with_pipes (closed n g.pipes) (woken_for Reading n g.pipes ++ woken_for Writing n g.pipes) g)) is
    ∙ close_is g h stream open'

pub pipe2_is : (g : Guest) (h : ℕ) → is_pipe_flags (a1 g h) ≡ true → is_writable (memory_of g) (a0 g h) 8 ≡ true → can_make g.pipes ≡ true → with_answer (pos 0) h (with_stored (a0 g h) (number_bytes (made_numbers g.pipes)) (record g { pipes = made g.pipes })) ≡ pipe2 g h
unfolding pipe2
pipe2_is g h flags writable can =
    else_is (not (can_make g.pipes)) (with_answer too_many_files h g) (with_answer (pos 0) h (with_stored (a0 g h) (number_bytes (made_numbers g.pipes)) (record g { pipes = made g.pipes }))) (ap not can)
    ∙ else_is (not (is_writable (memory_of g) (a0 g h) 8)) (with_answer bad_address h g) _ (ap not writable)
    ∙ else_is (not (is_pipe_flags (a1 g h))) (unsupported g h) _ (ap not flags)
