-- No pipes.
use Rattle.std.proofs.Common.{ℕ, ◌≡◌, ◌≤◌, List, [], length, replicate, Option, None, sym, ap, subst, ◌∙◌}
use Rattle.std.specs.Prelude.{All}
use Rattle.std.proofs.lemmas.List.Elements.{All-replicate}
use Rattle.guest_pipes.specs.declared.ends.End.{End}
use Rattle.guest_pipes.specs.declared.waiters.PipeWaiter.{PipeWaiter}
use Rattle.guest_pipes.specs.Pipes.{PipeMap, no_pipes}
use Rattle.guest_pipes.specs.Kept.{IsSlot, AreApart, AreKept}

pub first_kept : (ends : List (Option End)) (bytes : List (List ℕ)) (ws : List PipeWaiter) (capacity : ℕ) → ends ≡ replicate 128 None → bytes ≡ replicate 64 [] → ws ≡ [] → 256 ≤ capacity → AreKept ends bytes ws capacity
first_kept ends bytes ws capacity none empty idle room = record {
  numbers = ap (λ (es : List (Option End)). length es) none;
  slots = subst (λ (es : List (Option End)). All IsSlot es) (sym none) (All-replicate IsSlot 128 None tt);
  pipes = ap (λ (bs : List (List ℕ)). length bs) empty;
  apart = subst AreApart (sym idle) tt;
  room = room;
}

pub first_pipes : (ends : List (Option End)) (bytes : List (List ℕ)) (ws : List PipeWaiter) → ends ≡ replicate 128 None → bytes ≡ replicate 64 [] → ws ≡ [] → ◌≡◌ {A = PipeMap} (record { ends = ends; bytes = bytes; waiters = ws }) no_pipes
unfolding no_pipes
first_pipes ends bytes ws none empty idle =
    ap (λ (es : List (Option End)). let p : PipeMap = record { ends = es; bytes = bytes; waiters = ws } in p) none
    ∙ ap (λ (bs : List (List ℕ)). let p : PipeMap = record { ends = replicate 128 None; bytes = bs; waiters = ws } in p) empty
    ∙ ap (λ (xs : List PipeWaiter). let p : PipeMap = record { ends = replicate 128 None; bytes = replicate 64 []; waiters = xs } in p) idle
