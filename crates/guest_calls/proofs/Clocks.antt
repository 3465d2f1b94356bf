-- What clock_gettime answers.
use Rattle.std.proofs.Common.{◌≡◌, ◌≤◌, ℕ, zero, suc, ◌==◌, Bool, true, false, not, ◌||◌, if◌then◌else◌, pos, refl, sym, ap, ◌∙◌, arith}
use Rattle.machines.specs.Guest.{Retirement}
use Rattle.guest_memory.specs.Memory.{is_writable}
use Rattle.guest_areas.specs.Answers.{bad_address}
use Rattle.guest_calls.specs.declared.times.Span.{Span}
use Rattle.guest_calls.specs.Times.{span_bytes, clock_at}
use Rattle.guest_calls.specs.Guest.{Guest, with_stored, memory_of}
use Rattle.guest_calls.specs.Calls
use Rattle.guest_calls.specs.Calls.{with_answer, unsupported, a0, a1}

is_clock : (n : ℕ) → n ≤ 1 → (n == 0 || n == 1) ≡ true
is_clock zero low = refl
is_clock (suc zero) low = refl
is_clock (suc (suc n)) low = absurd (omega arith)

past_both : (b c : Bool) (x y z : Retirement Guest) → b ≡ true → c ≡ true → z ≡ (if not b then x else if not c then y else z)
past_both true true x y z p q = refl
past_both true false x y z p q = absurd (let no : false ≡ true = q in cc)
past_both false c x y z p q = absurd (let no : false ≡ true = p in cc)

-- a clock's span is stored at an address that may be written
pub clock_read : (g after : Guest) (h v n address : ℕ) (span : Span) → n ≡ a0 g h → n ≤ 1 → address ≡ a1 g h → span ≡ clock_at v → is_writable (memory_of g) address 16 ≡ true → after ≡ with_stored address (span_bytes span) g
    → with_answer (pos 0) h after ≡ Calls.clock_gettime g h v
unfolding Calls.clock_gettime
clock_read g after h v n address span clock low there shown may stored =
    ap (with_answer (pos 0) h) stored
    ∙ ap (λ (s : Span). with_answer (pos 0) h (with_stored address (span_bytes s) g)) shown
    ∙ ap (λ (a : ℕ). with_answer (pos 0) h (with_stored a (span_bytes (clock_at v)) g)) there
    ∙ past_both (a0 g h == 0 || a0 g h == 1) (is_writable (memory_of g) (a1 g h) 16) (unsupported g h) (with_answer bad_address h g) (with_answer (pos 0) h (with_stored (a1 g h) (span_bytes (clock_at v)) g))
    (ap (λ (k : ℕ). k == 0 || k == 1) (sym clock) ∙ is_clock n low)
    (ap (λ (a : ℕ). is_writable (memory_of g) a 16) (sym there) ∙ may)
