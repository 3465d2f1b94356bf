-- Quiet retirements, one after the other.
use Rattle.std.proofs.Common.{◌≡◌, ℕ, zero, suc, ◌+◌, subst, arith}
use Rattle.run_engine.specs.declared.choice.Setting.{Setting}
use Rattle.run_engine.specs.declared.engine.Engine.{Engine}
use Rattle.run_engine.specs.declared.engine.Event.{Event}
use Rattle.run_engine.specs.Far.{IsQuiet, AreQuiet, IsFarAdvance}

-- what holds at first, and after one more of them, holds after all
pub after_all : (setting : Setting) (Stays : ℕ → Engine → Type 0) → ((n : ℕ) (last new : Engine) → Stays n last → IsQuiet setting last new → Stays (suc n) new)
    → (n : ℕ) (engine new : Engine) → AreQuiet setting n engine new → Stays 0 engine → Stays n new
after_all setting Stays more zero engine new are first = subst (Stays 0) are first
after_all setting Stays more (suc n) engine new are first = more n are.0 new (after_all setting Stays more n engine are.0 are.1 first) are.2

-- some of them after others
pub quiet_then : (setting : Setting) (n m : ℕ) (a b c : Engine) → AreQuiet setting n a b → AreQuiet setting m b c → AreQuiet setting (m + n) a c
quiet_then setting n zero a b c first rest = subst (λ (k : ℕ). AreQuiet setting k a c) (let e : n ≡ 0 + n = omega arith in e) (subst (AreQuiet setting n a) rest first)
quiet_then setting n (suc m) a b c first rest =
    subst (λ (k : ℕ). AreQuiet setting k a c) (let e : suc (m + n) ≡ suc m + n = omega arith in e) (rest.0, quiet_then setting n m a b rest.0 first rest.1, rest.2)

pub far_then : (setting : Setting) (n : ℕ) (a b : Engine) (event : Event) (delay : ℕ) (new : Engine) → AreQuiet setting n a b → IsFarAdvance setting b event delay new → IsFarAdvance setting a event delay new
far_then setting n a b event delay new first far = (far.0, far.1 + n, quiet_then setting n far.1 a b far.0 first far.2, far.3)
