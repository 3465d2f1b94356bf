-- A hart is made at its earliest change.
use Rattle.std.proofs.Common.{◌≡◌, ℕ, ◌==◌, Bool, true, false, if◌then◌else◌, [], ◌∷◌, refl, ap, ◌∙◌, Option, Some, None, option_map, unwrap_or}
use Rattle.hart_states.specs.declared.change.Change.{Change}
use Rattle.hart_states.specs.Changes.{earliest, made_at, moment_or}
use Rattle.hart_states.specs.Laws.{EarliestIsMaking}

first : (o : Option Change) (c : Change) → moment_or (option_map (λ (x : Change). x.moment) o) c.moment ≡ Some (unwrap_or o c).moment
first None c = refl
first (Some b) c = refl

pub making : EarliestIsMaking
making h [] = refl
making h (c ∷ past) = by (h == c.hart.0) (making h past)
  where
    by : (b : Bool) → made_at h past ≡ option_map (λ (x : Change). x.moment) (earliest h past)
        → (if b then moment_or (made_at h past) c.moment else made_at h past) ≡ option_map (λ (x : Change). x.moment) (if b then Some (unwrap_or (earliest h past) c) else earliest h past)
    by true rest = ap (λ (o : Option ℕ). moment_or o c.moment) rest ∙ first (earliest h past) c
    by false rest = rest
