-- What a buffer has done when it was full.
use Rattle.std.proofs.Common.{◌≡◌, ℕ, List, [], Option, sym, subst, refl}
use Rattle.coz_files.specs.Puts.{Puts}
use Rattle.coz_files.specs.Gathered.{Rest, rest_at, Gathers, Ends}
use Rattle.coz_files.proofs.GatheredLemmas.{gathers_then, gathers_stop, gathers_put, gathers_past, ends_put}
use Rattle.coz_files.specs.declared.outside.PutAnswer.{PutAnswer}
use Rattle.coz_files.specs.declared.outside.PutAnswer.TheVariants.{Done, Failed}

full_put : {S : Type 0} {holds : S → Option (List ℕ)} {faults : S → ℕ} {old new : S} (so_far answer : PutAnswer) (items given : List ℕ) (state : Rest) → (so_far ≡ Failed → ⊥) → rest_at so_far items ≡ state → given ≡ items → Puts holds faults old new answer given → Gathers holds faults old new state (rest_at answer []) []
full_put Failed answer items given state never was same put = absurd (never refl)
full_put {holds = holds} {faults = faults} {old = old} {new = new} Done answer items given state never was same put =
    subst (λ (r : Rest). Gathers holds faults old new r (rest_at answer []) []) was (gathers_put answer (subst (Puts holds faults old new answer) same put))

-- the put of what was gathered failed
pub failed_there : {S : Type 0} {holds : S → Option (List ℕ)} {faults : S → ℕ} {old new : S} (so_far answer : PutAnswer) (items given left bytes : List ℕ) (state : Rest) → (so_far ≡ Failed → ⊥) → rest_at so_far items ≡ state → given ≡ items → answer ≡ Failed → Puts holds faults old new answer given → Gathers holds faults old new state (rest_at answer left) bytes
failed_there so_far Done items given left bytes state never was same is put = let no : ⊥ = cc in absurd no
failed_there {new = new} so_far Failed items given left bytes state never was same is put =
    gathers_then (full_put so_far Failed items given state never was same put) (gathers_stop new bytes)

-- what was gathered is put, and then the bytes
pub past_there : {S : Type 0} {holds : S → Option (List ℕ)} {faults : S → ℕ} {old mid new : S} (so_far first answer : PutAnswer) (items given left bytes : List ℕ) (state : Rest) → (so_far ≡ Failed → ⊥) → rest_at so_far items ≡ state → given ≡ items → (first ≡ Failed → ⊥) → Puts holds faults old mid first given → left ≡ [] → Puts holds faults mid new answer bytes → Gathers holds faults old new state (rest_at answer left) bytes
past_there so_far Failed answer items given left bytes state never was same some first_put empty put = absurd (some refl)
past_there {holds = holds} {faults = faults} {old = old} {new = new} so_far Done answer items given left bytes state never was same some first_put empty put =
    subst (λ (l : List ℕ). Gathers holds faults old new state (rest_at answer l) bytes) (sym empty) (gathers_then (full_put so_far Done items given state never was same first_put) (gathers_past answer put))

pub ends_there : {S : Type 0} {holds : S → Option (List ℕ)} {faults : S → ℕ} {old new : S} (so_far answer : PutAnswer) (items given : List ℕ) (state : Rest) → so_far ≡ Done → rest_at so_far items ≡ state → given ≡ items → Puts holds faults old new answer given → Ends holds faults old new state answer
ends_there Failed answer items given state is was same put = let no : ⊥ = cc in absurd no
ends_there {holds = holds} {faults = faults} {old = old} {new = new} Done answer items given state is was same put =
    subst (λ (r : Rest). Ends holds faults old new r answer) was (ends_put (subst (Puts holds faults old new answer) same put))
