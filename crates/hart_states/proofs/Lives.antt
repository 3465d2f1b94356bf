-- The ticks of a hart sum to its life.
use Rattle.std.proofs.Common.{◌≡◌, ℕ, ◌+◌, ◌-◌, ◌≤◌, ◌==◌, Bool, true, false, if◌then◌else◌, List, [], ◌∷◌, refl, sym, ap, ◌∙◌, subst, Option, Some, None, arith}
use Rattle.std.proofs.lemmas.Bool.{eqb-true}
use Rattle.hart_states.specs.declared.change.Activity.{Activity}
use Rattle.hart_states.specs.declared.change.Activity.TheVariants.{Running, Waiting, Sleeping, Ready, Gone}
use Rattle.hart_states.specs.declared.change.Change.{Change}
use Rattle.hart_states.specs.Changes.{InOrder, StayGone, is_gone, is_same, latest, made_at, moment_or, ticks_in}
use Rattle.hart_states.specs.Laws.{TicksAreLives, TicksAreWithin, end_of, lived}

-- ---- within

since : (b : Bool) (v now total : ℕ) → v ≤ now → total ≤ v → total + (if b then now - v else 0) ≤ now
since true v now total later less = omega (arith, later, less)
since false v now total later less = omega (arith, later, less)

pub later_order : (v now : ℕ) (past : List Change) → v ≤ now → InOrder v past → InOrder now past
later_order v now [] later order = tt
later_order v now (c ∷ past) later order = (let before = order.0 in omega (arith, before, later), order.1)

pub within : TicksAreWithin
within a h now [] order = omega arith
within a h now (c ∷ past) order = by (h == c.hart.0) (within a h c.moment past order.1) (within a h now past (later_order c.moment now past order.0 order.1))
  where
    by : (b : Bool) → ticks_in a h c.moment past ≤ c.moment → ticks_in a h now past ≤ now
        → (if b then ticks_in a h c.moment past + (if is_same a c.to then now - c.moment else 0) else ticks_in a h now past) ≤ now
    by true before other = since (is_same a c.to) c.moment now (ticks_in a h c.moment past) order.0 before
    by false before other = other

-- ---- all five

abbrev all_five : ℕ → ℕ → List Change → ℕ
all_five h now past = lived h now past + ticks_in Gone h now past

-- since a change the hart does one thing
one_more : (to : Activity) (d r w s y g : ℕ)
    → (r + (if is_same Running to then d else 0)) + (w + (if is_same Waiting to then d else 0)) + (s + (if is_same Sleeping to then d else 0)) + (y + (if is_same Ready to then d else 0)) + (g + (if is_same Gone to then d else 0))
    ≡ r + w + s + y + g + d
one_more Running d r w s y g = omega arith
one_more Waiting d r w s y g = omega arith
one_more Sleeping d r w s y g = omega arith
one_more Ready d r w s y g = omega arith
one_more Gone d r w s y g = omega arith

-- one that was not made has done nothing
none_made : (h : ℕ) (past : List Change) → made_at h past ≡ None → (now : ℕ) (a : Activity) → ticks_in a h now past ≡ 0
none_made h [] none now a = refl
none_made h (c ∷ past) none now a = by (h == c.hart.0) none (λ e. none_made h past e now a)
  where
    some : (o : Option ℕ) → moment_or o c.moment ≡ None → ⊥
    some None e = let no : ◌≡◌ {A = Option ℕ} (Some c.moment) None = e in cc
    some (Some u) e = let no : ◌≡◌ {A = Option ℕ} (Some u) None = e in cc

    by : (b : Bool) → (if b then moment_or (made_at h past) c.moment else made_at h past) ≡ None → (made_at h past ≡ None → ticks_in a h now past ≡ 0)
        → (if b then ticks_in a h c.moment past + (if is_same a c.to then now - c.moment else 0) else ticks_in a h now past) ≡ 0
    by true e rest = absurd (some (made_at h past) e)
    by false e rest = rest e

all : (h now made : ℕ) (past : List Change) → InOrder now past → made_at h past ≡ Some made → made + all_five h now past ≡ now
all h now made [] order is = absurd (let no : ◌≡◌ {A = Option ℕ} None (Some made) = is in cc)
all h now made (c ∷ past) order is = by (h == c.hart.0) is (λ e. all h c.moment made past order.1 e) (λ e. all h now made past (later_order c.moment now past order.0 order.1) e)
  where
    mine : (b : Bool) (a : Activity) → ℕ
    mine b a = if b then ticks_in a h c.moment past + (if is_same a c.to then now - c.moment else 0) else ticks_in a h now past

    own : (made_at h past ≡ Some made → made + all_five h c.moment past ≡ c.moment) → (o : Option ℕ) → made_at h past ≡ o → moment_or o c.moment ≡ Some made → made + all_five h c.moment past ≡ c.moment
    own rest None none e =
        let same : c.moment ≡ made = cc in
        let r = none_made h past none c.moment Running in
        let w = none_made h past none c.moment Waiting in
        let s = none_made h past none c.moment Sleeping in
        let y = none_made h past none c.moment Ready in
        let g = none_made h past none c.moment Gone in
        omega (arith, same, r, w, s, y, g)
    own rest (Some u) some e = let same : u ≡ made = cc in rest (some ∙ ap (λ n. Some n) same)

    by : (b : Bool) → (if b then moment_or (made_at h past) c.moment else made_at h past) ≡ Some made
        → (made_at h past ≡ Some made → made + all_five h c.moment past ≡ c.moment) → (made_at h past ≡ Some made → made + all_five h now past ≡ now)
        → made + (mine b Running + mine b Waiting + mine b Sleeping + mine b Ready + mine b Gone) ≡ now
    by true e rest other =
        let before = own rest (made_at h past) refl e in
        let more = one_more c.to (now - c.moment) (ticks_in Running h c.moment past) (ticks_in Waiting h c.moment past) (ticks_in Sleeping h c.moment past) (ticks_in Ready h c.moment past) (ticks_in Gone h c.moment past) in
        let later = order.0 in
        omega (arith, before, more, later)
    by false e rest other = other e

-- ---- a life

-- of a hart whose changes before its latest were to no end
not_gone : (h now : ℕ) (past : List Change) → ((b : Change) → latest h past ≡ Some b → is_gone b.to ≡ false) → StayGone past → ticks_in Gone h now past ≡ 0
not_gone h now [] lives stay = refl
not_gone h now (c ∷ past) lives stay = by (h == c.hart.0) refl (λ living. not_gone h c.moment past living stay.1) (λ living. not_gone h now past living stay.1)
  where
    same_of : (a : Activity) → is_gone a ≡ false → is_same Gone a ≡ false
    same_of Running e = refl
    same_of Waiting e = refl
    same_of Sleeping e = refl
    same_of Ready e = refl
    same_of Gone e = absurd (let no : true ≡ false = e in cc)

    by : (b : Bool) → (h == c.hart.0) ≡ b → (((b : Change) → latest h past ≡ Some b → is_gone b.to ≡ false) → ticks_in Gone h c.moment past ≡ 0)
        → (((b : Change) → latest h past ≡ Some b → is_gone b.to ≡ false) → ticks_in Gone h now past ≡ 0)
        → (if b then ticks_in Gone h c.moment past + (if is_same Gone c.to then now - c.moment else 0) else ticks_in Gone h now past) ≡ 0
    by true is rest other =
        let same : h ≡ c.hart.0 = eqb-true h c.hart.0 is in
        let living : is_gone c.to ≡ false = lives c (ap (λ b. if b then Some c else latest h past) is) in
        let none = rest (λ b some. stay.0 b (subst (λ n. latest n past ≡ Some b) same some)) in
        rw (same_of c.to living) omega (arith, none)
    by false is rest other = other (λ b some. lives b (ap (λ t. if t then Some c else latest h past) is ∙ some))

gone_is : (h now : ℕ) (past : List Change) (d : Change) → latest h past ≡ Some d → is_gone d.to ≡ true → InOrder now past → StayGone past
    → (ticks_in Gone h now past + d.moment ≡ now)
gone_is h now [] d is gone order stay = absurd (let no : ◌≡◌ {A = Option Change} None (Some d) = is in cc)
gone_is h now (c ∷ past) d is gone order stay = by (h == c.hart.0) refl is (λ some. gone_is h now past d some gone (later_order c.moment now past order.0 order.1) stay.1)
  where
    same_of : (a : Activity) → is_gone a ≡ true → is_same Gone a ≡ true
    same_of Running e = absurd (let no : false ≡ true = e in cc)
    same_of Waiting e = absurd (let no : false ≡ true = e in cc)
    same_of Sleeping e = absurd (let no : false ≡ true = e in cc)
    same_of Ready e = absurd (let no : false ≡ true = e in cc)
    same_of Gone e = refl

    by : (b : Bool) → (h == c.hart.0) ≡ b → (if b then Some c else latest h past) ≡ Some d
        → (latest h past ≡ Some d → ticks_in Gone h now past + d.moment ≡ now)
        → (if b then ticks_in Gone h c.moment past + (if is_same Gone c.to then now - c.moment else 0) else ticks_in Gone h now past) + d.moment ≡ now
    by true e some rest =
        let mine : h ≡ c.hart.0 = eqb-true h c.hart.0 e in
        let same : c ≡ d = cc in
        let moment : c.moment ≡ d.moment = ap (λ (x : Change). x.moment) same in
        let none = not_gone h c.moment past (λ b some. stay.0 b (subst (λ n. latest n past ≡ Some b) mine some)) stay.1 in
        let later = order.0 in
        rw (same_of c.to (ap (λ (x : Change). is_gone x.to) same ∙ gone)) omega (arith, none, moment, later)
    by false e some rest = rest some

end_by : (b : Bool) (made lives gone v now : ℕ) → made + (lives + gone) ≡ now → (b ≡ true → gone + v ≡ now) → (b ≡ false → gone ≡ 0) → made + lives ≡ (if b then v else now)
end_by true made lives gone v now all is none = let left = is refl in omega (arith, all, left)
end_by false made lives gone v now all is none = let left = none refl in omega (arith, all, left)

living : (h now made : ℕ) (past : List Change) (c : Change) → InOrder now past → StayGone past → made_at h past ≡ Some made → latest h past ≡ Some c → made + lived h now past ≡ end_of c now
living h now made past c order stay is some =
    end_by (is_gone c.to) made (lived h now past) (ticks_in Gone h now past) c.moment now (all h now made past order is)
    (λ gone. gone_is h now past c some gone order stay)
    (λ goes. not_gone h now past (λ b other. let same : c ≡ b = (let both : Some c ≡ Some b = sym some ∙ other in cc) in ap (λ (x : Change). is_gone x.to) (sym same) ∙ goes) stay)

pub lives : TicksAreLives
lives = record { all = all; living = living }
