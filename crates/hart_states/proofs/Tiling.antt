-- The intervals of a hart tile its life.
use Rattle.std.proofs.Common.{◌≡◌, ℕ, ◌≤◌, ◌==◌, Bool, true, false, if◌then◌else◌, List, [], ◌∷◌, ◌++◌, refl, sym, ap, ◌∙◌, subst, Option, Some, None, filter, option_to_list, nat_lt, ltb-true, ltb-false, arith, append-nil}
use Rattle.std.proofs.lemmas.Bool.{eqb-true}
use Rattle.hart_states.specs.declared.change.Change.{Change}
use Rattle.hart_states.specs.declared.change.Interval.{Interval}
use Rattle.hart_states.specs.Changes.{InOrder, Tile, between, ended_by, intervals, intervals_of, is_gone, latest, made_at, moment_or}
use Rattle.hart_states.specs.Laws.{IntervalsTile}

filter_append : (p : Interval → Bool) (xs ys : List Interval) → filter p (xs ++ ys) ≡ filter p xs ++ filter p ys
filter_append p [] ys = refl
filter_append p (x ∷ xs) ys = by (p x) (filter_append p xs ys)
  where
    by : (b : Bool) → filter p (xs ++ ys) ≡ filter p xs ++ filter p ys → (if b then x ∷ filter p (xs ++ ys) else filter p (xs ++ ys)) ≡ (if b then x ∷ filter p xs else filter p xs) ++ filter p ys
    by true rest = ap (λ zs. x ∷ zs) rest
    by false rest = rest

tile_append : (u v w : ℕ) (xs ys : List Interval) → Tile u v xs → Tile v w ys → Tile u w (xs ++ ys)
tile_append u v w [] ys first second = subst (λ n. Tile n w ys) (sym first) second
tile_append u v w (x ∷ xs) ys first second = (first.0, (first.1.0, tile_append x.to.moment v w xs ys first.1.1 second))

-- the latest change of a hart is a change of it
pub latest_of : (h : ℕ) (past : List Change) (b : Change) → latest h past ≡ Some b → h ≡ b.hart.0
latest_of h [] b is = absurd (let no : ◌≡◌ {A = Option Change} None (Some b) = is in cc)
latest_of h (c ∷ past) b is = by (h == c.hart.0) refl is (λ some. latest_of h past b some)
  where
    by : (t : Bool) → (h == c.hart.0) ≡ t → (if t then Some c else latest h past) ≡ Some b → (latest h past ≡ Some b → h ≡ b.hart.0) → h ≡ b.hart.0
    by true e some rest = let mine : h ≡ c.hart.0 = eqb-true h c.hart.0 e in let same : c ≡ b = cc in mine ∙ ap (λ (x : Change). x.hart.0) same
    by false e some rest = rest some

-- it's no later than the run
pub latest_by : (h now : ℕ) (past : List Change) (b : Change) → InOrder now past → latest h past ≡ Some b → b.moment ≤ now
latest_by h now [] b order is = absurd (let no : ◌≡◌ {A = Option Change} None (Some b) = is in cc)
latest_by h now (c ∷ past) b order is = by (h == c.hart.0) is (λ some. latest_by h c.moment past b order.1 some)
  where
    by : (t : Bool) → (if t then Some c else latest h past) ≡ Some b → (latest h past ≡ Some b → b.moment ≤ c.moment) → b.moment ≤ now
    by true some rest = let same : c ≡ b = cc in subst (λ (x : Change). x.moment ≤ now) same order.0
    by false some rest = let before = rest some in let later = order.0 in omega (arith, before, later)

-- a hart that has no change was not made
pub not_made : (h : ℕ) (past : List Change) → latest h past ≡ None → made_at h past ≡ None
not_made h [] is = refl
not_made h (c ∷ past) is = by (h == c.hart.0) is (λ none. not_made h past none)
  where
    by : (t : Bool) → (if t then Some c else latest h past) ≡ None → (latest h past ≡ None → made_at h past ≡ None) → (if t then moment_or (made_at h past) c.moment else made_at h past) ≡ None
    by true some rest = absurd (let no : ◌≡◌ {A = Option Change} (Some c) None = some in cc)
    by false some rest = rest some

-- and one that has one was
was_made : (h : ℕ) (past : List Change) (b : Change) → latest h past ≡ Some b → made_at h past ≡ None → ⊥
was_made h [] b is none = let no : ◌≡◌ {A = Option Change} None (Some b) = is in cc
was_made h (c ∷ past) b is none = by (h == c.hart.0) is none (λ some e. was_made h past b some e)
  where
    some_is : (o : Option ℕ) → moment_or o c.moment ≡ None → ⊥
    some_is None e = let no : ◌≡◌ {A = Option ℕ} (Some c.moment) None = e in cc
    some_is (Some u) e = let no : ◌≡◌ {A = Option ℕ} (Some u) None = e in cc

    by : (t : Bool) → (if t then Some c else latest h past) ≡ Some b → (if t then moment_or (made_at h past) c.moment else made_at h past) ≡ None → (latest h past ≡ Some b → made_at h past ≡ None → ⊥) → ⊥
    by true some e rest = some_is (made_at h past) e
    by false some e rest = rest some e

-- what a change of a hart ends takes it from its latest change to this one
between_tiles : (b c : Change) → b.moment ≤ c.moment → is_gone b.to ≡ false → Tile b.moment c.moment (option_to_list (between b c))
between_tiles b c later living = rw living (by (nat_lt b.moment c.moment) refl)
  where
    by : (t : Bool) → nat_lt b.moment c.moment ≡ t → Tile b.moment c.moment (option_to_list (if t then Some (record { from = b; to = c }) else None))
    by true e = (refl, (ltb-true _ _ e, refl))
    by false e = let more : c.moment ≤ b.moment = ltb-false _ _ e in omega (arith, more, later)

mine_is : (h : ℕ) (b c : Change) → (h == b.hart.0) ≡ true → filter (λ (i : Interval). h == i.from.hart.0) (option_to_list (between b c)) ≡ option_to_list (between b c)
mine_is h b c mine = by (is_gone b.to) (nat_lt b.moment c.moment)
  where
    by : (g t : Bool) → filter (λ (i : Interval). h == i.from.hart.0) (option_to_list (if g then None else if t then Some (record { from = b; to = c }) else None)) ≡ option_to_list (if g then None else if t then Some (record { from = b; to = c }) else None)
    by true t = refl
    by false true = rw mine refl
    by false false = refl

other_is : (h : ℕ) (b c : Change) → (h == b.hart.0) ≡ false → filter (λ (i : Interval). h == i.from.hart.0) (option_to_list (between b c)) ≡ []
other_is h b c other = by (is_gone b.to) (nat_lt b.moment c.moment)
  where
    by : (g t : Bool) → filter (λ (i : Interval). h == i.from.hart.0) (option_to_list (if g then None else if t then Some (record { from = b; to = c }) else None)) ≡ []
    by true t = refl
    by false true = rw other refl
    by false false = refl

abbrev mine : ℕ → Option Change → Change → List Interval
mine h o c = filter (λ (i : Interval). h == i.from.hart.0) (option_to_list (ended_by o c))

split : (h : ℕ) (c : Change) (past : List Change) → intervals_of h (c ∷ past) ≡ intervals_of h past ++ mine h (latest c.hart.0 past) c
split h c past = filter_append (λ (i : Interval). h == i.from.hart.0) (intervals past) (option_to_list (ended_by (latest c.hart.0 past) c))

-- a change of another hart ends nothing of this one
not_mine : (h : ℕ) (c : Change) (past : List Change) (o : Option Change) → latest c.hart.0 past ≡ o → (h == c.hart.0) ≡ false → mine h o c ≡ []
not_mine h c past None is other = refl
not_mine h c past (Some b) is other = other_is h b c (subst (λ n. (h == n) ≡ false) (latest_of c.hart.0 past b is) other)

none_of : (h : ℕ) (past : List Change) → latest h past ≡ None → intervals_of h past ≡ []
none_of h [] is = refl
none_of h (c ∷ past) is = by (h == c.hart.0) refl is (λ none. none_of h past none)
  where
    by : (t : Bool) → (h == c.hart.0) ≡ t → (if t then Some c else latest h past) ≡ None → (latest h past ≡ None → intervals_of h past ≡ []) → intervals_of h (c ∷ past) ≡ []
    by true e some rest = absurd (let no : ◌≡◌ {A = Option Change} (Some c) None = some in cc)
    by false e some rest = split h c past ∙ ap (λ is. is ++ mine h (latest c.hart.0 past) c) (rest some) ∙ not_mine h c past (latest c.hart.0 past) refl e

pub tile : IntervalsTile
tile h now made [] d order stay is some = absurd (let no : ◌≡◌ {A = Option Change} None (Some d) = some in cc)
tile h now made (c ∷ past) d order stay is some = by (h == c.hart.0) refl is some (λ b made_is some. tile h c.moment made past b order.1 stay.1 made_is some)
  where
    made_before : (o : Option ℕ) → made_at h past ≡ o → moment_or (made_at h past) c.moment ≡ Some made → (b : Change) → latest h past ≡ Some b → made_at h past ≡ Some made
    made_before None none e b some = absurd (was_made h past b some none)
    made_before (Some u) there e b some = there ∙ ap (λ o. moment_or o c.moment) (sym there) ∙ e

    own : ((b : Change) → made_at h past ≡ Some made → latest h past ≡ Some b → Tile made b.moment (intervals_of h past)) → (o : Option Change) → latest c.hart.0 past ≡ o → (h == c.hart.0) ≡ true → h ≡ c.hart.0 → moment_or (made_at h past) c.moment ≡ Some made
        → Tile made c.moment (intervals_of h past ++ mine h o c)
    own rest None none e same made_is =
        let absent : latest h past ≡ None = subst (λ n. latest n past ≡ None) (sym same) none in
        let not = not_made h past absent in
        let first : c.moment ≡ made = (let both : Some c.moment ≡ Some made = ap (λ o. moment_or o c.moment) (sym not) ∙ made_is in cc) in
        subst (λ is. Tile made c.moment (is ++ [])) (sym (none_of h past absent)) (sym first)
    own rest (Some b) there e same made_is =
        let here : latest h past ≡ Some b = subst (λ n. latest n past ≡ Some b) (sym same) there in
        let bmine : (h == b.hart.0) ≡ true = subst (λ n. (h == n) ≡ true) (same ∙ latest_of c.hart.0 past b there ∙ refl) (let self : (h == h) ≡ true = cc in self) in
        tile_append made b.moment c.moment (intervals_of h past) (mine h (Some b) c)
        (rest b (made_before (made_at h past) refl made_is b here) here)
        (subst (Tile b.moment c.moment) (sym (mine_is h b c bmine)) (between_tiles b c (latest_by h c.moment past b order.1 here) (stay.0 b there)))

    by : (t : Bool) → (h == c.hart.0) ≡ t → (if t then moment_or (made_at h past) c.moment else made_at h past) ≡ Some made → (if t then Some c else latest h past) ≡ Some d → ((b : Change) → made_at h past ≡ Some made → latest h past ≡ Some b → Tile made b.moment (intervals_of h past))
        → Tile made d.moment (intervals_of h (c ∷ past))
    by true e made_is latest_is rest =
        let mineh : h ≡ c.hart.0 = eqb-true h c.hart.0 e in
        let same : c ≡ d = cc in
        subst (λ (x : Change). Tile made x.moment (intervals_of h (c ∷ past))) same
        (subst (Tile made c.moment) (sym (split h c past)) (own rest (latest c.hart.0 past) refl e mineh made_is))
    by false e made_is latest_is rest =
        subst (Tile made d.moment) (sym (split h c past ∙ ap (λ os. intervals_of h past ++ os) (not_mine h c past (latest c.hart.0 past) refl e) ∙ append-nil (intervals_of h past)))
        (rest d made_is latest_is)
