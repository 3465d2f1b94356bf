-- The chain that is shown of a run whose events hang together is sound.
use Rattle.std.proofs.Common.{◌≡◌, ℕ, zero, suc, ◌+◌, ◌-◌, ◌≤◌, ◌<◌, ◌++◌, ◌∙◌, List, [], ◌∷◌, length, Option, Some, None, inl, arith, refl, sym, ap, subst, slice_get}
use Rattle.std.proofs.lemmas.List.Sums.{sum_by_push}
use Rattle.std.proofs.lemmas.List.Elements.{All-from_get_or}
use Rattle.path_chains.specs.declared.event.Event.{Event}
use Rattle.path_chains.specs.Path.{event_at, no_event, last_of, ticks, weight, Follows, GoesOn, IsChain, IsTimely, IsDue, Sound, Linked, chain_to, chain_of}

-- the last number of a list, or the one ahead of it
abbrev pub end_of : ℕ → List ℕ → ℕ
end_of k [] = k
end_of k (x ∷ xs) = end_of x xs

module _ (events : List Event) where
  goes_longer : (k : ℕ) (xs : List ℕ) (i : ℕ) → i < length events → GoesOn events k xs → Follows (event_at events i) (end_of k xs) → GoesOn events k (xs ++ i ∷ [])
  goes_longer k [] i below goes follows = (below, (follows, tt))
  goes_longer k (x ∷ xs) i below goes follows = (goes.0, (goes.1.0, goes_longer x xs i below goes.1.1 follows))

end_longer : (k : ℕ) (xs : List ℕ) (i : ℕ) → end_of k (xs ++ i ∷ []) ≡ i
end_longer k [] i = refl
end_longer k (x ∷ xs) i = end_longer x xs i

-- a chain that ends with event i
record Comes (events : List Event) (i : ℕ) (list : List ℕ) : Type 0 where
  first : ℕ
  rest : List ℕ
  is : list ≡ first ∷ rest
  below : first < length events
  goes : GoesOn events first rest
  end : end_of first rest ≡ i
  weighs : weight events list ≡ (event_at events i).due

module _ (events : List Event) (linked : Linked events) where
  -- a `from` is a lower number
  pub from_lower_by : (i : ℕ) (from : Option ℕ) (p : ℕ) → IsDue events i from → from ≡ Some p → (p < i) × ((event_at events i).due ≡ (event_at events p).due + ticks (event_at events i))
  from_lower_by i None p due is = cc
  from_lower_by i (Some q) p due is = let same : q ≡ p = cc in subst (λ (r : ℕ). (r < i) × ((event_at events i).due ≡ (event_at events r).due + ticks (event_at events i))) same due

  pub from_lower : (i p : ℕ) → i < length events → (event_at events i).from ≡ Some p → (p < i) × ((event_at events i).due ≡ (event_at events p).due + ticks (event_at events i))
  from_lower i p below is = from_lower_by i (event_at events i).from p (linked.due i below) is

  alone_due : (i : ℕ) → i < length events → (event_at events i).from ≡ None → (event_at events i).due ≡ ticks (event_at events i)
  alone_due i below is = (subst (IsDue events i) is (linked.due i below)).0

  timely : (i : ℕ) → i < length events → IsTimely events i
  timely i below = record {
    from = λ p is. let lower = from_lower i p below is in record { lower = lower.0; later = omega (arith, lower.1) };
    before = linked.before i below;
    first = λ none _. omega (arith, alone_due i below none);
  }

  -- the chain to an event
  comes_by : (n i : ℕ) → i < length events → (from : Option ℕ) → (event_at events i).from ≡ from → ((p : ℕ) → from ≡ Some p → Comes events p (chain_to events (Some p) n))
      → Comes events i (chain_to events from n ++ i ∷ [])
  comes_by n i below None is earlier = record {
    first = i;
    rest = [];
    is = refl;
    below = below;
    goes = tt;
    end = refl;
    weighs = omega (arith, alone_due i below is);
  }
  comes_by n i below (Some p) is earlier =
      let to = earlier p refl in
      record {
        first = to.first;
        rest = to.rest ++ i ∷ [];
        is = ap (λ (xs : List ℕ). xs ++ i ∷ []) to.is;
        below = to.below;
        goes = goes_longer events to.first to.rest i below to.goes (inl (is ∙ ap (λ (q : ℕ). Some q) (sym to.end)));
        end = end_longer to.first to.rest i;
        weighs = omega (arith, sum_by_push (λ k. ticks (event_at events k)) (chain_to events (Some p) n) i, to.weighs, (from_lower i p below is).1);
      }

  comes : (n i : ℕ) → i < n → i < length events → Comes events i (chain_to events (Some i) n)
  comes zero i lt below = absurd (omega arith)
  comes (suc n) i lt below =
      comes_by n i below (event_at events i).from refl
      (λ p is. let lower = (from_lower i p below is).0 in comes n p (omega arith) (omega arith))

  -- it needs no more steps than its number
  same_by : (n m i : ℕ) (from : Option ℕ) → ((p : ℕ) → from ≡ Some p → chain_to events (Some p) n ≡ chain_to events (Some p) m) → chain_to events from n ++ i ∷ [] ≡ chain_to events from m ++ i ∷ []
  same_by n m i None same = refl
  same_by n m i (Some p) same = ap (λ (xs : List ℕ). xs ++ i ∷ []) (same p refl)

  pub same_chain : (n m i : ℕ) → i < n → i < m → i < length events → chain_to events (Some i) n ≡ chain_to events (Some i) m
  same_chain zero m i lt lt2 below = absurd (omega arith)
  same_chain (suc n) zero i lt lt2 below = absurd (omega arith)
  same_chain (suc n) (suc m) i lt lt2 below =
      same_by n m i (event_at events i).from
      (λ p is. let lower = (from_lower i p below is).0 in same_chain n m p (omega arith) (omega arith) (omega arith))

  last_below : last_of events < length events
  last_below = omega (arith, linked.some)

  -- the chain from the last event on
  pub begins : chain_of events ≡ chain_to events (event_at events (last_of events)).from (last_of events) ++ last_of events ∷ []
  unfolding chain_of
  begins = same_chain (length events) (suc (last_of events)) (last_of events) last_below (omega arith) last_below

  -- and one event further back
  pub goes_back : (i p : ℕ) → i < length events → (event_at events i).from ≡ Some p → chain_to events (event_at events i).from i ≡ chain_to events (event_at events p).from p ++ p ∷ []
  goes_back i p below is =
      let lower = (from_lower i p below is).0 in
      ap (λ (from : Option ℕ). chain_to events from i) is
      ∙ same_chain i (suc p) p lower (omega arith) (omega arith)

pub last_at : (k : ℕ) (xs : List ℕ) → slice_get (k ∷ xs) (length xs) ≡ Some (end_of k xs)
last_at k [] = refl
last_at k (x ∷ xs) = last_at x xs

ends_with : (list : List ℕ) (k : ℕ) (xs : List ℕ) (i : ℕ) → list ≡ k ∷ xs → end_of k xs ≡ i → slice_get list (length list - 1) ≡ Some i
ends_with list k xs i is end =
    subst (λ (l : List ℕ). slice_get l (length l - 1) ≡ Some i) (sym is)
    (let e : length (k ∷ xs) - 1 ≡ length xs = omega arith in rw e (last_at k xs ∙ ap (λ (q : ℕ). Some q) end))

pub sound_of : (events : List Event) → Linked events → Sound events (chain_of events)
unfolding chain_of
sound_of events linked =
    let last = comes events linked (length events) (last_of events) (last_below events linked) (last_below events linked) in
    record {
      chain = subst (IsChain events) (sym last.is) (last.below, last.goes);
      ends = ends_with _ last.first last.rest (last_of events) last.is last.end;
      timely = timely events linked;
      latest = All-from_get_or (λ (e : Event). e.due ≤ (event_at events (last_of events)).due) events no_event (λ i below. linked.rising i (last_of events) (omega arith) (last_below events linked));
      whole = last.weighs;
    }
