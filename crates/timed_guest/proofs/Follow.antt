-- A run on a machine is that of the guest with the machine's costs, with notes, on cores; and if the
-- machine keeps nothing, that of the guest with its costs.
use Rattle.std.proofs.Common.{◌≡◌, ℕ, zero, suc, ◌*◌, ◌≤◌, ◌==◌, Bool, true, false, not, ◌&&◌, ◌||◌, nat_lt, if◌then◌else◌, List, [], ◌∷◌, get_or, map, Option, Some, None, option_map, unwrap_or, refl, sym, ap, ◌∙◌}
use Rattle.std.proofs.lemmas.Bool.{eqb-true}
use Rattle.line_index.specs.Index.{Index, position_at}
use Rattle.machines.specs.Guest.{Experiment, IsLawful}
use Rattle.machines.specs.Places.{change, change_each}
use Rattle.guest_calls.specs.Guest as guests
use Rattle.guest_calls.specs.Retire as own
use Rattle.guest_calls.specs.Orderly as own_order
use Rattle.timing_laws.specs.Following.{Follows, retirement_through}
use Rattle.timing_laws.specs.Laws.{AreAlike}
use Rattle.timing_laws.specs.Noted.{Note, Noted, first_note, note_of, noted, made, noting, notes_after, noted_guest, is_doubled, is_charged}
use Rattle.timing_laws.specs.Cores.{Cores, IsInLine, on_cores}
use Rattle.timing_laws.proofs.Usual.{timed_lawful}
use Rattle.timing_laws.proofs.Follows.{delayed_follows, delayed_ends, record_follows}
use Rattle.timing_laws.proofs.FollowsShort.{shortened_follows, shortened_ends, net_record_follows}
use Rattle.timing_model.specs.declared.costs.Costs.{Costs}
use Rattle.timing_model.specs.declared.timing.Timing.{Timing}
use Rattle.timing_model.specs.Timing.{charges, cycles_in}
use Rattle.timing_steps.specs.State.{keeps, number_of, first_state}
use Rattle.timed_guest.specs.Guest.{Timed, first_guest}
use Rattle.timed_guest.specs.Retire.{retire, retirement, line_id, has_selected}
use Rattle.timed_guest.specs.Runs.{Run, run_of, run_on, with_costs, noting_of, slicing_of, unlined, notes_kept, on_timing}
use Rattle.timed_guest.proofs.Law.{own_lawful, own_fresh}
use Rattle.timed_guest.proofs.Alone.{single_cycles, uncharged}
use Rattle.timed_guest.proofs.Steps.{retires_kept, retires_plain, wakes_kept, wakes_plain, out_of_line}

alike : {G H : Type 0} (x : Experiment G) (y : Experiment H) (f : G → H) (Good Kept : G → Type 0) → Follows x y f Good Kept → IsLawful x Good → AreAlike x y f
alike x y f Good Kept follows law = record {
  delayed_run = delayed_follows x y f Good Kept follows law;
  shortened_run = shortened_follows x y f Good Kept follows law;
  delayed_ends = delayed_ends x y f Good Kept follows law;
  shortened_ends = shortened_ends x y f Good Kept follows law;
  record_is = record_follows x y f Good Kept follows law;
  net_is = net_record_follows x y f Good Kept follows law;
}

-- the rules of a guest do not speak of costs
pub costed_lawful : (line : ℕ → Option ℕ) (r : Run) → r.speedup ≤ 100 → (costs : Costs) → IsLawful (with_costs costs (run_of line r)) own_order.IsOrderly
costed_lawful line r small costs =
    let law = own_lawful line r small in
    record {
      first_good = law.first_good;
      first_running = law.first_running;
      first_awake = law.first_awake;
      stays_good = law.stays_good;
      apart = law.apart;
      running = law.running;
      sleeps_later = law.sleeps_later;
      sleeps_one = law.sleeps_one;
      wakes_good = law.wakes_good;
      wakes = law.wakes;
      wakes_one = law.wakes_one;
      speedup_in_range = law.speedup_in_range;
    }

-- notes without their lines
abbrev bare : Option Note → Option Note
bare note = option_map unlined note

get_bare : (notes : List (Option Note)) (h : ℕ) → get_or (map bare notes) h None ≡ bare (get_or notes h None)
get_bare [] h = refl
get_bare (n ∷ ns) zero = refl
get_bare (n ∷ ns) (suc h) = get_bare ns h

bare_or : (o : Option Note) → unwrap_or (bare o) first_note ≡ unlined (unwrap_or o first_note)
bare_or None = refl
bare_or (Some note) = refl

note_bare : (notes : List (Option Note)) (h : ℕ) → note_of (map bare notes) h ≡ unlined (note_of notes h)
note_bare notes h = ap (λ (o : Option Note). unwrap_or o first_note) (get_bare notes h) ∙ bare_or (get_or notes h None)

change_bare : (h : ℕ) (f g : Option Note → Option Note) → ((o : Option Note) → bare (f o) ≡ g (bare o)) → (notes : List (Option Note)) → change None h g (map bare notes) ≡ map bare (change None h f notes)
change_bare zero f g same [] = ap (λ (o : Option Note). o ∷ []) (sym (same None))
change_bare zero f g same (n ∷ ns) = ap (λ (o : Option Note). o ∷ map bare ns) (sym (same n))
change_bare (suc h) f g same [] = ap (λ (os : List (Option Note)). None ∷ os) (change_bare h f g same [])
change_bare (suc h) f g same (n ∷ ns) = ap (λ (os : List (Option Note)). bare n ∷ os) (change_bare h f g same ns)

each_bare : (hs : List ℕ) (f g : Option Note → Option Note) → ((o : Option Note) → bare (f o) ≡ g (bare o)) → (notes : List (Option Note)) → change_each None hs (λ _. g) (map bare notes) ≡ map bare (change_each None hs (λ _. f) notes)
each_bare [] f g same notes = refl
each_bare (h ∷ hs) f g same notes = ap (λ (os : List (Option Note)). change_each None hs (λ _. g) os) (change_bare h f g same notes) ∙ each_bare hs f g same (change None h f notes)

made_bare : (last : Option ℕ) (o : Option Note) → bare (made last o) ≡ made None (bare o)
made_bare last None = refl
made_bare last (Some note) = refl

after_of : ℕ → List ℕ → Note → List (Option Note) → List (Option Note)
after_of h others n notes = change_each None others (λ _. made n.last) (change None h (λ _. Some n) notes)

after_bare : (line : Option ℕ) (h : ℕ) (others : List ℕ) (notes : List (Option Note)) → notes_after None h others (map bare notes) ≡ map bare (notes_after line h others notes)
unfolding after_of
after_bare line h others notes =
    let n : Note = noted line (note_of notes h) in
    ap (λ (m : Note). after_of h others (noted None m) (map bare notes)) (note_bare notes h)
    ∙ ap (λ (os : List (Option Note)). change_each None others (λ _. made None) os) (change_bare h (λ _. Some n) (λ _. Some (unlined n)) (λ o. refl) notes)
    ∙ each_bare others (made n.last) (made None) (made_bare n.last) (change None h (λ _. Some n) notes)

numbered : (line : Option ℕ) → number_of (option_map line_id line) ≡ line
numbered None = refl
numbered (Some n) = refl

kept_after : (b : Bool) (line : Option ℕ) (h : ℕ) (others : List ℕ) (notes : List (Option Note))
    → notes_after (number_of (if b then option_map line_id line else None)) h others (notes_kept b notes) ≡ notes_kept b (notes_after line h others notes)
kept_after true line h others notes = ap (λ (l : Option ℕ). notes_after l h others notes) (numbered line)
kept_after false line h others notes = after_bare line h others notes

kept_first : (b : Bool) → notes_kept b (Some first_note ∷ []) ≡ Some first_note ∷ []
kept_first true = refl
kept_first false = refl

kept_count : (b : Bool) (notes : List (Option Note)) (h : ℕ) → (note_of (notes_kept b notes) h).count ≡ (note_of notes h).count
kept_count true notes h = refl
kept_count false notes h = ap (λ (n : Note). n.count) (note_bare notes h)

or_none : (a : Bool) → (a || false) ≡ a
or_none true = refl
or_none false = refl

kept_selected : (b s : Bool) (line selected : Option ℕ) (notes : List (Option Note)) (h : ℕ)
    → (s || (b && is_charged line (note_of (notes_kept b notes) h).last selected)) ≡ (if b then s || is_charged line (note_of notes h).last selected else s)
kept_selected true s line selected notes h = refl
kept_selected false s line selected notes h = or_none s

module _ (t : Timing) (index : Index) (r : Run) where
  abbrev costed : Experiment guests.Guest
  costed = with_costs t.costs (run_of (position_at index) r)

  abbrev y : Experiment Timed
  y = run_on t index r

  module _ (is : keeps t ≡ true) where
    abbrev x : Experiment (Cores (Noted guests.Guest))
    x = on_cores (slicing_of t) (noting (noting_of t (position_at index) r.selected) costed)

    abbrev f : Cores (Noted guests.Guest) → Timed
    f = on_timing t index

    abbrev Good : Cores (Noted guests.Guest) → Type 0
    Good = IsInLine (noted_guest (noting_of t (position_at index) r.selected) costed.guest) (λ m. own_order.IsOrderly m.guest)

    abbrev with_notes : List (Option Note) → Cores (Noted guests.Guest) → Timed
    with_notes notes c = record { guest = c.guest.guest; beside = record { timing = t; notes = notes; seats = c.seats }; index = index }

    first_same : y.first ≡ f x.first
    unfolding first_guest
    first_same = ap (λ (notes : List (Option Note)). with_notes notes x.first) (sym (kept_first (charges t.charge)))

    pub retires_same : (c : Cores (Noted guests.Guest)) (h v : ℕ) → retire (f c) h v ≡ retirement_through f (x.guest.retire c h v)
    retires_same c h v =
        retires_kept (f c) h v costed.guest refl is
        ∙ ap
        (λ (notes : List (Option Note)). retirement (with_notes notes (x.guest.retire c h v).guest) (x.guest.retire c h v).fate (x.guest.retire c h v).others)
        (kept_after (charges t.charge) (position_at index (guests.pc_of c.guest.guest h)) h (own.retire c.guest.guest h v).others c.guest.notes)

    follows : Follows x y f Good (λ c. Unit {0})
    follows = record {
      first = first_same;
      speedup = refl;
      budget = refl;
      visit_limit = refl;
      output_limit = refl;
      output = λ c. refl;
      alike = λ c good kept. record {
        cycles = λ h. ap (λ (n : ℕ). if is_doubled t.seed h n then 2 * cycles_in t.costs (own.next_of c.guest.guest h) else cycles_in t.costs (own.next_of c.guest.guest h)) (kept_count (charges t.charge) c.guest.notes h);
        is_selected = λ h. kept_selected (charges t.charge) (has_selected r.selected (position_at index) (guests.pc_of c.guest.guest h)) (position_at index (guests.pc_of c.guest.guest h)) r.selected c.guest.notes h;
        is_sleeping = λ h. refl;
        point = λ h. refl;
      };
      retires = λ c h v good kept runs. retires_same c h v;
      wakes = λ c h good kept asleep. wakes_kept (f c) h is;
      first_kept = tt;
      stays_kept = λ c h v good kept runs none. tt;
      wakes_kept = λ c h good kept asleep. tt;
    }

    pub timed_alike : r.speedup ≤ 100 → AreAlike x y f
    timed_alike small =
        alike x y f Good (λ c. Unit {0}) follows
        (timed_lawful (noting_of t (position_at index) r.selected) (slicing_of t) costed own_order.IsOrderly (costed_lawful (position_at index) r small t.costs) (own_fresh (position_at index) r))

  module _ (none : keeps t ≡ false) where
    abbrev alone : guests.Guest → Timed
    alone g = record { guest = g; beside = first_state t; index = index }

    none_of : (a b c : Bool) → ((a || b) || not c) ≡ false → (b ≡ false) × (c ≡ true)
    none_of a b true e = (none_right a b e, refl)
      where
        none_right : (a b : Bool) → ((a || b) || false) ≡ false → b ≡ false
        none_right true b e = absurd (let no : true ≡ false = e in cc)
        none_right false true e = absurd (let no : true ≡ false = e in cc)
        none_right false false e = refl
    none_of a b false e = absurd (last_true (a || b) e)
      where
        last_true : (a : Bool) → (a || true) ≡ false → ⊥
        last_true true e = let no : true ≡ false = e in cc
        last_true false e = let no : true ≡ false = e in cc

    parts : (charges t.charge ≡ false) × ((t.seed == 0) ≡ true)
    parts = none_of (nat_lt t.cores 256) (charges t.charge) (t.seed == 0) none

    first_alone : y.first ≡ alone costed.first
    unfolding first_guest
    first_alone = refl

    pub plain_follows : Follows costed y alone own_order.IsOrderly (λ g. Unit {0})
    plain_follows = record {
      first = first_alone;
      speedup = refl;
      budget = refl;
      visit_limit = refl;
      output_limit = refl;
      output = λ g. refl;
      alike = λ g good kept. record {
        cycles = λ h. single_cycles t.costs t.seed h (note_of (Some first_note ∷ []) h).count (own.next_of g h) (eqb-true t.seed 0 parts.1);
        is_selected = λ h. uncharged (has_selected r.selected (position_at index) (guests.pc_of g h)) (charges t.charge) (is_charged (position_at index (guests.pc_of g h)) (note_of (Some first_note ∷ []) h).last r.selected) parts.0;
        is_sleeping = λ h. out_of_line (guests.is_sleeping g h) false refl;
        point = λ h. refl;
      };
      retires = λ g h v good kept runs. retires_plain (alone g) h v none;
      wakes = λ g h good kept asleep. wakes_plain (alone g) h none;
      first_kept = tt;
      stays_kept = λ g h v good kept runs goes. tt;
      wakes_kept = λ g h good kept asleep. tt;
    }

    pub plain_alike : r.speedup ≤ 100 → AreAlike costed y alone
    plain_alike small = alike costed y alone own_order.IsOrderly (λ g. Unit {0}) plain_follows (costed_lawful (position_at index) r small t.costs)
