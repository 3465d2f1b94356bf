-- What is noted of each hart, and what this tells.
use Rattle.std.specs.Prelude.{◌≡◌, ℕ, ◌+◌, ◌-◌, ◌^◌, ◌<◌, List, get_or, Option, Some, None, ◌==◌, min, unwrap_or}
use Rattle.hart_states.specs.declared.change.Activity.{Activity}
use Rattle.hart_states.specs.declared.change.Activity.TheVariants.{Running, Waiting, Sleeping, Ready, Gone}
use Rattle.hart_states.specs.declared.change.Change.{Change}
use Rattle.hart_states.specs.Changes.{InOrder, earliest, latest, ticks_in}
use Rattle.hart_handovers.specs.declared.handover.Handover.{Handover}
use Rattle.hart_handovers.specs.declared.handover.Way.{Way}
use Rattle.hart_handovers.specs.declared.handover.Way.TheVariants.{Clone}
use Rattle.hart_handovers.specs.Handovers.{slept_since, way, way_from}
use Rattle.hart_turns.specs.declared.life.Life.{Life}
use Rattle.hart_turns.specs.declared.life.Ticks.{Ticks}

abbrev pub no_ticks : Ticks
no_ticks = record { runs = 0; waits = 0; sleeps = 0; ready = 0 }

-- of a hart that was not made
abbrev pub unmade : Life
unmade = record { first = None; last = None; way = Clone; ticks = no_ticks }

-- what is noted of a hart
abbrev pub life_of : List Life → ℕ → Life
life_of lives hart = get_or lives hart unmade

-- as 64 bits hold it
abbrev pub capped : ℕ → ℕ
capped n = min n (2 ^ 64 - 1)

abbrev pub with_ticks : Activity → ℕ → Ticks → Ticks
with_ticks Running more t = record t { runs = capped (t.runs + more) }
with_ticks Waiting more t = record t { waits = capped (t.waits + more) }
with_ticks Sleeping more t = record t { sleeps = capped (t.sleeps + more) }
with_ticks Ready more t = record t { ready = capped (t.ready + more) }
with_ticks Gone more t = t

-- with those since the latest change
abbrev pub settled : Ticks → Option Change → ℕ → Ticks
settled t None now = t
settled t (Some c) now = with_ticks c.to (now - c.moment) t

-- the way to run at a moment, by the latest change and the way at that
abbrev pub way_by : Option Change → Way → ℕ → Way
way_by None before moment = Clone
way_by (Some c) before moment = way_from c.to (c.moment == moment) before

abbrev pub handover_by : Life → Change → Handover
handover_by life c = record {
  moment = c.moment;
  slept = slept_since life.last c.moment;
  hart = c.hart;
  by = c.by;
  way = way_by life.last life.way c.moment;
}

-- after a change
abbrev pub after : Life → Change → Life
after life c = record {
  first = Some (unwrap_or life.first c);
  last = Some c;
  way = way_by life.last life.way c.moment;
  ticks = settled life.ticks life.last c.moment;
}

-- these are the ticks of a hart up to a moment
pub record AreTicks (h now : ℕ) (past : List Change) (t : Ticks) : Type 0 where
  pub runs : t.runs ≡ ticks_in Running h now past
  pub waits : t.waits ≡ ticks_in Waiting h now past
  pub sleeps : t.sleeps ≡ ticks_in Sleeping h now past
  pub ready : t.ready ≡ ticks_in Ready h now past

-- what is noted of a hart tells its changes
pub record TellsOf (h : ℕ) (past : List Change) (life : Life) : Type 0 where
  pub first : life.first ≡ earliest h past
  pub last : life.last ≡ latest h past
  pub way_is : (moment : ℕ) → way_by life.last life.way moment ≡ way h moment past
  pub ticks : (now : ℕ) → now < 2 ^ 64 → InOrder now past
      → AreTicks h now past (settled life.ticks life.last now)
