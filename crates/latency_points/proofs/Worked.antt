-- Latencies, computed.
use Rattle.std.proofs.Common.{◌≡◌, ◌^◌, [], ◌∷◌, refl, Some, None}
use Rattle.latency_points.specs.Latency.{Arrival, Departure, latency_of}

-- a stray, two arrivals of which one departs, and an end
pub one_of_two : latency_of (Departure 5 ∷ Arrival 10 ∷ Arrival 20 ∷ Departure 50 ∷ []) 60 ≡ record {
  arrivals = 2;
  departures = 1;
  stray = 1;
  unended = 1;
  area = 80;
  mean = Some 80;
}
one_of_two = refl

-- nothing
pub nothing : latency_of [] (10 ^ 17) ≡ record {
  arrivals = 0;
  departures = 0;
  stray = 0;
  unended = 0;
  area = 0;
  mean = None;
}
nothing = refl

-- one that stays open up to the latest moment
pub one_open : latency_of (Arrival 0 ∷ []) (10 ^ 17) ≡ record {
  arrivals = 1;
  departures = 0;
  stray = 0;
  unended = 1;
  area = 10 ^ 17;
  mean = None;
}
one_open = refl
