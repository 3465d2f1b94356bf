use Rattle.std.proofs.Common.{◌≡◌, ◌-◌, ◌^◌, ◌<◌, length, drop, false}
use Rattle.std.specs.Fmt.{digits, digits_onto}
use Rattle.coz_types.proofs.hexadecimal.fill.Given as goal

abbrev pub invariant-loop-turn : goal.invariant-loop-turn
invariant-loop-turn l = record {
  some : 0 < l.turn → 0 < l.rest;
  small : l.rest < 16 ^ (16 - l.turn);
  room : length l.room ≡ 16;
  so_far : digits_onto (64 - l.turn) 16 false l.rest (drop (16 - l.turn) l.room) ≡ digits 16 false l.number;
}
