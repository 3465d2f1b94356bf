-- How many harts have a key, before and after a call.
use Rattle.std.proofs.Common.{ℕ, ◌≡◌, ◌+◌, ◌<◌, length, cond, Option, Some, None, is_some, count_by, ap, arith}
use Rattle.std.proofs.lemmas.List.{length-set}
use Rattle.std.proofs.lemmas.List.Sums.{sum_by-set, count_by-le-length}
use Rattle.hart_schedule.specs.Keys.{Keys, key_of, with_key, without_key}

abbrev one : Option ℕ → ℕ
one key = cond (is_some key) 1 0

pub one_more : (keys : Keys) (hart key : ℕ) → hart < length keys → key_of keys hart ≡ None → count_by is_some (with_key hart key keys) ≡ count_by is_some keys + 1
one_more keys hart key lt absent =
    let sums = sum_by-set one keys hart (Some key) None lt in
    let was : one (key_of keys hart) ≡ 0 = ap one absent in
    omega (arith, sums, was)

pub one_less : (keys : Keys) (hart key : ℕ) → hart < length keys → key_of keys hart ≡ Some key → count_by is_some (without_key hart keys) + 1 ≡ count_by is_some keys
one_less keys hart key lt present =
    let sums = sum_by-set one keys hart None None lt in
    let was : one (key_of keys hart) ≡ 1 = ap one present in
    omega (arith, sums, was)

pub as_many : (keys : Keys) (hart k key : ℕ) → hart < length keys → key_of keys hart ≡ Some k → count_by is_some (with_key hart key keys) ≡ count_by is_some keys
as_many keys hart k key lt present =
    let sums = sum_by-set one keys hart (Some key) None lt in
    let was : one (key_of keys hart) ≡ 1 = ap one present in
    omega (arith, sums, was)

-- if one hart has no key, there is room for one more
pub room : (keys : Keys) (hart : ℕ) → hart < length keys → key_of keys hart ≡ None → count_by is_some keys < length keys
room keys hart lt absent =
    let more = one_more keys hart 0 lt absent in
    let few = count_by-le-length is_some (with_key hart 0 keys) in
    let size = length-set keys hart (Some 0) in
    omega (arith, more, few, size)
