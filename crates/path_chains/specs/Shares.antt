-- The order of the shares that lines have of a path.
use Rattle.std.specs.Prelude.{Bool}
use Rattle.std.specs.Ordering.{is_lt, nat_cmp}
use Rattle.path_chains.specs.declared.share.Share.{Share}

-- a share is before another one
abbrev pub has_more : Share → Share → Bool
has_more s t = is_lt (nat_cmp t.ticks s.ticks)
