-- The shape of a record's directory.
use Rattle.std.specs.Prelude.{◌^◌, ◌≤◌, ◌<◌}
use Rattle.skeleton.specs.declared.directory.Shape.{Shape}

-- its numbers are as small as those of a leader: sums of them fit a machine word
pub record Bounded (h : Shape) : Type 0 where
  pub base_small : h.base < 10 ^ 9
  pub a_small : h.a ≤ 9
  pub b_small : h.b ≤ 9
