-- The record at a place of a file: what its leader says, once its directory is found right.
use Rattle.std.specs.Prelude.{ℕ, ◌-◌, List, length, take, drop, eqb, ltb, Result, Ok, Err}
use Rattle.base.specs.Choice.{pick}
use Rattle.skeleton.specs.Leader.{stated_of, leader_of}
use Rattle.skeleton.specs.Directory.{fields_of, directed}
use Rattle.skeleton.specs.declared.leader.Head.{Head}
use Rattle.skeleton.specs.declared.leader.Broken.{Broken}
use Rattle.skeleton.specs.declared.leader.Broken.TheVariants.{Cut}

-- what a leader says, once its directory is judged
abbrev pub found_right : Head → Result (Unit {0}) Broken → Result Head Broken
found_right d (Ok u) = Ok d
found_right d (Err x) = Err x

-- what a leader says, where the directory behind it is right, else the refusal of the directory
abbrev pub with_directory : List ℕ → Result Head Broken → Result Head Broken
with_directory s (Ok d) = found_right d (directed (fields_of (take d.len s) d.shape.base d.shape.a d.shape.b).ending)
with_directory s (Err x) = Err x

-- the record that begins at at
unfoldable pub record_at : List ℕ → ℕ → Result Head Broken
record_at f at = with_directory (drop at f) (leader_of (drop at f) (eqb at 0))

-- what the numbers of the leader at at say, 1 where it is cut off: enough for a record that was found right before
unfoldable pub stated_at : List ℕ → ℕ → Result Head Broken
stated_at f at = pick (ltb (length f - at) 24) (Err Cut) (stated_of (drop at f))
