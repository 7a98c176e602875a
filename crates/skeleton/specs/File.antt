-- The records of a file as the skeleton finds them: each one's fields, and how the walk over the file ended.
use Rattle.std.specs.Prelude.{ℕ, ◌+◌, ◌-◌, List, [], length, take, drop, eqb, ltb, Result, Ok, Err}
use Rattle.base.specs.Choice.{pick}
use Rattle.base.specs.Lists.{each}
use Rattle.base.specs.Walk.{Step, more, over, Got, walk}
use Rattle.skeleton.specs.Leader.{number_of, leader_of}
use Rattle.skeleton.specs.Directory.{Body, fields_of}
use Rattle.skeleton.specs.declared.leader.Head.{Head}
use Rattle.skeleton.specs.declared.leader.Broken.{Broken}

-- a field: its tag, the four bytes as one number, and its body without the closing 1E
pub record Field : Type 0 where
  pub tag : ℕ
  pub body : List ℕ

-- the field that lies there in record r
unfoldable pub cut_out : List ℕ → Body → Field
cut_out r b = record { tag = b.tag; body = take (b.len - 1) (drop b.start r) }

-- a record whose directory was walked: its fields, and the place of the next record; or 3
abbrev pub step_dir : ℕ → List ℕ → Got Body → Step ℕ (List Field)
step_dir next r g = pick (eqb g.ending 0) (more (each (cut_out r) g.items) next) (over g.ending)

-- a record whose leader was read: the next one starts where the stated length ends; or 1 or 2
abbrev pub step_head : ℕ → List ℕ → Result Head Broken → Step ℕ (List Field)
step_head at rest (Ok d) = step_dir (at + d.len) (take d.len rest) (fields_of (take d.len rest) d.shape.base d.shape.a d.shape.b)
step_head at rest (Err x) = over (number_of x)

-- one step over a file: at its end the walk is over, else a record's leader and then its directory
abbrev pub file_step : List ℕ → ℕ → Step ℕ (List Field)
file_step f at = let here = step_head at (drop at f) (leader_of (drop at f) (eqb at 0)) in pick (ltb at (length f)) here (over 0)

-- the records from the byte at on
unfoldable pub records_from : List ℕ → ℕ → Got (List Field)
records_from f at = walk (file_step f) (λ q. length f - q) at

-- the records of a file up to the first that 1, 2 or 3 refuses (ending), or all of them (ending 0); a file of no bytes is 1
unfoldable pub records_of : List ℕ → Got (List Field)
records_of f = let found = records_from f 0 in pick (eqb (length f) 0) (record { items = []; ending = 1 }) found
