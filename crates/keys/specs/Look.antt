-- A quick look at a record that was found right before.
use Rattle.std.specs.Prelude.{ℕ, ◌+◌, ◌≤◌, ◌≡◌, false, List, length, Option, Some, None, Result, Ok, Err}
use Rattle.skeleton.specs.File.{records_from}
use Rattle.skeleton.specs.Record.{stated_at}
use Rattle.skeleton.specs.declared.leader.Head.{Head}
use Rattle.skeleton.specs.declared.leader.Broken.{Broken}
use Rattle.keys.specs.Key.{key_at}
use Rattle.keys.specs.Listed.{keys_from, has_from, seen_from}
use Rattle.keys.specs.declared.look.Look.{Look}

-- a record of so many bytes, with this key
abbrev pub looked : ℕ → ℕ → Option Look
looked len key = Some (record { len = len; key = key })

-- its length, and the key at its base address, by what its leader says
abbrev pub look_by : List ℕ → ℕ → Result Head Broken → Option Look
look_by f p (Ok d) = looked d.len (key_at f (p + d.shape.base))
look_by f p (Err n) = None

-- what is found at p, with no test of what was tested before
unfoldable pub look_at : List ℕ → ℕ → Option Look
look_at f p = look_by f p (stated_at f p)

-- from p on there are m records at least, and each of the first m has a key: quick looks are right so far
pub record Known (f : List ℕ) (p m : ℕ) : Type 0 where
  pub enough : m ≤ length (keys_from f p)
  pub keyed : seen_from f p m 0 ≡ false

-- the records from p on are right, fill a file that is not too long, and each has a key: quick looks are right to its end
pub record Sound (f : List ℕ) (p : ℕ) : Type 0 where
  pub small : length f ≤ 16777216
  pub inside : p ≤ length f
  pub clean : (records_from f p).ending ≡ 0
  pub keyed : has_from f p 0 ≡ false
