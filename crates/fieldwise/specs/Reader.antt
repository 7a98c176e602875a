-- A reader of one record: what stands at a place of its directory, and the fields that it passes.
use Rattle.std.specs.Prelude.{ℕ, ◌+◌, ◌-◌, List, [], true, false, length, Option, Some, None, Result, Ok, Err}
use Rattle.base.specs.Walk.{Step, more, over, walk}
use Rattle.skeleton.specs.Leader.{leader_of}
use Rattle.skeleton.specs.Directory.{Body}
use Rattle.skeleton.specs.Place.{between, place_at}
use Rattle.skeleton.specs.declared.leader.Head.{Head}
use Rattle.skeleton.specs.declared.leader.Broken.{Broken}
use Rattle.skeleton.specs.declared.place.Place.{Place}

-- what the first says, where it is no refusal, else what the second says
abbrev pub or_else : Result Head Broken → Result Head Broken → Result Head Broken
or_else (Ok d) h = Ok d
or_else (Err x) h = h

-- what a record's leader says, be it the first record's or another's
unfoldable pub led_by : List ℕ → Result Head Broken
led_by r = or_else (leader_of r true) (leader_of r false)

-- the field whose entry stands at at, by what the leader says
abbrev pub field_by : List ℕ → ℕ → Result Head Broken → Option Place
field_by r at (Ok d) = place_at r d.shape at
field_by r at (Err x) = None

-- the field whose entry stands at at
unfoldable pub field_here : List ℕ → ℕ → Option Place
field_here r at = field_by r at (led_by r)

-- the place of the entry after it; where there is no field, at itself
abbrev pub next_of : ℕ → Option Place → ℕ
next_of at (Some p) = p.next
next_of at None = at

unfoldable pub next_here : List ℕ → ℕ → ℕ
next_here r at = next_of at (field_here r at)

-- its bytes without the closing 1E; where there is no field, none
abbrev pub body_of : List ℕ → Option Place → List ℕ
body_of r (Some p) = between r p.start p.end
body_of r None = []

unfoldable pub body_here : List ℕ → ℕ → List ℕ
body_here r at = body_of r (field_here r at)

-- ---- one after the other

-- where the field at a place lies, its 1E included
abbrev pub lying : Place → Body
lying p = record { tag = p.tag; start = p.start; len = p.end - p.start + 1 }

-- it, and the next place
abbrev pub lying_step : Option Place → Step ℕ Body
lying_step (Some p) = more (lying p) p.next
lying_step None = over 0

-- where the fields lie that a reader passes from the place at on
unfoldable pub passed_from : List ℕ → ℕ → List Body
passed_from r at = (walk (λ q. lying_step (field_here r q)) (λ q. length r - q) at).items
