-- A glance at a file: where its DSID lies by the numbers of two leaders and of one directory entry, of which nothing is tested. Of a file whose first
-- two records pass their tests it says where DSID lies; of any other it says something or nothing, and no answer rests on that.
use Rattle.std.specs.Prelude.{ℕ, ◌+◌, ◌-◌, Bool, false, List, length, drop, eqb, leb, Option, Some, None, Result, Ok, Err}
use Rattle.base.specs.Choice.{pick, both}
use Rattle.base.specs.Keys.{same}
use Rattle.fields.specs.Bytes.{le}
use Rattle.skeleton.specs.Place.{between, place_at}
use Rattle.skeleton.specs.Record.{stated_at}
use Rattle.skeleton.specs.declared.leader.Head.{Head}
use Rattle.skeleton.specs.declared.leader.Broken.{Broken}
use Rattle.skeleton.specs.declared.place.Place.{Place}
use Rattle.parcels.specs.Holding.{number_told, name_told}

-- from a place of the file up to another; or there is nothing to see
abbrev pub Glance : Type 0
Glance = Option (ℕ × ℕ)

-- a field of the record that begins at p, by its place in the file
unfoldable pub field_by : ℕ → Option Place → Glance
field_by p (Some d) = Some (p + d.start, p + d.end)
field_by p None = None

-- the first field of the record at p, by what its leader says
unfoldable pub second_by : List ℕ → ℕ → Result Head Broken → Glance
second_by f p (Ok d) = pick (both (leb d.shape.a 9) (leb d.shape.b 9)) (field_by p (place_at (between f p (p + d.len)) d.shape 24)) None
second_by f p (Err x) = None

-- of the record behind the first one, by what the first one's leader says
unfoldable pub glance_by : List ℕ → Result Head Broken → Glance
glance_by f (Ok d) = second_by f d.len (stated_at f d.len)
glance_by f (Err x) = None

unfoldable pub glance_of : List ℕ → Glance
glance_of f = glance_by f (stated_at f 0)

-- ---- whether a file may follow a holding

-- the last subfields of DSID are DSNM with its 1F, EDTN, UPDN and the eight bytes of ISDT: UPDN is the holding's number plus one, DSNM its name
unfoldable pub ends_next : List ℕ → List ℕ → Bool
ends_next h b =
    let end = length b - 13 in
    let long = length h - 10 in
    let number = eqb (le 2 (drop (end + 3) b)) (number_told h + 1) in
    let name = both (leb long end) (same (between b (end - long) end) (name_told h)) in
    both (leb 13 (length b)) (both number name)

unfoldable pub may_follow_by : List ℕ → List ℕ → Glance → Bool
may_follow_by h f (Some s) = ends_next h (between f s.0 s.1)
may_follow_by h f None = false

unfoldable pub may_follow : List ℕ → List ℕ → Bool
may_follow h f = may_follow_by h f (glance_of f)
