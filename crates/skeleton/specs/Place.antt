-- The fields of a record one by one, from the places of their directory entries.
use Rattle.std.specs.Prelude.{ℕ, ◌+◌, ◌-◌, List, [], ◌∷◌, not, length, take, drop, eqb, leb, Option, Some, None}
use Rattle.base.specs.Choice.{pick, both}
use Rattle.base.specs.Walk.{Step, more, over, walk}
use Rattle.skeleton.specs.Directory.{entry_at}
use Rattle.skeleton.specs.File.{Field}
use Rattle.skeleton.specs.declared.directory.Entry.{Entry}
use Rattle.skeleton.specs.declared.directory.Entry.TheVariants.{Field as FieldAt, End, Bad}
use Rattle.skeleton.specs.declared.directory.Shape.{Shape}
use Rattle.skeleton.specs.declared.place.Place.{Place}

-- the bytes from i up to j: a part of a slice
abbrev pub between : List ℕ → ℕ → ℕ → List ℕ
between s i j = take (j - i) (drop i s)

-- a field with this tag, whose body and whose 1E lie there
abbrev pub at_place : ℕ → ℕ → ℕ → ℕ → Option Place
at_place tag start end next = Some (record { tag = tag; start = start; end = end; next = next })

-- the field that an entry speaks of, where it has a byte and lies in the record
abbrev pub place_of : List ℕ → ℕ → Entry → Option Place
place_of r base (FieldAt tag pos len next) =
    let there = at_place tag (base + pos) (base + pos + len - 1) next in
    pick (both (not (eqb len 0)) (leb (base + pos + len) (length r))) there None
place_of r base End = None
place_of r base Bad = None

-- the field whose entry stands at p
unfoldable pub place_at : List ℕ → Shape → ℕ → Option Place
place_at r h p = place_of r h.base (entry_at r h.a h.b p)

-- ---- one after the other

-- what lies at a place, and the next place
abbrev pub place_step : List ℕ → Option Place → Step ℕ Field
place_step r (Some p) = more (record { tag = p.tag; body = between r p.start p.end }) p.next
place_step r None = over 0

-- the fields whose entries stand from p on
unfoldable pub fields_at : List ℕ → Shape → ℕ → List Field
fields_at r h p = (walk (λ q. place_step r (place_at r h q)) (λ q. length r - q) p).items

-- ---- by tag

-- a search for tag t at q: over, with the place where it stops, or on to the next place
abbrev pub seek : ℕ → ℕ → Option Place → Step ℕ (Unit {0})
seek t q (Some p) = pick (eqb p.tag t) (over q) (more tt p.next)
seek t q None = over q

-- the place of the first field with tag t from p on; where there is none, the end of the directory
unfoldable pub place_with : List ℕ → Shape → ℕ → ℕ → ℕ
place_with r h t p = (walk (λ q. seek t q (place_at r h q)) (λ q. length r - q) p).ending

-- the first field with tag t from p on
unfoldable pub find_from : List ℕ → Shape → ℕ → ℕ → Option Place
find_from r h t p = place_at r h (place_with r h t p)

-- of these fields, the first with tag t and those after it
unfoldable pub from_tag : ℕ → List Field → List Field
from_tag t [] = []
from_tag t (f ∷ fs) = pick (eqb f.tag t) (f ∷ fs) (from_tag t fs)
