-- What the fields of a record say that the listing shows.
use Rattle.std.specs.Prelude.{ℕ, ◌+◌, ◌/◌, ◌≡◌, List, [], ◌∷◌, length, get_or, Result, Ok, Err}
use Rattle.std.proofs.Math.Option.{Option, some, none}
use Rattle.base.specs.Choice.{pick}
use Rattle.base.specs.Check.{pass}
use Rattle.base.specs.Lists.{Each}
use Rattle.skeleton.specs.File.{Field, records_from}
use Rattle.fields.specs.Table.{head_of, tuple_of}
use Rattle.fields.specs.Content.{tally_field}
use Rattle.fields.specs.declared.Format.TheVariants.{AttrNew}
use Rattle.rules.specs.Tags.{ATTR}
use Rattle.rules.specs.Coordinates.{is_coordinates}
use Rattle.rules.specs.ByTag.{bodies, first_tag}
use Rattle.rules.specs.Kind.{kind_of, tag_of}
use Rattle.rules.specs.Content.{number5}
use Rattle.rules.specs.Trees.{number6}
use Rattle.rules.specs.Record.{Rec, rec_of}
use Rattle.rules.specs.declared.Kind.{Kind}
use Rattle.rules.specs.declared.Kind.TheVariants.{Info}
use Rattle.rules.specs.declared.Mode.TheVariants.{InDataset}

-- ---- counts

-- how many tuples were counted; none where one does not stand
abbrev pub whole : Result ℕ ℕ → ℕ
whole (Ok n) = n
whole (Err j) = 0

-- how many entries an ATTR has
unfoldable pub entries_of : List ℕ → ℕ
entries_of b = whole (tally_field (head_of AttrNew) (tuple_of AttrNew) b)

-- how many entries the first ATTR of a record has
unfoldable pub entries_in : List Field → ℕ
entries_in fs = entries_of (get_or (bodies ATTR fs) 0 [])

-- how many coordinate tuples, of 8 bytes each, a field of n bytes has
unfoldable pub tuples_of : ℕ → ℕ → ℕ
tuples_of t n = pick (is_coordinates t) (n / 8) 0

-- how many coordinate tuples the fields have
unfoldable pub tuples_in : List Field → ℕ
tuples_in [] = 0
tuples_in (f ∷ fs) = tuples_of f.tag (length f.body) + tuples_in fs

-- ---- a record that has passed its numbers

-- what the listing needs of it: its kind, and that it has passed 5 and 6
pub record Passed (fs : List Field) : Type 0 where
  pub kind : Kind
  pub tag : first_tag fs ≡ tag_of kind
  pub five : number5 InDataset kind fs ≡ pass
  pub six : number6 InDataset kind fs ≡ pass

-- each of the records from byte at on is such
unfoldable pub PassedFrom : List ℕ → ℕ → Type 0
PassedFrom f at = Each Passed (records_from f at).items

-- the kind that a tag begins, any where it begins none
unfoldable pub kind_for : Option Kind → Kind
kind_for (some k) = k
kind_for none = Info

-- what a record says whose first tag is that of its kind
unfoldable pub record_in : List Field → Rec
record_in fs = rec_of (kind_for (kind_of (first_tag fs))) fs
