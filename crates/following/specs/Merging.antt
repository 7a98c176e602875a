-- The general record of the result, tag by tag.
use Rattle.std.specs.Prelude.{ℕ, ◌≤◌, ◌≡◌, List, [], ◌∷◌, length, drop, eqb}
use Rattle.base.specs.Choice.{pick}
use Rattle.base.specs.Check.{pass}
use Rattle.base.specs.Lists.{gather}
use Rattle.skeleton.specs.File.{Field}
use Rattle.skeleton.specs.Emit.{sizes}
use Rattle.skeleton.specs.Place.{between, fields_at}
use Rattle.skeleton.specs.Shape.{Bounded}
use Rattle.skeleton.specs.declared.directory.Shape.{Shape}
use Rattle.rules.specs.Tags.{DSID, general_tags}
use Rattle.rules.specs.ByTag.{with_tag}
use Rattle.rules.specs.General.{general_record, newer, merged}
use Rattle.rules.specs.Written.{field_as}
use Rattle.rules.specs.declared.Mode.TheVariants.{InDataset, InUpdate}
use Rattle.writing.specs.Parts.{entry_bytes}
use Rattle.following.specs.declared.sources.Source.{Source}
use Rattle.following.specs.declared.sources.Source.TheVariants.{Sent, Kept, Neither}

-- the tags of the general record in their order
abbrev pub general_parts : List ℕ
general_parts = DSID ∷ general_tags

-- the record has at most one field with tag t
abbrev pub AtMostOne : List ℕ → Shape → ℕ → Type 0
AtMostOne r h t = length (with_tag t (fields_at r h 24)) ≤ 1

-- the field with tag t of the result, from the update if there, else from the dataset
abbrev pub newer_at : List ℕ → Shape → List ℕ → Shape → ℕ → List Field
newer_at old ho new hn t = newer (fields_at old ho 24) (fields_at new hn 24) t

-- the fields of the result from tag number j on
unfoldable pub parts_from : List ℕ → Shape → List ℕ → Shape → ℕ → List Field
parts_from old ho new hn j = gather (newer_at old ho new hn) (drop j general_parts)

-- the general record of the result
abbrev pub merged_at : List ℕ → Shape → List ℕ → Shape → List Field
merged_at old ho new hn = merged (fields_at old ho 24) (fields_at new hn 24)

-- these fields are one, with tag t, whose body lies in slice r from i up to j
pub record OneIn (fs : List Field) (t : ℕ) (r : List ℕ) (i j : ℕ) : Type 0 where
  pub is : fs ≡ field_as t (between r i j) ∷ []
  pub runs : i ≤ j
  pub inside : j ≤ length r

-- what a source says of the field with tag t
unfoldable pub Sourced : List ℕ → Shape → List ℕ → Shape → ℕ → Source → Type 0
Sourced old ho new hn t (Sent i j) = OneIn (newer_at old ho new hn t) t new i j
Sourced old ho new hn t (Kept i j) = OneIn (newer_at old ho new hn t) t old i j
Sourced old ho new hn t Neither = newer_at old ho new hn t ≡ []

-- fields of which there is at most one, with tag t
abbrev pub Alone : ℕ → List Field → Type 0
Alone t [] = Unit {0}
Alone t (f ∷ []) = f.tag ≡ t
Alone t (f ∷ g ∷ fs) = ⊥

-- n is the size of such fields, at most that of a file and a 1E
pub record Measured (t : ℕ) (fs : List Field) (n : ℕ) : Type 0 where
  pub size_is : n ≡ sizes fs
  pub alone : Alone t fs
  pub small : n ≤ 16777217

-- 1 field of n bytes, or none of 0
unfoldable pub one_if : ℕ → ℕ
one_if n = pick (eqb n 0) 0 1

-- its entry
unfoldable pub entry_if : ℕ → ℕ → ℕ → List ℕ
entry_if t n pos = pick (eqb n 0) [] (entry_bytes t n pos)

-- a dataset's general record and an update's that have passed, in files that are not too long
pub record Passing (old : List ℕ) (ho : Shape) (new : List ℕ) (hn : Shape) : Type 0 where
  pub old_bounded : Bounded ho
  pub new_bounded : Bounded hn
  pub old_short : length old ≤ 16777216
  pub new_short : length new ≤ 16777216
  pub old_passed : general_record InDataset (fields_at old ho 24) ≡ pass
  pub new_passed : general_record InUpdate (fields_at new hn 24) ≡ pass
