-- What code finds of the fields as they are written, from a place in the directory on.
use Rattle.std.specs.Prelude.{ℕ, ◌+◌, ◌*◌, ◌≤◌, ◌<◌, ◌≡◌, Bool, List, [], ◌∷◌, ◌++◌, length, Option, Some, None}
use Rattle.skeleton.specs.File.{Field}
use Rattle.skeleton.specs.Emit.{sizes}
use Rattle.skeleton.specs.Place.{between, fields_at}
use Rattle.skeleton.specs.declared.directory.Shape.{Shape}
use Rattle.rules.specs.Written.{field_as}
use Rattle.writing.specs.House.{in_house_form}
use Rattle.writing.specs.Runs.{more_body, more_rest}
use Rattle.writing.specs.declared.joining.Run.{Run}
use Rattle.writing.specs.declared.joining.Written.{Written}
use Rattle.writing.specs.declared.measuring.Sum.{Sum}

-- the fields as they are written, from the entry at p on
abbrev pub house_at : Bool → List ℕ → Shape → ℕ → List Field
house_at joins r h p = in_house_form joins (fields_at r h p)

-- the bodies that join a field of tag t, from the entry at p on
abbrev pub joined_at : Bool → List ℕ → Shape → ℕ → ℕ → List ℕ
joined_at joins r h t p = more_body joins t (fields_at r h p)

-- e is the length of these bodies, and the place of the first entry behind them; so small, since each entry has bytes and no body is longer than a file (16,777,216)
pub record Ran (joins : Bool) (r : List ℕ) (h : Shape) (t p : ℕ) (e : Run) : Type 0 where
  pub size_is : e.size ≡ length (joined_at joins r h t p)
  pub rest : fields_at r h e.after ≡ more_rest joins t (fields_at r h p)
  pub further : p ≤ e.after
  pub inside : e.after ≤ length r
  pub small : e.size + 16777217 * p ≤ 16777217 * e.after

-- the field w that is written is found at p: its first body, those that join it, and those behind it
pub record Found (joins : Bool) (r : List ℕ) (h : Shape) (p : ℕ) (w : Written) : Type 0 where
  pub fields : house_at joins r h p ≡ field_as w.tag (between r w.start w.end ++ joined_at joins r h w.tag w.next) ∷ house_at joins r h w.after
  pub size_is : w.size ≡ length (between r w.start w.end ++ joined_at joins r h w.tag w.next)
  pub body_runs : w.start ≤ w.end
  pub body_in : w.end ≤ length r
  pub further : p < w.after
  pub inside : w.after ≤ length r
  pub small : w.size + 1 + 16777217 * p ≤ 16777217 * w.after

-- e is the next field that is written, or that there is none
unfoldable pub Next : Bool → List ℕ → Shape → ℕ → Option Written → Type 0
Next joins r h p (Some w) = Found joins r h p w
Next joins r h p None = house_at joins r h p ≡ []

-- e is the number of the fields that are written, and of their bytes
pub record Summed (fs : List Field) (e : Sum) : Type 0 where
  pub fields_are : e.fields ≡ length fs
  pub bytes_are : e.bytes ≡ sizes fs
  pub few : e.fields ≤ 16777216
  pub small : e.bytes ≤ 281474993487872
