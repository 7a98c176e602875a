-- A directory that was found right: from an entry on, its tags alone say which fields there are.
use Rattle.std.specs.Prelude.{ℕ, ◌≡◌, List}
use Rattle.skeleton.specs.Directory.{fields_from}
use Rattle.skeleton.specs.declared.directory.Shape.{Shape}

-- from the entry at q on the directory is right, the fields before it at bytes in all
pub record RightFrom (r : List ℕ) (h : Shape) (q : ℕ) : Type 0 where
  pub at : ℕ
  pub found : (fields_from r h.base h.a h.b q at).ending ≡ 0
