-- Fields that have the format of their tag.
use Rattle.std.specs.Prelude.{ℕ, Bool, true, false, List, [], ◌∷◌}
use Rattle.base.specs.Choice.{both}
use Rattle.fields.specs.Table.{head_of, tuple_of}
use Rattle.fields.specs.Content.{fill}
use Rattle.skeleton.specs.File.{Field}
use Rattle.rules.specs.Content.{ident_format, format_of}
use Rattle.rules.specs.declared.Kind.{Kind}

-- an identifier has the format of its kind, whatever its instruction
unfoldable pub identified : Kind → List ℕ → Bool
identified k b = let f = ident_format false k in fill (head_of f) (tuple_of f) b

-- the subfields of its tag fill any other field; new: every instruction is insert
unfoldable pub fits : Bool → Field → Bool
fits new f = let k = format_of new f.tag f.body in fill (head_of k) (tuple_of k) f.body

-- each field is so
unfoldable pub all_fit : Bool → List Field → Bool
all_fit new [] = true
all_fit new (f ∷ fs) = both (fits new f) (all_fit new fs)
