-- Fields that passed numbers 5 and 6, one by one. Assumes nothing.
use Prim.Native.Nat.{ℕ, ◌+◌}
use mathlib.Core.Path.{◌≡◌, refl}
use mathlib.Core.Bool.{Bool}
use mathlib.Core.List.{List, [], ◌∷◌}
use Rattle.base.specs.Check.{bind, in_field, pass}
use Rattle.base.specs.Lists.{Each}
use Rattle.base.proofs.CheckLaws.{bind_inv, field_inv}
use Rattle.skeleton.specs.File.{Field}
use Rattle.fields.specs.Table.{head_of, tuple_of}
use Rattle.fields.specs.Valid.{Has}
use Rattle.fields.specs.declared.Format.{Format}
use Rattle.fields.proofs.FieldLaws.{fill_count}
use Rattle.rules.specs.Content.{format_of, stands, all_stand}
use Rattle.rules.specs.Trees.{tree_stands, trees_stand}
use Rattle.rules.proofs.FilledLaws.{stands_fill}

-- a body that has its format stands
pub fill_stands : (i : ℕ) (k : Format) (b : List ℕ) → Has k b → stands i k b ≡ pass
unfolding stands
fill_stands i k b e = rw (fill_count (head_of k) (tuple_of k) b e)

-- a field that has its format
abbrev pub Formed : Bool → Field → Type 0
Formed new f = Has (format_of new f.tag f.body) f.body

-- each of fields that stand
pub all_formed : (new : Bool) (i : ℕ) (fs : List Field) → all_stand new i fs ≡ pass → Each (Formed new) fs
unfolding all_stand Each
all_formed new i [] e = tt
all_formed new i (f ∷ fs) e =
    let (t, a, b) = bind_inv (stands i (format_of new f.tag f.body) f.body) _ tt e in
    (stands_fill i (format_of new f.tag f.body) f.body t a, all_formed new (i + 1) fs b)

-- and the other way
pub formed_all : (new : Bool) (i : ℕ) (fs : List Field) → Each (Formed new) fs → all_stand new i fs ≡ pass
unfolding all_stand Each bind
formed_all new i [] e = refl
formed_all new i (f ∷ fs) e = rw (fill_stands i (format_of new f.tag f.body) f.body e.0) (formed_all new (i + 1) fs e.1)

-- each of fields whose trees stand
pub all_treed : (new : Bool) (i : ℕ) (fs : List Field) → trees_stand new i fs ≡ pass → Each (λ f. tree_stands new f ≡ pass) fs
unfolding trees_stand Each
all_treed new i [] e = tt
all_treed new i (f ∷ fs) e =
    let (t, a, b) = bind_inv (in_field i (tree_stands new f)) _ tt e in
    (field_inv i (tree_stands new f) t a, all_treed new (i + 1) fs b)

-- and the other way
pub treed_all : (new : Bool) (i : ℕ) (fs : List Field) → Each (λ f. tree_stands new f ≡ pass) fs → trees_stand new i fs ≡ pass
unfolding trees_stand Each bind in_field
treed_all new i [] e = refl
treed_all new i (f ∷ fs) e = rw e.0 (treed_all new (i + 1) fs e.1)
