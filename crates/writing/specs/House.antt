-- The fields of a record as they are written: lists joined, empty ones left out, all others as they are.
use Rattle.std.specs.Prelude.{ℕ, Bool, List, [], ◌∷◌, ◌++◌, eqb}
use Rattle.base.specs.Choice.{pick, both, either}
use Rattle.skeleton.specs.File.{Field}
use Rattle.rules.specs.Tags.{ATTR, SPAS, C2IL}
use Rattle.rules.specs.Written.{field_as}

-- fields with this tag are lists (a record has one ATTR at most, so that joining says nothing of it); joins: the record is one of the four
-- kinds, those that are carried have no lists
unfoldable pub is_list : Bool → ℕ → Bool
is_list joins t = both joins (either (eqb t ATTR) (either (eqb t SPAS) (eqb t C2IL)))

-- a list before the fields that are written after it: an empty one has no field, and it is one with a list of the same tag
unfoldable pub list_before : ℕ → List ℕ → List Field → List Field
list_before t [] gs = gs
list_before t (x ∷ b) [] = field_as t (x ∷ b) ∷ []
list_before t (x ∷ b) (g ∷ gs) = pick (eqb t g.tag) (field_as t ((x ∷ b) ++ g.body) ∷ gs) (field_as t (x ∷ b) ∷ g ∷ gs)

-- the fields as they are written
unfoldable pub in_house_form : Bool → List Field → List Field
in_house_form joins [] = []
in_house_form joins (f ∷ fs) =
    let later = in_house_form joins fs in
    pick (is_list joins f.tag) (list_before f.tag f.body later) (f ∷ later)
