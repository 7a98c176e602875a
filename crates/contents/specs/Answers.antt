-- The answers to numbers 5 and 6, from a place of a record's directory on.
use Rattle.std.specs.Prelude.{ℕ, ◌/◌, Bool, not, List, length, eqb, Result}
use Rattle.base.specs.Choice.{pick}
use Rattle.base.specs.Check.{bind}
use Rattle.base.specs.Verdict.{verdict_of}
use Rattle.base.specs.declared.Fault.{Fault}
use Rattle.skeleton.specs.File.{Field}
use Rattle.skeleton.specs.Place.{fields_at}
use Rattle.skeleton.specs.declared.directory.Shape.{Shape}
use Rattle.rules.specs.Tags.{C2IL}
use Rattle.rules.specs.Coordinates.{sent}
use Rattle.rules.specs.Content.{all_stand, counted}
use Rattle.rules.specs.Trees.{tree_stands, trees_stand}
use Rattle.tree.specs.Verdict.{faulty_tuple}

-- each field from number i and place p on has its format
unfoldable pub stand_from : List ℕ → Shape → Bool → ℕ → ℕ → Result (Unit {0}) Fault
stand_from r h new p i = verdict_of (all_stand new i (fields_at r h p))

-- the tuples that a field of so many bytes sends
unfoldable pub sent_in : ℕ → ℕ → ℕ
sent_in t n = pick (eqb t C2IL) (n / 8) 0

-- the fields from place p on send n tuples
unfoldable pub send_from : List ℕ → Shape → ℕ → ℕ → Bool
send_from r h p n = eqb n (length (sent (fields_at r h p)))

-- no COCC from number i and place q on miscounts what the fields from place p on send
unfoldable pub counted_from : List ℕ → Shape → ℕ → ℕ → ℕ → Result (Unit {0}) Fault
counted_from r h p q i = verdict_of (counted (length (sent (fields_at r h p))) i (fields_at r h q))

-- the tree rule in each field from number i and place p on
unfoldable pub trees_from : List ℕ → Shape → Bool → ℕ → ℕ → Result (Unit {0}) Fault
trees_from r h new p i = verdict_of (trees_stand new i (fields_at r h p))

-- a field breaks it
unfoldable pub breaks : Bool → Field → Bool
breaks new f = not (eqb (faulty_tuple (tree_stands new f)) 0)

-- what a test of the fields that are left says of the whole: it has to be looked at again as a whole only if something was noticed before them
unfoldable pub since : Bool → Result (Unit {0}) Fault → Result (Unit {0}) Fault → Result (Unit {0}) Fault
since noticed whole left = pick noticed whole left

-- numbers 5 and 6 of the fields from place p on, behind the identifier
unfoldable pub rest_right : List ℕ → Shape → Bool → ℕ → Result (Unit {0}) Fault
rest_right r h new p =
    let fs = fields_at r h p in
    verdict_of (bind (bind (all_stand new 2 fs) (λ _. counted (length (sent fs)) 2 fs)) (λ _. trees_stand new 2 fs))
