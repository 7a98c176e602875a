-- The keys of a record's associations, and the answers to number 7 from a field and from a tuple on.
use Rattle.std.specs.Prelude.{ℕ, ◌+◌, ◌*◌, Bool, List, [], ◌∷◌, ◌++◌, take, drop, eqb, Result, Ok, Err}
use Rattle.base.specs.Choice.{both, larger_of}
use Rattle.base.specs.Check.{Check, ok, no, bind, fault}
use Rattle.base.specs.Keys.{among}
use Rattle.base.specs.Lists.{gather}
use Rattle.base.specs.Verdict.{verdict_of}
use Rattle.base.specs.declared.Fault.{Fault}
use Rattle.fields.specs.Bytes.{le}
use Rattle.fields.specs.Table.{tuple_of}
use Rattle.fields.specs.Content.{many}
use Rattle.fields.specs.declared.Format.TheVariants.{Spas}
use Rattle.skeleton.specs.File.{Field}
use Rattle.skeleton.specs.Place.{fields_at}
use Rattle.skeleton.specs.declared.directory.Shape.{Shape}
use Rattle.rules.specs.Associations.{inas_key, spas_keys, field_keys, spas_marks, field_marks, marks, keys_once}
use Rattle.contents.specs.declared.earlier.Key.{Key}
use Rattle.contents.specs.declared.earlier.Key.TheVariants.{Information, Spatial}

-- ---- keys

-- a key's numbers
abbrev pub list_of : Key → List ℕ
list_of (Information x y z w) = x ∷ y ∷ z ∷ w ∷ []
list_of (Spatial x y) = x ∷ y ∷ []

-- the key of an INAS, where its numbers stand
abbrev pub inas_key_at : List ℕ → Key
inas_key_at b = Information (le 1 (drop 0 b)) (le 4 (drop 1 b)) (le 2 (drop 5 b)) (le 2 (drop 7 b))

-- the keys of fields
unfoldable pub keys_in : List Field → List (List ℕ)
keys_in fs = gather field_keys fs

-- ---- earlier keys

-- the tuple at an offset has this key
unfoldable pub tuple_is : List ℕ → ℕ → ℕ → ℕ → Bool
tuple_is b at x y = both (eqb x (le 1 (drop at b))) (eqb y (le 4 (drop (at + 1) b)))

-- one of n tuples from an offset on has it
unfoldable pub has_from : List ℕ → ℕ → ℕ → ℕ → ℕ → Bool
has_from b at n x y = among (x ∷ y ∷ []) (take n (spas_keys (drop at b)))

-- one of n fields from place p on has the key
unfoldable pub seen_from : List ℕ → Shape → ℕ → ℕ → List ℕ → Bool
seen_from r h p n k = among k (keys_in (take n (fields_at r h p)))

-- the keys of n fields from place p on, and of j tuples of the SPAS b behind them
unfoldable pub seen_before : List ℕ → Shape → ℕ → ℕ → List ℕ → ℕ → List (List ℕ)
seen_before r h p n b j = keys_in (take n (fields_at r h p)) ++ take j (spas_keys b)

-- ---- the largest

-- the number of a spatial key; 0 for any other
abbrev pub number_of : List ℕ → ℕ
number_of [] = 0
number_of (x ∷ []) = 0
number_of (x ∷ y ∷ []) = x * 4294967296 + y
number_of (x ∷ y ∷ z ∷ l) = 0

-- the largest of a number and of those of keys
unfoldable pub top_with : ℕ → List (List ℕ) → ℕ
top_with top [] = top
top_with top (k ∷ ks) = top_with (larger_of top (number_of k)) ks

-- ---- answers

-- what the code answers of field i, as a test: each key is new, and the largest number then; or 7 at the tuple
unfoldable pub said_by : ℕ → Result ℕ ℕ → Check ℕ
said_by i (Ok top) = ok top
said_by i (Err j) = no (fault 7 i j)

-- the rules' test of the tuples of the SPAS b from number j + 1 on, behind n fields from place p on; and the largest number then
unfoldable pub spas_from : List ℕ → Shape → ℕ → ℕ → List ℕ → ℕ → ℕ → Check ℕ
spas_from r h p n b j top =
    bind (keys_once (seen_before r h p n b j) (spas_marks (n + 2) (j + 1) (drop j (many (tuple_of Spas) b)))) (λ _. ok (top_with top (drop j (spas_keys b))))

-- the same of the INAS b behind n fields from place p on
unfoldable pub inas_once : List ℕ → Shape → ℕ → ℕ → List ℕ → ℕ → Check ℕ
inas_once r h p n b top =
    bind (keys_once (keys_in (take n (fields_at r h p))) (record { key = inas_key b; field = n + 2; tuple = 0 } ∷ [])) (λ _. ok (top_with top (inas_key b ∷ [])))

-- the same of a field behind n fields from place p on
unfoldable pub field_once : List ℕ → Shape → ℕ → ℕ → ℕ → List ℕ → ℕ → Check ℕ
field_once r h p n t b top =
    let f : Field = record { tag = t; body = b } in
    bind (keys_once (keys_in (take n (fields_at r h p))) (field_marks (n + 2) f)) (λ _. ok (top_with top (field_keys f)))

-- the fields behind n fields from place p on, the second of the record
unfoldable pub once_from : List ℕ → Shape → ℕ → ℕ → Result (Unit {0}) Fault
once_from r h p n = verdict_of (keys_once (keys_in (take n (fields_at r h p))) (marks (n + 2) (drop n (fields_at r h p))))
