-- The associations of a record, INAS and SPAS, by their keys: number 7 within the record, and number 11.
use Rattle.std.specs.Prelude.{ℕ, ◌+◌, false, List, [], ◌∷◌, ◌++◌, take, eqb}
use Rattle.base.specs.Choice.{pick}
use Rattle.base.specs.Check.{no, fault, Passed, pass}
use Rattle.base.specs.Keys.{among}
use Rattle.base.specs.Lists.{each}
use Rattle.skeleton.specs.File.{Field}
use Rattle.fields.specs.Table.{head_of, tuple_of}
use Rattle.fields.specs.Values.{Val, values, num_at}
use Rattle.fields.specs.Content.{many}
use Rattle.fields.specs.declared.Format.TheVariants.{Spas}
use Rattle.rules.specs.Tags.{INAS, SPAS}
use Rattle.rules.specs.Content.{inas_format}

-- the key of an association, with the field and the tuple that it stands in
pub record Mark : Type 0 where
  pub key : List ℕ
  pub field : ℕ
  pub tuple : ℕ

-- an INAS key: RRNM, RRID, NIAC, NARC
unfoldable pub inas_key : List ℕ → List ℕ
inas_key b = let v = values (head_of (inas_format false b)) b in num_at v 0 ∷ num_at v 1 ∷ num_at v 2 ∷ num_at v 3 ∷ []

-- a SPAS key: RRNM, RRID
unfoldable pub spas_key : List Val → List ℕ
spas_key v = num_at v 0 ∷ num_at v 1 ∷ []

-- the keys of a SPAS
unfoldable pub spas_keys : List ℕ → List (List ℕ)
spas_keys b = each spas_key (many (tuple_of Spas) b)

-- the keys of a field's associations
unfoldable pub field_keys : Field → List (List ℕ)
field_keys f = pick (eqb f.tag INAS) (inas_key f.body ∷ []) (pick (eqb f.tag SPAS) (spas_keys f.body) [])

-- the marks of the tuples, from number j on, of SPAS field i
unfoldable pub spas_marks : ℕ → ℕ → List (List Val) → List Mark
spas_marks i j [] = []
spas_marks i j (v ∷ vs) = record { key = spas_key v; field = i; tuple = j } ∷ spas_marks i (j + 1) vs

-- the marks of field i
unfoldable pub field_marks : ℕ → Field → List Mark
field_marks i f =
    let inas : List Mark = record { key = inas_key f.body; field = i; tuple = 0 } ∷ [] in
    let spas = spas_marks i 1 (many (tuple_of Spas) f.body) in
    pick (eqb f.tag INAS) inas (pick (eqb f.tag SPAS) spas [])

-- the marks of the fields from number i on
unfoldable pub marks : ℕ → List Field → List Mark
marks i [] = []
marks i (f ∷ fs) = field_marks i f ++ marks (i + 1) fs

-- no key is among those seen, or stands twice, else 7
unfoldable pub keys_once : List (List ℕ) → List Mark → Passed
keys_once seen [] = pass
keys_once seen (m ∷ ms) =
    let later = keys_once (m.key ∷ seen) ms in
    pick (among m.key seen) (no (fault 7 m.field m.tuple)) later

-- each association key of a record stands once
unfoldable pub number7 : List Field → Passed
number7 fs = keys_once [] (marks 1 fs)

-- the record that each association names, RRNM and RRID, is among those with these keys, else 11
unfoldable pub number11 : List (List ℕ) → List Mark → Passed
number11 keys [] = pass
number11 keys (m ∷ ms) =
    let later = number11 keys ms in
    pick (among (take 2 m.key) keys) later (no (fault 11 m.field m.tuple))
