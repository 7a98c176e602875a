-- The keys of a field's marks. Assumes nothing.
use mathlib.Core.Path.{◌≡◌, refl, ap}
use mathlib.Core.Bool.{Bool, true, false}
use mathlib.Core.List.{List, [], ◌∷◌}
use Prim.Native.Nat.{ℕ, ◌+◌}
use lib.Dec.{eqb}
use Rattle.base.specs.Choice.{pick}
use Rattle.base.specs.Lists.{each}
use Rattle.fields.specs.Table.{tuple_of}
use Rattle.fields.specs.Content.{many}
use Rattle.fields.specs.Values.{Val}
use Rattle.fields.specs.declared.Format.TheVariants.{Spas}
use Rattle.skeleton.specs.File.{Field}
use Rattle.rules.specs.Tags.{INAS, SPAS}
use Rattle.rules.specs.Associations.{Mark, inas_key, spas_key, spas_keys, field_keys, spas_marks, field_marks}

-- the key of a mark
abbrev pub mark_key : Mark → List ℕ
mark_key m = m.key

-- the marks of a SPAS have the keys of its tuples
pub spas_marked : (i j : ℕ) (vs : List (List Val)) → each mark_key (spas_marks i j vs) ≡ each spas_key vs
unfolding each spas_marks
spas_marked i j [] = refl
spas_marked i j (v ∷ vs) = ap (λ (ks : List (List ℕ)). spas_key v ∷ ks) (spas_marked i (j + 1) vs)

-- the marks of a field have its keys
pub field_marked : (i : ℕ) (f : Field) → each mark_key (field_marks i f) ≡ field_keys f
unfolding each field_marks field_keys spas_keys
field_marked i f = go (eqb f.tag INAS) (eqb f.tag SPAS)
  where
    go : (a b : Bool)
        → each mark_key (pick a (record { key = inas_key f.body; field = i; tuple = 0 } ∷ []) (pick b (spas_marks i 1 (many (tuple_of Spas) f.body)) []))
        ≡ pick a (inas_key f.body ∷ []) (pick b (each spas_key (many (tuple_of Spas) f.body)) [])
    go true b = refl
    go false true = spas_marked i 1 (many (tuple_of Spas) f.body)
    go false false = refl
