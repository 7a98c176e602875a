-- Spatial associations of fields that are made of bytes. Assumes nothing.
use Prim.Native.Nat.{ℕ, ◌+◌}
use mathlib.Core.Path.{◌≡◌, refl, sym, ap, ◌∙◌}
use mathlib.Core.Bool.{true}
use mathlib.Core.List.{List, [], ◌∷◌}
use lib.Dec.{eqb}
use Rattle.base.specs.Check.{ok}
use Rattle.base.specs.Choice.{pick}
use Rattle.base.specs.Lists.{each, Each}
use Rattle.base.specs.Keys.{join, leave}
use Rattle.base.proofs.CheckLaws.{bind_inv, ok_inj}
use Rattle.base.proofs.EachLaws.{each_map}
use Rattle.fields.specs.Table.{link, head_of, tuple_of}
use Rattle.fields.specs.Values.{Val, num, num_at}
use Rattle.fields.specs.Content.{many}
use Rattle.fields.specs.Valid.{Bytes, pass_all, Has}
use Rattle.fields.specs.Places.{ending_at}
use Rattle.fields.specs.declared.Format.TheVariants.{Spas}
use Rattle.fields.specs.declared.Sub.TheVariants.{Among, Raw}
use Rattle.fields.proofs.FieldLaws.{fill_list}
use Rattle.fields.proofs.EncodeLaws.{pass_many}
use Rattle.rules.specs.Associations.{spas_key}
use Rattle.rules.specs.Record.{Spatial, spatial_of}
use Rattle.rules.specs.Modify.{spatial_key, act_spas}
use Rattle.rules.specs.Written.{nums, spatial_vals}
use Rattle.sequence.proofs.Tests.{by_bool}
use Rattle.sound.specs.Sound.{SoundSpatial, Apart}
use Rattle.sound.proofs.Values.{nums_from, all_nums, insert_last, each_pass}
use Rattle.sound.proofs.Keys.{joined, left}

-- a tuple that passes, its instruction set to insert
spatial_made : (vs : List Val) → pass_all (tuple_of Spas) vs ≡ true → SoundSpatial (spatial_of vs)
unfolding spatial_vals spatial_of spas_key nums each tuple_of nums_from
spatial_made vs p =
    let q : pass_all (tuple_of Spas) (nums_from 0 6 vs) ≡ true = ap (pass_all (tuple_of Spas)) (sym (all_nums (tuple_of Spas) vs refl p)) ∙ p in
    insert_last (Among 110 115 115 115 ∷ Raw 4 ∷ Among 1 2 255 255 ∷ Raw 4 ∷ Raw 4 ∷ []) link
    (num (num_at vs 0) ∷ num (num_at vs 1) ∷ num (num_at vs 2) ∷ num (num_at vs 3) ∷ num (num_at vs 4) ∷ []) (num (num_at vs 5)) q

-- those of a SPAS
pub spatial_read : (b : List ℕ) → Bytes b → Has Spas b → Each (λ vs. SoundSpatial (spatial_of vs)) (many (tuple_of Spas) b)
unfolding head_of ending_at
spatial_read b g e = each_map (many (tuple_of Spas) b) spatial_made (each_pass (tuple_of Spas) _ (pass_many (tuple_of Spas) b (fill_list (tuple_of Spas) b e) g))

-- spatial associations that can be written, each key once
abbrev Fine : List Spatial → Type 0
Fine ss = Each SoundSpatial ss × Apart [] (each spatial_key ss)

-- what one tuple leaves
spatial_one : (j : ℕ) (vs : List Val) (ss ts : List Spatial) → SoundSpatial (spatial_of vs) → Fine ss
    → pick (eqb (num_at vs 5) 1) (join spatial_key j (spatial_of vs) ss) (leave spatial_key j (spatial_of vs).key ss) ≡ ok ts → Fine ts
spatial_one j vs ss ts v e h =
    by_bool (eqb (num_at vs 5) 1)
    (λ t. joined SoundSpatial spatial_key j (spatial_of vs) ss ts v e.0 e.1 (rw t at h))
    (λ t. left SoundSpatial spatial_key j (spatial_of vs).key ss ts e.0 e.1 (rw t at h))

-- what the tuples of a modify's SPAS leave
pub spatial_acted : (j : ℕ) (vss : List (List Val)) (ss ts : List Spatial) → Each (λ vs. SoundSpatial (spatial_of vs)) vss → Fine ss → act_spas j vss ss ≡ ok ts → Fine ts
unfolding act_spas Each
spatial_acted j [] ss ts v e h = rw (← ok_inj ss ts h) e
spatial_acted j (vs ∷ vss) ss ts v e h =
    let (us, a, b) = bind_inv (pick (eqb (num_at vs 5) 1) (join spatial_key j (spatial_of vs) ss) (leave spatial_key j (spatial_of vs).key ss)) _ ts h in
    spatial_acted (j + 1) vss us ts v.1 (spatial_one j vs ss us v.0 e a) b
