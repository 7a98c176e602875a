-- Spatial associations of a sound record are read again from their written tuples. Assumes nothing.
use Prim.Native.Nat.{ℕ}
use mathlib.Core.Path.{◌≡◌, refl, sym, ap, ap₂, ◌∙◌}
use mathlib.Core.List.{List, [], ◌∷◌, ◌++◌}
use Rattle.base.specs.Lists.{each, Each}
use Rattle.base.specs.Walk.{Got}
use Rattle.fields.specs.Table.{head_of, tuple_of}
use Rattle.fields.specs.Values.{Val, num_at, put_all}
use Rattle.fields.specs.Content.{many}
use Rattle.fields.specs.Places.{ending_at}
use Rattle.fields.specs.declared.Format.TheVariants.{Spas, SpasNew}
use Rattle.fields.specs.Valid.{Has}
use Rattle.fields.proofs.FieldLaws.{list_fill}
use Rattle.fields.proofs.DecodeLaws.{all_back}
use Rattle.rules.specs.Associations.{spas_key}
use Rattle.rules.specs.Record.{Spatial, spatial_of}
use Rattle.rules.specs.Written.{nums, spatial_vals}
use Rattle.sound.specs.Sound.{SoundSpatial}
use Rattle.sound.proofs.WrittenKeys.{spatial_pass, spatial_back, spatial_key_lem}

-- the bytes of spatial associations
abbrev pub spatial_bytes : List Spatial → List ℕ
spatial_bytes ss = put_all (tuple_of SpasNew) (each spatial_vals ss)

-- the numbers behind a key of two
behind_key : (ks : List ℕ) (a b c : ℕ) (x y : ℕ) → ks ≡ x ∷ y ∷ [] → let v = nums (ks ++ (a ∷ b ∷ c ∷ 1 ∷ [])) in (num_at v 2 ≡ a) × (num_at v 3 ≡ b) × (num_at v 4 ≡ c)
unfolding nums each
behind_key ks a b c x y e = rw e (refl, refl, refl)

-- a spatial association is read again
spatial_one : (s : Spatial) → SoundSpatial s → spatial_of (spatial_vals s) ≡ s
unfolding spatial_of spatial_vals spas_key
spatial_one s p =
    let k = spatial_key_lem s p in
    let (a, b, c) = behind_key s.key s.ornt s.smin s.smax _ _ (sym k) in
    λ i. record { key = k i; ornt = a i; smin = b i; smax = c i }

-- all of them
pub spatial_again : (ss : List Spatial) → Each SoundSpatial ss → each spatial_of (each spatial_vals ss) ≡ ss
unfolding each Each
spatial_again [] e = refl
spatial_again (s ∷ ss) e = ap₂ (λ (x : Spatial) (l : List Spatial). x ∷ l) (spatial_one s e.0) (spatial_again ss e.1)

-- as they are read
pub spatial_many : (ss : List Spatial) → Each SoundSpatial ss → each spatial_of (many (tuple_of Spas) (spatial_bytes ss)) ≡ ss
unfolding many
spatial_many ss e = ap (λ (g : Got (List Val)). each spatial_of g.items) (spatial_back ss e) ∙ spatial_again ss e

-- a SPAS has its format
pub spas_has : (ss : List Spatial) → Each SoundSpatial ss → Has SpasNew (spatial_bytes ss)
unfolding head_of ending_at
spas_has ss e =
    list_fill (tuple_of SpasNew) (spatial_bytes ss) (ap (λ (g : Got (List Val)). g.ending) (all_back (tuple_of SpasNew) (each spatial_vals ss) (spatial_pass ss e)))
