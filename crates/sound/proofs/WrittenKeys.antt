-- The keys in the written fields of a sound record are those of its associations. Assumes nothing.
use Prim.Native.Nat.{ℕ, ◌≤◌, ◌<◌}
use mathlib.Core.Path.{◌≡◌, refl, sym, ap, ap₂, ◌∙◌}
use mathlib.Core.Bool.{true, false}
use mathlib.Core.List.{List, [], ◌∷◌, ◌++◌, append_assoc, append-nil}
use native.Mathlib.Omega.{arith}
use lib.ListN.{length, get_or, drop}
use lib.Dec.{eqb}
use Rattle.base.specs.Lists.{each, gather, Each}
use Rattle.base.specs.Walk.{Got}
use Rattle.skeleton.specs.File.{Field}
use Rattle.fields.specs.Table.{head_of, tuple_of}
use Rattle.fields.specs.Values.{Val, values, num_at, puts, put_all}
use Rattle.fields.specs.Content.{tuples, many}
use Rattle.fields.specs.Valid.{pass_all, pass_each}
use Rattle.fields.specs.Places.{ending_at, all_raw}
use Rattle.fields.specs.declared.Format.TheVariants.{InasNew, Spas, SpasNew}
use Rattle.fields.specs.declared.Sub.TheVariants.{Raw}
use Rattle.fields.proofs.ByteLaws.{le1}
use Rattle.fields.proofs.TupleLaws.{tuples_end}
use Rattle.fields.proofs.FieldLaws.{fills, fill_list}
use Rattle.fields.proofs.EvenLaws.{raw_fill}
use Rattle.fields.proofs.ValueLaws.{head_number}
use Rattle.fields.proofs.WiderLaws.{same, b11, end, row, tuples_wider}
use Rattle.fields.proofs.DecodeLaws.{puts_back, all_back, length_numbers}
use Rattle.rules.specs.Tags.{FOID, ATTR, INAS, SPAS}
use Rattle.rules.specs.Kind.{tag_of}
use Rattle.rules.specs.Content.{inas_format}
use Rattle.rules.specs.Associations.{inas_key, spas_key, field_keys, spas_keys}
use Rattle.rules.specs.Record.{Rec, Parts, Assoc, Spatial}
use Rattle.rules.specs.Modify.{assoc_key, spatial_key}
use Rattle.rules.specs.Written.{field_as, list_field, nums, tree_bytes, assoc_field, spatial_vals, coord_tag, part_fields, written_fields}
use Rattle.rules.specs.declared.Kind.{Kind}
use Rattle.rules.specs.declared.Kind.TheVariants.{Info, Point, Multi, Feature}
use Rattle.sound.specs.Sound.{SoundAssoc, SoundSpatial, SoundRec}
use Rattle.sound.proofs.Values.{all_length, pass_each_lem}

-- ---- an association

-- the head of an association that is written
abbrev pub assoc_vals : Assoc → List Val
assoc_vals a = nums (a.key ++ (1 ∷ []))

-- it begins the field
pub assoc_head : (a : Assoc) → SoundAssoc a → values (head_of InasNew) (assoc_field a).body ≡ assoc_vals a
unfolding assoc_field
assoc_head a s = (puts_back (head_of InasNew) (assoc_vals a) (tree_bytes a.attributes) s.key).1

-- any bytes behind a head are bytes
raw_behind : (b : List ℕ) → ending_at (Raw 1 ∷ []) b 0 ≡ 0
raw_behind b = fill_list (Raw 1 ∷ []) b (raw_fill (Raw 1 ∷ []) (unfold all_raw in refl) (omega arith) b (omega arith))

-- the tenth byte is the instruction
pub assoc_byte : (a : Assoc) → SoundAssoc a → get_or (assoc_field a).body 9 0 ≡ num_at (assoc_vals a) 4
unfolding head_of ending_at assoc_field
assoc_byte a s =
    let b = puts (head_of InasNew) (assoc_vals a) ++ tree_bytes a.attributes in
    let p = puts_back (head_of InasNew) (assoc_vals a) (tree_bytes a.attributes) s.key in
    let n = length (puts (head_of InasNew) (assoc_vals a)) in
    let (l, v) = head_number (head_of InasNew) (Raw 1 ∷ []) b (fills (head_of InasNew) (Raw 1 ∷ []) b n p.0 (raw_behind (drop n b))) 4 9 1 refl refl in
    sym (le1 b 9 l) ∙ sym v ∙ ap (λ (w : List Val). num_at w 4) p.1

-- numbers before others are not fewer than those
nums_length : (l m : List ℕ) → length m ≤ length (nums (l ++ m))
unfolding nums each
nums_length [] [] = omega arith
nums_length [] (x ∷ m) = let h = nums_length [] m in omega arith
nums_length (x ∷ l) m = let h = nums_length l m in omega arith

-- a key of four numbers, and insert behind it
four_numbers : (ks : List ℕ) → pass_all (head_of InasNew) (nums (ks ++ (1 ∷ []))) ≡ true
    → let v = nums (ks ++ (1 ∷ [])) in (num_at v 0 ∷ num_at v 1 ∷ num_at v 2 ∷ num_at v 3 ∷ [] ≡ ks) × (num_at v 4 ≡ 1)
unfolding nums each head_of
four_numbers [] p = absurd (omega (arith, all_length (head_of InasNew) _ p))
four_numbers (a ∷ []) p = absurd (omega (arith, all_length (head_of InasNew) _ p))
four_numbers (a ∷ b ∷ []) p = absurd (omega (arith, all_length (head_of InasNew) _ p))
four_numbers (a ∷ b ∷ c ∷ []) p = absurd (omega (arith, all_length (head_of InasNew) _ p))
four_numbers (a ∷ b ∷ c ∷ d ∷ []) p = (refl, refl)
four_numbers (a ∷ b ∷ c ∷ d ∷ e ∷ ks) p = absurd (omega (arith, nums_length ks (1 ∷ []), all_length (head_of InasNew) _ p))

-- it is read by the format of an insert
pub assoc_format : (a : Assoc) → SoundAssoc a → inas_format false (assoc_field a).body ≡ InasNew
unfolding inas_format
assoc_format a s = rw (assoc_byte a s ∙ (four_numbers a.key s.key).1)

-- its key is read again
pub assoc_key_lem : (a : Assoc) → SoundAssoc a → inas_key (assoc_field a).body ≡ a.key
unfolding inas_key
assoc_key_lem a s = rw (assoc_format a s, assoc_head a s) (four_numbers a.key s.key).0

-- a key has four numbers
pub assoc_four : (a : Assoc) → SoundAssoc a → length a.key ≡ 4
assoc_four a s = ap length (sym (four_numbers a.key s.key).0)

-- ---- spatial associations

-- each has bytes
spatial_some : (s : Spatial) → SoundSpatial s → 0 < length (puts (tuple_of SpasNew) (spatial_vals s))
unfolding tuple_of
spatial_some s p = omega (arith, length_numbers (tuple_of SpasNew) (spatial_vals s) refl p)

-- their values pass
pub spatial_pass : (ss : List Spatial) → Each SoundSpatial ss → pass_each (tuple_of SpasNew) (each spatial_vals ss) ≡ true
spatial_pass ss e = pass_each_lem (tuple_of SpasNew) spatial_vals ss spatial_some e

-- the format of an update takes them too
spatial_wider : (b : List ℕ) → (tuples (tuple_of SpasNew) b).ending ≡ 0 → tuples (tuple_of Spas) b ≡ tuples (tuple_of SpasNew) b
unfolding tuple_of
spatial_wider b e = tuples_wider (row same (row same (row same (row same (row same (row (b11 tt tt) end)))))) b e

-- their tuples are read again
pub spatial_back : (ss : List Spatial) → Each SoundSpatial ss → tuples (tuple_of Spas) (put_all (tuple_of SpasNew) (each spatial_vals ss)) ≡ record { items = each spatial_vals ss; ending = 0 }
spatial_back ss e =
    let b = put_all (tuple_of SpasNew) (each spatial_vals ss) in
    let q = all_back (tuple_of SpasNew) (each spatial_vals ss) (spatial_pass ss e) in
    spatial_wider b (ap (λ (g : Got (List Val)). g.ending) q) ∙ q

-- a key of two numbers before four numbers
two_numbers : (ks : List ℕ) (a b c : ℕ) → pass_all (tuple_of SpasNew) (nums (ks ++ (a ∷ b ∷ c ∷ 1 ∷ []))) ≡ true
    → let v = nums (ks ++ (a ∷ b ∷ c ∷ 1 ∷ [])) in num_at v 0 ∷ num_at v 1 ∷ [] ≡ ks
unfolding nums each tuple_of
two_numbers [] a b c p = absurd (omega (arith, all_length (tuple_of SpasNew) _ p))
two_numbers (x ∷ []) a b c p = absurd (omega (arith, all_length (tuple_of SpasNew) _ p))
two_numbers (x ∷ y ∷ []) a b c p = refl
two_numbers (x ∷ y ∷ z ∷ ks) a b c p = absurd (omega (arith, nums_length ks (a ∷ b ∷ c ∷ 1 ∷ []), all_length (tuple_of SpasNew) _ p))

-- a key is read again
pub spatial_key_lem : (s : Spatial) → SoundSpatial s → spas_key (spatial_vals s) ≡ s.key
unfolding spas_key spatial_vals
spatial_key_lem s p = two_numbers s.key s.ornt s.smin s.smax p

-- it has two numbers
pub spatial_two : (s : Spatial) → SoundSpatial s → length s.key ≡ 2
unfolding spas_key
spatial_two s p = ap length (sym (spatial_key_lem s p))

-- all of them
spatial_keys : (ss : List Spatial) → Each SoundSpatial ss → each spas_key (each spatial_vals ss) ≡ each spatial_key ss
unfolding each Each
spatial_keys [] e = refl
spatial_keys (s ∷ ss) e = ap₂ (λ (k : List ℕ) (l : List (List ℕ)). k ∷ l) (spatial_key_lem s e.0) (spatial_keys ss e.1)

-- ---- the fields of a record

-- the keys of fields joined
keys_join : (a b : List Field) → gather field_keys (a ++ b) ≡ gather field_keys a ++ gather field_keys b
unfolding gather
keys_join [] b = refl
keys_join (f ∷ a) b = ap (λ (l : List (List ℕ)). field_keys f ++ l) (keys_join a b) ∙ sym (append_assoc (field_keys f) (gather field_keys a) (gather field_keys b))

-- a field with another tag has none
other_keys : (t : ℕ) (b : List ℕ) → eqb t INAS ≡ false → eqb t SPAS ≡ false → field_keys (field_as t b) ≡ []
unfolding field_keys
other_keys t b h g = rw (h, g)

-- nor has a list with another tag
list_keys : (t : ℕ) (b : List ℕ) → eqb t INAS ≡ false → eqb t SPAS ≡ false → gather field_keys (list_field t b) ≡ []
unfolding list_field gather
list_keys t [] h g = refl
list_keys t (x ∷ b) h g = rw (other_keys t (x ∷ b) h g)

-- the keys of a list of spatial associations
spas_list : (b : List ℕ) → gather field_keys (list_field SPAS b) ≡ each spas_key (many (tuple_of Spas) b)
unfolding list_field gather many field_keys spas_keys each
spas_list [] = ap (λ (g : Got (List Val)). each spas_key g.items) (sym (tuples_end (tuple_of Spas) [] (omega arith)))
spas_list (x ∷ b) = append-nil (each spas_key (many (tuple_of Spas) (x ∷ b)))

-- the keys of associations
inas_keys : (l : List Assoc) → Each SoundAssoc l → gather field_keys (each assoc_field l) ≡ each assoc_key l
unfolding gather each Each
inas_keys [] e = refl
inas_keys (a ∷ l) e = ap₂ (λ (k : List (List ℕ)) (m : List (List ℕ)). k ++ m) (one a e.0) (inas_keys l e.1)
  where
    one : (a : Assoc) → SoundAssoc a → field_keys (assoc_field a) ≡ a.key ∷ []
    one a s = let e = assoc_key_lem a s in unfold field_keys assoc_field in ap (λ (k : List ℕ). k ∷ []) e

-- the tags of identifiers and coordinates are none of them
tag_others : (k : Kind) → (eqb (tag_of k) INAS ≡ false) × (eqb (tag_of k) SPAS ≡ false) × (eqb (coord_tag k) INAS ≡ false) × (eqb (coord_tag k) SPAS ≡ false)
unfolding tag_of coord_tag
tag_others Info = (refl, refl, refl, refl)
tag_others Point = (refl, refl, refl, refl)
tag_others Multi = (refl, refl, refl, refl)
tag_others Feature = (refl, refl, refl, refl)

-- those of the parts
parts_keys : (k : Kind) (p : Parts) → Each SoundAssoc p.associations → Each SoundSpatial p.spatial
    → gather field_keys (part_fields k p) ≡ each assoc_key p.associations ++ each spatial_key p.spatial
unfolding part_fields many
parts_keys k p a s =
    let (x, y, z, w) = tag_others k in
    keys_join (list_field ATTR (tree_bytes p.attributes)) _
    ∙ ap₂ (λ (u v : List (List ℕ)). u ++ v) (list_keys ATTR (tree_bytes p.attributes) refl refl)
    (keys_join (each assoc_field p.associations) _
    ∙ ap₂ (λ (u v : List (List ℕ)). u ++ v) (inas_keys p.associations a)
    (keys_join (list_field (coord_tag k) _) _
    ∙ ap₂ (λ (u v : List (List ℕ)). u ++ v) (list_keys (coord_tag k) _ z w)
    (spas_list _ ∙ ap (λ (g : Got (List Val)). each spas_key g.items) (spatial_back p.spatial s) ∙ spatial_keys p.spatial s)))

-- those of the record
pub written_keys : (r : Rec) → SoundRec r → gather field_keys (written_fields r) ≡ each assoc_key r.parts.associations ++ each spatial_key r.parts.spatial
unfolding written_fields gather
written_keys r s =
    let (x, y, z, w) = tag_others r.kind in
    ap₂ (λ (u v : List (List ℕ)). u ++ v) (other_keys (tag_of r.kind) _ x y)
    (keys_join (list_field FOID _) _
    ∙ ap₂ (λ (u v : List (List ℕ)). u ++ v) (list_keys FOID _ refl refl) (parts_keys r.kind r.parts s.parts.associations.all s.parts.spatial.all))
