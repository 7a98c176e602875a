-- The written form of a sound dataset is made of bytes. Assumes nothing.
use Prim.Native.Nat.{ℕ}
use mathlib.Core.Bool.{true}
use mathlib.Core.List.{List, [], ◌∷◌}
use Rattle.base.specs.Lists.{each, Each}
use Rattle.base.proofs.EachLaws.{each_map, each_join}
use Rattle.skeleton.specs.File.{Field}
use Rattle.fields.specs.Table.{head_of, tuple_of}
use Rattle.fields.specs.Values.{puts}
use Rattle.fields.specs.Valid.{Bytes}
use Rattle.fields.specs.declared.Format.TheVariants.{Foid, AttrNew, InasNew, SpasNew, C2il}
use Rattle.forest.specs.Forest.{Forest, Tup, tuples_of}
use Rattle.rules.specs.Tags.{FOID, ATTR, SPAS}
use Rattle.rules.specs.Coordinates.{Coord}
use Rattle.rules.specs.Content.{ident_format}
use Rattle.rules.specs.Record.{Rec, Assoc, Spatial}
use Rattle.rules.specs.Written.{Dataset, list_field, nums, ident_bytes, tup_vals, tree_bytes, assoc_field, coord_vals, spatial_vals, coord_tag, part_fields, written_fields, written, written_bytes}
use Rattle.updates.proofs.Kept.{of_each}
use Rattle.sound.specs.Sound.{Ranged, SoundAssoc, SoundRec, Sound}
use Rattle.sound.proofs.Trees.{GoodTuple, tuples_good}
use Rattle.sound.proofs.Texts.{TextBytes, bytes_none}
use Rattle.sound.proofs.FileBytes.{Bodies}
use Rattle.sound.proofs.WrittenKeys.{assoc_vals}
use Rattle.roundtrip.proofs.Coordinates.{coord_bytes}
use Rattle.roundtrip.proofs.Spatial.{spatial_bytes}
use Rattle.roundtrip.proofs.Idents.{foid_bytes}
use Rattle.roundtrip.proofs.Low.{Low, low_bytes, low_join, low_puts, low_all, low_emits}

-- numbers have no texts
nums_texts : (ns : List ℕ) → Each TextBytes (nums ns)
unfolding nums each Each
nums_texts [] = tt
nums_texts (n ∷ ns) = (bytes_none, nums_texts ns)

-- what each has that all have
each_all : {A : Type 0} (P : A → Type 0) (l : List A) → ((a : A) → P a) → Each P l
unfolding Each
each_all P [] f = tt
each_all P (x ∷ l) f = (f x, each_all P l f)

-- a tree
tree_low : (f : Forest) → Ranged f → Low (tree_bytes f)
unfolding tree_bytes tuples_of
tree_low f r = low_all (tuple_of AttrNew) tup_vals (tuples_of f) (each_map (tuples_of f) texts (tuples_good [] 0 1 f r))
  where
    texts : (t : Tup) → GoodTuple t → Each TextBytes (tup_vals t)
    texts t g = unfold tup_vals Each in (bytes_none, (bytes_none, (bytes_none, (bytes_none, (g.1.bytes, tt)))))

-- an association
assoc_low : (a : Assoc) → SoundAssoc a → Low (assoc_field a).body
unfolding assoc_field
assoc_low a s = low_join (puts (head_of InasNew) (assoc_vals a)) (tree_bytes a.attributes) (low_puts (head_of InasNew) (assoc_vals a) (nums_texts _)) (tree_low a.attributes s.tree.ranged)

-- coordinates
coord_low : (cs : List Coord) → Low (coord_bytes cs)
coord_low cs = low_all (tuple_of C2il) coord_vals cs (each_all (λ c. Each TextBytes (coord_vals c)) cs texts)
  where
    texts : (c : Coord) → Each TextBytes (coord_vals c)
    texts c = unfold coord_vals Each in (bytes_none, (bytes_none, tt))

-- spatial associations
spatial_low : (ss : List Spatial) → Low (spatial_bytes ss)
unfolding spatial_vals
spatial_low ss = low_all (tuple_of SpasNew) spatial_vals ss (each_all (λ s. Each TextBytes (spatial_vals s)) ss (λ s. nums_texts _))

-- an identifier
ident_low : (r : Rec) → Low (ident_bytes r)
unfolding ident_bytes
ident_low r = low_puts (head_of (ident_format true r.kind)) _ (nums_texts _)

-- a list
list_bodies : (t : ℕ) (b : List ℕ) → Low b → Bodies (list_field t b)
unfolding list_field Each
list_bodies t [] l = tt
list_bodies t (x ∷ b) l = (low_bytes (x ∷ b) l, tt)

-- a record
pub record_bodies : (r : Rec) → SoundRec r → Bodies (written_fields r)
unfolding written_fields part_fields Each
record_bodies r s =
    let p = r.parts in
    let P : Field → Type 0 = λ f. Bytes f.body in (
      low_bytes (ident_bytes r) (ident_low r),
      each_join P (list_field FOID (foid_bytes r.foid)) _ (list_bodies FOID (foid_bytes r.foid) (low_puts (head_of Foid) (nums r.foid) (nums_texts r.foid)))
          (each_join P (list_field ATTR (tree_bytes p.attributes)) _ (list_bodies ATTR (tree_bytes p.attributes) (tree_low p.attributes s.parts.attributes.tree.ranged))
          (each_join P (each assoc_field p.associations) _ (of_each P assoc_field p.associations (each_map p.associations (λ a x. low_bytes (assoc_field a).body (assoc_low a x)) s.parts.associations.all))
          (each_join P (list_field (coord_tag r.kind) (coord_bytes p.coordinates)) _ (list_bodies (coord_tag r.kind) (coord_bytes p.coordinates) (coord_low p.coordinates))
          (list_bodies SPAS (spatial_bytes p.spatial) (spatial_low p.spatial))))),
    )

-- a dataset
pub written_bytes_lem : (d : Dataset) → Sound d → Bytes (written_bytes d)
unfolding written_bytes written Each
written_bytes_lem d s =
    low_bytes (written_bytes d)
    (low_emits 5 5 true (written d)
    (s.descriptive.bodies, (s.general.bodies, (s.systems.bodies, of_each Bodies written_fields d.records (each_map d.records record_bodies s.records)))))
