-- Laws of the fields of the record that the workspace holds: how many they are, and how many bytes they have. Assumes nothing.
use Prim.Native.Nat.{ℕ, zero, suc, ◌+◌, ◌*◌, ◌≤◌}
use mathlib.Core.Path.{◌≡◌, refl, sym, ap, ap₂, ◌∙◌}
use mathlib.Core.Bool.{Bool, true, false}
use mathlib.Core.List.{List, [], ◌∷◌, ◌++◌}
use native.Mathlib.Omega.{arith}
use borrow.Author.Tests.{ne_eqb}
use lib.ListN.{length, length-append}
use Rattle.base.specs.Lists.{each}
use Rattle.skeleton.specs.File.{Field}
use Rattle.skeleton.specs.Emit.{sizes}
use Rattle.skeleton.proofs.EmitFieldsLaws.{sizes_append}
use Rattle.rules.specs.Tags.{FOID, ATTR, SPAS}
use Rattle.rules.specs.Kind.{tag_of, coded}
use Rattle.rules.specs.Written.{field_as, list_field, coord_tag}
use Rattle.cells.specs.Cells.{bodies_from, bodies_of}
use Rattle.version.specs.declared.Version.{Version}
use Rattle.writing.specs.Found.{Summed}
use Rattle.emission.specs.Bodies.{inas_fields}
use Rattle.emission.specs.Fields.{ident_part, foid_part, last_fields, version_fields, list_size, list_count, ident_size, foid_size, last_size, last_count, total, Few, Indexed}
use Rattle.emission.specs.declared.measuring.Sizes.{Sizes}
use Rattle.emission.proofs.ListLaws.{size_most, count_most, length_list, sizes_list}
use Rattle.emission.proofs.IdentLaws.{length_ident}

-- ---- numbers

pub foid_most : (n : ℕ) → foid_size n ≤ 8
unfolding foid_size
foid_most zero = omega arith
foid_most (suc n) = let e = ne_eqb (suc n) 0 (λ h. omega arith) in rw e (omega arith)

pub ident_most : (v : Version) → ident_size (coded v.kind) ≤ 10
unfolding ident_size
ident_most v = go (coded v.kind)
  where
    go : (b : Bool) → ident_size b ≤ 10
    go true = omega arith
    go false = omega arith

-- ---- the counts

module _ (v : Version) (few : Few v) (a b : ℕ) where
  pub last_counted : (a ≡ list_count (8 * v.coord)) × (a ≤ 1) → (b ≡ list_count (15 * v.spas)) × (b ≤ 1)
      → (v.inas + a + b ≡ last_count v) × (v.inas + a + b ≤ 100002)
  unfolding last_count
  last_counted x y = (omega (arith, x.0, y.0), omega (arith, few.inas, x.1, y.1))

  pub last_measured : (inas : ℕ) → (a ≡ list_size (8 * v.coord)) × (a ≤ 8 * v.coord + 1) → (b ≡ list_size (15 * v.spas)) × (b ≤ 15 * v.spas + 1)
      → (inas + a + b ≡ last_size v inas) × (inas + a + b ≤ inas + 3000000)
  unfolding last_size
  last_measured inas x y = (omega (arith, x.0, y.0), omega (arith, few.coord, few.spas, x.1, y.1))

module _ (v : Version) (attr foid a b c : ℕ) (f : (foid ≡ foid_size v.foids) × (foid ≤ 8)) where
  pub fields_counted : (a ≡ list_count foid) × (a ≤ 1) → (b ≡ list_count attr) × (b ≤ 1) → (c ≡ last_count v) × (c ≤ 100002)
      → (1 + a + b + c ≡ 1 + list_count (foid_size v.foids) + list_count attr + last_count v) × (1 + a + b + c ≤ 100005)
  fields_counted x y z = (omega (arith, x.0 ∙ ap list_count f.0, y.0, z.0), omega (arith, x.1, y.1, z.1))

pub bytes_counted : (v : Version) (m : Sizes) (foid i a b c : ℕ) → (foid ≡ foid_size v.foids) × (foid ≤ 8) → (i ≡ ident_size (coded v.kind)) × (i ≤ 10)
    → (a ≡ list_size foid) × (a ≤ foid + 1) → (b ≡ list_size m.attr) × (b ≤ m.attr + 1) → (c ≡ last_size v m.inas) × (c ≤ m.inas + 3000000)
    → i + 1 + a + b + c ≡ (total v m).bytes
unfolding total
bytes_counted v m foid i a b c f x y z w = omega (arith, x.0, y.0 ∙ ap list_size f.0, z.0, w.0)

pub summed_up : (v : Version) (m : Sizes) (a b : ℕ)
    → (a ≡ 1 + list_count (foid_size v.foids) + list_count m.attr + last_count v) × (a ≤ 100005) → b ≡ (total v m).bytes
    → record { fields = a; bytes = b } ≡ total v m
unfolding total
summed_up v m a b x y = ap₂ (λ (i j : ℕ). record { fields = i; bytes = j }) x.0 y

-- ---- the fields, counted

pub length_bodies : (d u c : List ℕ) (i n : ℕ) → length (bodies_from d u c i n) ≡ n
unfolding bodies_from
length_bodies d u c i zero = refl
length_bodies d u c i (suc n) = ap suc (length_bodies d u c (i + 1) n)

pub length_inas : (bs : List (List ℕ)) → length (inas_fields bs) ≡ length bs
unfolding inas_fields each
length_inas [] = refl
length_inas (b ∷ bs) = ap suc (length_inas bs)

module _ (d u inas : List ℕ) (v : Version) (c s : List ℕ) (lc : length c ≡ 8 * v.coord) (ls : length s ≡ 15 * v.spas) where
  -- the INAS fields
  abbrev associations : List Field
  associations = inas_fields (bodies_of d u inas v.inas)

  pub last_size_lem : sizes (last_fields d u inas v c s) ≡ last_size v (sizes associations)
  unfolding last_fields last_size
  last_size_lem =
      let f = list_field (coord_tag v.kind) c in
      sizes_append (associations ++ f) (list_field SPAS s)
      ∙ ap₂ (λ (x y : ℕ). x + y) (sizes_append associations f) (sizes_list SPAS s ∙ ap list_size ls)
      ∙ ap (λ (x : ℕ). sizes associations + x + list_size (15 * v.spas)) (sizes_list (coord_tag v.kind) c ∙ ap list_size lc)

  pub last_count_lem : length (last_fields d u inas v c s) ≡ last_count v
  unfolding last_fields last_count
  last_count_lem =
      let i : length associations ≡ v.inas = length_inas (bodies_of d u inas v.inas) ∙ length_bodies d u inas 0 v.inas in
      let a = length_list (coord_tag v.kind) c ∙ ap list_count lc in
      let b = length_list SPAS s ∙ ap list_count ls in
      simp length-append (omega arith)

  module _ (m : Sizes) (k : Indexed d u inas v m) (t : List ℕ) (lt : length t ≡ m.attr) where
    version_count : length (version_fields d u inas v t c s) ≡ (total v m).fields
    unfolding version_fields total
    version_count =
        let a = length_list FOID (foid_part d u v) ∙ ap list_count k.foid_long in
        let b = length_list ATTR t ∙ ap list_count lt in
        simp length-append (omega (arith, last_count_lem))

    version_size : sizes (version_fields d u inas v t c s) ≡ (total v m).bytes
    unfolding version_fields total sizes
    version_size =
        let i : List Field = field_as (tag_of v.kind) (ident_part v) ∷ [] in
        let f = list_field FOID (foid_part d u v) in
        let a = list_field ATTR t in
        let l = last_size_lem ∙ ap (last_size v) (sym k.inas_is) in
        let x = sizes_list FOID (foid_part d u v) ∙ ap list_size k.foid_long in
        let y = sizes_list ATTR t ∙ ap list_size lt in
        omega (arith, sizes_append (i ++ f ++ a) (last_fields d u inas v c s), sizes_append (i ++ f) a, sizes_append i f, length_ident v)

    pub version_summed : Summed (version_fields d u inas v t c s) (total v m)
    version_summed =
        record {
          fields_are = sym version_count;
          bytes_are = sym version_size;
          few = fields_few;
          small = bytes_few;
        }
      where
        fields_few : (total v m).fields ≤ 16777216
        fields_few =
            unfold total last_count in
            omega (
              arith,
              count_most (foid_size v.foids),
              count_most m.attr,
              count_most (8 * v.coord),
              count_most (15 * v.spas),
              k.few.inas,
            )

        bytes_few : (total v m).bytes ≤ 281474993487872
        bytes_few =
            unfold total last_size in
            omega (
              arith,
              ident_most v,
              size_most (foid_size v.foids),
              foid_most v.foids,
              size_most m.attr,
              size_most (8 * v.coord),
              size_most (15 * v.spas),
              k.few.coord,
              k.few.spas,
              k.attr_small,
              k.inas_small,
            )
