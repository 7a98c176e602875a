-- One area of the workspace was lent and has come back: the version holds new parts there, and its old ones elsewhere. Assumes nothing.
use Prim.Native.Nat.{ℕ, ◌*◌, ◌≤◌}
use mathlib.Core.Path.{◌≡◌, refl, sym, ap, ◌∙◌, subst}
use mathlib.Core.Bool.{true, false}
use mathlib.Core.List.{List}
use native.Mathlib.Omega.{arith}
use lib.ListN.{length, take}
use Rattle.base.specs.Lists.{each, Each}
use Rattle.base.proofs.EachLaws.{each_map}
use Rattle.forest.specs.Forest.{Forest}
use Rattle.forest.specs.Flat.{flat}
use Rattle.rules.specs.Coordinates.{Coord, coords_in}
use Rattle.rules.specs.Record.{Parts, Assoc, Spatial, assoc_of}
use Rattle.rules.specs.Modify.{with_associations, with_spatial}
use Rattle.rules.specs.Written.{tree_bytes}
use Rattle.items.specs.Items.{its, items_from}
use Rattle.cells.specs.Cells.{bodies_of, fields_size, spatial_in}
use Rattle.cells.specs.Keys.{InasBody}
use Rattle.version.specs.Areas.{list_area, inas_area, spas_area}
use Rattle.version.specs.Held.{RightInas, RightSpas, takes_tree, HeldParts, sized, attr_now, inas_now, coord_now, spas_now}
use Rattle.version.specs.declared.Version.{Version}
use Rattle.version.proofs.AreaLaws.{lent, lent_same, lent_before, lent_after}
use Rattle.acting.specs.Acted.{SameIdent}

-- ---- lists of bodies

pub inas_every : (bs : List (List ℕ)) → Each RightInas bs → Each InasBody bs
inas_every bs a = each_map bs (λ b r. r.filled) a

-- ---- versions

pub same_ident : (v : Version) (a i c s x y : ℕ) → SameIdent v (sized v a i c s x y)
same_ident v a i c s x y = record { kind = refl; rcid = refl; code = refl; rver = refl; foids = refl; foid = refl; slice = refl }

-- no items are the same anywhere
none_its : (d u x y : List ℕ) → its d u x 0 0 ≡ its d u y 0 0
unfolding its items_from
none_its d u x y = refl

-- ---- areas

module _ (d u w : List ℕ) (v : Version) (p : Parts) (h : HeldParts d u w v p) (wide : 400000 ≤ length w) where
  -- the list area
  pub with_list : (ys : List ℕ) → length ys ≡ 200000 → (m n t : ℕ) (g : Forest) (cs : List Coord) → its d u ys 0 m ≡ flat 0 g → t ≡ length (tree_bytes g) → cs ≡ coords_in (take (8 * n) ys)
      → 8 * m ≤ 200000 → 8 * n ≤ 200000 → (takes_tree v.kind ≡ false → m ≡ 0) → (takes_tree v.kind ≡ true → n ≡ 0)
      → HeldParts d u (lent 0 200000 ys w) (sized v m v.inas n v.spas t v.inasbytes) (record { attributes = g; associations = p.associations; coordinates = cs; spatial = p.spatial })
  with_list ys long m n t g cs ea et ec am cm nt nc =
      let o : List ℕ = lent 0 200000 ys w in
      let list : list_area o ≡ ys = lent_same 0 200000 ys w long (omega arith) in
      let inas : inas_area o ≡ inas_area w = lent_after 0 200000 ys w long (omega arith) 200000 92000 (omega arith) in
      let spas : spas_area o ≡ spas_area w = lent_after 0 200000 ys w long (omega arith) 292000 94000 (omega arith) in
      record {
        attributes = ap (λ (a : List ℕ). its d u a 0 m) list ∙ ea;
        associations = h.associations ∙ ap (λ (a : List ℕ). each assoc_of (bodies_of d u a v.inas)) (sym inas);
        inas_right = subst (λ (a : List ℕ). Each RightInas (bodies_of d u a v.inas)) (sym inas) h.inas_right;
        coordinates = ec ∙ ap (λ (a : List ℕ). coords_in (take (8 * n) a)) (sym list);
        spatial = h.spatial ∙ ap (λ (a : List ℕ). each spatial_in (bodies_of d u a v.spas)) (sym spas);
        spas_right = subst (λ (a : List ℕ). Each RightSpas (bodies_of d u a v.spas)) (sym spas) h.spas_right;
        attr_room = am;
        inas_room = h.inas_room;
        coord_room = cm;
        spas_room = h.spas_room;
        attr_sized = et;
        inas_sized = h.inas_sized ∙ ap (λ (a : List ℕ). fields_size (bodies_of d u a v.inas)) (sym inas);
        no_tree = nt;
        no_coord = nc;
      }

  -- items alone
  pub with_items : takes_tree v.kind ≡ true → (ys : List ℕ) → length ys ≡ 200000 → (m t : ℕ) (g : Forest) → its d u ys 0 m ≡ flat 0 g → t ≡ length (tree_bytes g) → 8 * m ≤ 200000
      → (takes_tree v.kind ≡ false → m ≡ 0)
      → HeldParts d u (lent 0 200000 ys w) (attr_now v m t) (record { attributes = g; associations = p.associations; coordinates = p.coordinates; spatial = p.spatial })
  with_items tree ys long m t g e et am nt =
      let z : v.coord ≡ 0 = h.no_coord tree in
      let c : p.coordinates ≡ coords_in (take (8 * v.coord) ys) =
      h.coordinates ∙ ap (λ (k : ℕ). coords_in (take (8 * k) (list_area w))) z ∙ sym (ap (λ (k : ℕ). coords_in (take (8 * k) ys)) z) in
      with_list ys long m v.coord t g p.coordinates e et c am h.coord_room nt h.no_coord

  -- coordinates alone
  pub with_tuples : takes_tree v.kind ≡ false → (ys : List ℕ) → length ys ≡ 200000 → (n : ℕ) (cs : List Coord) → cs ≡ coords_in (take (8 * n) ys) → 8 * n ≤ 200000
      → (takes_tree v.kind ≡ true → n ≡ 0)
      → HeldParts d u (lent 0 200000 ys w) (coord_now v n) (record { attributes = p.attributes; associations = p.associations; coordinates = cs; spatial = p.spatial })
  with_tuples bare ys long n cs e cm nc =
      let z : v.attr ≡ 0 = h.no_tree bare in
      let a : its d u ys 0 v.attr ≡ flat 0 p.attributes =
      ap (its d u ys 0) z ∙ none_its d u ys (list_area w) ∙ sym (ap (its d u (list_area w) 0) z) ∙ h.attributes in
      with_list ys long v.attr n v.attrbytes p.attributes cs a h.attr_sized e h.attr_room cm h.no_tree nc

  -- the area of INAS
  pub with_inas : (ys : List ℕ) → length ys ≡ 92000 → (m t : ℕ) (ls : List Assoc) → ls ≡ each assoc_of (bodies_of d u ys m) → Each RightInas (bodies_of d u ys m) → 7 * m ≤ 92000
      → t ≡ fields_size (bodies_of d u ys m) → HeldParts d u (lent 200000 92000 ys w) (inas_now v m t) (with_associations ls p)
  with_inas ys long m t ls e a r et =
      let o : List ℕ = lent 200000 92000 ys w in
      let list : list_area o ≡ list_area w = lent_before 200000 92000 ys w long (omega arith) 0 200000 (omega arith) in
      let inas : inas_area o ≡ ys = lent_same 200000 92000 ys w long (omega arith) in
      let spas : spas_area o ≡ spas_area w = lent_after 200000 92000 ys w long (omega arith) 292000 94000 (omega arith) in
      record {
        attributes = ap (λ (x : List ℕ). its d u x 0 v.attr) list ∙ h.attributes;
        associations = e ∙ ap (λ (x : List ℕ). each assoc_of (bodies_of d u x m)) (sym inas);
        inas_right = subst (λ (x : List ℕ). Each RightInas (bodies_of d u x m)) (sym inas) a;
        coordinates = h.coordinates ∙ ap (λ (x : List ℕ). coords_in (take (8 * v.coord) x)) (sym list);
        spatial = h.spatial ∙ ap (λ (x : List ℕ). each spatial_in (bodies_of d u x v.spas)) (sym spas);
        spas_right = subst (λ (x : List ℕ). Each RightSpas (bodies_of d u x v.spas)) (sym spas) h.spas_right;
        attr_room = h.attr_room;
        inas_room = r;
        coord_room = h.coord_room;
        spas_room = h.spas_room;
        attr_sized = h.attr_sized;
        inas_sized = et ∙ ap (λ (x : List ℕ). fields_size (bodies_of d u x m)) (sym inas);
        no_tree = h.no_tree;
        no_coord = h.no_coord;
      }

  -- the area of SPAS
  pub with_spas : (ys : List ℕ) → length ys ≡ 94000 → (m : ℕ) (ss : List Spatial) → ss ≡ each spatial_in (bodies_of d u ys m) → Each RightSpas (bodies_of d u ys m) → 7 * m ≤ 94000
      → HeldParts d u (lent 292000 94000 ys w) (spas_now v m) (with_spatial ss p)
  with_spas ys long m ss e a r =
      let o : List ℕ = lent 292000 94000 ys w in
      let list : list_area o ≡ list_area w = lent_before 292000 94000 ys w long (omega arith) 0 200000 (omega arith) in
      let inas : inas_area o ≡ inas_area w = lent_before 292000 94000 ys w long (omega arith) 200000 92000 (omega arith) in
      let spas : spas_area o ≡ ys = lent_same 292000 94000 ys w long (omega arith) in
      record {
        attributes = ap (λ (x : List ℕ). its d u x 0 v.attr) list ∙ h.attributes;
        associations = h.associations ∙ ap (λ (x : List ℕ). each assoc_of (bodies_of d u x v.inas)) (sym inas);
        inas_right = subst (λ (x : List ℕ). Each RightInas (bodies_of d u x v.inas)) (sym inas) h.inas_right;
        coordinates = h.coordinates ∙ ap (λ (x : List ℕ). coords_in (take (8 * v.coord) x)) (sym list);
        spatial = e ∙ ap (λ (x : List ℕ). each spatial_in (bodies_of d u x m)) (sym spas);
        spas_right = subst (λ (x : List ℕ). Each RightSpas (bodies_of d u x m)) (sym spas) a;
        attr_room = h.attr_room;
        inas_room = h.inas_room;
        coord_room = h.coord_room;
        spas_room = r;
        attr_sized = h.attr_sized;
        inas_sized = h.inas_sized ∙ ap (λ (x : List ℕ). fields_size (bodies_of d u x v.inas)) (sym inas);
        no_tree = h.no_tree;
        no_coord = h.no_coord;
      }
