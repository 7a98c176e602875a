-- What a field that is loaded leaves as it was. Assumes nothing.
use Prim.Native.Nat.{ℕ, ◌*◌, ◌≤◌}
use mathlib.Core.Path.{◌≡◌, sym, ap, ◌∙◌, subst}
use mathlib.Core.List.{List}
use native.Mathlib.Omega.{arith}
use lib.ListN.{length, take, drop, length-take}
use Rattle.base.specs.Lists.{each, Each}
use Rattle.forest.specs.Flat.{flat}
use Rattle.rules.specs.Coordinates.{coords_in}
use Rattle.rules.specs.Record.{Rec, Parts, assoc_of}
use Rattle.items.specs.Items.{its}
use Rattle.cells.specs.Cells.{bodies_of, fields_size, spatial_in}
use Rattle.version.specs.Areas.{list_area, inas_area, spas_area}
use Rattle.version.specs.Held.{RightInas, RightSpas, foid_bodies, sized, HeldParts, Held}
use Rattle.version.specs.declared.Version.{Version}
use Rattle.version.proofs.AreaLaws.{lent, lent_same, lent_behind, lent_after}

-- a field of one part leaves the others as they were
module _ (d u w o : List ℕ) (v : Version) (p : Parts) (h : HeldParts d u w v p) where
  pub attributes_kept : list_area o ≡ list_area w → its d u (list_area o) 0 v.attr ≡ flat 0 p.attributes
  attributes_kept e = ap (λ (a : List ℕ). its d u a 0 v.attr) e ∙ h.attributes

  pub coords_kept : list_area o ≡ list_area w → p.coordinates ≡ coords_in (take (8 * v.coord) (list_area o))
  coords_kept e = h.coordinates ∙ ap (λ (a : List ℕ). coords_in (take (8 * v.coord) a)) (sym e)

  pub assocs_kept : inas_area o ≡ inas_area w → p.associations ≡ each assoc_of (bodies_of d u (inas_area o) v.inas)
  assocs_kept e = h.associations ∙ ap (λ (a : List ℕ). each assoc_of (bodies_of d u a v.inas)) (sym e)

  pub inas_kept : inas_area o ≡ inas_area w → Each RightInas (bodies_of d u (inas_area o) v.inas)
  inas_kept e = subst (λ (a : List ℕ). Each RightInas (bodies_of d u a v.inas)) (sym e) h.inas_right

  pub inas_sized_kept : inas_area o ≡ inas_area w → v.inasbytes ≡ fields_size (bodies_of d u (inas_area o) v.inas)
  inas_sized_kept e = h.inas_sized ∙ ap (λ (a : List ℕ). fields_size (bodies_of d u a v.inas)) (sym e)

  pub spatials_kept : spas_area o ≡ spas_area w → p.spatial ≡ each spatial_in (bodies_of d u (spas_area o) v.spas)
  spatials_kept e = h.spatial ∙ ap (λ (a : List ℕ). each spatial_in (bodies_of d u a v.spas)) (sym e)

  pub spas_kept : spas_area o ≡ spas_area w → Each RightSpas (bodies_of d u (spas_area o) v.spas)
  spas_kept e = subst (λ (a : List ℕ). Each RightSpas (bodies_of d u a v.spas)) (sym e) h.spas_right

-- ---- versions

-- the record with other parts
abbrev pub parted : Rec → Parts → Rec
parted r p = record { kind = r.kind; rcid = r.rcid; code = r.code; rver = r.rver; foid = r.foid; parts = p }

pub held_with : (d u w o : List ℕ) (v : Version) (r : Rec) (a i c s x y : ℕ) (p : Parts) → Held d u w v r → HeldParts d u o (sized v a i c s x y) p
    → Held d u o (sized v a i c s x y) (parted r p)
unfolding foid_bodies
held_with d u w o v r a i c s x y p h q =
    record { kind = h.kind; rcid = h.rcid; code = h.code; rver = h.rver; foid = h.foid; foid_right = h.foid_right; parts = q }

-- ---- the list area, lent

module _ (w ys : List ℕ) (wide : 400000 ≤ length w) where
  pub list_area_lem : length (take 200000 w) ≡ 200000
  list_area_lem = length-take 200000 w ∙ omega arith

  module _ (long : length ys ≡ 200000) where
    pub list_now : list_area (lent 0 200000 ys w) ≡ ys
    list_now = lent_same 0 200000 ys w long (omega arith)

    pub list_inas : inas_area (lent 0 200000 ys w) ≡ inas_area w
    list_inas = lent_after 0 200000 ys w long (omega arith) 200000 92000 (omega arith)

    pub list_spas : spas_area (lent 0 200000 ys w) ≡ spas_area w
    list_spas = lent_after 0 200000 ys w long (omega arith) 292000 94000 (omega arith)

    pub list_others : drop 386000 (lent 0 200000 ys w) ≡ drop 386000 w
    list_others = lent_behind 0 200000 ys w long (omega arith) 386000 (omega arith)
