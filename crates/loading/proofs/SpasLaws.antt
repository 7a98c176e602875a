-- A SPAS loaded: what the workspace and the version hold then. Assumes nothing.
use Prim.Native.Nat.{ℕ, zero, suc, ◌+◌, ◌-◌, ◌*◌, ◌/◌, ◌%◌, ◌≤◌}
use mathlib.Core.Path.{◌≡◌, refl, sym, ap, ◌∙◌, subst}
use mathlib.Core.Bool.{true}
use mathlib.Core.List.{List, [], ◌∷◌, ◌++◌}
use native.Mathlib.Omega.{arith}
use lib.ListN.{length, take, drop, length-take, length-drop}
use Rattle.base.specs.Lists.{each, Each}
use Rattle.base.proofs.EachLaws.{each_join}
use Rattle.skeleton.specs.Place.{between}
use Rattle.skeleton.proofs.ReadLaws.{bytes_between}
use Rattle.skeleton.proofs.BetweenLaws.{length_between}
use Rattle.fields.specs.Table.{head_of, tuple_of}
use Rattle.fields.specs.Content.{fill, many}
use Rattle.fields.specs.Valid.{Bytes}
use Rattle.fields.specs.declared.Format.TheVariants.{Spas, SpasNew}
use Rattle.fields.proofs.WiderLaws.{spas, format_wider}
use Rattle.rules.specs.Tags.{SPAS}
use Rattle.rules.specs.Content.{format_of}
use Rattle.rules.specs.Record.{Rec, Spatial, spatial_of}
use Rattle.rules.specs.Written.{field_as}
use Rattle.rules.specs.Coordinates.{is_coordinates}
use Rattle.items.specs.Items.{source}
use Rattle.cells.specs.Cells.{bodies_of, spatial_in, tuple_bodies}
use Rattle.cells.specs.Acts.{SpasLoaded}
use Rattle.cells.proofs.TupleLaws.{stored_even}
use Rattle.version.specs.Areas.{list_area, inas_area, spas_area}
use Rattle.version.specs.Held.{RightSpas, spas_now, Held}
use Rattle.version.specs.declared.Version.{Version}
use Rattle.version.proofs.AreaLaws.{lent, lent_same, lent_behind, lent_before}
use Rattle.version.proofs.BodyLaws.{spas_every, spas_all}
use Rattle.loading.specs.Taken.{take_parts, take_field}
use Rattle.loading.specs.Loads.{Loads, Took}
use Rattle.loading.proofs.KeptLaws.{attributes_kept, coords_kept, assocs_kept, inas_kept, inas_sized_kept, held_with}

spas_bytes : (bs : List (List ℕ)) → Each RightSpas bs → Each Bytes bs
unfolding Each
spas_bytes [] a = tt
spas_bytes (b ∷ bs) a = (a.0.bytes, spas_bytes bs a.1)

tuple_bytes_lem : (s : List ℕ) → Bytes s → (k at : ℕ) → Each Bytes (tuple_bodies s at k)
unfolding Each tuple_bodies
tuple_bytes_lem s g zero at = tt
tuple_bytes_lem s g (suc k) at = (bytes_between s at (at + 15) g, tuple_bytes_lem s g k (at + 15))

module _ (b : List ℕ) (from to : ℕ) (v : Version) (w : List ℕ) (l : Loads b SPAS from to v w) where
  abbrev spas_body : List ℕ
  spas_body = between b from to

  spas_fill : fill (head_of SpasNew) (tuple_of SpasNew) (between b from to) ≡ true
  unfolding format_of
  spas_fill = l.fits.formed

  spas_even : (to - from) % 15 ≡ 0
  spas_even = stored_even b from to l.inside spas_fill

  spas_fits : 7 * (v.spas + (to - from) / 15) ≤ 94000
  spas_fits = let a = l.room.spas in let c = length_between b from to l.inside in omega (arith, spas_even)

  spas_area_lem : length (take 94000 (drop 292000 w)) ≡ 94000
  spas_area_lem = let wide : 400000 ≤ length w = l.wide in let rest = length-drop 292000 w in length-take 94000 (drop 292000 w) ∙ omega arith

  pub spas_ready : (from ≤ to) × (to ≤ 16777216) × ((to - from) % 15 ≡ 0) × (7 * (v.spas + (to - from) / 15) ≤ length (take 94000 (drop 292000 w)))
  spas_ready =
      let small : length b ≤ 16777216 = l.small in
      let inside : to ≤ length b = l.inside in
      (l.runs, omega arith, spas_even, omega (arith, spas_area_lem, spas_fits))

  module _ (x : ℕ) (ys : List ℕ) (n : ℕ) (same : length ys ≡ length (take 94000 (drop 292000 w)))
      (s : (n ≡ v.spas + (to - from) / 15) × ((d u : List ℕ) → SpasLoaded d u from to x (spas_area w) v.spas ys n)) where
    long : length ys ≡ 94000
    long = same ∙ spas_area_lem

    spas_held : (d u : List ℕ) (r : Rec) → source x d u ≡ b → Held d u w v r → Held d u (lent 292000 94000 ys w) (spas_now v n) (take_field (field_as SPAS spas_body) r)
    unfolding take_field take_parts is_coordinates
    spas_held d u r e h =
        let wide : 400000 ≤ length w = l.wide in
        let o : List ℕ = lent 292000 94000 ys w in
        let list : list_area o ≡ list_area w = lent_before 292000 94000 ys w long (omega arith) 0 200000 (omega arith) in
        let inas : inas_area o ≡ inas_area w = lent_before 292000 94000 ys w long (omega arith) 200000 92000 (omega arith) in
        let spas-now : spas_area o ≡ ys = lent_same 292000 94000 ys w long (omega arith) in
        let p = h.parts in
        let t = s.1 d u in
        let old : List (List ℕ) = bodies_of d u (spas_area w) v.spas in
        let inside : to ≤ length (source x d u) = subst (λ (a : List ℕ). to ≤ length a) (sym e) l.inside in
        let new : fill (head_of SpasNew) (tuple_of SpasNew) (between (source x d u) from to) ≡ true =
        ap (λ (a : List ℕ). fill (head_of SpasNew) (tuple_of SpasNew) (between a from to)) e ∙ spas_fill in
        let any : fill (head_of Spas) (tuple_of Spas) (between (source x d u) from to) ≡ true = (format_wider spas (between (source x d u) from to) new).0 in
        let k : ℕ = (to - from) / 15 in
        let bytes : Each Bytes (old ++ tuple_bodies (source x d u) from k) =
        each_join Bytes old (tuple_bodies (source x d u) from k) (spas_bytes old p.spas_right) (tuple_bytes_lem (source x d u) (subst Bytes (sym e) l.bytes) k from) in
        let right : Each RightSpas (bodies_of d u ys n) =
        spas_all (bodies_of d u ys n) (t.right new inside (spas_every old p.spas_right)) (subst (Each Bytes) (sym t.bodies) bytes) in
        let fits = spas_fits in
        let more : n ≡ v.spas + (to - from) / 15 = s.0 in
        held_with d u w o v r v.attr v.inas v.coord n v.attrbytes v.inasbytes (take_parts (field_as SPAS spas_body) r.parts) h (record {
          attributes = attributes_kept d u w o v r.parts p list;
          associations = assocs_kept d u w o v r.parts p inas;
          inas_right = inas_kept d u w o v r.parts p inas;
          coordinates = coords_kept d u w o v r.parts p list;
          spatial = ap (λ (q : List Spatial). q ++ each spatial_of (many (tuple_of Spas) spas_body)) p.spatial
              ∙ ap (λ (a : List ℕ). each spatial_in old ++ each spatial_of (many (tuple_of Spas) (between a from to))) (sym e)
              ∙ sym (t.is any inside)
              ∙ ap (λ (a : List ℕ). each spatial_in (bodies_of d u a n)) (sym spas-now);
          spas_right = subst (λ (a : List ℕ). Each RightSpas (bodies_of d u a n)) (sym spas-now) right;
          attr_room = p.attr_room;
          inas_room = p.inas_room;
          coord_room = p.coord_room;
          spas_room = omega arith;
          attr_sized = p.attr_sized;
          inas_sized = inas_sized_kept d u w o v r.parts p inas;
          no_tree = p.no_tree;
          no_coord = p.no_coord;
        })

    pub spas_took : Took b x (field_as SPAS spas_body) w v (lent 292000 94000 ys w) (spas_now v n)
    spas_took =
        let wide : 400000 ≤ length w = l.wide in
        let more : n ≡ v.spas + (to - from) / 15 = s.0 in
        let c = length_between b from to l.inside in
        record {
          held = spas_held;
          room = λ m r. record { inas = omega (arith, r.inas); coord = omega (arith, r.coord); spas = omega (arith, r.spas, spas_even); bytes = omega (arith, r.bytes) };
          kind = refl;
          others = lent_behind 292000 94000 ys w long (omega arith) 386000 (omega arith);
        }
