-- An INAS loaded: what the workspace and the version hold then. Assumes nothing.
use Prim.Native.Nat.{ℕ, ◌+◌, ◌-◌, ◌*◌, ◌≤◌, ◌<◌}
use mathlib.Core.Path.{◌≡◌, refl, sym, ap, ◌∙◌, subst}
use mathlib.Core.Bool.{true, false}
use mathlib.Core.List.{List, [], ◌∷◌, ◌++◌}
use native.Mathlib.Omega.{arith}
use lib.ListN.{length, take, drop, length-take, length-drop}
use Rattle.base.specs.Check.{passed, pass}
use Rattle.base.specs.Lists.{each, Each}
use Rattle.base.proofs.ListLaws.{each_append}
use Rattle.base.proofs.EachLaws.{each_join}
use Rattle.skeleton.specs.Place.{between}
use Rattle.skeleton.proofs.ReadLaws.{bytes_between}
use Rattle.skeleton.proofs.BetweenLaws.{length_between}
use Rattle.fields.specs.Table.{head_of, tuple_of}
use Rattle.fields.specs.Content.{fill}
use Rattle.fields.specs.declared.Format.TheVariants.{InasNew}
use Rattle.rules.specs.Tags.{INAS}
use Rattle.rules.specs.Content.{inas_format, format_of}
use Rattle.rules.specs.Trees.{inas_tree, tree_stands}
use Rattle.rules.specs.Record.{Rec, Assoc, assoc_of}
use Rattle.rules.specs.Written.{field_as}
use Rattle.rules.specs.Coordinates.{is_coordinates}
use Rattle.items.specs.Items.{source}
use Rattle.cells.specs.Cells.{bodies_of, fields_size}
use Rattle.cells.proofs.InasLaws.{inas_bytes}
use Rattle.cells.proofs.LengthLaws.{size_joined}
use Rattle.version.specs.Areas.{list_area, inas_area, spas_area}
use Rattle.version.specs.Held.{RightInas, inas_now, Held}
use Rattle.version.specs.declared.Version.{Version}
use Rattle.version.proofs.AreaLaws.{lent, lent_same, lent_behind, lent_before, lent_after}
use Rattle.loading.specs.Taken.{take_parts, take_field}
use Rattle.loading.specs.Loads.{Loads, Took}
use Rattle.loading.proofs.KeptLaws.{attributes_kept, coords_kept, spatials_kept, spas_kept, held_with}

module _ (b : List ℕ) (from to : ℕ) (v : Version) (w : List ℕ) (l : Loads b INAS from to v w) where
  abbrev inas_body : List ℕ
  inas_body = between b from to

  inas_fill : fill (head_of InasNew) (tuple_of InasNew) (between b from to) ≡ true
  unfolding format_of inas_format
  inas_fill = l.fits.formed

  inas_tree_lem : passed (inas_tree (between b from to)) ≡ pass
  unfolding tree_stands
  inas_tree_lem = l.fits.treed

  inas_long : 10 ≤ length (between b from to)
  inas_long = inas_bytes false (between b from to) inas_fill

  long_is : length (between b from to) ≡ to - from
  long_is = length_between b from to l.inside

  inas_fits : (7 * v.inas + 7 ≤ 92000) × (to - from < 16777216)
  inas_fits = let a = l.room.inas in let c = length_between b from to l.inside in (omega (arith, inas_long), omega arith)

  inas_area_lem : length (take 92000 (drop 200000 w)) ≡ 92000
  inas_area_lem = let wide : 400000 ≤ length w = l.wide in let rest = length-drop 200000 w in length-take 92000 (drop 200000 w) ∙ omega arith

  pub inas_ready : (from ≤ to) × (to ≤ 16777216) × (to - from < 16777216) × (7 * v.inas + 7 ≤ length (take 92000 (drop 200000 w)))
  inas_ready =
      let small : length b ≤ 16777216 = l.small in
      let inside : to ≤ length b = l.inside in
      let fits = inas_fits in
      (l.runs, omega arith, fits.1, omega (arith, inas_area_lem, fits.0))

  module _ (x : ℕ) (ys : List ℕ) (n : ℕ) (same : length ys ≡ length (take 92000 (drop 200000 w)))
      (s : (n ≡ v.inas + 1) × ((d u : List ℕ) → bodies_of d u ys (v.inas + 1) ≡ bodies_of d u (inas_area w) v.inas ++ (between (source x d u) from to ∷ []))) where
    long : length ys ≡ 92000
    long = same ∙ inas_area_lem

    inas_held : (d u : List ℕ) (r : Rec) → source x d u ≡ b → Held d u w v r → Held d u (lent 200000 92000 ys w) (inas_now v n (v.inasbytes + (to - from) + 1)) (take_field (field_as INAS inas_body) r)
    unfolding take_field take_parts is_coordinates each Each
    inas_held d u r e h =
        let wide : 400000 ≤ length w = l.wide in
        let o : List ℕ = lent 200000 92000 ys w in
        let list : list_area o ≡ list_area w = lent_before 200000 92000 ys w long (omega arith) 0 200000 (omega arith) in
        let inas : inas_area o ≡ ys = lent_same 200000 92000 ys w long (omega arith) in
        let spas : spas_area o ≡ spas_area w = lent_after 200000 92000 ys w long (omega arith) 292000 94000 (omega arith) in
        let old : List (List ℕ) = bodies_of d u (inas_area w) v.inas in
        let is : bodies_of d u (inas_area o) n ≡ old ++ (inas_body ∷ []) =
        ap (λ (a : List ℕ). bodies_of d u a n) inas ∙ ap (bodies_of d u ys) s.0 ∙ s.1 d u ∙ ap (λ (c : List ℕ). old ++ (between c from to ∷ [])) e in
        let right : RightInas inas_body = record { bytes = bytes_between b from to l.bytes; filled = inas_fill; tree = inas_tree_lem } in
        let p = h.parts in
        let fits = inas_fits in
        let more : n ≡ v.inas + 1 = s.0 in
        held_with d u w o v r v.attr n v.coord v.spas v.attrbytes (v.inasbytes + (to - from) + 1) (take_parts (field_as INAS inas_body) r.parts) h (record {
          attributes = attributes_kept d u w o v r.parts p list;
          associations = ap (λ (k : List Assoc). k ++ (assoc_of inas_body ∷ [])) p.associations ∙ sym (ap (each assoc_of) is ∙ each_append assoc_of old (inas_body ∷ []));
          inas_right = subst (Each RightInas) (sym is) (each_join RightInas old (inas_body ∷ []) p.inas_right (right, tt));
          coordinates = coords_kept d u w o v r.parts p list;
          spatial = spatials_kept d u w o v r.parts p spas;
          spas_right = spas_kept d u w o v r.parts p spas;
          attr_room = p.attr_room;
          inas_room = omega (arith, fits.0);
          coord_room = p.coord_room;
          spas_room = p.spas_room;
          attr_sized = p.attr_sized;
          inas_sized = omega (arith, p.inas_sized, long_is, ap fields_size is, size_joined old inas_body);
          no_tree = p.no_tree;
          no_coord = p.no_coord;
        })

    pub inas_took : Took b x (field_as INAS inas_body) w v (lent 200000 92000 ys w) (inas_now v n (v.inasbytes + (to - from) + 1))
    inas_took =
        let wide : 400000 ≤ length w = l.wide in
        let more : n ≡ v.inas + 1 = s.0 in
        record {
          held = inas_held;
          room = λ m r. record { inas = omega (arith, r.inas, inas_long); coord = omega (arith, r.coord); spas = omega (arith, r.spas); bytes = omega (arith, r.bytes, long_is) };
          kind = refl;
          others = lent_behind 200000 92000 ys w long (omega arith) 386000 (omega arith);
        }
