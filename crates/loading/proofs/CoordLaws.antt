-- A C2IT or a C2IL loaded: what the workspace and the version hold then. Assumes nothing.
use Prim.Native.Nat.{ℕ, ◌+◌, ◌-◌, ◌*◌, ◌≤◌}
use mathlib.Core.Path.{◌≡◌, refl, sym, ap, ◌∙◌, subst}
use mathlib.Core.Bool.{true, true≢false}
use mathlib.Core.List.{List, [], ◌++◌, append-nil}
use native.Mathlib.Omega.{arith}
use borrow.Author.Tests.{eqb-true}
use lib.ListN.{length, take, drop, length-take}
use lib.Seq.{take_all, drop_at}
use lib.Dec.{eqb}
use Rattle.skeleton.specs.Place.{between}
use Rattle.skeleton.proofs.BetweenLaws.{length_between}
use Rattle.fields.specs.Table.{head_of, tuple_of}
use Rattle.fields.specs.Content.{many}
use Rattle.fields.specs.declared.Format.TheVariants.{C2it, C2il}
use Rattle.fields.proofs.FieldLaws.{head_length_lem}
use Rattle.fields.proofs.EvenLaws.{fill_even}
use Rattle.rules.specs.Tags.{C2IT, C2IL}
use Rattle.rules.specs.Content.{format_of}
use Rattle.rules.specs.Coordinates.{Coord, coords_in, is_coordinates}
use Rattle.rules.specs.Record.{Rec}
use Rattle.rules.specs.Written.{field_as}
use Rattle.rules.proofs.CoordinateLaws.{coords_count}
use Rattle.sequence.proofs.Tests.{by_bool}
use Rattle.items.specs.Items.{its}
use Rattle.items.proofs.ItemLaws.{its_end}
use Rattle.coords.specs.Tuples.{tuples_of}
use Rattle.version.specs.Areas.{list_area, inas_area, spas_area}
use Rattle.version.specs.Held.{coord_now, Held}
use Rattle.version.specs.declared.Version.{Version}
use Rattle.version.proofs.AreaLaws.{lent}
use Rattle.version.proofs.RowLaws.{point_row, list_row}
use Rattle.loading.specs.Taken.{take_parts, take_field}
use Rattle.loading.specs.Loads.{Loads, LoadsCoords, Took}
use Rattle.loading.proofs.KeptLaws.{assocs_kept, inas_kept, inas_sized_kept, spatials_kept, spas_kept, parted, held_with, list_area_lem, list_now, list_inas, list_spas, list_others}

-- either tag takes them
coords_taken : (t : ℕ) → is_coordinates t ≡ true → (body : List ℕ) (r : Rec) → parted r (take_parts (field_as C2IL body) r.parts) ≡ take_field (field_as t body) r
unfolding is_coordinates take_field take_parts
coords_taken t q body r =
    by_bool (eqb t C2IT)
    (λ h. ap (λ (c : ℕ). take_field (field_as c body) r) (sym (eqb-true t C2IT h)))
    (λ h. ap (λ (c : ℕ). take_field (field_as c body) r) (sym (eqb-true t C2IL (rw h at q))))

-- tuples put behind all
put_last : (c : ℕ) (xs new : List Coord) → length xs ≡ c → take c xs ++ (new ++ drop c xs) ≡ xs ++ new
put_last c xs new e =
    let none : drop c xs ≡ [] = ap (drop c) (sym (append-nil xs)) ∙ drop_at xs [] c e in
    ap (λ (k : List Coord). k ++ (new ++ drop c xs)) (take_all c xs (omega arith))
    ∙ ap (λ (k : List Coord). xs ++ (new ++ k)) none
    ∙ ap (λ (k : List Coord). xs ++ k) (append-nil new)

module _ (b : List ℕ) (from to : ℕ) (v : Version) (w ys : List ℕ) (n : ℕ)
    (l : LoadsCoords b from to v w) (same : length ys ≡ length (take 200000 w))
    (s : (8 * n ≡ 8 * v.coord + (to - from))
    × (tuples_of ys n ≡ take v.coord (tuples_of (list_area w) v.coord) ++ (coords_in (between b from to) ++ drop v.coord (tuples_of (list_area w) v.coord)))) where
  long : length ys ≡ 200000
  long = same ∙ list_area_lem w ys l.wide

  coords_held : (d u : List ℕ) (r : Rec) → Held d u w v r → Held d u (lent 0 200000 ys w) (coord_now v n) (parted r (take_parts (field_as C2IL (between b from to)) r.parts))
  unfolding take_parts is_coordinates
  coords_held d u r h =
      let wide : 400000 ≤ length w = l.wide in
      let o : List ℕ = lent 0 200000 ys w in
      let inas : inas_area o ≡ inas_area w = list_inas w ys wide long in
      let spas : spas_area o ≡ spas_area w = list_spas w ys wide long in
      let p = h.parts in
      let z : v.attr ≡ 0 = p.no_tree l.plain in
      let room : 8 * v.coord + (to - from) ≤ 99999 = l.room in
      let area_long : length (list_area w) ≡ 200000 = list_area_lem w ys wide in
      let have : length (take (8 * v.coord) (list_area w)) ≡ 8 * v.coord = length-take (8 * v.coord) (list_area w) ∙ omega arith in
      let count : length (tuples_of (list_area w) v.coord) ≡ v.coord = coords_count (take (8 * v.coord) (list_area w)) v.coord have in
      let sum : 8 * n ≡ 8 * v.coord + (to - from) = s.0 in
      held_with d u w o v r v.attr v.inas n v.spas v.attrbytes v.inasbytes (take_parts (field_as C2IL (between b from to)) r.parts) h (record {
        attributes = ap (its d u (list_area o) 0) z ∙ its_end d u (list_area o) 0 0 (omega arith)
            ∙ sym (ap (its d u (list_area w) 0) z ∙ its_end d u (list_area w) 0 0 (omega arith)) ∙ p.attributes;
        associations = assocs_kept d u w o v r.parts p inas;
        inas_right = inas_kept d u w o v r.parts p inas;
        coordinates = ap (λ (k : List Coord). k ++ coords_in (between b from to)) p.coordinates
            ∙ sym (put_last v.coord (tuples_of (list_area w) v.coord) (coords_in (between b from to)) count)
            ∙ sym s.1
            ∙ ap (λ (a : List ℕ). tuples_of a n) (sym (list_now w ys wide long));
        spatial = spatials_kept d u w o v r.parts p spas;
        spas_right = spas_kept d u w o v r.parts p spas;
        attr_room = p.attr_room;
        inas_room = p.inas_room;
        coord_room = omega arith;
        spas_room = p.spas_room;
        attr_sized = p.attr_sized;
        inas_sized = inas_sized_kept d u w o v r.parts p inas;
        no_tree = p.no_tree;
        no_coord = λ q. absurd (true≢false (sym q ∙ l.plain));
      })

  pub coords_took : (x t : ℕ) → is_coordinates t ≡ true → Took b x (field_as t (between b from to)) w v (lent 0 200000 ys w) (coord_now v n)
  coords_took x t q =
      let sum : 8 * n ≡ 8 * v.coord + (to - from) = s.0 in
      let c = length_between b from to l.inside in
      record {
        held = λ d u r e h. subst (Held d u (lent 0 200000 ys w) (coord_now v n)) (coords_taken t q (between b from to) r) (coords_held d u r h);
        room = λ m r. record { inas = omega (arith, r.inas); coord = omega (arith, r.coord); spas = omega (arith, r.spas); bytes = omega (arith, r.bytes) };
        kind = refl;
        others = list_others w ys l.wide long;
      }

-- ---- when they can be loaded

module _ (b : List ℕ) (from to : ℕ) (v : Version) (w : List ℕ) where
  coords_room : (t : ℕ) → Loads b t from to v w → 8 * v.coord + (to - from) ≤ 99999
  coords_room t l = let a = l.room.coord in let c = length_between b from to l.inside in omega arith

  pub point_ready : Loads b C2IT from to v w → LoadsCoords b from to v w
  unfolding format_of head_of tuple_of
  point_ready l =
      let n : length (between b from to) ≡ 8 = head_length_lem (head_of C2it) (between b from to) refl l.fits.formed in
      let c = length_between b from to l.inside in
      record { runs = l.runs; inside = l.inside; even = omega arith; room = coords_room C2IT l; wide = l.wide; plain = point_row v.kind l.fits.row }

  pub list_ready : Loads b C2IL from to v w → LoadsCoords b from to v w
  unfolding format_of head_of tuple_of
  list_ready l =
      let n : length (between b from to) ≡ 8 * length (many (tuple_of C2il) (between b from to)) = fill_even (tuple_of C2il) refl (between b from to) l.fits.formed in
      let c = length_between b from to l.inside in
      record { runs = l.runs; inside = l.inside; even = omega arith; room = coords_room C2IL l; wide = l.wide; plain = list_row v.kind l.fits.row }
