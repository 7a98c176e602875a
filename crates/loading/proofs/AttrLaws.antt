-- An ATTR loaded: what the workspace and the version hold then. Assumes nothing.
use Prim.Native.Nat.{ℕ, ◌-◌, ◌*◌, ◌≤◌, ◌<◌}
use mathlib.Core.Path.{◌≡◌, refl, sym, ap, ◌∙◌}
use mathlib.Core.Bool.{true, true≢false}
use mathlib.Core.List.{List, []}
use native.Mathlib.Omega.{arith}
use lib.ListN.{length, take}
use Rattle.base.specs.Check.{passed, pass}
use Rattle.base.proofs.CheckLaws.{passed_inv}
use Rattle.skeleton.specs.Place.{between}
use Rattle.skeleton.proofs.ReadLaws.{bytes_between}
use Rattle.skeleton.proofs.BetweenLaws.{length_between}
use Rattle.fields.specs.Table.{head_of, tuple_of}
use Rattle.fields.specs.Content.{fill}
use Rattle.fields.specs.declared.Format.TheVariants.{AttrNew}
use Rattle.forest.specs.Forest.{Forest}
use Rattle.forest.specs.Flat.{flat}
use Rattle.rules.specs.Tags.{ATTR}
use Rattle.rules.specs.Content.{format_of}
use Rattle.rules.specs.Coordinates.{coords_in, is_coordinates}
use Rattle.rules.specs.Trees.{attr_tree, tree_stands}
use Rattle.rules.specs.Record.{Rec}
use Rattle.rules.specs.Written.{field_as, tree_bytes}
use Rattle.sound.proofs.Parts.{standing_ok}
use Rattle.writing.proofs.SameBytesLaws.{attr_again}
use Rattle.items.specs.Items.{its, source}
use Rattle.items.specs.Loaded.{Loaded}
use Rattle.version.specs.Areas.{list_area, inas_area, spas_area}
use Rattle.version.specs.Held.{takes_tree, attr_now, Held}
use Rattle.version.specs.declared.Version.{Version}
use Rattle.version.proofs.AreaLaws.{lent}
use Rattle.version.proofs.RowLaws.{tree_row}
use Rattle.loading.specs.Taken.{take_parts, take_field}
use Rattle.loading.specs.Loads.{Loads, Took}
use Rattle.loading.proofs.KeptLaws.{assocs_kept, inas_kept, inas_sized_kept, spatials_kept, spas_kept, held_with, list_area_lem, list_now, list_inas, list_spas, list_others}

module _ (b : List ℕ) (from to : ℕ) (v : Version) (w : List ℕ) (l : Loads b ATTR from to v w) where
  abbrev attr_body : List ℕ
  attr_body = between b from to

  attr_fill : fill (head_of AttrNew) (tuple_of AttrNew) (between b from to) ≡ true
  unfolding format_of
  attr_fill = l.fits.formed

  attr_tree_lem : passed (attr_tree (between b from to)) ≡ pass
  unfolding tree_stands
  attr_tree_lem = l.fits.treed

  attr_fits : to - from ≤ 99999
  attr_fits = let a = l.room.coord in let c = length_between b from to l.inside in omega arith

  pub attr_ready : (from ≤ to) × (to ≤ length b) × (to ≤ 16777216) × (to - from ≤ length (take 200000 w)) × (length (take 200000 w) < 524288)
      × (fill (head_of AttrNew) (tuple_of AttrNew) (between b from to) ≡ true) × (passed (attr_tree (between b from to)) ≡ pass)
  attr_ready =
      let small : length b ≤ 16777216 = l.small in
      let inside : to ≤ length b = l.inside in
      let size : length (take 200000 w) ≡ 200000 = list_area_lem w [] l.wide in
      (l.runs, l.inside, omega arith, omega (arith, attr_fits), omega arith, attr_fill, attr_tree_lem)

  module _ (x : ℕ) (ys : List ℕ) (n : ℕ) (same : length ys ≡ length (take 200000 w)) (s : Loaded b from to x ys n) where
    long : length ys ≡ 200000
    long = same ∙ list_area_lem w ys l.wide

    attr_held : (d u : List ℕ) (r : Rec) → source x d u ≡ b → Held d u w v r → Held d u (lent 0 200000 ys w) (attr_now v n (to - from)) (take_field (field_as ATTR attr_body) r)
    unfolding take_field take_parts is_coordinates
    attr_held d u r e h =
        let o : List ℕ = lent 0 200000 ys w in
        let inas : inas_area o ≡ inas_area w = list_inas w ys l.wide long in
        let spas : spas_area o ≡ spas_area w = list_spas w ys l.wide long in
        let (f, y) = passed_inv (attr_tree attr_body) attr_tree_lem in
        let tree : takes_tree v.kind ≡ true = tree_row v.kind l.fits.row in
        let z : v.coord ≡ 0 = h.parts.no_coord tree in
        let p = h.parts in
        held_with d u w o v r n v.inas v.coord v.spas (to - from) v.inasbytes (take_parts (field_as ATTR attr_body) r.parts) h (record {
          attributes = ap (λ (a : List ℕ). its d u a 0 n) (list_now w ys l.wide long) ∙ s.is d u e f y ∙ ap (flat 0) (sym (standing_ok attr_body f y));
          associations = assocs_kept d u w o v r.parts p inas;
          inas_right = inas_kept d u w o v r.parts p inas;
          coordinates = p.coordinates ∙ ap (λ (m : ℕ). coords_in (take (8 * m) (list_area w))) z ∙ sym (ap (λ (m : ℕ). coords_in (take (8 * m) (list_area o))) z);
          spatial = spatials_kept d u w o v r.parts p spas;
          spas_right = spas_kept d u w o v r.parts p spas;
          attr_room = omega (arith, s.size, attr_fits);
          inas_room = p.inas_room;
          coord_room = p.coord_room;
          spas_room = p.spas_room;
          attr_sized = sym (length_between b from to l.inside)
              ∙ ap length (sym (attr_again attr_body f (bytes_between b from to l.bytes) attr_fill y))
              ∙ ap (λ (t : Forest). length (tree_bytes t)) (sym (standing_ok attr_body f y));
          inas_sized = inas_sized_kept d u w o v r.parts p inas;
          no_tree = λ q. absurd (true≢false (sym tree ∙ q));
          no_coord = p.no_coord;
        })

    pub attr_took : Took b x (field_as ATTR attr_body) w v (lent 0 200000 ys w) (attr_now v n (to - from))
    attr_took =
        record {
          held = attr_held;
          room = λ m r. record { inas = omega (arith, r.inas); coord = omega (arith, r.coord); spas = omega (arith, r.spas); bytes = omega (arith, r.bytes) };
          kind = refl;
          others = list_others w ys l.wide long;
        }
