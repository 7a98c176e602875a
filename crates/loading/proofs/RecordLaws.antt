-- A record loaded, from its identifier on. Assumes nothing.
use Prim.Native.Nat.{ℕ, ◌+◌, ◌^◌, ◌≤◌, ◌<◌}
use mathlib.Core.Path.{◌≡◌, refl, sym, ap, ◌∙◌, subst}
use mathlib.Core.Bool.{true}
use mathlib.Core.Option.{some}
use mathlib.Core.List.{List, [], ◌∷◌}
use native.Mathlib.Omega.{arith}
use borrow.Author.Tests.{eq-eqb}
use lib.ListN.{length, drop}
use lib.Dec.{eqb}
use Rattle.std.specs.Prelude.{Option, Some, None}
use Rattle.base.specs.Lists.{each, gather, Each}
use Rattle.base.proofs.CheckLaws.{refused}
use Rattle.base.proofs.EachLaws.{each_map}
use Rattle.skeleton.specs.Emit.{size, sizes}
use Rattle.skeleton.specs.File.{Field}
use Rattle.skeleton.specs.Place.{between, place_at, fields_at}
use Rattle.skeleton.specs.Leader.{good}
use Rattle.skeleton.specs.Record.{record_at}
use Rattle.skeleton.specs.Shape.{Bounded}
use Rattle.skeleton.specs.declared.directory.Shape.{Shape}
use Rattle.skeleton.specs.declared.place.Place.{Place}
use Rattle.skeleton.proofs.PlaceLaws.{place_runs, place_in_lem, fields_more, fields_done}
use Rattle.skeleton.proofs.ReadLaws.{bytes_between}
use Rattle.skeleton.proofs.RecordLaws.{right}
use Rattle.skeleton.proofs.BetweenLaws.{length_between}
use Rattle.fields.specs.Values.{put_all}
use Rattle.fields.specs.Valid.{Bytes}
use Rattle.forest.specs.Forest.{Forest, nil, tuples_from, tuples_of}
use Rattle.forest.specs.Flat.{flat}
use Rattle.rules.specs.ByTag.{front}
use Rattle.rules.specs.Kind.{kind_of}
use Rattle.rules.specs.Grammar.{ruin_byte, as_stored, number4}
use Rattle.rules.specs.Record.{Ident, ident_of, rec_of}
use Rattle.rules.specs.Written.{field_as, tree_bytes}
use Rattle.rules.specs.declared.Kind.{Kind}
use Rattle.rules.specs.declared.Mode.TheVariants.{InDataset, InUpdate}
use Rattle.rules.proofs.CoordinateLaws.{coords_none}
use Rattle.sound.proofs.Records.{Stood, Whole, through}
use Rattle.sound.proofs.Changed.{tests}
use Rattle.sound.proofs.FileBytes.{fields_bytes}
use Rattle.sound.proofs.Parts.{attr_nothing, standing_ok}
use Rattle.contents.specs.Fit.{identified}
use Rattle.items.specs.Items.{source}
use Rattle.items.proofs.ItemLaws.{its_end}
use Rattle.cells.specs.Cells.{bodies_from, fields_size}
use Rattle.stock.specs.Stored.{Loadable, stored, inserted}
use Rattle.stock.proofs.FilledLaws.{record_short, record_filled}
use Rattle.version.specs.Held.{foid_bodies, Held}
use Rattle.version.specs.Areas.{list_area}
use Rattle.version.specs.declared.Version.{Version}
use Rattle.loading.specs.Loads.{Fits, LoadsAll, TookAll, opened}
use Rattle.loading.proofs.TakenLaws.{blank, taken_record}

-- ---- what a record passed

-- the identifier f of a stored record of kind k, and the fields behind it
pub record Behind (k : Kind) (f : Field) (fs : List Field) : Type 0 where
  pub named : kind_of f.tag ≡ some k
  pub ident : identified k f.body ≡ true
  pub fits : Each (Fits k) fs
  pub whole : Whole k fs

stood_fits : (k : Kind) (f : Field) → Stood true k f → Fits k f
stood_fits k f s = record { row = s.row; formed = s.formed; treed = s.treed }

-- of a record of a dataset and of one that is inserted
behind : (k : Kind) (f : Field) (fs : List Field) → Each (λ g. Bytes g.body) (f ∷ fs) → Loadable k (f ∷ fs) → Behind k f fs
unfolding as_stored identified front
behind k f fs g (stored s) =
    let t = through InDataset 0 f fs k g s.four s.five s.six in
    record { named = t.kind; ident = t.ident; fits = each_map fs (stood_fits k) t.stood; whole = t.whole refl }
behind k f fs g (inserted e r) =
    let (four, five, six, seven) = tests (f ∷ fs) k e in
    let t = through InUpdate 0 f fs k g four five six in
    let n : eqb (ruin_byte k f.body) 1 ≡ true = eq-eqb (ruin_byte k f.body) 1 r in
    let stood : Each (Stood true k) fs = rw n at t.stood in
    record { named = t.kind; ident = t.ident; fits = each_map fs (stood_fits k) stood; whole = t.whole n }

-- it has an identifier
none_loadable : {X : Type 0} (k : Kind) → Loadable k [] → X
unfolding number4
none_loadable k (stored s) = refused s.four
none_loadable k (inserted e r) = refused (tests [] k e).0

-- ---- nothing but the identifier

pub opened_is : (k : Kind) (i : Ident) (a b c : ℕ) → a ≡ i.rcid → b ≡ i.code → c ≡ i.rver
    → record { kind = k; rcid = a; code = b; rver = c; foids = 0; foid = 0; slice = 0; attr = 0; inas = 0; coord = 0; spas = 0; attrbytes = 0; inasbytes = 0 } ≡ opened k i
unfolding opened
opened_is k i a b c ea eb ec = rw (ea, eb, ec) refl

blank_held : (d u w : List ℕ) (k : Kind) (i : Ident) → Held d u w (opened k i) (blank k i)
unfolding opened blank foid_bodies bodies_from fields_size each gather Each flat tree_bytes tuples_of tuples_from put_all
blank_held d u w k i =
    record {
      kind = refl;
      rcid = refl;
      code = refl;
      rver = refl;
      foid = refl;
      foid_right = tt;
      parts = record {
        attributes = its_end d u (list_area w) 0 0 (omega arith) ∙ sym (ap (flat 0) (standing_ok [] nil attr_nothing));
        associations = refl;
        inas_right = tt;
        coordinates = sym coords_none;
        spatial = refl;
        spas_right = tt;
        attr_room = omega arith;
        inas_room = omega arith;
        coord_room = omega arith;
        spas_room = omega arith;
        attr_sized = ap (λ (t : Forest). length (tree_bytes t)) (sym (standing_ok [] nil attr_nothing));
        inas_sized = refl;
        no_tree = λ e. refl;
        no_coord = λ e. refl;
      };
    }

-- ---- the whole record

module _ (b : List ℕ) (at len : ℕ) (h : Shape) (k : Kind) (w : List ℕ)
    (pre : (record_at b at ≡ good len h) × (length b ≤ 16777216) × (400000 ≤ length w) × Loadable k (fields_at (between b at (at + len)) h 24)) where
  abbrev whole_record : List ℕ
  whole_record = between b at (at + len)

  pub record_inside : at + len ≤ length b
  record_inside = (right b at (record_at b at) refl _ pre.0).inside

  pub record_word : at + len < 2 ^ 64
  record_word = omega (arith, record_inside, pre.1)

  pub record_bounded : Bounded h
  record_bounded = (right b at (record_at b at) refl _ pre.0).bounded

  module _ (g : Bytes b) (e : Option Place) (en : e ≡ place_at (between b at (at + len)) h 24) where
    pub record_some : {X : Type 0} → e ≡ None → X
    record_some y = none_loadable k (subst (Loadable k) (fields_done whole_record h 24 e en y) pre.3)

    module _ (d : Place) (y : e ≡ Some d) where
      abbrev ident : Field
      ident = field_as d.tag (between whole_record d.start d.end)

      abbrev later : List Field
      later = fields_at whole_record h d.next

      all_are : fields_at whole_record h 24 ≡ ident ∷ later
      all_are = fields_more whole_record h 24 e en d y

      facts : Behind k ident later
      facts =
          behind k ident later
          (subst (Each (λ g. Bytes g.body)) all_are (fields_bytes whole_record h (bytes_between b at (at + len) g) 24))
          (subst (Loadable k) all_are pre.3)

      pub ident_ready : (d.start ≤ d.end) × (d.end ≤ length (between b at (at + len))) × (identified k (between (between b at (at + len)) d.start d.end) ≡ true)
      ident_ready = (place_runs whole_record h 24 e en d y, place_in_lem whole_record h 24 e en d y, facts.ident)

      later_short : sizes later ≤ 99999
      unfolding sizes
      later_short =
          let short = record_short b at (record_at b at) refl _ pre.0 in
          let filled = record_filled b at (record_at b at) refl _ pre.0 in
          let long = length_between b at (at + len) record_inside in
          let all : sizes (fields_at whole_record h 24) ≡ size ident + sizes later = ap sizes all_are in
          omega arith

      module _ (v : Version) (ev : v ≡ opened k (ident_of k (between (between b at (at + len)) d.start d.end))) where
        pub later_ready : LoadsAll b at len (fields_at (between b at (at + len)) h d.next) v w
        unfolding opened
        later_ready =
            let short = later_short in
            rw ev (record {
              inside = record_inside;
              small = pre.1;
              bytes = g;
              wide = pre.2;
              fits = facts.fits;
              room = record { inas = omega arith; coord = omega arith; spas = omega arith; bytes = omega arith };
            })

        pub record_held : (x : ℕ) (o : List ℕ) (r : Version) → TookAll b x (fields_at (between b at (at + len)) h d.next) w v o r
            → ((d u : List ℕ) → source x d u ≡ b → Held d u o r (rec_of k (fields_at (between b at (at + len)) h 24))) × (drop 386000 o ≡ drop 386000 w)
        record_held x o r t = (held, t.others)
          where
            held : (d u : List ℕ) → source x d u ≡ b → Held d u o r (rec_of k (fields_at (between b at (at + len)) h 24))
            held s u z =
                let i : Ident = ident_of k (between whole_record d.start d.end) in
                let start-held : Held s u w v (blank k i) = subst (λ (a : Version). Held s u w a (blank k i)) (sym ev) (blank_held s u w k i) in
                let rows = each_map later (λ f q. q.row) facts.fits in
                subst (Held s u o r) (taken_record k ident facts.named later facts.whole rows ∙ ap (rec_of k) (sym all_are)) (t.held s u (blank k i) z start-held)
