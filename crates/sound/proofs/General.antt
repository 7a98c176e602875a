-- The general record of a result: a dataset's and an update's that were read make one that stands in a dataset. Assumes nothing.
use Prim.Native.Nat.{ℕ, ◌+◌, ◌≤◌, ◌<◌}
use mathlib.Core.Path.{◌≡◌, refl, sym, ap, ◌∙◌}
use mathlib.Core.Bool.{Bool, true, false, not, true≢false}
use mathlib.Core.List.{List, [], ◌∷◌, ◌++◌}
use native.Mathlib.Omega.{arith}
use lib.ListN.{length, take}
use lib.Dec.{eqb}
use borrow.Author.Tests.{eqb-true, eq-eqb, not-true}
use Rattle.base.specs.Choice.{both}
use Rattle.base.specs.Check.{bind, pass}
use Rattle.base.specs.Lists.{each, gather, empty, Each}
use Rattle.base.proofs.ChoiceLaws.{by_test, both_hold}
use Rattle.base.proofs.CheckLaws.{bind_inv, refused}
use Rattle.base.proofs.EachLaws.{each_map, each_gathered, each_join}
use Rattle.skeleton.specs.File.{Field}
use Rattle.skeleton.specs.Writable.{TagFits, TagsFit}
use Rattle.fields.specs.Valid.{Bytes}
use Rattle.fields.specs.declared.Format.TheVariants.{Dsid, DsidUpdate}
use Rattle.fields.proofs.WiderLaws.{dsid, format_wider}
use Rattle.rules.specs.Tags.{DSID, general_tags}
use Rattle.rules.specs.ByTag.{with_tag}
use Rattle.rules.specs.Kind.{Row, once, general_rows}
use Rattle.rules.specs.Grammar.{rows_after, in_order}
use Rattle.rules.specs.Content.{stands}
use Rattle.rules.specs.General.{general_format, general_record, newer, merged}
use Rattle.rules.specs.declared.Mode.{Mode}
use Rattle.rules.specs.declared.Mode.TheVariants.{InDataset, InUpdate}
use Rattle.rules.proofs.FilledLaws.{stands_fill}
use Rattle.sequence.proofs.Tests.{by_bool}
use Rattle.sound.specs.Sound.{rowed, Carried}
use Rattle.sound.proofs.Order.{most, order_once}
use Rattle.sound.proofs.Stand.{fill_stands}

-- ---- fields gathered tag by tag stand in order

-- the rows of tags, each at most once
abbrev rows_for : List ℕ → List Row
rows_for ts = each (λ t. once t) ts

-- no tag stands twice
unfoldable distinct : List ℕ → Bool
distinct [] = true
distinct (t ∷ ts) = both (not (rowed t (rows_for ts))) (distinct ts)

-- at most one field, with tag t
record Single (t : ℕ) (fs : List Field) : Type 0 where
  few : length fs ≤ 1
  tagged : Each (λ f. f.tag ≡ t) fs

-- a field has one of the tags
rowed_later : (u t : ℕ) (ts : List ℕ) → rowed u (rows_for ts) ≡ true → rowed u (rows_for (t ∷ ts)) ≡ true
unfolding rowed each
rowed_later u t ts h = by_bool (eqb t u) (λ x. rw x) (λ x. rw x h)

-- fields gathered from tags have those tags
gathered_rowed : (g : ℕ → List Field) (ts : List ℕ) → Each (λ t. Single t (g t)) ts → Each (λ f. rowed f.tag (rows_for ts) ≡ true) (gather g ts)
unfolding Each gather
gathered_rowed g [] e = tt
gathered_rowed g (t ∷ ts) e =
    each_join (λ f. rowed f.tag (rows_for (t ∷ ts)) ≡ true) (g t) (gather g ts)
    (each_map (g t) (λ f q. here f q) e.0.tagged)
    (each_map (gather g ts) (λ f q. rowed_later f.tag t ts q) (gathered_rowed g ts e.1))
  where
    here : (f : Field) → f.tag ≡ t → rowed f.tag (rows_for (t ∷ ts)) ≡ true
    here f q = unfold rowed each in rw (eq-eqb t f.tag (sym q))

-- a row that no field has changes nothing
order_skip : (t : ℕ) (ts : List ℕ) (i : ℕ) (fs : List Field) → rowed t (rows_for ts) ≡ false → Each (λ f. rowed f.tag (rows_for ts) ≡ true) fs
    → in_order (λ u. false) (rows_for ts) i fs ≡ pass → in_order (λ u. false) (rows_for (t ∷ ts)) i fs ≡ pass
unfolding in_order Each each
order_skip t ts i [] n e h = refl
order_skip t ts i (f ∷ fs) n e h = rw (other) h
  where
    other : rows_after f.tag (rows_for (t ∷ ts)) ≡ rows_after f.tag (rows_for ts)
    other =
        unfold rows_after each in
        by_bool (eqb t f.tag)
        (λ x. absurd (true≢false (sym e.0 ∙ ap (λ (u : ℕ). rowed u (rows_for ts)) (sym (eqb-true t f.tag x)) ∙ n)))
        (λ x. rw x)

-- fields gathered tag by tag stand in the order of the tags
gathered_order : (g : ℕ → List Field) (ts : List ℕ) (i : ℕ) → distinct ts ≡ true → Each (λ t. Single t (g t)) ts → in_order (λ u. false) (rows_for ts) i (gather g ts) ≡ pass
unfolding Each gather distinct in_order
gathered_order g [] i d e = refl
gathered_order g (t ∷ ts) i d e =
    let x = both_hold (not (rowed t (rows_for ts))) (distinct ts) d in
    go (g t) e.0 (not-true (rowed t (rows_for ts)) x.0) (gathered_order g ts i x.1 e.1) (gathered_order g ts (i + 1) x.1 e.1) (gathered_rowed g ts e.1)
  where
    go : (l : List Field) → Single t l → rowed t (rows_for ts) ≡ false → in_order (λ u. false) (rows_for ts) i (gather g ts) ≡ pass
        → in_order (λ u. false) (rows_for ts) (i + 1) (gather g ts) ≡ pass → Each (λ f. rowed f.tag (rows_for ts) ≡ true) (gather g ts)
        → in_order (λ u. false) (rows_for (t ∷ ts)) i (l ++ gather g ts) ≡ pass
    go [] s n h h' r = order_skip t ts i (gather g ts) n r h
    go (f ∷ []) s n h h' r =
        unfold Each in
        let a : rows_after f.tag (rows_for (t ∷ ts)) ≡ mathlib.Core.Option.some (rows_for ts) = unfold rows_after each in rw (eq-eqb t f.tag (sym s.tagged.0)) in
        unfold in_order in rw a h'
    go (f ∷ y ∷ l) s n h h' r = let q : length (f ∷ y ∷ l) ≤ 1 = s.few in absurd (omega arith)

-- ---- the merged record

-- the fields with a tag have it
with_tag_lem : (t : ℕ) (fs : List Field) → Each (λ f. f.tag ≡ t) (with_tag t fs)
unfolding with_tag Each
with_tag_lem t [] = tt
with_tag_lem t (f ∷ fs) = by_bool (eqb f.tag t) (λ h. rw h (eqb-true f.tag t h, with_tag_lem t fs)) (λ h. rw h (with_tag_lem t fs))

-- what each field has, each field with a tag has
each_tagged : (Q : Field → Type 0) (t : ℕ) (fs : List Field) → Each Q fs → Each Q (with_tag t fs)
unfolding with_tag Each
each_tagged Q t [] e = tt
each_tagged Q t (f ∷ fs) e = by_bool (eqb f.tag t) (λ h. rw h (e.0, each_tagged Q t fs e.1)) (λ h. rw h (each_tagged Q t fs e.1))

-- a general record that stands, taken apart
record Standing (m : Mode) (fs : List Field) : Type 0 where
  first : Field
  rest : List Field
  is : fs ≡ first ∷ rest
  tag : first.tag ≡ DSID
  order : in_order (λ t. false) general_rows 2 rest ≡ pass
  format : stands 1 (general_format m) first.body ≡ pass

-- so taken
standing : (m : Mode) (fs : List Field) → general_record m fs ≡ pass → Standing m fs
unfolding general_record
standing m [] e = refused e
standing m (f ∷ fs) e =
    by_bool (eqb f.tag DSID)
    (λ h. let (t, a, b) = bind_inv (in_order (λ t. false) general_rows 2 fs) _ tt (rw h at e) in
    record { first = f; rest = fs; is = refl; tag = eqb-true f.tag DSID h; order = a; format = b })
    (λ h. refused (rw h at e))

-- its unread fields, each at most once
single : (m : Mode) (fs : List Field) → Standing m fs → (t : ℕ) → most t general_rows ≡ true → eqb DSID t ≡ false → Single t (with_tag t fs)
unfolding with_tag
single m fs s t o d =
    let h : eqb s.first.tag t ≡ false = ap (λ (u : ℕ). eqb u t) s.tag ∙ d in
    let few : length (with_tag t fs) ≤ 1 = rw (s.is, h) (order_once (λ u. false) t general_rows 2 s.rest o s.order) in
    record { few = few; tagged = with_tag_lem t fs }

-- the general tags may stand once, and are not DSID
tags_fine : Each (λ t. (most t general_rows ≡ true) × (eqb DSID t ≡ false)) general_tags
unfolding Each most general_rows each rowed
tags_fine = ((refl, refl), ((refl, refl), ((refl, refl), ((refl, refl), ((refl, refl), ((refl, refl), ((refl, refl), tt)))))))

-- the newer of two
newer_by : (P : List Field → Type 0) (old new : List Field) (t : ℕ) → P (with_tag t old) → P (with_tag t new) → P (newer old new t)
unfolding newer
newer_by P old new t a b = by_test P (empty (with_tag t new)) (with_tag t old) (with_tag t new) (λ _. a) (λ _. b)

-- the merged record stands in a dataset
pub merged_stands : (old new : List Field) → general_record InDataset old ≡ pass → general_record InUpdate new ≡ pass → general_record InDataset (merged old new) ≡ pass
unfolding merged general_record general_format bind
merged_stands old new e f =
    let a = standing InDataset old e in
    let b = standing InUpdate new f in
    let single-all : Each (λ t. Single t (newer old new t)) general_tags =
    each_map general_tags (λ t q. newer_by (Single t) old new t (single InDataset old a t q.0 q.1) (single InUpdate new b t q.0 q.1)) tags_fine in
    let o = in_rows old new 2 single-all in
    let d = fill_stands 1 Dsid b.first.body (format_wider dsid b.first.body (stands_fill 1 DsidUpdate b.first.body tt (update_format b.first b.format))).0 in
    rw (ap (take 1) b.is) (rw (eq-eqb b.first.tag DSID b.tag, o) d)
  where
    in_rows : (old new : List Field) (i : ℕ) → Each (λ t. Single t (newer old new t)) general_tags → in_order (λ t. false) general_rows i (gather (newer old new) general_tags) ≡ pass
    in_rows old new i s = unfold general_rows in gathered_order (newer old new) general_tags i (unfold distinct rowed each in refl) s

    update_format : (f : Field) → stands 1 (general_format InUpdate) f.body ≡ pass → stands 1 DsidUpdate f.body ≡ pass
    update_format f h = unfold general_format in h

-- ---- it can be carried

-- tags that fit, one by one
pub fits_each : (fs : List Field) → TagsFit fs → Each (λ f. TagFits f.tag) fs
unfolding Each
fits_each [] e = tt
fits_each (f ∷ fs) e = (e.0, fits_each fs e.1)

-- and together
pub each_fits : (fs : List Field) → Each (λ f. TagFits f.tag) fs → TagsFit fs
unfolding Each
each_fits [] e = tt
each_fits (f ∷ fs) e = (e.0, each_fits fs e.1)

-- what each field of both has, each field of the merged record has
merged_each : (Q : Field → Type 0) (old new : List Field) → Each Q old → Each Q new → Each Q (merged old new)
unfolding merged
merged_each Q old new a b =
    each_join Q (take 1 new) (gather (newer old new) general_tags) (first new b)
    (each_gathered Q (newer old new) general_tags (each_map general_tags (λ t _. newer_by (Each Q) old new t (each_tagged Q t old a) (each_tagged Q t new b)) tags_fine))
  where
    first : (l : List Field) → Each Q l → Each Q (take 1 l)
    first [] e = e
    first (x ∷ l) e = unfold Each in (e.0, tt)

-- the merged record can be carried
pub merged_carried : (old new : List Field) → Carried old → Carried new → Carried (merged old new)
unfolding merged
merged_carried old new a b =
    record {
      some = some_first new b.some;
      tags = each_fits (merged old new) (merged_each (λ f. TagFits f.tag) old new (fits_each old a.tags) (fits_each new b.tags));
      bodies = merged_each (λ f. Bytes f.body) old new a.bodies b.bodies;
    }
  where
    some_first : (l : List Field) → 0 < length l → 0 < length (take 1 l ++ gather (newer old new) general_tags)
    some_first [] h = absurd (omega arith)
    some_first (x ∷ l) h = omega arith
