-- The field of a number in the record of a number of a file is, by its tag and its bytes, that of the records that the skeleton finds.
-- Assumes nothing.
use mathlib.Core.Path.{◌≡◌, refl, sym, ap, ◌∙◌}
use mathlib.Core.List.{List, [], ◌∷◌}
use mathlib.Core.Option.{Option, some}
use mathlib.Core.Bool.{Bool, true, false}
use Prim.Native.Nat.{ℕ, ◌+◌, ◌-◌, ◌≤◌, ◌<◌}
use native.Mathlib.Omega.{arith}
use borrow.Author.Tests.{eqb-true, eqb-false, ltb-true, ltb-false}
use lib.Dec.{eqb, ltb}
use lib.ListN.{length, take, drop, length-take}
use lib.Seq.{drop-drop}
use Rattle.std.specs.Prelude.{Option as StdOption, Some, None, Result, Ok, Err}
use Rattle.base.specs.Lists.{each}
use Rattle.base.proofs.WalkLaws.{by_measure}
use Rattle.skeleton.specs.Directory.{Body}
use Rattle.skeleton.specs.File.{Field, cut_out, records_from, records_of}
use Rattle.skeleton.specs.Place.{between, fields_at}
use Rattle.skeleton.specs.Record.{record_at}
use Rattle.skeleton.specs.declared.leader.Head.{Head}
use Rattle.skeleton.specs.declared.leader.Broken.{Broken}
use Rattle.skeleton.proofs.RecordLaws.{record_falls}
use Rattle.skeleton.proofs.FileLaws.{records_over, records_refused, records_more, records_none, records_all}
use Rattle.skeleton.proofs.PlaceLaws.{body_size}
use Rattle.fieldwise.specs.Reader.{passed_from}
use Rattle.fieldwise.specs.Numbered.{numbered, found_of, field_numbered}
use Rattle.fieldwise.specs.InFile.{Lot, lots_from, moved_by, field_within, within_lot, field_from, field_in_file, as_field, among_fields}
use Rattle.fieldwise.specs.declared.numbered.Found.{Found}
use Rattle.fieldwise.proofs.NumberedLaws.{numbered_empty, by_number, found_inside}
use Rattle.fieldwise.proofs.InFileLaws.{lots_over, lots_refused, lots_more}
use Rattle.fieldwise.proofs.CutLaws.{window_cut, record_passed}

-- ---- in a record

-- the n-th of the fields that lie there is the n-th of them by tag and bytes
shown_numbered : (r : List ℕ) (bs : List Body) (n : ℕ) → as_field r (found_of (numbered n bs)) ≡ numbered n (each (cut_out r) bs)
unfolding each cut_out
shown_numbered r [] n = rw (numbered_empty {A = Body} n, numbered_empty {A = Field} n) refl
shown_numbered r (b ∷ bs) n =
    by_number (λ (o : Option Body) (p : Option Field). as_field r (found_of o) ≡ p) n b (cut_out r b) bs (each (cut_out r) bs)
    refl (rw (body_size b.start b.len) refl) (shown_numbered r bs (n - 1))

-- a part of a part of the file is a part of the file
part_is : (f : List ℕ) (start end x y : ℕ) → x ≤ y → y ≤ end - start → between f (start + x) (start + y) ≡ between (between f start end) x y
part_is f start end x y l i =
    let e : start + y - (start + x) ≡ y - x = omega arith in
    rw e (sym (window_cut x (y - x) (end - start) (drop start f) (omega arith) ∙ ap (take (y - x)) (drop-drop x start f)))

moved_shown : (f : List ℕ) (start end n : ℕ) (e : StdOption Found) → e ≡ field_numbered (between f start end) n → as_field f (moved_by start e) ≡ as_field (between f start end) e
moved_shown f start end n (Some e) k =
    let i = found_inside (between f start end) n (Some e) k e refl in
    ap (λ (b : List ℕ). some (record { tag = e.tag; body = b })) (part_is f start end e.start e.end i.0 (omega (arith, i.1, length-take (end - start) (drop start f))))
moved_shown f start end n None k = refl

within_shown : (f : List ℕ) (start end n : ℕ) → as_field f (field_within f start end n) ≡ numbered n (each (cut_out (between f start end)) (passed_from (between f start end) 24))
unfolding field_within field_numbered
within_shown f start end n =
    moved_shown f start end n (field_numbered (between f start end) n) refl ∙ shown_numbered (between f start end) (passed_from (between f start end) 24) n

-- ---- in a file

abbrev Shown : List ℕ → ℕ → ℕ → Type 0
Shown f n at = (m : ℕ) → as_field f (field_from f at m n) ≡ among_fields n (numbered m (records_from f at).items)

none_shown : (f : List ℕ) (at n : ℕ) → lots_from f at ≡ [] → (records_from f at).items ≡ [] → Shown f n at
unfolding field_from
none_shown f at n x y m = rw (x, y, numbered_empty {A = Lot} m, numbered_empty {A = List Field} m) refl

record_shown : (f : List ℕ) (at n : ℕ) → at < length f → (h : Result Head Broken) → h ≡ record_at f at → ((q : ℕ) → length f - q < length f - at → Shown f n q) → Shown f n at
unfolding field_from
record_shown f at n l (Ok d) e later m =
    rw (lots_more f at l _ e d refl, records_more f at l _ e d refl)
    (by_number (λ (o : Option Lot) (p : Option (List Field)). as_field f (within_lot f n o) ≡ among_fields n p) m
    (record { start = at; end = at + d.len }) (fields_at (between f at (at + d.len)) d.shape 24) (lots_from f (at + d.len)) (records_from f (at + d.len)).items
    refl
    (within_shown f at (at + d.len) n ∙ ap (numbered n) (record_passed f at d e))
    (later (at + d.len) (record_falls f at _ e d refl) (m - 1)))
record_shown f at n l (Err k) e later m =
    none_shown f at n (lots_refused f at l _ e k refl) (rw (records_refused f at l _ e k refl) refl) m

shown_by_lem : (f : List ℕ) (n at : ℕ) (t : Bool) → ltb at (length f) ≡ t → ((q : ℕ) → length f - q < length f - at → Shown f n q) → Shown f n at
shown_by_lem f n at true x later = record_shown f at n (ltb-true at (length f) x) (record_at f at) refl later
shown_by_lem f n at false x later =
    let l = ltb-false at (length f) x in
    none_shown f at n (lots_over f at l) (rw (records_over f at l) refl)

shown_from : (f : List ℕ) (n at : ℕ) → Shown f n at
shown_from f n at = by_measure (λ q. length f - q) (Shown f n) (λ q later. shown_by_lem f n q (ltb q (length f)) refl later) at

-- what `field_of_record` answers
pub shown_in_file : (f : List ℕ) (m n : ℕ) → as_field f (field_in_file f m n) ≡ among_fields n (numbered m (records_of f).items)
shown_in_file f m n = go (eqb (length f) 0) refl
  where
    go : (t : Bool) → eqb (length f) 0 ≡ t → as_field f (field_in_file f m n) ≡ among_fields n (numbered m (records_of f).items)
    go true x =
        let e : length f ≡ 0 = eqb-true (length f) 0 x in
        let o = records_over f 0 (omega arith) in
        rw (records_none f e) (rw o at (shown_from f n 0 m))
    go false x = rw (records_all f (eqb-false (length f) 0 x)) (shown_from f n 0 m)
