-- Laws of the lines of the records, one after the other. Assumes nothing.
use mathlib.Core.Path.{◌≡◌, refl, sym, ap, ◌∙◌}
use mathlib.Core.List.{List, [], ◌++◌}
use mathlib.Core.Bool.{Bool, true, false}
use Prim.Native.Nat.{ℕ, ◌+◌, ◌-◌, ◌*◌, ◌^◌, ◌≤◌, ◌<◌}
use native.Mathlib.Nat.{add-zero}
use native.Mathlib.Omega.{arith}
use borrow.Author.Tests.{ltb-true, ltb-false}
use lib.Dec.{ltb}
use lib.ListN.{length, length-append}
use Rattle.std.specs.Prelude.{Result, Ok, Err}
use Rattle.base.specs.Lists.{each, Each}
use Rattle.base.specs.Walk.{Got}
use Rattle.memory.specs.Wrote.{Wrote}
use Rattle.memory.proofs.PutLaws.{put_nil, put_put}
use Rattle.memory.proofs.WroteLaws.{wrote_length}
use Rattle.skeleton.specs.File.{Field, records_from}
use Rattle.skeleton.specs.Place.{between, fields_at}
use Rattle.skeleton.specs.Record.{record_at, stated_at}
use Rattle.skeleton.specs.Shape.{Bounded}
use Rattle.skeleton.specs.declared.leader.Head.{Head}
use Rattle.skeleton.specs.declared.leader.Broken.{Broken}
use Rattle.skeleton.proofs.RecordLaws.{Right, right}
use Rattle.skeleton.proofs.FileLaws.{records_over, records_more}
use Rattle.skeleton.proofs.AgainLaws.{again, again_not, records_some}
use Rattle.rules.specs.Listing.{record_line, record_lines}
use Rattle.references.proofs.RecordLaws.{part_small}
use Rattle.references.proofs.DatasetLaws.{stated_some}
use Rattle.listing.specs.Said.{Passed, PassedFrom, record_in}
use Rattle.listing.specs.Lines.{lines_from}
use Rattle.listing.specs.Left.{Left}

-- ---- a run of writes

pub left_all : (at : ℕ) (zs d : List ℕ) → Left at zs d at zs d
left_all at zs d = record { next = refl; is = refl }

pub left_more : (at : ℕ) (zs d : List ℕ) (q : ℕ) (xs ys e : List ℕ) (r : ℕ) (e' : List ℕ) → Left at zs d q (xs ++ ys) e → Wrote q xs e r e' → Left at zs d r ys e'
left_more at zs d q xs ys e r e' l w =
    record { next = omega (arith, l.next, w.next, length-append xs ys); is = rw (w.is, w.next) (put_put q xs ys e) ∙ l.is }

pub left_none : (at : ℕ) (zs d : List ℕ) (q : ℕ) (e : List ℕ) → Left at zs d q [] e → Wrote at zs d q e
left_none at zs d q e l = record { next = sym (add-zero q) ∙ l.next; is = sym (put_nil q e) ∙ l.is }

-- ---- the lines from a record on

pub lines_over : (f : List ℕ) (p n : ℕ) → length f ≤ p → lines_from f p n ≡ []
unfolding lines_from record_lines each
lines_over f p n h = ap (λ (g : Got (List Field)). record_lines n (each record_in g.items)) (records_over f p h)

pub lines_more : (f : List ℕ) (p n : ℕ) → p < length f → (h : Result Head Broken) → h ≡ record_at f p → (d : Head) → h ≡ Ok d
    → lines_from f p n
    ≡ record_line n (record_in (fields_at (between f p (p + d.len)) d.shape 24)) ++ lines_from f (p + d.len) (n + 1)
unfolding lines_from record_lines each
lines_more f p n l h eh d x = ap (λ (g : Got (List Field)). record_lines n (each record_in g.items)) (records_more f p l h eh d x)

-- ---- the loop over the records: the next begins at p and has number n; its line is to stand at q

pub record Reached (f : List ℕ) (start at : ℕ) (d : List ℕ) (p n q : ℕ) (e : List ℕ) : Type 0 where
  pub small : length f ≤ 65536
  pub inside : p ≤ length f
  pub counted : n ≤ p + 4
  pub clean : (records_from f p).ending ≡ 0
  pub passed : PassedFrom f p
  pub room : q ≤ 29 + 5 * p
  pub long : length e ≡ length d
  pub left : Left at (lines_from f start 4) d q (lines_from f p n) e

pub reached_start : (f : List ℕ) (start at : ℕ) (d : List ℕ) → length f ≤ 65536 → start ≤ length f → (records_from f start).ending ≡ 0 → PassedFrom f start → at ≤ 29
    → Reached f start at d start 4 at d
reached_start f start at d s i c p r =
    record { small = s; inside = i; counted = omega arith; clean = c; passed = p; room = omega arith; long = refl; left = left_all at (lines_from f start 4) d }

module _ (f : List ℕ) (start at : ℕ) (d : List ℕ) (p n q : ℕ) (e : List ℕ) (s : Reached f start at d p n q e) where
  pub reached_in : p ≤ length f
  reached_in = s.inside

  pub reached_long : length e ≡ length d
  reached_long = s.long

  reached_over : length f ≤ p → Wrote at (lines_from f start 4) d q e × (q ≤ 327709)
  reached_over h =
      let i = s.inside in let k = s.small in let r = s.room in
      (left_none at (lines_from f start 4) d q e (rw (lines_over f p n h) at s.left), omega arith)

  -- the record at hand, by what its leader says
  module _ (h : Result Head Broken) (eh : h ≡ stated_at f p) where
    -- there is none only at the end of the file
    pub reached_ended : (m : Broken) → h ≡ Err m → Wrote at (lines_from f start 4) d q e × (q ≤ 327709)
    reached_ended m x = go (ltb p (length f)) refl
      where
        go : (t : Bool) → ltb p (length f) ≡ t → Wrote at (lines_from f start 4) d q e × (q ≤ 327709)
        go true y = absurd (again_not f p (records_some f p (ltb-true p (length f) y) s.clean) h eh m x)
        go false y = reached_over (ltb-false p (length f) y)

    module _ (r : Head) (x : h ≡ Ok r) where
      here : p < length f
      here = stated_some f p h eh r x

      found : h ≡ record_at f p
      found = again f p (records_some f p here s.clean) h eh

      whole : Right f p r
      whole = right f p h found r x

      abbrev fields : List Field
      fields = fields_at (between f p (p + r.len)) r.shape 24

      parts : Passed fields × PassedFrom f (p + r.len)
      unfolding PassedFrom Each
      parts = rw (records_more f p here h found r x) at s.passed

      pub record_word : p + r.len < 2 ^ 64
      record_word = let w = whole.inside in let k = s.small in omega arith

      pub record_runs : p ≤ p + r.len
      record_runs = omega arith

      pub record_in_lem : p + r.len ≤ length f
      record_in_lem = whole.inside

      pub record_bounded : Bounded r.shape
      record_bounded = whole.bounded

      pub record_small : length (between f p (p + r.len)) ≤ 65536
      record_small = part_small f p (p + r.len) 65536 s.small

      pub record_passed : Passed fields
      record_passed = parts.0

      pub record_room : q ≤ 400000
      record_room = let i = s.inside in let k = s.small in let r = s.room in omega arith

      pub record_counts : n + 1 < 2 ^ 64
      record_counts = let i = s.inside in let k = s.small in let c = s.counted in omega arith

      pub record_falls : length f - (p + r.len) < length f - p
      record_falls = let g = whole.long in let i = here in omega arith

      lines_on : lines_from f p n ≡ record_line n (record_in fields) ++ lines_from f (p + r.len) (n + 1)
      lines_on = lines_more f p n here h found r x

      pub record_more : (q' : ℕ) (e' : List ℕ) → Wrote q (record_line n (record_in fields)) e q' e' × (q' ≤ q + 110) → Reached f start at d (p + r.len) (n + 1) q' e'
      record_more q' e' w =
          let g = whole.long in let c = s.counted in let o = s.room in
          record {
            small = s.small;
            inside = whole.inside;
            counted = omega arith;
            clean = rw (records_more f p here h found r x) at s.clean;
            passed = parts.1;
            room = omega (arith, w.1);
            long = wrote_length w.0 ∙ s.long;
            left = left_more at (lines_from f start 4) d q (record_line n (record_in fields)) (lines_from f (p + r.len) (n + 1)) e q' e' (rw lines_on at s.left) w.0;
          }

pub ruleset rows_turn =
    (reached_start, reached_in, reached_long, record_word, record_runs, record_in_lem, record_bounded, record_small, record_passed, record_room, record_counts, record_falls)
