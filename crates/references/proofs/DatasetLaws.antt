-- Laws of number 11 of a dataset, record after record. Assumes nothing.
use mathlib.Core.Path.{◌≡◌, refl, sym, ◌∙◌, ap}
use mathlib.Core.List.{List, [], ◌∷◌}
use mathlib.Core.Bool.{Bool, true, false}
use Prim.Native.Nat.{ℕ, ◌+◌, ◌-◌, ◌^◌, ◌≤◌, ◌<◌}
use native.Mathlib.Omega.{arith}
use borrow.Author.Tests.{ltb-true, ltb-false}
use lib.Dec.{ltb}
use lib.ListN.{length, take, drop, replicate}
use Rattle.std.specs.Prelude.{Result, Ok, Err}
use Rattle.base.specs.Choice.{pick}
use Rattle.base.specs.Lists.{each}
use Rattle.base.specs.Check.{no, fault}
use Rattle.base.specs.Keys.{among}
use Rattle.base.specs.declared.Fault.{Fault}
use Rattle.base.proofs.CheckLaws.{refused_is}
use Rattle.base.proofs.ChoiceLaws.{both_hold}
use Rattle.skeleton.specs.File.{Field, records_from}
use Rattle.skeleton.specs.Place.{between, fields_at}
use Rattle.skeleton.specs.Record.{record_at, stated_at}
use Rattle.skeleton.specs.RightFrom.{RightFrom}
use Rattle.skeleton.specs.Shape.{Bounded}
use Rattle.skeleton.specs.declared.leader.Head.{Head}
use Rattle.skeleton.specs.Leader.{stated_of}
use Rattle.skeleton.specs.declared.leader.Broken.{Broken}
use Rattle.skeleton.specs.declared.leader.Broken.TheVariants.{Cut}
use Rattle.skeleton.proofs.RecordLaws.{Right, right}
use Rattle.skeleton.proofs.RightLaws.{right_start}
use Rattle.skeleton.proofs.FileLaws.{records_more}
use Rattle.skeleton.proofs.AgainLaws.{again, again_not, records_some}
use Rattle.rules.specs.Associations.{Mark, marks, number11}
use Rattle.rules.specs.Record.{Rec, key_of}
use Rattle.rules.specs.Outcome.{done, refused}
use Rattle.contents.proofs.VerdictLaws.{says_pass}
use Rattle.keys.specs.Listed.{keys_from}
use Rattle.keys.specs.Look.{Sound}
use Rattle.keys.specs.Numbered.{Numbered}
use Rattle.keys.specs.Standing.{outcome_from, references_from}
use Rattle.keys.specs.Table.{Tails}
use Rattle.keys.proofs.ReferenceLaws.{references_over, references_loose, references_more, passed_sound}
use Rattle.keys.proofs.TableLaws.{tails_same}
use Rattle.references.specs.Readable.{record_readable, every_readable}
use Rattle.references.specs.Named.{Says}
use Rattle.references.specs.Vouched.{Aided}
use Rattle.references.specs.Linked.{said_by, Answers}
use Rattle.references.proofs.ReadableLaws.{passed_readable}
use Rattle.references.proofs.RecordLaws.{part_small}

-- ---- the loop over the records: m records from start on name none that does not exist, and the next begins at p

pub record Reached (f : List ℕ) (start p m : ℕ) : Type 0 where
  pub small : length f ≤ 16777216
  pub inside : p ≤ length f
  pub counted : m ≤ p
  pub clean : (records_from f p).ending ≡ 0
  pub readable : every_readable (records_from f p).items ≡ true
  pub same : (recs : List Rec) → Numbered recs (keys_from f start) → references_from recs f p m ≡ references_from recs f start 0

pub reached_start : (f : List ℕ) (start : ℕ) (t : List ℕ) (n : ℕ) (map v : List ℕ) → Aided f start t n map v → every_readable (records_from f start).items ≡ true
    → Reached f start start 0
reached_start f start t n map v l e =
    let s = l.sound in
    record { small = s.small; inside = s.inside; counted = omega arith; clean = s.clean; readable = e; same = λ recs b. refl }

pub reached_in : (f : List ℕ) (start p m : ℕ) → Reached f start p m → p ≤ length f
reached_in f start p m s = s.inside

reached_over : (f : List ℕ) (start p m : ℕ) → Reached f start p m → length f ≤ p → Answers f start (Ok tt)
unfolding Answers said_by
reached_over f start p m s h recs b = references_over recs f p m _ (s.same recs b) h

-- a test of references that is refused: it is 11
loose_at : (keys : List (List ℕ)) (ms : List Mark) (z : Fault) → number11 keys ms ≡ no z → number11 keys ms ≡ no (fault 11 z.field z.tuple)
unfolding number11
loose_at keys [] z e = absurd (let y : ◌≡◌ {A = ℕ} 0 1 = cc in omega arith)
loose_at keys (m ∷ ms) z e = go (loose_at keys ms z) (among (take 2 m.key) keys) e
  where
    go : (number11 keys ms ≡ no z → number11 keys ms ≡ no (fault 11 z.field z.tuple)) → (t : Bool) → pick t (number11 keys ms) (no (fault 11 m.field m.tuple)) ≡ no z
        → pick t (number11 keys ms) (no (fault 11 m.field m.tuple)) ≡ no (fault 11 z.field z.tuple)
    go later true h = later h
    go later false h =
        let y : fault 11 m.field m.tuple ≡ z = cc in
        ap (λ (x : Fault). no (fault 11 x.field x.tuple)) y

-- where a leader's numbers are read, the file goes on
pub stated_some : (f : List ℕ) (p : ℕ) (h : Result Head Broken) → h ≡ stated_at f p → (d : Head) → h ≡ Ok d → p < length f
unfolding stated_at
stated_some f p h eh d x = go (ltb (length f - p) 24) refl (sym x ∙ eh)
  where
    go : (t : Bool) → ltb (length f - p) 24 ≡ t → Ok d ≡ pick t (Err Cut) (stated_of (drop p f)) → p < length f
    go true e z = absurd (let y : ◌≡◌ {A = ℕ} 0 1 = cc in omega arith)
    go false e z = let k = ltb-false (length f - p) 24 e in omega arith

-- the record at hand, by what its leader says
module _ (f : List ℕ) (start p m : ℕ) (s : Reached f start p m) (h : Result Head Broken) (eh : h ≡ stated_at f p) where
  -- there is none only at the end of the file
  pub reached_ended : (n : Broken) → h ≡ Err n → Answers f start (Ok tt)
  reached_ended n x = go (ltb p (length f)) refl
    where
      go : (t : Bool) → ltb p (length f) ≡ t → Answers f start (Ok tt)
      go true e = absurd (again_not f p (records_some f p (ltb-true p (length f) e) s.clean) h eh n x)
      go false e = reached_over f start p m s (ltb-false p (length f) e)

  module _ (d : Head) (x : h ≡ Ok d) where
    here : p < length f
    here = stated_some f p h eh d x

    found : h ≡ record_at f p
    found = again f p (records_some f p here s.clean) h eh

    whole : Right f p d
    whole = right f p h found d x

    -- its fields, and the records behind it
    abbrev fields : List Field
    fields = fields_at (between f p (p + d.len)) d.shape 24

    apart : (record_readable fields ≡ true) × (every_readable (records_from f (p + d.len)).items ≡ true)
    unfolding every_readable
    apart = both_hold _ _ (rw (records_more f p here h found d x) at s.readable)

    pub record_readable_lem : record_readable fields ≡ true
    record_readable_lem = apart.0

    pub record_bounded : Bounded d.shape
    record_bounded = whole.bounded

    pub record_right : RightFrom (between f p (p + d.len)) d.shape 24
    record_right = right_start f p d.len d.shape (sym found ∙ x)

    pub record_in_lem : p + d.len ≤ length f
    record_in_lem = whole.inside

    pub record_runs : p ≤ p + d.len
    record_runs = omega arith

    pub record_small : length (between f p (p + d.len)) ≤ 16777216
    record_small = part_small f p (p + d.len) 16777216 s.small

    pub record_word : p + d.len < 2 ^ 64
    record_word = let i = record_in_lem in let k = s.small in omega arith

    pub record_counts : m + 1 < 2 ^ 64
    record_counts = let c = s.counted in let k = s.small in omega arith

    pub record_number : m + 4 < 2 ^ 64
    record_number = let c = s.counted in let k = s.small in omega arith

    pub record_falls : length f - (p + d.len) < length f - p
    record_falls = let g = whole.long in let i = here in omega arith

    module _ (v : Result (Unit {0}) Fault) (said : Says f start (marks 1 fields) v) where
      pub record_more : v ≡ Ok tt → Reached f start (p + d.len) (m + 1)
      unfolding Says
      record_more y =
          let g = whole.long in
          let c = s.counted in
          record {
            small = s.small;
            inside = record_in_lem;
            counted = omega arith;
            clean = rw (records_more f p here h found d x) at s.clean;
            readable = apart.1;
            same = λ recs q.
                references_more recs f p m _ (s.same recs q) here h found d x tt
                (says_pass (number11 (each key_of recs) (marks 1 fields)) (sym (said recs q) ∙ y));
          }

      refuses : (z : Fault) → v ≡ Err z → (recs : List Rec) → Numbered recs (keys_from f start) → number11 (each key_of recs) (marks 1 fields) ≡ no z
      unfolding Says
      refuses z y recs q = refused_is (number11 (each key_of recs) (marks 1 fields)) z (sym y ∙ said recs q)

      -- it names what does not stand: the dataset is refused with the record's own fault
      pub record_loose : (z : Fault) → v ≡ Err z → (recs : List Rec) → Numbered recs (keys_from f start) → refused 1 (m + 4) z ≡ references_from recs f start 0
      record_loose z y recs q = references_loose recs f p m _ (s.same recs q) here h found d x z (refuses z y recs q)

      -- which is 11
      pub record_eleven : (z : Fault) → v ≡ Err z → Answers f start (Err (record { rec = m + 4; field = z.field; tuple = z.tuple }))
      unfolding Answers said_by
      record_eleven z y recs q =
          let n = refuses z y recs q in
          let e = loose_at (each key_of recs) (marks 1 fields) z n in
          let w : fault 11 z.field z.tuple ≡ z = cc in
          ap (refused 1 (m + 4)) w ∙ record_loose z y recs q

pub ruleset records_turn =
    (reached_start, reached_in, reached_ended, record_readable_lem, record_bounded, record_right, record_in_lem, record_runs, record_small, record_word, record_counts, record_number, record_falls, record_more, record_eleven)

-- ---- the whole: what 1 to 7 give

module _ (f : List ℕ) (start : ℕ) (passed : outcome_from f start 0 [] ≡ done tt) (small : length f ≤ 16777216) (inside : start ≤ length f) where
  pub loose_sound : Sound f start
  loose_sound = passed_sound f start passed small inside

  -- a table that is not filled yet
  pub loose_table : (n : ℕ) → Tails f start (replicate n start)
  loose_table n = tails_same f start n loose_sound

pub ruleset loose_ways = (loose_sound, loose_table, passed_readable, arith)
