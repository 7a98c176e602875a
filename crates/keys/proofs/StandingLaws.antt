-- The ways of a loop over the records of a dataset after the third. Its state: the place at of the next record, the number m of those before it,
-- the largest of their keys, and the map of `Once`; x is what the whole comes to. Assumes nothing.
use mathlib.Core.Path.{◌≡◌, refl, sym, ap, ◌∙◌}
use mathlib.Core.List.{List, [], ◌∷◌, ◌++◌}
use mathlib.Core.Bool.{Bool, true, false}
use Prim.Native.Nat.{ℕ, ◌+◌, ◌≤◌, ◌<◌}
use native.Mathlib.Omega.{arith}
use borrow.Author.Tests.{ne_eqb, lt-leb}
use lib.ListN.{length, take, drop, length-drop}
use lib.Seq.{drop-cons}
use Rattle.std.specs.Prelude.{Result, Ok, Err}
use Rattle.base.specs.Choice.{pick, larger_of}
use Rattle.base.specs.Check.{Check, ok, no, bind, fault}
use Rattle.base.specs.Lists.{each}
use Rattle.base.specs.Keys.{among}
use Rattle.base.specs.declared.Fault.{Fault}
use Rattle.memory.specs.Hold.{zeros}
use Rattle.skeleton.specs.File.{Field, records_from}
use Rattle.skeleton.specs.Leader.{number_of}
use Rattle.skeleton.specs.Place.{between, fields_at}
use Rattle.skeleton.specs.Record.{record_at}
use Rattle.skeleton.specs.declared.leader.Head.{Head}
use Rattle.skeleton.specs.declared.leader.Broken.{Broken}
use Rattle.skeleton.proofs.LeaderLaws.{number_some}
use Rattle.skeleton.proofs.RecordLaws.{right}
use Rattle.skeleton.proofs.FileLaws.{records_over, records_refused, records_more}
use Rattle.rules.specs.Associations.{number7}
use Rattle.rules.specs.Record.{Rec, key_named, rec_of, key_of as key_in_rules}
use Rattle.rules.specs.Outcome.{Outcome, done, refused, and_then, at}
use Rattle.rules.specs.File.{last_rank, dataset_test, ending, taken}
use Rattle.rules.proofs.FileLaws.{taken_over, taken_more, test_later}
use Rattle.rules.specs.declared.Kind.{Kind}
use Rattle.keys.specs.Key.{key_at}
use Rattle.keys.specs.Listed.{key_of, keys_from, listed, seen_from}
use Rattle.keys.specs.Map.{kind_in}
use Rattle.keys.specs.Once.{none_above, Once, Comes, Told}
use Rattle.keys.specs.Numbered.{Numbered}
use Rattle.keys.specs.Standing.{four_to_six, unread, outcome_from, Standing}
use Rattle.keys.proofs.FirstLaws.{first_key}
use Rattle.keys.proofs.ListLaws.{listed_none, split_room, split_take, split_drop}
use Rattle.keys.proofs.LookLaws.{keys_past, keys_good}
use Rattle.keys.proofs.OnceLaws.{marks_none, larger_least}
use Rattle.keys.proofs.NumberLaws.{numbered_none, numbered_last}
use Rattle.keys.proofs.PassedLaws.{Placed, placed, read_of, seventh, record_parts}

-- ---- before the fourth record

pub standing_start : (f : List ℕ) (start : ℕ) (x : Outcome (Unit {0})) → outcome_from f start 0 [] ≡ x → Standing f start start 0 0 x
unfolding last_rank
standing_start f start x e = record { seen = []; rest = refl; numbered = numbered_none; last = refl; outcome = e }

pub once_start : (f : List ℕ) (start n : ℕ) → Once f start 0 0 (zeros n)
unfolding none_above seen_from
once_start f start n = record {
  known = record { enough = omega arith; keyed = listed_none 0 };
  none_above = refl;
  marks = marks_none 0 (zeros n);
}

-- ---- what `repeats` says

module _ (f : List ℕ) (start m top k : ℕ) (t t' : List ℕ) (b : Bool) (w : Told f start m top k t t' b) where
  pub told_seen : b ≡ seen_from f start m k
  told_seen = w.told

  pub told_long : (n : ℕ) → length t ≡ n → length t' ≡ n
  told_long n e = w.long ∙ e

  -- the map after a key that did not stand earlier, and top = larger(top, k)
  pub told_once : b ≡ false → (up : ℕ) → up ≡ larger_of top k → Once f start (m + 1) up t'
  told_once x up e = rw e (w.once x)

pub ruleset told_ways = (told_seen, told_long, told_once)

-- ---- the record at hand

module _ (f : List ℕ) (start at' m top : ℕ) (x : Outcome (Unit {0})) (s : Standing f start at' m top x) where
  -- the file has ended
  pub standing_over : length f ≤ at' → done tt ≡ x
  unfolding outcome_from unread ending and_then
  standing_over h =
      let e = taken_over dataset_test 1 3 (m + 4) 0 s.seen in
      let r : unread (ending {A = List Rec} 1 3 (m + 4) 0 []) ≡ x = rw (records_over f at' h, e) at s.outcome in
      simp (lt-leb (m + 4) 3 (omega arith)) at r

  -- and all its records were passed
  pub standing_count : (t : List ℕ) → Once f start m top t → length f ≤ at' → m ≡ length (keys_from f start)
  standing_count t o h =
      let e : length (drop m (keys_from f start)) ≡ 0 = rw (s.rest, keys_past f at' h) refl in
      let g = o.known.enough in
      omega (arith, length-drop m (keys_from f start))

  module _ (l : at' < length f) (h : Result Head Broken) (eh : h ≡ record_at f at') where
    -- the skeleton refuses
    pub standing_refused : (n : Broken) → h ≡ Err n → refused 1 (m + 4) (fault (number_of n) 0 0) ≡ x
    unfolding outcome_from unread ending and_then
    standing_refused n y =
        let e = taken_over dataset_test 1 3 (m + 4) (number_of n) s.seen in
        let w = number_some n in
        let r : unread (ending {A = List Rec} 1 3 (m + 4) (number_of n) []) ≡ x = rw (records_refused f at' l h eh n y, e) at s.outcome in
        simp (ne_eqb (number_of n) 0 (λ z. omega arith)) at r

    module _ (d : Head) (y : h ≡ Ok d) where
      -- its fields
      abbrev fields : List Field
      fields = fields_at (between f at' (at' + d.len)) d.shape 24

      -- what becomes of the file by what becomes of the record
      abbrev after : Check Rec → Outcome (Unit {0})
      after c =
          unread (and_then (at 1 (m + 4) (bind c (λ r. ok (r ∷ [])))) (λ new.
          and_then (taken dataset_test 1 3 (m + 4 + 1) (new ++ s.seen) (records_from f (at' + d.len))) (λ later. done (new ++ later))))

      turn : after (bind (four_to_six (kind_in top) fields) (seventh (each key_in_rules s.seen) fields)) ≡ x
      unfolding outcome_from
      turn =
          let e : taken dataset_test 1 3 (m + 4) s.seen (records_from f at')
          ≡ and_then (at 1 (m + 4) (dataset_test (m + 4) s.seen fields)) (λ new.
          and_then (taken dataset_test 1 3 (m + 4 + 1) (new ++ s.seen) (records_from f (at' + d.len))) (λ later. done (new ++ later)))
          = ap (taken dataset_test 1 3 (m + 4) s.seen) (records_more f at' l h eh d y)
          ∙ taken_more dataset_test 1 3 (m + 4) s.seen fields (records_from f (at' + d.len)) in
          let t = test_later (m + 4) s.seen fields (omega arith) in
          let p = record_parts (last_rank s.seen) (each key_in_rules s.seen) fields in
          let q : after (bind (four_to_six (last_rank s.seen) fields) (seventh (each key_in_rules s.seen) fields)) ≡ x = rw (e, t, p) at s.outcome in
          rw s.last at q

      after_no : (z : Fault) → after (no z) ≡ refused 1 (m + 4) z
      unfolding bind at and_then unread
      after_no z = refl

      -- numbers 4 to 6 refuse it
      pub standing_before : (z : Fault) → four_to_six (kind_in top) fields ≡ no z → refused 1 (m + 4) z ≡ x
      unfolding bind
      standing_before z e = sym (after_no z) ∙ rw e at turn

      module _ (k : Kind) (ek : four_to_six (kind_in top) fields ≡ ok k) (key : ℕ) (e : key ≡ key_at f (at' + d.shape.base)) where
        passed : Placed (kind_in top) k fields
        passed = placed (kind_in top) fields k ek

        key_is : key ≡ key_of fields
        key_is = e ∙ first_key f at' d.len d.shape (right f at' h eh d y).walked passed.keyed.some

        next_is : drop m (keys_from f start) ≡ key ∷ keys_from f (at' + d.len)
        next_is = s.rest ∙ keys_good f at' l h eh d y ∙ ap (λ (n : ℕ). n ∷ keys_from f (at' + d.len)) (sym key_is)

        -- its key is the next one, of a kind that is not before the last
        pub standing_comes : Comes f start m key
        standing_comes =
            let r = split_room (keys_from f start) m key (keys_from f (at' + d.len)) next_is in
            let p = sym (drop-cons (keys_from f start) m 0 r) ∙ next_is in
            record { there = r; next = cc; keyed = λ z. passed.keyed.some (sym key_is ∙ z) }

        pub standing_kind : kind_in top ≤ kind_in key
        standing_kind = let r = passed.follows in let p = passed.keyed.kind in rw key_is (omega arith)

        earlier : among (key_named k fields) (each key_in_rules s.seen) ≡ seen_from f start m key
        unfolding Numbered seen_from
        earlier =
            s.numbered (key_named k fields) passed.keyed.ranged
            ∙ ap (λ (n : ℕ). listed n (take m (keys_from f start))) (sym (key_is ∙ passed.keyed.number))

        turn_seven : (t : Bool) → t ≡ seen_from f start m key → after (pick t (no (fault 7 1 0)) (bind (number7 fields) (λ _. ok (rec_of k fields)))) ≡ x
        unfolding bind
        turn_seven t et = rw (et, sym earlier) (rw ek at turn)

        module _ (t : Bool) (et : t ≡ seen_from f start m key) where
          -- its key stood earlier
          pub standing_seven : t ≡ true → refused 1 (m + 4) (fault 7 1 0) ≡ x
          standing_seven z = sym (after_no (fault 7 1 0)) ∙ rw z at (turn_seven t et)

          -- number 7 within the record refuses it
          pub standing_within : t ≡ false → (z : Fault) → number7 fields ≡ no z → refused 1 (m + 4) z ≡ x
          unfolding bind
          standing_within q z n = sym (after_no z) ∙ rw (q, n) at (turn_seven t et)

          -- it is right, and the next one is at hand
          module _ (q : t ≡ false) (u : Unit {0}) (n : number7 fields ≡ ok u) where
            unread_on : (r : Rec) (o : Outcome (List Rec)) → unread (and_then o (λ later. done (r ∷ later))) ≡ unread o
            unfolding unread and_then
            unread_on r (done recs) = refl
            unread_on r (refused file i z) = refl

            after_ok : (r : Rec) → after (ok r) ≡ unread (taken dataset_test 1 3 (m + 4 + 1) (r ∷ s.seen) (records_from f (at' + d.len)))
            unfolding bind at and_then
            after_ok r = unread_on r (taken dataset_test 1 3 (m + 4 + 1) (r ∷ s.seen) (records_from f (at' + d.len)))

            outcome_on : outcome_from f (at' + d.len) (m + 1) (rec_of k fields ∷ s.seen) ≡ x
            unfolding outcome_from bind
            outcome_on =
                let i : m + 1 + 4 ≡ m + 4 + 1 = omega arith in
                let w : after (ok (rec_of k fields)) ≡ x = rw (q, n) at (turn_seven t et) in
                rw i (sym (after_ok (rec_of k fields)) ∙ w)

            rank_on : last_rank (rec_of k fields ∷ s.seen) ≡ kind_in (larger_of top key)
            unfolding last_rank rec_of
            rank_on = let p = passed.keyed.kind in sym p ∙ ap kind_in (sym key_is) ∙ sym ((larger_least top key).2 standing_kind)

            pub standing_more : Standing f start (at' + d.len) (m + 1) (larger_of top key) x
            standing_more =
                let r = read_of (kind_in top) k fields passed in
                let one = split_take (keys_from f start) m key (keys_from f (at' + d.len)) next_is in
                record {
                  seen = rec_of k fields ∷ s.seen;
                  rest = split_drop (keys_from f start) m key (keys_from f (at' + d.len)) next_is;
                  numbered = rw one (numbered_last (rec_of k fields) s.seen (take m (keys_from f start)) key s.numbered r.ranged (key_is ∙ r.number));
                  last = rank_on;
                  outcome = outcome_on;
                }

-- ---- the next record: its loop's top is what `larger` returned

module _ (f : List ℕ) (start m top k up : ℕ) (e : up ≡ larger_of top k) where
  pub standing_up : (at' : ℕ) (x : Outcome (Unit {0})) → Standing f start at' m (larger_of top k) x → Standing f start at' m up x
  standing_up at' x s = rw e s

  pub once_up : (t : List ℕ) → Once f start m (larger_of top k) t → Once f start m up t
  once_up t o = rw e o

pub ruleset standing_turn =
    (standing_over, standing_count, standing_refused, standing_before, standing_comes, standing_kind, standing_seven, standing_within, standing_more, standing_up, once_up)
