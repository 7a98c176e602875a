-- A record of a dataset that has passed its numbers: its kind and its key. Assumes nothing.
use mathlib.Core.Path.{◌≡◌, refl, sym, ap, ◌∙◌}
use mathlib.Core.List.{List, [], ◌∷◌}
use mathlib.Core.Bool.{Bool, true, false}
use mathlib.Core.Option.{Option, some, none}
use Prim.Native.Nat.{ℕ, suc, ◌+◌, ◌≤◌}
use native.Mathlib.Omega.{arith}
use borrow.Author.Tests.{ltb-false}
use lib.ListN.{length}
use lib.Dec.{ltb}
use Rattle.base.specs.Choice.{pick}
use Rattle.base.specs.Check.{Check, ok, no, bind, fault, Passed, pass}
use Rattle.base.specs.Lists.{each, Each}
use Rattle.base.specs.Keys.{among}
use Rattle.base.proofs.CheckLaws.{bind_inv, ok_inj, refused}
use Rattle.skeleton.specs.File.{Field}
use Rattle.rules.specs.ByTag.{first_tag}
use Rattle.rules.specs.Kind.{kind_of, tag_of, rank}
use Rattle.rules.specs.Grammar.{number4, on_kind, fields_stand}
use Rattle.rules.specs.Content.{number5}
use Rattle.rules.specs.Trees.{number6}
use Rattle.rules.specs.Associations.{number7}
use Rattle.rules.specs.Record.{Rec, key_named, rec_of, dataset_record, key_of as key_in_rules}
use Rattle.rules.specs.Outcome.{done}
use Rattle.rules.specs.File.{last_rank, dataset_test, through}
use Rattle.rules.proofs.OutcomeLaws.{done_inj}
use Rattle.rules.specs.declared.Kind.{Kind}
use Rattle.rules.specs.declared.Mode.TheVariants.{InDataset}
use Rattle.rules.proofs.KindLaws.{tag_of_kind}
use Rattle.rules.proofs.FileLaws.{through_later}
use Rattle.rules.proofs.Locality.{key_named_lem}
use Rattle.keys.specs.Listed.{key_of, listed}
use Rattle.keys.specs.Numbered.{number_of, Ranged, Numbered}
use Rattle.keys.specs.Standing.{four_to_six, Fine}
use Rattle.keys.proofs.ListLaws.{listed_none, listed_later}
use Rattle.keys.proofs.NumberLaws.{numbered_none, numbered_front}
use Rattle.keys.proofs.IdentLaws.{Keyed, keyed_passed}

-- ---- numbers 4 to 6

picked_kind : (k j : Kind) (t : Bool) (c : Passed) → pick t (no (fault 4 1 0)) (bind c (λ _. ok k)) ≡ ok j → k ≡ j
picked_kind k j true c h = refused h
picked_kind k j false c h = ok_inj k j (bind_inv c (λ _. ok k) j h).2

-- a kind that number 4 gives is not before the last one
picked : (k j : Kind) (least : ℕ) (t : Bool) (c : Passed) → ltb (rank k) least ≡ t → pick t (no (fault 4 1 0)) (bind c (λ _. ok k)) ≡ ok j → least ≤ rank j
picked k j least true c e h = refused h
picked k j least false c e h =
    let r = bind_inv c (λ _. ok k) j h in
    rw (ok_inj k j r.2) at (ltb-false (rank k) least e)

kind_rank : (o : Option Kind) (least : ℕ) (c : Kind → Passed) (j : Kind)
    → on_kind o (λ k. pick (ltb (rank k) least) (no (fault 4 1 0)) (bind (c k) (λ _. ok k))) ≡ ok j → least ≤ rank j
kind_rank none least c j h = refused h
kind_rank (some k) least c j h = picked k j least (ltb (rank k) least) (c k) refl h

given_tag : (t : ℕ) (o : Option Kind) (least : ℕ) (c : Kind → Passed) (j : Kind) → kind_of t ≡ o
    → on_kind o (λ k. pick (ltb (rank k) least) (no (fault 4 1 0)) (bind (c k) (λ _. ok k))) ≡ ok j → t ≡ tag_of j
given_tag t none least c j e h = refused h
given_tag t (some k) least c j e h =
    let z : k ≡ j = picked_kind k j (ltb (rank k) least) (c k) h in
    tag_of_kind t j (e ∙ ap some z)

-- a record that has passed them
pub record Placed (least : ℕ) (k : Kind) (fs : List Field) : Type 0 where
  pub keyed : Keyed k fs
  pub follows : least ≤ rank k
  pub five : number5 InDataset k fs ≡ pass
  pub tag : first_tag fs ≡ tag_of k

pub placed : (least : ℕ) (fs : List Field) (k : Kind) → four_to_six least fs ≡ ok k → Placed least k fs
unfolding four_to_six number4 first_tag
placed least [] k e = let r = bind_inv (number4 InDataset least []) _ k e in refused r.1
placed least (f ∷ fs) k e =
    let r = bind_inv (number4 InDataset least (f ∷ fs)) _ k e in
    let s = bind_inv (number5 InDataset r.0 (f ∷ fs)) _ k r.2 in
    let t = bind_inv (number6 InDataset r.0 (f ∷ fs)) _ k s.2 in
    let z : r.0 ≡ k = ok_inj r.0 k t.2 in
    let there : Placed least r.0 (f ∷ fs) = record {
      keyed = keyed_passed r.0 f fs s.0 s.1;
      follows = kind_rank (kind_of f.tag) least (λ j. fields_stand InDataset j f.body fs) r.0 r.1;
      five = s.1;
      tag = given_tag f.tag (kind_of f.tag) least (λ j. fields_stand InDataset j f.body fs) r.0 refl r.1;
    } in
    rw z at there

-- what number 7 within the record asks for
module _ (least : ℕ) (fs : List Field) (k : Kind) (e : four_to_six least fs ≡ ok k) where
  pub placed_five : number5 InDataset k fs ≡ pass
  placed_five = (placed least fs k e).five

  pub placed_tag : first_tag fs ≡ tag_of k
  placed_tag = (placed least fs k e).tag

pub ruleset placed_ways = (placed_five, placed_tag)

-- ---- all numbers

-- number 7 of a record of that kind, after records with these keys
abbrev pub seventh : List (List ℕ) → List Field → Kind → Check Rec
seventh earlier fs k = pick (among (key_named k fs) earlier) (no (fault 7 1 0)) (bind (number7 fs) (λ _. ok (rec_of k fs)))

behind : {A : Type 0} (k : Kind) (b c : Passed) (g : Kind → Check A) → bind b (λ _. bind c (λ _. g k)) ≡ bind (bind b (λ _. bind c (λ _. ok k))) g
unfolding bind
behind k (ok u) (ok v) g = refl
behind k (ok u) (no y) g = refl
behind k (no y) c g = refl

-- three tests and then another are the three, with the kind that the first gives, and then the other
pub regroup : {A : Type 0} (a : Check Kind) (b c : Kind → Passed) (g : Kind → Check A)
    → bind a (λ k. bind (b k) (λ _. bind (c k) (λ _. g k))) ≡ bind (bind a (λ k. bind (b k) (λ _. bind (c k) (λ _. ok k)))) g
unfolding bind
regroup (ok k) b c g = behind k (b k) (c k) g
regroup (no y) b c g = refl

-- numbers 4 to 6, and then 7
pub record_parts : (least : ℕ) (earlier : List (List ℕ)) (fs : List Field) → dataset_record least earlier fs ≡ bind (four_to_six least fs) (seventh earlier fs)
unfolding dataset_record four_to_six key_in_rules rec_of key_named
record_parts least earlier fs =
    regroup (number4 InDataset least fs) (λ k. number5 InDataset k fs) (λ k. number6 InDataset k fs) (seventh earlier fs)

-- a record that has passed them all
pub record Read (fs : List Field) (r : Rec) : Type 0 where
  pub ranged : Ranged (key_in_rules r)
  pub number : key_of fs ≡ number_of (key_in_rules r)
  pub some : key_of fs ≡ 0 → ⊥
  pub fine : Fine fs

pub read_of : (least : ℕ) (k : Kind) (fs : List Field) → Placed least k fs → Read fs (rec_of k fs)
read_of least k fs p =
    let d = p.keyed in
    record {
      ranged = rw (key_named_lem k fs) d.ranged;
      number = rw (key_named_lem k fs) d.number;
      some = d.some;
      fine = record { kind = k; five = p.five; tag = p.tag };
    }

seventh_read : (k : Kind) (earlier : List (List ℕ)) (fs : List Field) (r : Rec) (t : Bool) (c : Passed)
    → pick t (no (fault 7 1 0)) (bind c (λ _. ok (rec_of k fs))) ≡ ok r → rec_of k fs ≡ r
seventh_read k earlier fs r true c e = refused e
seventh_read k earlier fs r false c e = ok_inj (rec_of k fs) r (bind_inv c (λ _. ok (rec_of k fs)) r e).2

record_read : (least : ℕ) (earlier : List (List ℕ)) (fs : List Field) (r : Rec) → dataset_record least earlier fs ≡ ok r → Read fs r
record_read least earlier fs r e =
    let p = bind_inv (four_to_six least fs) (seventh earlier fs) r (sym (record_parts least earlier fs) ∙ e) in
    let q = seventh_read p.0 earlier fs r (among (key_named p.0 fs) earlier) (number7 fs) p.2 in
    rw q at (read_of least p.0 fs (placed least fs p.0 p.1))

-- ---- all records

-- the keys of records that have passed, as the rules have them and as numbers; none is 0
pub record ReadAll (items : List (List Field)) (recs : List Rec) : Type 0 where
  pub numbered : Numbered recs (each key_of items)
  pub keyed : listed 0 (each key_of items) ≡ false
  pub counted : length recs ≡ length (each key_of items)
  pub fine : Each Fine items

read_none : (recs : List Rec) → done [] ≡ done recs → ReadAll [] recs
unfolding each Each
read_none recs e =
    let none_read : ReadAll [] [] = record { numbered = numbered_none; keyed = listed_none 0; counted = refl; fine = tt } in
    rw (done_inj [] recs e) at none_read

read_more : (fs : List Field) (items : List (List Field)) (r : Rec) (later recs : List Rec) → Read fs r → ReadAll items later → r ∷ later ≡ recs
    → ReadAll (fs ∷ items) recs
unfolding each Each
read_more fs items r later recs p q e =
    let all : ReadAll (fs ∷ items) (r ∷ later) = record {
      numbered = numbered_front r later (each key_of items) (key_of fs) q.numbered p.ranged p.number;
      keyed = listed_later 0 (key_of fs) (each key_of items) p.some ∙ q.keyed;
      counted = ap suc q.counted;
      fine = (p.fine, q.fine);
    } in
    rw e at all

pub through_read : (items : List (List Field)) (n : ℕ) (seen recs : List Rec) → 4 ≤ n → through dataset_test 1 n seen items ≡ done recs → ReadAll items recs
unfolding through
through_read [] n seen recs h e = read_none recs e
through_read (fs ∷ items) n seen recs h e =
    let l = through_later fs items n seen recs h e in
    read_more fs items l.made l.others recs (record_read (last_rank seen) (each key_in_rules seen) fs l.made l.passes)
    (through_read items (n + 1) (l.made ∷ seen) l.others (omega arith) l.onward) l.all
