-- Laws of number 4. Assumes nothing.
use mathlib.Core.Path.{◌≡◌, refl, sym, ◌∙◌, ap}
use mathlib.Core.Bool.{Bool, true, false}
use mathlib.Core.List.{List, [], ◌∷◌}
use mathlib.Core.Option.{Option, some, none}
use Rattle.std.specs.Prelude.{Option as StdOption, Some, None, Result, Ok, Err}
use Prim.Native.Nat.{ℕ, ◌+◌, ◌-◌, ◌≤◌, ◌<◌}
use native.Mathlib.Omega.{arith}
use borrow.Author.Tests.{ne_eqb, lt-ltb, le-ltb}
use lib.Dec.{eqb}
use lib.ListN.{length, get_or}
use Rattle.base.specs.Choice.{pick}
use Rattle.base.specs.Check.{ok, no, bind, fault, Passed, pass}
use Rattle.base.specs.Verdict.{result_of, first_fault}
use Rattle.base.specs.declared.Fault.{Fault}
use Rattle.base.proofs.CheckLaws.{first_none, first_is, first_some}
use Rattle.base.proofs.ChoiceLaws.{by_test, both_true}
use Rattle.skeleton.specs.File.{Field}
use Rattle.skeleton.specs.Place.{between, place_at, fields_at}
use Rattle.skeleton.specs.RightFrom.{RightFrom}
use Rattle.skeleton.specs.declared.directory.Shape.{Shape}
use Rattle.skeleton.specs.declared.place.Place.{Place}
use Rattle.skeleton.proofs.PlaceLaws.{fields_more, fields_done, place_falls, place_runs, place_in_lem}
use Rattle.skeleton.proofs.RightLaws.{right_after}
use Rattle.rules.specs.Tags.{FOID, ATTR, INAS, SPAS, COCC, C2IT, C2IL}
use Rattle.rules.specs.ByTag.{has}
use Rattle.rules.specs.Kind.{Row, kind_of, rank, coded, rows_of}
use Rattle.rules.specs.Grammar.{rows_after, on_rows, in_order, complete, forbidden, coui_byte, ruin_byte, as_stored, fields_stand, number4}
use Rattle.rules.specs.declared.Kind.{Kind}
use Rattle.rules.specs.declared.Kind.TheVariants.{Info, Point, Multi, Feature}
use Rattle.rules.specs.declared.Mode.{Mode}
use Rattle.rules.specs.declared.Mode.TheVariants.{InDataset, InUpdate}
use Rattle.records.specs.Rows.{tags_of}
use Rattle.records.specs.Order.{shut_out, faulty_field, order_from, instructions_of}
use Rattle.records.specs.Answers.{found_kind, ruin_place}
use Rattle.records.specs.declared.order.Instructions.{Instructions}
use Rattle.records.proofs.RowsLaws.{rows_of_lem}
use Rattle.records.proofs.TaggedLaws.{part_byte, part_past}

-- ---- kinds

module _ (t : ℕ) where
  pub kind_info : t ≡ 0x49524944 → Some Info ≡ found_kind (kind_of t)
  unfolding kind_of
  kind_info e = rw e

  pub kind_point : t ≡ 0x50524944 → Some Point ≡ found_kind (kind_of t)
  unfolding kind_of
  kind_point e = rw e

  pub kind_multi : t ≡ 0x4d524944 → Some Multi ≡ found_kind (kind_of t)
  unfolding kind_of
  kind_multi e = rw e

  pub kind_feature : t ≡ 0x46524944 → Some Feature ≡ found_kind (kind_of t)
  unfolding kind_of
  kind_feature e = rw e

  pub kind_none : (t ≡ 0x49524944 → ⊥) → (t ≡ 0x50524944 → ⊥) → (t ≡ 0x4d524944 → ⊥) → (t ≡ 0x46524944 → ⊥) → None ≡ found_kind (kind_of t)
  unfolding kind_of
  kind_none a b c d = simp (ne_eqb t 0x49524944 a, ne_eqb t 0x50524944 b, ne_eqb t 0x4d524944 c, ne_eqb t 0x46524944 d)

pub ruleset kind_ways = (kind_info, kind_point, kind_multi, kind_feature, kind_none)

module _ (k : Kind) where
  pub rank_info : k ≡ Info → 1 ≡ rank k
  unfolding rank
  rank_info e = simp e

  pub rank_point : k ≡ Point → 2 ≡ rank k
  unfolding rank
  rank_point e = simp e

  pub rank_multi : k ≡ Multi → 3 ≡ rank k
  unfolding rank
  rank_multi e = simp e

  pub rank_feature : k ≡ Feature → 4 ≡ rank k
  unfolding rank
  rank_feature e = simp e

  pub ruin_info : k ≡ Info → 9 ≡ ruin_place k
  unfolding ruin_place coded
  ruin_info e = simp e

  pub ruin_point : k ≡ Point → 7 ≡ ruin_place k
  unfolding ruin_place coded
  ruin_point e = simp e

  pub ruin_multi : k ≡ Multi → 7 ≡ ruin_place k
  unfolding ruin_place coded
  ruin_multi e = simp e

  pub ruin_feature : k ≡ Feature → 9 ≡ ruin_place k
  unfolding ruin_place coded
  ruin_feature e = simp e

pub ruleset rank_ways = (rank_info, rank_point, rank_multi, rank_feature)

pub ruleset ruin_places = (ruin_info, ruin_point, ruin_multi, ruin_feature)

-- ---- RUIN

-- it is the byte at one place or the other
one_place : (b : Bool) (l : List ℕ) → pick b (get_or l 9 0) (get_or l 7 0) ≡ get_or l (pick b 9 7) 0
one_place true l = refl
one_place false l = refl

module _ (k : Kind) (r : List ℕ) (start end at : ℕ) (e : at ≡ ruin_place k) where
  ruin_is : ruin_byte k (between r start end) ≡ get_or (between r start end) at 0
  unfolding ruin_byte ruin_place
  ruin_is = one_place (coded k) (between r start end) ∙ ap (λ (i : ℕ). get_or (between r start end) i 0) (sym e)

  pub ruin_there : at < end - start → get_or r (start + at) 0 ≡ ruin_byte k (between r start end)
  ruin_there h = sym (ruin_is ∙ part_byte r start end at h)

  pub ruin_past : end - start ≤ at → 0 ≡ ruin_byte k (between r start end)
  ruin_past h = sym (ruin_is ∙ part_past r start end at h)

pub ruleset ruin_ways = (ruin_there, ruin_past)

-- ---- as in a dataset

module _ (m : Mode) (ruin : ℕ) where
  pub stored_dataset : m ≡ InDataset → true ≡ as_stored m ruin
  unfolding as_stored
  stored_dataset e = simp e

  pub stored_update : m ≡ InUpdate → eqb ruin 1 ≡ as_stored m ruin
  unfolding as_stored
  stored_update e = simp e

pub ruleset stored_ways = (stored_dataset, stored_update)

-- ---- fields that are needed

module _ (k : Kind) (fs : List Field) where
  pub complete_info : k ≡ Info → true ≡ complete (rows_of k) fs
  unfolding complete rows_of
  complete_info e = simp e

  pub complete_multi : k ≡ Multi → true ≡ complete (rows_of k) fs
  unfolding complete rows_of
  complete_multi e = simp e

  pub complete_point : k ≡ Point → (b : Bool) → b ≡ has C2IT fs → b ≡ complete (rows_of k) fs
  unfolding complete rows_of
  complete_point e b x = simp (e, ← x) (sym (both_true b))

  pub complete_feature : k ≡ Feature → (b : Bool) → b ≡ has FOID fs → b ≡ complete (rows_of k) fs
  unfolding complete rows_of
  complete_feature e b x = simp (e, ← x) (sym (both_true b))

pub ruleset complete_ways = (complete_info, complete_multi, complete_point, complete_feature)

-- ---- the order of a kind's fields

module _ (r : List ℕ) (h : Shape) (p : ℕ) (s : Instructions) (k : Kind) (a : Result (Unit {0}) ℕ) where
  -- the tags that code hands over are those of the kind
  pub order_kind : a ≡ first_fault (order_from r h (tags_of k) s p 0 2) → a ≡ first_fault (faulty_field (in_order (shut_out s) (rows_of k) 2 (fields_at r h p)))
  unfolding order_from
  order_kind e = rw (rows_of_lem k) e

  pub order_info : k ≡ Info → a ≡ first_fault (order_from r h (ATTR ∷ INAS ∷ []) s p 0 2) → a ≡ first_fault (faulty_field (in_order (shut_out s) (rows_of k) 2 (fields_at r h p)))
  order_info x e = order_kind (rw x e)

  pub order_point : k ≡ Point → a ≡ first_fault (order_from r h (INAS ∷ C2IT ∷ []) s p 0 2) → a ≡ first_fault (faulty_field (in_order (shut_out s) (rows_of k) 2 (fields_at r h p)))
  order_point x e = order_kind (rw x e)

  pub order_multi : k ≡ Multi → a ≡ first_fault (order_from r h (INAS ∷ COCC ∷ C2IL ∷ []) s p 0 2)
      → a ≡ first_fault (faulty_field (in_order (shut_out s) (rows_of k) 2 (fields_at r h p)))
  order_multi x e = order_kind (rw x e)

  pub order_feature : k ≡ Feature → a ≡ first_fault (order_from r h (FOID ∷ ATTR ∷ INAS ∷ SPAS ∷ []) s p 0 2)
      → a ≡ first_fault (faulty_field (in_order (shut_out s) (rows_of k) 2 (fields_at r h p)))
  order_feature x e = order_kind (rw x e)

pub ruleset order_kinds = (order_info, order_point, order_multi, order_feature)

-- a refusal of the order is number 4 at a field, never at field 0
abbrev pub Said : Passed → Type 0
Said (ok u) = u ≡ tt
Said (no x) = (x ≡ fault 4 x.field 0) × (0 < x.field)

said_rows : (o : Option (List Row)) (i : ℕ) → 0 < i → (go : List Row → Passed) → ((rows : List Row) → Said (go rows)) → Said (on_rows o i go)
said_rows none i l go f = (refl, l)
said_rows (some rows) i l go f = f rows

pub order_says : (out : ℕ → Bool) (rows : List Row) (i : ℕ) (fs : List Field) → 0 < i → Said (in_order out rows i fs)
unfolding in_order
order_says out rows i [] l = refl
order_says out rows i (f ∷ fs) l =
    by_test Said (out f.tag) _ _ (λ _. (refl, l))
    (λ _. said_rows (rows_after f.tag rows) i l (λ left. in_order out left (i + 1) fs) (λ left. order_says out left (i + 1) fs (omega arith)))

pub pass_of : (c : Passed) → Said c → faulty_field c ≡ 0 → c ≡ pass
unfolding faulty_field
pass_of (ok u) s e = ap (λ (v : Unit {0}). ok v) s
pass_of (no x) s e = absurd (omega arith)

pub no_of : (c : Passed) (n : ℕ) → Said c → n ≡ faulty_field c → (n ≡ 0 → ⊥) → c ≡ no (fault 4 n 0)
unfolding faulty_field
no_of (ok u) n s e z = absurd (z e)
no_of (no x) n s e z = ap {B = Passed} (λ f. no f) s.0 ∙ rw e

-- ---- instructions

module _ (m : Mode) (ruin : ℕ) (fs : List Field) where
  pub instructions_dataset : m ≡ InDataset
      → record { general = false; mode = m; ruin = ruin; coui = 0; controlled = false } ≡ instructions_of m ruin fs
  unfolding instructions_of
  instructions_dataset e = simp e

  pub instructions_update : m ≡ InUpdate → (coui : ℕ) → coui ≡ coui_byte fs → (controlled : Bool) → controlled ≡ has COCC fs
      → record { general = false; mode = m; ruin = ruin; coui = coui; controlled = controlled } ≡ instructions_of m ruin fs
  unfolding instructions_of
  instructions_update e coui x controlled y = simp (e, ← x, ← y)

pub ruleset instructions_ways = (instructions_dataset, instructions_update)

-- what is not looked for decides nothing
shut_as_forbidden : (m : Mode) (ruin : ℕ) (fs : List Field) → shut_out (instructions_of m ruin fs) ≡ forbidden m ruin (coui_byte fs) (has COCC fs)
unfolding shut_out instructions_of forbidden
shut_as_forbidden InDataset ruin fs = refl
shut_as_forbidden InUpdate ruin fs = refl

-- ---- the fields after the identifier

-- what the code has found: RUIN, the instructions, and the first field out of order
module _ (m : Mode) (k : Kind) (b : List ℕ) (fs : List Field) (ruin : ℕ) (s : Instructions) (o : Result (Unit {0}) ℕ)
    (er : ruin ≡ ruin_byte k b) (es : s ≡ instructions_of m ruin fs) (eo : o ≡ first_fault (faulty_field (in_order (shut_out s) (rows_of k) 2 fs))) where
  abbrev tested : Passed
  tested = in_order (forbidden m (ruin_byte k b) (coui_byte fs) (has COCC fs)) (rows_of k) 2 fs

  same_order : o ≡ first_fault (faulty_field tested)
  same_order = rw (← er, ← shut_as_forbidden m ruin fs, ← es) eo

  says : Said tested
  says = order_says (forbidden m (ruin_byte k b) (coui_byte fs) (has COCC fs)) (rows_of k) 2 fs (omega arith)

  pub fields_out : (i : ℕ) → o ≡ Err i → Err (fault 4 i 0) ≡ result_of (bind (fields_stand m k b fs) (λ _. ok k))
  unfolding fields_stand result_of bind
  fields_out i x = let e = sym x ∙ same_order in rw (no_of tested i says (first_is _ i e) (first_some _ i e))

  module _ (u : Unit {0}) (z : o ≡ Ok u) (t : Bool) (et : t ≡ as_stored m ruin) where
    stood : tested ≡ pass
    stood = pass_of tested says (first_none _ u (sym z ∙ same_order))

    same_mode : t ≡ as_stored m (ruin_byte k b)
    same_mode = rw (← er) et

    pub fields_free : t ≡ false → Ok k ≡ result_of (bind (fields_stand m k b fs) (λ _. ok k))
    unfolding fields_stand result_of bind
    fields_free n = rw stood (simp (← same_mode, n))

    module _ (n : t ≡ true) (w : Bool) (ew : w ≡ complete (rows_of k) fs) where
      pub fields_whole : w ≡ true → Ok k ≡ result_of (bind (fields_stand m k b fs) (λ _. ok k))
      unfolding fields_stand result_of bind
      fields_whole x = rw stood (simp (← same_mode, n, ← ew, x))

      pub fields_lack : w ≡ false → Err (fault 4 0 0) ≡ result_of (bind (fields_stand m k b fs) (λ _. ok k))
      unfolding fields_stand result_of bind
      fields_lack x = rw stood (simp (← same_mode, n, ← ew, x))

pub ruleset fields_ways = (fields_out, fields_free, fields_whole, fields_lack)

-- ---- the record

found_none : (o : Option Kind) → None ≡ found_kind o → o ≡ none
found_none none e = refl
found_none (some k) e = absurd (let z : ◌≡◌ {A = ℕ} 0 1 = cc in omega arith)

found_some : (o : Option Kind) (k : Kind) → Some k ≡ found_kind o → o ≡ some k
found_some none k e = absurd (let z : ◌≡◌ {A = ℕ} 0 1 = cc in omega arith)
found_some (some j) k e = let z : j ≡ k = cc in ap (λ (x : Kind). some x) z

module _ (r : List ℕ) (h : Shape) (m : Mode) (least : ℕ) (e : StdOption Place) (en : e ≡ place_at r h 24) where
  pub tags_none : e ≡ None → Err (fault 4 1 0) ≡ result_of (number4 m least (fields_at r h 24))
  unfolding number4 result_of
  tags_none x = rw (fields_done r h 24 e en x)

  module _ (d : Place) (x : e ≡ Some d) where
    pub tags_after : 2 ≤ d.next
    tags_after = let f = place_falls r h 24 e en d x in omega arith

    pub tags_right : RightFrom r h 24 → RightFrom r h d.next
    tags_right k = right_after r h 24 k e en d x

    pub tags_runs : d.start ≤ d.end
    tags_runs = place_runs r h 24 e en d x

    pub tags_in : d.end ≤ length r
    tags_in = place_in_lem r h 24 e en d x

    module _ (q : StdOption Kind) (eq : q ≡ found_kind (kind_of d.tag)) where
      pub tags_unknown : q ≡ None → Err (fault 4 1 0) ≡ result_of (number4 m least (fields_at r h 24))
      unfolding number4 result_of
      tags_unknown y = rw (fields_more r h 24 e en d x) (rw (found_none (kind_of d.tag) (sym y ∙ eq)))

      module _ (k : Kind) (y : q ≡ Some k) (n : ℕ) (ek : n ≡ rank k) where
        pub tags_early : n < least → Err (fault 4 1 0) ≡ result_of (number4 m least (fields_at r h 24))
        unfolding number4 result_of
        tags_early l =
            rw (fields_more r h 24 e en d x)
            (rw (found_some (kind_of d.tag) k (sym y ∙ eq)) (simp (← ek, lt-ltb n least l)))

        pub tags_turn : least ≤ n → (t : Result Kind Fault) → t ≡ result_of (bind (fields_stand m k (between r d.start d.end) (fields_at r h d.next)) (λ _. ok k))
            → t ≡ result_of (number4 m least (fields_at r h 24))
        unfolding number4
        tags_turn l t z =
            rw (fields_more r h 24 e en d x)
            (rw (found_some (kind_of d.tag) k (sym y ∙ eq)) (simp (← ek, le-ltb n least l) z))

pub ruleset tags_ways = (tags_none, tags_after, tags_right, tags_runs, tags_in, tags_unknown, tags_early, tags_turn)
