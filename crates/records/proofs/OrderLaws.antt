-- Laws of the order of fields. Assumes nothing.
use mathlib.Core.Path.{◌≡◌, refl, ap, ◌∙◌}
use mathlib.Core.Bool.{Bool, true, false, not}
use mathlib.Core.List.{List}
use mathlib.Core.Option.{none}
use Rattle.std.specs.Prelude.{Option, Some, None, Ok, Err}
use Prim.Native.Nat.{ℕ, ◌+◌, ◌^◌, ◌≤◌, ◌<◌}
use native.Mathlib.Omega.{arith}
use borrow.Author.Tests.{eq-eqb, ne_eqb}
use lib.Dec.{eqb}
use lib.ListN.{length, get_or, drop}
use Rattle.base.specs.Choice.{both, either}
use Rattle.base.specs.Verdict.{first_fault}
use Rattle.base.proofs.CheckLaws.{faulty_first}
use Rattle.base.proofs.ChoiceLaws.{both_false}
use Rattle.skeleton.specs.Directory.{tag_at}
use Rattle.skeleton.specs.Place.{at_place, place_at}
use Rattle.skeleton.specs.RightFrom.{RightFrom}
use Rattle.skeleton.specs.declared.directory.Shape.{Shape}
use Rattle.skeleton.specs.declared.place.Place.{Place}
use Rattle.skeleton.proofs.PlaceLaws.{fields_more, fields_done}
use Rattle.skeleton.proofs.RightLaws.{Next, right_in, right_tag, right_on, right_word, right_falls, right_done, right_next}
use Rattle.rules.specs.Grammar.{forbidden, in_order}
use Rattle.rules.specs.declared.Mode.TheVariants.{InDataset, InUpdate}
use Rattle.rules.specs.Grammar.{rows_after}
use Rattle.records.specs.Rows.{rows_with, row_after}
use Rattle.records.proofs.RowsLaws.{Left, row_left}
use Rattle.records.specs.Order.{shut_out, order_from, faulty_field}
use Rattle.records.specs.declared.order.Instructions.{Instructions}

-- ---- fields that the instructions do not take

alone : (b : Bool) → b ≡ either (both b true) false
alone true = refl
alone false = refl

module _ (ruin coui : ℕ) (controlled : Bool) (t : ℕ) where
  pub shut_delete : ruin ≡ 2 → true ≡ forbidden InUpdate ruin coui controlled t
  unfolding forbidden
  shut_delete e = simp (eq-eqb ruin 2 e)

  module _ (n : ruin ≡ 2 → ⊥) where
    pub shut_cocc : t ≡ 0x434f4343 → eqb ruin 1 ≡ forbidden InUpdate ruin coui controlled t
    unfolding forbidden
    shut_cocc e =
        let m : t ≡ 0x4332494c → ⊥ = λ x. omega arith in
        simp (ne_eqb ruin 2 n, eq-eqb t 0x434f4343 e, ne_eqb t 0x4332494c m) (alone (eqb ruin 1))

    module _ (o : t ≡ 0x434f4343 → ⊥) where
      pub shut_other : (t ≡ 0x4332494c → ⊥) → false ≡ forbidden InUpdate ruin coui controlled t
      unfolding forbidden
      shut_other m = simp (ne_eqb ruin 2 n, ne_eqb t 0x434f4343 o, ne_eqb t 0x4332494c m, both_false)

      module _ (l : t ≡ 0x4332494c) where
        pub shut_list : coui ≡ 2 → true ≡ forbidden InUpdate ruin coui controlled t
        unfolding forbidden
        shut_list e = simp (ne_eqb ruin 2 n, ne_eqb t 0x434f4343 o, eq-eqb t 0x4332494c l, both_false, eq-eqb coui 2 e)

        module _ (d : coui ≡ 2 → ⊥) where
          pub shut_insert : (ruin ≡ 3 → ⊥) → false ≡ forbidden InUpdate ruin coui controlled t
          unfolding forbidden
          shut_insert i = simp (ne_eqb ruin 2 n, ne_eqb t 0x434f4343 o, eq-eqb t 0x4332494c l, both_false, ne_eqb coui 2 d, ne_eqb ruin 3 i)

          pub shut_modify : ruin ≡ 3 → not controlled ≡ forbidden InUpdate ruin coui controlled t
          unfolding forbidden
          shut_modify i = simp (ne_eqb ruin 2 n, ne_eqb t 0x434f4343 o, eq-eqb t 0x4332494c l, both_false, ne_eqb coui 2 d, eq-eqb ruin 3 i)

pub ruleset not_taken_ways = (shut_delete, shut_cocc, shut_other, shut_list, shut_insert, shut_modify)

module _ (s : Instructions) (t : ℕ) where
  pub shut_general : s.general ≡ true → false ≡ shut_out s t
  unfolding shut_out
  shut_general e = simp e

  module _ (n : s.general ≡ false) where
    pub shut_dataset : s.mode ≡ InDataset → eqb t 0x434f4343 ≡ shut_out s t
    unfolding shut_out forbidden
    shut_dataset e = simp (n, e)

    pub shut_update : s.mode ≡ InUpdate → (b : Bool) → b ≡ forbidden InUpdate s.ruin s.coui s.controlled t → b ≡ shut_out s t
    unfolding shut_out
    shut_update e b x = simp (n, e) x

pub ruleset shut_out_ways = (shut_general, shut_dataset, shut_update)

-- ---- the loop over the fields: at directory place p, row place j, field i, where the whole comes to n

module _ (r : List ℕ) (h : Shape) (tags : List ℕ) (s : Instructions) (p j i n : ℕ) (inv : order_from r h tags s p j i ≡ n)
    (e : Option Place) (en : e ≡ place_at r h p) where
  order_done : e ≡ None → 0 ≡ n
  unfolding order_from in_order faulty_field
  order_done x = rw (fields_done r h p e en x) at inv

  module _ (d : Place) (x : e ≡ Some d) where
    module _ (b : Bool) (eb : b ≡ shut_out s d.tag) where
      order_shut : b ≡ true → i ≡ n
      unfolding order_from in_order faulty_field
      order_shut y = simp (← eb, y) at (rw (fields_more r h p e en d x) at inv)

      module _ (nb : b ≡ false) (q : Option ℕ) (eq : q ≡ row_after tags d.tag j) where
        left : Left tags (rows_after d.tag (rows_with (drop j tags))) q
        left = rw eq (row_left tags d.tag j)

        order_none : q ≡ None → i ≡ n
        unfolding order_from in_order faulty_field
        order_none z =
            let l : rows_after d.tag (rows_with (drop j tags)) ≡ none = rw z at left in
            simp (← eb, nb, l) at (rw (fields_more r h p e en d x) at inv)

        order_more : (k : ℕ) → q ≡ Some k → order_from r h tags s d.next k (i + 1) ≡ n
        unfolding order_from in_order faulty_field
        order_more k z =
            let l : Left tags (rows_after d.tag (rows_with (drop j tags))) (Some k) = rw z at left in
            simp (← eb, nb, l.0) at (rw (fields_more r h p e en d x) at inv)

        order_place : (k : ℕ) → q ≡ Some k → k ≤ length tags
        order_place k z = let l : Left tags (rows_after d.tag (rows_with (drop j tags))) (Some k) = rw z at left in l.1

-- the same by the tag alone, where the directory is right from p on
module _ (r : List ℕ) (h : Shape) (tags : List ℕ) (s : Instructions) (p j i n : ℕ) (inv : order_from r h tags s p j i ≡ n) (k : RightFrom r h p) where
  pub order_end : get_or r p 0 ≡ 30 → Ok tt ≡ first_fault n
  order_end y = ap first_fault (order_done r h tags s p j i n inv None (right_done r h p k y) refl)

  module _ (y : get_or r p 0 ≡ 30 → ⊥) where
    next : Next r h p
    next = right_next r h p k y

    pub order_counts : i ≤ p → i + 1 ≤ p + (4 + h.a + h.b)
    order_counts l = omega arith

    pub order_word : i ≤ p → length r < 2 ^ 64 → i + 1 < 2 ^ 64
    order_word l g = let f = next.fits in omega arith

    module _ (tag : ℕ) (et : tag ≡ tag_at r p) where
      here : at_place tag next.start next.end (p + (4 + h.a + h.b)) ≡ place_at r h p
      here = rw et next.place

      module _ (b : Bool) (eb : b ≡ shut_out s tag) where
        pub order_out : b ≡ true → 2 ≤ i → Err i ≡ first_fault n
        order_out y l = faulty_first i (λ z. omega arith) ∙ ap first_fault (order_shut r h tags s p j i n inv _ here _ refl b eb y)

        module _ (nb : b ≡ false) (q : Option ℕ) (eq : q ≡ row_after tags tag j) where
          pub order_rowless : q ≡ None → 2 ≤ i → Err i ≡ first_fault n
          order_rowless y l = faulty_first i (λ z. omega arith) ∙ ap first_fault (order_none r h tags s p j i n inv _ here _ refl b eb nb q eq y)

          pub order_on : (m : ℕ) → q ≡ Some m → order_from r h tags s (p + (4 + h.a + h.b)) m (i + 1) ≡ n
          order_on = order_more r h tags s p j i n inv _ here _ refl b eb nb q eq

          pub order_left : (m : ℕ) → q ≡ Some m → m ≤ length tags
          order_left = order_place r h tags s p j i n inv _ here _ refl b eb nb q eq

pub ruleset order_turn = (order_end, order_counts, order_word, order_out, order_rowless, order_on, order_left, right_in, right_tag, right_on, right_word, right_falls)
