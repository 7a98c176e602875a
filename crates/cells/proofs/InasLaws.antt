-- Laws of INAS fields in cells. Assumes nothing.
use Prim.Native.Nat.{ℕ, ◌+◌, ◌-◌, ◌≤◌, ◌<◌}
use mathlib.Core.Path.{◌≡◌, refl, sym, ◌∙◌}
use mathlib.Core.Bool.{Bool, true, false}
use mathlib.Core.List.{List, [], ◌∷◌}
use native.Mathlib.Omega.{arith}
use borrow.Author.Tests.{eq-eqb, ne_eqb}
use lib.ListN.{length, get_or, drop, length-take, length-drop}
use lib.Seq.{get_or-take, get_or-drop}
use lib.Dec.{eqb}
use Rattle.base.specs.Choice.{pick}
use Rattle.std.specs.Prelude.{Result, Ok, Err}
use Rattle.base.specs.Check.{ok, bind}
use Rattle.base.specs.declared.Fault.{Fault}
use Rattle.base.specs.Keys.{join, leave}
use Rattle.base.specs.Lists.{each, Each}
use Rattle.base.proofs.EachLaws.{each_map}
use Rattle.skeleton.specs.Place.{between}
use Rattle.fields.specs.Bytes.{le}
use Rattle.fields.specs.Table.{head_of, tuple_of}
use Rattle.fields.specs.Values.{values, num_at}
use Rattle.fields.specs.Content.{fill}
use Rattle.fields.specs.declared.Format.{Format}
use Rattle.fields.specs.declared.Format.TheVariants.{InasNew, InasGone}
use Rattle.fields.proofs.ValueLaws.{is_number, lies, head_number}
use Rattle.rules.specs.Content.{inas_format}
use Rattle.rules.specs.Associations.{inas_key}
use Rattle.rules.specs.Record.{assoc_of}
use Rattle.rules.specs.Modify.{assoc_key, act_inas}
use Rattle.cells.specs.Cells.{bodies_of}
use Rattle.cells.specs.Keys.{key_in, Long, InasBody}
use Rattle.cells.specs.Acts.{act_on, Acts, InasActs}
use Rattle.cells.proofs.LiftLaws.{joins_by, leaves_by, act_each}

-- ---- the key of an INAS, inserted or deleted

-- the format of one that is deleted, or inserted
abbrev format : Bool → Format
format gone = pick gone InasGone InasNew

-- the key read by a format
abbrev key_by : Bool → List ℕ → List ℕ
key_by gone b = let v = values (head_of (format gone)) b in num_at v 0 ∷ num_at v 1 ∷ num_at v 2 ∷ num_at v 3 ∷ []

-- it is the same by each
keys_alike : (s : Bool) (b : List ℕ) → key_by s b ≡ key_by false b
unfolding head_of values
keys_alike true b = refl
keys_alike false b = refl

module _ (gone : Bool) (b : List ℕ) (e : fill (head_of (format gone)) (tuple_of (format gone)) b ≡ true) where
  -- what computes for both formats
  either_way : (t : Bool) (P : Format → Bool) → P InasGone ≡ true → P InasNew ≡ true → P (format t) ≡ true
  either_way true P p q = p
  either_way false P p q = q

  number_at : (j o w : ℕ) → is_number (head_of InasGone) j w ≡ true → is_number (head_of InasNew) j w ≡ true
      → lies (head_of InasGone) j o ≡ true → lies (head_of InasNew) j o ≡ true
      → (o + w ≤ length b) × (num_at (values (head_of (format gone)) b) j ≡ le w (drop o b))
  number_at j o w p q r s =
      head_number (head_of (format gone)) (tuple_of (format gone)) b e j o w
      (either_way gone (λ k. is_number (head_of k) j w) p q)
      (either_way gone (λ k. lies (head_of k) j o) r s)

  pub inas_bytes : 10 ≤ length b
  unfolding head_of
  inas_bytes = (number_at 4 9 1 refl refl refl refl).0

  key_by_lem : key_by gone b ≡ key_in true b
  unfolding head_of key_in
  key_by_lem =
      rw ((number_at 0 0 1 refl refl refl refl).1, (number_at 1 1 4 refl refl refl refl).1, (number_at 2 5 2 refl refl refl refl).1, (number_at 3 7 2 refl refl refl refl).1)

  pub inas_key_lem : key_in true b ≡ inas_key b
  unfolding inas_key inas_format
  inas_key_lem = sym key_by_lem ∙ keys_alike gone b ∙ sym (keys_alike (eqb (get_or b 9 0) 2) b)

-- stored ones
pub stored_keys : (bs : List (List ℕ)) → Each InasBody bs → Each (λ (b : List ℕ). key_in true b ≡ inas_key b) bs
stored_keys bs p = each_map bs (λ b e. inas_key_lem false b e) p

pub stored_long : (bs : List (List ℕ)) → Each InasBody bs → Each (Long 9) bs
stored_long bs p = each_map bs (λ b e. omega (arith, inas_bytes false b e)) p

-- ---- what it does to bodies, and to what they say

acts_each : (b : List ℕ) (bs : List (List ℕ))
    → act_inas b (each assoc_of bs) ≡ bind (act_on inas_key (eqb (get_or b 9 0) 1) 0 b bs) (λ ys. ok (each assoc_of ys))
unfolding act_inas assoc_of
acts_each b bs = act_each assoc_of assoc_key 0 (eqb (get_or b 9 0) 1) b bs

-- the code's answer for the bodies is that for what they say
answered : (b : List ℕ) (bs : List (List ℕ)) (d u c : List ℕ) (most n : ℕ) → most ≤ n + 1 → (r : Result ℕ Fault)
    → Acts (act_on inas_key (eqb (get_or b 9 0) 1) 0 b bs) d u c most r → InasActs b bs d u c n r
unfolding Acts InasActs bind
answered b bs d u c most n h (Err f) e = acts_each b bs ∙ rw e
answered b bs d u c most n h (Ok m) e = (record { bodies = e.0; is = acts_each b bs ∙ rw e.0 }, omega (arith, e.1))

-- an INAS of a modify from at to end of u
module _ (d u c : List ℕ) (at end n : ℕ) (g : at ≤ end) (l : end ≤ length u)
    (filled : fill (head_of (inas_format false (between u at end))) (tuple_of (inas_format false (between u at end))) (between u at end) ≡ true) where
  abbrev body : List ℕ
  body = between u at end

  by_format : fill (head_of (format (eqb (get_or body 9 0) 2))) (tuple_of (format (eqb (get_or body 9 0) 2))) body ≡ true
  unfolding inas_format
  by_format = filled

  length_body : length body ≡ end - at
  length_body = let x = length-take (end - at) (drop at u) in let y = length-drop at u in omega arith

  inas_end : at + 10 ≤ end
  inas_end = omega (arith, length_body, inas_bytes (eqb (get_or body 9 0) 2) body by_format)

  pub inas_inside : at + 9 ≤ end
  inas_inside = omega (arith, inas_end)

  pub inas_read : at + 9 < length u
  inas_read = omega (arith, inas_end)

  tenth : get_or body 9 0 ≡ get_or u (at + 9) 0
  tenth = get_or-take (end - at) (drop at u) 9 0 (omega (arith, inas_end)) ∙ get_or-drop at u 9 0

  module _ (right : Each InasBody (bodies_of d u c n)) (e : List ℕ) (r : Result ℕ Fault) where
    key_is : key_in true body ≡ inas_key body
    key_is = inas_key_lem (eqb (get_or body 9 0) 2) body by_format

    pub inas_joins : get_or u (at + 9) 0 ≡ 1 → Acts (join (key_in true) 0 body (bodies_of d u c n)) d u e (n + 1) r → InasActs body (bodies_of d u c n) d u e n r
    inas_joins x a =
        answered body (bodies_of d u c n) d u e (n + 1) n (omega arith) r
        (joins_by (key_in true) inas_key 0 body (bodies_of d u c n) key_is (stored_keys (bodies_of d u c n) right) d u e (n + 1) r _ (eq-eqb (get_or body 9 0) 1 (tenth ∙ x)) a)

    pub inas_leaves : (get_or u (at + 9) 0 ≡ 1 → ⊥) → Acts (leave (key_in true) 0 (key_in true body) (bodies_of d u c n)) d u e n r → InasActs body (bodies_of d u c n) d u e n r
    inas_leaves x a =
        answered body (bodies_of d u c n) d u e n n (omega arith) r
        (leaves_by (key_in true) inas_key 0 body (bodies_of d u c n) key_is (stored_keys (bodies_of d u c n) right) d u e n r _ (ne_eqb (get_or body 9 0) 1 (λ y. x (sym tenth ∙ y))) a)

pub ruleset inas_ways = (inas_inside, inas_read, inas_joins, inas_leaves, stored_long, arith)
