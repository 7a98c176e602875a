-- Laws of the tuples of a modify's SPAS in cells. Assumes nothing.
use Prim.Native.Nat.{ℕ, ◌+◌, ◌-◌, ◌*◌, ◌/◌, ◌≤◌, ◌<◌}
use mathlib.Core.Path.{◌≡◌, refl, sym, ap, ◌∙◌}
use mathlib.Core.Bool.{Bool, true, false}
use mathlib.Core.Option.{some}
use mathlib.Core.List.{List, [], ◌∷◌}
use native.Mathlib.Omega.{arith}
use borrow.Author.Tests.{eq-eqb, ne_eqb, eqb-true}
use lib.ListN.{length, get_or, drop}
use lib.Seq.{get_or-take, get_or-drop}
use lib.Dec.{eqb}
use Rattle.std.specs.Prelude.{Result, Ok, Err}
use Rattle.base.specs.Check.{Check, ok, bind}
use Rattle.base.specs.declared.Fault.{Fault}
use Rattle.base.specs.Keys.{join, leave}
use Rattle.base.specs.Lists.{each, Each}
use Rattle.base.proofs.EachLaws.{each_map}
use Rattle.skeleton.specs.Place.{between}
use Rattle.skeleton.proofs.BetweenLaws.{length_between}
use Rattle.fields.specs.Bytes.{le}
use Rattle.fields.specs.Table.{head_of, tuple_of}
use Rattle.fields.specs.Values.{values, num_at}
use Rattle.fields.specs.Content.{tuples, many, fill}
use Rattle.fields.specs.Places.{ending_at}
use Rattle.fields.specs.declared.Format.TheVariants.{Spas, SpasNew}
use Rattle.fields.specs.declared.Sub.{Sub}
use Rattle.fields.specs.declared.Sub.TheVariants.{Among, Raw}
use Rattle.fields.proofs.ByteLaws.{le1}
use Rattle.fields.proofs.TupleLaws.{Next}
use Rattle.fields.proofs.FieldLaws.{fill_list}
use Rattle.fields.proofs.EvenLaws.{even_next}
use Rattle.fields.proofs.ValueLaws.{tuple_number}
use Rattle.fields.proofs.WiderLaws.{spas, format_wider}
use Rattle.rules.specs.Associations.{spas_key}
use Rattle.rules.specs.Record.{Spatial, spatial_of}
use Rattle.rules.specs.Modify.{spatial_key, act_spas}
use Rattle.cells.specs.Cells.{bodies_of, spatial_in}
use Rattle.cells.specs.Keys.{key_in, Long, SpasBody}
use Rattle.cells.specs.Acts.{act_on, Acts, act_tuple, SpasNow, SpasActs}
use Rattle.cells.proofs.LiftLaws.{joins_by, leaves_by, act_each, acted_every}
use Rattle.cells.proofs.FrontLaws.{last_insert, one_tuple}
use Rattle.cells.proofs.TupleLaws.{Step, step, step_fill, no_tuple}

-- ---- one tuple

-- the key of the spatial association that a tuple is
abbrev pub tuple_key : List ℕ → List ℕ
tuple_key b = spatial_key (spatial_in b)

-- the subfields before SAUI
abbrev front : List Sub
front = Among 110 115 115 115 ∷ Raw 4 ∷ Among 1 2 255 255 ∷ Raw 4 ∷ Raw 4 ∷ []

-- 15 bytes that are a tuple
module _ (b : List ℕ) (size : length b ≡ 15) (e : fill (head_of Spas) (tuple_of Spas) b ≡ true) where
  next : Next (tuple_of Spas) b 0 15
  unfolding head_of tuple_of
  next = even_next (tuple_of Spas) refl b 0 (omega arith) (fill_list (tuple_of Spas) b e)

  pub tuple_key_lem : key_in false b ≡ tuple_key b
  unfolding tuple_of key_in spatial_of spas_key
  tuple_key_lem = sym (rw ((tuple_number (tuple_of Spas) b 0 15 next 0 0 1 refl refl).1, (tuple_number (tuple_of Spas) b 0 15 next 1 1 4 refl refl).1))

  pub tuple_saui : num_at (values (tuple_of Spas) b) 5 ≡ get_or b 14 0
  unfolding tuple_of
  tuple_saui = (tuple_number (tuple_of Spas) b 0 15 next 5 14 1 refl refl).1 ∙ le1 b 14 (omega arith)

  -- one that is inserted is that of a stored SPAS
  pub tuple_stored : num_at (values (tuple_of Spas) b) 5 ≡ 1 → SpasBody b
  unfolding head_of tuple_of
  tuple_stored x =
      (size, one_tuple (tuple_of SpasNew) b (omega arith) (last_insert front b 15 next.taken x ∙ ap some (sym size)))

-- one of a stored SPAS is one that a modify may send
pub stored_fill : (b : List ℕ) → SpasBody b → fill (head_of Spas) (tuple_of Spas) b ≡ true
stored_fill b p = (format_wider spas b p.1).0

pub stored_keys : (bs : List (List ℕ)) → Each SpasBody bs → Each (λ (b : List ℕ). key_in false b ≡ tuple_key b) bs
stored_keys bs p = each_map bs (λ b q. tuple_key_lem b q.0 (stored_fill b q)) p

pub stored_long : (bs : List (List ℕ)) → Each SpasBody bs → Each (Long 5) bs
stored_long bs p = each_map bs (λ b q. omega (arith, q.0)) p

-- ---- what it does to bodies, and to what they say

-- SAUI is insert
abbrev inserts : List ℕ → Bool
inserts b = eqb (num_at (values (tuple_of Spas) b) 5) 1

acts_each : (j : ℕ) (b : List ℕ) (bs : List (List ℕ)) → act_tuple j b (each spatial_in bs) ≡ bind (act_on tuple_key (inserts b) j b bs) (λ ys. ok (each spatial_in ys))
unfolding act_tuple
acts_each j b bs = act_each spatial_in spatial_key j (inserts b) b bs

-- the code's answer for the bodies is that for what they say
answered : (j : ℕ) (b : List ℕ) (bs : List (List ℕ)) (d u c : List ℕ) (most n : ℕ) → most ≤ n + 1 → Each SpasBody bs → (inserts b ≡ true → SpasBody b) → (r : Result ℕ Fault)
    → Acts (act_on tuple_key (inserts b) j b bs) d u c most r → SpasActs (act_tuple j b (each spatial_in bs)) d u c (n + 1) r
unfolding Acts SpasActs bind
answered j b bs d u c most n h q p (Err f) e = acts_each j b bs ∙ rw e
answered j b bs d u c most n h q p (Ok m) e =
    record { is = acts_each j b bs ∙ rw e.0; few = omega (arith, e.1); right = acted_every SpasBody tuple_key j (inserts b) b bs (bodies_of d u c m) q p e.0 }

-- tuple j of a modify, at p of u
module _ (d u c : List ℕ) (p j n : ℕ) (l : p + 15 ≤ length u) (filled : fill (head_of Spas) (tuple_of Spas) (between u p (p + 15)) ≡ true) (right : Each SpasBody (bodies_of d u c n))
    (e : List ℕ) (r : Result ℕ Fault) where
  abbrev body : List ℕ
  body = between u p (p + 15)

  size : length body ≡ 15
  size = length_between u p (p + 15) l ∙ omega arith

  last : num_at (values (tuple_of Spas) body) 5 ≡ get_or u (p + 14) 0
  last = tuple_saui body size filled ∙ get_or-take (p + 15 - p) (drop p u) 14 0 (omega arith) ∙ get_or-drop p u 14 0

  stored : inserts body ≡ true → SpasBody body
  stored x = tuple_stored body size filled (eqb-true (num_at (values (tuple_of Spas) body) 5) 1 x)

  pub tuple_joins : get_or u (p + 14) 0 ≡ 1 → Acts (join (key_in false) j body (bodies_of d u c n)) d u e (n + 1) r
      → SpasActs (act_tuple j body (each spatial_in (bodies_of d u c n))) d u e (n + 1) r
  tuple_joins x a =
      answered j body (bodies_of d u c n) d u e (n + 1) n (omega arith) right stored r
      (joins_by (key_in false) tuple_key j body (bodies_of d u c n) (tuple_key_lem body size filled) (stored_keys (bodies_of d u c n) right) d u e (n + 1) r _ (eq-eqb _ 1 (last ∙ x)) a)

  pub tuple_leaves : (get_or u (p + 14) 0 ≡ 1 → ⊥) → Acts (leave (key_in false) j (key_in false body) (bodies_of d u c n)) d u e n r
      → SpasActs (act_tuple j body (each spatial_in (bodies_of d u c n))) d u e (n + 1) r
  tuple_leaves x a =
      answered j body (bodies_of d u c n) d u e n n (omega arith) right stored r
      (leaves_by (key_in false) tuple_key j body (bodies_of d u c n) (tuple_key_lem body size filled) (stored_keys (bodies_of d u c n) right) d u e n r _ (ne_eqb _ 1 (λ y. x (sym last ∙ y))) a)

pub ruleset tuple_ways = (tuple_joins, tuple_leaves, stored_long, arith)

-- ---- the tuples from p to end of u, number j the first, act on the m bodies of c; of the n of c₀ the whole SPAS makes `whole`

pub record SpasAt (d u : List ℕ) (at end : ℕ) (c₀ : List ℕ) (n : ℕ) (c : List ℕ) (p j m : ℕ) : Type 0 where
  pub order : at ≤ p
  pub within : p ≤ end
  pub number : j ≤ p + 1
  pub room : m + (end - p) / 15 ≤ n + (end - at) / 15
  pub long : length c ≡ length c₀
  pub ending : (tuples (tuple_of Spas) (between u p end)).ending ≡ 0
  pub right : Each SpasBody (bodies_of d u c m)
  pub same : act_spas j (many (tuple_of Spas) (between u p end)) (each spatial_in (bodies_of d u c m))
      ≡ act_spas 1 (many (tuple_of Spas) (between u at end)) (each spatial_in (bodies_of d u c₀ n))

pub spas_start : (d u : List ℕ) (at end : ℕ) (c : List ℕ) (n : ℕ) → at ≤ end → fill (head_of Spas) (tuple_of Spas) (between u at end) ≡ true → Each SpasBody (bodies_of d u c n)
    → SpasAt d u at end c n c at 1 n
unfolding head_of ending_at
spas_start d u at end c n h e q =
    record { order = omega arith; within = h; number = omega arith; room = omega arith; long = refl; ending = fill_list (tuple_of Spas) (between u at end) e; right = q; same = refl }

module _ (d u : List ℕ) (at end : ℕ) (c₀ : List ℕ) (n : ℕ) (c : List ℕ) (p j m : ℕ) (s : SpasAt d u at end c₀ n c p j m) where
  -- what the whole makes
  abbrev whole : Check (List Spatial)
  whole = act_spas 1 (many (tuple_of Spas) (between u at end)) (each spatial_in (bodies_of d u c₀ n))

  pub spas_done : end ≤ p → SpasActs whole d u c (n + (end - at) / 15) (Ok m)
  unfolding SpasActs act_spas tuple_of
  spas_done h =
      record {
        is = sym s.same ∙ rw (no_tuple (tuple_of Spas) refl refl u p end h);
        few = omega (arith, s.room);
        right = s.right;
      }

  module _ (h : p < end) (l : end ≤ length u) where
    first : Step (tuple_of Spas) u p end
    unfolding tuple_of
    first = step (tuple_of Spas) refl refl u p end h l s.ending

    pub spas_inside : p + 15 ≤ end
    spas_inside = first.inside

    pub spas_read : p + 15 ≤ length u
    spas_read = omega (arith, spas_inside)

    pub spas_small : end ≤ 16777216 → p + 15 ≤ 16777216
    spas_small g = omega (arith, spas_inside)

    pub spas_room : 7 * (n + (end - at) / 15) ≤ length c₀ → 7 * m + 7 ≤ length c
    spas_room g = omega (arith, spas_inside, s.room, s.long)

    pub spas_fill : fill (head_of Spas) (tuple_of Spas) (between u p (p + 15)) ≡ true
    unfolding head_of tuple_of
    spas_fill = (step_fill (tuple_of Spas) refl refl u p end l first).1

    -- one tuple, and the others
    abbrev here : Check (List Spatial)
    here = act_tuple j (between u p (p + 15)) (each spatial_in (bodies_of d u c m))

    more : bind here (λ ss. act_spas (j + 1) (many (tuple_of Spas) (between u (p + 15) end)) ss) ≡ whole
    unfolding act_spas act_tuple
    more = rw first.first at s.same

    pub spas_refused : (e : List ℕ) (r : Result ℕ Fault) → SpasActs here d u e (m + 1) r → (f : Fault) → r ≡ Err f → SpasActs whole d u e (n + (end - at) / 15) (Err f)
    unfolding SpasActs bind
    spas_refused e r a f x = sym more ∙ rw (rw x at a)

    pub spas_turn : (e : List ℕ) → length e ≡ length c → (r : Result ℕ Fault) → SpasActs here d u e (m + 1) r → (k : ℕ) → r ≡ Ok k → SpasAt d u at end c₀ n e (p + 15) (j + 1) k
    unfolding SpasActs bind
    spas_turn e le r a k x =
        let y : SpasNow here d u e (m + 1) k = rw x at a in
        let inside = spas_inside in
        let room : m + (end - p) / 15 ≤ n + (end - at) / 15 = s.room in
        let number : j ≤ p + 1 = s.number in
        let order : at ≤ p = s.order in
        let few : k ≤ m + 1 = y.few in
        record {
          order = omega arith;
          within = inside;
          number = omega arith;
          room = omega arith;
          long = le ∙ s.long;
          ending = first.rest;
          right = y.right;
          same = rw y.is at more;
        }

pub ruleset spas_turns = (spas_start, spas_done, spas_inside, spas_read, spas_small, spas_room, spas_fill, spas_refused, spas_turn, arith)
