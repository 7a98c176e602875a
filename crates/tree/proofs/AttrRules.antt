-- The whole tree rule, and the test of an update's acts, are what the walk over a field's bytes finds. Assumes nothing.
use mathlib.Core.Path.{◌≡◌, refl, sym, ap, ◌∙◌}
use mathlib.Core.List.{List, [], ◌∷◌}
use mathlib.Core.Bool.{Bool, true, false, not}
use Prim.Native.Nat.{ℕ, suc, ◌+◌, ◌<◌}
use native.Mathlib.Omega.{arith}
use native.Mathlib.Nat.{add-zero}
use lib.ListN.{length, get_or, take, drop, length-drop}
use lib.Seq.{get_or-drop}
use lib.Dec.{eqb}
use borrow.Author.Tests.{eqb-true}
use Rattle.base.specs.Choice.{pick}
use Rattle.base.specs.Lists.{each}
use Rattle.fields.specs.Bytes.{le, run, sep}
use Rattle.fields.specs.Content.{many}
use Rattle.fields.specs.Places.{ending_at}
use Rattle.fields.proofs.ByteLaws.{le1}
use Rattle.forest.specs.Forest.{Tup, occurs, valued}
use Rattle.forest.specs.Rule.{codes_of, indexed, tree_of}
use Rattle.forest.specs.Acts.{insert, delete, modify, deletes, acts_of}
use Rattle.forest.proofs.RunLaws.{whole_rule, acts_rule}
use Rattle.rules.specs.Trees.{tup_of, instruction_of, utup_of}
use Rattle.tree.specs.Source.{two, past, hit, count, numbered, closed, run_at, remains}
use Rattle.tree.specs.Known.{Reach}
use Rattle.tree.specs.Verdict.{faulty_tuple}
use Rattle.tree.proofs.CountLaws.{past_above, count_none, count_next}
use Rattle.tree.proofs.TupleShape.{shape, values_at, Stands}
use Rattle.tree.proofs.FieldRule.{Sees, rule_walk}

-- ---- the whole rule

-- a text that 31 ends has bytes, unless its first is 31
value_there : (l : List ℕ) → run l < length l → get_or l (run l) 0 ≡ 31 → valued (take (run l) l) ≡ not (eqb (get_or l 0 0) 31)
unfolding run valued
value_there [] h e = absurd (omega arith)
value_there (x ∷ l) h e = go (eqb x 30) refl (eqb x 31) refl
  where
    go : (s : Bool) → eqb x 30 ≡ s → (t : Bool) → eqb x 31 ≡ t → valued (take (pick (sep x) 0 (suc (run l))) (x ∷ l)) ≡ not (eqb x 31)
    go true p t q = absurd (let z : x ≡ 31 = rw p at e in omega (arith, z, eqb-true x 30 p))
    go false p true q = rw (p, q)
    go false p false q = rw (p, q)

-- one tuple more counts if it has the code and parent
occurs_next : (b : List ℕ) (at c p : ℕ) (earlier : List Tup) → occurs c (codes_of p (tup_of (values_at b at) ∷ earlier)) ≡ occurs c (codes_of p earlier) + hit b at c p
unfolding occurs codes_of hit tup_of
occurs_next b at c p earlier = go (eqb (two b (at + 4)) p) refl (eqb (two b at) c) refl
  where
    go : (s : Bool) → eqb (two b (at + 4)) p ≡ s → (t : Bool) → eqb (two b at) c ≡ t
        → occurs c (codes_of p (tup_of (values_at b at) ∷ earlier)) ≡ occurs c (codes_of p earlier) + pick (eqb (two b at) c) (pick (eqb (two b (at + 4)) p) 1 0) 0
    go true e true f = rw (e, f) (omega arith)
    go true e false f = rw (e, f) (omega arith)
    go false e true f = rw (e, f) (omega arith)
    go false e false f = rw (e, f) (omega arith)

-- the tuples passed are those before the offset
abbrev Counted : List ℕ → List Tup → ℕ → Type 0
Counted b earlier at = (c p : ℕ) → count b 0 at c p ≡ occurs c (codes_of p earlier)

-- what the whole rule sees of a tuple
whole_sees : (lo hi : ℕ) (b : List ℕ) (earlier : List Tup) (at : ℕ) → Stands lo hi b at → Reach b 0 at → Counted b earlier at → Sees whole_rule tup_of (Counted b) b true earlier at
unfolding whole_rule tup_of indexed numbered closed past
whole_sees lo hi b earlier at st r counted =
    let l : List ℕ = drop (at + 7) b in
    let first : get_or l 0 0 ≡ get_or b (at + 7) 0 = get_or-drop (at + 7) b 0 0 ∙ ap (λ (k : ℕ). get_or b k 0) (add-zero (at + 7)) in
    let same : count b 0 at (two b at) (two b (at + 4)) + 1 ≡ suc (occurs (two b at) (codes_of (two b (at + 4)) earlier)) = omega (arith, counted (two b at) (two b (at + 4))) in
    record {
      parent = refl;
      right = ap (eqb (two b (at + 2))) (sym same);
      shuts = value_there l (omega (arith, length-drop (at + 7) b, st.inside)) (get_or-drop (at + 7) b (run l) 0 ∙ st.closing) ∙ ap (λ (x : ℕ). not (eqb x 31)) first;
      place = omega arith;
      holds = λ c p. count_next b 0 at c p r ∙ ap (λ (n : ℕ). n + hit b at c p) (counted c p) ∙ sym (occurs_next b at c p earlier);
    }

-- no tuple is passed at the start
counted_none : (b : List ℕ) → Counted b [] 0
unfolding occurs codes_of
counted_none b c p = count_none b 0 0 c p (omega arith)

-- the whole rule over the tuples of a field
pub tree_walk : (lo hi : ℕ) (b : List ℕ) → ending_at (shape lo hi) b 0 ≡ 0
    → faulty_tuple (tree_of (each tup_of (many (shape lo hi) b))) ≡ remains (length b) (run_at b true 0 0 1 false)
unfolding tree_of whole_rule
tree_walk lo hi b z = rule_walk whole_rule tup_of lo hi b true (Counted b) (whole_sees lo hi b) [] (λ r. r.entries) _ refl (counted_none b) refl z

-- ---- parents only

-- only the instruction 2 deletes
deletes_two : (n : ℕ) → deletes (instruction_of n) ≡ eqb n 2
unfolding deletes instruction_of
deletes_two n = go (eqb n 1) refl (eqb n 2) refl
  where
    go : (s : Bool) → eqb n 1 ≡ s → (t : Bool) → eqb n 2 ≡ t → deletes (pick (eqb n 1) insert (pick (eqb n 2) delete modify)) ≡ eqb n 2
    go true e t f = rw (eqb-true n 1 e)
    go false e true f = rw (e, f)
    go false e false f = rw (e, f)

-- what the test of acts sees of a tuple
acts_see : (lo hi : ℕ) (b : List ℕ) (k at : ℕ) → Stands lo hi b at → Reach b 0 at → Unit {0} → Sees acts_rule utup_of (λ j i. Unit {0}) b false k at
unfolding acts_rule utup_of numbered closed
acts_see lo hi b k at st r u =
    record {
      parent = refl;
      right = refl;
      shuts = deletes_two (le 1 (drop (at + 6) b)) ∙ ap (λ (x : ℕ). eqb x 2) (le1 b (at + 6) (omega (arith, past_above b at, st.inside)));
      place = omega arith;
      holds = tt;
    }

-- the test over the tuples of a field
pub acts_walk : (lo hi : ℕ) (b : List ℕ) → ending_at (shape lo hi) b 0 ≡ 0
    → faulty_tuple (acts_of (each utup_of (many (shape lo hi) b))) ≡ remains (length b) (run_at b false 0 0 1 false)
unfolding acts_of acts_rule
acts_walk lo hi b z = rule_walk acts_rule utup_of lo hi b false (λ k at. Unit {0}) (acts_see lo hi b) 1 (λ r. r.acts) _ refl tt refl z
