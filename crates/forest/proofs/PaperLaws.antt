-- The tree rule takes just the lists of tuples of which the paper's sentences hold. Assumes nothing.
use mathlib.Core.Path.{◌≡◌, refl, sym, ap, subst, ◌∙◌}
use mathlib.Core.List.{List, [], ◌∷◌}
use mathlib.Core.Logic.{◌⊎◌, inl, inr, ⊎_elim}
use mathlib.Core.Bool.{Bool, true, false, not, true≢false}
use Prim.Native.Nat.{ℕ, suc, ◌+◌, ◌-◌, ◌≤◌, ◌<◌}
use native.Mathlib.Omega.{arith}
use lib.ListN.{length, get_or, take}
use lib.Dec.{eqb}
use borrow.Author.Tests.{eq-eqb, eqb-true, eqb-false}
use Rattle.base.specs.Choice.{pick, either}
use Rattle.base.specs.Check.{Check, ok, no}
use Rattle.base.specs.declared.Fault.{Fault}
use Rattle.base.proofs.CheckLaws.{bind_inv, ok_no}
use Rattle.forest.specs.Forest.{Forest, Tup, occurs, valued}
use Rattle.forest.specs.Rule.{codes_of, indexed, all_taken, tree_of}
use Rattle.forest.specs.Reader.{Read, belongs, faulty, read_up_to, Falls}
use Rattle.forest.specs.Paper.{blank, tuple_at, Above, itself, beyond, Stands, TreeRule}
use Rattle.forest.proofs.Numbers.{lt_or_le}
use Rattle.forest.proofs.CheckLaws.{bind_no}
use Rattle.forest.proofs.ReaderLaws.{read_holds, read_accepted}
use Rattle.forest.proofs.TupleReader.{Passing, passing, list_falls}
use Rattle.forest.proofs.RunLaws.{whole_rule}
use Rattle.forest.proofs.TuplesLaws.{onto, onto_length}
use Rattle.forest.proofs.TreeLaws.{tuples, taken_whole, unfaulty, index_right, tree_reads}

-- ---- tuples passed and tuples left, as one list

-- a tuple left
get_d_onto : (e l : List Tup) (i : ℕ) → get_or (onto e l) (length e + i) blank ≡ get_or l i blank
unfolding onto
get_d_onto [] l i = let s : 0 + i ≡ i = omega arith in ap (λ (k : ℕ). get_or l k blank) s
get_d_onto (x ∷ e) l i = let s : length (x ∷ e) + i ≡ length e + suc i = omega arith in rw s (get_d_onto e (x ∷ l) (suc i))

-- the tuples passed, and so many of those left
take_onto : (e l : List Tup) (i : ℕ) → take (length e + i) (onto e l) ≡ onto e (take i l)
unfolding onto
take_onto [] l i = let s : 0 + i ≡ i = omega arith in ap (λ (k : ℕ). take k l) s
take_onto (x ∷ e) l i = let s : length (x ∷ e) + i ≡ length e + suc i = omega arith in rw s (take_onto e (x ∷ l) (suc i))

-- one tuple counts by itself
occurs_one : (c p : ℕ) (t : Tup) (l : List Tup) → occurs c (codes_of p (t ∷ l)) ≡ occurs c (codes_of p (t ∷ [])) + occurs c (codes_of p l)
unfolding occurs codes_of
occurs_one c p t l = go (eqb t.paix p)
  where
    code : (y : Bool) → pick y (suc (occurs c (codes_of p l))) (occurs c (codes_of p l)) ≡ pick y 1 0 + occurs c (codes_of p l)
    code true = omega arith
    code false = omega arith

    go : (x : Bool) → occurs c (pick x (t.natc ∷ codes_of p l) (codes_of p l)) ≡ occurs c (pick x (t.natc ∷ []) []) + occurs c (codes_of p l)
    go true = code (eqb t.natc c)
    go false = omega arith

-- no tuple counts nothing
occurs_none : (c p : ℕ) → occurs c (codes_of p []) ≡ 0
unfolding occurs codes_of
occurs_none c p = refl

-- the order in which tuples are counted does not matter
occurs_onto : (c p : ℕ) (e l : List Tup) → occurs c (codes_of p (onto e l)) ≡ occurs c (codes_of p e) + occurs c (codes_of p l)
unfolding onto
occurs_onto c p [] l = omega (arith, occurs_none c p)
occurs_onto c p (x ∷ e) l = omega (arith, occurs_onto c p e (x ∷ l), occurs_one c p x l, occurs_one c p x e)

-- the place before the next one
one_less : (n : ℕ) → suc n - 1 ≡ n
one_less n = omega arith

-- a run with an entry that is not faulty is not shut
unshut : (shut right : Bool) → either shut (not right) ≡ false → shut ≡ false
unshut true right e = absurd (true≢false e)
unshut false right e = refl

-- an ancestor's ancestor
above_above : (ts : List Tup) (q j k : ℕ) → Above ts q j → Above ts j k → Above ts q k
above_above ts q j k a (itself e) = rw (← e) a
above_above ts q j k a (beyond h b) = beyond h (above_above ts q j (tuple_at ts k).paix a b)

-- no value is an empty one
unvalued : (v : List ℕ) → valued v ≡ false → v ≡ []
unfolding valued
unvalued [] e = refl
unvalued (x ∷ v) e = absurd (true≢false e)

-- behind a tuple less is left
tuples_fall : Falls tuples
tuples_fall = list_falls whole_rule.parent whole_rule.place whole_rule.right whole_rule.shuts whole_rule.keep whole_rule.none whole_rule.one

module _ (all : List Tup) where
  -- the first tuple left is the one of the next place
  tuple_here : (e ts : List Tup) (t : Tup) → onto e (t ∷ ts) ≡ all → tuple_at all (suc (length e)) ≡ t
  tuple_here e ts t s =
      let z : suc (length e) - 1 ≡ length e + 0 = omega arith in
      ap (λ (l : List Tup). get_or l (suc (length e) - 1) blank) (sym s) ∙ ap (λ (k : ℕ). get_or (onto e (t ∷ ts)) k blank) z ∙ get_d_onto e (t ∷ ts) 0

  -- the tuples passed are those before it
  before_here : (e ts : List Tup) (c p : ℕ) → onto e ts ≡ all → occurs c (codes_of p e) ≡ occurs c (codes_of p (take (suc (length e) - 1) all))
  before_here e ts c p s =
      let z : suc (length e) - 1 ≡ length e + 0 = omega arith in
      let same : take (suc (length e) - 1) all ≡ onto e [] = ap (take (suc (length e) - 1)) (sym s) ∙ ap (λ (k : ℕ). take k (onto e ts)) z ∙ take_onto e ts 0 in
      rw same (omega (arith, occurs_onto c p e [], occurs_none c p))

  -- what the run of parent p knows of that parent: it is none, or has a value where the run is shut
  abbrev Shutting : ℕ → Bool → Type 0
  Shutting p shut = ((p ≡ 0) × (shut ≡ false)) ⊎ ((0 < p) × (shut ≡ valued (tuple_at all p).atvl))

  -- so the value of the parent of a run that is not shut is empty
  shutting_open : (p : ℕ) → Shutting p false → 0 < p → (tuple_at all p).atvl ≡ []
  shutting_open p (inl x) h = absurd (omega (arith, x.0))
  shutting_open p (inr x) h = unvalued (tuple_at all p).atvl (sym x.1)

  -- at the children of an entry
  shutting_into : (e ts : List Tup) (t : Tup) → onto e (t ∷ ts) ≡ all → Shutting (suc (length e)) (valued t.atvl)
  shutting_into e ts t s = inr (omega arith, ap (λ (x : Tup). valued x.atvl) (sym (tuple_here e ts t s)))

  -- ---- a list that is taken

  -- what is known behind the tuples e, in a run of parent p
  record Read-so-far (p : ℕ) (shut : Bool) (e ts : List Tup) : Type 0 where
    splits : onto e ts ≡ all
    chain : Above all p (length e)
    shutting : Shutting p shut
    done : (k : ℕ) → 0 < k → k ≤ length e → Stands all k

  -- the sentences, of a tuple that is an entry of the run
  entry_stands : (p : ℕ) (shut : Bool) (e ts : List Tup) (t : Tup) → Read-so-far p shut e (t ∷ ts) → t.paix ≡ p → either shut (not (indexed e t)) ≡ false → Stands all (suc (length e))
  entry_stands p shut e ts t i q f =
      let here = tuple_here e ts t i.splits in
      let index = index_right e p t q (unfaulty shut (indexed e t) f) in
      record {
        parent = inr (rw (here, q, one_less (length e)) i.chain);
        index = rw (here, q) (index ∙ ap suc (before_here e (t ∷ ts) t.natc p i.splits));
        value = rw (here, q) (shutting_open p (subst (Shutting p) (unshut shut (indexed e t) f) i.shutting));
      }

  -- an entry passed
  so_far_into : (p : ℕ) (shut : Bool) (e ts : List Tup) (t : Tup) → Read-so-far p shut e (t ∷ ts) → t.paix ≡ p → either shut (not (indexed e t)) ≡ false
      → Read-so-far (suc (length e)) (valued t.atvl) (t ∷ e) ts
  unfolding onto
  so_far_into p shut e ts t i q f =
      record {
        splits = i.splits;
        chain = itself refl;
        shutting = shutting_into e ts t i.splits;
        done = λ k h l. ⊎_elim
            (λ (m : k < suc (length e)). i.done k h (omega arith))
            (λ (m : suc (length e) ≤ k). let same : k ≡ suc (length e) = omega arith in rw same (entry_stands p shut e ts t i q f))
            (lt_or_le k (suc (length e)));
      }

  -- its children passed
  so_far_back : (p : ℕ) (shut : Bool) (e ts : List Tup) (t : Tup) (c : Bool) (g us : List Tup) → Read-so-far p shut e (t ∷ ts) → t.paix ≡ p
      → Read-so-far (suc (length e)) c g us → Read-so-far p shut g us
  so_far_back p shut e ts t c g us i q j =
      let up : Above all p (suc (length e)) = beyond {k = suc (length e)} (omega arith) (itself (sym (ap (λ (x : Tup). x.paix) (tuple_here e ts t i.splits) ∙ q))) in
      record { splits = j.splits; chain = above_above all p (suc (length e)) (length g) up j.chain; shutting = i.shutting; done = j.done }

  -- behind a run that was read
  so_far_run : (n p : ℕ) (shut : Bool) (s : Passing (List Tup) Tup) (r : Read (Passing (List Tup) Tup) Forest) → length s.left ≤ n
      → read_up_to tuples n p shut s ≡ ok r → Read-so-far p shut s.past s.left → Read-so-far p shut r.end.past r.end.left
  unfolding whole_rule
  so_far_run n p shut s r l e i =
      (read_holds tuples tuples_fall (λ q c u. Read-so-far q c u.past u.left)
      (λ q c u h x f j. into q c u u.left refl h x f j)
      (λ q c u v h x j b k. back q c u v u.left refl h x j k)
      n p shut s r l e i).0
    where
      into : (q : ℕ) (c : Bool) (u : Passing (List Tup) Tup) (ts : List Tup) → u.left ≡ ts → tuples.here u ≡ true → tuples.parent u ≡ q → faulty tuples c u ≡ false
          → Read-so-far q c u.past u.left → Read-so-far (tuples.place u) (tuples.shuts u) (tuples.next u).past (tuples.next u).left
      into q c u [] o h x f j = absurd (true≢false (sym (rw o at h)))
      into q c u (t ∷ ts) o h x f j = rw o (so_far_into q c u.past ts t (rw o at j) (rw o at x) (rw o at f))

      back : (q : ℕ) (c : Bool) (u v : Passing (List Tup) Tup) (ts : List Tup) → u.left ≡ ts → tuples.here u ≡ true → tuples.parent u ≡ q
          → Read-so-far q c u.past u.left → Read-so-far (tuples.place u) (tuples.shuts u) v.past v.left → Read-so-far q c v.past v.left
      back q c u v [] o h x j k = absurd (true≢false (sym (rw o at h)))
      back q c u v (t ∷ ts) o h x j k = so_far_back q c u.past ts t _ v.past v.left (rw o at j) (rw o at x) k

  -- ---- a list of which the sentences hold

  module _ (rule : TreeRule all) where
    -- what is known behind the tuples e: an ancestor of the latest that the next one names is the run's parent or one of its ancestors
    record Reading (p : ℕ) (shut : Bool) (e ts : List Tup) : Type 0 where
      splits : onto e ts ≡ all
      shutting : Shutting p shut
      outer : (t : Tup) (us : List Tup) → ts ≡ t ∷ us → Above all t.paix (length e) → Above all t.paix p

    -- the sentences, of the next tuple
    next_stands : (e ts : List Tup) (t : Tup) → onto e (t ∷ ts) ≡ all → Stands all (suc (length e))
    next_stands e ts t s = rule (suc (length e)) (omega arith) (omega (arith, onto_length e (t ∷ ts), ap length s))

    -- an entry of the run is not faulty
    entry_fine : (p : ℕ) (shut : Bool) (e ts : List Tup) (t : Tup) → Reading p shut e (t ∷ ts) → t.paix ≡ p → either shut (not (indexed e t)) ≡ false
    unfolding indexed valued
    entry_fine p shut e ts t i q =
        let here = tuple_here e ts t i.splits in
        let st = next_stands e ts t i.splits in
        let index : t.atix ≡ suc (occurs t.natc (codes_of t.paix e)) =
        rw here at st.index ∙ ap suc (sym (before_here e (t ∷ ts) t.natc t.paix i.splits)) in
        let value : 0 < p → (tuple_at all p).atvl ≡ [] = rw (here, q) at st.value in
        rw (eq-eqb t.atix (suc (occurs t.natc (codes_of t.paix e))) index) (unshuts value i.shutting)
      where
        unshuts : (0 < p → (tuple_at all p).atvl ≡ []) → Shutting p shut → either shut false ≡ false
        unshuts v (inl x) = rw x.1
        unshuts v (inr x) = rw (x.1, v x.0)

    -- an entry passed
    reading_into : (p : ℕ) (shut : Bool) (e ts : List Tup) (t : Tup) → Reading p shut e (t ∷ ts) → Reading (suc (length e)) (valued t.atvl) (t ∷ e) ts
    unfolding onto
    reading_into p shut e ts t i = record { splits = i.splits; shutting = shutting_into e ts t i.splits; outer = λ x us o a. a }

    -- its children passed, up to a tuple that is none of them
    reading_back : (p : ℕ) (shut : Bool) (e ts : List Tup) (t : Tup) (c : Bool) (g us : List Tup) → Reading p shut e (t ∷ ts) → t.paix ≡ p
        → ((x : Tup) (vs : List Tup) → us ≡ x ∷ vs → x.paix ≡ suc (length e) → ⊥) → Reading (suc (length e)) c g us → Reading p shut g us
    reading_back p shut e ts t c g us i q past j =
        record { splits = j.splits; shutting = i.shutting; outer = λ x vs o a. out x (past x vs o) (j.outer x vs o a) }
      where
        out : (x : Tup) → (x.paix ≡ suc (length e) → ⊥) → Above all x.paix (suc (length e)) → Above all x.paix p
        out x n (itself y) = absurd (n y)
        out x n (beyond h a) = rw (tuple_here e ts t i.splits, q) at a

    -- the same of a state
    abbrev ReadingAt : ℕ → Bool → Passing (List Tup) Tup → Type 0
    ReadingAt p shut s = Reading p shut s.past s.left

    -- no tuple of the run stands there
    not_next : (p : ℕ) (s : Passing (List Tup) Tup) → belongs tuples p s ≡ false → (x : Tup) (vs : List Tup) → s.left ≡ x ∷ vs → x.paix ≡ p → ⊥
    unfolding whole_rule
    not_next p s b x vs o e = eqb-false x.paix p (rw o at b) e

    -- from an entry to its children
    state_into : (q : ℕ) (c : Bool) (u : Passing (List Tup) Tup) → tuples.here u ≡ true → ReadingAt q c u → ReadingAt (tuples.place u) (tuples.shuts u) (tuples.next u)
    unfolding whole_rule
    state_into q c u h j = go u.left refl
      where
        go : (ts : List Tup) → u.left ≡ ts → ReadingAt (tuples.place u) (tuples.shuts u) (tuples.next u)
        go [] o = absurd (true≢false (sym (rw o at h)))
        go (t ∷ ts) o = rw o (reading_into q c u.past ts t (rw o at j))

    -- from where they stop back to the run
    state_back : (q : ℕ) (c : Bool) (u v : Passing (List Tup) Tup) → tuples.here u ≡ true → tuples.parent u ≡ q → ReadingAt q c u
        → belongs tuples (tuples.place u) v ≡ false → ReadingAt (tuples.place u) (tuples.shuts u) v → ReadingAt q c v
    unfolding whole_rule
    state_back q c u v h x j b k = go u.left refl
      where
        go : (ts : List Tup) → u.left ≡ ts → ReadingAt q c v
        go [] o = absurd (true≢false (sym (rw o at h)))
        go (t ∷ ts) o = reading_back q c u.past ts t _ v.past v.left (rw o at j) (rw o at x) (not_next (suc (length u.past)) v b) k

    -- an entry of the run is not faulty
    state_fine : (q : ℕ) (c : Bool) (u : Passing (List Tup) Tup) → belongs tuples q u ≡ true → ReadingAt q c u → faulty tuples c u ≡ false
    unfolding whole_rule
    state_fine q c u b j = go u.left refl
      where
        go : (ts : List Tup) → u.left ≡ ts → faulty tuples c u ≡ false
        go [] o = absurd (true≢false (sym (rw o at b)))
        go (t ∷ ts) o = rw o (entry_fine q c u.past ts t (rw o at j) (eqb-true t.paix q (rw o at b)))

    -- nothing is passed at the start
    reading_start : ReadingAt 0 false (passing [] all)
    unfolding onto
    reading_start = record { splits = refl; shutting = inl (refl, refl); outer = λ t us o a. a }

    -- the run at the top leaves no tuple
    none_left : (e ts : List Tup) (t : Tup) → Reading 0 false e (t ∷ ts) → (t.paix ≡ 0 → ⊥) → ⊥
    none_left e ts t i n =
        let says : (t.paix ≡ 0) ⊎ Above all t.paix (length e) = rw (tuple_here e ts t i.splits, one_less (length e)) at (next_stands e ts t i.splits).parent in
        ⊎_elim n (λ a. top (i.outer t ts refl a)) says
      where
        top : Above all t.paix 0 → ⊥
        top (itself x) = n x
        top (beyond h a) = omega (arith, h)

    -- so the tree rule takes the list
    not_refused : (f : Fault) → tree_of all ≡ no f → ⊥
    unfolding whole_rule all_taken
    not_refused f e =
        ⊎_elim
        (λ x. read_accepted tuples tuples_fall ReadingAt (λ q c u h y g j. state_into q c u h j) state_back state_fine (length all) 0 false (passing [] all) f (omega arith) x reading_start)
        (λ x. let (r, read, left) = x in
        let end = read_holds tuples tuples_fall ReadingAt (λ q c u h y g j. state_into q c u h j) state_back (length all) 0 false (passing [] all) r (omega arith) read reading_start in
        go r r.end.left refl end.0 end.1 left)
        (bind_no (read_up_to tuples (length all) 0 false (passing [] all)) _ f (sym (tree_reads all) ∙ e))
      where
        go : (r : Read (Passing (List Tup) Tup) Forest) (ts : List Tup) → r.end.left ≡ ts → ReadingAt 0 false r.end → belongs tuples 0 r.end ≡ false
            → all_taken r.found (suc (length r.end.past)) r.end.left ≡ no f → ⊥
        go r [] o i b l = ok_no (rw o at l)
        go r (t ∷ ts) o i b l = none_left r.end.past ts t (rw o at i) (not_next 0 r.end b t ts o)

-- ---- the tree rule is the three sentences

-- of the tuples that the tree rule takes the sentences hold
pub tree_says : (ts : List Tup) (f : Forest) → tree_of ts ≡ ok f → TreeRule ts
unfolding onto
tree_says ts f e =
    let (r, read, whole) = bind_inv (read_up_to tuples (length ts) 0 false (passing [] ts)) _ f (sym (tree_reads ts) ∙ e) in
    let (same, nothing) = taken_whole r.found f _ r.end.left whole in
    let i = so_far_run ts (length ts) 0 false (passing [] ts) r (omega arith) read
    (record { splits = refl; chain = itself refl; shutting = inl (refl, refl); done = λ k h l. absurd (omega arith) }) in
    λ k h l. i.done k h (omega (arith, onto_length r.end.past r.end.left, ap length i.splits, ap length nothing))

-- and the tree rule takes the tuples of which they hold
pub says_tree : (ts : List Tup) → TreeRule ts → (f : Forest) × (tree_of ts ≡ ok f)
says_tree ts rule = go (tree_of ts) refl
  where
    go : (c : Check Forest) → tree_of ts ≡ c → (f : Forest) × (tree_of ts ≡ ok f)
    go (ok f) e = (f, e)
    go (no f) e = absurd (not_refused ts rule f e)
