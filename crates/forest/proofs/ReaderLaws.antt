-- The laws of reading entries: how a run goes on, what is kept through it, that any bound that is enough gives the same, and that two
-- sources that look alike are read alike. Assumes nothing.
use mathlib.Core.Path.{◌≡◌, refl, sym, ap, ◌∙◌}
use mathlib.Core.Bool.{Bool, true, false, not}
use mathlib.Core.Logic.{⊎_elim}
use Prim.Native.Nat.{ℕ, zero, suc, ◌+◌, ◌≤◌, ◌<◌}
use native.Mathlib.Omega.{arith}
use lib.Dec.{eqb}
use borrow.Author.Tests.{eqb-true}
use Rattle.base.specs.Choice.{either}
use Rattle.base.specs.Check.{Check, ok, no, bind, fault, refuse}
use Rattle.base.specs.declared.Fault.{Fault}
use Rattle.base.proofs.ChoiceLaws.{both_hold}
use Rattle.base.proofs.CheckLaws.{refused as never, ok_no, bind_inv, ok_inj}
use Rattle.forest.proofs.CheckLaws.{bind_same, no_same, bind_no}
use Rattle.forest.specs.Reader.{Reader, Read, belongs, faulty, entry_then, read_up_to, read_run, Falls}

-- 6 at a place from k on, below m
pub record Refusal (k m : ℕ) (f : Fault) : Type 0 where
  pub six : f ≡ fault 6 0 f.tuple
  pub from : k ≤ f.tuple
  pub below : f.tuple < m

module _ {S F : Type 0} (d : Reader S F) where
  -- ---- one turn

  -- no entry of the run stands there
  pub read_past : (n p : ℕ) (shut : Bool) (s : S) → belongs d p s ≡ false → read_up_to d n p shut s ≡ ok (record { found = d.none; end = s })
  unfolding read_up_to
  read_past zero p shut s e = refl
  read_past (suc n) p shut s e = rw e

  -- a faulty entry stands there
  pub read_faulty : (n p : ℕ) (shut : Bool) (s : S) → belongs d p s ≡ true → faulty d shut s ≡ true → read_up_to d (suc n) p shut s ≡ refuse 6 (d.place s)
  unfolding read_up_to
  read_faulty n p shut s e f = rw (e, f)

  -- an entry stands there
  pub read_entry : (n p : ℕ) (shut : Bool) (s : S) → belongs d p s ≡ true → faulty d shut s ≡ false
      → read_up_to d (suc n) p shut s ≡ entry_then d s (read_up_to d n (d.place s) (d.shuts s) (d.next s)) (read_up_to d n p shut)
  unfolding read_up_to
  read_entry n p shut s e f = rw (e, f)

  -- the rest of the run need only be read alike where the children end
  pub entry_same : (s : S) (kids : Check (Read S F)) (k l : S → Check (Read S F)) → ((r : Read S F) → kids ≡ ok r → k r.end ≡ l r.end)
      → entry_then d s kids k ≡ entry_then d s kids l
  unfolding entry_then
  entry_same s kids k l h =
      bind_same kids _ _ (λ r e. ap (λ (c : Check (Read S F)). bind c (λ q. ok (record { found = d.one s r.found q.found; end = q.end }))) (h r e))

  -- how the reading of a run can go well: it is empty, or an entry, its children and the rest were read
  pub data Turn (n p : ℕ) (shut : Bool) (s : S) (r : Read S F) : Type 0 where
    stopped : belongs d p s ≡ false → r ≡ record { found = d.none; end = s } → Turn n p shut s r
    went : (kids rest : Read S F) → d.here s ≡ true → d.parent s ≡ p → faulty d shut s ≡ false
        → read_up_to d n (d.place s) (d.shuts s) (d.next s) ≡ ok kids → read_up_to d n p shut kids.end ≡ ok rest
        → r ≡ record { found = d.one s kids.found rest.found; end = rest.end } → Turn n p shut s r

  -- one turn of a reading that goes well
  pub read_turn : (n p : ℕ) (shut : Bool) (s : S) (r : Read S F) → read_up_to d (suc n) p shut s ≡ ok r → Turn n p shut s r
  unfolding entry_then
  read_turn n p shut s r e = go (belongs d p s) refl (faulty d shut s) refl
    where
      go : (x : Bool) → belongs d p s ≡ x → (y : Bool) → faulty d shut s ≡ y → Turn n p shut s r
      go false b y f = stopped b (ok_inj _ _ (sym e ∙ read_past (suc n) p shut s b))
      go true b true f = never (sym (read_faulty n p shut s b f) ∙ e)
      go true b false f =
          let (here, parent) = both_hold (d.here s) (eqb (d.parent s) p) b in
          let (kids, k, on) = bind_inv _ _ r (sym (read_entry n p shut s b f) ∙ e) in
          let (rest, q, last) = bind_inv _ _ r on in
          went kids rest here (eqb-true _ _ parent) f k q (sym (ok_inj _ _ last))

  -- ---- what is kept

  module _ (I : ℕ → S → Type 0) (into : (p : ℕ) (s : S) → d.here s ≡ true → d.parent s ≡ p → I p s → I (d.place s) (d.next s))
      (back : (p : ℕ) (s t : S) → d.here s ≡ true → d.parent s ≡ p → I p s → I (d.place s) t → I p t) where
    -- through one turn
    turn_keeps : (n p : ℕ) (shut : Bool) (s : S) (r : Read S F)
        → ((q : ℕ) (c : Bool) (t : S) (k : Read S F) → read_up_to d n q c t ≡ ok k → I q t → I q k.end) → Turn n p shut s r → I p s → I p r.end
    turn_keeps n p shut s r ih (stopped b x) i = rw x i
    turn_keeps n p shut s r ih (went kids rest h q f k l x) i =
        rw x (ih p shut kids.end rest l (back p s kids.end h q i (ih (d.place s) (d.shuts s) (d.next s) kids k (into p s h q i))))

    -- what is known at a state of a run, if it passes from an entry to its children and from them back, holds behind the run
    pub read_keeps : (n p : ℕ) (shut : Bool) (s : S) (r : Read S F) → read_up_to d n p shut s ≡ ok r → I p s → I p r.end
    unfolding read_up_to
    read_keeps zero p shut s r e i = rw (← ok_inj _ _ e) i
    read_keeps (suc n) p shut s r e i = turn_keeps n p shut s r (read_keeps n) (read_turn n p shut s r e) i

  -- ---- the bound

  module _ (falls : Falls d) where
    -- behind a run no more is left than before it
    pub read_falls : (n p : ℕ) (shut : Bool) (s : S) (r : Read S F) → read_up_to d n p shut s ≡ ok r → d.rest r.end ≤ d.rest s
    read_falls n p shut s r e =
        read_keeps (λ q t. d.rest t ≤ d.rest s) (λ q t h x i. omega (arith, falls t h)) (λ q t u h x i j. j) n p shut s r e (omega arith)

    -- an entry, its children and the rest, by two bounds that agree where less is left
    entry_bound : (n m p : ℕ) (shut : Bool) (s : S) → d.here s ≡ true
        → ((q : ℕ) (c : Bool) (t : S) → d.rest t < d.rest s → read_up_to d n q c t ≡ read_up_to d m q c t)
        → entry_then d s (read_up_to d n (d.place s) (d.shuts s) (d.next s)) (read_up_to d n p shut)
        ≡ entry_then d s (read_up_to d m (d.place s) (d.shuts s) (d.next s)) (read_up_to d m p shut)
    entry_bound n m p shut s h ih =
        ap (λ (c : Check (Read S F)). entry_then d s c (read_up_to d n p shut)) (ih (d.place s) (d.shuts s) (d.next s) (falls s h))
        ∙ entry_same s (read_up_to d m (d.place s) (d.shuts s) (d.next s)) _ _
        (λ k e. ih p shut k.end (omega (arith, falls s h, read_falls m (d.place s) (d.shuts s) (d.next s) k e)))

    -- where nothing is left no entry stands
    nothing_left : (p : ℕ) (s : S) → d.rest s ≤ 0 → belongs d p s ≡ false
    nothing_left p s h = go (d.here s) refl
      where
        go : (x : Bool) → d.here s ≡ x → belongs d p s ≡ false
        go true e = absurd (omega (arith, falls s e))
        go false e = rw e

    -- any two bounds that are enough give the same
    pub read_bound : (n m p : ℕ) (shut : Bool) (s : S) → d.rest s ≤ n → d.rest s ≤ m → read_up_to d n p shut s ≡ read_up_to d m p shut s
    read_bound zero m p shut s g h = read_past zero p shut s (nothing_left p s g) ∙ sym (read_past m p shut s (nothing_left p s g))
    read_bound (suc n) zero p shut s g h = read_past (suc n) p shut s (nothing_left p s h) ∙ sym (read_past zero p shut s (nothing_left p s h))
    read_bound (suc n) (suc m) p shut s g h = go (λ q c t l. read_bound n m q c t (omega arith) (omega arith)) (belongs d p s) refl (faulty d shut s) refl
      where
        go : ((q : ℕ) (c : Bool) (t : S) → d.rest t < d.rest s → read_up_to d n q c t ≡ read_up_to d m q c t)
            → (x : Bool) → belongs d p s ≡ x → (y : Bool) → faulty d shut s ≡ y → read_up_to d (suc n) p shut s ≡ read_up_to d (suc m) p shut s
        go ih false b y f = read_past (suc n) p shut s b ∙ sym (read_past (suc m) p shut s b)
        go ih true b true f = read_faulty n p shut s b f ∙ sym (read_faulty m p shut s b f)
        go ih true b false f = read_entry n p shut s b f ∙ entry_bound n m p shut s (both_hold _ _ b).0 ih ∙ sym (read_entry m p shut s b f)

    -- ---- one turn, without a bound

    -- a bound that is enough gives the run
    pub run_is : (n p : ℕ) (shut : Bool) (s : S) → d.rest s ≤ n → read_up_to d n p shut s ≡ read_run d p shut s
    unfolding read_run
    run_is n p shut s h = read_bound n (d.rest s) p shut s h (omega arith)

    -- no entry of the run stands there
    pub run_past : (p : ℕ) (shut : Bool) (s : S) → belongs d p s ≡ false → read_run d p shut s ≡ ok (record { found = d.none; end = s })
    unfolding read_run
    run_past p shut s b = read_past (d.rest s) p shut s b

    -- a faulty entry stands there
    pub run_faulty : (p : ℕ) (shut : Bool) (s : S) → belongs d p s ≡ true → faulty d shut s ≡ true → read_run d p shut s ≡ refuse 6 (d.place s)
    run_faulty p shut s b f = sym (run_is (suc (d.rest s)) p shut s (omega arith)) ∙ read_faulty (d.rest s) p shut s b f

    -- an entry stands there
    pub run_entry : (p : ℕ) (shut : Bool) (s : S) → belongs d p s ≡ true → faulty d shut s ≡ false
        → read_run d p shut s ≡ entry_then d s (read_run d (d.place s) (d.shuts s) (d.next s)) (read_run d p shut)
    unfolding read_run
    run_entry p shut s b f =
        let n : ℕ = d.rest s in
        let below = falls s (both_hold _ _ b).0 in
        sym (run_is (suc n) p shut s (omega arith)) ∙ read_entry n p shut s b f
        ∙ ap (λ (c : Check (Read S F)). entry_then d s c (read_up_to d n p shut)) (run_is n (d.place s) (d.shuts s) (d.next s) (omega arith))
        ∙ entry_same s (read_run d (d.place s) (d.shuts s) (d.next s)) _ _
        (λ k e. run_is n p shut k.end (omega (arith, below, read_falls (d.rest (d.next s)) (d.place s) (d.shuts s) (d.next s) k e)))

  -- ---- what holds at every entry

  -- the reading of a run stops where no entry of it stands, and what passes from an entry to its children, and from where they stop back to
  -- the run, holds there
  module _ (falls : Falls d) (I : ℕ → Bool → S → Type 0)
      (into : (p : ℕ) (shut : Bool) (s : S) → d.here s ≡ true → d.parent s ≡ p → faulty d shut s ≡ false → I p shut s → I (d.place s) (d.shuts s) (d.next s))
      (back : (p : ℕ) (shut : Bool) (s t : S) → d.here s ≡ true → d.parent s ≡ p → I p shut s → belongs d (d.place s) t ≡ false → I (d.place s) (d.shuts s) t → I p shut t) where
    -- one turn
    turn_holds : (n p : ℕ) (shut : Bool) (s : S) (r : Read S F) → d.rest s ≤ suc n
        → ((q : ℕ) (c : Bool) (t : S) (k : Read S F) → d.rest t ≤ n → read_up_to d n q c t ≡ ok k → I q c t → I q c k.end × (belongs d q k.end ≡ false))
        → Turn n p shut s r → I p shut s → I p shut r.end × (belongs d p r.end ≡ false)
    turn_holds n p shut s r l ih (stopped b x) i = rw x (i, b)
    turn_holds n p shut s r l ih (went kids rest h q f k m x) i =
        let below = ih (d.place s) (d.shuts s) (d.next s) kids (omega (arith, falls s h)) k (into p shut s h q f i) in
        let less = read_falls falls n (d.place s) (d.shuts s) (d.next s) kids k in
        rw x (ih p shut kids.end rest (omega (arith, falls s h, less)) m (back p shut s kids.end h q i below.1 below.0))

    -- what holds where the run stops
    pub read_holds : (n p : ℕ) (shut : Bool) (s : S) (r : Read S F) → d.rest s ≤ n → read_up_to d n p shut s ≡ ok r → I p shut s
        → I p shut r.end × (belongs d p r.end ≡ false)
    unfolding read_up_to
    read_holds zero p shut s r l e i = rw (← ok_inj _ _ e) (i, nothing_left falls p s l)
    read_holds (suc n) p shut s r l e i = turn_holds n p shut s r l (read_holds n) (read_turn n p shut s r e) i

    -- a run with no entry that is faulty is not refused
    module _ (fine : (p : ℕ) (shut : Bool) (s : S) → belongs d p s ≡ true → I p shut s → faulty d shut s ≡ false) where
      -- nor is an entry, its children and the rest
      entry_accepted : (n p : ℕ) (shut : Bool) (s : S) (f : Fault) → d.rest s ≤ suc n → d.here s ≡ true → d.parent s ≡ p → faulty d shut s ≡ false
          → ((q : ℕ) (c : Bool) (t : S) → d.rest t ≤ n → read_up_to d n q c t ≡ no f → I q c t → ⊥) → I p shut s
          → entry_then d s (read_up_to d n (d.place s) (d.shuts s) (d.next s)) (read_up_to d n p shut) ≡ no f → ⊥
      unfolding entry_then
      entry_accepted n p shut s f l h q g ih i e =
          ⊎_elim
          (λ x. ih (d.place s) (d.shuts s) (d.next s) (omega (arith, falls s h)) x (into p shut s h q g i))
          (λ x. let (r, kids, rest) = x in
          let below = read_holds n (d.place s) (d.shuts s) (d.next s) r (omega (arith, falls s h)) kids (into p shut s h q g i) in
          let less = read_falls falls n (d.place s) (d.shuts s) (d.next s) r kids in
          ⊎_elim (λ y. ih p shut r.end (omega (arith, falls s h, less)) y (back p shut s r.end h q i below.1 below.0)) (λ y. ok_no y.2)
          (bind_no (read_up_to d n p shut r.end) _ f rest))
          (bind_no (read_up_to d n (d.place s) (d.shuts s) (d.next s)) _ f e)

      -- nor is a run
      pub read_accepted : (n p : ℕ) (shut : Bool) (s : S) (f : Fault) → d.rest s ≤ n → read_up_to d n p shut s ≡ no f → I p shut s → ⊥
      unfolding read_up_to
      read_accepted zero p shut s f l e i = ok_no e
      read_accepted (suc n) p shut s f l e i = go (read_accepted n) (belongs d p s) refl
        where
          go : ((q : ℕ) (c : Bool) (t : S) (g : Fault) → d.rest t ≤ n → read_up_to d n q c t ≡ no g → I q c t → ⊥) → (x : Bool) → belongs d p s ≡ x → ⊥
          go ih false x = ok_no (sym (read_past (suc n) p shut s x) ∙ e)
          go ih true x =
              let g = fine p shut s x i in
              let (h, q) = both_hold (d.here s) (eqb (d.parent s) p) x in
              entry_accepted n p shut s f l h (eqb-true _ _ q) g (λ a c t. ih a c t f) i (sym (read_entry n p shut s x g) ∙ e)

  -- ---- what a refusal says

  module _ (falls : Falls d) (even : (s : S) → d.here s ≡ true → (d.place s < d.place (d.next s)) × (d.place (d.next s) + d.rest (d.next s) ≤ d.place s + d.rest s)) where
    -- the places from k on, below m, where so many entries at most are left
    abbrev Between : ℕ → ℕ → S → Type 0
    Between k m s = (k ≤ d.place s) × (d.place s + d.rest s ≤ m)

    -- behind an entry
    between_next : (k m : ℕ) (s : S) → d.here s ≡ true → Between k m s → Between k m (d.next s)
    between_next k m s h b = (omega (arith, even s h, b), omega (arith, even s h, b))

    -- behind a run
    pub between_end : (k m n p : ℕ) (shut : Bool) (s : S) (r : Read S F) → read_up_to d n p shut s ≡ ok r → Between k m s → Between k m r.end
    between_end k m n p shut s r e b = read_keeps (λ q t. Between k m t) (λ q t h x i. between_next k m t h i) (λ q t u h x i j. j) n p shut s r e b

    -- an entry that is refused, from what a run below it says
    entry_refused : (k m n p : ℕ) (shut : Bool) (s : S) (f : Fault) → d.here s ≡ true → Between k m s
        → ((q : ℕ) (c : Bool) (t : S) → Between k m t → read_up_to d n q c t ≡ no f → Refusal k m f)
        → entry_then d s (read_up_to d n (d.place s) (d.shuts s) (d.next s)) (read_up_to d n p shut) ≡ no f → Refusal k m f
    unfolding entry_then
    entry_refused k m n p shut s f h b ih e =
        ⊎_elim (ih (d.place s) (d.shuts s) (d.next s) (between_next k m s h b))
        (λ x. let (r, kids, rest) = x in
        ⊎_elim (ih p shut r.end (between_end k m n _ _ (d.next s) r kids (between_next k m s h b))) (λ y. ok_no y.2) (bind_no (read_up_to d n p shut r.end) _ f rest))
        (bind_no (read_up_to d n (d.place s) (d.shuts s) (d.next s)) _ f e)

    -- a faulty entry
    faulty_refused : (k m : ℕ) (s : S) (f : Fault) → d.here s ≡ true → Between k m s → f ≡ fault 6 0 (d.place s) → Refusal k m f
    faulty_refused k m s f h b e = rw e (record { six = refl; from = b.0; below = omega (arith, falls s h, b) })

    -- a run that is refused
    pub read_refused : (k m n p : ℕ) (shut : Bool) (s : S) (f : Fault) → Between k m s → read_up_to d n p shut s ≡ no f → Refusal k m f
    unfolding read_up_to
    read_refused k m zero p shut s f b e = ok_no e
    read_refused k m (suc n) p shut s f b e = go (read_refused k m n) (belongs d p s) refl (faulty d shut s) refl
      where
        go : ((q : ℕ) (c : Bool) (t : S) (g : Fault) → Between k m t → read_up_to d n q c t ≡ no g → Refusal k m g)
            → (x : Bool) → belongs d p s ≡ x → (y : Bool) → faulty d shut s ≡ y → Refusal k m f
        go ih false x y z = ok_no (sym (read_past (suc n) p shut s x) ∙ e)
        go ih true x true z = faulty_refused k m s f (both_hold _ _ x).0 b (no_same (sym e ∙ read_faulty n p shut s x z))
        go ih true x false z = entry_refused k m n p shut s f (both_hold _ _ x).0 b (λ q c t. ih q c t f) (sym (read_entry n p shut s x z) ∙ e)

-- ---- two sources that look alike

-- what two sources show of an entry, and that they are alike behind it
pub record Alike {S T F G : Type 0} (d : Reader S F) (e : Reader T G) (R : S → T → Type 0) (s : S) (t : T) : Type 0 where
  pub parents : d.parent s ≡ e.parent t
  pub rights : d.right s ≡ e.right t
  pub shutting : d.shuts s ≡ e.shuts t
  pub onward : R (d.next s) (e.next t)

-- two readings that came to the same: both refused, or both came to states that are alike
pub data Agree {S T F G : Type 0} (R : S → T → Type 0) : Check (Read S F) → Check (Read T G) → Type 0 where
  refused : {f : Fault} → Agree R (no f) (no f)
  came : {r : Read S F} {q : Read T G} → R r.end q.end → Agree R (ok r) (ok q)

module _ {S T F G : Type 0} (d : Reader S F) (e : Reader T G) (R : S → T → Type 0)
    (present : (s : S) (t : T) → R s t → d.here s ≡ e.here t) (places : (s : S) (t : T) → R s t → d.place s ≡ e.place t)
    (look : (s : S) (t : T) → R s t → d.here s ≡ true → Alike d e R s t) where
  -- an entry, its children and the rest
  then_alike : (s : S) (t : T) (a : Check (Read S F)) (b : Check (Read T G)) (k : S → Check (Read S F)) (l : T → Check (Read T G))
      → ((x : S) (y : T) → R x y → Agree R (k x) (l y)) → Agree R a b → Agree R (entry_then d s a k) (entry_then e t b l)
  unfolding entry_then bind
  then_alike s t a b k l ih refused = refused
  then_alike s t a b k l ih (came {r = r} {q = q} x) = go (k r.end) (l q.end) (ih r.end q.end x)
    where
      go : (c : Check (Read S F)) (f : Check (Read T G)) → Agree R c f
          → Agree R (bind c (λ u. ok (record { found = d.one s r.found u.found; end = u.end }))) (bind f (λ u. ok (record { found = e.one t q.found u.found; end = u.end })))
      go c f refused = refused
      go c f (came y) = came y

  -- the entries of a run are the same
  belong_alike : (p : ℕ) (s : S) (t : T) → R s t → belongs d p s ≡ belongs e p t
  belong_alike p s t x = go (d.here s) refl
    where
      go : (h : Bool) → d.here s ≡ h → belongs d p s ≡ belongs e p t
      go false h = rw (sym (present s t x) ∙ h, h)
      go true h = rw (present s t x, (look s t x h).parents)

  -- one turn, from what the entry's children and the rest come to
  turn_alike : (n p : ℕ) (shut : Bool) (s : S) (t : T) → ((q : ℕ) (c : Bool) (u : S) (v : T) → R u v → Agree R (read_up_to d n q c u) (read_up_to e n q c v))
      → R s t → (y : Bool) → belongs d p s ≡ y → (z : Bool) → faulty d shut s ≡ z → Agree R (read_up_to d (suc n) p shut s) (read_up_to e (suc n) p shut t)
  turn_alike n p shut s t ih x false b z f =
      rw (read_past d (suc n) p shut s b, read_past e (suc n) p shut t (sym (belong_alike p s t x) ∙ b)) (came x)
  turn_alike n p shut s t ih x true b z f = go (look s t x (both_hold _ _ b).0) z f
    where
      go : Alike d e R s t → (z : Bool) → faulty d shut s ≡ z → Agree R (read_up_to d (suc n) p shut s) (read_up_to e (suc n) p shut t)
      go l true f =
          rw (read_faulty d n p shut s b f, read_faulty e n p shut t (sym (belong_alike p s t x) ∙ b) (ap (λ (r : Bool). either shut (not r)) (sym l.rights) ∙ f), places s t x)
          refused
      go l false f =
          rw (read_entry d n p shut s b f, read_entry e n p shut t (sym (belong_alike p s t x) ∙ b) (ap (λ (r : Bool). either shut (not r)) (sym l.rights) ∙ f), places s t x, l.shutting)
          (then_alike s t _ _ _ _ (ih p shut) (ih (e.place t) (e.shuts t) (d.next s) (e.next t) l.onward))

  -- are read alike
  pub read_alike : (n p : ℕ) (shut : Bool) (s : S) (t : T) → R s t → Agree R (read_up_to d n p shut s) (read_up_to e n p shut t)
  unfolding read_up_to
  read_alike zero p shut s t x = came x
  read_alike (suc n) p shut s t x = turn_alike n p shut s t (read_alike n) x (belongs d p s) refl (faulty d shut s) refl
