-- The tuples that the tree rule takes, with the forest that it finds, are those that a plain forest is written as. Assumes nothing.
use mathlib.Core.Path.{◌≡◌, refl, sym, ap, ◌∙◌}
use mathlib.Core.List.{List, [], ◌∷◌, ◌++◌, append_assoc, append-nil}
use mathlib.Core.Bool.{Bool, true, false, not, true≢false}
use Prim.Native.Nat.{ℕ, zero, suc, ◌+◌, ◌≤◌, ◌<◌}
use native.Mathlib.Omega.{arith}
use lib.ListN.{length}
use borrow.Author.Tests.{eq-eqb, ne_eqb, eqb-true}
use Rattle.base.specs.Choice.{either}
use Rattle.base.specs.Check.{Check, ok, bind}
use Rattle.base.proofs.CheckLaws.{bind_inv, ok_inj, refused}
use Rattle.forest.specs.Forest.{Forest, nil, tree, Tup, occurs, size, tuples_from, tuples_of, valued, beside, Plain, p_nil, p_tree}
use Rattle.forest.specs.Rule.{codes_of, indexed, Run, all_taken, run_up_to, tree_of, entry_of}
use Rattle.forest.specs.Reader.{Reader, Read, read_up_to}
use Rattle.forest.proofs.CheckLaws.{bind_then}
use Rattle.forest.proofs.ReaderLaws.{Turn, stopped, went, read_turn}
use Rattle.forest.proofs.TupleReader.{Passing, passing, source, rule_reads}
use Rattle.forest.proofs.RunLaws.{whole_rule}
use Rattle.forest.proofs.TuplesLaws.{onto, onto_append, onto_length, from_length, other_code, own_code, codes_below, Low, low_none, low_next, low_onto}

-- the tuples of the rule as a source of entries
abbrev pub tuples : Reader (Passing (List Tup) Tup) Forest
tuples = source whole_rule

-- ---- an entry, between its children and the rest of its run

-- what a run that was read says of its tuples
pub record Sound (earlier : List Tup) (p : ℕ) (ts : List Tup) (f : Forest) (earlier' ts' : List Tup) : Type 0 where
  pub split : ts ≡ tuples_from (codes_of p earlier) p (suc (length earlier)) f ++ ts'
  pub passed : earlier' ≡ onto (tuples_from (codes_of p earlier) p (suc (length earlier)) f) earlier
  pub plain : Plain f

-- an empty run
sound_none : (earlier : List Tup) (p : ℕ) (ts : List Tup) → Sound earlier p ts nil earlier ts
unfolding tuples_from onto
sound_none earlier p ts = record { split = refl; passed = refl; plain = p_nil }

module _ (earlier : List Tup) (p : ℕ) (t : Tup) (ts : List Tup) (kids : Forest) (earlier₁ ts₁ : List Tup)
    (fits : p ≤ length earlier) (low : Low earlier) (parent : t.paix ≡ p) (index : t.atix ≡ suc (occurs t.natc (codes_of p earlier)))
    (one : Sound (t ∷ earlier) (suc (length earlier)) ts kids earlier₁ ts₁) where
  -- the tuple as the forest writes it
  head : Tup
  head = record { natc = t.natc; atix = suc (occurs t.natc (codes_of p earlier)); paix = p; atvl = t.atvl }

  -- which it is
  tuple_head : t ≡ head
  unfolding head
  tuple_head = λ i. record { natc = t.natc; atix = index i; paix = parent i; atvl = t.atvl }

  -- no tuple passed is a child of this one
  first : codes_of (suc (length earlier)) (t ∷ earlier) ≡ []
  first = other_code (suc (length earlier)) t earlier (λ e. omega (arith, e)) ∙ low (suc (length earlier)) (omega arith)

  -- the children's tuples, and those behind them
  kids_split : ts ≡ tuples_from [] (suc (length earlier)) (suc (suc (length earlier))) kids ++ ts₁
  kids_split = rw first at one.split

  -- the tuples passed behind the children
  kids_passed : earlier₁ ≡ onto (tuples_from [] (suc (length earlier)) (suc (suc (length earlier))) kids) (t ∷ earlier)
  kids_passed = rw first at one.passed

  -- the run has one code more behind the children
  kids_codes : codes_of p earlier₁ ≡ t.natc ∷ codes_of p earlier
  kids_codes =
      ap (codes_of p) kids_passed
      ∙ codes_below p [] (suc (length earlier)) (suc (suc (length earlier))) kids (t ∷ earlier) (omega arith) (omega arith)
      ∙ own_code p t earlier parent

  -- how many tuples are passed behind the children
  kids_length : length earlier₁ ≡ suc (length earlier) + size kids
  kids_length =
      let n = onto_length (tuples_from [] (suc (length earlier)) (suc (suc (length earlier))) kids) (t ∷ earlier) in
      let m = from_length [] (suc (length earlier)) (suc (suc (length earlier))) kids in
      ap length kids_passed ∙ omega arith

  -- they name no place yet to come
  kids_low : Low earlier₁
  kids_low = rw kids_passed (low_onto [] (suc (length earlier)) kids (t ∷ earlier) (omega arith) (low_next earlier t (omega arith) low))

  -- the entry, its children and the rest as one run
  joined : (rest : Forest) (earlier' ts' : List Tup) → beside t.atvl kids ≡ false → Sound earlier₁ p ts₁ rest earlier' ts'
      → Sound earlier p (t ∷ ts) (tree t.natc t.atvl kids rest) earlier' ts'
  unfolding tuples_from onto head
  joined rest earlier' ts' bare two =
      let k : ℕ = suc (length earlier) in
      let a : List Tup = tuples_from [] k (suc k) kids in
      let r : List Tup = tuples_from (t.natc ∷ codes_of p earlier) p (suc (k + size kids)) rest in
      let two-split : ts₁ ≡ r ++ ts' = rw (kids_codes, kids_length) at two.split in
      let two-passed : earlier' ≡ onto r earlier₁ = rw (kids_codes, kids_length) at two.passed in
      record {
        split = ap (λ (x : List Tup). t ∷ x) (kids_split ∙ ap (λ (x : List Tup). a ++ x) two-split ∙ sym (append_assoc a r ts')) ∙ ap (λ (x : Tup). x ∷ ((a ++ r) ++ ts')) tuple_head;
        passed = two-passed ∙ ap (onto r) kids_passed ∙ sym (onto_append a r (t ∷ earlier)) ∙ ap (λ (x : Tup). onto (a ++ r) (x ∷ earlier)) tuple_head;
        plain = p_tree bare one.plain two.plain;
      }

-- ---- sound: what is read is a plain forest's

-- a parent that takes no child has none
childless : (n p : ℕ) (s : Passing (List Tup) Tup) (r : Read (Passing (List Tup) Tup) Forest) → read_up_to tuples n p true s ≡ ok r → r.found ≡ nil
unfolding read_up_to whole_rule
childless zero p s r e = ap (λ (q : Read (Passing (List Tup) Tup) Forest). q.found) (sym (ok_inj _ _ e))
childless (suc n) p s r e = go (read_turn tuples n p true s r e)
  where
    go : Turn tuples n p true s r → r.found ≡ nil
    go (stopped b x) = ap (λ (q : Read (Passing (List Tup) Tup) Forest). q.found) x
    go (went kids rest h q f k l x) = absurd (true≢false f)

-- so no value stands beside a child
bare_kids : (v : List ℕ) (n p : ℕ) (s : Passing (List Tup) Tup) (r : Read (Passing (List Tup) Tup) Forest) → read_up_to tuples n p (valued v) s ≡ ok r → beside v r.found ≡ false
unfolding valued beside
bare_kids [] n p s r e = refl
bare_kids (x ∷ v) n p s r e = rw (childless n p s r e)

-- an entry that is not faulty is rightly made
pub unfaulty : (shut right : Bool) → either shut (not right) ≡ false → right ≡ true
unfaulty true right e = absurd (true≢false e)
unfaulty false true e = refl
unfaulty false false e = absurd (true≢false e)

-- the index of a tuple that is right
pub index_right : (earlier : List Tup) (p : ℕ) (t : Tup) → t.paix ≡ p → indexed earlier t ≡ true → t.atix ≡ suc (occurs t.natc (codes_of p earlier))
unfolding indexed
index_right earlier p t e h = rw e at (eqb-true t.atix (suc (occurs t.natc (codes_of t.paix earlier))) h)

-- one turn, from what is known of the children and the rest
turn_sound : (n : ℕ) (earlier : List Tup) (p : ℕ) (barren : Bool) (ts : List Tup) (r : Read (Passing (List Tup) Tup) Forest) → p ≤ length earlier → Low earlier
    → ((e : List Tup) (q : ℕ) (b : Bool) (us : List Tup) (k : Read (Passing (List Tup) Tup) Forest) → q ≤ length e → Low e
    → read_up_to tuples n q b (passing e us) ≡ ok k → Sound e q us k.found k.end.past k.end.left)
    → Turn tuples n p barren (passing earlier ts) r → Sound earlier p ts r.found r.end.past r.end.left
unfolding whole_rule
turn_sound n earlier p barren ts r fits low ih (stopped b x) = rw x (sound_none earlier p ts)
turn_sound n earlier p barren [] r fits low ih (went kids rest h q f k l x) = absurd (true≢false (sym h))
turn_sound n earlier p barren (t ∷ ts) r fits low ih (went kids rest h q f k l x) =
    let i = index_right earlier p t q (unfaulty barren (indexed earlier t) f) in
    let one = ih (t ∷ earlier) (suc (length earlier)) (valued t.atvl) ts kids (omega arith) (low_next earlier t (omega arith) low) k in
    let long = kids_length earlier p t ts kids.found kids.end.past kids.end.left fits low q i one in
    let behind = kids_low earlier p t ts kids.found kids.end.past kids.end.left fits low q i one in
    let two = ih kids.end.past p barren kids.end.left rest (omega arith) behind l in
    rw x (joined earlier p t ts kids.found kids.end.past kids.end.left fits low q i one rest.found rest.end.past rest.end.left (bare_kids t.atvl n _ _ kids k) two)

-- a run that was read
pub sound : (n : ℕ) (earlier : List Tup) (p : ℕ) (barren : Bool) (ts : List Tup) (r : Read (Passing (List Tup) Tup) Forest) → p ≤ length earlier → Low earlier
    → read_up_to tuples n p barren (passing earlier ts) ≡ ok r → Sound earlier p ts r.found r.end.past r.end.left
unfolding read_up_to whole_rule
sound zero earlier p barren ts r fits low e = rw (← ok_inj _ _ e) (sound_none earlier p ts)
sound (suc n) earlier p barren ts r fits low e = turn_sound n earlier p barren ts r fits low (sound n) (read_turn tuples n p barren (passing earlier ts) r e)

-- what the rule takes whole
pub taken_whole : (f g : Forest) (k : ℕ) (ts : List Tup) → all_taken f k ts ≡ ok g → (f ≡ g) × (ts ≡ [])
unfolding all_taken
taken_whole f g k [] e = (ok_inj _ _ e, refl)
taken_whole f g k (t ∷ ts) e = refused e

-- the tree rule as a reading
pub tree_reads : (ts : List Tup) → tree_of ts ≡ bind (read_up_to tuples (length ts) 0 false (passing [] ts)) (λ r. all_taken r.found (suc (length r.end.past)) r.end.left)
unfolding tree_of whole_rule
tree_reads ts = rw (rule_reads whole_rule (length ts) [] 0 false ts) (bind_then (read_up_to tuples (length ts) 0 false (passing [] ts)) whole_rule.in_words _)

-- tuples that the tree rule takes are those of the forest found, which is plain
pub tree_sound : (ts : List Tup) (f : Forest) → tree_of ts ≡ ok f → (tuples_of f ≡ ts) × Plain f
unfolding tuples_of codes_of
tree_sound ts f e =
    let (r, read, whole) = bind_inv (read_up_to tuples (length ts) 0 false (passing [] ts)) _ f (sym (tree_reads ts) ∙ e) in
    let (same, nothing) = taken_whole r.found f _ r.end.left whole in
    let s = sound (length ts) [] 0 false ts r (omega arith) low_none read in
    (sym (s.split ∙ ap (λ (us : List Tup). tuples_from [] 0 1 r.found ++ us) nothing ∙ append-nil _ ∙ ap (tuples_from [] 0 1) same), rw same at s.plain)

-- ---- complete: what a plain forest is written as is read

-- the tuples left after a run of parent p: none, or one that goes further out
data Stop (p : ℕ) : List Tup → Type 0 where
  s_end : Stop p []
  s_out : {t : Tup} {ts : List Tup} → t.paix < p → Stop p (t ∷ ts)

-- then they end a run further in too
stop_in : (p k : ℕ) (ts : List Tup) → p < k → Stop p ts → Stop k ts
stop_in p k ts h s_end = s_end
stop_in p k ts h (s_out {t = t} l) = s_out {t = t} (omega arith)

-- and so does the rest of a run
stop_rest : (seen : List ℕ) (p k j : ℕ) (f : Forest) (ts : List Tup) → p < j → Stop p ts → Stop j (tuples_from seen p k f ++ ts)
unfolding tuples_from
stop_rest seen p k j nil ts h s = stop_in p j ts h s
stop_rest seen p k j (tree c v kids rest) ts h s = s_out h

-- no tuple of the run stands there
run_stop : (n : ℕ) (earlier : List Tup) (p : ℕ) (barren : Bool) (ts : List Tup) → Stop p ts → run_up_to n earlier p barren ts ≡ ok (record { entries = nil; earlier = earlier; left = ts })
unfolding run_up_to
run_stop zero earlier p barren ts s = refl
run_stop (suc n) earlier p barren [] s_end = refl
run_stop (suc n) earlier p barren (t ∷ ts) (s_out l) = rw (ne_eqb t.paix p (λ e. omega (arith, e)))

-- an entry as the forest writes it stands there
run_tuple : (n : ℕ) (earlier : List Tup) (p c : ℕ) (v : List ℕ) (ts : List Tup)
    → let t : Tup = record { natc = c; atix = suc (occurs c (codes_of p earlier)); paix = p; atvl = v } in
    run_up_to (suc n) earlier p false (t ∷ ts) ≡ entry_of t (run_up_to n (t ∷ earlier) (suc (length earlier)) (valued v) ts) (λ a b. run_up_to n a p false b)
unfolding run_up_to indexed
run_tuple n earlier p c v ts = rw (eq-eqb p p refl, eq-eqb (suc (occurs c (codes_of p earlier))) (suc (occurs c (codes_of p earlier))) refl)

-- its children and the rest of the run were read
entry_read : (t : Tup) (kids : Check Run) (k : List Tup → List Tup → Check Run) (r q : Run) → kids ≡ ok r → k r.earlier r.left ≡ ok q
    → entry_of t kids k ≡ ok (record { entries = tree t.natc t.atvl r.entries q.entries; earlier = q.earlier; left = q.left })
unfolding entry_of bind
entry_read t kids k r q e f = ap (λ (c : Check Run). entry_of t c k) e ∙ rw f

-- a run that was read whole
abbrev whole_run : Forest → List Tup → List Tup → Run
whole_run f earlier ts = record { entries = f; earlier = earlier; left = ts }

-- the children of a plain entry whose value is no text beside them
kids_bare : (v : List ℕ) (kids : Forest) → beside v kids ≡ false → valued v ≡ true → kids ≡ nil
unfolding beside valued
kids_bare [] kids e h = absurd (true≢false (sym h))
kids_bare (x ∷ v) nil e h = refl
kids_bare (x ∷ v) (tree c w ks rest) e h = absurd (true≢false e)

-- the tuples of a plain run, with what follows it, are read as that run; the run of a barren parent is empty
complete : (n : ℕ) (earlier : List Tup) (p : ℕ) (barren : Bool) (f : Forest) (ts : List Tup) → size f ≤ n → p ≤ length earlier → Low earlier → Plain f
    → (barren ≡ true → f ≡ nil) → Stop p ts
    → run_up_to n earlier p barren (tuples_from (codes_of p earlier) p (suc (length earlier)) f ++ ts) ≡ ok (whole_run f (onto (tuples_from (codes_of p earlier) p (suc (length earlier)) f) earlier) ts)
unfolding tuples_from onto size
complete n earlier p barren nil ts h fits low pl none s = run_stop n earlier p barren ts s
complete zero earlier p barren (tree c v kids rest) ts h fits low pl none s = absurd (omega arith)
complete (suc n) earlier p true (tree c v kids rest) ts h fits low pl none s = absurd (let e : tree c v kids rest ≡ nil = none refl in let z : ◌≡◌ {A = ℕ} 0 1 = cc in omega arith)
complete (suc n) earlier p false (tree c v kids rest) ts h fits low (p_tree bare kp rp) none s =
    let t : Tup = record { natc = c; atix = suc (occurs c (codes_of p earlier)); paix = p; atvl = v } in
    let k : ℕ = suc (length earlier) in
    let a : List Tup = tuples_from [] k (suc k) kids in
    let r : List Tup = tuples_from (c ∷ codes_of p earlier) p (suc (k + size kids)) rest in
    let e₁ : List Tup = onto a (t ∷ earlier) in
    let fst : codes_of k (t ∷ earlier) ≡ [] = other_code k t earlier (λ e. omega (arith, e)) ∙ low k (omega arith) in
    let one : Sound (t ∷ earlier) k (a ++ (r ++ ts)) kids e₁ (r ++ ts) = record { split = rw fst; passed = rw fst; plain = kp } in
    let go₁ : run_up_to n (t ∷ earlier) k (valued v) ((a ++ r) ++ ts) ≡ ok (whole_run kids e₁ (r ++ ts)) =
    ap (run_up_to n (t ∷ earlier) k (valued v)) (append_assoc a r ts)
    ∙ rw fst at (complete n (t ∷ earlier) k (valued v) kids (r ++ ts) (omega arith) (omega arith) (low_next earlier t fits low) kp (kids_bare v kids bare)
    (stop_rest (c ∷ codes_of p earlier) p (suc (k + size kids)) k rest ts (omega arith) s)) in
    let len = kids_length earlier p t (a ++ (r ++ ts)) kids e₁ (r ++ ts) fits low refl refl one in
    let go₂ : run_up_to n e₁ p false (r ++ ts) ≡ ok (whole_run rest (onto r e₁) ts) =
    rw (kids_codes earlier p t (a ++ (r ++ ts)) kids e₁ (r ++ ts) fits low refl refl one, len) at
    (complete n e₁ p false rest ts (omega arith) (omega (arith, len)) (kids_low earlier p t (a ++ (r ++ ts)) kids e₁ (r ++ ts) fits low refl refl one) rp (λ x. absurd (true≢false (sym x))) s) in
    run_tuple n earlier p c v ((a ++ r) ++ ts)
    ∙ entry_read t (run_up_to n (t ∷ earlier) k (valued v) ((a ++ r) ++ ts)) (λ x y. run_up_to n x p false y) (whole_run kids e₁ (r ++ ts)) (whole_run rest (onto r e₁) ts) go₁ go₂
    ∙ ap (λ (x : List Tup). ok (whole_run (tree c v kids rest) x ts)) (sym (onto_append a r (t ∷ earlier)))

-- the tuples of a plain forest are taken, and give the forest back
pub tree_complete : (f : Forest) → Plain f → tree_of (tuples_of f) ≡ ok f
unfolding tree_of tuples_of codes_of bind all_taken
tree_complete f pl =
    let ts : List Tup = tuples_from [] 0 1 f in
    let read : run_up_to (length ts) [] 0 false ts ≡ ok (whole_run f (onto ts []) []) =
    ap (run_up_to (length ts) [] 0 false) (sym (append-nil ts))
    ∙ complete (length ts) [] 0 false f [] (omega (arith, from_length [] 0 1 f)) (omega arith) low_none pl (λ x. absurd (true≢false (sym x))) s_end in
    rw read

-- so a plain forest is known by its tuples
pub tuples_injective : (f g : Forest) → Plain f → Plain g → tuples_of f ≡ tuples_of g → f ≡ g
tuples_injective f g p q e = ok_inj _ _ (sym (tree_complete f p) ∙ ap tree_of e ∙ tree_complete g q)
