-- Tuples in a list as a source of entries. Assumes nothing.
use mathlib.Core.List.{List, [], ◌∷◌}
use mathlib.Core.Path.{◌≡◌, refl, sym, ap, ◌∙◌}
use mathlib.Core.Bool.{Bool, true, false, not, true≢false}
use Prim.Native.Nat.{ℕ, zero, suc, ◌≤◌, ◌<◌}
use native.Mathlib.Omega.{arith}
use lib.ListN.{length}
use lib.Dec.{eqb}
use borrow.Author.Tests.{eq-eqb, ne_eqb}
use Rattle.base.specs.Choice.{pick, either}
use Rattle.base.specs.Check.{Check, ok, no, bind, refuse}
use Rattle.base.proofs.CheckLaws.{bind_inv, ok_inj}
use Rattle.forest.specs.Reader.{Reader, Read, entry_then, read_up_to, Falls}
use Rattle.forest.proofs.CheckLaws.{bind_same}
use Rattle.forest.proofs.ReaderLaws.{read_falls, read_bound}

-- what is kept of the tuples passed, and those left
pub record Passing (P T : Type 0) : Type 0 where
  pub past : P
  pub left : List T

-- such a state
abbrev pub passing : {P T : Type 0} → P → List T → Passing P T
passing h ts = record { past = h; left = ts }

-- what f says of the first tuple and those behind it, or else where there is none
abbrev pub on_first : {T A : Type 0} → List T → A → (T → List T → A) → A
on_first [] else f = else
on_first (t ∷ ts) else f = f t ts

-- the tuples of a list as entries: what a tuple's parent is, the place after what is passed, whether a tuple is right there, whether it takes
-- no child, what is kept with one tuple more, and what a run comes to
abbrev pub list_reader : {P T F : Type 0} → (T → ℕ) → (P → ℕ) → (P → T → Bool) → (T → Bool) → (T → P → P) → F → (P → T → F → F → F) → Reader (Passing P T) F
list_reader parent place right shuts keep none one = record {
  here = λ s. on_first s.left false (λ t ts. true);
  parent = λ s. on_first s.left 0 (λ t ts. parent t);
  place = λ s. place s.past;
  right = λ s. on_first s.left true (λ t ts. right s.past t);
  shuts = λ s. on_first s.left false (λ t ts. shuts t);
  next = λ s. on_first s.left s (λ t ts. passing (keep t s.past) ts);
  rest = λ s. length s.left;
  none = none;
  one = λ s f g. on_first s.left none (λ t ts. one s.past t f g);
}

module _ {P T F : Type 0} (parent : T → ℕ) (place : P → ℕ) (right : P → T → Bool) (shuts : T → Bool) (keep : T → P → P) (none : F) (one : P → T → F → F → F) where
  -- a tuple less is left behind a tuple
  pub list_falls : Falls (list_reader parent place right shuts keep none one)
  list_falls s h = go s.left h
    where
      go : (ts : List T) → on_first ts false (λ t us. true) ≡ true → length (on_first ts s (λ t us. passing (keep t s.past) us)).left < length ts
      go [] e = absurd (true≢false (sym e))
      go (t ∷ ts) e = omega arith

-- ---- rules that read tuples as a reader does

-- a rule over tuples: what it sees of them, its run of at most n entries, its entry, and how its words are those of a reader
pub record TupleRule (P T F B : Type 0) : Type 0 where
  pub parent : T → ℕ
  pub place : P → ℕ
  pub right : P → T → Bool
  pub shuts : T → Bool
  pub keep : T → P → P
  pub none : F
  pub one : P → T → F → F → F
  pub up_to : ℕ → P → ℕ → Bool → List T → Check B
  pub entry : P → T → Check B → (P → List T → Check B) → Check B
  pub past_of : B → P
  pub left_of : B → List T
  pub joined : P → T → B → B → B
  pub in_words : Read (Passing P T) F → B
  pub at_zero : (h : P) (p : ℕ) (b : Bool) (ts : List T) → up_to zero h p b ts ≡ ok (in_words (record { found = none; end = passing h ts }))
  pub at_none : (n : ℕ) (h : P) (p : ℕ) (b : Bool) → up_to (suc n) h p b [] ≡ ok (in_words (record { found = none; end = passing h [] }))
  pub at_tuple : (n : ℕ) (h : P) (p : ℕ) (b : Bool) (t : T) (ts : List T) → up_to (suc n) h p b (t ∷ ts)
      ≡ pick (eqb (parent t) p)
      (pick b (refuse 6 (place h)) (pick (right h t) (entry h t (up_to n (keep t h) (place h) (shuts t) ts) (λ g us. up_to n g p b us)) (refuse 6 (place h))))
      (ok (in_words (record { found = none; end = passing h (t ∷ ts) })))
  pub at_entry : (h : P) (t : T) (kids : Check B) (k : P → List T → Check B)
      → entry h t kids k ≡ bind kids (λ r. bind (k (past_of r) (left_of r)) (λ q. ok (joined h t r q)))
  pub past_as : (r : Read (Passing P T) F) → past_of (in_words r) ≡ r.end.past
  pub left_as : (r : Read (Passing P T) F) → left_of (in_words r) ≡ r.end.left
  pub joined_as : (h : P) (t : T) (r q : Read (Passing P T) F) → joined h t (in_words r) (in_words q) ≡ in_words (record { found = one h t r.found q.found; end = q.end })

module _ {P T F B : Type 0} (d : TupleRule P T F B) where
  -- its tuples as a source of entries
  abbrev pub source : Reader (Passing P T) F
  source = list_reader d.parent d.place d.right d.shuts d.keep d.none d.one

  -- what a reader found, in the rule's words
  abbrev pub told : Check (Read (Passing P T) F) → Check B
  told c = bind c (λ r. ok (d.in_words r))

  -- an entry, its children and the rest, in both words
  entry_told : (h : P) (t : T) (ts : List T) (kids : Check (Read (Passing P T) F)) (k : P → List T → Check B) (l : Passing P T → Check (Read (Passing P T) F))
      → ((a : P) (b : List T) → k a b ≡ told (l (passing a b))) → d.entry h t (told kids) k ≡ told (entry_then source (passing h (t ∷ ts)) kids l)
  unfolding entry_then bind
  entry_told h t ts (no f) k l e = d.at_entry h t (no f) k
  entry_told h t ts (ok r) k l e =
      d.at_entry h t (ok (d.in_words r)) k ∙ rw (d.past_as r, d.left_as r, e r.end.past r.end.left) (go (l r.end))
    where
      go : (c : Check (Read (Passing P T) F))
          → bind (told c) (λ q. ok (d.joined h t (d.in_words r) q)) ≡ told (bind c (λ q. ok (record { found = d.one h t r.found q.found; end = q.end })))
      go (ok q) = ap ok (d.joined_as h t r q)
      go (no f) = refl

  -- the tests in both words
  tests_told : (x b y : Bool) (k : ℕ) (e : Check B) (s : Check B) (f g : Check (Read (Passing P T) F)) → e ≡ told f → s ≡ told g
      → pick x (pick b (refuse 6 k) (pick y e (refuse 6 k))) s ≡ told (pick x (pick (either b (not y)) (refuse 6 k) f) g)
  unfolding bind
  tests_told false b y k e s f g i j = j
  tests_told true true y k e s f g i j = refl
  tests_told true false true k e s f g i j = i
  tests_told true false false k e s f g i j = refl

  -- the rule reads as a reader does
  pub rule_reads : (n : ℕ) (h : P) (p : ℕ) (b : Bool) (ts : List T) → d.up_to n h p b ts ≡ told (read_up_to source n p b (passing h ts))
  unfolding read_up_to bind
  rule_reads zero h p b ts = d.at_zero h p b ts
  rule_reads (suc n) h p b [] = d.at_none n h p b
  rule_reads (suc n) h p b (t ∷ ts) =
      d.at_tuple n h p b t ts
      ∙ tests_told (eqb (d.parent t) p) b (d.right h t) (d.place h) _ _ _ _
      (rw (rule_reads n (d.keep t h) (d.place h) (d.shuts t) ts) (entry_told h t ts _ _ (read_up_to source n p b) (λ a us. rule_reads n a p b us)))
      refl

  -- ---- one law for each case, without a bound

  -- any two bounds that are enough give the same
  pub rule_bound : (n m : ℕ) (h : P) (p : ℕ) (b : Bool) (ts : List T) → length ts ≤ n → length ts ≤ m → d.up_to n h p b ts ≡ d.up_to m h p b ts
  rule_bound n m h p b ts g l =
      rule_reads n h p b ts
      ∙ ap told (read_bound source (list_falls d.parent d.place d.right d.shuts d.keep d.none d.one) n m p b (passing h ts) g l)
      ∙ sym (rule_reads m h p b ts)

  -- the run of parent p
  abbrev pub run_from : P → ℕ → Bool → List T → Check B
  run_from h p b ts = d.up_to (length ts) h p b ts

  -- no tuple is left
  pub rule_none : (h : P) (p : ℕ) (b : Bool) → run_from h p b [] ≡ ok (d.in_words (record { found = d.none; end = passing h [] }))
  rule_none h p b = d.at_zero h p b []

  -- a tuple of another parent
  pub rule_other : (h : P) (p : ℕ) (b : Bool) (t : T) (ts : List T) → (d.parent t ≡ p → ⊥)
      → run_from h p b (t ∷ ts) ≡ ok (d.in_words (record { found = d.none; end = passing h (t ∷ ts) }))
  rule_other h p b t ts e = d.at_tuple (length ts) h p b t ts ∙ rw (ne_eqb (d.parent t) p e)

  -- a child of a parent that takes none
  pub rule_shut : (h : P) (p : ℕ) (t : T) (ts : List T) → d.parent t ≡ p → run_from h p true (t ∷ ts) ≡ refuse 6 (d.place h)
  rule_shut h p t ts e = d.at_tuple (length ts) h p true t ts ∙ rw (eq-eqb (d.parent t) p e)

  -- a tuple that is not rightly made
  pub rule_wrong : (h : P) (p : ℕ) (t : T) (ts : List T) → d.parent t ≡ p → d.right h t ≡ false → run_from h p false (t ∷ ts) ≡ refuse 6 (d.place h)
  rule_wrong h p t ts e w = d.at_tuple (length ts) h p false t ts ∙ rw (eq-eqb (d.parent t) p e, w)

  -- behind a run no more tuples are left than before it
  left_falls : (n : ℕ) (h : P) (p : ℕ) (b : Bool) (ts : List T) (r : B) → d.up_to n h p b ts ≡ ok r → length (d.left_of r) ≤ length ts
  left_falls n h p b ts r e =
      let (q, x, y) = bind_inv (read_up_to source n p b (passing h ts)) (λ k. ok (d.in_words k)) r (sym (rule_reads n h p b ts) ∙ e) in
      let falls = read_falls source (list_falls d.parent d.place d.right d.shuts d.keep d.none d.one) n p b (passing h ts) q x in
      rw (← ok_inj _ _ y, d.left_as q) falls

  -- an entry
  pub rule_entry : (h : P) (p : ℕ) (t : T) (ts : List T) → d.parent t ≡ p → d.right h t ≡ true
      → run_from h p false (t ∷ ts) ≡ d.entry h t (run_from (d.keep t h) (d.place h) (d.shuts t) ts) (λ g us. run_from g p false us)
  rule_entry h p t ts e w =
      let kids : Check B = run_from (d.keep t h) (d.place h) (d.shuts t) ts in
      d.at_tuple (length ts) h p false t ts
      ∙ rw (eq-eqb (d.parent t) p e, w, d.at_entry h t kids (λ g us. run_from g p false us), d.at_entry h t kids (λ g us. d.up_to (length ts) g p false us))
      (bind_same kids _ _ (λ r x.
      ap (λ (c : Check B). bind c (λ q. ok (d.joined h t r q)))
      (rule_bound (length ts) (length (d.left_of r)) (d.past_of r) p false (d.left_of r) (left_falls (length ts) _ _ _ ts r x) (omega arith))))
