-- Updates on a list of records, each under a key, one after the other. What one update record makes of one record is a parameter.
use Rattle.std.specs.Prelude.{ℕ, ◌+◌, ◌≤◌, ◌≡◌, List, [], ◌∷◌, ltb}
use Rattle.std.proofs.Math.Option.{Option, some, none}
use Rattle.base.specs.Choice.{pick}
use Rattle.base.specs.Check.{Check, ok, no, bind}
use Rattle.base.specs.Keys.{same}
use Rattle.base.specs.declared.Fault.{Fault}

-- what an update record does with the record that it names
pub data Act : Type 0 where
  insert : Act
  delete : Act
  modify : Act

-- what the layers below supply
pub record Parts : Type 1 where
  -- records, and update records
  pub Rec : Type 0
  pub Upd : Type 0
  -- a record's key
  pub key : Rec → List ℕ
  -- the place of a key's kind in the order of kinds
  pub place : List ℕ → ℕ
  -- the key that an update record names
  pub names : Upd → List ℕ
  -- what it does
  pub act : Upd → Act
  -- what it makes of the latest version under its key, none where no record stands there
  pub change : Upd → Option Rec → Check (Option Rec)

-- how a run over update records ended: with a result, or refused at update record j
pub data Ran (A : Type 0) : Type 0 where
  done : A → Ran A
  stop : ℕ → Fault → Ran A

-- a test at update record j, and then the rest
unfoldable pub go_on : {A B : Type 0} → ℕ → Check A → (A → Ran B) → Ran B
go_on j (ok a) k = k a
go_on j (no x) k = stop j x

module _ (P : Parts) where
  open P use {Rec, Upd, key, place, names, act, change}

  -- ---- what is asked of an update record

  -- no record, or one with key k
  abbrev pub Under : List ℕ → Option Rec → Type 0
  Under k none = Unit {0}
  Under k (some r) = key r ≡ k

  -- what an accepted act makes of what stood under key k: an insert brings a record where there was none, a delete takes the one that was there,
  -- a modify puts another in its place
  pub data Goes (k : List ℕ) : Act → Option Rec → Option Rec → Type 0 where
    brings : {s : Rec} → key s ≡ k → Goes k insert none (some s)
    takes : {r : Rec} → Goes k delete (some r) none
    alters : {r s : Rec} → key s ≡ k → Goes k modify (some r) (some s)

  -- ---- the records, with one of them changed

  -- the latest version under key k
  unfoldable pub find : List ℕ → List Rec → Option Rec
  find k [] = none
  find k (r ∷ rs) = pick (same (key r) k) (some r) (find k rs)

  -- the place of a record's kind
  abbrev pub rank : Rec → ℕ
  rank r = place (key r)

  -- a new record joins the end of its kind
  unfoldable pub settle : Rec → List Rec → List Rec
  settle s [] = s ∷ []
  settle s (r ∷ rs) = pick (ltb (rank s) (rank r)) (s ∷ r ∷ rs) (r ∷ settle s rs)

  -- a changed record keeps its place
  unfoldable pub replace : List ℕ → Rec → List Rec → List Rec
  replace k s [] = []
  replace k s (r ∷ rs) = pick (same (key r) k) (s ∷ rs) (r ∷ replace k s rs)

  -- a deleted record leaves
  unfoldable pub remove : List ℕ → List Rec → List Rec
  remove k [] = []
  remove k (r ∷ rs) = pick (same (key r) k) rs (r ∷ remove k rs)

  -- the version under key k before and after
  unfoldable pub store : List ℕ → Option Rec → Option Rec → List Rec → List Rec
  store k none none ds = ds
  store k none (some s) ds = settle s ds
  store k (some r) none ds = remove k ds
  store k (some r) (some s) ds = replace k s ds

  -- ---- the run

  -- one update record, on the latest version under its key
  unfoldable pub step : List Rec → Upd → Check (List Rec)
  step ds u = bind (change u (find (names u) ds)) (λ new. ok (store (names u) (find (names u) ds) new ds))

  -- the update records in order, the first of them with number j
  unfoldable pub run : ℕ → List Rec → List Upd → Ran (List Rec)
  run j ds [] = done ds
  run j ds (u ∷ us) = go_on j (step ds u) (λ d. run (j + 1) d us)

  -- ---- what is asked of the records, and kept by a run

  -- the version has Q, where there is one
  abbrev pub Has : (Rec → Type 0) → Option Rec → Type 0
  Has Q none = Unit {0}
  Has Q (some r) = Q r

  -- the kinds stand in order, from place n on
  unfoldable pub Ordered : ℕ → List Rec → Type 0
  Ordered n [] = Unit {0}
  Ordered n (r ∷ rs) = (n ≤ rank r) × Ordered (rank r) rs

  -- each key stands once
  unfoldable pub Once : List Rec → Type 0
  Once [] = Unit {0}
  Once (r ∷ rs) = (find (key r) rs ≡ none) × Once rs

-- what the layers below must prove: an accepted update record does what its act says, under the key that it names
pub record Laws (P : Parts) : Type 0 where
  pub goes : (u : P.Upd) (o p : Option P.Rec) → Under P (P.names u) o → P.change u o ≡ ok p → Goes P (P.names u) (P.act u) o p
