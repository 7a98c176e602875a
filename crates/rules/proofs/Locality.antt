-- Locality: an update record changes the record that it names, and no other. Assumes nothing.
use mathlib.Core.Path.{◌≡◌, refl}
use mathlib.Core.List.{List, [], ◌∷◌}
use mathlib.Core.Option.{Option, some, none}
use mathlib.Core.Bool.{Bool, true, false}
use Prim.Native.Nat.{ℕ}
use lib.Dec.{ltb, eqb}
use Rattle.base.specs.Choice.{pick}
use Rattle.base.specs.Check.{Check, ok, no, bind, fault}
use Rattle.base.specs.Keys.{same}
use Rattle.base.proofs.KeysLaws.{same_sound}
use Rattle.skeleton.specs.File.{Field}
use Rattle.rules.specs.ByTag.{front}
use Rattle.rules.specs.Kind.{rank}
use Rattle.rules.specs.Record.{Rec, ident_of, key_named, key_of, rec_of}
use Rattle.rules.specs.Written.{written_fields, number12}
use Rattle.rules.specs.Change.{fitting, revised, inserted, deleted, modified, change}
use Rattle.rules.specs.Update.{find, settle, replace, remove, store, step_as}
use Rattle.rules.specs.declared.Kind.{Kind}

-- ---- one update record makes a record of the key that it names, or none

-- there is no record, or it has the key k
abbrev pub Names : List ℕ → Option Rec → Type 0
Names k none = Unit {0}
Names k (some r) = key_of r ≡ k

-- what a check gives has the key k
unfoldable pub Makes : List ℕ → Check (Option Rec) → Type 0
Makes k (ok o) = Names k o
Makes k (no x) = Unit {0}

-- a value
makes_ok : (k : List ℕ) (o : Option Rec) → Names k o → Makes k (ok o)
unfolding Makes
makes_ok k o e = e

-- a refusal
makes_no : (k : List ℕ) (n i j : ℕ) → Makes k (no (fault n i j))
unfolding Makes
makes_no k n i j = tt

-- a choice
makes_pick : (k : List ℕ) (b : Bool) (x y : Check (Option Rec)) → Makes k x → Makes k y → Makes k (pick b x y)
makes_pick k true x y p q = p
makes_pick k false x y p q = q

-- one test after the other
makes_then : {A : Type 0} (k : List ℕ) (m : Check A) (c : A → Check (Option Rec)) → ((a : A) → Makes k (c a)) → Makes k (bind m c)
unfolding bind Makes
makes_then k (ok a) c p = p a
makes_then k (no x) c p = tt

-- the record that a record sends has the key that it names
pub key_named_lem : (k : Kind) (fs : List Field) → key_of (rec_of k fs) ≡ key_named k fs
unfolding key_named key_of rec_of
key_named_lem k fs = refl

-- a record that can be written
fitting_makes : (q : List ℕ) (r : Rec) → key_of r ≡ q → Makes q (fitting r)
unfolding fitting
fitting_makes q r e = makes_then q (number12 (written_fields r)) (λ _. ok (some r)) (λ _. makes_ok q (some r) e)

-- an insert
inserted_makes : (k : Kind) (fs : List Field) (old : Option Rec) → Makes (key_named k fs) (inserted k fs old)
unfolding inserted
inserted_makes k fs none =
    let q = key_named k fs in
    makes_pick q (eqb (ident_of k (front fs)).rver 1) _ _
    (fitting_makes q (rec_of k fs) (key_named_lem k fs)) (makes_no q 10 1 0)
inserted_makes k fs (some old) = makes_no (key_named k fs) 7 1 0

-- a delete
deleted_makes : (k : Kind) (fs : List Field) (old : Option Rec) → Makes (key_named k fs) (deleted k fs old)
unfolding deleted
deleted_makes k fs none = makes_no (key_named k fs) 9 1 0
deleted_makes k fs (some old) = makes_then (key_named k fs) _ _ (λ _. makes_ok (key_named k fs) none tt)

-- a modify
modified_makes : (k : Kind) (fs : List Field) (old : Option Rec) → Names (key_named k fs) old → Makes (key_named k fs) (modified k fs old)
unfolding modified key_of revised
modified_makes k fs none h = makes_no (key_named k fs) 9 1 0
modified_makes k fs (some old) h =
    let q = key_named k fs in
    makes_then q _ _ (λ _. makes_then q _ _ (λ _. makes_then q _ _ (λ new. fitting_makes q (revised (ident_of k (front fs)).rver new old) h)))

-- any of them
pub change_makes : (k : Kind) (fs : List Field) (old : Option Rec) → Names (key_named k fs) old → Makes (key_named k fs) (change k fs old)
unfolding change
change_makes k fs old h =
    makes_pick (key_named k fs) (eqb (ident_of k (front fs)).ruin 1) _ _ (inserted_makes k fs old)
    (makes_pick (key_named k fs) (eqb (ident_of k (front fs)).ruin 2) _ _ (deleted_makes k fs old) (modified_makes k fs old h))

-- ---- the others are found as before

-- what is found has the key that was looked for
pub find_names : (k : List ℕ) (rs : List Rec) → Names k (find k rs)
unfolding find
find_names k [] = tt
find_names k (r ∷ rs) = go (same (key_of r) k) refl (find_names k rs)
  where
    go : (t : Bool) → same (key_of r) k ≡ t → Names k (find k rs) → Names k (pick t (some r) (find k rs))
    go true e h = same_sound (key_of r) k e
    go false e h = h

module _ (k q : List ℕ) (other : same k q ≡ false) where
  -- a record with another key is passed over
  skip : (r : Rec) (rs : List Rec) → key_of r ≡ k → find q (r ∷ rs) ≡ find q rs
  unfolding find
  skip r rs e = rw (e, other)

  -- a record that joins
  pub find_settle : (r : Rec) (rs : List Rec) → key_of r ≡ k → find q (settle r rs) ≡ find q rs
  unfolding settle find
  find_settle r [] e = rw (e, other)
  find_settle r (x ∷ xs) e = go (ltb (rank r.kind) (rank x.kind)) (find_settle r xs e)
    where
      go : (t : Bool) → find q (settle r xs) ≡ find q xs → find q (pick t (r ∷ x ∷ xs) (x ∷ settle r xs)) ≡ find q (x ∷ xs)
      go true h = rw (e, other)
      go false h = rw h

  -- a record that is replaced
  pub find_replace : (r : Rec) (rs : List Rec) → key_of r ≡ k → find q (replace k r rs) ≡ find q rs
  unfolding replace find
  find_replace r [] e = refl
  find_replace r (x ∷ xs) e = go (same (key_of x) k) refl (find_replace r xs e)
    where
      go : (t : Bool) → same (key_of x) k ≡ t → find q (replace k r xs) ≡ find q xs → find q (pick t (r ∷ xs) (x ∷ replace k r xs)) ≡ find q (x ∷ xs)
      go true s h = rw (e, same_sound (key_of x) k s, other)
      go false s h = rw h

  -- a record that leaves
  find_remove : (rs : List Rec) → find q (remove k rs) ≡ find q rs
  unfolding remove find
  find_remove [] = refl
  find_remove (x ∷ xs) = go (same (key_of x) k) refl (find_remove xs)
    where
      go : (t : Bool) → same (key_of x) k ≡ t → find q (remove k xs) ≡ find q xs → find q (pick t xs (x ∷ remove k xs)) ≡ find q (x ∷ xs)
      go true s h = rw (same_sound (key_of x) k s, other)
      go false s h = rw h

  -- any of them
  pub find_store : (old new : Option Rec) (rs : List Rec) → Names k new → find q (store k old new rs) ≡ find q rs
  unfolding store
  find_store none none rs e = refl
  find_store none (some new) rs e = find_settle new rs e
  find_store (some old) none rs e = find_remove rs
  find_store (some old) (some new) rs e = find_replace new rs e

-- ---- the theorem: a step that is accepted leaves every other record

-- the record with key q is found as before
abbrev pub Leaves : List ℕ → List Rec → Check (List Rec) → Type 0
Leaves q rs (ok rs') = find q rs' ≡ find q rs
Leaves q rs (no x) = Unit {0}

-- an update record that is accepted leaves every record with another key
pub local : (k : Kind) (fs : List Field) (rs : List Rec) (q : List ℕ) → same (key_named k fs) q ≡ false → Leaves q rs (step_as k fs rs)
unfolding step_as bind Makes
local k fs rs q other = go (change k fs (find (key_named k fs) rs)) (change_makes k fs (find (key_named k fs) rs) (find_names (key_named k fs) rs))
  where
    go : (c : Check (Option Rec)) → Makes (key_named k fs) c
        → Leaves q rs (bind c (λ new. ok (store (key_named k fs) (find (key_named k fs) rs) new rs)))
    go (ok new) m = find_store (key_named k fs) q other (find (key_named k fs) rs) new rs m
    go (no x) m = tt
