-- What the number of the result's records, and what an update leaves alone, are stated with.
use Rattle.std.specs.Prelude.{ℕ, Bool, true, false, not, List, [], ◌∷◌, length, eqb}
use Rattle.base.specs.Choice.{pick, both, either}
use Rattle.base.specs.Keys.{same}
use Rattle.sequence.specs.Keyed.{Act, insert, delete, modify, Parts, rank}

-- those that pass a test, in order
unfoldable pub keep : {A : Type 0} → (A → Bool) → List A → List A
keep p [] = []
keep p (x ∷ xs) = pick (p x) (x ∷ keep p xs) (keep p xs)

-- it is an insert
unfoldable pub is_insert : Act → Bool
is_insert insert = true
is_insert delete = false
is_insert modify = false

-- it is a delete
unfoldable pub is_delete : Act → Bool
is_delete insert = false
is_delete delete = true
is_delete modify = false

module _ (P : Parts) where
  open P use {Rec, Upd, key, act, names}

  -- some update record names k
  unfoldable pub named : List ℕ → List Upd → Bool
  named k [] = false
  named k (u ∷ us) = either (same (names u) k) (named k us)

  -- some update record deletes k
  unfoldable pub deleted : List ℕ → List Upd → Bool
  deleted k [] = false
  deleted k (u ∷ us) = either (both (is_delete (act u)) (same (names u) k)) (deleted k us)

  -- the records of the kind with place q, in order
  unfoldable pub of_kind : ℕ → List Rec → List Rec
  of_kind q ds = keep (λ r. eqb (rank P r) q) ds

  -- the records that no update record names, in order
  unfoldable pub untouched : List Upd → List Rec → List Rec
  untouched us ds = keep (λ r. not (named (key r) us)) ds

  -- how many inserts there are
  unfoldable pub inserts : List Upd → ℕ
  inserts us = length (keep (λ u. is_insert (act u)) us)

  -- how many deletes there are
  unfoldable pub deletes : List Upd → ℕ
  deletes us = length (keep (λ u. is_delete (act u)) us)
