-- One step of each walk over records or update records, by what is met: what a loop needs. Assumes nothing.
use Prim.Native.Nat.{ℕ, ◌+◌}
use mathlib.Core.Path.{◌≡◌, refl}
use mathlib.Core.Bool.{true, false}
use mathlib.Core.Option.{Option, some, none}
use mathlib.Core.List.{List, [], ◌∷◌, ◌++◌}
use lib.Dec.{eqb}
use Rattle.base.specs.Check.{ok, no, bind}
use Rattle.base.specs.Keys.{same}
use Rattle.base.specs.declared.Fault.{Fault}
use Rattle.base.proofs.ChoiceLaws.{neither}
use Rattle.sequence.specs.Keyed.{delete, Parts, stop, go_on, rank}
use Rattle.sequence.specs.History.{history, version, due, judged}
use Rattle.sequence.specs.Order.{is_insert, is_delete, named, deleted}
use Rattle.sequence.specs.Stream.{last, kept_of, joined_of}
use Rattle.sequence.proofs.Tests.{both_no}

module _ (P : Parts) where
  open P use {Rec, Upd, key, place, act, names, change}

  -- ---- the history of key k from here on

  module _ (k : List ℕ) (o : Option Rec) (u : Upd) (us : List Upd) where
    -- an update record that names another key
    pub history_skip : same (names u) k ≡ false → history P k (u ∷ us) o ≡ history P k us o
    unfolding history
    history_skip h = rw h

    -- one that names it and is accepted
    pub history_next : (p : Option Rec) → same (names u) k ≡ true → change u o ≡ ok p → history P k (u ∷ us) o ≡ history P k us p
    unfolding history bind
    history_next p h e = rw (h, e)

    -- one that names it and is refused
    pub history_no : (x : Fault) → same (names u) k ≡ true → change u o ≡ no x → history P k (u ∷ us) o ≡ no x
    unfolding history bind
    history_no x h e = rw (h, e)

  -- no update record names it
  pub history_none : (k : List ℕ) (us : List Upd) (o : Option Rec) → named P k us ≡ false → history P k us o ≡ ok o
  unfolding history named
  history_none k [] o n = refl
  history_none k (u ∷ us) o n = let (h, g) = neither (same (names u) k) (named P k us) n in rw h (history_none k us o g)

  -- ---- whether k is deleted from here on

  module _ (k : List ℕ) (u : Upd) (us : List Upd) where
    -- an update record that deletes it
    pub deleted_hit : act u ≡ delete → same (names u) k ≡ true → deleted P k (u ∷ us) ≡ true
    unfolding deleted is_delete
    deleted_hit a h = rw (a, h)

    -- one that names another key
    pub deleted_skip : same (names u) k ≡ false → deleted P k (u ∷ us) ≡ deleted P k us
    unfolding deleted
    deleted_skip h = rw (h, both_no (is_delete (act u)) false refl)

    -- one that is no delete
    pub deleted_not : is_delete (act u) ≡ false → deleted P k (u ∷ us) ≡ deleted P k us
    unfolding deleted
    deleted_not a = rw a

  -- no update record names it
  pub deleted_none : (k : List ℕ) (us : List Upd) → named P k us ≡ false → deleted P k us ≡ false
  unfolding named deleted
  deleted_none k [] n = refl
  deleted_none k (u ∷ us) n = let (h, g) = neither (same (names u) k) (named P k us) n in rw (h, both_no (is_delete (act u)) false refl) (deleted_none k us g)

  -- ---- the verdicts from here on

  module _ (j : ℕ) (ds : List Rec) (pre : List Upd) (u : Upd) (us : List Upd) where
    -- a refusal
    pub judged_no : (x : Fault) → due P ds pre u ≡ no x → judged P j ds pre (u ∷ us) ≡ stop j x
    unfolding judged go_on
    judged_no x e = rw e

    -- none
    pub judged_next : (o : Option Rec) → due P ds pre u ≡ ok o → judged P j ds pre (u ∷ us) ≡ judged P (j + 1) ds (pre ++ (u ∷ [])) us
    unfolding judged go_on
    judged_next o e = rw e

    -- the verdict, by the version that stands
    pub due_of : (o : Option Rec) → version P ds pre (names u) ≡ ok o → due P ds pre u ≡ change u o
    unfolding due bind
    due_of o e = rw e

  -- ---- the records of the result

  module _ (q : ℕ) (us : List Upd) (r : Rec) where
    -- an old record of another kind
    pub kept_kind : eqb (rank P r) q ≡ false → kept_of P q us r ≡ []
    unfolding kept_of
    kept_kind h = rw h

    -- one that is deleted
    pub kept_deleted : deleted P (key r) us ≡ true → kept_of P q us r ≡ []
    unfolding kept_of
    kept_deleted d = rw (d, both_no (eqb (rank P r) q) false refl)

    -- one that stays
    pub kept_stays : (s : Rec) → eqb (rank P r) q ≡ true → deleted P (key r) us ≡ false → history P (key r) us (some r) ≡ ok (some s) → kept_of P q us r ≡ s ∷ []
    unfolding kept_of last
    kept_stays s h d e = rw (h, d, e)

    -- one that no update record names: it stands as it is
    pub kept_untouched : eqb (rank P r) q ≡ true → named P (key r) us ≡ false → kept_of P q us r ≡ r ∷ []
    kept_untouched h n = kept_stays r h (deleted_none (key r) us n) (history_none (key r) us (some r) n)

  module _ (q : ℕ) (u : Upd) (us : List Upd) where
    -- an update record that is no insert
    pub joined_not : is_insert (act u) ≡ false → joined_of P q u us ≡ []
    unfolding joined_of
    joined_not a = rw a

    -- an insert of another kind
    pub joined_kind : eqb (place (names u)) q ≡ false → joined_of P q u us ≡ []
    unfolding joined_of
    joined_kind h = rw (h, both_no (is_insert (act u)) false refl)

    -- one that is deleted later
    pub joined_deleted : deleted P (names u) us ≡ true → joined_of P q u us ≡ []
    unfolding joined_of
    joined_deleted d = rw (d, both_no (eqb (place (names u)) q) false refl, both_no (is_insert (act u)) false refl)

    -- one that stays
    pub joined_stays : (s : Rec) → is_insert (act u) ≡ true → eqb (place (names u)) q ≡ true → deleted P (names u) us ≡ false → history P (names u) (u ∷ us) none ≡ ok (some s)
        → joined_of P q u us ≡ s ∷ []
    unfolding joined_of last
    joined_stays s a h d e = rw (a, h, d, e)
