-- The result of a run: kinds in order, keys once, the number of records, what is left alone. Assumes nothing.
use Prim.Native.Nat.{ℕ, ◌+◌, ◌≤◌}
use mathlib.Core.Path.{◌≡◌, refl, subst, ◌∙◌}
use mathlib.Core.Bool.{Bool, true, false, not}
use mathlib.Core.Option.{Option, some, none}
use mathlib.Core.List.{List, [], ◌∷◌}
use native.Mathlib.Omega.{arith}
use lib.ListN.{length}
use Rattle.base.specs.Choice.{either}
use Rattle.base.specs.Check.{ok}
use Rattle.base.specs.Keys.{same}
use Rattle.base.proofs.KeysLaws.{same_refl}
use Rattle.base.specs.Lists.{Each}
use Rattle.sequence.specs.Keyed.{Parts, Has, Under, done, rank, step, run, Ordered, Once, Laws}
use Rattle.sequence.specs.Order.{keep, is_insert, is_delete, named, untouched, inserts, deletes}
use Rattle.sequence.proofs.Tests.{done_inj, go_on_done}
use Rattle.sequence.proofs.Lists.{find_under, each_settle, each_remove, each_replace, each_find, ordered_settle, ordered_remove, ordered_replace, length_settle, length_remove, length_replace, keep_settle, keep_remove, keep_replace}
use Rattle.sequence.proofs.Local.{Did, did_insert, did_delete, did_modify, did, step_once}

-- one of two tests holds where the second does
or_right : (a b : Bool) → b ≡ true → either a b ≡ true
or_right true b e = refl
or_right false b e = e

module _ (P : Parts) (L : Laws P) where
  open P use {Rec, Upd, key, act, names, change}

  -- what a step keeps, a run keeps
  pub run_keeps : (Q : List Rec → Type 0) → ((ds : List Rec) (u : Upd) (d : List Rec) → Q ds → step P ds u ≡ ok d → Q d)
      → (j : ℕ) (ds : List Rec) (us : List Upd) (d : List Rec) → Q ds → run P j ds us ≡ done d → Q d
  unfolding run
  run_keeps Q h j ds [] d q x = subst Q (done_inj x) q
  run_keeps Q h j ds (u ∷ us) d q x =
      let (c, s, y) = go_on_done j (step P ds u) (λ c. run P (j + 1) c us) d x in
      run_keeps Q h (j + 1) c us d (h ds u c q s) y

  -- each key stands once
  pub run_once : (j : ℕ) (ds : List Rec) (us : List Upd) (d : List Rec) → Once P ds → run P j ds us ≡ done d → Once P d
  run_once = run_keeps (Once P) (step_once P L)

  -- a step keeps the kinds in order
  pub step_ordered : (n : ℕ) → ((r : Rec) → n ≤ rank P r) → (ds : List Rec) (u : Upd) (d : List Rec) → Ordered P n ds → step P ds u ≡ ok d → Ordered P n d
  step_ordered n low ds u d o e = go (did P L ds u d e)
    where
      go : Did P ds u d → Ordered P n d
      go (did_insert s a f c q y) = rw y (ordered_settle P n s ds (low s) o)
      go (did_delete r a f c y) = rw y (ordered_remove P n (names u) ds o)
      go (did_modify r s a f c q y) = rw y (ordered_replace P n (names u) s ds q o)

  -- the kinds stand in order, where no kind has a place before n
  pub run_ordered : (n : ℕ) → ((r : Rec) → n ≤ rank P r) → (j : ℕ) (ds : List Rec) (us : List Upd) (d : List Rec) → Ordered P n ds → run P j ds us ≡ done d → Ordered P n d
  run_ordered n low = run_keeps (Ordered P n) (step_ordered n low)

  -- a step and the number of records
  step_count : (ds : List Rec) (u : Upd) (us : List Upd) (d : List Rec) → step P ds u ≡ ok d
      → length d + (deletes P (u ∷ us) + inserts P us) ≡ length ds + (inserts P (u ∷ us) + deletes P us)
  unfolding deletes inserts keep is_delete is_insert
  step_count ds u us d e = go (did P L ds u d e)
    where
      go : Did P ds u d → length d + (deletes P (u ∷ us) + inserts P us) ≡ length ds + (inserts P (u ∷ us) + deletes P us)
      go (did_insert s a f c q y) = rw (a, y) (omega (arith, length_settle P s ds))
      go (did_delete r a f c y) = rw (a, y) (omega (arith, length_remove P (names u) r ds f))
      go (did_modify r s a f c q y) = rw (a, y) (omega (arith, length_replace P (names u) s ds))

  -- the number of records: the old ones and the inserts, less the deletes
  pub run_count : (j : ℕ) (ds : List Rec) (us : List Upd) (d : List Rec) → run P j ds us ≡ done d → length d + deletes P us ≡ length ds + inserts P us
  unfolding run deletes inserts keep
  run_count j ds [] d x = rw (done_inj x)
  run_count j ds (u ∷ us) d x =
      let (c, s, y) = go_on_done j (step P ds u) (λ c. run P (j + 1) c us) d x in
      omega (arith, step_count ds u us c s, run_count (j + 1) c us d y)

  -- a step and those whose key passes a test that its own key does not
  step_leaves : (p : List ℕ → Bool) (ds : List Rec) (u : Upd) (d : List Rec) → p (names u) ≡ false → step P ds u ≡ ok d
      → keep (λ r. p (key r)) d ≡ keep (λ r. p (key r)) ds
  step_leaves p ds u d n e = go (did P L ds u d e)
    where
      go : Did P ds u d → keep (λ r. p (key r)) d ≡ keep (λ r. p (key r)) ds
      go (did_insert s a f c q y) = rw y (keep_settle P p s ds (rw q n))
      go (did_delete r a f c y) = rw y (keep_remove P p (names u) ds n)
      go (did_modify r s a f c q y) = rw y (keep_replace P p (names u) s ds q n)

  -- a run and those whose key passes a test that no named key does
  run_leaves : (p : List ℕ → Bool) (j : ℕ) (ds : List Rec) (us : List Upd) (d : List Rec) → ((k : List ℕ) → named P k us ≡ true → p k ≡ false) → run P j ds us ≡ done d
      → keep (λ r. p (key r)) d ≡ keep (λ r. p (key r)) ds
  unfolding run named
  run_leaves p j ds [] d n x = rw (done_inj x)
  run_leaves p j ds (u ∷ us) d n x =
      let (c, s, y) = go_on_done j (step P ds u) (λ c. run P (j + 1) c us) d x in
      run_leaves p (j + 1) c us d (λ k h. n k (or_right (same (names u) k) (named P k us) h)) y
      ∙ step_leaves p ds u c (n (names u) (rw (same_refl (names u)))) s

  -- a record that no update record names stands unchanged, in the same order among its like
  pub run_untouched : (j : ℕ) (ds : List Rec) (us : List Upd) (d : List Rec) → run P j ds us ≡ done d → untouched P us d ≡ untouched P us ds
  unfolding untouched
  run_untouched j ds us d x = run_leaves (λ k. not (named P k us)) j ds us d (λ k h. rw h) x

  -- what each record has (Q), and what an accepted update record that has W leaves of a record that has Q, each record of the result has
  module _ (Q : Rec → Type 0) (W : Upd → Type 0) (makes : (u : Upd) (o : Option Rec) (s : Rec) → W u → Under P (names u) o → Has P Q o → change u o ≡ ok (some s) → Q s) where
    -- of a step
    step_each : (ds : List Rec) (u : Upd) (d : List Rec) → W u → Each Q ds → Did P ds u d → Each Q d
    step_each ds u d w q (did_insert s a f c k y) = rw y (each_settle P Q s ds (makes u none s w tt tt c) q)
    step_each ds u d w q (did_delete r a f c y) = rw y (each_remove P Q (names u) ds q)
    step_each ds u d w q (did_modify r s a f c k y) =
        rw y (each_replace P Q (names u) s ds (makes u (some r) s w (rw f at (find_under P (names u) ds)) (rw f at (each_find P Q (names u) ds q)) c) q)

    -- of a run
    pub run_each : (j : ℕ) (ds : List Rec) (us : List Upd) (d : List Rec) → Each W us → Each Q ds → run P j ds us ≡ done d → Each Q d
    unfolding run Each
    run_each j ds [] d w q x = rw (← done_inj x) q
    run_each j ds (u ∷ us) d w q x =
        let (c, s, y) = go_on_done j (step P ds u) (λ c. run P (j + 1) c us) d x in
        run_each (j + 1) c us d w.1 (step_each ds u c w.0 q (did P L ds u c s)) y
