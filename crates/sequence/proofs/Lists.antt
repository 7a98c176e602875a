-- The records with one of them changed: what is found, the order of kinds, keys once, the number. Assumes nothing.
use Prim.Native.Nat.{ℕ, suc, ◌≤◌}
use mathlib.Core.Path.{◌≡◌, refl, sym, ap, ◌∙◌}
use mathlib.Core.Bool.{Bool, true, false}
use mathlib.Core.Option.{some, none}
use mathlib.Core.List.{List, [], ◌∷◌}
use native.Mathlib.Omega.{arith}
use borrow.Author.Tests.{ltb-true, ltb-false}
use lib.ListN.{length}
use lib.Dec.{ltb}
use Rattle.base.specs.Keys.{same}
use Rattle.base.proofs.KeysLaws.{same_sound, same_refl, same_sym}
use Rattle.base.proofs.OptionLaws.{never}
use Rattle.base.specs.Lists.{Each}
use Rattle.sequence.specs.Keyed.{Parts, Has, Under, rank, find, settle, replace, remove, Ordered, Once}
use Rattle.sequence.specs.Order.{keep}
use Rattle.sequence.proofs.Tests.{by_bool}

module _ (P : Parts) where
  open P use {Rec, key, place}

  -- ---- found

  -- the first record has the key
  pub find_hit : (k : List ℕ) (r : Rec) (rs : List Rec) → same (key r) k ≡ true → find P k (r ∷ rs) ≡ some r
  unfolding find
  find_hit k r rs e = rw e

  -- the first record has another key
  pub find_miss : (k : List ℕ) (r : Rec) (rs : List Rec) → same (key r) k ≡ false → find P k (r ∷ rs) ≡ find P k rs
  unfolding find
  find_miss k r rs e = rw e

  -- a key that no record has is not the first one's, and no later one's
  pub find_none : (k : List ℕ) (r : Rec) (rs : List Rec) → find P k (r ∷ rs) ≡ none → (same (key r) k ≡ false) × (find P k rs ≡ none)
  find_none k r rs e =
      by_bool (same (key r) k)
      (λ h. never (sym (find_hit k r rs h) ∙ e))
      (λ h. (h, sym (find_miss k r rs h) ∙ e))

  -- what is found has the key
  pub find_under : (k : List ℕ) (ds : List Rec) → Under P k (find P k ds)
  unfolding find
  find_under k [] = tt
  find_under k (r ∷ rs) = by_bool (same (key r) k) (λ h. rw h (same_sound (key r) k h)) (λ h. rw h (find_under k rs))

  -- a record that has joined
  pub find_settled : (k : List ℕ) (s : Rec) (ds : List Rec) → key s ≡ k → find P k ds ≡ none → find P k (settle P s ds) ≡ some s
  unfolding settle
  find_settled k s [] q e = find_hit k s [] (rw q (same_refl k))
  find_settled k s (r ∷ rs) q e =
      let n = find_none k r rs e in
      by_bool (ltb (rank P s) (rank P r))
      (λ h. rw h (find_hit k s (r ∷ rs) (rw q (same_refl k))))
      (λ h. rw h (find_miss k r (settle P s rs) n.0 ∙ find_settled k s rs q n.1))

  -- others, beside a record that has joined
  pub find_settle : (l : List ℕ) (s : Rec) (ds : List Rec) → same (key s) l ≡ false → find P l (settle P s ds) ≡ find P l ds
  unfolding settle find
  find_settle l s [] n = rw n
  find_settle l s (r ∷ rs) n =
      by_bool (ltb (rank P s) (rank P r))
      (λ h. rw (h, n))
      (λ h. rw (h, find_settle l s rs n))

  -- a record in the place of another
  pub find_replaced : (k : List ℕ) (r s : Rec) (ds : List Rec) → key s ≡ k → find P k ds ≡ some r → find P k (replace P k s ds) ≡ some s
  unfolding replace find
  find_replaced k r s [] q e = never (sym e)
  find_replaced k r s (x ∷ xs) q e =
      by_bool (same (key x) k)
      (λ h. rw (h, q, same_refl k))
      (λ h. rw (h, h) (find_replaced k r s xs q (rw h at e)))

  -- others, beside a record in the place of another
  pub find_replace : (k l : List ℕ) (s : Rec) (ds : List Rec) → key s ≡ k → same k l ≡ false → find P l (replace P k s ds) ≡ find P l ds
  unfolding replace find
  find_replace k l s [] q n = refl
  find_replace k l s (x ∷ xs) q n =
      by_bool (same (key x) k)
      (λ h. rw (h, q, same_sound (key x) k h, n))
      (λ h. rw (h, find_replace k l s xs q n))

  -- a record that has left, where its key stood once
  pub find_removed : (k : List ℕ) (ds : List Rec) → Once P ds → find P k (remove P k ds) ≡ none
  unfolding remove find Once
  find_removed k [] o = refl
  find_removed k (x ∷ xs) o =
      by_bool (same (key x) k)
      (λ h. rw (h, ← same_sound (key x) k h) o.0)
      (λ h. rw (h, h) (find_removed k xs o.1))

  -- others, beside a record that has left
  pub find_remove : (k l : List ℕ) (ds : List Rec) → same k l ≡ false → find P l (remove P k ds) ≡ find P l ds
  unfolding remove find
  find_remove k l [] n = refl
  find_remove k l (x ∷ xs) n =
      by_bool (same (key x) k)
      (λ h. rw (h, same_sound (key x) k h, n))
      (λ h. rw (h, find_remove k l xs n))

  -- ---- kinds in order

  -- from an earlier place on
  pub ordered_from : (m n : ℕ) (ds : List Rec) → m ≤ n → Ordered P n ds → Ordered P m ds
  unfolding Ordered
  ordered_from m n [] h o = tt
  ordered_from m n (r ∷ rs) h o = (omega (arith, o.0), o.1)

  -- a record joins
  pub ordered_settle : (n : ℕ) (s : Rec) (ds : List Rec) → n ≤ rank P s → Ordered P n ds → Ordered P n (settle P s ds)
  unfolding Ordered settle
  ordered_settle n s [] h o = (h, tt)
  ordered_settle n s (r ∷ rs) h o =
      by_bool (ltb (rank P s) (rank P r))
      (λ e. let l = ltb-true (rank P s) (rank P r) e in rw e (h, (omega arith, o.1)))
      (λ e. rw e (o.0, ordered_settle (rank P r) s rs (ltb-false (rank P s) (rank P r) e) o.1))

  -- a record leaves
  pub ordered_remove : (n : ℕ) (k : List ℕ) (ds : List Rec) → Ordered P n ds → Ordered P n (remove P k ds)
  unfolding Ordered remove
  ordered_remove n k [] o = tt
  ordered_remove n k (r ∷ rs) o =
      by_bool (same (key r) k)
      (λ e. rw e (ordered_from n (rank P r) rs o.0 o.1))
      (λ e. rw e (o.0, ordered_remove (rank P r) k rs o.1))

  -- a record is put in the place of another
  pub ordered_replace : (n : ℕ) (k : List ℕ) (s : Rec) (ds : List Rec) → key s ≡ k → Ordered P n ds → Ordered P n (replace P k s ds)
  unfolding Ordered replace
  ordered_replace n k s [] q o = tt
  ordered_replace n k s (r ∷ rs) q o =
      by_bool (same (key r) k)
      (λ e. let z : rank P s ≡ rank P r = ap place (q ∙ sym (same_sound (key r) k e)) in
      rw e (omega (arith, o.0), ordered_from (rank P s) (rank P r) rs (omega arith) o.1))
      (λ e. rw e (o.0, ordered_replace (rank P r) k s rs q o.1))

  -- ---- keys once

  -- a record joins
  pub once_settle : (s : Rec) (ds : List Rec) → find P (key s) ds ≡ none → Once P ds → Once P (settle P s ds)
  unfolding Once settle find
  once_settle s [] e o = (refl, tt)
  once_settle s (r ∷ rs) e o =
      let n = find_none (key s) r rs e in
      by_bool (ltb (rank P s) (rank P r))
      (λ h. rw h (e, o))
      (λ h. rw h (find_settle (key r) s rs (same_sym (key r) (key s) n.0) ∙ o.0, once_settle s rs n.1 o.1))

  -- what no record has, none has after one has left
  none_remove : (k l : List ℕ) (ds : List Rec) → find P l ds ≡ none → find P l (remove P k ds) ≡ none
  unfolding remove
  none_remove k l [] e = e
  none_remove k l (r ∷ rs) e =
      let n = find_none l r rs e in
      by_bool (same (key r) k)
      (λ h. rw h n.1)
      (λ h. rw h (find_miss l r (remove P k rs) n.0 ∙ none_remove k l rs n.1))

  -- a record leaves
  pub once_remove : (k : List ℕ) (ds : List Rec) → Once P ds → Once P (remove P k ds)
  unfolding Once remove
  once_remove k [] o = tt
  once_remove k (r ∷ rs) o =
      by_bool (same (key r) k)
      (λ h. rw h o.1)
      (λ h. rw h (none_remove k (key r) rs o.0, once_remove k rs o.1))

  -- a record is put in the place of another
  pub once_replace : (k : List ℕ) (s : Rec) (ds : List Rec) → key s ≡ k → Once P ds → Once P (replace P k s ds)
  unfolding Once replace
  once_replace k s [] q o = tt
  once_replace k s (r ∷ rs) q o =
      by_bool (same (key r) k)
      (λ h. rw h (ap (λ (l : List ℕ). find P l rs) (q ∙ sym (same_sound (key r) k h)) ∙ o.0, o.1))
      (λ h. rw h (find_replace k (key r) s rs q (same_sym (key r) k h) ∙ o.0, once_replace k s rs q o.1))

  -- ---- the number of records

  -- a record joins
  pub length_settle : (s : Rec) (ds : List Rec) → length (settle P s ds) ≡ suc (length ds)
  unfolding settle
  length_settle s [] = refl
  length_settle s (r ∷ rs) = by_bool (ltb (rank P s) (rank P r)) (λ h. rw h) (λ h. rw h (ap suc (length_settle s rs)))

  -- a record leaves
  pub length_remove : (k : List ℕ) (r : Rec) (ds : List Rec) → find P k ds ≡ some r → suc (length (remove P k ds)) ≡ length ds
  unfolding remove find
  length_remove k r [] e = never (sym e)
  length_remove k r (x ∷ xs) e =
      by_bool (same (key x) k)
      (λ h. rw h)
      (λ h. rw h (ap suc (length_remove k r xs (rw h at e))))

  -- a record is put in the place of another
  pub length_replace : (k : List ℕ) (s : Rec) (ds : List Rec) → length (replace P k s ds) ≡ length ds
  unfolding replace
  length_replace k s [] = refl
  length_replace k s (r ∷ rs) = by_bool (same (key r) k) (λ h. rw h) (λ h. rw h (ap suc (length_replace k s rs)))

  -- ---- those whose key passes a test that the changed one's does not

  module _ (p : List ℕ → Bool) where
    -- a record before a list and after it, where the rest agrees
    keep_next : (r : Rec) (a b : List Rec) → keep (λ x. p (key x)) a ≡ keep (λ x. p (key x)) b → keep (λ x. p (key x)) (r ∷ a) ≡ keep (λ x. p (key x)) (r ∷ b)
    unfolding keep
    keep_next r a b e = by_bool (p (key r)) (λ m. rw m (ap (λ (l : List Rec). r ∷ l) e)) (λ m. rw m e)

    -- a record joins
    pub keep_settle : (s : Rec) (ds : List Rec) → p (key s) ≡ false → keep (λ r. p (key r)) (settle P s ds) ≡ keep (λ r. p (key r)) ds
    unfolding settle keep
    keep_settle s [] n = rw n
    keep_settle s (r ∷ rs) n =
        by_bool (ltb (rank P s) (rank P r))
        (λ h. rw (h, n))
        (λ h. rw h (keep_next r (settle P s rs) rs (keep_settle s rs n)))

    -- a record leaves
    pub keep_remove : (k : List ℕ) (ds : List Rec) → p k ≡ false → keep (λ r. p (key r)) (remove P k ds) ≡ keep (λ r. p (key r)) ds
    unfolding remove keep
    keep_remove k [] n = refl
    keep_remove k (r ∷ rs) n =
        by_bool (same (key r) k)
        (λ h. rw (h, same_sound (key r) k h, n))
        (λ h. rw h (keep_next r (remove P k rs) rs (keep_remove k rs n)))

    -- a record is put in the place of another
    pub keep_replace : (k : List ℕ) (s : Rec) (ds : List Rec) → key s ≡ k → p k ≡ false → keep (λ r. p (key r)) (replace P k s ds) ≡ keep (λ r. p (key r)) ds
    unfolding replace keep
    keep_replace k s [] q n = refl
    keep_replace k s (r ∷ rs) q n =
        by_bool (same (key r) k)
        (λ h. rw (h, q, same_sound (key r) k h, n))
        (λ h. rw h (keep_next r (replace P k s rs) rs (keep_replace k s rs q n)))

  -- ---- what each record has

  module _ (Q : Rec → Type 0) where
    -- a record joins
    pub each_settle : (s : Rec) (ds : List Rec) → Q s → Each Q ds → Each Q (settle P s ds)
    unfolding Each settle
    each_settle s [] q e = (q, tt)
    each_settle s (r ∷ rs) q e = by_bool (ltb (rank P s) (rank P r)) (λ h. rw h (q, e)) (λ h. rw h (e.0, each_settle s rs q e.1))

    -- a record leaves
    pub each_remove : (k : List ℕ) (ds : List Rec) → Each Q ds → Each Q (remove P k ds)
    unfolding Each remove
    each_remove k [] e = tt
    each_remove k (r ∷ rs) e = by_bool (same (key r) k) (λ h. rw h e.1) (λ h. rw h (e.0, each_remove k rs e.1))

    -- a record is put in the place of another
    pub each_replace : (k : List ℕ) (s : Rec) (ds : List Rec) → Q s → Each Q ds → Each Q (replace P k s ds)
    unfolding Each replace
    each_replace k s [] q e = tt
    each_replace k s (r ∷ rs) q e = by_bool (same (key r) k) (λ h. rw h (q, e.1)) (λ h. rw h (e.0, each_replace k s rs q e.1))

    -- what is found has it
    pub each_find : (k : List ℕ) (ds : List Rec) → Each Q ds → Has P Q (find P k ds)
    unfolding Each find
    each_find k [] e = tt
    each_find k (r ∷ rs) e = by_bool (same (key r) k) (λ h. rw h e.0) (λ h. rw h (each_find k rs e.1))
