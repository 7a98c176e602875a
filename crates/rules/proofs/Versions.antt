-- The version of a record after the update's records is what those that name it make of it, where each key stands once. Assumes nothing.
use mathlib.Core.Path.{◌≡◌, refl, sym, ap, ◌∙◌}
use mathlib.Core.List.{List, [], ◌∷◌}
use mathlib.Core.Option.{Option, some, none}
use mathlib.Core.Bool.{Bool, true, false}
use Prim.Native.Nat.{ℕ, ◌+◌}
use native.Mathlib.Omega.{arith}
use lib.Dec.{ltb}
use Rattle.base.specs.Choice.{pick}
use Rattle.base.specs.Check.{Check, ok, no, bind}
use Rattle.base.specs.Keys.{same}
use Rattle.base.proofs.CheckLaws.{bind_inv, ok_inj}
use Rattle.base.proofs.KeysLaws.{same_sound, same_refl, same_sym}
use Rattle.skeleton.specs.File.{Field}
use Rattle.rules.specs.ByTag.{first_tag}
use Rattle.rules.specs.Kind.{kind_of, rank}
use Rattle.rules.specs.Grammar.{on_kind}
use Rattle.rules.specs.Record.{Rec, key_named, key_of}
use Rattle.rules.specs.Outcome.{done, at}
use Rattle.rules.specs.Change.{change}
use Rattle.rules.specs.Update.{find, settle, replace, remove, store, step_as, step, steps}
use Rattle.rules.specs.Versions.{version, Once, o_none, o_more}
use Rattle.rules.specs.declared.Kind.{Kind}
use Rattle.rules.proofs.OutcomeLaws.{and_then_inv, at_inv, done_inj}
use Rattle.rules.proofs.Locality.{Names, Makes, change_makes, find_names, find_settle, find_replace, find_store}

-- ---- what is found under the key that a step names

-- not found: not the first, and not among the rest
not_first : (k : List ℕ) (x : Rec) (xs : List Rec) → find k (x ∷ xs) ≡ none → (same (key_of x) k ≡ false) × (find k xs ≡ none)
unfolding find
not_first k x xs e = go (same (key_of x) k) e
  where
    go : (t : Bool) → pick t (some x) (find k xs) ≡ none → (t ≡ false) × (find k xs ≡ none)
    go true h = absurd (let z : ◌≡◌ {A = ℕ} 0 1 = cc in omega arith)
    go false h = (refl, h)

-- a record that has joined is found
pub found_settled : (k : List ℕ) (r : Rec) (rs : List Rec) → key_of r ≡ k → find k rs ≡ none → find k (settle r rs) ≡ some r
unfolding settle find
found_settled k r [] e h = rw (e, same_refl k)
found_settled k r (x ∷ xs) e h =
    let n = not_first k x xs h in
    go (ltb (rank r.kind) (rank x.kind)) n.0 (found_settled k r xs e n.1)
  where
    go : (t : Bool) → same (key_of x) k ≡ false → find k (settle r xs) ≡ some r → find k (pick t (r ∷ x ∷ xs) (x ∷ settle r xs)) ≡ some r
    go true s ih = rw (e, same_refl k)
    go false s ih = rw s ih

-- a record that was replaced is found as it became
pub found_replaced : (k : List ℕ) (r old : Rec) (rs : List Rec) → key_of r ≡ k → find k rs ≡ some old → find k (replace k r rs) ≡ some r
unfolding replace find
found_replaced k r old [] e h = absurd (let z : ◌≡◌ {A = ℕ} 0 1 = cc in omega arith)
found_replaced k r old (x ∷ xs) e h = go (same (key_of x) k) refl h (λ g. found_replaced k r old xs e g)
  where
    go : (t : Bool) → same (key_of x) k ≡ t → pick t (some x) (find k xs) ≡ some old → (find k xs ≡ some old → find k (replace k r xs) ≡ some r)
        → find k (pick t (r ∷ xs) (x ∷ replace k r xs)) ≡ some r
    go true s g ih = rw (e, same_refl k)
    go false s g ih = rw s (ih g)

-- a record that has left is not found
pub gone_removed : (k : List ℕ) (rs : List Rec) → Once rs → find k (remove k rs) ≡ none
unfolding remove find
gone_removed k [] o_none = refl
gone_removed k (x ∷ xs) (o_more f o) = go (same (key_of x) k) refl (gone_removed k xs o)
  where
    go : (t : Bool) → same (key_of x) k ≡ t → find k (remove k xs) ≡ none → find k (pick t xs (x ∷ remove k xs)) ≡ none
    go true s ih = ap (λ (q : List ℕ). find q xs) (sym (same_sound (key_of x) k s)) ∙ f
    go false s ih = rw s ih

-- what is stored under the key is what came out
pub found_stored : (k : List ℕ) (new : Option Rec) (rs : List Rec) → Once rs → Names k new → find k (store k (find k rs) new rs) ≡ new
found_stored k new rs o m = go (find k rs) refl new m
  where
    go : (old : Option Rec) → find k rs ≡ old → (new : Option Rec) → Names k new → find k (store k old new rs) ≡ new
    go none e none m = unfold store in e
    go none e (some n) m = unfold store in found_settled k n rs m e
    go (some x) e none m = unfold store in gone_removed k rs o
    go (some x) e (some n) m = unfold store in found_replaced k n x rs m e

-- ---- a step

-- a step is refused exactly as `change` is, or leaves under key k what `change` gives
abbrev pub Version : List ℕ → Check (Option Rec) → Check (List Rec) → Type 0
Version k (ok new) (ok rs) = find k rs ≡ new
Version k (ok new) (no x) = ⊥
Version k (no x) (ok rs) = ⊥
Version k (no x) (no y) = x ≡ y

-- of the version that stands
pub step_version : (k : Kind) (fs : List Field) (rs : List Rec) → Once rs
    → Version (key_named k fs) (change k fs (find (key_named k fs) rs)) (step_as k fs rs)
unfolding step_as bind Makes
step_version k fs rs o = go (change k fs (find (key_named k fs) rs)) (change_makes k fs (find (key_named k fs) rs) (find_names (key_named k fs) rs))
  where
    go : (c : Check (Option Rec)) → Makes (key_named k fs) c
        → Version (key_named k fs) c (bind c (λ new. ok (store (key_named k fs) (find (key_named k fs) rs) new rs)))
    go (ok new) m = found_stored (key_named k fs) new rs o m
    go (no x) m = refl

-- ---- and each key still stands once

-- a record with another key is passed over
skip_found : (k q : List ℕ) (x : Rec) (xs : List Rec) → find q xs ≡ none → same (key_of x) q ≡ false → find q (x ∷ xs) ≡ none
unfolding find
skip_found k q x xs h s = rw s h

-- a record joins
once_settle : (r : Rec) (rs : List Rec) → find (key_of r) rs ≡ none → Once rs → Once (settle r rs)
unfolding settle
once_settle r [] h o_none = o_more h o_none
once_settle r (x ∷ xs) h (o_more f o) =
    let n = not_first (key_of r) x xs h in
    go (ltb (rank r.kind) (rank x.kind)) (find_settle (key_of r) (key_of x) (same_sym (key_of x) (key_of r) n.0) r xs refl) (once_settle r xs n.1 o)
  where
    go : (t : Bool) → find (key_of x) (settle r xs) ≡ find (key_of x) xs → Once (settle r xs) → Once (pick t (r ∷ x ∷ xs) (x ∷ settle r xs))
    go true e ih = o_more h (o_more f o)
    go false e ih = o_more (e ∙ f) ih

-- what is not found is not found after a record has left
not_gained : (k q : List ℕ) (xs : List Rec) → find q xs ≡ none → find q (remove k xs) ≡ none
unfolding remove
not_gained k q [] h = h
not_gained k q (x ∷ xs) h = let n = not_first q x xs h in go (same (key_of x) k) n.0 n.1 (not_gained k q xs n.1)
  where
    go : (t : Bool) → same (key_of x) q ≡ false → find q xs ≡ none → find q (remove k xs) ≡ none → find q (pick t xs (x ∷ remove k xs)) ≡ none
    go true s e ih = e
    go false s e ih = skip_found k q x (remove k xs) ih s

-- a record leaves
once_remove : (k : List ℕ) (rs : List Rec) → Once rs → Once (remove k rs)
unfolding remove
once_remove k [] o_none = o_none
once_remove k (x ∷ xs) (o_more f o) = go (same (key_of x) k) (not_gained k (key_of x) xs f) (once_remove k xs o)
  where
    go : (t : Bool) → find (key_of x) (remove k xs) ≡ none → Once (remove k xs) → Once (pick t xs (x ∷ remove k xs))
    go true e ih = o
    go false e ih = o_more e ih

-- a record is replaced
once_replace : (k : List ℕ) (r : Rec) (rs : List Rec) → key_of r ≡ k → Once rs → Once (replace k r rs)
unfolding replace
once_replace k r [] e o_none = o_none
once_replace k r (x ∷ xs) e (o_more f o) = go (same (key_of x) k) refl (once_replace k r xs e o)
  where
    go : (t : Bool) → same (key_of x) k ≡ t → Once (replace k r xs) → Once (pick t (r ∷ xs) (x ∷ replace k r xs))
    go true s ih = o_more (ap (λ (q : List ℕ). find q xs) (e ∙ sym (same_sound (key_of x) k s)) ∙ f) o
    go false s ih = o_more (find_replace k (key_of x) (same_sym (key_of x) k s) r xs e ∙ f) ih

-- any of them
pub once_store : (k : List ℕ) (new : Option Rec) (rs : List Rec) → Names k new → Once rs → Once (store k (find k rs) new rs)
once_store k new rs m o = go (find k rs) refl new m
  where
    go : (old : Option Rec) → find k rs ≡ old → (new : Option Rec) → Names k new → Once (store k old new rs)
    go none e none m = unfold store in o
    go none e (some n) m = unfold store in once_settle n rs (ap (λ (q : List ℕ). find q rs) m ∙ e) o
    go (some x) e none m = unfold store in once_remove k rs o
    go (some x) e (some n) m = unfold store in once_replace k n rs m o

-- ---- the version of a record after the update's records: what those that name it make of it, one after the other

-- what came out has the key
made : (k : List ℕ) (c : Check (Option Rec)) (o : Option Rec) → c ≡ ok o → Makes k c → Names k o
unfolding Makes
made k (ok o') o e m = let z : o' ≡ o = cc in rw (sym z) m
made k (no x) o e m = absurd (let z : ◌≡◌ {A = ℕ} 0 1 = cc in omega arith)

module _ (q : List ℕ) (fs : List Field) (rest : List (List Field)) (rs rs1 : List Rec) (o : Once rs)
    (r : Check (Option Rec)) (ih : Once rs1 → version q rest (find q rs1) ≡ r) where
  -- one update record of a kind
  one : (k : Kind) → step_as k fs rs ≡ ok rs1
      → pick (same (key_named k fs) q) (bind (change k fs (find q rs)) (λ v'. version q rest v')) (version q rest (find q rs)) ≡ r
  unfolding step_as bind
  one k h =
      let key = key_named k fs in
      let b = bind_inv (change k fs (find key rs)) (λ new. ok (store key (find key rs) new rs)) rs1 h in
      let z : store key (find key rs) b.0 rs ≡ rs1 = ok_inj _ _ b.2 in
      let m : Names key b.0 = made key (change k fs (find key rs)) b.0 b.1 (change_makes k fs (find key rs) (find_names key rs)) in
      let o1 : Once rs1 = rw (sym z) (once_store key b.0 rs m o) in
      go (same key q) refl b.0 b.1 z m (ih o1)
    where
      go : (t : Bool) → same (key_named k fs) q ≡ t → (new : Option Rec) → change k fs (find (key_named k fs) rs) ≡ ok new
          → store (key_named k fs) (find (key_named k fs) rs) new rs ≡ rs1 → Names (key_named k fs) new → version q rest (find q rs1) ≡ r
          → pick t (bind (change k fs (find q rs)) (λ v'. version q rest v')) (version q rest (find q rs)) ≡ r
      go true s new c z m i =
          let p = same_sound (key_named k fs) q s in
          let f : find q rs1 ≡ new = ap (λ (w : List ℕ). find w rs1) (sym p) ∙ ap (find (key_named k fs)) (sym z) ∙ found_stored (key_named k fs) new rs o m in
          ap (λ (w : List ℕ). bind (change k fs (find w rs)) (λ v'. version q rest v')) (sym p)
          ∙ ap (λ (w : Check (Option Rec)). bind w (λ v'. version q rest v')) c ∙ ap (version q rest) (sym f) ∙ i
      go false s new c z m i =
          let f : find q rs1 ≡ find q rs = ap (find q) (sym z) ∙ find_store (key_named k fs) q s (find (key_named k fs) rs) new rs m in
          ap (version q rest) (sym f) ∙ i
      -- one update record

  by_kind : step fs rs ≡ ok rs1 → version q (fs ∷ rest) (find q rs) ≡ r
  unfolding step version
  by_kind h = go (kind_of (first_tag fs)) h
    where
      go : (m : Option Kind) → on_kind m (λ k. step_as k fs rs) ≡ ok rs1
          → on_kind m (λ k. pick (same (key_named k fs) q) (bind (change k fs (find q rs)) (λ v'. version q rest v')) (version q rest (find q rs))) ≡ r
      go none e = absurd (let z : ◌≡◌ {A = ℕ} 0 1 = cc in omega arith)
      go (some k) e = one k e

-- the record found after the update's records is its version after them
pub version_after : (q : List ℕ) (n : ℕ) (fss : List (List Field)) (rs rs' : List Rec) → Once rs → steps n fss rs ≡ done rs'
    → version q fss (find q rs) ≡ ok (find q rs')
unfolding steps version
version_after q n [] rs rs' o e = ap (λ (w : List Rec). ok (find q w)) (done_inj rs rs' e)
version_after q n (fs ∷ rest) rs rs' o e =
    let a = and_then_inv (at 2 n (step fs rs)) _ rs' e in
    by_kind q fs rest rs a.0 o (ok (find q rs')) (λ o1. version_after q (n + 1) rest a.0 rs' o1 a.2) (at_inv 2 n (step fs rs) a.0 a.1)
