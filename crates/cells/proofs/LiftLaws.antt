-- Joining and leaving by keys that are alike, and what things made of bodies do where the bodies do it. Assumes nothing.
use Prim.Native.Nat.{ℕ}
use mathlib.Core.Path.{◌≡◌, refl, sym, ap}
use mathlib.Core.Bool.{Bool, true, false}
use mathlib.Core.List.{List, [], ◌∷◌, ◌++◌}
use Rattle.std.specs.Prelude.{Result}
use Rattle.base.specs.Choice.{pick}
use Rattle.base.specs.Check.{Check, ok, no, bind, refuse}
use Rattle.base.specs.declared.Fault.{Fault}
use Rattle.base.specs.Keys.{same, among, join, leave}
use Rattle.base.specs.Lists.{each, Each}
use Rattle.base.proofs.ListLaws.{each_append, each_each}
use Rattle.base.proofs.KeysLaws.{joined_each, left_each}
use Rattle.cells.specs.Acts.{act_on, Acts}

-- ---- keys that are alike

module _ (key other : List ℕ → List ℕ) (j : ℕ) where
  -- two keys of a body are the same
  abbrev Alike : List ℕ → Type 0
  Alike b = key b ≡ other b

  each_key : (bs : List (List ℕ)) → Each Alike bs → each key bs ≡ each other bs
  unfolding each Each
  each_key [] p = refl
  each_key (b ∷ bs) p = rw (p.0, each_key bs p.1)

  join_key : (b : List ℕ) (bs : List (List ℕ)) → Alike b → Each Alike bs → join key j b bs ≡ join other j b bs
  unfolding join
  join_key b bs e p = rw (e, each_key bs p)

  leave_key : (k : List ℕ) (bs : List (List ℕ)) → Each Alike bs → leave key j k bs ≡ leave other j k bs
  unfolding leave Each
  leave_key k [] p = refl
  leave_key k (b ∷ bs) p = rw (p.0, leave_key k bs p.1)

  -- what the code answers by one key it answers by the other
  module _ (b : List ℕ) (bs : List (List ℕ)) (e : Alike b) (p : Each Alike bs) (d u c : List ℕ) (most : ℕ) (r : Result ℕ Fault) (t : Bool) where
    pub joins_by : t ≡ true → Acts (join key j b bs) d u c most r → Acts (act_on other t j b bs) d u c most r
    unfolding act_on
    joins_by x a = rw x (rw (join_key b bs e p) at a)

    pub leaves_by : t ≡ false → Acts (leave key j (key b) bs) d u c most r → Acts (act_on other t j b bs) d u c most r
    unfolding act_on
    leaves_by x a = rw x (rw (leave_key (key b) bs p, e) at a)

-- ---- things made of bodies

module _ {A : Type 0} (f : List ℕ → A) (key : A → List ℕ) (j : ℕ) where
  -- what f makes of each, where there is a result
  abbrev made : Check (List (List ℕ)) → Check (List A)
  made x = bind x (λ ys. ok (each f ys))

  join_each : (b : List ℕ) (bs : List (List ℕ)) → join key j (f b) (each f bs) ≡ made (join (λ (x : List ℕ). key (f x)) j b bs)
  unfolding join bind each
  join_each b bs = rw (each_each key f bs) (go (among (key (f b)) (each (λ (x : List ℕ). key (f x)) bs)))
    where
      go : (t : Bool) → pick t (refuse 7 j) (ok (each f bs ++ (f b ∷ []))) ≡ made (pick t (refuse 7 j) (ok (bs ++ (b ∷ []))))
      go true = refl
      go false = ap ok (sym (each_append f bs (b ∷ [])))

  leave_each : (k : List ℕ) (bs : List (List ℕ)) → leave key j k (each f bs) ≡ made (leave (λ (x : List ℕ). key (f x)) j k bs)
  unfolding leave bind each
  leave_each k [] = refl
  leave_each k (b ∷ bs) = go (same (key (f b)) k) (leave key j k (each f bs)) (leave (λ (x : List ℕ). key (f x)) j k bs) (leave_each k bs)
    where
      later : (x : Check (List A)) (y : Check (List (List ℕ))) → x ≡ made y → bind x (λ ys. ok (f b ∷ ys)) ≡ made (bind y (λ ys. ok (b ∷ ys)))
      later x (ok ys) e = rw e
      later x (no z) e = rw e

      go : (t : Bool) (x : Check (List A)) (y : Check (List (List ℕ))) → x ≡ made y
          → pick t (ok (each f bs)) (bind x (λ ys. ok (f b ∷ ys))) ≡ made (pick t (ok bs) (bind y (λ ys. ok (b ∷ ys))))
      go true x y e = refl
      go false x y e = later x y e

  -- both, as a field does it
  pub act_each : (t : Bool) (b : List ℕ) (bs : List (List ℕ))
      → pick t (join key j (f b) (each f bs)) (leave key j (key (f b)) (each f bs)) ≡ made (act_on (λ (x : List ℕ). key (f x)) t j b bs)
  unfolding act_on
  act_each true b bs = join_each b bs
  act_each false b bs = leave_each (key (f b)) bs

-- ---- what holds of each body, and of one that joins, holds of each afterwards

module _ (P : List ℕ → Type 0) (key : List ℕ → List ℕ) (j : ℕ) where
  pub acted_every : (inserted : Bool) (b : List ℕ) (bs cs : List (List ℕ)) → Each P bs → (inserted ≡ true → P b) → act_on key inserted j b bs ≡ ok cs → Each P cs
  unfolding act_on
  acted_every true b bs cs q p e = joined_each P key j b bs cs (p refl) q e
  acted_every false b bs cs q p e = left_each P key j (key b) bs cs q e
