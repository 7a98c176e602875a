-- A master answers with the first parcel that follows. Assumes nothing.
use mathlib.Core.Path.{◌≡◌, refl, sym, ap, ◌∙◌}
use mathlib.Core.Bool.{true, false}
use mathlib.Core.List.{List, [], ◌∷◌, ◌++◌}
use Prim.Native.Nat.{ℕ}
use native.Mathlib.Omega.{arith}
use lib.Dec.{eqb}
use Rattle.base.specs.Choice.{pick}
use Rattle.base.specs.Lists.{Each}
use Rattle.sequence.proofs.Tests.{by_bool}
use Rattle.parcels.specs.Parcel.{tells_holding}
use Rattle.parcels.specs.Holding.{follows}
use Rattle.parcels.specs.Shelf.{Placed, file_in, shelf_from, first_of, reply_from, reply}
use Rattle.parcels.specs.Master.{NoneFollows, First, Master}
use Rattle.parcels.specs.declared.Reply.{Reply}
use Rattle.parcels.specs.declared.Reply.TheVariants.{Refused, Silence, Parcel}

module _ (h s : List ℕ) (e : ℕ) where
  -- those that do not follow are passed over
  past : (xs ys : List Placed) → NoneFollows h s xs → first_of h s e (xs ++ ys) ≡ first_of h s e ys
  unfolding Each first_of
  past [] ys n = refl
  past (x ∷ xs) ys n = rw n.0 (past xs ys n.1)

  here : (x : Placed) (xs : List Placed) → follows h (file_in s x) ≡ true → first_of h s e (x ∷ xs) ≡ Parcel x.start x.whole
  unfolding first_of
  here x xs f = rw f

  all_past : (xs : List Placed) → NoneFollows h s xs → first_of h s e xs ≡ pick (eqb e 0) Silence Refused
  unfolding Each first_of
  all_past [] n = refl
  all_past (x ∷ xs) n = rw n.0 (all_past xs n.1)

  -- what is answered with is the first
  record Split (xs : List Placed) (x : Placed) : Type 0 where
    before : List Placed
    behind : List Placed
    stands : xs ≡ before ++ (x ∷ behind)
    none_before : NoneFollows h s before
    follows_it : follows h (file_in s x) ≡ true

  clash : (r : Reply) (p n : ℕ) → r ≡ Parcel p n → (r ≡ Silence → ⊥) × (r ≡ Refused → ⊥)
  clash r p n z = (λ y. let w : ◌≡◌ {A = ℕ} 0 1 = cc in omega arith, λ y. let w : ◌≡◌ {A = ℕ} 0 1 = cc in omega arith)

  split : (xs : List Placed) (p n : ℕ) → first_of h s e xs ≡ Parcel p n → Split xs (record { start = p; whole = n })
  unfolding Each first_of
  split [] p n z = by_bool (eqb e 0) (λ t. absurd ((clash _ p n z).0 (rw t))) (λ t. absurd ((clash _ p n z).1 (rw t)))
  split (x ∷ xs) p n z =
      by_bool (follows h (file_in s x))
      (λ t. let y : Parcel x.start x.whole ≡ Parcel p n = rw t at z in
      let a : x.start ≡ p = cc in
      let b : x.whole ≡ n = cc in
      let w : Split (x ∷ xs) x = record { before = []; behind = xs; stands = refl; none_before = tt; follows_it = t } in
      rw (← a, ← b) w)
      (λ t. let q = split xs p n (rw t at z) in
      record { before = x ∷ q.before; behind = q.behind; stands = ap (λ (l : List Placed). x ∷ l) q.stands; none_before = (t, q.none_before); follows_it = q.follows_it })

  -- silence means that none follows
  silent : (xs : List Placed) → first_of h s e xs ≡ Silence → NoneFollows h s xs
  unfolding Each first_of
  silent [] z = tt
  silent (x ∷ xs) z =
      by_bool (follows h (file_in s x))
      (λ t. absurd (let y : Parcel x.start x.whole ≡ Silence = rw t at z in let w : ◌≡◌ {A = ℕ} 0 1 = cc in omega arith))
      (λ t. (t, silent xs (rw t at z)))

module _ (h s : List ℕ) where
  right_is : tells_holding h ≡ true → reply h s ≡ first_of h s (shelf_from s 0).ending (shelf_from s 0).items
  unfolding reply reply_from
  right_is i = rw i

  wrong_is : tells_holding h ≡ false → reply h s ≡ Refused
  unfolding reply
  wrong_is i = rw i

  only : (p n : ℕ) → reply h s ≡ Parcel p n → First h s (record { start = p; whole = n })
  only p n z =
      by_bool (tells_holding h)
      (λ i. let q = split h s (shelf_from s 0).ending (shelf_from s 0).items p n (sym (right_is i) ∙ z) in
      record { before = q.before; behind = q.behind; stands = q.stands; none_before = q.none_before; follows_it = q.follows_it })
      (λ i. absurd (let y : Refused ≡ Parcel p n = sym (wrong_is i) ∙ z in let w : ◌≡◌ {A = ℕ} 0 1 = cc in omega arith))

  pub master : Master h s
  master =
      record {
        wrong_holding = wrong_is;
        first = λ i x f. right_is i ∙ ap (first_of h s (shelf_from s 0).ending) f.stands
            ∙ past h s (shelf_from s 0).ending f.before (x ∷ f.behind) f.none_before ∙ here h s (shelf_from s 0).ending x f.behind f.follows_it;
        only = only;
        silence = λ i e. (
          λ z. silent h s (shelf_from s 0).ending (shelf_from s 0).items (sym (right_is i) ∙ z),
          λ n. right_is i ∙ all_past h s (shelf_from s 0).ending (shelf_from s 0).items n ∙ rw e,
        );
        wrong_shelf = λ e n. by_bool (tells_holding h)
            (λ i. right_is i ∙ all_past h s (shelf_from s 0).ending (shelf_from s 0).items n ∙ rw e)
            wrong_is;
      }
