-- Laws of lists of anything. Assumes nothing.
use mathlib.Core.Path.{◌≡◌, sym, ap, ◌∙◌}
use mathlib.Core.List.{List, [], ◌∷◌, ◌++◌, append_assoc, append-nil}
use Prim.Native.Nat.{ℕ, ◌+◌}
use lib.ListN.{take, drop}
use lib.Seq.{drop-drop, take-add}
use Rattle.base.specs.Lists.{gather}

-- the first of the things behind j things
pub one_taken : {X : Type 0} (xs ys : List X) (x : X) (j : ℕ) → drop j xs ≡ x ∷ ys → (take (j + 1) xs ≡ take j xs ++ (x ∷ [])) × (drop (j + 1) xs ≡ ys)
one_taken xs ys x j e = (take-add j 1 xs ∙ ap (λ l. take j xs ++ take 1 l) e, sym (drop-drop 1 j xs) ∙ ap (drop 1) e)

-- the lists that f makes, the last at the end
pub gather_last : {X Y : Type 0} (f : X → List Y) (xs : List X) (x : X) → gather f (xs ++ (x ∷ [])) ≡ gather f xs ++ f x
unfolding gather
gather_last f [] x = append-nil (f x)
gather_last f (y ∷ ys) x = ap (λ zs. f y ++ zs) (gather_last f ys x) ∙ sym (append_assoc (f y) (gather f ys) (f x))
