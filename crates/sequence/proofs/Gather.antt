-- Lists that are gathered, one after the other. Assumes nothing.
use mathlib.Core.Path.{◌≡◌, refl, sym, ap, ◌∙◌}
use mathlib.Core.List.{List, [], ◌∷◌, ◌++◌, append_assoc}
use Rattle.base.specs.Lists.{gather}

-- one list after the other
pub gather_append : {A B : Type 0} (f : A → List B) (a b : List A) → gather f (a ++ b) ≡ gather f a ++ gather f b
unfolding gather
gather_append f [] b = refl
gather_append f (x ∷ a) b = rw (gather_append f a b) (sym (append_assoc (f x) (gather f a) (gather f b)))

-- lists of lists of lists
pub gather_gather : {A B C : Type 0} (g : B → List C) (f : A → List B) (l : List A) → gather g (gather f l) ≡ gather (λ x. gather g (f x)) l
unfolding gather
gather_gather g f [] = refl
gather_gather g f (x ∷ l) = gather_append g (f x) (gather f l) ∙ ap (λ m. gather g (f x) ++ m) (gather_gather g f l)
