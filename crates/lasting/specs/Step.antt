-- What is made of one record, an old one or an inserted one, on the way to the result.
use Rattle.std.specs.Prelude.{ℕ, ◌+◌, ◌≤◌, ◌≡◌, Bool, List, [], ◌∷◌, Some}
use Rattle.rules.specs.Record.{Rec}
use Rattle.composing.specs.Made.{Untied, MadeOf}
use Rattle.lasting.specs.declared.Step.{Step}
use Rattle.lasting.specs.declared.Step.TheVariants.{Nothing, Loose, One}

-- the number of the refusal that the code answers, 0 where it is none
abbrev pub number_of : Step → ℕ
number_of Nothing = 0
number_of Loose = 11
number_of (One n) = 0

-- sure: it is known before that what the result's records name stands
module _ (d : List ℕ) (ds : ℕ) (u : List ℕ) (us : ℕ) (flags : List ℕ) (sure : Bool) where
  -- rs are what the rules make of it: none; or one, which names a record that does not stand; or one that is written from `to` on where there is room
  unfoldable pub Stepped : List Rec → ℕ → List ℕ → List ℕ → Step → Type 0
  Stepped rs to before out Nothing = (rs ≡ []) × (out ≡ before)
  Stepped rs to before out Loose = (r : Rec) × (rs ≡ r ∷ []) × Untied d ds u us flags sure (number_of Loose) r
  Stepped rs to before out (One n) = (r : Rec) × (rs ≡ r ∷ []) × MadeOf d ds u us flags sure r to before out (Some n) × (n ≤ to + 99999)
