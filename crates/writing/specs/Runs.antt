-- How far a list goes on in the fields behind it.
use Rattle.std.specs.Prelude.{ℕ, Bool, List, [], ◌∷◌, ◌++◌, length, eqb}
use Rattle.base.specs.Choice.{pick, both, either}
use Rattle.skeleton.specs.File.{Field}
use Rattle.writing.specs.House.{is_list}

-- a field of this tag and of n bytes is an empty list
unfoldable pub empty_list : Bool → ℕ → ℕ → Bool
empty_list joins t n = both (is_list joins t) (eqb n 0)

-- a list of tag t goes on over a field of tag u and of n bytes: its tag is the same, or it is not written
unfoldable pub goes_on : Bool → ℕ → ℕ → ℕ → Bool
goes_on joins t u n = either (eqb t u) (empty_list joins u n)

-- the bodies over which a list of tag t goes on, one after the other
unfoldable pub run_body : Bool → ℕ → List Field → List ℕ
run_body joins t [] = []
run_body joins t (f ∷ fs) = let later = f.body ++ run_body joins t fs in pick (goes_on joins t f.tag (length f.body)) later []

-- the fields behind them
unfoldable pub run_rest : Bool → ℕ → List Field → List Field
run_rest joins t [] = []
run_rest joins t (f ∷ fs) = let later = run_rest joins t fs in pick (goes_on joins t f.tag (length f.body)) later (f ∷ fs)

-- the same for a field of any tag: one that is no list does not go on
unfoldable pub more_body : Bool → ℕ → List Field → List ℕ
more_body joins t fs = let run = run_body joins t fs in pick (is_list joins t) run []

-- the fields behind it
unfoldable pub more_rest : Bool → ℕ → List Field → List Field
more_rest joins t fs = let run = run_rest joins t fs in pick (is_list joins t) run fs
