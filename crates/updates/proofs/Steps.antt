-- The rules' steps are the run. Assumes nothing.
use Prim.Native.Nat.{ℕ, ◌+◌, ◌≤◌, ◌<◌}
use mathlib.Core.Path.{◌≡◌, refl, ap, fun_ext}
use mathlib.Core.Option.{Option, some, none}
use mathlib.Core.List.{List, [], ◌∷◌}
use native.Mathlib.Omega.{arith}
use Rattle.base.specs.Check.{Check, ok, no, bind}
use Rattle.skeleton.specs.File.{Field}
use Rattle.rules.specs.Kind.{rcnm, rank}
use Rattle.rules.specs.Grammar.{on_kind}
use Rattle.rules.specs.Record.{Rec, key_named, key_of}
use Rattle.rules.specs.Outcome.{Outcome, and_then, at}
use Rattle.rules.specs.Change.{change}
use Rattle.rules.specs.Update.{find, settle, replace, remove, store, step_as, step, steps}
use Rattle.rules.specs.declared.Kind.{Kind}
use Rattle.rules.specs.declared.Kind.TheVariants.{Info, Point, Multi, Feature}
use Rattle.sequence.specs.Keyed.{go_on}
use Rattle.sequence.specs.Keyed as run
use Rattle.updates.specs.Acts.{kind_in, place_of, named_by, changed_by, chart, in_update}

-- ---- the records, with one of them changed

-- the place of a record's key is that of its kind
pub placed : (r : Rec) → place_of (key_of r) ≡ rank r.kind
unfolding place_of key_of
placed r = go r.kind
  where
    go : (k : Kind) → place_of (rcnm k ∷ r.rcid ∷ []) ≡ rank k
    go Info = unfold place_of rcnm rank in refl
    go Point = unfold place_of rcnm rank in refl
    go Multi = unfold place_of rcnm rank in refl
    go Feature = unfold place_of rcnm rank in refl

-- the latest version
pub find_same : (k : List ℕ) (rs : List Rec) → find k rs ≡ run.find chart k rs
unfolding find run.find
find_same k [] = refl
find_same k (r ∷ rs) = rw (find_same k rs)

-- a new record
settle_same : (s : Rec) (rs : List Rec) → settle s rs ≡ run.settle chart s rs
unfolding settle run.settle
settle_same s [] = refl
settle_same s (r ∷ rs) = rw (placed s, placed r, settle_same s rs)

-- a changed record
replace_same : (k : List ℕ) (s : Rec) (rs : List Rec) → replace k s rs ≡ run.replace chart k s rs
unfolding replace run.replace
replace_same k s [] = refl
replace_same k s (r ∷ rs) = rw (replace_same k s rs)

-- a deleted record
remove_same : (k : List ℕ) (rs : List Rec) → remove k rs ≡ run.remove chart k rs
unfolding remove run.remove
remove_same k [] = refl
remove_same k (r ∷ rs) = rw (remove_same k rs)

-- any of them
store_same : (k : List ℕ) (o p : Option Rec) (rs : List Rec) → store k o p rs ≡ run.store chart k o p rs
unfolding store run.store
store_same k none none rs = refl
store_same k none (some s) rs = settle_same s rs
store_same k (some r) none rs = remove_same k rs
store_same k (some r) (some s) rs = replace_same k s rs

-- ---- the run

-- one update record
step_same : (fs : List Field) (rs : List Rec) → step fs rs ≡ run.step chart rs fs
unfolding step run.step
step_same fs rs = go (kind_in fs)
  where
    go : (m : Option Kind) → on_kind m (λ k. step_as k fs rs)
        ≡ bind (changed_by m fs (run.find chart (named_by m fs) rs)) (λ new. ok (run.store chart (named_by m fs) (run.find chart (named_by m fs) rs) new rs))
    go none = unfold changed_by bind in refl
    go (some k) =
        unfold changed_by named_by step_as in
        rw (← find_same (key_named k fs) rs)
        (ap (λ (c : Option Rec → Check (List Rec)). bind (change k fs (find (key_named k fs) rs)) c)
        (fun_ext (λ new. ap ok (store_same (key_named k fs) (find (key_named k fs) rs) new rs))))

-- one update record and then the rest
on_step : (n : ℕ) (c : Check (List Rec)) (k : List Rec → Outcome (List Rec)) (l : List Rec → run.Ran (List Rec)) → ((rs : List Rec) → k rs ≡ in_update (l rs))
    → and_then (at 2 n c) k ≡ in_update (go_on n c l)
unfolding and_then at in_update go_on
on_step n (ok rs) k l e = e rs
on_step n (no x) k l e = refl

-- all of them
pub steps_run : (n : ℕ) (us : List (List Field)) (rs : List Rec) → steps n us rs ≡ in_update (run.run chart n rs us)
unfolding steps run.run
steps_run n [] rs = unfold in_update in refl
steps_run n (fs ∷ us) rs = rw (step_same fs rs) (on_step n (run.step chart rs fs) _ _ (λ d. steps_run (n + 1) us d))

-- ---- kinds

-- the places of the kinds are 1 to 4
pub low : (r : Rec) → 1 ≤ run.rank chart r
low r = rw (placed r) (go r.kind)
  where
    go : (k : Kind) → 1 ≤ rank k
    go Info = unfold rank in omega arith
    go Point = unfold rank in omega arith
    go Multi = unfold rank in omega arith
    go Feature = unfold rank in omega arith

-- and no more
pub high : (r : Rec) → run.rank chart r < 1 + 4
high r = rw (placed r) (go r.kind)
  where
    go : (k : Kind) → rank k < 1 + 4
    go Info = unfold rank in omega arith
    go Point = unfold rank in omega arith
    go Multi = unfold rank in omega arith
    go Feature = unfold rank in omega arith
