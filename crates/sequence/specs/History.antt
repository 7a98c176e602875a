-- One key by itself: its history, and the verdict on an update record by that history alone.
use Rattle.std.specs.Prelude.{ℕ, ◌+◌, ◌≡◌, List, [], ◌∷◌, ◌++◌, length}
use Rattle.std.proofs.Math.Option.{Option}
use Rattle.base.specs.Choice.{pick}
use Rattle.base.specs.Check.{Check, ok, no, bind}
use Rattle.base.specs.Keys.{same}
use Rattle.base.specs.declared.Fault.{Fault}
use Rattle.sequence.specs.Keyed.{Parts, Ran, done, stop, go_on, find}

module _ (P : Parts) where
  open P use {Rec, Upd, names, change}

  -- what the update records us make of what stands under key k: those that name it, one after the other
  unfoldable pub history : List ℕ → List Upd → Option Rec → Check (Option Rec)
  history k [] o = ok o
  history k (u ∷ us) o = pick (same (names u) k) (bind (change u o) (λ p. history k us p)) (history k us o)

  -- what stands under key k after the update records us
  unfoldable pub version : List Rec → List Upd → List ℕ → Check (Option Rec)
  version ds us k = history k us (find P k ds)

  -- the verdict on u after the update records pre, by the history of its own key
  unfoldable pub due : List Rec → List Upd → Upd → Check (Option Rec)
  due ds pre u = bind (version ds pre (names u)) (λ o. change u o)

  -- the verdicts on us, after pre, in order up to the first refusal; the first of us has number j
  unfoldable pub judged : ℕ → List Rec → List Upd → List Upd → Ran (Unit {0})
  judged j ds pre [] = done tt
  judged j ds pre (u ∷ us) = go_on j (due ds pre u) (λ o. judged (j + 1) ds (pre ++ (u ∷ [])) us)

  -- no update record is refused
  unfoldable pub Fine : List Rec → List Upd → Type 0
  Fine ds us = (pre : List Upd) (u : Upd) (post : List Upd) → us ≡ pre ++ (u ∷ post) → (o : Option Rec) × (due ds pre u ≡ ok o)

  -- the first refusal, with fault x, is at update record j, where the first of us has number i
  pub record First (i : ℕ) (ds : List Rec) (us : List Upd) (j : ℕ) (x : Fault) : Type 0 where
    pub pre : List Upd
    pub at : Upd
    pub post : List Upd
    pub split : us ≡ pre ++ (at ∷ post)
    pub number : j ≡ i + length pre
    pub refusal : due ds pre at ≡ no x
    pub before : Fine ds pre

-- how a run ended, without its result
unfoldable pub verdict : {A : Type 0} → Ran A → Ran (Unit {0})
verdict (done d) = done tt
verdict (stop j x) = stop j x
