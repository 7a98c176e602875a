-- The records of a dataset name records that it has. Assumes nothing.
use Prim.Native.Nat.{ℕ}
use mathlib.Core.Path.{◌≡◌, subst}
use mathlib.Core.List.{List, ◌∷◌}
use Rattle.base.specs.Lists.{gather, Each}
use Rattle.base.proofs.EachLaws.{each_dropped}
use Rattle.skeleton.specs.File.{Field, records_from}
use Rattle.rules.specs.Associations.{field_keys}
use Rattle.keys.specs.Look.{Sound}
use Rattle.keys.specs.Places.{Leads, here, over}
use Rattle.keys.proofs.PlaceLaws.{follows}
use Rattle.composing.specs.Tied.{TiedIn, TiedFrom}

-- those further on do so too
pub tied_on : (d : List ℕ) (ds : ℕ) {p r : ℕ} → Leads d p r → Sound d p → TiedFrom d ds p → TiedFrom d ds r
unfolding TiedFrom
tied_on d ds here s t = t
tied_on d ds {p} (over {len} {key} e l) s t =
    let f = follows d p len key s e in
    tied_on d ds l f.sound
    (subst (Each (λ (fs : List Field). TiedIn d ds (gather field_keys fs))) f.found.later
    (each_dropped (λ (fs : List Field). TiedIn d ds (gather field_keys fs)) 1 (records_from d p).items t))

-- and the first of them
pub tied_first : (d : List ℕ) (ds p : ℕ) (fs : List Field) (later : List (List Field)) → (records_from d p).items ≡ fs ∷ later → TiedFrom d ds p → TiedIn d ds (gather field_keys fs)
unfolding TiedFrom Each
tied_first d ds p fs later e t =
    let y : Each (λ (fs : List Field). TiedIn d ds (gather field_keys fs)) (fs ∷ later) = subst (Each (λ (fs : List Field). TiedIn d ds (gather field_keys fs))) e t in
    y.0
