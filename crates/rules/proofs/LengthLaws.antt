-- The length of a record and of a list as they are written. Assumes nothing.
use Prim.Native.Nat.{ℕ, ◌≤◌}
use mathlib.Core.Path.{◌≡◌, refl}
use mathlib.Core.Bool.{Bool, true, false}
use mathlib.Core.List.{List, [], ◌∷◌}
use native.Mathlib.Omega.{arith}
use borrow.Author.Tests.{ltb-false}
use lib.ListN.{length}
use lib.Dec.{ltb}
use Rattle.base.specs.Choice.{pick}
use Rattle.base.specs.Check.{ok, no, fault, pass}
use Rattle.base.proofs.CheckLaws.{refused}
use Rattle.skeleton.specs.File.{Field}
use Rattle.skeleton.specs.Emit.{sizes}
use Rattle.rules.specs.Written.{list_field, written_length, number12}

-- a record that passed 12
pub short_record : (fs : List Field) {t : Unit {0}} → number12 fs ≡ ok t → written_length fs ≤ 99999
unfolding number12
short_record fs {t} e = go (ltb 99999 (written_length fs)) refl e
  where
    go : (b : Bool) → ltb 99999 (written_length fs) ≡ b → pick b (no (fault 12 0 0)) pass ≡ ok t → written_length fs ≤ 99999
    go true h x = refused x
    go false h x = ltb-false 99999 (written_length fs) h

-- a list is as long as its bytes, if not longer
pub list_size_lem : (t : ℕ) (b : List ℕ) → length b ≤ sizes (list_field t b)
unfolding list_field sizes
list_size_lem t [] = omega arith
list_size_lem t (x ∷ b) = omega arith
