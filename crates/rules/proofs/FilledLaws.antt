-- A field that stands is filled by the subfields of its format. Assumes nothing.
use mathlib.Core.Path.{◌≡◌, refl}
use mathlib.Core.Bool.{Bool, true, not}
use mathlib.Core.List.{List}
use Prim.Native.Nat.{ℕ}
use native.Mathlib.Omega.{arith}
use Rattle.std.specs.Prelude.{Result, Ok, Err}
use Rattle.base.specs.Check.{ok}
use Rattle.base.specs.Lists.{empty}
use Rattle.fields.specs.Table.{head_of, tuple_of}
use Rattle.fields.specs.Content.{tally_field, fill}
use Rattle.fields.specs.declared.Format.{Format}
use Rattle.fields.proofs.FieldLaws.{count_fill}
use Rattle.rules.specs.Content.{filled, stands}

-- what number 5 says of a field
pub stands_fill : (i : ℕ) (k : Format) (b : List ℕ) (u : Unit {0}) → stands i k b ≡ ok u → fill (head_of k) (tuple_of k) b ≡ true
unfolding stands
stands_fill i k b u e = go (not (empty (tuple_of k))) (tally_field (head_of k) (tuple_of k) b) refl e
  where
    go : (t : Bool) (y : Result ℕ ℕ) → tally_field (head_of k) (tuple_of k) b ≡ y → filled i t y ≡ ok u → fill (head_of k) (tuple_of k) b ≡ true
    go t (Ok n) x h = count_fill (head_of k) (tuple_of k) b n x
    go t (Err j) x h = absurd (let z : ◌≡◌ {A = ℕ} 0 1 = cc in omega arith)
