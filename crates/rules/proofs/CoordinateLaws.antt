-- How many coordinates stand in some bytes. Assumes nothing.
use mathlib.Core.Path.{◌≡◌, refl, ◌∙◌}
use mathlib.Core.Bool.{Bool, true, false}
use mathlib.Core.List.{List, []}
use Prim.Native.Nat.{ℕ, ◌+◌, ◌*◌, ◌/◌, ◌%◌}
use native.Mathlib.Omega.{arith}
use lib.Dec.{eqb}
use lib.ListN.{length}
use Rattle.std.specs.Prelude.{Ok, Err}
use Rattle.base.specs.Choice.{pick}
use Rattle.base.specs.Lists.{each, empty}
use Rattle.base.specs.Walk.{Got, walk, steps}
use Rattle.base.proofs.ListLaws.{each_length}
use Rattle.fields.specs.Values.{Val}
use Rattle.fields.specs.Table.{tuple_of}
use Rattle.fields.specs.Content.{tuples, tuple_step, many, tallied, tally}
use Rattle.fields.specs.Places.{all_raw}
use Rattle.fields.specs.declared.Format.TheVariants.{C2il}
use Rattle.fields.proofs.CountLaws.{by_length, raw_tally}
use Rattle.rules.specs.Coordinates.{coord_of, coords_in}

-- the tuples of a walk, counted by the length of the bytes
items_by : (m : ℕ) (g : Got (List Val)) → tallied 0 g ≡ by_length 8 m 0 → length g.items ≡ m / 8
items_by m g e = go (eqb g.ending 0) (eqb (m % 8) 0) e
  where
    go : (t u : Bool) → pick t (Ok (0 + length g.items)) (Err (0 + length g.items + 1)) ≡ pick u (Ok (0 + m / 8)) (Err (0 + m / 8 + 1)) → length g.items ≡ m / 8
    go true true x = let z : 0 + length g.items ≡ 0 + m / 8 = cc in omega arith
    go true false x = absurd (let z : ◌≡◌ {A = ℕ} 0 1 = cc in omega arith)
    go false true x = absurd (let z : ◌≡◌ {A = ℕ} 0 1 = cc in omega arith)
    go false false x = let z : 0 + length g.items + 1 ≡ 0 + m / 8 + 1 = cc in omega arith

-- whole or not
c2il_many : (b : List ℕ) → length (many (tuple_of C2il) b) ≡ length b / 8
unfolding many tuple_of all_raw tally
c2il_many b = items_by (length b) (tuples (tuple_of C2il) b) (raw_tally (tuple_of C2il) refl (omega arith) b 0)

pub coords_length : (b : List ℕ) → length (coords_in b) ≡ length b / 8
unfolding coords_in
coords_length b = each_length coord_of (many (tuple_of C2il) b) ∙ c2il_many b

-- of bytes that are whole tuples
pub coords_count : (b : List ℕ) (n : ℕ) → length b ≡ 8 * n → length (coords_in b) ≡ n
coords_count b n e = coords_length b ∙ omega arith

-- of none
pub coords_none : coords_in [] ≡ []
unfolding coords_in each many tuples walk steps tuple_step empty
coords_none = refl
