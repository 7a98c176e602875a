-- Coordinates of a sound record are read again from their written tuples. Assumes nothing.
use Prim.Native.Nat.{ℕ, ◌<◌}
use mathlib.Core.Path.{◌≡◌, refl, ap, ◌∙◌}
use mathlib.Core.List.{List, [], ◌∷◌, append-nil}
use native.Mathlib.Omega.{arith}
use lib.ListN.{length}
use Rattle.base.specs.Lists.{each, gather, Each}
use Rattle.base.specs.Walk.{Got}
use Rattle.fields.specs.Table.{head_of, tuple_of}
use Rattle.fields.specs.Values.{Val, puts, put_all}
use Rattle.fields.specs.Content.{tuples, many}
use Rattle.fields.specs.Places.{ending_at}
use Rattle.fields.specs.declared.Format.TheVariants.{C2it, C2il}
use Rattle.fields.specs.Valid.{Has}
use Rattle.fields.proofs.FieldLaws.{list_fill}
use Rattle.fields.proofs.DecodeLaws.{all_back, length_numbers}
use Rattle.rules.specs.Coordinates.{Coord, coord_of, coords_in}
use Rattle.rules.specs.Written.{coord_vals}
use Rattle.sound.specs.Sound.{SoundCoord}
use Rattle.sound.proofs.Values.{pass_each_lem}
use Rattle.roundtrip.proofs.Heads.{head_back}

-- the bytes of coordinate tuples
abbrev pub coord_bytes : List Coord → List ℕ
coord_bytes cs = put_all (tuple_of C2il) (each coord_vals cs)

-- each tuple has bytes
coord_some : (c : Coord) → SoundCoord c → 0 < length (puts (tuple_of C2il) (coord_vals c))
unfolding tuple_of
coord_some c p = omega (arith, length_numbers (tuple_of C2il) (coord_vals c) refl p)

-- their tuples are read again
coord_tuples : (cs : List Coord) → Each SoundCoord cs → tuples (tuple_of C2il) (coord_bytes cs) ≡ record { items = each coord_vals cs; ending = 0 }
coord_tuples cs e = all_back (tuple_of C2il) (each coord_vals cs) (pass_each_lem (tuple_of C2il) coord_vals cs coord_some e)

-- the values of a tuple are those of the tuple
values_back : (cs : List Coord) → each coord_of (each coord_vals cs) ≡ cs
unfolding each coord_of coord_vals
values_back [] = refl
values_back (c ∷ cs) = ap (λ (l : List Coord). c ∷ l) (values_back cs)

-- the coordinates
pub coords_again : (cs : List Coord) → Each SoundCoord cs → coords_in (coord_bytes cs) ≡ cs
unfolding coords_in many
coords_again cs e = ap (λ (g : Got (List Val)). each coord_of g.items) (coord_tuples cs e) ∙ values_back cs

-- a C2IL has its format
pub c2il_has : (cs : List Coord) → Each SoundCoord cs → Has C2il (coord_bytes cs)
unfolding head_of ending_at
c2il_has cs e = list_fill (tuple_of C2il) (coord_bytes cs) (ap (λ (g : Got (List Val)). g.ending) (coord_tuples cs e))

-- and so has a C2IT
pub c2it_has : (cs : List Coord) → Each SoundCoord cs → length cs ≡ 1 → Has C2it (coord_bytes cs)
unfolding Each each put_all gather head_of tuple_of
c2it_has [] e l = absurd (omega arith)
c2it_has (c ∷ []) e l = rw append-nil (head_back C2it (coord_vals c) e.0).0
c2it_has (c ∷ d ∷ cs) e l = absurd (omega arith)
