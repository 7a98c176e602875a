-- Tuples of SPAS, which are made of bytes: what each body of a list has. Assumes nothing.
use Prim.Native.Nat.{ℕ}
use mathlib.Core.List.{List}
use Rattle.base.specs.Lists.{Each}
use Rattle.base.proofs.EachLaws.{each_map, each_zip}
use Rattle.fields.specs.Valid.{Bytes}
use Rattle.cells.specs.Keys.{SpasBody}
use Rattle.version.specs.Held.{RightSpas}

pub spas_every : (bs : List (List ℕ)) → Each RightSpas bs → Each SpasBody bs
spas_every bs a = each_map bs (λ b r. (r.long, r.filled)) a

pub spas_all : (bs : List (List ℕ)) → Each SpasBody bs → Each Bytes bs → Each RightSpas bs
spas_all bs e a = each_zip bs (λ b s g. record { bytes = g; long = s.0; filled = s.1 }) e a
