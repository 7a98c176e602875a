use mathlib.Core.Path.{sym, ap}
use Prim.Native.Nat.{ℕ}
use lib.ListN.{get_or}
use Rattle.fields.specs.Table.{head_of, tuple_of}
use Rattle.fields.specs.Rows.{table}
use Rattle.fields.specs.declared.Sub.TheVariants.{Text}
use Rattle.fields.proofs.row.spatial_row.Goals as goal

pub returns-in-42 : goal.returns-in-42
unfolding table head_of tuple_of
returns-in-42 c = ap (λ (j : ℕ). get_or table j Text) (sym c.in-42.is)

pub returns-in-43 : goal.returns-in-43
unfolding table head_of tuple_of
returns-in-43 c = ap (λ (j : ℕ). get_or table j Text) (sym c.in-43.is)

pub returns-in-44 : goal.returns-in-44
unfolding table head_of tuple_of
returns-in-44 c = ap (λ (j : ℕ). get_or table j Text) (sym c.in-44.is)

pub returns-in-45 : goal.returns-in-45
unfolding table head_of tuple_of
returns-in-45 c = ap (λ (j : ℕ). get_or table j Text) (sym c.in-45.is)

pub returns-in-46 : goal.returns-in-46
unfolding table head_of tuple_of
returns-in-46 c = ap (λ (j : ℕ). get_or table j Text) (sym c.in-46.is)

pub returns-in-47 : goal.returns-in-47
unfolding table head_of tuple_of
returns-in-47 c = ap (λ (j : ℕ). get_or table j Text) (sym c.in-47.is)

pub returns-in-48 : goal.returns-in-48
unfolding table head_of tuple_of
returns-in-48 c = ap (λ (j : ℕ). get_or table j Text) (sym c.in-48.is)

pub returns-in-49 : goal.returns-in-49
unfolding table head_of tuple_of
returns-in-49 c = ap (λ (j : ℕ). get_or table j Text) (sym c.in-49.is)

pub returns-in-50 : goal.returns-in-50
unfolding table head_of tuple_of
returns-in-50 c = ap (λ (j : ℕ). get_or table j Text) (sym c.in-50.is)

pub returns-in-51 : goal.returns-in-51
unfolding table head_of tuple_of
returns-in-51 c = ap (λ (j : ℕ). get_or table j Text) (sym c.in-51.is)

pub returns-in-52 : goal.returns-in-52
unfolding table head_of tuple_of
returns-in-52 c = ap (λ (j : ℕ). get_or table j Text) (sym c.in-52.is)

pub returns-in-53 : goal.returns-in-53
unfolding table head_of tuple_of
returns-in-53 c = ap (λ (j : ℕ). get_or table j Text) (sym c.in-53.is)

pub returns-in-54 : goal.returns-in-54
unfolding table head_of tuple_of
returns-in-54 c = ap (λ (j : ℕ). get_or table j Text) (sym c.in-54.is)

pub returns-in-55 : goal.returns-in-55
unfolding table head_of tuple_of
returns-in-55 c = ap (λ (j : ℕ). get_or table j Text) (sym c.in-55.is)

pub returns-in-56 : goal.returns-in-56
unfolding table head_of tuple_of
returns-in-56 c = ap (λ (j : ℕ). get_or table j Text) (sym c.in-56.is)

pub returns-in-57 : goal.returns-in-57
unfolding table head_of tuple_of
returns-in-57 c = ap (λ (j : ℕ). get_or table j Text) (sym c.in-57.is)
