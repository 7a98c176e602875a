use mathlib.Core.Path.{sym, ap}
use Prim.Native.Nat.{ℕ}
use lib.ListN.{get_or}
use Rattle.fields.specs.Table.{head_of, tuple_of}
use Rattle.fields.specs.Rows.{table}
use Rattle.fields.specs.declared.Sub.TheVariants.{Text}
use Rattle.fields.proofs.row.attribute_row.Goals as goal

pub returns-in-58 : goal.returns-in-58
unfolding table head_of tuple_of
returns-in-58 c = ap (λ (j : ℕ). get_or table j Text) (sym c.in-58.is)

pub returns-in-59 : goal.returns-in-59
unfolding table head_of tuple_of
returns-in-59 c = ap (λ (j : ℕ). get_or table j Text) (sym c.in-59.is)

pub returns-in-60 : goal.returns-in-60
unfolding table head_of tuple_of
returns-in-60 c = ap (λ (j : ℕ). get_or table j Text) (sym c.in-60.is)

pub returns-in-61 : goal.returns-in-61
unfolding table head_of tuple_of
returns-in-61 c = ap (λ (j : ℕ). get_or table j Text) (sym c.in-61.is)

pub returns-in-62 : goal.returns-in-62
unfolding table head_of tuple_of
returns-in-62 c = ap (λ (j : ℕ). get_or table j Text) (sym c.in-62.is)

pub returns-in-63 : goal.returns-in-63
unfolding table head_of tuple_of
returns-in-63 c = ap (λ (j : ℕ). get_or table j Text) (sym c.in-63.is)

pub returns-in-64 : goal.returns-in-64
unfolding table head_of tuple_of
returns-in-64 c = ap (λ (j : ℕ). get_or table j Text) (sym c.in-64.is)

pub returns-in-65 : goal.returns-in-65
unfolding table head_of tuple_of
returns-in-65 c = ap (λ (j : ℕ). get_or table j Text) (sym c.in-65.is)

pub returns-in-66 : goal.returns-in-66
unfolding table head_of tuple_of
returns-in-66 c = ap (λ (j : ℕ). get_or table j Text) (sym c.in-66.is)

pub returns-in-67 : goal.returns-in-67
unfolding table head_of tuple_of
returns-in-67 c = ap (λ (j : ℕ). get_or table j Text) (sym c.in-67.is)

pub returns-in-68 : goal.returns-in-68
unfolding table head_of tuple_of
returns-in-68 c = ap (λ (j : ℕ). get_or table j Text) (sym c.in-68.is)

pub returns-in-69 : goal.returns-in-69
unfolding table head_of tuple_of
returns-in-69 c = ap (λ (j : ℕ). get_or table j Text) (sym c.in-69.is)

pub returns-in-70 : goal.returns-in-70
unfolding table head_of tuple_of
returns-in-70 c = ap (λ (j : ℕ). get_or table j Text) (sym c.in-70.is)

pub returns-in-71 : goal.returns-in-71
unfolding table head_of tuple_of
returns-in-71 c = ap (λ (j : ℕ). get_or table j Text) (sym c.in-71.is)

pub returns-in-72 : goal.returns-in-72
unfolding table head_of tuple_of
returns-in-72 c = ap (λ (j : ℕ). get_or table j Text) (sym c.in-72.is)

pub returns-in-73 : goal.returns-in-73
unfolding table head_of tuple_of
returns-in-73 c = ap (λ (j : ℕ). get_or table j Text) (sym c.in-73.is)

pub returns-in-74 : goal.returns-in-74
unfolding table head_of tuple_of
returns-in-74 c = ap (λ (j : ℕ). get_or table j Text) (sym c.in-74.is)

pub returns-in-75 : goal.returns-in-75
unfolding table head_of tuple_of
returns-in-75 c = ap (λ (j : ℕ). get_or table j Text) (sym c.in-75.is)

pub returns-in-76 : goal.returns-in-76
unfolding table head_of tuple_of
returns-in-76 c = ap (λ (j : ℕ). get_or table j Text) (sym c.in-76.is)

pub returns-in-77 : goal.returns-in-77
unfolding table head_of tuple_of
returns-in-77 c = ap (λ (j : ℕ). get_or table j Text) (sym c.in-77.is)
