use mathlib.Core.Path.{sym, ap}
use Prim.Native.Nat.{ℕ}
use lib.ListN.{get_or}
use Rattle.fields.specs.Table.{head_of, tuple_of}
use Rattle.fields.specs.Rows.{table}
use Rattle.fields.specs.declared.Sub.TheVariants.{Text}
use Rattle.fields.proofs.row.place_row.Goals as goal

pub returns-in-78 : goal.returns-in-78
unfolding table head_of tuple_of
returns-in-78 c = ap (λ (j : ℕ). get_or table j Text) (sym c.in-78.is)

pub returns-in-79 : goal.returns-in-79
unfolding table head_of tuple_of
returns-in-79 c = ap (λ (j : ℕ). get_or table j Text) (sym c.in-79.is)

pub returns-in-80 : goal.returns-in-80
unfolding table head_of tuple_of
returns-in-80 c = ap (λ (j : ℕ). get_or table j Text) (sym c.in-80.is)

pub returns-in-81 : goal.returns-in-81
unfolding table head_of tuple_of
returns-in-81 c = ap (λ (j : ℕ). get_or table j Text) (sym c.in-81.is)

pub returns-in-82 : goal.returns-in-82
unfolding table head_of tuple_of
returns-in-82 c = ap (λ (j : ℕ). get_or table j Text) (sym c.in-82.is)

pub returns-in-83 : goal.returns-in-83
unfolding table head_of tuple_of
returns-in-83 c = ap (λ (j : ℕ). get_or table j Text) (sym c.in-83.is)

pub returns-in-84 : goal.returns-in-84
unfolding table head_of tuple_of
returns-in-84 c = ap (λ (j : ℕ). get_or table j Text) (sym c.in-84.is)

pub returns-in-85 : goal.returns-in-85
unfolding table head_of tuple_of
returns-in-85 c = ap (λ (j : ℕ). get_or table j Text) (sym c.in-85.is)

pub returns-in-86 : goal.returns-in-86
unfolding table head_of tuple_of
returns-in-86 c = ap (λ (j : ℕ). get_or table j Text) (sym c.in-86.is)

pub returns-in-87 : goal.returns-in-87
unfolding table head_of tuple_of
returns-in-87 c = ap (λ (j : ℕ). get_or table j Text) (sym c.in-87.is)

pub returns-in-88 : goal.returns-in-88
unfolding table head_of tuple_of
returns-in-88 c = ap (λ (j : ℕ). get_or table j Text) (sym c.in-88.is)

pub returns-in-89 : goal.returns-in-89
unfolding table head_of tuple_of
returns-in-89 c = ap (λ (j : ℕ). get_or table j Text) (sym c.in-89.is)

pub returns-in-90 : goal.returns-in-90
unfolding table head_of tuple_of
returns-in-90 c = ap (λ (j : ℕ). get_or table j Text) (sym c.in-90.is)

pub returns-in-91 : goal.returns-in-91
unfolding table head_of tuple_of
returns-in-91 c = ap (λ (j : ℕ). get_or table j Text) (sym c.in-91.is)

pub returns-in-92 : goal.returns-in-92
unfolding table head_of tuple_of
returns-in-92 c = ap (λ (j : ℕ). get_or table j Text) (sym c.in-92.is)

pub returns-in-93 : goal.returns-in-93
unfolding table head_of tuple_of
returns-in-93 c = ap (λ (j : ℕ). get_or table j Text) (sym c.in-93.is)

pub returns-in-94 : goal.returns-in-94
unfolding table head_of tuple_of
returns-in-94 c = ap (λ (j : ℕ). get_or table j Text) (sym c.in-94.is)

pub returns-in-95 : goal.returns-in-95
unfolding table head_of tuple_of
returns-in-95 c = ap (λ (j : ℕ). get_or table j Text) (sym c.in-95.is)

pub returns-in-96 : goal.returns-in-96
unfolding table head_of tuple_of
returns-in-96 c = ap (λ (j : ℕ). get_or table j Text) (sym c.in-96.is)

pub returns-in-97 : goal.returns-in-97
unfolding table head_of tuple_of
returns-in-97 c = ap (λ (j : ℕ). get_or table j Text) (sym c.in-97.is)
