use mathlib.Core.Path.{sym, ap}
use Prim.Native.Nat.{ℕ}
use lib.ListN.{get_or}
use Rattle.fields.specs.Table.{head_of, tuple_of}
use Rattle.fields.specs.Rows.{table}
use Rattle.fields.specs.declared.Sub.TheVariants.{Text}
use Rattle.fields.proofs.row.coded_row.Goals as goal

pub returns-in-22 : goal.returns-in-22
unfolding table head_of tuple_of
returns-in-22 c = ap (λ (j : ℕ). get_or table j Text) (sym c.in-22.is)

pub returns-in-23 : goal.returns-in-23
unfolding table head_of tuple_of
returns-in-23 c = ap (λ (j : ℕ). get_or table j Text) (sym c.in-23.is)

pub returns-in-24 : goal.returns-in-24
unfolding table head_of tuple_of
returns-in-24 c = ap (λ (j : ℕ). get_or table j Text) (sym c.in-24.is)

pub returns-in-25 : goal.returns-in-25
unfolding table head_of tuple_of
returns-in-25 c = ap (λ (j : ℕ). get_or table j Text) (sym c.in-25.is)

pub returns-in-26 : goal.returns-in-26
unfolding table head_of tuple_of
returns-in-26 c = ap (λ (j : ℕ). get_or table j Text) (sym c.in-26.is)

pub returns-in-27 : goal.returns-in-27
unfolding table head_of tuple_of
returns-in-27 c = ap (λ (j : ℕ). get_or table j Text) (sym c.in-27.is)

pub returns-in-28 : goal.returns-in-28
unfolding table head_of tuple_of
returns-in-28 c = ap (λ (j : ℕ). get_or table j Text) (sym c.in-28.is)

pub returns-in-29 : goal.returns-in-29
unfolding table head_of tuple_of
returns-in-29 c = ap (λ (j : ℕ). get_or table j Text) (sym c.in-29.is)

pub returns-in-30 : goal.returns-in-30
unfolding table head_of tuple_of
returns-in-30 c = ap (λ (j : ℕ). get_or table j Text) (sym c.in-30.is)

pub returns-in-31 : goal.returns-in-31
unfolding table head_of tuple_of
returns-in-31 c = ap (λ (j : ℕ). get_or table j Text) (sym c.in-31.is)

pub returns-in-32 : goal.returns-in-32
unfolding table head_of tuple_of
returns-in-32 c = ap (λ (j : ℕ). get_or table j Text) (sym c.in-32.is)

pub returns-in-33 : goal.returns-in-33
unfolding table head_of tuple_of
returns-in-33 c = ap (λ (j : ℕ). get_or table j Text) (sym c.in-33.is)

pub returns-in-34 : goal.returns-in-34
unfolding table head_of tuple_of
returns-in-34 c = ap (λ (j : ℕ). get_or table j Text) (sym c.in-34.is)

pub returns-in-35 : goal.returns-in-35
unfolding table head_of tuple_of
returns-in-35 c = ap (λ (j : ℕ). get_or table j Text) (sym c.in-35.is)

pub returns-in-36 : goal.returns-in-36
unfolding table head_of tuple_of
returns-in-36 c = ap (λ (j : ℕ). get_or table j Text) (sym c.in-36.is)

pub returns-in-37 : goal.returns-in-37
unfolding table head_of tuple_of
returns-in-37 c = ap (λ (j : ℕ). get_or table j Text) (sym c.in-37.is)

pub returns-in-38 : goal.returns-in-38
unfolding table head_of tuple_of
returns-in-38 c = ap (λ (j : ℕ). get_or table j Text) (sym c.in-38.is)

pub returns-in-39 : goal.returns-in-39
unfolding table head_of tuple_of
returns-in-39 c = ap (λ (j : ℕ). get_or table j Text) (sym c.in-39.is)

pub returns-in-40 : goal.returns-in-40
unfolding table head_of tuple_of
returns-in-40 c = ap (λ (j : ℕ). get_or table j Text) (sym c.in-40.is)

pub returns-in-41 : goal.returns-in-41
unfolding table head_of tuple_of
returns-in-41 c = ap (λ (j : ℕ). get_or table j Text) (sym c.in-41.is)
