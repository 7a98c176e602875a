use mathlib.Core.Path.{sym, ap}
use Prim.Native.Nat.{ℕ}
use lib.ListN.{get_or}
use Rattle.fields.specs.Table.{head_of, tuple_of}
use Rattle.fields.specs.Rows.{table}
use Rattle.fields.specs.declared.Sub.TheVariants.{Text}
use Rattle.fields.proofs.row.general_row.Goals as goal

pub returns-in-0 : goal.returns-in-0
unfolding table head_of tuple_of
returns-in-0 c = ap (λ (j : ℕ). get_or table j Text) (sym c.in-0.is)

pub returns-in-1 : goal.returns-in-1
unfolding table head_of tuple_of
returns-in-1 c = ap (λ (j : ℕ). get_or table j Text) (sym c.in-1.is)

pub returns-in-2 : goal.returns-in-2
unfolding table head_of tuple_of
returns-in-2 c = ap (λ (j : ℕ). get_or table j Text) (sym c.in-2.is)

pub returns-in-3 : goal.returns-in-3
unfolding table head_of tuple_of
returns-in-3 c = ap (λ (j : ℕ). get_or table j Text) (sym c.in-3.is)

pub returns-in-4 : goal.returns-in-4
unfolding table head_of tuple_of
returns-in-4 c = ap (λ (j : ℕ). get_or table j Text) (sym c.in-4.is)

pub returns-in-5 : goal.returns-in-5
unfolding table head_of tuple_of
returns-in-5 c = ap (λ (j : ℕ). get_or table j Text) (sym c.in-5.is)

pub returns-in-6 : goal.returns-in-6
unfolding table head_of tuple_of
returns-in-6 c = ap (λ (j : ℕ). get_or table j Text) (sym c.in-6.is)

pub returns-in-7 : goal.returns-in-7
unfolding table head_of tuple_of
returns-in-7 c = ap (λ (j : ℕ). get_or table j Text) (sym c.in-7.is)

pub returns-in-8 : goal.returns-in-8
unfolding table head_of tuple_of
returns-in-8 c = ap (λ (j : ℕ). get_or table j Text) (sym c.in-8.is)

pub returns-in-9 : goal.returns-in-9
unfolding table head_of tuple_of
returns-in-9 c = ap (λ (j : ℕ). get_or table j Text) (sym c.in-9.is)

pub returns-in-10 : goal.returns-in-10
unfolding table head_of tuple_of
returns-in-10 c = ap (λ (j : ℕ). get_or table j Text) (sym c.in-10.is)

pub returns-in-11 : goal.returns-in-11
unfolding table head_of tuple_of
returns-in-11 c = ap (λ (j : ℕ). get_or table j Text) (sym c.in-11.is)

pub returns-in-12 : goal.returns-in-12
unfolding table head_of tuple_of
returns-in-12 c = ap (λ (j : ℕ). get_or table j Text) (sym c.in-12.is)

pub returns-in-13 : goal.returns-in-13
unfolding table head_of tuple_of
returns-in-13 c = ap (λ (j : ℕ). get_or table j Text) (sym c.in-13.is)

pub returns-in-14 : goal.returns-in-14
unfolding table head_of tuple_of
returns-in-14 c = ap (λ (j : ℕ). get_or table j Text) (sym c.in-14.is)

pub returns-in-15 : goal.returns-in-15
unfolding table head_of tuple_of
returns-in-15 c = ap (λ (j : ℕ). get_or table j Text) (sym c.in-15.is)

pub returns-in-16 : goal.returns-in-16
unfolding table head_of tuple_of
returns-in-16 c = ap (λ (j : ℕ). get_or table j Text) (sym c.in-16.is)

pub returns-in-17 : goal.returns-in-17
unfolding table head_of tuple_of
returns-in-17 c = ap (λ (j : ℕ). get_or table j Text) (sym c.in-17.is)

pub returns-in-18 : goal.returns-in-18
unfolding table head_of tuple_of
returns-in-18 c = ap (λ (j : ℕ). get_or table j Text) (sym c.in-18.is)

pub returns-in-19 : goal.returns-in-19
unfolding table head_of tuple_of
returns-in-19 c = ap (λ (j : ℕ). get_or table j Text) (sym c.in-19.is)

pub returns-in-20 : goal.returns-in-20
unfolding table head_of tuple_of
returns-in-20 c = ap (λ (j : ℕ). get_or table j Text) (sym c.in-20.is)

pub returns-in-21 : goal.returns-in-21
unfolding table head_of tuple_of
returns-in-21 c = ap (λ (j : ℕ). get_or table j Text) (sym c.in-21.is)
