-- The rows of all formats: a format's rows are its subfields, and the ways through loops over rows. Assumes nothing.
use Prim.Native.Nat.{ℕ, zero, suc, ◌+◌, ◌-◌, ◌≤◌, ◌<◌}
use mathlib.Core.Path.{◌≡◌, refl, sym, ap, ◌∙◌}
use mathlib.Core.Bool.{Bool, true, false}
use mathlib.Core.List.{List, [], ◌∷◌}
use native.Mathlib.Numerals.{add-one}
use native.Mathlib.Nat.{add-suc, suc-add, zero-add, le_trans, le_of_eq}
use native.Mathlib.Omega.{arith}
use lib.Arith.{lt_of_le-ne}
use lib.ListN.{length, get_or, take, drop}
use lib.Seq.{slice, slice-cons, slice_empty, length-slice, take-take, take-nil, take_all}
use lib.Dec.{T, leb, lit≤}
use Rattle.std.specs.Prelude.{Option as StdOption, Some, None}
use Rattle.base.specs.Choice.{pick}
use Rattle.fields.specs.Table.{head_of, tuple_of}
use Rattle.fields.specs.Places.{subfield_end, subfields_end, is_raw, all_raw}
use Rattle.fields.specs.Rows.{rows, table, shape_of}
use Rattle.fields.specs.declared.Format.{Format}
use Rattle.fields.specs.declared.Format.TheVariants.{Dsid, DsidUpdate, Irid, IridNew, Prid, PridNew, Mrid, MridNew, Frid, FridNew, Foid, Attr, AttrNew, InasNew, InasGone, Spas, SpasNew, Cocc, C2it, C2il}
use Rattle.fields.specs.declared.Sub.{Sub}
use Rattle.fields.specs.declared.Sub.TheVariants.{Text}
use Rattle.fields.specs.declared.row.Shape.{Shape}
use Rattle.fields.proofs.SizeLaws.{next, end_nil, end_cons, subfield_bound}

-- ---- one row: the last arm of a `match` whose other arms are lo, lo + 1, .. and so on

-- k is none of the n numbers from lo on
abbrev pub Rest : ℕ → ℕ → ℕ → Type 0
Rest lo zero k = Unit {0}
Rest lo (suc n) k = Rest lo n k × (k ≡ lo + n → ⊥)

pub beyond : (lo n k : ℕ) → lo ≤ k → Rest lo n k → lo + n ≤ k
beyond lo zero k h r = omega arith
beyond lo (suc n) k h r = rw add-suc (lt_of_le-ne (beyond lo n k h r.0) (λ e. r.1 (sym e)))

-- ---- the rows of a format

-- rows s are those of format k
pub record Its (k : Format) (s : Shape) : Type 0 where
  pub head_first : s.0 ≤ s.1
  pub tuple_second : s.1 ≤ s.2
  pub head_in : s.1 ≤ rows
  pub tuple_in : s.2 ≤ rows
  pub head_is : slice s.0 s.1 table ≡ head_of k
  pub tuple_is : slice s.1 s.2 table ≡ tuple_of k

its_by : (k : Format) (s : Shape) → T (leb s.0 s.1) → T (leb s.1 s.2) → T (leb s.2 rows)
    → slice s.0 s.1 table ≡ head_of k → slice s.1 s.2 table ≡ tuple_of k → Its k s
its_by k s a b c x y = record { head_first = lit≤ a; tuple_second = lit≤ b; head_in = le_trans (lit≤ b) (lit≤ c); tuple_in = lit≤ c; head_is = x; tuple_is = y }

-- each format's, by computation
its_rows : (k : Format) → Its k (shape_of k)
unfolding table head_of tuple_of
its_rows Dsid = its_by Dsid (shape_of Dsid) tt tt tt refl refl
its_rows DsidUpdate = its_by DsidUpdate (shape_of DsidUpdate) tt tt tt refl refl
its_rows Irid = its_by Irid (shape_of Irid) tt tt tt refl refl
its_rows IridNew = its_by IridNew (shape_of IridNew) tt tt tt refl refl
its_rows Frid = its_by Frid (shape_of Frid) tt tt tt refl refl
its_rows FridNew = its_by FridNew (shape_of FridNew) tt tt tt refl refl
its_rows Prid = its_by Prid (shape_of Prid) tt tt tt refl refl
its_rows PridNew = its_by PridNew (shape_of PridNew) tt tt tt refl refl
its_rows Mrid = its_by Mrid (shape_of Mrid) tt tt tt refl refl
its_rows MridNew = its_by MridNew (shape_of MridNew) tt tt tt refl refl
its_rows Attr = its_by Attr (shape_of Attr) tt tt tt refl refl
its_rows InasNew = its_by InasNew (shape_of InasNew) tt tt tt refl refl
its_rows AttrNew = its_by AttrNew (shape_of AttrNew) tt tt tt refl refl
its_rows InasGone = its_by InasGone (shape_of InasGone) tt tt tt refl refl
its_rows Foid = its_by Foid (shape_of Foid) tt tt tt refl refl
its_rows Spas = its_by Spas (shape_of Spas) tt tt tt refl refl
its_rows SpasNew = its_by SpasNew (shape_of SpasNew) tt tt tt refl refl
its_rows Cocc = its_by Cocc (shape_of Cocc) tt tt tt refl refl
its_rows C2it = its_by C2it (shape_of C2it) tt tt tt refl refl
its_rows C2il = its_by C2il (shape_of C2il) tt tt tt refl refl

pub its : (k : Format) (s : Shape) → s ≡ shape_of k → Its k s
its k s e = rw e (its_rows k)

-- the table is as long as it says
pub table_rows : length table ≡ rows
unfolding table head_of tuple_of
table_rows = refl

-- ---- the first rows of some

take_drop : (f j : ℕ) (l : List Sub) → take j (drop f l) ≡ drop f (take (f + j) l)
take_drop zero j l = rw zero-add
take_drop (suc f) j [] = rw (take-nil, take-nil (suc f + j))
take_drop (suc f) j (x ∷ l) = rw suc-add (take_drop f j l)

pub rows_take : (f t j : ℕ) → f + j ≤ t → take j (slice f t table) ≡ slice f (f + j) table
rows_take f t j h = take_drop f j (take t table) ∙ ap (drop f) (take-take (f + j) t table h)

pub rows_all : (f t j : ℕ) → t ≤ rows → t - f ≤ j → take j (slice f t table) ≡ slice f t table
rows_all f t j k h = take_all j (slice f t table) (le_trans (le_of_eq (length-slice f t table (rw table_rows k))) h)

-- ---- the ways through a loop over rows: where their subfields end

module _ (j to : ℕ) (d : Sub) (b : List ℕ) (p : ℕ) (r W : StdOption ℕ)
    (h : j < to) (k : to ≤ rows) (row : d ≡ get_or table j Text) (got : r ≡ subfield_end d b p) (inv : subfields_end (slice j to table) b p ≡ W) where
  here : W ≡ next r (subfields_end (slice (j + 1) to table) b)
  here =
      let k' : to ≤ length table = rw table_rows k in
      sym inv
      ∙ ap (λ (ds : List Sub). subfields_end ds b p) (slice-cons j to table Text h k')
      ∙ end_cons (get_or table j Text) (slice (suc j) to table) b p
      ∙ rw (← row, ← got, add-one)

  pub row_bad : r ≡ None → None ≡ W
  row_bad e = sym (here ∙ rw e)

  pub row_on : (n : ℕ) → r ≡ Some n → subfields_end (slice (j + 1) to table) b n ≡ W
  row_on n e = sym (here ∙ rw e)

pub row_in : (d : Sub) (b : List ℕ) (p n : ℕ) (r : StdOption ℕ) → p ≤ length b → r ≡ subfield_end d b p → r ≡ Some n → n ≤ length b
row_in d b p n r h got e = subfield_bound d b p n h (sym got ∙ e)

pub row_end : (j to : ℕ) (b : List ℕ) (p : ℕ) (W : StdOption ℕ) → to ≤ j → j ≤ to → subfields_end (slice j to table) b p ≡ W → Some p ≡ W
row_end j to b p W g h inv =
    let e : j ≡ to = omega arith in
    sym (ap (λ (k : ℕ). subfields_end (slice k to table) b p) e ∙ ap (λ (ds : List Sub). subfields_end ds b p) (slice_empty to table) ∙ end_nil b p) ∙ inv

pub ruleset rows_turn = (row_bad, row_on, row_in, row_end, arith)

-- ---- the same: whether they take any bytes

module _ (j to : ℕ) (d : Sub) (u W : Bool)
    (h : j < to) (k : to ≤ rows) (row : d ≡ get_or table j Text) (got : u ≡ is_raw d) (inv : all_raw (slice j to table) ≡ W) where
  raw_here : W ≡ pick u (all_raw (slice (j + 1) to table)) false
  unfolding all_raw
  raw_here =
      let k' : to ≤ length table = rw table_rows k in
      sym inv ∙ ap all_raw (slice-cons j to table Text h k') ∙ rw (← row, ← got, add-one)

  pub raw_not : u ≡ false → false ≡ W
  raw_not e = sym (raw_here ∙ rw e)

  pub raw_on : u ≡ true → all_raw (slice (j + 1) to table) ≡ W
  raw_on e = sym (raw_here ∙ rw e)

pub raw_end : (j to : ℕ) (W : Bool) → to ≤ j → j ≤ to → all_raw (slice j to table) ≡ W → true ≡ W
unfolding all_raw
raw_end j to W g h inv =
    let e : j ≡ to = omega arith in
    sym (ap (λ (k : ℕ). all_raw (slice k to table)) e ∙ ap all_raw (slice_empty to table)) ∙ inv

pub ruleset raw_turn = (raw_not, raw_on, raw_end, arith)
