-- Laws of the rows of a grammar. Assumes nothing.
use mathlib.Core.Path.{◌≡◌, refl, ◌∙◌, ap}
use mathlib.Core.Bool.{Bool, true, false}
use mathlib.Core.List.{List, [], ◌∷◌}
use mathlib.Core.Logic.{◌⊎◌, ⊎_elim}
use mathlib.Core.Option.{Option, some, none}
use Rattle.std.specs.Prelude.{Option as StdOption, Some, None}
use Prim.Native.Nat.{ℕ, suc, ◌+◌, ◌-◌, ◌≤◌, ◌<◌}
use native.Mathlib.Numerals.{add-one}
use native.Mathlib.Omega.{arith}
use borrow.Author.Tests.{eq-eqb, ne_eqb}
use lib.Dec.{eqb}
use lib.ListN.{length, get_or, drop, drop_of_length-le, length-drop}
use lib.Seq.{drop-cons}
use Rattle.base.specs.Choice.{pick}
use Rattle.base.specs.Lists.{each}
use Rattle.rules.specs.Kind.{Row, rows_of, general_rows}
use Rattle.rules.specs.Tags.{general_tags}
use Rattle.rules.specs.Grammar.{rows_after}
use Rattle.rules.specs.declared.Kind.{Kind}
use Rattle.rules.specs.declared.Kind.TheVariants.{Info, Point, Multi, Feature}
use Rattle.records.specs.Rows.{stands_often, is_needed, row_with, rows_with, tags_of, rest_from, row_after}

-- ---- the tags' rows are those of the kinds

pub rows_of_lem : (k : Kind) → rows_of k ≡ rows_with (tags_of k)
unfolding rows_of rows_with each row_with stands_often is_needed
rows_of_lem Info = refl
rows_of_lem Point = refl
rows_of_lem Multi = refl
rows_of_lem Feature = refl

pub general_rows_lem : general_rows ≡ rows_with general_tags
unfolding general_rows rows_with each row_with stands_often is_needed
general_rows_lem = refl

-- ---- fields that stand often

module _ (t : ℕ) where
  pub often_one : (t ≡ 0x4332494c) ⊎ (t ≡ 0x494e4153) ⊎ (t ≡ 0x53504153) → true ≡ stands_often t
  unfolding stands_often
  often_one = ⊎_elim (λ e. rw e) (⊎_elim (λ e. rw e) (λ e. rw e))

  pub often_none : (t ≡ 0x494e4153 → ⊥) → (t ≡ 0x4332494c → ⊥) → (t ≡ 0x53504153 → ⊥) → false ≡ stands_often t
  unfolding stands_often
  often_none a b c = simp (ne_eqb t 0x494e4153 a, ne_eqb t 0x4332494c b, ne_eqb t 0x53504153 c)

pub ruleset often_ways = (often_one, often_none)

-- ---- the row of a field, looked for from place j on

module _ (ts : List ℕ) (t j : ℕ) (R : StdOption ℕ) (inv : row_after ts t j ≡ R) where
  pub row_none : length ts ≤ j → None ≡ R
  unfolding row_after rest_from
  row_none h = rw (drop_of_length-le ts h) at inv

  module _ (h : j < length ts) where
    pub row_here : get_or ts j 0 ≡ t → (k : ℕ) → k ≡ pick (stands_often (get_or ts j 0)) j (j + 1) → Some k ≡ R
    unfolding row_after rest_from
    row_here e k x = simp (eq-eqb (get_or ts j 0) t e, ← x) at (rw (drop-cons ts j 0 h) at inv)

    pub row_later : (get_or ts j 0 ≡ t → ⊥) → row_after ts t (j + 1) ≡ R
    unfolding row_after rest_from
    row_later n = simp add-one (simp (ne_eqb (get_or ts j 0) t n, add-one) at (rw (drop-cons ts j 0 h) at inv))

pub ruleset row_turn = (row_none, row_here, row_later, arith)

-- ---- what that says of the rows left

-- ---- the rows that are left are those from the place on

-- what a place says of the rows left
abbrev pub Left : List ℕ → Option (List Row) → StdOption ℕ → Type 0
Left ts o (Some k) = (o ≡ some (rows_with (drop k ts))) × (k ≤ length ts)
Left ts o None = o ≡ none

tail_of : (ts xs : List ℕ) (x j : ℕ) → x ∷ xs ≡ drop j ts → (j < length ts) × (xs ≡ drop (j + 1) ts)
tail_of ts xs x j e =
    let l : suc (length xs) ≡ length ts - j = simp length-drop at (ap length e) in
    let h : j < length ts = omega arith in
    let c : x ∷ xs ≡ get_or ts j 0 ∷ drop (suc j) ts = e ∙ drop-cons ts j 0 h in
    let z : xs ≡ drop (suc j) ts = cc in
    (h, rw add-one z)

rest_left : (ts xs : List ℕ) (t j : ℕ) → xs ≡ drop j ts → Left ts (rows_after t (rows_with xs)) (rest_from xs t j)
unfolding rows_after rows_with each rest_from row_with
rest_left ts [] t j e = refl
rest_left ts (x ∷ xs) t j e = go (eqb x t) (stands_often x) refl (rest_left ts xs t (j + 1) (tail_of ts xs x j e).1)
  where
    go : (b o : Bool) → stands_often x ≡ o → Left ts (rows_after t (rows_with xs)) (rest_from xs t (j + 1))
        → Left ts (pick b (some (pick o (record { tag = x; often = o; needed = is_needed x } ∷ rows_with xs) (rows_with xs))) (rows_after t (rows_with xs)))
        (pick b (Some (pick o j (j + 1))) (rest_from xs t (j + 1)))
    go true true eo ih = let tl = tail_of ts xs x j e in (rw (← e, eo), omega arith)
    go true false eo ih = let tl = tail_of ts xs x j e in (ap (λ (l : List ℕ). some (rows_with l)) tl.1, omega arith)
    go false o eo ih = ih

-- the same of the rows from place j on
pub row_left : (ts : List ℕ) (t j : ℕ) → Left ts (rows_after t (rows_with (drop j ts))) (row_after ts t j)
unfolding row_after
row_left ts t j = rest_left ts (drop j ts) t j refl
