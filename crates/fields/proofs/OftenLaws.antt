-- Laws of subfields one after the other by name: the ways through, which they are, and their rows. Assumes nothing.
use Prim.Native.Nat.{ℕ, ◌≤◌}
use mathlib.Core.Path.{◌≡◌, refl, sym, ◌∙◌}
use mathlib.Core.List.{List, [], ◌∷◌}
use lib.ListN.{length}
use lib.Seq.{slice}
use Rattle.std.specs.Prelude.{Option as StdOption, Some, None}
use Rattle.fields.specs.Table.{head_of, tuple_of}
use Rattle.fields.specs.Rows.{table}
use Rattle.fields.specs.Places.{subfield_end, subfields_end}
use Rattle.fields.specs.declared.Format.TheVariants.{AttrNew, SpasNew, FridNew, PridNew, InasNew}
use Rattle.fields.specs.declared.Sub.{Sub}
use Rattle.fields.specs.declared.Sub.TheVariants.{B11, B12, B14, Among, Raw, Text}
use Rattle.fields.proofs.SizeLaws.{next, end_nil, end_cons}
use Rattle.fields.proofs.RowLaws.{its, row_in}

-- ---- the ways through

-- of all subfields, read from `at` on, those before p stood, and es are left
pub record Left (all es : List Sub) (b : List ℕ) (at p : ℕ) : Type 0 where
  pub inside : p ≤ length b
  pub same : subfields_end es b p ≡ subfields_end all b at

module _ {all es : List Sub} {d : Sub} {b : List ℕ} {at p : ℕ} {r : StdOption ℕ} (l : Left all (d ∷ es) b at p) (got : r ≡ subfield_end d b p) where
  turn : next r (subfields_end es b) ≡ subfields_end all b at
  turn = rw got (sym (end_cons d es b p) ∙ l.same)

  -- the next of them does not stand
  pub left_bad : r ≡ None → None ≡ subfields_end all b at
  left_bad e = rw e at turn

  -- it stands, up to n
  left_on : {n : ℕ} → r ≡ Some n → Left all es b at n
  left_on {n} e = record { inside = row_in d b p n r l.inside got e; same = rw e at turn }

-- the last of them
left_last : {all : List Sub} {d : Sub} {b : List ℕ} {at p : ℕ} {r : StdOption ℕ} → Left all (d ∷ []) b at p → r ≡ subfield_end d b p → r ≡ subfields_end all b at
left_last {all} {d} {b} {at} {p} {r} l got = sym (go r) ∙ turn l got
  where
    go : (s : StdOption ℕ) → next s (subfields_end [] b) ≡ s
    go None = refl
    go (Some n) = end_nil b n

-- one that does not stand, or the last, behind some that stood
module _ {all es : List Sub} {d₁ d₂ : Sub} {b : List ℕ} {at p₁ : ℕ} {r₁ : StdOption ℕ} (l : Left all (d₁ ∷ d₂ ∷ es) b at at)
    (g₁ : r₁ ≡ subfield_end d₁ b at) (o₁ : r₁ ≡ Some p₁) where
  after_one : Left all (d₂ ∷ es) b at p₁
  after_one = left_on l g₁ o₁

  pub bad_one : {r : StdOption ℕ} → r ≡ subfield_end d₂ b p₁ → r ≡ None → None ≡ subfields_end all b at
  bad_one g e = left_bad after_one g e

module _ {all es : List Sub} {d₁ d₂ d₃ : Sub} {b : List ℕ} {at p₁ p₂ : ℕ} {r₁ r₂ : StdOption ℕ} (l : Left all (d₁ ∷ d₂ ∷ d₃ ∷ es) b at at)
    (g₁ : r₁ ≡ subfield_end d₁ b at) (o₁ : r₁ ≡ Some p₁) (g₂ : r₂ ≡ subfield_end d₂ b p₁) (o₂ : r₂ ≡ Some p₂) where
  after_two : Left all (d₃ ∷ es) b at p₂
  after_two = left_on (after_one l g₁ o₁) g₂ o₂

  pub bad_two : {r : StdOption ℕ} → r ≡ subfield_end d₃ b p₂ → r ≡ None → None ≡ subfields_end all b at
  bad_two g e = left_bad after_two g e

module _ {all es : List Sub} {d₁ d₂ d₃ d₄ : Sub} {b : List ℕ} {at p₁ p₂ p₃ : ℕ} {r₁ r₂ r₃ : StdOption ℕ} (l : Left all (d₁ ∷ d₂ ∷ d₃ ∷ d₄ ∷ es) b at at)
    (g₁ : r₁ ≡ subfield_end d₁ b at) (o₁ : r₁ ≡ Some p₁) (g₂ : r₂ ≡ subfield_end d₂ b p₁) (o₂ : r₂ ≡ Some p₂)
    (g₃ : r₃ ≡ subfield_end d₃ b p₂) (o₃ : r₃ ≡ Some p₃) where
  after_three : Left all (d₄ ∷ es) b at p₃
  after_three = left_on (after_two l g₁ o₁ g₂ o₂) g₃ o₃

  pub bad_three : {r : StdOption ℕ} → r ≡ subfield_end d₄ b p₃ → r ≡ None → None ≡ subfields_end all b at
  bad_three g e = left_bad after_three g e

pub last_three : {all : List Sub} {d₁ d₂ d₃ d₄ : Sub} {b : List ℕ} {at p₁ p₂ p₃ : ℕ} {r₁ r₂ r₃ r₄ : StdOption ℕ} → Left all (d₁ ∷ d₂ ∷ d₃ ∷ d₄ ∷ []) b at at
    → r₁ ≡ subfield_end d₁ b at → r₁ ≡ Some p₁ → r₂ ≡ subfield_end d₂ b p₁ → r₂ ≡ Some p₂
    → r₃ ≡ subfield_end d₃ b p₂ → r₃ ≡ Some p₃ → r₄ ≡ subfield_end d₄ b p₃ → r₄ ≡ subfields_end all b at
last_three l g₁ o₁ g₂ o₂ g₃ o₃ g = left_last (after_three l g₁ o₁ g₂ o₂ g₃ o₃) g

module _ {all es : List Sub} {d₁ d₂ d₃ d₄ d₅ : Sub} {b : List ℕ} {at p₁ p₂ p₃ p₄ : ℕ} {r₁ r₂ r₃ r₄ : StdOption ℕ} (l : Left all (d₁ ∷ d₂ ∷ d₃ ∷ d₄ ∷ d₅ ∷ es) b at at)
    (g₁ : r₁ ≡ subfield_end d₁ b at) (o₁ : r₁ ≡ Some p₁) (g₂ : r₂ ≡ subfield_end d₂ b p₁) (o₂ : r₂ ≡ Some p₂)
    (g₃ : r₃ ≡ subfield_end d₃ b p₂) (o₃ : r₃ ≡ Some p₃) (g₄ : r₄ ≡ subfield_end d₄ b p₃) (o₄ : r₄ ≡ Some p₄) where
  after_four : Left all (d₅ ∷ es) b at p₄
  after_four = left_on (after_three l g₁ o₁ g₂ o₂ g₃ o₃) g₄ o₄

  pub bad_four : {r : StdOption ℕ} → r ≡ subfield_end d₅ b p₄ → r ≡ None → None ≡ subfields_end all b at
  bad_four g e = left_bad after_four g e

pub last_four_lem : {all : List Sub} {d₁ d₂ d₃ d₄ d₅ : Sub} {b : List ℕ} {at p₁ p₂ p₃ p₄ : ℕ} {r₁ r₂ r₃ r₄ r₅ : StdOption ℕ} → Left all (d₁ ∷ d₂ ∷ d₃ ∷ d₄ ∷ d₅ ∷ []) b at at
    → r₁ ≡ subfield_end d₁ b at → r₁ ≡ Some p₁ → r₂ ≡ subfield_end d₂ b p₁ → r₂ ≡ Some p₂
    → r₃ ≡ subfield_end d₃ b p₂ → r₃ ≡ Some p₃ → r₄ ≡ subfield_end d₄ b p₃ → r₄ ≡ Some p₄
    → r₅ ≡ subfield_end d₅ b p₄ → r₅ ≡ subfields_end all b at
last_four_lem l g₁ o₁ g₂ o₂ g₃ o₃ g₄ o₄ g = left_last (after_four l g₁ o₁ g₂ o₂ g₃ o₃ g₄ o₄) g

module _ {all es : List Sub} {d₁ d₂ d₃ d₄ d₅ d₆ : Sub} {b : List ℕ} {at p₁ p₂ p₃ p₄ p₅ : ℕ} {r₁ r₂ r₃ r₄ r₅ : StdOption ℕ} (l : Left all (d₁ ∷ d₂ ∷ d₃ ∷ d₄ ∷ d₅ ∷ d₆ ∷ es) b at at)
    (g₁ : r₁ ≡ subfield_end d₁ b at) (o₁ : r₁ ≡ Some p₁) (g₂ : r₂ ≡ subfield_end d₂ b p₁) (o₂ : r₂ ≡ Some p₂)
    (g₃ : r₃ ≡ subfield_end d₃ b p₂) (o₃ : r₃ ≡ Some p₃) (g₄ : r₄ ≡ subfield_end d₄ b p₃) (o₄ : r₄ ≡ Some p₄)
    (g₅ : r₅ ≡ subfield_end d₅ b p₄) (o₅ : r₅ ≡ Some p₅) where
  after_five : Left all (d₆ ∷ es) b at p₅
  after_five = left_on (after_four l g₁ o₁ g₂ o₂ g₃ o₃ g₄ o₄) g₅ o₅

  pub bad_five : {r : StdOption ℕ} → r ≡ subfield_end d₆ b p₅ → r ≡ None → None ≡ subfields_end all b at
  bad_five g e = left_bad after_five g e

pub last_five : {all : List Sub} {d₁ d₂ d₃ d₄ d₅ d₆ : Sub} {b : List ℕ} {at p₁ p₂ p₃ p₄ p₅ : ℕ} {r₁ r₂ r₃ r₄ r₅ r₆ : StdOption ℕ} → Left all (d₁ ∷ d₂ ∷ d₃ ∷ d₄ ∷ d₅ ∷ d₆ ∷ []) b at at
    → r₁ ≡ subfield_end d₁ b at → r₁ ≡ Some p₁ → r₂ ≡ subfield_end d₂ b p₁ → r₂ ≡ Some p₂
    → r₃ ≡ subfield_end d₃ b p₂ → r₃ ≡ Some p₃ → r₄ ≡ subfield_end d₄ b p₃ → r₄ ≡ Some p₄
    → r₅ ≡ subfield_end d₅ b p₄ → r₅ ≡ Some p₅ → r₆ ≡ subfield_end d₆ b p₅ → r₆ ≡ subfields_end all b at
last_five l g₁ o₁ g₂ o₂ g₃ o₃ g₄ o₄ g₅ o₅ g = left_last (after_five l g₁ o₁ g₂ o₂ g₃ o₃ g₄ o₄ g₅ o₅) g

-- where one ends, a place of the bytes: said first is what was found last, so that a search goes back from place to place
pub in_next : (n : ℕ) (r : StdOption ℕ) → r ≡ Some n → (d : Sub) (b : List ℕ) (p : ℕ) → r ≡ subfield_end d b p → p ≤ length b → n ≤ length b
in_next n r o d b p g h = row_in d b p n r h g o

pub ruleset often_in = (in_next)

-- ---- which they are

module _ {b : List ℕ} {at : ℕ} (h : at ≤ length b) where
  pub attribute_left : Left (tuple_of AttrNew) (B12 0 65534 ∷ B12 1 65534 ∷ Raw 2 ∷ B11 1 1 ∷ Text ∷ []) b at at
  unfolding tuple_of
  attribute_left = record { inside = h; same = refl }

  pub spatial_left : Left (tuple_of SpasNew) (Among 110 115 115 115 ∷ Raw 4 ∷ Among 1 2 255 255 ∷ Raw 4 ∷ Raw 4 ∷ B11 1 1 ∷ []) b at at
  unfolding tuple_of
  spatial_left = record { inside = h; same = refl }

  pub feature_left : Left (head_of FridNew) (B11 100 100 ∷ B14 1 4294967294 ∷ B12 0 65534 ∷ B12 1 65534 ∷ B11 1 1 ∷ []) b at at
  unfolding head_of
  feature_left = record { inside = h; same = refl }

  pub point_left : Left (head_of PridNew) (B11 110 110 ∷ B14 1 4294967294 ∷ B12 1 65534 ∷ B11 1 1 ∷ []) b at at
  unfolding head_of
  point_left = record { inside = h; same = refl }

  pub association_left : Left (head_of InasNew) (B11 150 150 ∷ Raw 4 ∷ B12 0 65534 ∷ B12 0 65534 ∷ B11 1 1 ∷ []) b at at
  unfolding head_of
  association_left = record { inside = h; same = refl }

pub ruleset often_turn = (attribute_left, spatial_left, feature_left, point_left, association_left, left_bad, bad_one, bad_two, bad_three, bad_four, bad_five, last_three, last_four_lem, last_five)

-- ---- by their rows

module _ (from to : ℕ) (b : List ℕ) (at : ℕ) (r : StdOption ℕ) where
  named : {f t : ℕ} {ds : List Sub} → slice f t table ≡ ds → from ≡ f → to ≡ t → r ≡ subfields_end ds b at → r ≡ subfields_end (slice from to table) b at
  named rows h k e = rw (h, k, rows) e

  pub attribute_rows : from ≡ 68 → to ≡ 73 → r ≡ subfields_end (tuple_of AttrNew) b at → r ≡ subfields_end (slice from to table) b at
  attribute_rows = named (its AttrNew _ refl).tuple_is

  pub spatial_rows : from ≡ 87 → to ≡ 93 → r ≡ subfields_end (tuple_of SpasNew) b at → r ≡ subfields_end (slice from to table) b at
  spatial_rows = named (its SpasNew _ refl).tuple_is

  pub feature_rows : from ≡ 37 → to ≡ 42 → r ≡ subfields_end (head_of FridNew) b at → r ≡ subfields_end (slice from to table) b at
  feature_rows = named (its FridNew _ refl).head_is

  pub point_rows : from ≡ 46 → to ≡ 50 → r ≡ subfields_end (head_of PridNew) b at → r ≡ subfields_end (slice from to table) b at
  point_rows = named (its PridNew _ refl).head_is

  pub association_rows : from ≡ 63 → to ≡ 68 → r ≡ subfields_end (head_of InasNew) b at → r ≡ subfields_end (slice from to table) b at
  association_rows = named (its InasNew _ refl).head_is

pub ruleset named_rows = (attribute_rows, spatial_rows, feature_rows, point_rows, association_rows)
