-- Subfields that are numbers stand in the front of some bytes as they stand in the bytes; and the last of them with a narrower range.
-- Assumes nothing.
use Prim.Native.Nat.{ℕ, suc, ◌+◌, ◌-◌, ◌≤◌, ◌<◌}
use mathlib.Core.Path.{◌≡◌, refl, sym, ap, ap₂, ◌∙◌}
use mathlib.Core.Bool.{true}
use mathlib.Core.Option.{some}
use mathlib.Core.List.{List, [], ◌∷◌, ◌++◌}
use native.Mathlib.Omega.{arith}
use borrow.Author.Tests.{le-leb}
use lib.ListN.{length, take, drop, length-take, length-drop}
use Rattle.base.specs.Walk.{Got, before}
use Rattle.base.proofs.ChoiceLaws.{both_hold}
use Rattle.base.proofs.ListLaws.{drop_take}
use Rattle.base.proofs.OptionLaws.{some_inj}
use Rattle.fields.specs.Bytes.{le}
use Rattle.fields.specs.Table.{link, insert}
use Rattle.fields.specs.Sizes.{in_range, num_size, size, sizes}
use Rattle.fields.specs.Values.{Val, num, value, values, num_at, width}
use Rattle.fields.specs.Valid.{allows}
use Rattle.fields.specs.Content.{fill}
use Rattle.fields.specs.Places.{ending_at}
use Rattle.fields.specs.declared.Sub.{Sub}
use Rattle.fields.proofs.SizeLaws.{is_num, all_num, num_size_lem, num_some, sizes_cons, sizes_join}
use Rattle.fields.proofs.TupleLaws.{tuples_end, tuples_on}
use Rattle.fields.proofs.FieldLaws.{list_fill}
use Rattle.fields.proofs.ValueLaws.{num_value, values_first}
use Rattle.cells.proofs.KeyLaws.{le_take}

-- ---- the front of some bytes

-- one number
size_front : (d : Sub) (l : List ℕ) (n m : ℕ) → is_num d ≡ true → size d l ≡ some n → n ≤ m → (size d (take m l) ≡ some n) × (value d (take m l) ≡ value d l)
unfolding num_size
size_front d l n m i e h =
    let r = num_some (width d) (allows d) l n (sym (num_size_lem d l i) ∙ e) in
    let w : width d ≤ m = omega (arith, r.0) in
    let room : width d ≤ length (take m l) = omega (arith, r.1, length-take m l) in
    let same : le (width d) (take m l) ≡ le (width d) l = le_take (width d) m l w in (
      num_size_lem d (take m l) i ∙ simp (le-leb (width d) (length (take m l)) room, same, r.2) (ap some r.0),
      num_value d (take m l) i ∙ ap num same ∙ sym (num_value d l i),
    )

-- several
pub sizes_front : (ds : List Sub) (l : List ℕ) (n m : ℕ) → all_num ds ≡ true → sizes ds l ≡ some n → n ≤ m
    → (sizes ds (take m l) ≡ some n) × (values ds (take m l) ≡ values ds l)
unfolding sizes values
sizes_front [] l n m i e h = (e, refl)
sizes_front (d ∷ ds) l n m i e h =
    let q = both_hold (is_num d) (all_num ds) i in
    let r = sizes_cons d ds l n e in
    let s : r.0 + r.1 ≡ n = r.4 in
    let one = size_front d l r.0 m q.0 r.2 (omega arith) in
    let rest : drop r.0 (take m l) ≡ take (m - r.0) (drop r.0 l) = drop_take r.0 m l in
    let ih = sizes_front ds (drop r.0 l) r.1 (m - r.0) q.1 r.3 (omega arith) in (
      sizes_join d ds (take m l) r.0 r.1 one.0 (ap (sizes ds) rest ∙ ih.0) ∙ ap some s,
      values_first d ds (take m l) r.0 one.0
          ∙ ap₂ (λ (v : Val) (vs : List Val). v ∷ vs) one.1 (ap (values ds) rest ∙ ih.1)
          ∙ sym (values_first d ds l r.0 r.2),
    )

-- ---- an instruction that is insert

-- the last of some subfields says 1
pub last_insert : (ds : List Sub) (l : List ℕ) (n : ℕ) → sizes (ds ++ (link ∷ [])) l ≡ some n → num_at (values (ds ++ (link ∷ [])) l) (length ds) ≡ 1
    → sizes (ds ++ (insert ∷ [])) l ≡ some n
unfolding sizes values size value num_size
last_insert [] l n e x =
    let r = sizes_cons link [] l n e in
    let q = num_some 1 (in_range 1 2) l r.0 r.2 in
    let s : r.0 + r.1 ≡ n = r.4 in
    let z : 0 ≡ r.1 = some_inj r.3 in
    let y : le 1 l ≡ 1 = x in
    simp (le-leb 1 (length l) q.1, y) (ap some (omega (arith, q.0)))
last_insert (d ∷ ds) l n e x =
    let r = sizes_cons d (ds ++ (link ∷ [])) l n e in
    let later : num_at (values (ds ++ (link ∷ [])) (drop r.0 l)) (length ds) ≡ 1 =
    ap (λ (vs : List Val). num_at vs (suc (length ds))) (sym (values_first d (ds ++ (link ∷ [])) l r.0 r.2)) ∙ x
    in
    sizes_join d (ds ++ (insert ∷ [])) l r.0 r.1 r.2 (last_insert ds (drop r.0 l) r.1 r.3 later) ∙ ap some r.4

-- ---- one tuple fills the bytes

pub one_tuple : (t : List Sub) (b : List ℕ) → 0 < length b → sizes t b ≡ some (length b) → fill [] t b ≡ true
unfolding ending_at
one_tuple t b h e =
    list_fill t b
    (ap (λ (g : Got (List Val)). g.ending)
    (tuples_on t b h (length b) e h ∙ ap (before (values t b)) (tuples_end t (drop (length b) b) (omega (arith, length-drop (length b) b)))))
