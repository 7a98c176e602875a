-- Coordinates of fields that are made of bytes, and edits of them by place. Assumes nothing.
use Prim.Native.Nat.{ℕ, ◌+◌, ◌-◌}
use mathlib.Core.Path.{◌≡◌, refl, sym, ap, ◌∙◌}
use mathlib.Core.Bool.{true}
use mathlib.Core.List.{List, [], ◌∷◌}
use native.Mathlib.Omega.{arith}
use lib.ListN.{length, take}
use lib.Dec.{eqb, leb}
use Rattle.base.specs.Check.{ok}
use Rattle.base.specs.Choice.{pick}
use Rattle.base.specs.Lists.{each, Each}
use Rattle.base.specs.Walk.{Got}
use Rattle.base.proofs.ChoiceLaws.{by_test}
use Rattle.base.proofs.CheckLaws.{ok_inj, refused}
use Rattle.base.proofs.EachLaws.{each_nil, each_map, each_join, each_taken, each_dropped}
use Rattle.fields.specs.Table.{head_of, tuple_of}
use Rattle.fields.specs.Values.{Val, values}
use Rattle.fields.specs.Content.{tuples, many}
use Rattle.fields.specs.Valid.{Bytes, pass_all, Has}
use Rattle.fields.specs.Places.{ending_at}
use Rattle.fields.specs.declared.Format.TheVariants.{C2it, C2il}
use Rattle.fields.proofs.FieldLaws.{fill_list, head_tuple, head_length_lem}
use Rattle.fields.proofs.EncodeLaws.{pass_many}
use Rattle.rules.specs.Place.{Place, placed}
use Rattle.rules.specs.Coordinates.{coord_of, coords_in}
use Rattle.rules.specs.Written.{coord_vals}
use Rattle.sequence.proofs.Tests.{by_bool}
use Rattle.updates.proofs.Kept.{of_each}
use Rattle.sound.specs.Sound.{SoundCoord}
use Rattle.sound.proofs.Values.{nums_from, all_nums, each_pass}

-- a tuple that passes
coord_made : (vs : List Val) → pass_all (tuple_of C2il) vs ≡ true → SoundCoord (coord_of vs)
unfolding coord_vals coord_of tuple_of nums_from
coord_made vs p = ap (pass_all (tuple_of C2il)) (sym (all_nums (tuple_of C2il) vs refl p)) ∙ p

-- tuples that fill bytes
coords_made : (b : List ℕ) → Bytes b → (tuples (tuple_of C2il) b).ending ≡ 0 → Each SoundCoord (coords_in b)
unfolding coords_in
coords_made b g e =
    of_each SoundCoord coord_of (many (tuple_of C2il) b) (each_map (many (tuple_of C2il) b) coord_made (each_pass (tuple_of C2il) _ (pass_many (tuple_of C2il) b e g)))

-- those of a C2IL
pub list_read : (b : List ℕ) → Bytes b → Has C2il b → Each SoundCoord (coords_in b)
unfolding head_of ending_at
list_read b g e = coords_made b g (fill_list (tuple_of C2il) b e)

-- a C2IT is one tuple
point_tuple : (b : List ℕ) → Has C2it b → tuples (tuple_of C2il) b ≡ record { items = values (tuple_of C2il) b ∷ []; ending = 0 }
unfolding head_of tuple_of
point_tuple b e = let l : length b ≡ 8 = head_length_lem (head_of C2it) b refl e in head_tuple (head_of C2it) b (omega arith) e

-- that of a C2IT
pub point_read : (b : List ℕ) → Bytes b → Has C2it b → Each SoundCoord (coords_in b) × (length (coords_in b) ≡ 1)
unfolding coords_in many each
point_read b g e =
    (coords_made b g (ap (λ (x : Got (List Val)). x.ending) (point_tuple b e)), ap (λ (x : Got (List Val)). length (each coord_of x.items)) (point_tuple b e))

-- ---- edits by place

-- what is placed among things that have P
pub placed_each : {A : Type 0} (P : A → Type 0) (p : Place) (new xs ys : List A) → Each P new → Each P xs → placed p new xs ≡ ok ys → Each P ys
unfolding placed
placed_each P p new xs ys n e h =
    let before = each_taken P (p.index - 1) xs e in
    let from = each_dropped P (p.index - 1) xs e in
    by_bool (eqb p.instruction 1)
    (λ i. by_bool (leb p.index (length xs + 1))
    (λ l. rw (← ok_inj _ ys (rw (i, l) at h)) (each_join P (take (p.index - 1) xs) _ before (each_join P new _ n from)))
    (λ l. refused (rw (i, l) at h)))
    (λ i. by_bool (leb (p.index + p.count - 1) (length xs))
    (λ l. rw (← ok_inj _ ys (rw (i, l) at h))
    (each_join P (take (p.index - 1) xs) _ before
    (each_join P (pick (eqb p.instruction 2) [] new) _ (by_test (Each P) (eqb p.instruction 2) [] new (λ _. each_nil P) (λ _. n)) (each_dropped P p.count _ from))))
    (λ l. refused (rw (i, l) at h)))
