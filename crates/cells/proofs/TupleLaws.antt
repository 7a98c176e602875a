-- The tuples of a SPAS from p to end of some bytes, one by one: each is 15 bytes. Assumes nothing.
use Prim.Native.Nat.{ℕ, ◌+◌, ◌-◌, ◌*◌, ◌%◌, ◌≤◌, ◌<◌}
use mathlib.Core.Path.{◌≡◌, refl, sym, ap, ap₂, ◌∙◌}
use mathlib.Core.Bool.{true}
use mathlib.Core.Option.{some}
use mathlib.Core.List.{List, [], ◌∷◌}
use native.Mathlib.Omega.{arith}
use lib.ListN.{length, take, drop, length-take}
use lib.Seq.{take-take, drop-drop}
use Rattle.base.specs.Walk.{Got}
use Rattle.base.proofs.ListLaws.{drop_take}
use Rattle.skeleton.specs.Place.{between}
use Rattle.skeleton.proofs.BetweenLaws.{length_between}
use Rattle.fields.specs.Table.{head_of, tuple_of}
use Rattle.fields.specs.Sizes.{sizes}
use Rattle.fields.specs.Values.{Val, values}
use Rattle.fields.specs.Content.{tuples, many, fill}
use Rattle.fields.specs.declared.Format.TheVariants.{Spas, SpasNew}
use Rattle.fields.specs.declared.Sub.{Sub}
use Rattle.fields.proofs.SizeLaws.{all_num, widths, num_widths, sizes_bound}
use Rattle.fields.proofs.TupleLaws.{tuples_end, first_tuple}
use Rattle.fields.proofs.EvenLaws.{fill_even}
use Rattle.cells.proofs.FrontLaws.{sizes_front, one_tuple}

-- the first of some tuples from p to end, and the others
pub record Step (t : List Sub) (s : List ℕ) (p end : ℕ) : Type 0 where
  pub inside : p + 15 ≤ end
  pub taken : sizes t (between s p (p + 15)) ≡ some 15
  pub first : many t (between s p end) ≡ values t (between s p (p + 15)) ∷ many t (between s (p + 15) end)
  pub rest : (tuples t (between s (p + 15) end)).ending ≡ 0

module _ (t : List Sub) (even : all_num t ≡ true) (wide : widths t ≡ 15) (s : List ℕ) (p end : ℕ) where
  pub no_tuple : end ≤ p → many t (between s p end) ≡ []
  unfolding many
  no_tuple h = ap (λ (g : Got (List Val)). g.items) (tuples_end t (between s p end) (omega (arith, length-take (end - p) (drop p s))))

  pub step : p < end → end ≤ length s → (tuples t (between s p end)).ending ≡ 0 → Step t s p end
  unfolding many
  step h l z =
      let size = length_between s p end l in
      let f = first_tuple t (between s p end) (omega arith) z in
      let n : f.bytes ≡ 15 = num_widths t (between s p end) f.bytes even f.taken ∙ wide in
      let taken : sizes t (between s p end) ≡ some 15 = rw n at f.taken in
      let room : 15 ≤ end - p = omega (arith, sizes_bound t (between s p end) 15 taken) in
      let fifteen : p + 15 - p ≡ 15 = omega arith in
      let later : end - p - 15 ≡ end - (p + 15) = omega arith in
      let front : take 15 (between s p end) ≡ between s p (p + 15) = take-take 15 (end - p) (drop p s) room ∙ rw fifteen in
      let back : drop 15 (between s p end) ≡ between s (p + 15) end = drop_take 15 (end - p) (drop p s) ∙ rw (drop-drop, later) in
      let one = sizes_front t (between s p end) 15 15 even taken (omega arith) in
      let found = ap (λ (g : Got (List Val)). g.items) f.found in
      record {
        inside = omega arith;
        taken = rw front at one.0;
        first = found ∙ ap₂ (λ (v : List Val) (l : List ℕ). v ∷ many t l) (sym one.1 ∙ ap (values t) front) (ap (λ (k : ℕ). drop k (between s p end)) n ∙ back);
        rest = ap (λ (l : List ℕ). (tuples t l).ending) (sym back ∙ ap (λ (k : ℕ). drop k (between s p end)) (sym n)) ∙ f.rest;
      }

  -- the first by itself
  pub step_fill : end ≤ length s → Step t s p end → (length (between s p (p + 15)) ≡ 15) × (fill [] t (between s p (p + 15)) ≡ true)
  step_fill l x =
      let inside : p + 15 ≤ end = x.inside in
      let size : length (between s p (p + 15)) ≡ 15 = length_between s p (p + 15) (omega arith) ∙ omega arith in
      (size, one_tuple t (between s p (p + 15)) (omega arith) (x.taken ∙ ap some (sym size)))

-- a SPAS from at to end is so many tuples, as a modify sends it or as it is stored
even_part : (t : List Sub) → all_num t ≡ true → widths t ≡ 15 → (s : List ℕ) (at end : ℕ) → end ≤ length s → fill [] t (between s at end) ≡ true → (end - at) % 15 ≡ 0
even_part t even wide s at end l e =
    let whole : length (between s at end) ≡ 15 * length (many t (between s at end)) = rw wide at (fill_even t even (between s at end) e) in
    omega (arith, length_between s at end l)

module _ (s : List ℕ) (at end : ℕ) (l : end ≤ length s) where
  pub sent_even : fill (head_of Spas) (tuple_of Spas) (between s at end) ≡ true → (end - at) % 15 ≡ 0
  unfolding head_of tuple_of
  sent_even e = even_part (tuple_of Spas) refl refl s at end l e

  pub stored_even : fill (head_of SpasNew) (tuple_of SpasNew) (between s at end) ≡ true → (end - at) % 15 ≡ 0
  unfolding head_of tuple_of
  stored_even e = even_part (tuple_of SpasNew) refl refl s at end l e
