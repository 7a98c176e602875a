-- Laws of the count of the fields that are written. Assumes nothing.
use Prim.Native.Nat.{ℕ, ◌+◌, ◌-◌, ◌*◌, ◌^◌, ◌≤◌, ◌<◌}
use mathlib.Core.Path.{◌≡◌, sym, ap, ◌∙◌}
use mathlib.Core.Bool.{Bool}
use mathlib.Core.List.{List, []}
use native.Mathlib.Nat.{zero-add}
use native.Mathlib.Omega.{arith}
use lib.ListN.{length}
use Rattle.std.specs.Prelude.{Option, Some, None}
use Rattle.skeleton.specs.File.{Field}
use Rattle.skeleton.specs.Emit.{sizes}
use Rattle.skeleton.specs.declared.directory.Shape.{Shape}
use Rattle.rules.specs.Written.{written_length}
use Rattle.writing.specs.Found.{house_at, Found, Next, Summed}
use Rattle.writing.specs.declared.joining.Written.{Written}
use Rattle.writing.specs.declared.measuring.Sum.{Sum}

-- ---- a field that was found

module _ (joins : Bool) (r : List ℕ) (h : Shape) (q : ℕ) (e : Option Written) (en : Next joins r h q e) where
  -- there is none
  pub nothing : e ≡ None → house_at joins r h q ≡ []
  unfolding Next
  nothing x = rw x at en

  module _ (v : Written) (x : e ≡ Some v) where
    pub found : Found joins r h q v
    unfolding Next
    found = rw x at en

    pub found_falls : length r - v.after < length r - q
    found_falls = let f = found in let i = f.inside in let k = f.further in omega arith

    pub found_size : length r ≤ 16777216 → v.size + 1 ≤ 281474993487872
    found_size g = let f = found in let i = f.inside in let s = f.small in omega arith

    -- the word that holds its size and its 1E
    pub found_word : length r ≤ 16777216 → v.size + 1 < 2 ^ 64
    found_word g = let s = found_size g in omega arith

    -- it is one field more
    pub found_count : length (house_at joins r h q) ≡ 1 + length (house_at joins r h v.after)
    found_count = ap length found.fields ∙ omega arith

    -- of so many bytes
    pub found_bytes : sizes (house_at joins r h q) ≡ v.size + 1 + sizes (house_at joins r h v.after)
    unfolding sizes
    found_bytes = ap sizes found.fields ∙ ap (λ (m : ℕ). m + 1 + sizes (house_at joins r h v.after)) (sym found.size_is)

-- ---- `count_written`

-- the loop at q, where so many fields were found, of so many bytes
pub record CountedAt (joins : Bool) (r : List ℕ) (h : Shape) (q fields bytes : ℕ) : Type 0 where
  pub count : fields + length (house_at joins r h q) ≡ length (house_at joins r h 24)
  pub size : bytes + sizes (house_at joins r h q) ≡ sizes (house_at joins r h 24)
  pub few : fields + 24 ≤ q
  pub small : bytes + 16777217 * 24 ≤ 16777217 * q
  pub inside : q ≤ length r + 24

pub counted_start : (joins : Bool) (r : List ℕ) (h : Shape) → CountedAt joins r h 24 0 0
counted_start joins r h = record { count = zero-add _; size = zero-add _; few = omega arith; small = omega arith; inside = omega arith }

module _ (joins : Bool) (r : List ℕ) (h : Shape) (q fields bytes : ℕ) (inv : CountedAt joins r h q fields bytes) (e : Option Written) (en : Next joins r h q e)
    (g : length r ≤ 16777216) where
  pub counted_done : e ≡ None → Summed (house_at joins r h 24) (record { fields = fields; bytes = bytes })
  unfolding sizes
  counted_done x =
      let z = nothing joins r h q e en x in
      let a : length (house_at joins r h q) ≡ 0 = ap length z in
      let b : sizes (house_at joins r h q) ≡ 0 = ap sizes z in
      let i = inv.inside in let f = inv.few in let s = inv.small in
      record { fields_are = omega (arith, inv.count); bytes_are = omega (arith, inv.size); few = omega arith; small = omega arith }

  pub counted_word : fields + 1 < 2 ^ 64
  counted_word = let f = inv.few in let i = inv.inside in omega arith

  module _ (v : Written) (x : e ≡ Some v) where
    pub counted_bytes : bytes + (v.size + 1) < 2 ^ 64
    counted_bytes = let s = found_size joins r h q e en v x g in let b = inv.small in let i = inv.inside in omega arith

    pub counted_more : CountedAt joins r h v.after (fields + 1) (bytes + (v.size + 1))
    counted_more =
        let f = found joins r h q e en v x in
        let k = f.further in let i = f.inside in let s = f.small in let b = inv.small in let w = inv.few in
        record {
          count = omega (arith, inv.count, found_count joins r h q e en v x);
          size = omega (arith, inv.size, found_bytes joins r h q e en v x);
          few = omega arith;
          small = omega arith;
          inside = omega arith;
        }

pub ruleset count_turn = (counted_start, counted_done, counted_word, counted_bytes, counted_more, found_falls, found_word)

-- ---- the length of a record

-- the fields fs, counted in s
module _ (fs : List Field) (s : Sum) (e : Summed fs s) where
  pub length_product : 14 * s.fields < 2 ^ 64
  length_product = let f = e.few in omega arith

  pub length_head : 25 + 14 * s.fields < 2 ^ 64
  length_head = let f = e.few in omega arith

  pub length_word : 25 + 14 * s.fields + s.bytes < 2 ^ 64
  length_word = let f = e.few in let b = e.small in omega arith

  pub length_is : 25 + 14 * s.fields + s.bytes ≡ written_length fs
  unfolding written_length
  length_is = omega (arith, e.fields_are, e.bytes_are)

  pub length_told : (n : ℕ) → n ≡ 25 + 14 * s.fields + s.bytes → n ≡ written_length fs
  length_told n h = h ∙ length_is

pub ruleset length_ways = (length_product, length_head, length_word, length_is, length_told)
