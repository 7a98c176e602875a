-- What loading and a modify's fields do to the associations in lent memory.
use Rattle.std.specs.Prelude.{ℕ, ◌+◌, ◌-◌, ◌/◌, ◌≤◌, ◌≡◌, Bool, true, List, ◌++◌, length, get_or, eqb, Result, Ok, Err}
use Rattle.base.specs.Choice.{pick}
use Rattle.base.specs.Check.{Check, ok, no}
use Rattle.base.specs.declared.Fault.{Fault}
use Rattle.base.specs.Keys.{join, leave}
use Rattle.base.specs.Lists.{each, gather, Each}
use Rattle.skeleton.specs.Place.{between}
use Rattle.fields.specs.Table.{head_of, tuple_of}
use Rattle.fields.specs.Values.{values, num_at}
use Rattle.fields.specs.Content.{fill, many}
use Rattle.fields.specs.declared.Format.TheVariants.{Spas, SpasNew}
use Rattle.rules.specs.Associations.{inas_key}
use Rattle.rules.specs.Record.{Spatial, assoc_of, spatial_of}
use Rattle.rules.specs.Modify.{act_inas, spatial_key}
use Rattle.items.specs.Items.{source}
use Rattle.cells.specs.Cells.{bodies_of, fields_size, spatial_in, tuple_bodies}
use Rattle.cells.specs.Keys.{SpasBody}

-- ---- loading

-- the tuples of the SPAS from at to end, in the slice that x names, were added behind the n bodies of c; now there are m, in e
pub record SpasLoaded (d u : List ℕ) (at end x : ℕ) (c : List ℕ) (n : ℕ) (e : List ℕ) (m : ℕ) : Type 0 where
  pub bodies : bodies_of d u e m ≡ bodies_of d u c n ++ tuple_bodies (source x d u) at ((end - at) / 15)
  pub bytes : gather (λ (b : List ℕ). b) (bodies_of d u e m) ≡ gather (λ (b : List ℕ). b) (bodies_of d u c n) ++ between (source x d u) at end
  pub is : fill (head_of Spas) (tuple_of Spas) (between (source x d u) at end) ≡ true → end ≤ length (source x d u)
      → each spatial_in (bodies_of d u e m) ≡ each spatial_in (bodies_of d u c n) ++ each spatial_of (many (tuple_of Spas) (between (source x d u) at end))
  pub right : fill (head_of SpasNew) (tuple_of SpasNew) (between (source x d u) at end) ≡ true → end ≤ length (source x d u)
      → Each SpasBody (bodies_of d u c n) → Each SpasBody (bodies_of d u e m)

-- ---- one association joins or leaves

-- a body acts on bodies: it joins them, or the one with its key leaves
unfoldable pub act_on : (List ℕ → List ℕ) → Bool → ℕ → List ℕ → List (List ℕ) → Check (List (List ℕ))
act_on key inserted j b bs = pick inserted (join key j b bs) (leave key j (key b) bs)

-- the code's answer: the refusal, or how many cells of c there are now, at most `most`, and they hold the bodies that are left
unfoldable pub Acts : Check (List (List ℕ)) → (d u c : List ℕ) → ℕ → Result ℕ Fault → Type 0
Acts x d u c most (Err f) = x ≡ no f
Acts x d u c most (Ok m) = (x ≡ ok (bodies_of d u c m)) × (m ≤ most)

-- ---- an INAS

-- its answer without the bytes of the bodies
abbrev pub counts : Result (ℕ × ℕ) Fault → Result ℕ Fault
counts (Err f) = Err f
counts (Ok a) = Ok a.0

-- the bytes of the bodies as fields are those of the m cells of c, at most `most`
unfoldable pub Totals : (d u c : List ℕ) → ℕ → Result (ℕ × ℕ) Fault → Type 0
Totals d u c most (Err f) = Unit {0}
Totals d u c most (Ok a) = (a.1 ≡ fields_size (bodies_of d u c a.0)) × (a.1 ≤ most)

-- what an INAS b makes of associations bs: of the bodies, and of what they say
pub record InasNow (b : List ℕ) (bs cs : List (List ℕ)) : Type 0 where
  pub bodies : act_on inas_key (eqb (get_or b 9 0) 1) 0 b bs ≡ ok cs
  pub is : act_inas b (each assoc_of bs) ≡ ok (each assoc_of cs)

unfoldable pub InasActs : (b : List ℕ) (bs : List (List ℕ)) (d u c : List ℕ) → ℕ → Result ℕ Fault → Type 0
InasActs b bs d u c n (Err f) = act_inas b (each assoc_of bs) ≡ no f
InasActs b bs d u c n (Ok m) = InasNow b bs (bodies_of d u c m) × (m ≤ n + 1)

-- ---- a SPAS

-- one tuple, number j, on spatial associations
unfoldable pub act_tuple : ℕ → List ℕ → List Spatial → Check (List Spatial)
act_tuple j b ss =
    let s = spatial_in b in
    pick (eqb (num_at (values (tuple_of Spas) b) 5) 1) (join spatial_key j s ss) (leave spatial_key j s.key ss)

-- what was to be made of the spatial associations, x, and what the code made of them: those of m bodies of c, each a tuple of a stored SPAS
pub record SpasNow (x : Check (List Spatial)) (d u c : List ℕ) (most m : ℕ) : Type 0 where
  pub is : x ≡ ok (each spatial_in (bodies_of d u c m))
  pub few : m ≤ most
  pub right : Each SpasBody (bodies_of d u c m)

unfoldable pub SpasActs : (x : Check (List Spatial)) (d u c : List ℕ) → ℕ → Result ℕ Fault → Type 0
SpasActs x d u c most (Err f) = x ≡ no f
SpasActs x d u c most (Ok m) = SpasNow x d u c most m
