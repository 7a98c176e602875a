-- Laws of a body that joins those in cells, or leaves them. Assumes nothing.
use Prim.Native.Nat.{ℕ, suc, ◌+◌, ◌-◌, ◌*◌, ◌≤◌, ◌<◌}
use mathlib.Core.Path.{◌≡◌, refl, sym, ap, ◌∙◌}
use mathlib.Core.Bool.{Bool, true, false}
use mathlib.Core.List.{List, [], ◌∷◌, ◌++◌}
use native.Mathlib.Omega.{arith}
use lib.ListN.{length, take, drop}
use Rattle.memory.specs.Splice.{spliced_in}
use Rattle.std.specs.Prelude.{Option, Some, None, is_some, Result, Ok, Err}
use Rattle.base.specs.Choice.{pick}
use Rattle.base.specs.Check.{Check, ok, refuse, fault}
use Rattle.base.specs.declared.Fault.{Fault}
use Rattle.base.specs.Keys.{among, join, leave}
use Rattle.base.specs.Lists.{each}
use Rattle.base.proofs.CheckLaws.{refused, ok_inj}
use Rattle.skeleton.specs.Place.{between}
use Rattle.items.specs.Items.{source}
use Rattle.skeleton.proofs.BetweenLaws.{length_between}
use Rattle.cells.specs.Cells.{body_at, bodies_of, fields_size}
use Rattle.cells.specs.Keys.{key_in, key_size, first_with, found_in}
use Rattle.cells.specs.Acts.{Acts, Totals}
use Rattle.cells.proofs.CellLaws.{length_bodies, bodies_closed}
use Rattle.cells.proofs.LengthLaws.{size_joined, size_left}
use Rattle.cells.proofs.KeyLaws.{key_part}
use Rattle.cells.proofs.FindLaws.{found_at, found_one, found_none, found_among, absent_among, found_leaves, absent_stays}

-- the body from at to end of u, and the first with its key
module _ (d u c : List ℕ) (n at end : ℕ) (inas : Bool) (j : ℕ) (inside : at + key_size inas ≤ end) where
  abbrev body : List ℕ
  body = between u at end

  abbrev first : ℕ
  first = first_with (key_in inas) (key_in inas (drop at u)) (bodies_of d u c n)

  is_first : first ≡ first_with (key_in inas) (key_in inas body) (bodies_of d u c n)
  is_first = rw (key_part inas (end - at) (drop at u) (omega arith))

  found : first < n → first_with (key_in inas) (key_in inas body) (bodies_of d u c n) < length (bodies_of d u c n)
  found h = omega (arith, is_first, length_bodies d u c n 0)

  absent : (first < n → ⊥) → length (bodies_of d u c n) ≤ first_with (key_in inas) (key_in inas body) (bodies_of d u c n)
  absent h = omega (arith, h, is_first, length_bodies d u c n 0)

  -- what the search answers
  module _ (r : Option ℕ) (is : r ≡ found_in n first) where
    -- it may not join
    pub join_refused : is_some r ≡ true → Acts (join (key_in inas) j body (bodies_of d u c n)) d u c (n + 1) (Err (fault 7 0 j))
    unfolding Acts join
    join_refused h = rw (found_among (key_in inas) (key_in inas body) (bodies_of d u c n) (found (found_one n first r is h)))

    -- it joins
    pub join_done : is_some r ≡ false → (e : List ℕ) (m : ℕ)
        → (m ≡ n + 1) × ((d u : List ℕ) → bodies_of d u e (n + 1) ≡ bodies_of d u c n ++ (between (source 1 d u) at end ∷ []))
        → Acts (join (key_in inas) j body (bodies_of d u c n)) d u e (n + 1) (Ok m)
    unfolding Acts join source
    join_done h e m p =
        let em : m ≡ n + 1 = p.0 in
        rw em (rw (absent_among (key_in inas) (key_in inas body) (bodies_of d u c n) (absent (found_none n first r is h))) (ap ok (sym (p.1 d u))), omega arith)

  -- none has its key
  pub leave_refused : None ≡ found_in n first → Acts (leave (key_in inas) j (key_in inas body) (bodies_of d u c n)) d u c n (Err (fault 9 0 j))
  unfolding Acts
  leave_refused h = absent_stays (key_in inas) (key_in inas body) j (bodies_of d u c n) (absent (found_none n first None h refl))

  -- the first with its key leaves
  pub leave_done : (i : ℕ) → Some i ≡ found_in n first → 7 * n ≤ length c → (e : List ℕ) → e ≡ spliced_in (7 * n) (7 * i) 7 [] c
      → Acts (leave (key_in inas) j (key_in inas body) (bodies_of d u c n)) d u e n (Ok (n - 1))
  unfolding Acts
  leave_done i h room e is =
      let at-i = found_at n first i h in (
        found_leaves (key_in inas) (key_in inas body) j (bodies_of d u c n) (found at-i.0)
            ∙ ap (λ (k : ℕ). ok (take k (bodies_of d u c n) ++ drop (suc k) (bodies_of d u c n))) (sym (at-i.1 ∙ is_first))
            ∙ ap ok (sym (bodies_closed d u c e n i (omega (arith, at-i.0, at-i.1)) room is)),
        omega arith,
      )

-- ---- the bytes of INAS fields

-- a body that joined stands last
joined : (key : List ℕ → List ℕ) (j : ℕ) (b : List ℕ) (xs ys : List (List ℕ)) → join key j b xs ≡ ok ys → ys ≡ xs ++ (b ∷ [])
unfolding join
joined key j b xs ys e = go (among (key b) (each key xs)) e
  where
    go : (t : Bool) → pick t (refuse 7 j) (ok (xs ++ (b ∷ []))) ≡ ok ys → ys ≡ xs ++ (b ∷ [])
    go true z = refused z
    go false z = sym (ok_inj (xs ++ (b ∷ [])) ys z)

-- what joining answers, it answers of an INAS
module _ (x : Check (List (List ℕ))) (d u c : List ℕ) (most : ℕ) (r : Result ℕ Fault) (a : Acts x d u c most r) where
  pub act_done : (m : ℕ) → r ≡ Ok m → Acts x d u c most (Ok m)
  act_done m e = rw e at a

  pub act_fails : (f : Fault) → r ≡ Err f → Acts x d u c most (Err f)
  act_fails f e = rw e at a

module _ (d u c : List ℕ) (n t : ℕ) (is : t ≡ fields_size (bodies_of d u c n)) where
  -- one joined
  pub join_total : (at end : ℕ) → end ≤ length u → (e : List ℕ) (r : Result ℕ Fault) → Acts (join (key_in true) 0 (between u at end) (bodies_of d u c n)) d u e (n + 1) r
      → (m : ℕ) → r ≡ Ok m → Totals d u e (t + (end - at) + 1) (Ok (m, t + (end - at) + 1))
  unfolding Acts Totals
  join_total at end l e r a m x =
      let b = between u at end in
      let long : length b ≡ end - at = length_between u at end l in
      let grown = ap fields_size (joined (key_in true) 0 b (bodies_of d u c n) (bodies_of d u e m) (rw x at a).0) in
      (omega (arith, grown, size_joined (bodies_of d u c n) b), omega arith)

  -- the body of cell i leaves
  module _ (i k : ℕ) (h : i < n) (ek : (k ≡ length (body_at d u c i)) × (k ≤ 16777215)) where
    pub leave_part : k + 1 ≤ t
    leave_part = omega (arith, size_left d u c n i h, ek.0)

    pub leave_total : 7 * n ≤ length c → (e : List ℕ) → e ≡ spliced_in (7 * n) (7 * i) 7 [] c → (more : ℕ) → Totals d u e (t + more + 1) (Ok (n - 1, t - (k + 1)))
    unfolding Totals
    leave_total room e ee more = (omega (arith, size_left d u c n i h, ek.0, ap fields_size (bodies_closed d u c e n i h room ee)), omega arith)

pub no_total : (d u c : List ℕ) (most : ℕ) (f : Fault) → Totals d u c most (Err f)
unfolding Totals
no_total d u c most f = tt

pub ruleset act_ways = (join_refused, join_done, leave_refused, leave_done, arith)

pub ruleset total_ways = (no_total, leave_part, leave_total, arith)
