-- Laws of what is remembered of the items before an item. Assumes nothing.
use mathlib.Core.Path.{◌≡◌, refl, sym, ap, ◌∙◌}
use mathlib.Core.List.{List}
use mathlib.Core.Logic.{⊎_elim}
use Prim.Native.Nat.{ℕ, zero, suc, ◌+◌, ◌*◌, ◌≤◌, ◌<◌}
use native.Mathlib.Numerals.{add-one}
use native.Mathlib.Omega.{arith}
use lib.ListN.{length, get_or, set, replicate, length-set}
use lib.Seq.{get_or-set_same, get_or-set_other}
use Rattle.forest.proofs.Numbers.{lt_or_le}
use Rattle.items.specs.Items.{depth_of, code_of, twin_at, Same}
use Rattle.items.proofs.ItemLaws.{twin_both, twin_depth, twin_once}
use Rattle.numbering.specs.Numbers.{parent_before, twins_before}
use Rattle.numbering.specs.Known.{Right, KnownTo, Known, NumbersOf}
use Rattle.numbering.proofs.BackLaws.{parent_start, parent_over_less, parent_over, twins_start, twins_over_less, twins_over}

-- ---- looking back from the item after item i

module _ (w : List ℕ) (i d : ℕ) where
  -- item i is less deep
  parent_new : depth_of w i < d → parent_before w d (i + 1) ≡ i + 1
  parent_new h = rw (add-one i) (parent_over_less w d i h)

  twins_new : (c : ℕ) → depth_of w i < d → twins_before w d c (i + 1) ≡ 0
  twins_new c h = rw (add-one i) (twins_over_less w d c i h)

  -- item i is as deep, or deeper
  pub parent_stays : d ≤ depth_of w i → parent_before w d (i + 1) ≡ parent_before w d i
  parent_stays h = rw (add-one i) (parent_over w d i h)

  twins_stay : (c : ℕ) → d < depth_of w i → twins_before w d c (i + 1) ≡ twins_before w d c i
  twins_stay c h =
      let none : twin_at w i d c ≡ 0 = twin_depth w i d c (λ e. omega (arith, e)) in
      rw (add-one i) (omega (arith, twins_over w d c i (omega arith)))

  twins_grow : (c : ℕ) → d ≡ depth_of w i → c ≡ code_of w i → twins_before w d c (i + 1) ≡ twins_before w d c i + 1
  twins_grow c ed ec =
      let one : twin_at w i d c ≡ 1 = twin_both w i d c (sym ed) (sym ec) in
      let at_least : d ≤ depth_of w i = omega arith in
      rw (add-one i) (omega (arith, twins_over w d c i at_least))

-- no more twins than items
pub twins_few : (w : List ℕ) (d c i : ℕ) → twins_before w d c i ≤ i
twins_few w d c zero = omega (arith, twins_start w d c)
twins_few w d c (suc i) =
    ⊎_elim (λ (h : depth_of w i < d). omega (arith, twins_over_less w d c i h)) (λ (h : d ≤ depth_of w i). omega (arith, twins_over w d c i h, twin_once w i d c, twins_few w d c i))
    (lt_or_le (depth_of w i) d)

-- no parent behind the item
pub parent_few : (w : List ℕ) (d i : ℕ) → parent_before w d i ≤ i
parent_few w d zero = omega (arith, parent_start w d)
parent_few w d (suc i) =
    ⊎_elim (λ (h : depth_of w i < d). omega (arith, parent_over_less w d i h)) (λ (h : d ≤ depth_of w i). omega (arith, parent_over w d i h, parent_few w d i))
    (lt_or_le (depth_of w i) d)

-- ---- what is remembered is read

module _ (w : List ℕ) (i : ℕ) (k : List ℕ) (known : Known w i k) (d : ℕ) (h : d < 8) where
  pub parent_known : (get_or k (3 * d) 0 ≡ parent_before w d i) × (get_or k (3 * d) 0 ≤ i)
  parent_known = let p = (known.right d h h).parent in (p, omega (arith, parent_few w d i))

  pub twins_known : (c : ℕ) → get_or k (3 * d + 1) 0 ≡ c → (get_or k (3 * d + 2) 0 ≡ twins_before w d c i) × (get_or k (3 * d + 2) 0 ≤ i)
  twins_known c e =
      let t : get_or k (3 * d + 2) 0 ≡ twins_before w d c i = (known.right d h h).twins ∙ ap (λ (x : ℕ). twins_before w d x i) e in
      (t, omega (arith, twins_few w d c i))

-- zeros
pub zero_at : (n j : ℕ) → ◌≡◌ {A = ℕ} (get_or (replicate n 0) j 0) 0
zero_at zero j = refl
zero_at (suc n) zero = refl
zero_at (suc n) (suc j) = zero_at n j

-- before the first item there is neither a parent nor a twin
pub known_start : (w : List ℕ) → Known w 0 (replicate 24 0)
known_start w =
    record {
      size = refl;
      right = λ d h l. record { parent = zero_at 24 (3 * d) ∙ sym (parent_start w d); twins = zero_at 24 (3 * d + 2) ∙ sym (twins_start w d _) };
    }

-- ---- what is stored

-- two numbers
two_stored : (k : List ℕ) (m p q x y : ℕ) → m ≤ p → m ≤ q → Same k (set (set k p x) q y) m
unfolding Same
two_stored k m p q x y hp hq = λ j h. get_or-set_other (set k p x) q j y 0 (λ e. omega (arith, e)) ∙ get_or-set_other k p j x 0 (λ e. omega (arith, e))

-- what was right of a depth above those that were stored is right
right_same : (w : List ℕ) (i : ℕ) (k k' : List ℕ) (e d : ℕ) → Same k k' (3 * e) → d < e → Right w i k d → Right w i k' d
unfolding Same
right_same w i k k' e d same h r =
    let p : get_or k' (3 * d) 0 ≡ get_or k (3 * d) 0 = same (3 * d) (omega arith) in
    let c : get_or k' (3 * d + 1) 0 ≡ get_or k (3 * d + 1) 0 = same (3 * d + 1) (omega arith) in
    let t : get_or k' (3 * d + 2) 0 ≡ get_or k (3 * d + 2) 0 = same (3 * d + 2) (omega arith) in
    record { parent = p ∙ r.parent; twins = t ∙ r.twins ∙ ap (λ (x : ℕ). twins_before w d x i) (sym c) }

-- one depth more
known_more : (w : List ℕ) (i : ℕ) (k k' : List ℕ) (e : ℕ) → length k' ≡ 24 → Same k k' (3 * e) → ((d : ℕ) → d < e → d < 8 → Right w i k d) → Right w i k' e
    → KnownTo (e + 1) w i k'
known_more w i k k' e size same below here =
    record {
      size = size;
      right = λ d h l.
          ⊎_elim (λ (x : d < e). right_same w i k k' e d same x (below d x l)) (λ (x : e ≤ d). let y : d ≡ e = omega arith in rw y here) (lt_or_le d e);
    }

-- ---- `begin_runs`

-- the loop at depth d, from depth e on
pub record RunsAt (k₀ : List ℕ) (i e : ℕ) (k : List ℕ) (d : ℕ) : Type 0 where
  pub size : length k ≡ 24
  pub later : e ≤ d
  pub right : (w : List ℕ) → depth_of w i < e → KnownTo e w (i + 1) k₀ → KnownTo d w (i + 1) k

pub runs_start : (k : List ℕ) (i e : ℕ) → length k ≡ 24 → RunsAt k i e k e
runs_start k i e size = record { size = size; later = omega arith; right = λ w h r. r }

module _ (k₀ : List ℕ) (i e : ℕ) (k : List ℕ) (d : ℕ) (inv : RunsAt k₀ i e k d) where
  pub runs_turn : d < 8 → RunsAt k₀ i e (set (set k (3 * d) (i + 1)) (3 * d + 2) 0) (d + 1)
  runs_turn h =
      let k₁ : List ℕ = set k (3 * d) (i + 1) in
      let k₂ : List ℕ = set k₁ (3 * d + 2) 0 in
      let n₁ : length k₁ ≡ 24 = length-set k (3 * d) (i + 1) ∙ inv.size in
      let n₂ : length k₂ ≡ 24 = length-set k₁ (3 * d + 2) 0 ∙ n₁ in
      let p : get_or k₂ (3 * d) 0 ≡ i + 1 =
      get_or-set_other k₁ (3 * d + 2) (3 * d) 0 0 (λ z. omega (arith, z)) ∙ get_or-set_same k (3 * d) (i + 1) 0 (omega (arith, inv.size)) in
      let t : get_or k₂ (3 * d + 2) 0 ≡ 0 = get_or-set_same k₁ (3 * d + 2) 0 0 (omega arith) in
      record {
        size = n₂;
        later = omega (arith, inv.later);
        right = λ w l r.
            let less : depth_of w i < d = omega (arith, inv.later) in
            known_more w (i + 1) k k₂ d n₂ (two_stored k (3 * d) (3 * d) (3 * d + 2) (i + 1) 0 (omega arith) (omega arith)) (inv.right w l r).right
            (record { parent = p ∙ sym (parent_new w i d less); twins = t ∙ sym (twins_new w i d (get_or k₂ (3 * d + 1) 0) less) });
      }

  pub runs_done : 8 ≤ d → (w : List ℕ) → depth_of w i < e → KnownTo e w (i + 1) k₀ → Known w (i + 1) k
  runs_done h w l r = let a = inv.right w l r in record { size = a.size; right = λ x y z. a.right x (omega arith) z }

pub ruleset runs_ways = (runs_start, runs_turn, runs_done, length-set, arith)

-- ---- `remember`

module _ (k : List ℕ) (i d c t : ℕ) where
  -- item i is too deep to be remembered
  pub remember_deep : 8 ≤ d → (w : List ℕ) → d ≡ depth_of w i → c ≡ code_of w i → t ≡ twins_before w d c i → Known w i k → Known w (i + 1) k
  remember_deep h w ed ec et known =
      record {
        size = known.size;
        right = λ x y z. let r = known.right x y z in let deep : x < depth_of w i = omega arith in
            record { parent = r.parent ∙ sym (parent_stays w i x (omega arith)); twins = r.twins ∙ sym (twins_stay w i x (get_or k (3 * x + 1) 0) deep) };
      }

  -- its code and its twins are stored
  module _ (h : d < 8) where
    abbrev kept : List ℕ
    kept = set (set k (3 * d + 1) c) (3 * d + 2) (t + 1)

    remember_own : (w : List ℕ) → d ≡ depth_of w i → c ≡ code_of w i → t ≡ twins_before w d c i → Known w i k → KnownTo (d + 1) w (i + 1) kept
    remember_own w ed ec et known =
        let k₁ : List ℕ = set k (3 * d + 1) c in
        let n₁ : length k₁ ≡ 24 = length-set k (3 * d + 1) c ∙ known.size in
        let n₂ : length kept ≡ 24 = length-set k₁ (3 * d + 2) (t + 1) ∙ n₁ in
        let p : get_or kept (3 * d) 0 ≡ get_or k (3 * d) 0 =
        get_or-set_other k₁ (3 * d + 2) (3 * d) (t + 1) 0 (λ z. omega (arith, z)) ∙ get_or-set_other k (3 * d + 1) (3 * d) c 0 (λ z. omega (arith, z)) in
        let q : get_or kept (3 * d + 1) 0 ≡ c =
        get_or-set_other k₁ (3 * d + 2) (3 * d + 1) (t + 1) 0 (λ z. omega (arith, z)) ∙ get_or-set_same k (3 * d + 1) c 0 (omega (arith, known.size)) in
        let r : get_or kept (3 * d + 2) 0 ≡ t + 1 = get_or-set_same k₁ (3 * d + 2) (t + 1) 0 (omega arith) in
        let deep : d ≤ depth_of w i = omega arith in
        known_more w (i + 1) k kept d n₂ (two_stored k (3 * d) (3 * d + 1) (3 * d + 2) c (t + 1) (omega arith) (omega arith))
        (λ x y z. let a = known.right x z z in
        record { parent = a.parent ∙ sym (parent_stays w i x (omega arith)); twins = a.twins ∙ sym (twins_stay w i x (get_or k (3 * x + 1) 0) (omega arith)) })
        (record {
          parent = p ∙ (known.right d h h).parent ∙ sym (parent_stays w i d deep);
          twins = r ∙ ap (λ (x : ℕ). x + 1) et ∙ sym (twins_grow w i d c ed ec) ∙ ap (λ (x : ℕ). twins_before w d x (i + 1)) (sym q);
        })

    pub remember_kept : (k' : List ℕ) → ((w : List ℕ) → depth_of w i < d + 1 → KnownTo (d + 1) w (i + 1) kept → Known w (i + 1) k')
        → (w : List ℕ) → d ≡ depth_of w i → c ≡ code_of w i → t ≡ twins_before w d c i → Known w i k → Known w (i + 1) k'
    remember_kept k' runs w ed ec et known = runs w (omega arith) (remember_own w ed ec et known)

-- ---- `next_numbers`

pub numbers_found : (w : List ℕ) (i d c t k n : ℕ) → d ≡ depth_of w i → c ≡ code_of w i → t ≡ twins_before w d c i → k ≡ parent_before w d i → n ≤ i
    → NumbersOf w i (record { index = t + 1; parent = k; steps = n })
numbers_found w i d c t k n ed ec et ek en =
    record { index_is = ap (λ (x : ℕ). x + 1) (rw (← ed, ← ec) et); parent_is = rw (← ed) ek; few = en }
