-- Fields that stand in the order of rows: their tags have rows, and a tag that may stand once stands once. Assumes nothing.
use Prim.Native.Nat.{ℕ, ◌+◌, ◌≤◌}
use mathlib.Core.Path.{◌≡◌, refl, sym, ap, ◌∙◌}
use mathlib.Core.Bool.{Bool, true, false, not, true≢false}
use mathlib.Core.Option.{Option, some, none}
use mathlib.Core.List.{List, [], ◌∷◌}
use native.Mathlib.Omega.{arith}
use lib.ListN.{length}
use lib.Dec.{eqb}
use borrow.Author.Tests.{eqb-true, eq-eqb, not-true}
use Rattle.base.specs.Choice.{pick, both}
use Rattle.base.specs.Check.{Passed, pass}
use Rattle.base.specs.Lists.{Each}
use Rattle.base.proofs.ChoiceLaws.{both_hold}
use Rattle.base.proofs.OptionLaws.{never, some_inj}
use Rattle.base.proofs.CheckLaws.{refused}
use Rattle.base.proofs.EachLaws.{each_map}
use Rattle.skeleton.specs.File.{Field}
use Rattle.rules.specs.ByTag.{with_tag}
use Rattle.rules.specs.Kind.{Row}
use Rattle.rules.specs.Grammar.{rows_after, on_rows, in_order}
use Rattle.sequence.proofs.Tests.{by_bool}
use Rattle.sound.specs.Sound.{rowed}

-- ---- the rows behind a field

-- what a field leaves, and how it goes on
on_inv : (o : Option (List Row)) (i : ℕ) (go : List Row → Passed) → on_rows o i go ≡ pass → (left : List Row) × (o ≡ some left) × (go left ≡ pass)
on_inv none i go e = refused e
on_inv (some left) i go e = (left, refl, e)

-- there was a row for it, and each that is left was there
after_rowed : (t : ℕ) (rows left : List Row) → rows_after t rows ≡ some left → (rowed t rows ≡ true) × ((u : ℕ) → rowed u left ≡ true → rowed u rows ≡ true)
unfolding rows_after rowed
after_rowed t [] left e = never (sym e)
after_rowed t (r ∷ rs) left e =
    by_bool (eqb r.tag t)
    (λ h. (rw h, here r.often (rw h at e)))
    (λ h. let (a, b) = after_rowed t rs left (rw h at e) in (rw h a, λ u x. later u (b u x)))
  where
    later : (u : ℕ) → rowed u rs ≡ true → pick (eqb r.tag u) true (rowed u rs) ≡ true
    later u x = by_bool (eqb r.tag u) (λ h. rw h) (λ h. rw h x)

    here : (o : Bool) → some (pick o (r ∷ rs) rs) ≡ some left → (u : ℕ) → rowed u left ≡ true → pick (eqb r.tag u) true (rowed u rs) ≡ true
    here true e u x = let z : r ∷ rs ≡ left = some_inj e in rw (← z) at x
    here false e u x = let z : rs ≡ left = some_inj e in later u (rw (← z) at x)

-- ---- tags that have rows

-- each field has one of all rows, and none is shut out
order_all : (shut : ℕ → Bool) (all rows : List Row) (i : ℕ) (fs : List Field) → ((u : ℕ) → rowed u rows ≡ true → rowed u all ≡ true) → in_order shut rows i fs ≡ pass
    → Each (λ f. (rowed f.tag all ≡ true) × (shut f.tag ≡ false)) fs
unfolding Each in_order
order_all shut all rows i [] w e = tt
order_all shut all rows i (f ∷ fs) w e =
    by_bool (shut f.tag)
    (λ h. refused (rw h at e))
    (λ h.
    let (left, a, b) = on_inv (rows_after f.tag rows) i _ (rw h at e) in
    let (c, d) = after_rowed f.tag rows left a in
    ((w f.tag c, h), order_all shut all left (i + 1) fs (λ u x. w u (d u x)) b))

-- each field has a row
pub order_rowed : (shut : ℕ → Bool) (rows : List Row) (i : ℕ) (fs : List Field) → in_order shut rows i fs ≡ pass
    → Each (λ f. (rowed f.tag rows ≡ true) × (shut f.tag ≡ false)) fs
order_rowed shut rows i fs e = order_all shut rows rows i fs (λ u x. x) e

-- a tag without a row stands nowhere
pub tag_none : (t : ℕ) (rows : List Row) (fs : List Field) → Each (λ f. rowed f.tag rows ≡ true) fs → rowed t rows ≡ false → with_tag t fs ≡ []
unfolding with_tag Each
tag_none t rows [] e h = refl
tag_none t rows (f ∷ fs) e h =
    by_bool (eqb f.tag t)
    (λ x. absurd (true≢false (sym e.0 ∙ ap (λ (u : ℕ). rowed u rows) (eqb-true f.tag t x) ∙ h)))
    (λ x. rw (x, tag_none t rows fs e.1 h))

-- ---- at most once

-- by the rows, tag t stands at most once
unfoldable pub most : ℕ → List Row → Bool
most t [] = true
most t (r ∷ rs) = pick (eqb r.tag t) (both (not r.often) (not (rowed t rs))) (most t rs)

-- a tag without a row stands at most once
none_most : (t : ℕ) (rows : List Row) → rowed t rows ≡ false → most t rows ≡ true
unfolding rowed most
none_most t [] e = refl
none_most t (r ∷ rs) e = by_bool (eqb r.tag t) (λ h. absurd (true≢false (rw h at e))) (λ h. rw h (none_most t rs (rw h at e)))

-- behind a field with tag u, tag t stands at most once, and not at all where u is t
after_most : (t u : ℕ) (rows left : List Row) → rows_after u rows ≡ some left → most t rows ≡ true → (most t left ≡ true) × (u ≡ t → rowed t left ≡ false)
unfolding rows_after most
after_most t u [] left e m = never (sym e)
after_most t u (r ∷ rs) left e m =
    by_bool (eqb r.tag u)
    (λ h. here (eqb-true r.tag u h) r.often refl (rw h at e))
    (λ h. after_most t u rs left (rw h at e) tail)
  where
    no_more : eqb r.tag t ≡ true → rowed t rs ≡ false
    no_more h = not-true (rowed t rs) (both_hold (not r.often) _ (rw h at m)).1

    often_no : r.often ≡ true → eqb r.tag t ≡ true → ⊥
    often_no o h = true≢false (sym o ∙ not-true r.often (both_hold (not r.often) _ (rw h at m)).0)

    tail : most t rs ≡ true
    tail = by_bool (eqb r.tag t) (λ h. none_most t rs (no_more h)) (λ h. rw h at m)

    here : r.tag ≡ u → (o : Bool) → r.often ≡ o → some (pick o (r ∷ rs) rs) ≡ some left → (most t left ≡ true) × (u ≡ t → rowed t left ≡ false)
    here h true o e = let z : r ∷ rs ≡ left = some_inj e in rw (← z) (m, λ q. absurd (often_no o (eq-eqb r.tag t (h ∙ q))))
    here h false o e = let z : rs ≡ left = some_inj e in rw (← z) (tail, λ q. no_more (eq-eqb r.tag t (h ∙ q)))

-- a tag that may stand once stands at most once
pub order_once : (shut : ℕ → Bool) (t : ℕ) (rows : List Row) (i : ℕ) (fs : List Field) → most t rows ≡ true → in_order shut rows i fs ≡ pass → length (with_tag t fs) ≤ 1
unfolding in_order with_tag
order_once shut t rows i [] m e = omega arith
order_once shut t rows i (f ∷ fs) m e =
    by_bool (shut f.tag)
    (λ h. refused (rw h at e))
    (λ h.
    let (left, a, b) = on_inv (rows_after f.tag rows) i _ (rw h at e) in
    let (c, d) = after_most t f.tag rows left a m in
    by_bool (eqb f.tag t)
    (λ x. let z : with_tag t fs ≡ [] = none_left left b (d (eqb-true f.tag t x)) in rw (x, z) (omega arith))
    (λ x. rw x (order_once shut t left (i + 1) fs c b)))
  where
    none_left : (left : List Row) → in_order shut left (i + 1) fs ≡ pass → rowed t left ≡ false → with_tag t fs ≡ []
    none_left left b n = tag_none t left fs (each_map fs (λ f q. q.0) (order_rowed shut left (i + 1) fs b)) n
