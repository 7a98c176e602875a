use mathlib.Core.Path.{◌≡◌, refl, sym, ap, ◌∙◌}
use mathlib.Core.Bool.{Bool, true, false}
use mathlib.Core.List.{List}
use Prim.Native.Nat.{ℕ}
use lib.Dec.{eqb}
use mir.Val.{bool_byte}
use borrow.Author.Tests.{eq-eqb, ne_eqb}
use Rattle.base.specs.Choice.{pick}
use Rattle.items.specs.Items.{depth_of, code_of, twin_at}
use Rattle.items.proofs.ItemLaws.{twin_depth, twin_once}
use Rattle.items.proofs.item.twin.Goals.{then-number-depth, else-number-depth}
use Rattle.items.proofs.item.twin.Goals as goal

-- the depth is the same, and the code is compared
same : (w : List ℕ) (i d c m r : ℕ) (t : Bool) → depth_of w i ≡ d → m ≡ code_of w i → t ≡ eqb m c → r ≡ bool_byte t → r ≡ twin_at w i d c
unfolding twin_at
same w i d c m r t e f g h = h ∙ ap bool_byte (g ∙ ap (λ (x : ℕ). eqb x c) f) ∙ byte (eqb (code_of w i) c) ∙ sym (rw (eq-eqb (depth_of w i) d e))
  where
    byte : (b : Bool) → bool_byte b ≡ pick b 1 0
    byte true = refl
    byte false = refl

-- another depth
other : (w : List ℕ) (i d c m r : ℕ) (t : Bool) → m ≡ depth_of w i → (m ≡ d → ⊥) → t ≡ eqb m d → r ≡ bool_byte t → r ≡ twin_at w i d c
other w i d c m r t e f g h = h ∙ ap bool_byte (g ∙ ne_eqb m d f) ∙ sym (twin_depth w i d c (λ x. f (e ∙ x)))

pub returns : goal.returns
returns c = let a = c.args in
    let e : c.from.result ≡ twin_at a.w.now a.i a.depth a.code = elim c.if-number-depth.branch [
      | then-number-depth w ↦ same _ _ _ _ _ _ _ (sym c.number.ensures.0 ∙ w.if-number-depth.true) w.number-then-number-depth.ensures.0 w.from-is c.from.ensures
      | else-number-depth w ↦ other _ _ _ _ _ _ _ c.number.ensures.0 w.if-number-depth.false w.from-is c.from.ensures
    ] in
    (e, rw e (twin_once a.w.now a.i a.depth a.code))
