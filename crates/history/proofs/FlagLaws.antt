-- Laws of the flags of keys. Assumes nothing.
use mathlib.Core.Path.{◌≡◌, refl, sym, ap, ◌∙◌, subst}
use mathlib.Core.Bool.{Bool, true, false, true≢false}
use mathlib.Core.List.{List, [], ◌∷◌, ◌++◌}
use Prim.Native.Nat.{ℕ, ◌/◌, ◌≤◌, ◌<◌}
use native.Mathlib.Omega.{arith}
use borrow.Author.Tests.{eqb-true, eqb-false}
use lib.ListN.{length, take, drop, length-take, length-drop}
use lib.Seq.{drop-drop}
use lib.Dec.{eqb}
use Rattle.base.specs.Choice.{pick, either}
use Rattle.keys.specs.Bits.{flag_of, raised}
use Rattle.keys.specs.Listed.{listed}
use Rattle.keys.proofs.BitLaws.{flag_same, flag_other, raised_long}
use Rattle.keys.proofs.ListLaws.{listed_none, listed_more}
use Rattle.version.specs.Areas.{list_area, inas_area, spas_area, flag_area}
use Rattle.version.specs.Present.{FlagsKept}
use Rattle.version.proofs.AreaLaws.{lent, lent_same, lent_before}
use Rattle.history.specs.Flags.{key_flag, Flags, Marked}

-- ---- which keys have raised flags

pub flags_none : (t : List ℕ) → Flags [] t
unfolding Flags
flags_none t k e = absurd (true≢false (sym e ∙ listed_none k))

-- a key whose flag is not raised is not listed
pub flags_clear : (l t : List ℕ) (k : ℕ) → Flags l t → flag_of t (key_flag k) ≡ false → listed k l ≡ false
unfolding Flags
flags_clear l t k f e = go (listed k l) refl
  where
    go : (b : Bool) → listed k l ≡ b → b ≡ false
    go false y = refl
    go true y = absurd (true≢false (sym (f k y) ∙ e))

-- raising a flag lowers none
raised_keeps : (t : List ℕ) (i j : ℕ) → j / 8 < length t → flag_of t i ≡ true → flag_of (raised t j) i ≡ true
raised_keeps t i j h e = go (eqb i j) refl
  where
    go : (b : Bool) → eqb i j ≡ b → flag_of (raised t j) i ≡ true
    go true x = ap (flag_of (raised t j)) (eqb-true i j x) ∙ flag_same t j h
    go false x = flag_other t i j (eqb-false i j x) ∙ e

either_right : (a b : Bool) → b ≡ false → either a b ≡ true → a ≡ true
either_right true b x e = refl
either_right false b x e = absurd (true≢false (sym e ∙ x))

-- one key more
pub flags_more : (l t v : List ℕ) (k : ℕ) → length t ≡ 14000 → Flags l t → v ≡ raised t (key_flag k) → Flags (l ++ (k ∷ [])) v
unfolding Flags
flags_more l t v k z f e j y = ap (λ (x : List ℕ). flag_of x (key_flag j)) e ∙ go (eqb k j) refl
  where
    room : key_flag k / 8 < length t
    room = omega arith

    go : (b : Bool) → eqb k j ≡ b → flag_of (raised t (key_flag k)) (key_flag j) ≡ true
    go true x = ap (λ (i : ℕ). flag_of (raised t (key_flag k)) (key_flag i)) (sym (eqb-true k j x)) ∙ flag_same t (key_flag k) room
    go false x = raised_keeps t (key_flag j) (key_flag k) room (f j (either_right (listed j l) (eqb k j) x (sym (listed_more j k l) ∙ y)))

-- ---- their area

-- a version leaves them alone
pub flags_kept : (w v : List ℕ) → FlagsKept w v → flag_area v ≡ flag_area w
flags_kept w v e = ap (λ (l : List ℕ). take 14000 l) e

module _ (w : List ℕ) (h : 400000 ≤ length w) where
  pub area_long : length (flag_area w) ≡ 14000
  area_long = omega (arith, length-take 14000 (drop 386000 w), length-drop 386000 w)

  pub area_marked : (key : ℕ) (v : List ℕ) → v ≡ take 386000 w ++ (raised (flag_area w) (key_flag key) ++ drop 14000 (drop 386000 w)) → Marked w key v
  area_marked key v e =
      let ys : List ℕ = raised (flag_area w) (key_flag key) in
      let long : length ys ≡ 14000 = raised_long (flag_area w) (key_flag key) ∙ area_long in
      let back : v ≡ lent 386000 14000 ys w = unfold lent in e in
      record {
        is = e ∙ ap (λ (l : List ℕ). take 386000 w ++ (ys ++ l)) (drop-drop 14000 386000 w);
        flags = ap (λ (x : List ℕ). flag_area x) back ∙ lent_same 386000 14000 ys w long (omega arith);
        list = ap (λ (x : List ℕ). list_area x) back ∙ lent_before 386000 14000 ys w long (omega arith) 0 200000 (omega arith);
        inas = ap (λ (x : List ℕ). inas_area x) back ∙ lent_before 386000 14000 ys w long (omega arith) 200000 92000 (omega arith);
        spas = ap (λ (x : List ℕ). spas_area x) back ∙ lent_before 386000 14000 ys w long (omega arith) 292000 94000 (omega arith);
      }

-- f is the flags of the workspace w
pub flag_there : (w f : List ℕ) → 400000 ≤ length w → f ≡ flag_area w → (key : ℕ) → key_flag key / 8 < length f
flag_there w f h e key = subst (λ (l : List ℕ). key_flag key / 8 < length l) (sym e) (let l = area_long w h in omega arith)

pub flag_is : (w f : List ℕ) → f ≡ flag_area w → (j : ℕ) (b : Bool) → b ≡ flag_of f j → b ≡ flag_of (flag_area w) j
flag_is w f e j b h = subst (λ (l : List ℕ). b ≡ flag_of l j) e h

-- ---- `turns`

module _ (b c : Bool) (j : ℕ) (e : b ≡ c) where
  pub turns_all : b ≡ true → j ≡ pick c j 0
  turns_all x = rw (← e, x)

  pub turns_none : b ≡ false → 0 ≡ pick c j 0
  turns_none x = rw (← e, x)
