-- Laws of one step of the result. Assumes nothing.
use Prim.Native.Nat.{ℕ, ◌*◌, ◌≤◌}
use mathlib.Core.Path.{◌≡◌, refl, sym, subst}
use mathlib.Core.Bool.{Bool}
use mathlib.Core.Option.{Option, some, none}
use mathlib.Core.List.{List, [], ◌∷◌}
use native.Mathlib.Omega.{arith}
use Rattle.std.specs.Prelude.{Option as StdOption, Some, None, Result, Ok, Err}
use Rattle.base.specs.Check.{ok, no, pass}
use Rattle.base.specs.declared.Fault.{Fault}
use Rattle.base.proofs.CheckLaws.{ok_no, ok_inj}
use Rattle.base.proofs.OptionLaws.{never, some_inj}
use Rattle.rules.specs.Record.{Rec}
use Rattle.rules.specs.Written.{written_fields, number12}
use Rattle.rules.proofs.LengthLaws.{short_record}
use Rattle.version.specs.Areas.{flag_area}
use Rattle.version.specs.Held.{Held}
use Rattle.version.specs.Present.{HeldAs, ChangedTo}
use Rattle.version.specs.declared.Version.{Version}
use Rattle.composing.specs.Kept.{Kept, MadeHeld}
use Rattle.composing.specs.Made.{MadeOf}
use Rattle.lasting.specs.Step.{Stepped}
use Rattle.lasting.specs.Stays.{step_by, Stays, HeldStep, LastStep}
use Rattle.lasting.specs.declared.Step.{Step}
use Rattle.lasting.specs.declared.Step.TheVariants.{Loose, One}

-- ---- `step_of`

pub step_loose : (m : StdOption ℕ) → m ≡ None → Loose ≡ step_by m
unfolding step_by
step_loose m e = rw e

pub step_one : (m : StdOption ℕ) (n : ℕ) → m ≡ Some n → One n ≡ step_by m
unfolding step_by
step_one m n e = rw e

pub ruleset step_ways = (step_loose, step_one)

-- ---- a record that can be written

module _ (d : List ℕ) (ds : ℕ) (u : List ℕ) (us : ℕ) (flags : List ℕ) (sure : Bool) (to : ℕ) (before out : List ℕ) where
  -- what was made of it is a step
  pub made_step : (r : Rec) → number12 (written_fields r) ≡ pass → (m : StdOption ℕ) → MadeOf d ds u us flags sure r to before out m → Stepped d ds u us flags sure (r ∷ []) to before out (step_by m)
  unfolding Stepped step_by
  made_step r f None o = (r, refl, unfold MadeOf in o)
  made_step r f (Some n) o = (r, refl, o, unfold MadeOf in (let e = o.1.next in let s = short_record (written_fields r) f in omega arith))

  -- of other records, which are the same
  pub stepped_as : (rs qs : List Rec) → qs ≡ rs → (s : Step) → Stepped d ds u us flags sure rs to before out s → Stepped d ds u us flags sure qs to before out s
  stepped_as rs qs e s x = subst (λ (l : List Rec). Stepped d ds u us flags sure l to before out s) (sym e) x

-- ---- `held_step`: f is the workspace's flags

module _ (d : List ℕ) (ds : ℕ) (u : List ℕ) (us : ℕ) (f w : List ℕ) (e : f ≡ flag_area w) (sure : Bool) (to : ℕ) (before out : List ℕ) where
  pub step_flags : (rs : List Rec) (s : Step) → Stepped d ds u us f sure rs to before out s → Stepped d ds u us (flag_area w) sure rs to before out s
  step_flags rs s x = subst (λ (g : List ℕ). Stepped d ds u us g sure rs to before out s) e x

  pub held_step : (v : Version) (m : StdOption ℕ) → MadeHeld d ds u us f sure w v to before out m → (s : Step) → s ≡ step_by m → HeldStep d ds u us w sure to before out v s
  unfolding MadeHeld HeldStep
  held_step v m y s z r h o k =
      step_flags (r ∷ []) s (subst (λ (x : Step). Stepped d ds u us f sure (r ∷ []) to before out x) (sym z) (made_step d ds u us f sure to before out r k m (y r h o)))

-- nothing comes of no record, but there is one
module _ (d u w : List ℕ) (c : Result (StdOption Version) Fault) where
  pub stays_not : {X : Type 0} (f : Fault) → c ≡ Err f → (r : Rec) → ChangedTo d u w (ok (some r)) c → X
  unfolding ChangedTo
  stays_not f e r x = let y : ok (some r) ≡ no f = subst (ChangedTo d u w (ok (some r))) e x in ok_no y

  module _ (p : StdOption Version) (e : c ≡ Ok p) (r : Rec) (x : ChangedTo d u w (ok (some r)) c) where
    stays_as : HeldAs d u w p (some r)
    unfolding ChangedTo
    stays_as =
        let y : (o : Option Rec) × (ok (some r) ≡ ok o) × HeldAs d u w p o = subst (ChangedTo d u w (ok (some r))) e x in
        subst (HeldAs d u w p) (sym (ok_inj (some r) y.0 y.1)) y.2

    pub stays_absent : {X : Type 0} → p ≡ None → X
    unfolding HeldAs
    stays_absent a = let y : some r ≡ none = subst (λ (q : StdOption Version). HeldAs d u w q (some r)) a stays_as in never y

    pub stays_held : (v : Version) → p ≡ Some v → Held d u w v r × (number12 (written_fields r) ≡ pass)
    unfolding HeldAs
    stays_held v a =
        let y : (s : Rec) × (some r ≡ some s) × Held d u w v s × (number12 (written_fields s) ≡ pass) = subst (λ (q : StdOption Version). HeldAs d u w q (some r)) a stays_as in
        subst (λ (s : Rec). Held d u w v s × (number12 (written_fields s) ≡ pass)) (sym (some_inj y.1)) (y.2, y.3)

  -- the version that is written
  pub stays_kept : (p : StdOption Version) → c ≡ Ok p → (v : Version) → p ≡ Some v → Stays d u w c → Kept d u w v
  stays_kept p e v a s = let y = stays_held p e s.rec s.came v a in record { rec = s.rec; held = y.0; short = short_record (written_fields s.rec) y.1 }

  module _ (ds us : ℕ) (sure : Bool) (to : ℕ) (before out : List ℕ) (s : Step) where
    pub last_held : (p : StdOption Version) → c ≡ Ok p → (v : Version) → p ≡ Some v → HeldStep d ds u us w sure to before out v s → LastStep d ds u us w sure to before out c s
    unfolding HeldStep LastStep
    last_held p e v a h r o x = let y = stays_held p e r x v a in h r y.0 o y.1

    pub last_absent : (p : StdOption Version) → c ≡ Ok p → p ≡ None → LastStep d ds u us w sure to before out c s
    unfolding LastStep
    last_absent p e a r o x = stays_absent p e r x a

    pub last_refused : (f : Fault) → c ≡ Err f → LastStep d ds u us w sure to before out c s
    unfolding LastStep
    last_refused f e r o x = stays_not f e r x

pub ruleset last_ways = (stays_kept, last_held, last_absent, last_refused)

-- a version that can be written has room
pub kept_inas : (d u w : List ℕ) (v : Version) → Kept d u w v → 7 * v.inas ≤ 92000
kept_inas d u w v k = k.held.parts.inas_room

pub kept_spas : (d u w : List ℕ) (v : Version) → Kept d u w v → 7 * v.spas ≤ 94000
kept_spas d u w v k = k.held.parts.spas_room
