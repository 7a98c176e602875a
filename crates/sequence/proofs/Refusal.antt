-- A run is refused at the first update record whose change of its own version is refused, with that fault; else it is done. Assumes nothing.
use Prim.Native.Nat.{ℕ, suc, ◌+◌}
use mathlib.Core.Path.{◌≡◌, refl, sym, ap, ◌∙◌}
use mathlib.Core.Logic.{◌↔◌}
use mathlib.Core.Option.{Option}
use mathlib.Core.List.{List, [], ◌∷◌, ◌++◌, append_assoc, append-nil}
use native.Mathlib.Omega.{arith}
use lib.ListN.{length}
use Rattle.base.specs.Check.{Check, ok, no}
use Rattle.base.specs.declared.Fault.{Fault}
use Rattle.sequence.specs.Keyed.{Parts, Ran, done, stop, go_on, run, Once, Laws}
use Rattle.sequence.specs.History.{due, judged, Fine, First, verdict}
use Rattle.sequence.proofs.Tests.{stopped, go_on_done}
use Rattle.sequence.proofs.Local.{run_judged}

-- an empty list has no split
empty : {A X : Type 0} (a : List A) (u : A) (b : List A) → [] ≡ a ++ (u ∷ b) → X
empty [] u b e = absurd (let z : ◌≡◌ {A = ℕ} 0 (suc (length b)) = ap length e in omega arith)
empty (x ∷ a) u b e = absurd (let z : ◌≡◌ {A = ℕ} 0 (suc (length (a ++ (u ∷ b)))) = ap length e in omega arith)

-- the first of two equal lists
head : {A : Type 0} {x y : A} {a b : List A} → x ∷ a ≡ y ∷ b → x ≡ y
head e = cc

-- the rest of two equal lists
tail : {A : Type 0} {x y : A} {a b : List A} → x ∷ a ≡ y ∷ b → a ≡ b
tail e = cc

-- two refusals: where
stop_at : {A : Type 0} {i j : ℕ} {x y : Fault} → ◌≡◌ {A = Ran A} (stop i x) (stop j y) → i ≡ j
stop_at e = cc

-- two refusals: with what
stop_with : {A : Type 0} {i j : ℕ} {x y : Fault} → ◌≡◌ {A = Ran A} (stop i x) (stop j y) → x ≡ y
stop_with e = cc

-- a run whose verdict is a refusal
verdict_stop : {A : Type 0} (r : Ran A) (j : ℕ) (x : Fault) → verdict r ≡ stop j x → r ≡ stop j x
unfolding verdict
verdict_stop (done d) j x e = stopped (sym e)
verdict_stop (stop i y) j x e = let p = stop_at e in let q = stop_with e in cc

-- a run whose verdict is none
pub verdict_done : {A : Type 0} (r : Ran A) → verdict r ≡ done tt → (d : A) × (r ≡ done d)
unfolding verdict
verdict_done (done d) e = (d, refl)
verdict_done (stop i y) e = stopped e

module _ (P : Parts) where
  open P use {Rec, Upd}

  -- no verdict on us, after pre, is a refusal
  unfoldable FineFrom : List Rec → List Upd → List Upd → Type 0
  FineFrom ds pre us = (a : List Upd) (u : Upd) (b : List Upd) → us ≡ a ++ (u ∷ b) → (o : Option Rec) × (due P ds (pre ++ a) u ≡ ok o)

  -- verdicts that are done
  judged_done : (j : ℕ) (ds : List Rec) (pre us : List Upd) → judged P j ds pre us ≡ done tt → FineFrom ds pre us
  unfolding judged FineFrom
  judged_done j ds pre [] x a u b e = empty a u b e
  judged_done j ds pre (v ∷ vs) x [] u b e =
      let (o, s, y) = go_on_done j (due P ds pre v) (λ o. judged P (j + 1) ds (pre ++ (v ∷ [])) vs) tt x in
      (o, rw (append-nil, ← head e) s)
  judged_done j ds pre (v ∷ vs) x (w ∷ a) u b e =
      let (o, s, y) = go_on_done j (due P ds pre v) (λ o. judged P (j + 1) ds (pre ++ (v ∷ [])) vs) tt x in
      rw (append_assoc, head e) at (judged_done (j + 1) ds (pre ++ (v ∷ [])) vs y a u b (tail e))

  -- after one more
  fine_tail : (ds : List Rec) (pre : List Upd) (v : Upd) (vs : List Upd) → FineFrom ds pre (v ∷ vs) → FineFrom ds (pre ++ (v ∷ [])) vs
  unfolding FineFrom
  fine_tail ds pre v vs f a u b e = rw append_assoc (f (v ∷ a) u b (ap (λ (l : List Upd). v ∷ l) e))

  -- none that is a refusal
  fine_judged : (j : ℕ) (ds : List Rec) (pre us : List Upd) → FineFrom ds pre us → judged P j ds pre us ≡ done tt
  unfolding judged FineFrom go_on
  fine_judged j ds pre [] f = refl
  fine_judged j ds pre (v ∷ vs) f =
      let (o, s) = f [] v vs refl in
      rw (rw append-nil at s) (fine_judged (j + 1) ds (pre ++ (v ∷ [])) vs (fine_tail ds pre v vs f))

  -- no update record
  fine_none : (ds : List Rec) (pre : List Upd) → FineFrom ds pre []
  unfolding FineFrom
  fine_none ds pre a u b e = empty a u b e

  -- one more in front
  fine_cons : (ds : List Rec) (pre : List Upd) (v : Upd) (vs : List Upd) (o : Option Rec) → due P ds pre v ≡ ok o → FineFrom ds (pre ++ (v ∷ [])) vs → FineFrom ds pre (v ∷ vs)
  unfolding FineFrom
  fine_cons ds pre v vs o d f [] u b e = (o, rw (append-nil, ← head e) d)
  fine_cons ds pre v vs o d f (w ∷ a) u b e = rw (append_assoc, head e) at (f a u b (tail e))

  -- the first refusal among us, after pre
  record FirstFrom (i : ℕ) (ds : List Rec) (pre us : List Upd) (j : ℕ) (x : Fault) : Type 0 where
    a : List Upd
    u : Upd
    b : List Upd
    split : us ≡ a ++ (u ∷ b)
    number : j ≡ i + length a
    refusal : due P ds (pre ++ a) u ≡ no x
    before : FineFrom ds pre a

  -- verdicts that stop
  judged_stop : (i : ℕ) (ds : List Rec) (pre us : List Upd) (j : ℕ) (x : Fault) → judged P i ds pre us ≡ stop j x → FirstFrom i ds pre us j x
  unfolding judged go_on
  judged_stop i ds pre [] j x e = stopped (sym e)
  judged_stop i ds pre (v ∷ vs) j x e = go (due P ds pre v) refl e (λ y. judged_stop (i + 1) ds (pre ++ (v ∷ [])) vs j x y)
    where
      go : (c : Check (Option Rec)) → due P ds pre v ≡ c → go_on i c (λ o. judged P (i + 1) ds (pre ++ (v ∷ [])) vs) ≡ stop j x
          → (judged P (i + 1) ds (pre ++ (v ∷ [])) vs ≡ stop j x → FirstFrom (i + 1) ds (pre ++ (v ∷ [])) vs j x) → FirstFrom i ds pre (v ∷ vs) j x
      go (no m) d y ih = record {
        a = [];
        u = v;
        b = vs;
        split = refl;
        number = sym (stop_at y) ∙ omega arith;
        refusal = rw (append-nil, ← stop_with y) d;
        before = fine_none ds pre;
      }
      go (ok o) d y ih = let f = ih y in record {
        a = v ∷ f.a;
        u = f.u;
        b = f.b;
        split = ap (λ (l : List Upd). v ∷ l) f.split;
        number = omega (arith, f.number);
        refusal = rw append_assoc at f.refusal;
        before = fine_cons ds pre v f.a o d f.before;
      }

  -- a first refusal
  judged_first : (i : ℕ) (ds : List Rec) (pre a : List Upd) (u : Upd) (b : List Upd) (x : Fault) → due P ds (pre ++ a) u ≡ no x → FineFrom ds pre a
      → judged P i ds pre (a ++ (u ∷ b)) ≡ stop (i + length a) x
  unfolding judged go_on FineFrom
  judged_first i ds pre [] u b x d f = rw (rw append-nil at d) (ap (λ (k : ℕ). stop k x) (omega arith))
  judged_first i ds pre (v ∷ a) u b x d f =
      let (o, s) = f [] v a refl in
      rw (rw append-nil at s)
      (judged_first (i + 1) ds (pre ++ (v ∷ [])) a u b x (rw append_assoc d) (fine_tail ds pre v a f)
      ∙ ap (λ (k : ℕ). stop k x) (omega arith))

module _ (P : Parts) (L : Laws P) (i : ℕ) (ds : List P.Rec) (us : List P.Upd) (v : Once P ds) where
  -- a run is refused where the first refusal is, with that fault
  pub run_refused : (j : ℕ) (x : Fault) → (run P i ds us ≡ stop j x) ↔ First P i ds us j x
  unfolding verdict Fine FineFrom
  run_refused j x = (
    λ e. let f = judged_stop P i ds [] us j x (sym (run_judged P L i ds us v) ∙ rw e) in
        record { pre = f.a; at = f.u; post = f.b; split = f.split; number = f.number; refusal = f.refusal; before = f.before },
    λ f. verdict_stop (run P i ds us) j x (run_judged P L i ds us v ∙ rw (f.split, f.number) (judged_first P i ds [] f.pre f.at f.post x f.refusal f.before)),
  )

  -- a run is done where no verdict is a refusal
  pub run_accepted : ((d : List P.Rec) × (run P i ds us ≡ done d)) ↔ Fine P ds us
  unfolding verdict Fine FineFrom
  run_accepted = (
    λ x. judged_done P i ds [] us (sym (run_judged P L i ds us v) ∙ rw x.1),
    λ f. verdict_done (run P i ds us) (run_judged P L i ds us v ∙ fine_judged P i ds [] us f),
  )
