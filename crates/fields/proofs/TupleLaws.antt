-- Tuples that stand one after the other: the walk step by step, over some bytes and at a place of a field's, and induction over them.
-- Assumes nothing.
use Prim.Native.Nat.{ℕ, zero, suc, ◌+◌, ◌-◌, ◌≤◌, ◌<◌}
use mathlib.Core.Path.{◌≡◌, refl, sym, ap, ◌∙◌}
use mathlib.Core.Bool.{true, false}
use mathlib.Core.Option.{Option, none, some}
use mathlib.Core.List.{List, [], ◌∷◌}
use native.Mathlib.Nat.{lt_of_not-le}
use native.Mathlib.Decide.{dec_le}
use native.Mathlib.Omega.{arith}
use lib.ListN.{length, drop, length-drop}
use lib.Seq.{drop-drop}
use lib.Dec.{ltb, eqb}
use borrow.Author.Tests.{eq-eqb, ne_eqb, lt-ltb, le-ltb, ltb-true}
use Rattle.std.specs.Prelude.{Option as StdOption, Some, None}
use Rattle.base.specs.Choice.{pick}
use Rattle.base.specs.Lists.{empty}
use Rattle.base.specs.Walk.{Step, more, over, Got, before, follow, Lower}
use Rattle.base.proofs.ChoiceLaws.{by_test}
use Rattle.base.proofs.WalkLaws.{walk_step}
use Rattle.fields.specs.Sizes.{sizes, on_size}
use Rattle.fields.specs.Values.{Val, values}
use Rattle.fields.specs.Content.{tuple_step, tuples, many}
use Rattle.fields.specs.Places.{after, subfields_end, ending_at, tuple_at}
use Rattle.fields.specs.declared.Sub.{Sub}
use Rattle.fields.proofs.SizeLaws.{sizes_bound, not_at, at_inj, after_at, after_bad}

-- at most, or more
pub split {ℓ} : {X : Type ℓ} (a b : ℕ) → (a ≤ b → X) → (b < a → X) → X
split a b f g = elim (dec_le a b) [ yes h ↦ f h | no h ↦ g (lt_of_not-le h) ]

-- ---- the walk

empty_is : (l : List ℕ) → empty l ≡ eqb (length l) 0
unfolding empty
empty_is [] = refl
empty_is (x ∷ l) = sym (ne_eqb (length (x ∷ l)) 0 (λ z. omega arith))

-- a step at a tuple of size o, where a byte is left
abbrev here : List Val → List ℕ → Option ℕ → Step (List ℕ) (List Val)
here v l o = on_size o (over 5) (λ n. pick (ltb 0 n) (more v (drop n l)) (over 5))

here_falls : (v : List Val) (l : List ℕ) (o : Option ℕ) → 0 < length l → Lower length l (here v l o)
here_falls v l none h = tt
here_falls v l (some n) h =
    by_test (Lower length l) (ltb 0 n) (more v (drop n l)) (over 5) (λ e. omega (arith, length-drop n l, ltb-true 0 n e)) (λ e. tt)

falls : (t : List Sub) (l : List ℕ) → Lower length l (tuple_step t l)
unfolding tuple_step
falls t l =
    by_test (Lower length l) (empty l) (over 0) (here (values t l) l (sizes t l)) (λ e. tt)
    (λ e. here_falls (values t l) l (sizes t l) (split (length l) 0 (λ h. absurd (none_left h e)) (λ h. h)))
  where
    none_left : length l ≤ 0 → empty l ≡ false → ⊥
    none_left h e = let z : true ≡ false = sym (empty_is l ∙ eq-eqb (length l) 0 (omega arith)) ∙ e in let y : ◌≡◌ {A = ℕ} 0 1 = cc in omega arith

module _ (t : List Sub) (l : List ℕ) where
  step : tuples t l ≡ follow (tuple_step t l) (tuples t)
  unfolding tuples
  step = walk_step (tuple_step t) length (falls t) l

  -- no byte is left
  pub tuples_end : length l ≤ 0 → tuples t l ≡ record { items = []; ending = 0 }
  unfolding tuple_step
  tuples_end h = step ∙ simp (empty_is, eq-eqb (length l) 0 (omega arith))

  inside : 0 < length l → tuples t l ≡ follow (here (values t l) l (sizes t l)) (tuples t)
  unfolding tuple_step
  inside h = step ∙ simp (empty_is, ne_eqb (length l) 0 (λ z. omega arith))

  -- no tuple stands at the front
  pub tuples_bad : 0 < length l → sizes t l ≡ none → tuples t l ≡ record { items = []; ending = 5 }
  tuples_bad h e = inside h ∙ rw e

  -- one of no byte
  pub tuples_stuck : 0 < length l → (n : ℕ) → sizes t l ≡ some n → n ≤ 0 → tuples t l ≡ record { items = []; ending = 5 }
  tuples_stuck h n e q = inside h ∙ rw e (simp (le-ltb 0 n q))

  -- a tuple, and those behind it
  pub tuples_on : 0 < length l → (n : ℕ) → sizes t l ≡ some n → 0 < n → tuples t l ≡ before (values t l) (tuples t (drop n l))
  tuples_on h n e q = inside h ∙ rw e (simp (lt-ltb 0 n q))

-- ---- tuples that fill the bytes

-- the first of them is n bytes
pub record First (t : List Sub) (l : List ℕ) : Type 0 where
  pub bytes : ℕ
  pub taken : sizes t l ≡ some bytes
  pub some_bytes : 0 < bytes
  pub rest : (tuples t (drop bytes l)).ending ≡ 0
  pub found : tuples t l ≡ before (values t l) (tuples t (drop bytes l))

not_five {ℓ} : {X : Type ℓ} {g : Got (List Val)} → g ≡ record { items = []; ending = 5 } → g.ending ≡ 0 → X
not_five e z = absurd (let y : ◌≡◌ {A = ℕ} 5 0 = sym (ap (λ (g : Got (List Val)). g.ending) e) ∙ z in omega arith)

pub first_tuple : (t : List Sub) (l : List ℕ) → 0 < length l → (tuples t l).ending ≡ 0 → First t l
first_tuple t l h z = go (sizes t l) refl
  where
    go : (o : Option ℕ) → sizes t l ≡ o → First t l
    go none e = not_five (tuples_bad t l h e) z
    go (some n) e =
        split n 0 (λ q. not_five (tuples_stuck t l h n e q) z)
        (λ q.
        let f = tuples_on t l h n e q in
        record { bytes = n; taken = e; some_bytes = q; rest = sym (ap (λ (g : Got (List Val)). g.ending) f) ∙ z; found = f })

-- what holds of no bytes, and of a tuple and bytes of which it holds, holds of all bytes that tuples fill
module _ (t : List Sub) (P : List ℕ → Type 0) (base : (l : List ℕ) → length l ≤ 0 → P l)
    (turn : (l : List ℕ) → 0 < length l → (f : First t l) → P (drop f.bytes l) → P l) where
  ind_by : (f : ℕ) (l : List ℕ) → length l ≤ f → (tuples t l).ending ≡ 0 → P l
  ind_by zero l h z = base l h
  ind_by (suc f) l h z =
      split (length l) 0 (base l)
      (λ g.
      let r = first_tuple t l g z in
      let q : 0 < r.bytes = r.some_bytes in
      turn l g r (ind_by f (drop r.bytes l) (omega (arith, length-drop r.bytes l)) r.rest))

  pub tuples_ind : (l : List ℕ) → (tuples t l).ending ≡ 0 → P l
  tuples_ind l z = ind_by (length l) l (omega arith) z

-- ---- at a place

module _ (t : List Sub) (b : List ℕ) (p : ℕ) where
  pub here_end : length b ≤ p → tuples t (drop p b) ≡ record { items = []; ending = 0 }
  here_end h = tuples_end t (drop p b) (omega (arith, length-drop p b))

  pub here_bad : p < length b → subfields_end t b p ≡ None → tuples t (drop p b) ≡ record { items = []; ending = 5 }
  unfolding subfields_end
  here_bad h e = tuples_bad t (drop p b) (omega (arith, length-drop p b)) (after_bad p (sizes t (drop p b)) e)

  pub here_stuck : p < length b → (n : ℕ) → subfields_end t b p ≡ Some n → n ≤ p → tuples t (drop p b) ≡ record { items = []; ending = 5 }
  unfolding subfields_end
  here_stuck h n e q =
      let r = after_at p n (sizes t (drop p b)) e in
      tuples_stuck t (drop p b) (omega (arith, length-drop p b)) r.0 r.1 (omega (arith, r.2))

  pub here_on : p < length b → (n : ℕ) → subfields_end t b p ≡ Some n → p < n → tuples t (drop p b) ≡ before (values t (drop p b)) (tuples t (drop n b))
  unfolding subfields_end
  here_on h n e q =
      let r = after_at p n (sizes t (drop p b)) e in
      tuples_on t (drop p b) (omega (arith, length-drop p b)) r.0 r.1 (omega (arith, r.2))
      ∙ ap (λ (l : List ℕ). before (values t (drop p b)) (tuples t l)) (drop-drop r.0 p b ∙ ap (λ (k : ℕ). drop k b) r.2)

-- ---- the answers of the code

module _ (t : List Sub) (b : List ℕ) (at : ℕ) where
  pub tuple_end : length b ≤ at → None ≡ tuple_at t b at
  unfolding tuple_at
  tuple_end h = sym (simp (le-ltb at (length b) h))

  pub tuple_bad : at < length b → subfields_end t b at ≡ None → None ≡ tuple_at t b at
  unfolding tuple_at
  tuple_bad h e = sym (simp (lt-ltb at (length b) h, e))

  pub tuple_to : at < length b → (n : ℕ) → subfields_end t b at ≡ Some n → Some n ≡ tuple_at t b at
  unfolding tuple_at
  tuple_to h n e = sym (simp (lt-ltb at (length b) h, e))

-- ---- for a caller's loop over the tuples of a field that they fill

-- a tuple from p to n, and those behind it
pub record Next (t : List Sub) (b : List ℕ) (p n : ℕ) : Type 0 where
  pub later : p < n
  pub inside : n ≤ length b
  pub taken : sizes t (drop p b) ≡ some (n - p)
  pub rest : ending_at t b n ≡ 0
  pub found : many t (drop p b) ≡ values t (drop p b) ∷ many t (drop n b)

-- while a byte is left there is a next tuple
pub tuple_there : (t : List Sub) (b : List ℕ) (p : ℕ) → p < length b → ending_at t b p ≡ 0 → (n : ℕ) × (tuple_at t b p ≡ Some n) × Next t b p n
unfolding ending_at subfields_end many
tuple_there t b p h z =
    let r = first_tuple t (drop p b) (omega (arith, length-drop p b)) z in
    let dd : drop r.bytes (drop p b) ≡ drop (p + r.bytes) b = drop-drop r.bytes p b in
    let q : 0 < r.bytes = r.some_bytes in (
      p + r.bytes,
      sym (tuple_to t b p h (p + r.bytes) (ap (after p) r.taken)),
      record {
        later = omega arith;
        inside = omega (arith, sizes_bound t (drop p b) r.bytes r.taken, length-drop p b);
        taken = r.taken ∙ ap some (omega arith);
        rest = ap (λ (l : List ℕ). (tuples t l).ending) (sym dd) ∙ r.rest;
        found = ap (λ (g : Got (List Val)). g.items) r.found ∙ ap (λ (l : List ℕ). values t (drop p b) ∷ (tuples t l).items) dd;
      },
    )

module _ (t : List Sub) (b : List ℕ) (p : ℕ) (r : StdOption ℕ) (got : r ≡ tuple_at t b p) (z : ending_at t b p ≡ 0) where
  -- a tuple that is found
  pub tuple_next : (n : ℕ) → r ≡ Some n → Next t b p n
  tuple_next n q =
      split (length b) p (λ h. not_at (tuple_end t b p h ∙ sym got ∙ q))
      (λ h. let x = tuple_there t b p h z in let e : x.0 ≡ n = at_inj (sym x.1 ∙ sym got ∙ q) in rw e at x.2)

  -- where none is found there is none
  pub tuple_over : r ≡ None → (length b ≤ p) × (many t (drop p b) ≡ [])
  unfolding many
  tuple_over q =
      split (length b) p (λ h. (h, ap (λ (g : Got (List Val)). g.items) (here_end t b p h)))
      (λ h. let x = tuple_there t b p h z in not_at (sym q ∙ got ∙ x.1))
