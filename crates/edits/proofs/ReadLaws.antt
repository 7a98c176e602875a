-- The acts of an update, read from its bytes. Assumes nothing.
use mathlib.Core.Path.{◌≡◌, refl, sym, ap, ◌∙◌}
use mathlib.Core.List.{List, [], ◌∷◌}
use mathlib.Core.Logic.{⊎_elim}
use Prim.Native.Nat.{ℕ, zero, suc, ◌+◌, ◌≤◌, ◌<◌}
use native.Mathlib.Omega.{arith}
use lib.ListN.{length, get_or, take, drop}
use lib.Dec.{ltb}
use borrow.Author.Tests.{lt-ltb, le-ltb, eq-eqb, ne_eqb}
use Rattle.fields.specs.Bytes.{run}
use Rattle.fields.proofs.ByteLaws.{run_le}
use Rattle.forest.specs.Forest.{valued}
use Rattle.forest.specs.Acts.{Acts, done}
use Rattle.forest.proofs.Numbers.{lt_or_le, eq_or_ne}
use Rattle.tree.specs.Source.{past}
use Rattle.tree.proofs.CountLaws.{past_above}
use Rattle.items.specs.Items.{u16, text_from}
use Rattle.items.specs.Tuples.{Tuples, tuples_to}
use Rattle.items.proofs.TupleLaws.{tuples_next, to_more}
use Rattle.edits.specs.Read.{act_at, Reading, reading, below, read_up_to, read_at, kids_at}

-- so many bytes of a text are a value, unless they are none
valued_take : (n : ℕ) (l : List ℕ) → n ≤ length l → valued (take n l) ≡ ltb 0 n
unfolding valued
valued_take zero l h = refl
valued_take (suc n) [] h = absurd (omega arith)
valued_take (suc n) (x ∷ l) h = sym (lt-ltb 0 (suc n) (omega arith))

-- a tuple has a value where it is longer than it need be
pub valued_text : (u : List ℕ) (at : ℕ) → valued (text_from u (at + 7)) ≡ ltb (at + 8) (past u at)
unfolding text_from past
valued_text u at =
    let t : ℕ = run (drop (at + 7) u) in
    valued_take t (drop (at + 7) u) (run_le (drop (at + 7) u))
    ∙ ⊎_elim
    (λ (h : 0 < t). lt-ltb 0 t h ∙ sym (lt-ltb (at + 8) (at + 7 + t + 1) (omega arith)))
    (λ (h : t ≤ 0). le-ltb 0 t h ∙ sym (le-ltb (at + 8) (at + 7 + t + 1) (omega arith)))
    (lt_or_le 0 t)

-- a reading goes forward, over whole tuples, and its places grow more slowly than its offsets
pub record Forward (u : List ℕ) (e at q : ℕ) (r : Reading) : Type 0 where
  pub on : at ≤ r.at
  pub slow : r.place + at ≤ q + r.at
  pub whole : Tuples u e at → Tuples u e r.at
  pub fewer : length (tuples_to u r.at e) ≤ length (tuples_to u at e)

-- where nothing is read
forward_here : (u : List ℕ) (e at q : ℕ) (us : Acts) → Forward u e at q (reading us at q)
forward_here u e at q us = record { on = omega arith; slow = omega arith; whole = λ t. t; fewer = omega arith }

-- over a tuple and its children
below_forward : (u : List ℕ) (e at q : ℕ) (r : Reading) → at < e → Forward u e (past u at) (q + 1) r → Forward u e at q (below u at q r)
unfolding below
below_forward u e at q r h m =
    ⊎_elim
    (λ (z : get_or u (at + 6) 0 ≡ 2). rw (eq-eqb (get_or u (at + 6) 0) 2 z)
    (record { on = omega (arith, past_above u at); slow = omega (arith, past_above u at); whole = λ t. tuples_next u e at t h; fewer = omega (arith, ap length (to_more u at e h)) }))
    (λ (z : get_or u (at + 6) 0 ≡ 2 → ⊥). rw (ne_eqb (get_or u (at + 6) 0) 2 z)
    (record { on = omega (arith, past_above u at, m.on); slow = omega (arith, past_above u at, m.slow); whole = λ t. m.whole (tuples_next u e at t h); fewer = omega (arith, ap length (to_more u at e h), m.fewer) }))
    (eq_or_ne (get_or u (at + 6) 0) 2)

-- over a run
read_up_to_forward : (n : ℕ) (u : List ℕ) (e at p q : ℕ) → Forward u e at q (read_up_to n u e at p q)
unfolding read_up_to
read_up_to_forward zero u e at p q = forward_here u e at q done
read_up_to_forward (suc n) u e at p q =
    ⊎_elim
    (λ (l : at < e).
    ⊎_elim
    (λ (z : u16 u (at + 4) ≡ p). rw (lt-ltb at e l, eq-eqb (u16 u (at + 4)) p z)
    (let k = below_forward u e at q (read_up_to n u e (past u at) q (q + 1)) l (read_up_to_forward n u e (past u at) q (q + 1)) in
    let r = read_up_to_forward n u e (below u at q (read_up_to n u e (past u at) q (q + 1))).at p (below u at q (read_up_to n u e (past u at) q (q + 1))).place in
    record { on = omega (arith, k.on, r.on); slow = omega (arith, k.slow, r.slow); whole = λ t. r.whole (k.whole t); fewer = omega (arith, k.fewer, r.fewer) }))
    (λ (z : u16 u (at + 4) ≡ p → ⊥). rw (lt-ltb at e l, ne_eqb (u16 u (at + 4)) p z) (forward_here u e at q done))
    (eq_or_ne (u16 u (at + 4)) p))
    (λ (l : e ≤ at). rw (le-ltb at e l) (forward_here u e at q done))
    (lt_or_le at e)

-- past the tuple itself
below_past : (u : List ℕ) (at q n e : ℕ) → at + 8 ≤ (below u at q (read_up_to n u e (past u at) q (q + 1))).at
unfolding below
below_past u at q n e =
    ⊎_elim
    (λ (z : get_or u (at + 6) 0 ≡ 2). rw (eq-eqb (get_or u (at + 6) 0) 2 z) (past_above u at))
    (λ (z : get_or u (at + 6) 0 ≡ 2 → ⊥). rw (ne_eqb (get_or u (at + 6) 0) 2 z) (omega (arith, past_above u at, (read_up_to_forward n u e (past u at) q (q + 1)).on)))
    (eq_or_ne (get_or u (at + 6) 0) 2)

-- any two bounds that are enough give the same
read_up_to_bound : (n m : ℕ) (u : List ℕ) (e at p q : ℕ) → e ≤ n + at → e ≤ m + at → read_up_to n u e at p q ≡ read_up_to m u e at p q
unfolding read_up_to
read_up_to_bound zero zero u e at p q h l = refl
read_up_to_bound zero (suc m) u e at p q h l = rw (le-ltb at e (omega arith))
read_up_to_bound (suc n) zero u e at p q h l = rw (le-ltb at e (omega arith))
read_up_to_bound (suc n) (suc m) u e at p q h l =
    let b = below_past u at q m e in
    rw (
      read_up_to_bound n m u e (past u at) q (q + 1) (omega (arith, past_above u at)) (omega (arith, past_above u at)),
      read_up_to_bound n m u e (below u at q (read_up_to m u e (past u at) q (q + 1))).at p (below u at q (read_up_to m u e (past u at) q (q + 1))).place (omega arith) (omega arith),
    )

-- at the end of the tuples
pub read_end : (u : List ℕ) (e at p q : ℕ) → e ≤ at → read_at u e at p q ≡ reading done at q
unfolding read_at read_up_to
read_end u e at p q h = read_up_to_bound e (suc e) u e at p q (omega arith) (omega arith) ∙ rw (le-ltb at e h)

-- a tuple of another parent
pub read_other : (u : List ℕ) (e at p q : ℕ) → at < e → (u16 u (at + 4) ≡ p → ⊥) → read_at u e at p q ≡ reading done at q
unfolding read_at read_up_to
read_other u e at p q h z = read_up_to_bound e (suc e) u e at p q (omega arith) (omega arith) ∙ rw (lt-ltb at e h, ne_eqb (u16 u (at + 4)) p z)

-- an act with its children, and the rest of its run
abbrev pub stepped : List ℕ → ℕ → ℕ → ℕ → ℕ → Reading
stepped u e at p q =
    let rest = read_at u e (kids_at u e at q).at p (kids_at u e at q).place in
    reading (act_at u at q (kids_at u e at q).acts rest.acts) rest.at rest.place

-- a tuple of the parent
pub read_step : (u : List ℕ) (e at p q : ℕ) → at < e → u16 u (at + 4) ≡ p → read_at u e at p q ≡ stepped u e at p q
unfolding read_at read_up_to kids_at
read_step u e at p q h z = read_up_to_bound e (suc e) u e at p q (omega arith) (omega arith) ∙ rw (lt-ltb at e h, eq-eqb (u16 u (at + 4)) p z)

-- the acts on the children lead forward
pub kids_forward : (u : List ℕ) (e at q : ℕ) → at < e → Forward u e at q (kids_at u e at q)
unfolding kids_at read_at
kids_forward u e at q h = below_forward u e at q _ h (read_up_to_forward e u e (past u at) q (q + 1))

-- past the tuple itself
pub kids_past : (u : List ℕ) (e at q : ℕ) → at + 8 ≤ (kids_at u e at q).at
unfolding kids_at read_at
kids_past u e at q = below_past u at q e e

-- fewer tuples are left behind the children
below_fewer : (u : List ℕ) (e at q : ℕ) (r : Reading) → Forward u e (past u at) (q + 1) r → length (tuples_to u (below u at q r).at e) ≤ length (tuples_to u (past u at) e)
unfolding below
below_fewer u e at q r m =
    ⊎_elim
    (λ (z : get_or u (at + 6) 0 ≡ 2). rw (eq-eqb (get_or u (at + 6) 0) 2 z) (omega arith))
    (λ (z : get_or u (at + 6) 0 ≡ 2 → ⊥). rw (ne_eqb (get_or u (at + 6) 0) 2 z) m.fewer)
    (eq_or_ne (get_or u (at + 6) 0) 2)

-- fewer tuples are left behind the children
pub kids_fewer : (u : List ℕ) (e at q : ℕ) → length (tuples_to u (kids_at u e at q).at e) ≤ length (tuples_to u (past u at) e)
unfolding kids_at read_at
kids_fewer u e at q = below_fewer u e at q _ (read_up_to_forward e u e (past u at) q (q + 1))

-- a delete has no children
pub kids_delete : (u : List ℕ) (e at q : ℕ) → get_or u (at + 6) 0 ≡ 2 → kids_at u e at q ≡ reading done (past u at) (q + 1)
unfolding kids_at below
kids_delete u e at q z = rw (eq-eqb (get_or u (at + 6) 0) 2 z)

-- the children of an insert or a modify
pub kids_other : (u : List ℕ) (e at q : ℕ) → (get_or u (at + 6) 0 ≡ 2 → ⊥) → kids_at u e at q ≡ read_at u e (past u at) q (q + 1)
unfolding kids_at below
kids_other u e at q z = rw (ne_eqb (get_or u (at + 6) 0) 2 z)
