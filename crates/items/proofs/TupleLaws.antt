-- The tuples of a field at their offsets in the slice that the field stands in. Assumes nothing.
use mathlib.Core.Path.{◌≡◌, refl, sym, ap, ◌∙◌}
use mathlib.Core.List.{List, [], ◌∷◌, ◌++◌}
use mathlib.Core.Logic.{⊎_elim}
use Prim.Native.Nat.{ℕ, zero, suc, ◌+◌, ◌-◌, ◌≤◌, ◌<◌}
use native.Mathlib.Omega.{arith}
use lib.ListN.{length, get_or, take, drop, length-drop, take-append-drop}
use lib.Seq.{length-take-le, take-append-le, drop-append-le, drop-drop, get_or-take, get_or-drop}
use borrow.Author.Tests.{lt-ltb, le-ltb}
use Rattle.fields.specs.Bytes.{run}
use Rattle.fields.specs.Content.{many}
use Rattle.fields.specs.Places.{ending_at}
use Rattle.fields.proofs.ByteLaws.{le1, le2}
use Rattle.fields.proofs.JoinLaws.{run_behind}
use Rattle.skeleton.specs.Place.{between}
use Rattle.forest.proofs.Numbers.{lt_or_le}
use Rattle.tree.specs.Source.{two, past}
use Rattle.tree.proofs.CountLaws.{past_above}
use Rattle.tree.proofs.TupleShape.{shape, values_at, stands, stands_none}
use Rattle.items.specs.Items.{u16, text_from}
use Rattle.items.specs.Tuples.{Tuples, ended, onward, tuple_at, tuples_up_to, tuples_to}

-- ---- whole tuples

-- they do not go past the end
pub tuples_within : (b : List ℕ) (e at : ℕ) → Tuples b e at → at ≤ e
tuples_within b e at (ended x) = omega arith
tuples_within b e at (onward l w) = omega (arith, past_above b at)

-- before the end there is a whole tuple
pub tuples_past : (b : List ℕ) (e at : ℕ) → Tuples b e at → at < e → past b at ≤ e
tuples_past b e at (ended x) h = absurd (omega arith)
tuples_past b e at (onward l w) h = l

-- and behind it the rest is whole
pub tuples_next : (b : List ℕ) (e at : ℕ) → Tuples b e at → at < e → Tuples b e (past b at)
tuples_next b e at (ended x) h = absurd (omega arith)
tuples_next b e at (onward l w) h = w

-- ---- their values

-- any two bounds that are enough give the same
up_to_bound : (n m : ℕ) (b : List ℕ) (at e : ℕ) → e ≤ n + at → e ≤ m + at → tuples_up_to n b at e ≡ tuples_up_to m b at e
unfolding tuples_up_to
up_to_bound zero zero b at e h l = refl
up_to_bound zero (suc m) b at e h l = rw (le-ltb at e (omega arith))
up_to_bound (suc n) zero b at e h l = rw (le-ltb at e (omega arith))
up_to_bound (suc n) (suc m) b at e h l = rw (up_to_bound n m b (past b at) e (omega (arith, past_above b at)) (omega (arith, past_above b at)))

-- no tuple at the end
pub to_none : (b : List ℕ) (at e : ℕ) → e ≤ at → tuples_to b at e ≡ []
unfolding tuples_to tuples_up_to
to_none b at e h = up_to_bound e (suc e) b at e (omega arith) (omega arith) ∙ rw (le-ltb at e h)

-- before it one tuple and the others
pub to_more : (b : List ℕ) (at e : ℕ) → at < e → tuples_to b at e ≡ tuple_at b at ∷ tuples_to b (past b at) e
unfolding tuples_to tuples_up_to
to_more b at e h = up_to_bound e (suc e) b at e (omega arith) (omega arith) ∙ rw (lt-ltb at e h)

-- ---- a field in a slice

module _ (b : List ℕ) (at e : ℕ) (h : at ≤ e) (l : e ≤ length b) where
  -- the field's bytes
  abbrev body : List ℕ
  body = between b at e

  -- how many they are
  pub body_length : length body ≡ e - at
  body_length = length-take-le (e - at) (drop at b) (omega (arith, length-drop at b))

  -- one of them
  body_byte : (i j : ℕ) → j ≡ at + i → i < e - at → get_or body i 0 ≡ get_or b j 0
  body_byte i j x k = get_or-take (e - at) (drop at b) i 0 k ∙ get_or-drop at b i 0 ∙ ap (λ (m : ℕ). get_or b m 0) (sym x)

  -- two of them as a number
  body_two : (i j : ℕ) → j ≡ at + i → i + 2 ≤ e - at → two body i ≡ u16 b j
  unfolding u16
  body_two i j x k = le2 body i (omega (arith, body_length)) ∙ rw (body_byte i j x (omega arith), body_byte (i + 1) (j + 1) (omega arith) (omega arith))

  -- what follows one of them
  body_rest : (i j : ℕ) → j ≡ at + i → i ≤ e - at → drop j b ≡ drop i body ++ drop (e - at) (drop at b)
  body_rest i j x k =
      ap (λ (m : ℕ). drop m b) x ∙ sym (drop-drop i at b) ∙ ap (drop i) (sym (take-append-drop (e - at) (drop at b)))
      ∙ drop-append-le i body (drop (e - at) (drop at b)) (omega (arith, body_length))

  -- the offset behind a tuple
  body_past : (i j : ℕ) → j ≡ at + i → past body i ≤ length body → past b j ≡ at + past body i
  unfolding past
  body_past i j x k =
      let r = run_behind (drop (i + 7) body) (drop (e - at) (drop at b)) (omega (arith, length-drop (i + 7) body)) in
      let s = ap run (body_rest (i + 7) (j + 7) (omega arith) (omega (arith, body_length))) in
      omega arith

  -- its value
  body_text : (i j : ℕ) → j ≡ at + i → past body i ≤ length body → take (run (drop (i + 7) body)) (drop (i + 7) body) ≡ text_from b (j + 7)
  unfolding past text_from
  body_text i j x k =
      let r = run_behind (drop (i + 7) body) (drop (e - at) (drop at b)) (omega (arith, length-drop (i + 7) body)) in
      rw (body_rest (i + 7) (j + 7) (omega arith) (omega (arith, body_length)), r)
      (sym (take-append-le (run (drop (i + 7) body)) (drop (i + 7) body) (drop (e - at) (drop at b)) (omega (arith, length-drop (i + 7) body))))

  -- its values
  body_values : (i j : ℕ) → j ≡ at + i → past body i ≤ length body → values_at body i ≡ tuple_at b j
  body_values i j x k =
      let n = body_length in
      let m = past_above body i in
      let natc = body_two i j x (omega arith) in
      let atix = body_two (i + 2) (j + 2) (omega arith) (omega arith) in
      let paix = body_two (i + 4) (j + 4) (omega arith) (omega arith) in
      let atin = le1 body (i + 6) (omega arith) ∙ body_byte (i + 6) (j + 6) (omega arith) (omega arith) in
      rw (natc, atix, paix, atin, body_text i j x k)

  -- tuples that fill the field are whole tuples in the slice, with these values
  abbrev Placed : ℕ → ℕ → ℕ → ℕ → Type 0
  Placed lo hi i j = Tuples b e j × (many (shape lo hi) (drop i body) ≡ tuples_to b j e)

  -- the end of the field
  placed_end : (lo hi i j : ℕ) → i ≤ length body → j ≡ at + i → length body ≤ i → Placed lo hi i j
  placed_end lo hi i j k x o = (ended {at = j} (omega (arith, body_length)), stands_none lo hi body i o ∙ sym (to_none b j e (omega (arith, body_length))))

  -- by the bytes left
  placed_by : (lo hi n i j : ℕ) → length body ≤ n + i → i ≤ length body → j ≡ at + i → ending_at (shape lo hi) body i ≡ 0 → Placed lo hi i j
  placed_by lo hi zero i j bound k x z = placed_end lo hi i j k x (omega arith)
  placed_by lo hi (suc n) i j bound k x z =
      ⊎_elim
      (λ (o : i < length body).
      let s = stands lo hi body i o z in
      let q : past b j ≡ at + past body i = body_past i j x s.inside in
      let (w, v) = placed_by lo hi n (past body i) (past b j) (omega (arith, past_above body i)) s.inside q s.behind in (
        onward {at = j} (omega (arith, q, s.inside, body_length)) w,
        s.found ∙ rw (body_values i j x s.inside, v) (sym (to_more b j e (omega (arith, body_length)))),
      ))
      (λ (o : length body ≤ i). placed_end lo hi i j k x o)
      (lt_or_le i (length body))

  -- all of them
  pub placed : (lo hi : ℕ) → ending_at (shape lo hi) body 0 ≡ 0 → Tuples b e at × (many (shape lo hi) body ≡ tuples_to b at e)
  placed lo hi z = placed_by lo hi (length body) 0 at (omega arith) (omega arith) (omega arith) z
