-- Laws of the tuples of a SPAS, 15 bytes each, and of their keys. Assumes nothing.
use mathlib.Core.Path.{◌≡◌, refl, sym, ap, ◌∙◌}
use mathlib.Core.Bool.{Bool, true, false}
use mathlib.Core.List.{List, [], ◌∷◌}
use Prim.Native.Nat.{ℕ, zero, suc, ◌+◌, ◌-◌, ◌*◌, ◌/◌, ◌≤◌, ◌<◌}
use native.Mathlib.Nat.{add-zero}
use native.Mathlib.Omega.{arith}
use borrow.Author.Tests.{eq-eqb, ne_eqb, eqb-true, eqb-false}
use lib.Dec.{eqb}
use lib.ListN.{length, take, drop}
use lib.Seq.{drop-drop, take_all}
use Rattle.base.specs.Choice.{both, either}
use Rattle.base.specs.Keys.{same, among}
use Rattle.base.specs.Lists.{each}
use Rattle.base.proofs.ListLaws.{each_length}
use Rattle.fields.specs.Bytes.{le}
use Rattle.fields.specs.Values.{values, num_at}
use Rattle.fields.specs.Table.{head_of, tuple_of}
use Rattle.fields.specs.Content.{many, fill}
use Rattle.fields.specs.Places.{ending_at}
use Rattle.fields.specs.declared.Format.TheVariants.{Spas}
use Rattle.fields.proofs.TupleLaws.{Next}
use Rattle.fields.proofs.FieldLaws.{fill_list}
use Rattle.fields.proofs.EvenLaws.{even_next, fill_even}
use Rattle.fields.proofs.ValueLaws.{tuple_number}
use Rattle.rules.specs.Associations.{spas_key, spas_keys}
use Rattle.contents.specs.Keys.{tuple_is, has_from}

-- ---- one tuple

pub eqb_swap : (a b : ℕ) → eqb a b ≡ eqb b a
eqb_swap a b = go (eqb b a) refl
  where
    go : (t : Bool) → eqb b a ≡ t → eqb a b ≡ t
    go true e = eq-eqb a b (sym (eqb-true b a e))
    go false e = ne_eqb a b (λ z. eqb-false b a e (sym z))

module _ (b : List ℕ) (at x y u : ℕ) (eu : u ≡ le 1 (drop at b)) where
  pub tuple_first : (u ≡ x → ⊥) → eqb u x ≡ tuple_is b at x y
  unfolding tuple_is
  tuple_first n = rw (← eu) (simp (ne_eqb u x n, ne_eqb x u (λ z. n (sym z))))

  pub tuple_second : u ≡ x → (v : ℕ) → v ≡ le 4 (drop (at + 1) b) → eqb v y ≡ tuple_is b at x y
  unfolding tuple_is
  tuple_second z v ev = rw (← eu, ← ev) (simp (eq-eqb x u (sym z)) (eqb_swap v y))

pub ruleset tuple_is_ways = (tuple_first, tuple_second)

-- where a tuple stands: it has its bytes, and its key at the front
module _ (b : List ℕ) (at : ℕ) (z : ending_at (tuple_of Spas) b at ≡ 0) (g : at < length b) where
  pub spas_next : Next (tuple_of Spas) b at (at + 15)
  unfolding tuple_of
  spas_next = even_next (tuple_of Spas) refl b at g z

  pub spas_key_lem : spas_key (values (tuple_of Spas) (drop at b)) ≡ le 1 (drop at b) ∷ le 4 (drop (at + 1) b) ∷ []
  unfolding tuple_of spas_key
  spas_key_lem =
      let first : num_at (values (tuple_of Spas) (drop at b)) 0 ≡ le 1 (drop at b) =
      (tuple_number (tuple_of Spas) b at (at + 15) spas_next 0 0 1 refl refl).1 ∙ ap (λ (k : ℕ). le 1 (drop k b)) (add-zero at)
      in
      let second = (tuple_number (tuple_of Spas) b at (at + 15) spas_next 1 1 4 refl refl).1 in
      rw (first, second)

  pub spas_more : spas_keys (drop at b) ≡ (le 1 (drop at b) ∷ le 4 (drop (at + 1) b) ∷ []) ∷ spas_keys (drop (at + 15) b)
  unfolding spas_keys each
  spas_more = ap (each spas_key) spas_next.found ∙ ap (λ (k : List ℕ). k ∷ each spas_key (many (tuple_of Spas) (drop (at + 15) b))) spas_key_lem

-- ---- tuples by number

pub spas_ends : (b : List ℕ) → fill (head_of Spas) (tuple_of Spas) b ≡ true → ending_at (tuple_of Spas) b 0 ≡ 0
unfolding head_of
spas_ends b e = fill_list (tuple_of Spas) b e

-- how many there are
pub spas_count : (b : List ℕ) → fill (head_of Spas) (tuple_of Spas) b ≡ true → length b ≡ 15 * length (many (tuple_of Spas) b)
unfolding head_of tuple_of
spas_count b e = fill_even (tuple_of Spas) refl b e

-- all of them
pub spas_all : (b : List ℕ) → fill (head_of Spas) (tuple_of Spas) b ≡ true → take (length b / 15) (spas_keys b) ≡ spas_keys b
unfolding spas_keys
spas_all b e =
    let n : length b ≡ 15 * length (many (tuple_of Spas) b) = spas_count b e in
    take_all (length b / 15) (each spas_key (many (tuple_of Spas) b)) (omega (arith, each_length spas_key (many (tuple_of Spas) b)))

pub spas_fits : (n : ℕ) → 15 * (n / 15) ≤ n
spas_fits n = omega arith

-- tuple j + 1 stands behind j tuples
pub spas_at : (b : List ℕ) → fill (head_of Spas) (tuple_of Spas) b ≡ true → (j : ℕ) → 15 * j ≤ length b
    → (ending_at (tuple_of Spas) b (15 * j) ≡ 0) × (drop j (many (tuple_of Spas) b) ≡ many (tuple_of Spas) (drop (15 * j) b))
spas_at b e zero h = (spas_ends b e, refl)
spas_at b e (suc j) h =
    let ih = spas_at b e j (omega arith) in
    let n = spas_next b (15 * j) ih.0 (omega arith) in
    let s : 15 * j + 15 ≡ 15 * suc j = omega arith in
    let t : suc j ≡ j + 1 = omega arith in
    let d : drop (suc j) (many (tuple_of Spas) b) ≡ many (tuple_of Spas) (drop (15 * j + 15) b) =
    ap (λ (k : ℕ). drop k (many (tuple_of Spas) b)) t
    ∙ sym (drop-drop 1 j (many (tuple_of Spas) b))
    ∙ ap (drop 1) (ih.1 ∙ n.found)
    in
    (ap (λ (k : ℕ). ending_at (tuple_of Spas) b k) (sym s) ∙ n.rest, d ∙ ap (λ (k : ℕ). many (tuple_of Spas) (drop k b)) s)

-- ---- the loop over n tuples: behind j of them, where the whole comes to A

same_two : (x y u v : ℕ) → same (x ∷ y ∷ []) (u ∷ v ∷ []) ≡ both (eqb x u) (eqb y v)
unfolding same
same_two x y u v = go (eqb x u) (eqb y v)
  where
    go : (a c : Bool) → both a (both c true) ≡ both a c
    go true true = refl
    go true false = refl
    go false c = refl

-- one tuple, and n behind it
split_off : (b : List ℕ) (at x y : ℕ) → ending_at (tuple_of Spas) b at ≡ 0 → at < length b → (n : ℕ)
    → has_from b at (suc n) x y ≡ either (tuple_is b at x y) (has_from b (at + 15) n x y)
unfolding has_from among tuple_is
split_off b at x y z inside n = rw (spas_more b at z inside) (rw (same_two x y (le 1 (drop at b)) (le 4 (drop (at + 1) b))))

module _ (b : List ℕ) (f : fill (head_of Spas) (tuple_of Spas) b ≡ true) (n j x y : ℕ) (A : Bool) (inv : has_from b (15 * j) (n - j) x y ≡ A) where
  pub has_none : n ≤ j → false ≡ A
  unfolding has_from among
  has_none h = let z : n - j ≡ 0 = omega arith in rw z at inv

  module _ (l : j < n) (g : 15 * n ≤ length b) (t : Bool) (et : t ≡ tuple_is b (15 * j) x y) where
    turn : either (tuple_is b (15 * j) x y) (has_from b (15 * (j + 1)) (n - (j + 1)) x y) ≡ A
    turn =
        let s : n - j ≡ suc (n - (j + 1)) = omega arith in
        let e : 15 * j + 15 ≡ 15 * (j + 1) = omega arith in
        let o = split_off b (15 * j) x y (spas_at b f j (omega arith)).0 (omega arith) (n - (j + 1)) in
        rw e at (sym o ∙ ap (λ (m : ℕ). has_from b (15 * j) m x y) (sym s) ∙ inv)

    pub has_here : t ≡ true → true ≡ A
    has_here w = simp (← et, w) at turn

    pub has_more : t ≡ false → has_from b (15 * (j + 1)) (n - (j + 1)) x y ≡ A
    has_more w = simp (← et, w) at turn

pub ruleset has_turn = (has_none, has_here, has_more, arith)
