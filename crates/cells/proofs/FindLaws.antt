-- Laws of bodies found by their keys, of joining and of leaving. Assumes nothing.
use Prim.Native.Nat.{ℕ, zero, suc, ◌+◌, ◌-◌, ◌*◌, ◌≤◌, ◌<◌}
use mathlib.Core.Path.{◌≡◌, refl, sym, ap, ◌∙◌}
use mathlib.Core.Bool.{Bool, true, false, true≢false}
use mathlib.Core.List.{List, [], ◌∷◌, ◌++◌}
use native.Mathlib.Nat.{zero-add, sub-zero}
use native.Mathlib.Omega.{arith}
use lib.ListN.{length, take, drop, length-take, length-drop}
use lib.Dec.{eqb}
use borrow.Author.Tests.{lt-ltb, le-ltb, eq-eqb, ne_eqb}
use Rattle.std.specs.Prelude.{Option, Some, None, is_some}
use Rattle.std.proofs.lemmas.Option.{none-some, same_Some}
use Rattle.base.specs.Choice.{pick}
use Rattle.base.specs.Check.{ok, bind, refuse}
use Rattle.base.specs.Keys.{same, among, leave}
use Rattle.base.specs.Lists.{each, Each}
use Rattle.base.proofs.KeysLaws.{same_comm}
use Rattle.fields.specs.Valid.{Bytes}
use Rattle.fields.proofs.ByteLaws.{bytes_drop, bytes_take}
use Rattle.fields.proofs.TupleLaws.{split}
use Rattle.items.specs.Items.{source}
use Rattle.cells.specs.Cells.{u24, start_of, slice_of, size_of, body_at, bodies_from}
use Rattle.cells.specs.Keys.{key_in, key_size, first_with, found_in, Long}
use Rattle.cells.proofs.CellLaws.{bodies_more}
use Rattle.cells.proofs.KeyLaws.{key_part, key_least}

-- ---- each of some bodies

-- one of them
pub every_at : (P : List ℕ → Type 0) (d u c : List ℕ) (m i j : ℕ) → Each P (bodies_from d u c i m) → i ≤ j → j < i + m → P (body_at d u c j)
unfolding bodies_from Each
every_at P d u c zero i j e h l = absurd (omega arith)
every_at P d u c (suc m) i j e h l =
    split j i (λ g. let s : j ≡ i = omega arith in rw s e.0) (λ g. every_at P d u c m (i + 1) j e.1 (omega arith) (omega arith))

-- the bodies are bytes, as the slices are
bytes_source : (x : ℕ) (d u : List ℕ) → Bytes d → Bytes u → Bytes (source x d u)
unfolding source
bytes_source x d u p q = go (eqb x 0)
  where
    go : (t : Bool) → Bytes (pick t d u)
    go true = p
    go false = q

pub bodies_bytes : (d u c : List ℕ) → Bytes d → Bytes u → (m i : ℕ) → Each Bytes (bodies_from d u c i m)
unfolding bodies_from body_at Each
bodies_bytes d u c p q zero i = tt
bodies_bytes d u c p q (suc m) i =
    let src : List ℕ = source (slice_of c i) d u in
    (bytes_take (start_of c i + size_of c i - start_of c i) (drop (start_of c i) src) (bytes_drop src (start_of c i) (bytes_source (slice_of c i) d u p q)), bodies_bytes d u c p q m (i + 1))

-- ---- the key of the body of a cell, in the slice that it names

module _ (d u c : List ℕ) (i start : ℕ) (inas : Bool) (es : start ≡ u24 c (7 * i)) (long : Long (key_size inas) (body_at d u c i)) where
  -- it has room there, and in the cell's length
  room : (start + key_size inas ≤ length (source (slice_of c i) d u)) × (key_size inas ≤ start_of c i + size_of c i - start_of c i)
  unfolding body_at
  room =
      let s : ℕ = start_of c i in
      let l = length-take (s + size_of c i - s) (drop s (source (slice_of c i) d u)) in
      let m = length-drop s (source (slice_of c i) d u) in
      (omega (arith, key_least inas), omega arith)

  key_there : key_in inas (body_at d u c i) ≡ key_in inas (drop start (source (slice_of c i) d u))
  unfolding body_at
  key_there = rw es (key_part inas (start_of c i + size_of c i - start_of c i) (drop (start_of c i) (source (slice_of c i) d u)) room.1)

  in_dataset_lem : slice_of c i ≡ 0 → source (slice_of c i) d u ≡ d
  unfolding source
  in_dataset_lem e = simp (eq-eqb (slice_of c i) 0 e)

  in_update_lem : (slice_of c i ≡ 0 → ⊥) → source (slice_of c i) d u ≡ u
  unfolding source
  in_update_lem n = simp (ne_eqb (slice_of c i) 0 n)

  pub dataset_room : slice_of c i ≡ 0 → start + key_size inas ≤ length d
  dataset_room e = rw (in_dataset_lem e) at room.0

  pub update_room : (slice_of c i ≡ 0 → ⊥) → start + key_size inas ≤ length u
  update_room n = rw (in_update_lem n) at room.0

  module _ (k : List ℕ) (r : Bool) where
    pub dataset_key : slice_of c i ≡ 0 → r ≡ same (key_in inas (drop start d)) k → r ≡ same (key_in inas (body_at d u c i)) k
    dataset_key e x = x ∙ ap (λ (y : List ℕ). same y k) (sym (key_there ∙ rw (in_dataset_lem e)))

    pub update_key : (slice_of c i ≡ 0 → ⊥) → r ≡ same (key_in inas (drop start u)) k → r ≡ same (key_in inas (body_at d u c i)) k
    update_key n x = x ∙ ap (λ (y : List ℕ). same y k) (sym (key_there ∙ rw (in_update_lem n)))

pub ruleset cell_ways = (dataset_room, update_room, dataset_key, update_key)

-- ---- the first with a key

module _ (key : List ℕ → List ℕ) (k b : List ℕ) (bs : List (List ℕ)) where
  pub first_here : same (key b) k ≡ true → first_with key k (b ∷ bs) ≡ 0
  unfolding first_with
  first_here e = rw e

  pub first_later : same (key b) k ≡ false → first_with key k (b ∷ bs) ≡ suc (first_with key k bs)
  unfolding first_with
  first_later e = rw e

first_none : (key : List ℕ → List ℕ) (k : List ℕ) → first_with key k [] ≡ 0
unfolding first_with
first_none key k = refl

-- what a search answers
module _ (n i : ℕ) where
  found_there : i < n → found_in n i ≡ Some i
  unfolding found_in
  found_there h = rw (lt-ltb i n h)

  found_nowhere : n ≤ i → found_in n i ≡ None
  unfolding found_in
  found_nowhere h = rw (le-ltb i n h)

  pub found_at : (j : ℕ) → Some j ≡ found_in n i → (i < n) × (j ≡ i)
  found_at j e = split n i (λ l. absurd (none-some j (sym (e ∙ found_nowhere l)))) (λ l. (l, same_Some j i (e ∙ found_there l)))

  pub found_one : (r : Option ℕ) → r ≡ found_in n i → is_some r ≡ true → i < n
  found_one (Some j) e t = (found_at j e).0
  found_one None e t = absurd (true≢false (sym t))

  pub found_none : (r : Option ℕ) → r ≡ found_in n i → is_some r ≡ false → i < n → ⊥
  found_none (Some j) e t l = true≢false t
  found_none None e t l = none-some i (e ∙ found_there l)

-- a search that has come to cell i
module _ (d u c : List ℕ) (n i : ℕ) (key : List ℕ → List ℕ) (k : List ℕ) (whole : ℕ) (inv : i + first_with key k (bodies_from d u c i (n - i)) ≡ whole) where
  pub search_over : i ≤ n → n ≤ i → None ≡ found_in n whole
  unfolding bodies_from
  search_over h g =
      let z : n - i ≡ 0 = omega arith in
      let e : first_with key k (bodies_from d u c i (n - i)) ≡ 0 = rw z (first_none key k) in
      sym (found_nowhere n whole (omega arith))

  module _ (h : i < n) (r : Bool) (er : r ≡ same (key (body_at d u c i)) k) where
    rest : n - i - 1 ≡ n - (i + 1)
    rest = omega arith

    first : first_with key k (bodies_from d u c i (n - i)) ≡ first_with key k (body_at d u c i ∷ bodies_from d u c (i + 1) (n - (i + 1)))
    first = rw (bodies_more d u c i (n - i) (omega arith), rest)

    pub search_here : r ≡ true → Some i ≡ found_in n whole
    search_here x =
        let e : i ≡ whole = omega (arith, first, first_here key k (body_at d u c i) (bodies_from d u c (i + 1) (n - (i + 1))) (sym er ∙ x)) in
        rw (found_there n whole (omega arith), e)

    pub search_on : r ≡ false → i + 1 + first_with key k (bodies_from d u c (i + 1) (n - (i + 1))) ≡ whole
    search_on x = omega (arith, first, first_later key k (body_at d u c i) (bodies_from d u c (i + 1) (n - (i + 1))) (sym er ∙ x))

pub search_start : (d u c : List ℕ) (n : ℕ) (key : List ℕ → List ℕ) (k : List ℕ)
    → 0 + first_with key k (bodies_from d u c 0 (n - 0)) ≡ first_with key k (bodies_from d u c 0 n)
search_start d u c n key k = rw (zero-add, sub-zero)

-- a body that the search reads
pub search_reads : (k : ℕ) (d u c : List ℕ) (n i : ℕ) → Each (Long k) (bodies_from d u c 0 n) → i < n → k ≤ length (body_at d u c i)
search_reads k d u c n i e h = every_at (Long k) d u c n 0 i e (omega arith) (omega arith)

pub ruleset search_turn = (search_start, search_here, search_on, search_over, search_reads, arith)

-- ---- joining and leaving

module _ (key : List ℕ → List ℕ) (k : List ℕ) where
  -- what is found is among them
  among_by : (t : Bool) (b : List ℕ) (bs : List (List ℕ)) → same (key b) k ≡ t → among k (each key (b ∷ bs)) ≡ pick t true (among k (each key bs))
  unfolding among each
  among_by true b bs e = rw (same_comm k (key b), e)
  among_by false b bs e = rw (same_comm k (key b), e)

  pub found_among : (bs : List (List ℕ)) → first_with key k bs < length bs → among k (each key bs) ≡ true
  found_among [] h = absurd (omega arith)
  found_among (b ∷ bs) h = go (same (key b) k) refl (λ e. found_among bs (omega (arith, first_later key k b bs e)))
    where
      go : (t : Bool) → same (key b) k ≡ t → (same (key b) k ≡ false → among k (each key bs) ≡ true) → among k (each key (b ∷ bs)) ≡ true
      go true e ih = among_by true b bs e
      go false e ih = among_by false b bs e ∙ ih e

  pub absent_among : (bs : List (List ℕ)) → length bs ≤ first_with key k bs → among k (each key bs) ≡ false
  unfolding among each
  absent_among [] h = refl
  absent_among (b ∷ bs) h = go (same (key b) k) refl (λ e. absent_among bs (omega (arith, first_later key k b bs e)))
    where
      go : (t : Bool) → same (key b) k ≡ t → (same (key b) k ≡ false → among k (each key bs) ≡ false) → among k (each key (b ∷ bs)) ≡ false
      go true e ih = absurd (omega (arith, first_here key k b bs e))
      go false e ih = among_by false b bs e ∙ ih e

  leave_by : (t : Bool) (j : ℕ) (b : List ℕ) (bs : List (List ℕ)) → same (key b) k ≡ t
      → leave key j k (b ∷ bs) ≡ pick t (ok bs) (bind (leave key j k bs) (λ ys. ok (b ∷ ys)))
  unfolding leave
  leave_by t j b bs e = rw e

  pub found_leaves : (j : ℕ) (bs : List (List ℕ)) → first_with key k bs < length bs
      → leave key j k bs ≡ ok (take (first_with key k bs) bs ++ drop (suc (first_with key k bs)) bs)
  unfolding bind
  found_leaves j [] h = absurd (omega arith)
  found_leaves j (b ∷ bs) h = go (same (key b) k) refl (λ e. found_leaves j bs (omega (arith, first_later key k b bs e)))
    where
      go : (t : Bool) → same (key b) k ≡ t
          → (same (key b) k ≡ false → leave key j k bs ≡ ok (take (first_with key k bs) bs ++ drop (suc (first_with key k bs)) bs))
          → leave key j k (b ∷ bs) ≡ ok (take (first_with key k (b ∷ bs)) (b ∷ bs) ++ drop (suc (first_with key k (b ∷ bs))) (b ∷ bs))
      go true e ih = leave_by true j b bs e ∙ rw (first_here key k b bs e)
      go false e ih = leave_by false j b bs e ∙ rw (first_later key k b bs e, ih e)

  pub absent_stays : (j : ℕ) (bs : List (List ℕ)) → length bs ≤ first_with key k bs → leave key j k bs ≡ refuse 9 j
  unfolding leave bind
  absent_stays j [] h = refl
  absent_stays j (b ∷ bs) h = go (same (key b) k) refl (λ e. absent_stays j bs (omega (arith, first_later key k b bs e)))
    where
      go : (t : Bool) → same (key b) k ≡ t → (same (key b) k ≡ false → leave key j k bs ≡ refuse 9 j) → leave key j k (b ∷ bs) ≡ refuse 9 j
      go true e ih = absurd (omega (arith, first_here key k b bs e))
      go false e ih = leave_by false j b bs e ∙ rw (ih e)
