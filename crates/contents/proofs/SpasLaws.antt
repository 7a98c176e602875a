-- Number 7 in a SPAS: tuple by tuple. Assumes nothing.
use mathlib.Core.Path.{◌≡◌, sym, ap, ◌∙◌}
use mathlib.Core.Bool.{Bool, true, false, not}
use mathlib.Core.List.{List, [], ◌∷◌, ◌++◌, append_assoc}
use Prim.Native.Nat.{ℕ, ◌+◌, ◌*◌, ◌/◌, ◌≤◌, ◌<◌}
use native.Mathlib.Omega.{arith}
use lib.ListN.{length, take, drop, drop_of_length-le}
use Rattle.std.specs.Prelude.{Ok, Err}
use Rattle.base.specs.Choice.{pick, larger_of}
use Rattle.base.specs.Check.{Check, ok, no, bind, fault}
use Rattle.base.specs.Keys.{among}
use Rattle.base.specs.Lists.{each}
use Rattle.base.proofs.ListLaws.{each_drop}
use Rattle.fields.specs.Bytes.{le}
use Rattle.fields.specs.Values.{Val, values}
use Rattle.fields.specs.Table.{head_of, tuple_of}
use Rattle.fields.specs.Content.{many, fill}
use Rattle.fields.specs.declared.Format.TheVariants.{Spas}
use Rattle.fields.proofs.TupleLaws.{Next}
use Rattle.skeleton.specs.Place.{fields_at}
use Rattle.skeleton.specs.declared.directory.Shape.{Shape}
use Rattle.rules.specs.Associations.{spas_key, spas_marks, keys_once, spas_keys}
use Rattle.contents.specs.Keys.{keys_in, seen_before, top_with, said_by, spas_from}
use Rattle.contents.proofs.KeyLaws.{among_last, once_same, top_append}
use Rattle.contents.proofs.SpatialLaws.{spas_at, spas_next, spas_key_lem, spas_count}
use Rattle.contents.proofs.ListLaws.{one_taken}
use Rattle.contents.proofs.NewLaws.{not_not}

-- ---- the loop over the tuples of a SPAS: behind j tuples, where the whole comes to A

-- the tuple behind j tuples
module _ (b : List ℕ) (f : fill (head_of Spas) (tuple_of Spas) b ≡ true) (j : ℕ) where
  pub none_stands : length b / 15 ≤ j → drop j (many (tuple_of Spas) b) ≡ []
  none_stands m = drop_of_length-le (many (tuple_of Spas) b) (omega (arith, spas_count b f))

  module _ (g : j < length b / 15) where
    next : Next (tuple_of Spas) b (15 * j) (15 * j + 15)
    next = spas_next b (15 * j) (spas_at b f j (omega arith)).0 (omega arith)

    module _ (x y : ℕ) (ex : x ≡ le 1 (drop (15 * j) b)) (ey : y ≡ le 4 (drop (15 * j + 1) b)) where
      key_is : spas_key (values (tuple_of Spas) (drop (15 * j) b)) ≡ x ∷ y ∷ []
      key_is = rw (ex, ey) (spas_key_lem b (15 * j) (spas_at b f j (omega arith)).0 (omega arith))

      -- its values, and the tuples behind it
      here : drop j (many (tuple_of Spas) b) ≡ values (tuple_of Spas) (drop (15 * j) b) ∷ drop (j + 1) (many (tuple_of Spas) b)
      here =
          let a = (spas_at b f j (omega arith)).1 ∙ next.found in
          a ∙ ap (λ (vs : List (List Val)). values (tuple_of Spas) (drop (15 * j) b) ∷ vs) (sym (one_taken (many (tuple_of Spas) b) _ _ j a).1)

      -- its key, and those behind it
      key_here : drop j (spas_keys b) ≡ (x ∷ y ∷ []) ∷ drop (j + 1) (spas_keys b)
      unfolding spas_keys each
      key_here =
          each_drop spas_key j (many (tuple_of Spas) b)
          ∙ ap (each spas_key) here
          ∙ rw (key_is, each_drop spas_key (j + 1) (many (tuple_of Spas) b))

      seen_next : (r : List ℕ) (h : Shape) (p n : ℕ) → seen_before r h p n b (j + 1) ≡ seen_before r h p n b j ++ ((x ∷ y ∷ []) ∷ [])
      unfolding seen_before
      seen_next r h p n =
          ap (λ (ks : List (List ℕ)). keys_in (take n (fields_at r h p)) ++ ks) (one_taken (spas_keys b) _ _ j key_here).0
          ∙ sym (append_assoc (keys_in (take n (fields_at r h p))) (take j (spas_keys b)) ((x ∷ y ∷ []) ∷ []))

      -- the largest number of a key
      pub spas_top : (r : List ℕ) (h : Shape) (p n top new : ℕ) → top ≡ top_with 0 (seen_before r h p n b j) → new ≡ larger_of top (x * 4294967296 + y)
          → new ≡ top_with 0 (seen_before r h p n b (j + 1))
      unfolding top_with
      spas_top r h p n top new et en =
          rw (seen_next r h p n, top_append (seen_before r h p n b j) ((x ∷ y ∷ []) ∷ []) 0, ← et) en

      module _ (r : List ℕ) (h : Shape) (p n top : ℕ) (A : Check ℕ) (inv : spas_from r h p n b j top ≡ A)
          (t : Bool) (et : t ≡ not (among (x ∷ y ∷ []) (seen_before r h p n b j))) where
        -- the key's test, and then the tuples behind it
        turn : bind (pick (among (x ∷ y ∷ []) (seen_before r h p n b j)) (no (fault 7 (n + 2) (j + 1)))
            (keys_once ((x ∷ y ∷ []) ∷ seen_before r h p n b j) (spas_marks (n + 2) (j + 1 + 1) (drop (j + 1) (many (tuple_of Spas) b)))))
            (λ _. ok (top_with top ((x ∷ y ∷ []) ∷ drop (j + 1) (spas_keys b))))
            ≡ A
        unfolding spas_from keys_once spas_marks
        turn = rw (key_is) at (rw (key_here, here) at inv)

        pub spas_twice : not t ≡ true → said_by (n + 2) (Err (j + 1)) ≡ A
        unfolding said_by bind
        spas_twice z = let m = not_not (among (x ∷ y ∷ []) (seen_before r h p n b j)) true (ap not (sym et) ∙ z) in rw m at turn

        pub spas_more : not t ≡ false → (new : ℕ) → new ≡ larger_of top (x * 4294967296 + y) → spas_from r h p n b (j + 1) new ≡ A
        unfolding spas_from top_with
        spas_more z new en =
            let k : List ℕ = x ∷ y ∷ [] in
            let before = seen_before r h p n b j in
            let ms = spas_marks (n + 2) (j + 1 + 1) (drop (j + 1) (many (tuple_of Spas) b)) in
            let m : among k before ≡ false = not_not (among k before) false (ap not (sym et) ∙ z) in
            let a : bind (keys_once (k ∷ before) ms) (λ _. ok (top_with top (k ∷ drop (j + 1) (spas_keys b)))) ≡ A = rw m at turn in
            let c : keys_once (seen_before r h p n b (j + 1)) ms ≡ keys_once (k ∷ before) ms =
            ap (λ (ks : List (List ℕ)). keys_once ks ms) (seen_next r h p n) ∙ sym (once_same ms (k ∷ before) (before ++ (k ∷ [])) (λ q. among_last q k before))
            in
            rw (en, c) a

-- no tuple is left
pub spas_over : (b : List ℕ) → fill (head_of Spas) (tuple_of Spas) b ≡ true → (j : ℕ) → length b / 15 ≤ j
    → (r : List ℕ) (h : Shape) (p n top : ℕ) (A : Check ℕ) → spas_from r h p n b j top ≡ A → said_by (n + 2) (Ok top) ≡ A
unfolding said_by bind spas_from spas_keys spas_marks keys_once top_with each
spas_over b f j m r h p n top A inv =
    rw (none_stands b f j m) at (rw (each_drop spas_key j (many (tuple_of Spas) b)) at inv)

pub ruleset spas_turn = (spas_top, spas_twice, spas_more, spas_over, arith)
