-- Laws of keys: among which they are, that each stands once, and the largest of them. Assumes nothing.
use mathlib.Core.Path.{◌≡◌, refl, sym, ap, ◌∙◌}
use mathlib.Core.Bool.{Bool, true, false}
use mathlib.Core.List.{List, [], ◌∷◌, ◌++◌}
use Prim.Native.Nat.{ℕ, ◌+◌, ◌*◌, ◌≤◌, ◌<◌}
use native.Mathlib.Omega.{arith}
use Rattle.base.specs.Choice.{pick, either, larger_of}
use Rattle.base.specs.Check.{no, bind, fault, Passed}
use Rattle.base.specs.Keys.{same, among}
use Rattle.base.specs.Lists.{each}
use Rattle.base.specs.declared.Fault.{Fault}
use Rattle.base.proofs.ChoiceLaws.{either_false, both_false, larger_left, larger_right}
use Rattle.base.proofs.KeysLaws.{same_sound}
use Rattle.fields.specs.Values.{Val}
use Rattle.rules.specs.Associations.{Mark, spas_key, keys_once}
use Rattle.rules.proofs.MarkLaws.{mark_key}
use Rattle.contents.specs.Keys.{number_of, top_with}

-- ---- among which they are

either_swap : (a b c : Bool) → either a (either b c) ≡ either b (either a c)
either_swap true true c = refl
either_swap true false c = refl
either_swap false b c = refl

either_then : (t a b c : Bool) → a ≡ either b c → either t a ≡ either (either t b) c
either_then true a b c e = refl
either_then false a b c e = e

-- a key is among two lists where it is among one of them
pub among_append : (k : List ℕ) (xs ys : List (List ℕ)) → among k (xs ++ ys) ≡ either (among k xs) (among k ys)
unfolding among
among_append k [] ys = refl
among_append k (x ∷ xs) ys = either_then (same k x) (among k (xs ++ ys)) (among k xs) (among k ys) (among_append k xs ys)

pub among_none : (k : List ℕ) (xs : List (List ℕ)) → among k (xs ++ []) ≡ among k xs
unfolding among
among_none k xs = among_append k xs [] ∙ either_false (among k xs)

-- wherever a key stands among others, it is among them
among_move : (k x : List ℕ) (xs ys : List (List ℕ)) → among k ((x ∷ xs) ++ ys) ≡ among k (xs ++ (x ∷ ys))
unfolding among
among_move k x xs ys =
    ap (either (same k x)) (among_append k xs ys)
    ∙ either_swap (same k x) (among k xs) (among k ys)
    ∙ sym (among_append k xs (x ∷ ys))

-- at the front or at the end
pub among_last : (k x : List ℕ) (xs : List (List ℕ)) → among k (x ∷ xs) ≡ among k (xs ++ (x ∷ []))
among_last k x xs = sym (among_none k (x ∷ xs)) ∙ among_move k x xs []

-- ---- each stands once

-- only what is among the keys seen matters
pub once_same : (ms : List Mark) (xs ys : List (List ℕ)) → ((k : List ℕ) → among k xs ≡ among k ys) → keys_once xs ms ≡ keys_once ys ms
unfolding keys_once among
once_same [] xs ys e = refl
once_same (m ∷ ms) xs ys e =
    rw (e m.key)
    (ap (λ (c : Passed). pick (among m.key ys) (no (fault 7 m.field m.tuple)) c)
    (once_same ms (m.key ∷ xs) (m.key ∷ ys) (λ k. ap (either (same k m.key)) (e k))))

first_then : (b : Bool) (x : Fault) (c : Passed) (k : Unit {0} → Passed) → pick b (no x) (bind c k) ≡ bind (pick b (no x) c) k
unfolding bind
first_then true x c k = refl
first_then false x c k = refl

-- some marks, and then others with the keys of the first seen
pub once_apart : (ms ns : List Mark) (seen : List (List ℕ)) → keys_once seen (ms ++ ns) ≡ bind (keys_once seen ms) (λ _. keys_once (seen ++ each mark_key ms) ns)
unfolding keys_once bind each
once_apart [] ns seen = once_same ns seen (seen ++ []) (λ k. sym (among_none k seen))
once_apart (m ∷ ms) ns seen =
    ap (λ (c : Passed). pick (among m.key seen) (no (fault 7 m.field m.tuple)) c)
    (once_apart ms ns (m.key ∷ seen)
    ∙ ap (λ (c : Passed). bind (keys_once (m.key ∷ seen) ms) (λ _. c))
    (once_same ns ((m.key ∷ seen) ++ each mark_key ms) (seen ++ (m.key ∷ each mark_key ms)) (λ k. among_move k m.key seen (each mark_key ms))))
    ∙ first_then (among m.key seen) (fault 7 m.field m.tuple) (keys_once (m.key ∷ seen) ms) _

-- ---- the keys of a SPAS

-- a key of four numbers is none of two
pub four_new : (x y z w : ℕ) (vs : List (List Val)) → among (x ∷ y ∷ z ∷ w ∷ []) (each spas_key vs) ≡ false
unfolding among each same spas_key
four_new x y z w [] = refl
four_new x y z w (v ∷ vs) = rw (both_false, both_false) (four_new x y z w vs)

-- ---- the largest

top_grows : (ks : List (List ℕ)) (top : ℕ) → top ≤ top_with top ks
unfolding top_with
top_grows [] top = omega arith
top_grows (k ∷ ks) top = omega (arith, larger_left top (number_of k), top_grows ks (larger_of top (number_of k)))

pub top_append : (xs ys : List (List ℕ)) (top : ℕ) → top_with top (xs ++ ys) ≡ top_with (top_with top xs) ys
unfolding top_with
top_append [] ys top = refl
top_append (x ∷ xs) ys top = top_append xs ys (larger_of top (number_of x))

-- a key of another number is another key
other_number : (x y : ℕ) (k : List ℕ) → number_of k < x * 4294967296 + y → same (x ∷ y ∷ []) k ≡ false
other_number x y k h = go (same (x ∷ y ∷ []) k) refl
  where
    go : (t : Bool) → same (x ∷ y ∷ []) k ≡ t → t ≡ false
    go false e = refl
    go true e =
        let s : number_of (x ∷ y ∷ []) ≡ number_of k = ap number_of (same_sound (x ∷ y ∷ []) k e) in
        absurd (omega arith)

-- a key whose number is larger than the largest is new
pub above_new : (ks : List (List ℕ)) (top x y : ℕ) → top_with top ks < x * 4294967296 + y → among (x ∷ y ∷ []) ks ≡ false
unfolding top_with among
above_new [] top x y h = refl
above_new (k ∷ ks) top x y h =
    let n : number_of k < x * 4294967296 + y = omega (arith, larger_right top (number_of k), top_grows ks (larger_of top (number_of k))) in
    rw (other_number x y k n) (above_new ks (larger_of top (number_of k)) x y h)
