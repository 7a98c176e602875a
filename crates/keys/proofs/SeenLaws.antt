-- Laws of a walk over the first records from a place on. Assumes nothing.
use mathlib.Core.Path.{◌≡◌, sym, ap, ◌∙◌}
use mathlib.Core.List.{List, ◌∷◌}
use mathlib.Core.Bool.{Bool, true, false}
use Prim.Native.Nat.{ℕ, zero, suc, ◌+◌, ◌-◌, ◌^◌, ◌≤◌, ◌<◌}
use native.Mathlib.Omega.{arith}
use lib.ListN.{length, take}
use Rattle.std.specs.Prelude.{Option, Some, None}
use Rattle.keys.specs.Listed.{keys_from, listed, seen_from}
use Rattle.keys.specs.Look.{look_at, Known}
use Rattle.keys.specs.declared.look.Look.{Look}
use Rattle.keys.proofs.ListLaws.{listed_here, listed_later, listed_none, begins, take_first, rest_keyed}
use Rattle.keys.proofs.LookLaws.{Found, FoundBy, found}

-- by the look e at p, where m records are to be passed
module _ (f : List ℕ) (p m : ℕ) (k : Known f p m) (h : 0 < m) (e : Option Look) (en : e ≡ look_at f p) where
  here : FoundBy f p e
  unfolding seen_from
  here =
      let b = begins (keys_from f p) m h k.enough k.keyed in
      rw en (found f p b.first b.others b.parts b.keyed)

  pub seen_nothing : e ≡ None → (r : Bool) → false ≡ r
  seen_nothing x r = let z : ⊥ = rw x at here in absurd z

  module _ (look : Look) (x : e ≡ Some look) where
    one : Found f p look.len look.key
    one = rw x at here

    pub seen_in : p + look.len ≤ length f
    seen_in = one.inside

    pub seen_word : length f ≤ 16777216 → p + look.len < 2 ^ 64
    seen_word w = let i = one.inside in omega arith

    pub seen_known : (n : ℕ) → n + 1 ≡ m → Known f (p + look.len) n
    unfolding seen_from
    seen_known n s =
        let q = k.enough in
        let l : m - 1 ≡ n = omega arith in
        record {
          enough = omega (arith, ap length one.keys);
          keyed = rw l at (rest_keyed (keys_from f p) look.key (keys_from f (p + look.len)) one.keys m h k.keyed);
        }

    module _ (j : ℕ) (r : Bool) (inv : seen_from f p m j ≡ r) where
      split : listed j (look.key ∷ take (m - 1) (keys_from f (p + look.len))) ≡ r
      unfolding seen_from
      split = rw (take_first (keys_from f p) look.key (keys_from f (p + look.len)) one.keys m h) at inv

      pub seen_here : look.key ≡ j → true ≡ r
      seen_here y = sym (listed_here j look.key _ y) ∙ split

      pub seen_later : (n : ℕ) → n + 1 ≡ m → (look.key ≡ j → ⊥) → seen_from f (p + look.len) n j ≡ r
      unfolding seen_from
      seen_later n s y = let l : m - 1 ≡ n = omega arith in rw l at (sym (listed_later j look.key _ y) ∙ split)

pub seen_over : (f : List ℕ) (p m j : ℕ) (r : Bool) → seen_from f p m j ≡ r → m ≤ 0 → false ≡ r
unfolding seen_from
seen_over f p zero j r inv h = sym (listed_none j) ∙ inv
seen_over f p (suc m) j r inv h = absurd (omega arith)

pub ruleset seen_turn = (seen_here, seen_later, seen_nothing, seen_over, seen_in, seen_word, seen_known, arith)
