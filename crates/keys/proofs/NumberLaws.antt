-- Keys are the same where their numbers are equal. Assumes nothing.
use mathlib.Core.Path.{◌≡◌, refl, sym, ap, ◌∙◌}
use mathlib.Core.List.{List, [], ◌∷◌, ◌++◌}
use mathlib.Core.Bool.{Bool, true, false, true≢false}
use Prim.Native.Nat.{ℕ, ◌+◌, ◌*◌, ◌<◌}
use native.Mathlib.Omega.{arith}
use borrow.Author.Tests.{eq-eqb, ne_eqb, eqb-true}
use lib.Dec.{eqb}
use Rattle.base.specs.Choice.{pick, either}
use Rattle.base.specs.Lists.{each}
use Rattle.base.specs.Keys.{same, among}
use Rattle.base.proofs.ChoiceLaws.{by_test}
use Rattle.base.proofs.KeysLaws.{same_sound, same_refl}
use Rattle.rules.specs.Record.{Rec, key_of as key_in_rules}
use Rattle.keys.specs.Key.{rank_of}
use Rattle.keys.specs.Listed.{listed}
use Rattle.keys.specs.Numbered.{number_of, Ranged, Numbered}
use Rattle.keys.proofs.ListLaws.{listed_none, listed_more}

-- ---- a kind is told by its rank

-- RCNM by rank
abbrev rcnm_at : ℕ → ℕ
rcnm_at r = pick (eqb r 1) 150 (pick (eqb r 2) 110 (pick (eqb r 3) 115 100))

rank_back : (c : ℕ) → 0 < rank_of c → rcnm_at (rank_of c) ≡ c
unfolding rank_of
rank_back c =
    let P : ℕ → Type 0 = λ r. 0 < r → rcnm_at r ≡ c in
    by_test P (eqb c 150) _ _ (λ e _. sym (eqb-true c 150 e)) (λ _.
    by_test P (eqb c 110) _ _ (λ e _. sym (eqb-true c 110 e)) (λ _.
    by_test P (eqb c 115) _ _ (λ e _. sym (eqb-true c 115 e)) (λ _.
    by_test P (eqb c 100) _ _ (λ e _. sym (eqb-true c 100 e)) (λ _ h. absurd (omega arith)))))

rank_inj : (c d : ℕ) → 0 < rank_of c → rank_of c ≡ rank_of d → c ≡ d
rank_inj c d h e = sym (rank_back c h) ∙ ap rcnm_at e ∙ rank_back d (omega arith)

-- ---- two keys

module _ (a b : List ℕ) (p : Ranged a) (q : Ranged b) where
  number_a : number_of a ≡ rank_of p.rcnm * 4294967296 + p.rcid
  unfolding number_of
  number_a = rw p.parts refl

  number_b : number_of b ≡ rank_of q.rcnm * 4294967296 + q.rcid
  unfolding number_of
  number_b = rw q.parts refl

  pub number_inj : number_of b ≡ number_of a → a ≡ b
  number_inj e =
      let x = p.small in
      let y = q.small in
      let n = sym number_b ∙ e ∙ number_a in
      let r : rank_of p.rcnm ≡ rank_of q.rcnm = omega arith in
      let s : p.rcid ≡ q.rcid = omega arith in
      p.parts ∙ (λ i. rank_inj p.rcnm q.rcnm p.kind r i ∷ s i ∷ []) ∙ sym q.parts

  pub same_number : same a b ≡ eqb (number_of b) (number_of a)
  same_number = go (same a b) refl
    where
      go : (t : Bool) → same a b ≡ t → t ≡ eqb (number_of b) (number_of a)
      go true e = sym (eq-eqb (number_of b) (number_of a) (ap number_of (sym (same_sound a b e))))
      go false e = sym (ne_eqb (number_of b) (number_of a) (λ z. true≢false (sym (same_refl a) ∙ ap (same a) (number_inj z) ∙ e)))

-- ---- the keys of records

pub numbered_none : Numbered [] []
unfolding Numbered among each
numbered_none k r = sym (listed_none (number_of k))

either_swap : (a b : Bool) → either a b ≡ either b a
either_swap true true = refl
either_swap true false = refl
either_swap false true = refl
either_swap false false = refl

module _ (r : Rec) (recs : List Rec) (l : List ℕ) (x : ℕ) (n : Numbered recs l) (g : Ranged (key_in_rules r)) (e : x ≡ number_of (key_in_rules r)) where
  test : (k : List ℕ) → Ranged k → same k (key_in_rules r) ≡ eqb x (number_of k)
  test k h = same_number k (key_in_rules r) h g ∙ ap (λ (y : ℕ). eqb y (number_of k)) (sym e)

  -- one more in front of both
  pub numbered_front : Numbered (r ∷ recs) (x ∷ l)
  unfolding Numbered among each listed
  numbered_front k h = rw (test k h, n k h) refl

  -- one more in front of the records, and at the end of the numbers
  pub numbered_last : Numbered (r ∷ recs) (l ++ (x ∷ []))
  unfolding Numbered among each
  numbered_last k h = rw (test k h, n k h, listed_more (number_of k) x l) (either_swap (eqb x (number_of k)) (listed (number_of k) l))
