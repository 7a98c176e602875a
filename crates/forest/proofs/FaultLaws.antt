-- What a refusal of the tree rule says: 6, at the place of one of the tuples. Assumes nothing.
use mathlib.Core.Path.{◌≡◌, refl, sym, ◌∙◌}
use mathlib.Core.List.{List, [], ◌∷◌}
use mathlib.Core.Logic.{⊎_elim}
use mathlib.Core.Bool.{true, false, true≢false}
use Prim.Native.Nat.{ℕ, suc, ◌+◌, ◌≤◌, ◌<◌}
use native.Mathlib.Omega.{arith}
use lib.ListN.{length}
use Rattle.base.specs.Check.{Check, no, bind}
use Rattle.base.specs.declared.Fault.{Fault}
use Rattle.base.proofs.CheckLaws.{ok_no}
use Rattle.forest.specs.Rule.{all_taken, tree_of}
use Rattle.forest.specs.Forest.{Tup}
use Rattle.forest.specs.Acts.{UTup, acts_of}
use Rattle.forest.specs.Reader.{Read, read_up_to}
use Rattle.forest.proofs.CheckLaws.{no_same, bind_no, bind_then}
use Rattle.forest.proofs.ReaderLaws.{Refusal, between_end, read_refused}
use Rattle.forest.proofs.TupleReader.{Passing, passing, on_first, TupleRule, source, list_falls, rule_reads}
use Rattle.forest.proofs.RunLaws.{whole_rule, acts_rule}

-- a tuple that is left over
left_over : {A T : Type 0} (a : A) (k m : ℕ) (ts : List T) (f : Fault) → 1 ≤ k → k + length ts ≤ m → all_taken a k ts ≡ no f → Refusal 1 m f
unfolding all_taken
left_over a k m [] f l h e = ok_no e
left_over a k m (t ∷ ts) f l h e = rw (← no_same e) (record { six = refl; from = l; below = omega arith })

module _ {P T F B A : Type 0} (d : TupleRule P T F B) (step : (t : T) (h : P) → d.place (d.keep t h) ≡ suc (d.place h)) (found : B → A) where
  -- the tuples grow by one and shrink by one
  even : (s : Passing P T) → (source d).here s ≡ true
      → ((source d).place s < (source d).place ((source d).next s)) × ((source d).place ((source d).next s) + (source d).rest ((source d).next s) ≤ (source d).place s + (source d).rest s)
  even s h = go s.left h
    where
      go : (ts : List T) → on_first ts false (λ t us. true) ≡ true
          → (d.place s.past < d.place (on_first ts s (λ t us. passing (d.keep t s.past) us)).past)
          × (d.place (on_first ts s (λ t us. passing (d.keep t s.past) us)).past + length (on_first ts s (λ t us. passing (d.keep t s.past) us)).left ≤ d.place s.past + length ts)
      go [] e = absurd (true≢false (sym e))
      go (t ∷ ts) e = (omega (arith, step t s.past), omega (arith, step t s.past))

  -- a rule over all tuples refuses at one of them
  pub rule_fault : (h : P) (ts : List T) (f : Fault) → d.place h ≡ 1
      → bind (d.up_to (length ts) h 0 false ts) (λ r. all_taken (found r) (d.place (d.past_of r)) (d.left_of r)) ≡ no f → Refusal 1 (1 + length ts) f
  rule_fault h ts f p e =
      let falls = list_falls d.parent d.place d.right d.shuts d.keep d.none d.one in
      let reads : Check (Read (Passing P T) F) = read_up_to (source d) (length ts) 0 false (passing h ts) in
      let first : (1 ≤ d.place h) × (d.place h + length ts ≤ 1 + length ts) = (omega (arith, p), omega (arith, p)) in
      ⊎_elim
      (read_refused (source d) falls even 1 (1 + length ts) (length ts) 0 false (passing h ts) f first)
      (λ x. let (r, read, rest) = x in
      let behind = between_end (source d) falls even 1 (1 + length ts) (length ts) 0 false (passing h ts) r read first in
      left_over (found (d.in_words r)) (d.place r.end.past) (1 + length ts) r.end.left f behind.0 behind.1 (rw (d.past_as r, d.left_as r) at rest))
      (bind_no reads _ f (sym (bind_then reads d.in_words _) ∙ rw (rule_reads d (length ts) h 0 false ts) at e))

-- the whole rule
pub tree_fault : (ts : List Tup) (f : Fault) → tree_of ts ≡ no f → Refusal 1 (1 + length ts) f
unfolding tree_of whole_rule
tree_fault ts f e = rule_fault whole_rule (λ t h. refl) (λ r. r.entries) [] ts f refl e

-- parents only
pub acts_fault : (us : List UTup) (f : Fault) → acts_of us ≡ no f → Refusal 1 (1 + length us) f
unfolding acts_of acts_rule
acts_fault us f e = rule_fault acts_rule (λ t h. refl) (λ r. r.acts) 1 us f refl e
