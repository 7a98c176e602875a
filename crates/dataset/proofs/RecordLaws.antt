-- Laws of numbers 4 to 6 of one record. Assumes nothing.
use mathlib.Core.Path.{◌≡◌, refl, sym, ◌∙◌}
use mathlib.Core.List.{List}
use Prim.Native.Nat.{ℕ}
use Rattle.std.specs.Prelude.{Result, Ok, Err}
use Rattle.base.specs.Check.{ok, no, bind, Passed}
use Rattle.base.specs.Verdict.{result_of, verdict_of}
use Rattle.base.specs.declared.Fault.{Fault}
use Rattle.base.proofs.CheckLaws.{passed_is, refused_is, value_is, fault_is}
use Rattle.skeleton.specs.File.{Field}
use Rattle.rules.specs.Grammar.{number4}
use Rattle.rules.specs.Content.{number5}
use Rattle.rules.specs.Trees.{number6}
use Rattle.rules.specs.declared.Kind.{Kind}
use Rattle.rules.specs.declared.Mode.{Mode}
use Rattle.dataset.specs.Numbers.{four_to_six_in}

-- two tests and then a value
bind_after : {A : Type 0} (c d : Passed) (a : A) → bind c (λ _. bind d (λ _. ok a)) ≡ bind (bind c (λ _. d)) (λ _. ok a)
unfolding bind
bind_after (ok u) d a = refl
bind_after (no x) d a = refl

module _ (m : Mode) (least : ℕ) (fs : List Field) (t : Result Kind Fault) (et : t ≡ result_of (number4 m least fs)) where
  pub four_wrong : (x : Fault) → t ≡ Err x → Err x ≡ result_of (four_to_six_in m least fs)
  unfolding four_to_six_in bind result_of
  four_wrong x y = rw (fault_is (number4 m least fs) x (sym y ∙ et))

  module _ (k : Kind) (y : t ≡ Ok k) (v : Result (Unit {0}) Fault) (ev : v ≡ verdict_of (bind (number5 m k fs) (λ _. number6 m k fs))) where
    numbers : bind (bind (number5 m k fs) (λ _. number6 m k fs)) (λ _. ok k) ≡ four_to_six_in m least fs
    unfolding four_to_six_in bind
    numbers = rw (value_is (number4 m least fs) k (sym y ∙ et)) (sym (bind_after (number5 m k fs) (number6 m k fs) k))

    pub five_six_refused : (x : Fault) → v ≡ Err x → Err x ≡ result_of (four_to_six_in m least fs)
    unfolding result_of bind
    five_six_refused x z = rw (← numbers) (rw (refused_is (bind (number5 m k fs) (λ _. number6 m k fs)) x (sym z ∙ ev)))

    pub five_six_passed : v ≡ Ok tt → Ok k ≡ result_of (four_to_six_in m least fs)
    unfolding result_of bind
    five_six_passed z = rw (← numbers) (rw (passed_is (bind (number5 m k fs) (λ _. number6 m k fs)) (sym z ∙ ev)))

pub ruleset four_ways = (four_wrong, five_six_refused, five_six_passed)
