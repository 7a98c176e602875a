-- What number 11 says of references, one after the other. Assumes nothing.
use mathlib.Core.Path.{◌≡◌, refl, sym, ap, ◌∙◌}
use mathlib.Core.List.{List, [], ◌∷◌, ◌++◌}
use mathlib.Core.Bool.{Bool, true, false}
use Prim.Native.Nat.{ℕ}
use lib.ListN.{take}
use Rattle.base.specs.Choice.{pick}
use Rattle.std.specs.Prelude.{Result, Ok, Err}
use Rattle.base.specs.Check.{no, bind, fault}
use Rattle.base.specs.Keys.{among}
use Rattle.base.specs.Lists.{each}
use Rattle.base.specs.Verdict.{verdict_of}
use Rattle.base.specs.declared.Fault.{Fault}
use Rattle.rules.specs.Associations.{Mark, number11}
use Rattle.rules.specs.Record.{key_of}
use Rattle.contents.proofs.VerdictLaws.{says_pass, says_no}
use Rattle.keys.specs.Key.{key_at}
use Rattle.keys.specs.Listed.{has_from}
use Rattle.keys.specs.Look.{Sound}
use Rattle.keys.proofs.NamedLaws.{Names}
use Rattle.keys.proofs.ReferenceLaws.{named_more, named_loose}
use Rattle.references.specs.Named.{Says, Alike}

-- ---- references one after the other

-- those of two parts: the second is asked where the first passes
number11_parts : (keys : List (List ℕ)) (ms ns : List Mark) → number11 keys (ms ++ ns) ≡ bind (number11 keys ms) (λ _. number11 keys ns)
unfolding number11 bind
number11_parts keys [] ns = refl
number11_parts keys (m ∷ ms) ns = go (among (take 2 m.key) keys) (number11_parts keys ms ns)
  where
    go : (t : Bool) → number11 keys (ms ++ ns) ≡ bind (number11 keys ms) (λ _. number11 keys ns)
        → pick t (number11 keys (ms ++ ns)) (no (fault 11 m.field m.tuple)) ≡ bind (pick t (number11 keys ms) (no (fault 11 m.field m.tuple))) (λ _. number11 keys ns)
    go true e = e
    go false e = refl

module _ (f : List ℕ) (start : ℕ) where
  -- before anything was asked
  pub alike_same : (ms : List Mark) → Alike f start ms ms
  unfolding Alike
  alike_same ms recs b = refl

  -- of none there is nothing to refuse
  pub says_none : (whole : List Mark) → Alike f start [] whole → Says f start whole (Ok tt)
  unfolding Says Alike number11 verdict_of
  says_none whole a recs b = ap verdict_of (a recs b)

  -- a first part that passes, and one that is refused
  module _ (ms ns whole : List Mark) (a : Alike f start (ms ++ ns) whole) (v : Result (Unit {0}) Fault) (s : Says f start ms v) where
    pub parts_more : v ≡ Ok tt → Alike f start ns whole
    unfolding Says Alike bind
    parts_more x recs b =
        let keys = each key_of recs in
        rw (says_pass (number11 keys ms) (sym (s recs b) ∙ x)) at (rw (number11_parts keys ms ns) at (a recs b))

    pub parts_refused : (y : Fault) → v ≡ Err y → Says f start whole (Err y)
    unfolding Says Alike
    parts_refused y x recs b =
        let keys = each key_of recs in
        says_no (number11 keys ms) (λ _. number11 keys ns) y (sym (s recs b) ∙ x) ∙ ap verdict_of (sym (number11_parts keys ms ns) ∙ a recs b)

  -- the first reference, which stands in the bytes l at p
  module _ (sound : Sound f start) (m : Mark) (ms whole : List Mark) (a : Alike f start (m ∷ ms) whole) (l : List ℕ) (p : ℕ)
      (named : Names l p (take 2 m.key)) (t : Bool) (et : t ≡ has_from f start (key_at l p)) where
    pub mark_more : t ≡ true → Alike f start ms whole
    unfolding Alike
    mark_more x recs b = named_more f start recs b m ms l p named t et _ (a recs b) x

    pub mark_loose : t ≡ false → Says f start whole (Err (fault 11 m.field m.tuple))
    unfolding Alike Says verdict_of
    mark_loose x recs b = ap verdict_of (named_loose f start recs b m ms l p named t et _ (a recs b) x)
