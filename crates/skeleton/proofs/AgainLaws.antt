-- Laws of a record that was found right before: on a later visit its numbers are enough. Assumes nothing.
use mathlib.Core.Path.{◌≡◌, refl, ◌∙◌}
use mathlib.Core.List.{List}
use mathlib.Core.Bool.{Bool, true, false}
use Prim.Native.Nat.{ℕ, ◌<◌}
use native.Mathlib.Omega.{arith}
use borrow.Author.Tests.{ltb-true, ltb-false}
use lib.ListN.{length}
use lib.Dec.{ltb}
use Rattle.skeleton.specs.Leader.{number_of}
use Rattle.skeleton.specs.File.{records_from}
use Rattle.skeleton.specs.Record.{record_at, stated_at}
use Rattle.skeleton.specs.declared.leader.Head.{Head}
use Rattle.skeleton.specs.declared.leader.Broken.{Broken}
use Rattle.std.specs.Prelude.{Result, Ok, Err}
use Rattle.skeleton.proofs.LeaderLaws.{number_some}
use Rattle.skeleton.proofs.RecordLaws.{right}
use Rattle.skeleton.proofs.FileLaws.{records_over, records_refused, records_more}

-- where a walk finds records, the first is there and is right
abbrev Begins : List ℕ → ℕ → Result Head Broken → Type 0
Begins f at (Ok d) = stated_at f at ≡ Ok d
Begins f at (Err x) = ⊥

begins_of : (f : List ℕ) (at : ℕ) (h : Result Head Broken) → h ≡ record_at f at → (t : Bool) → ltb at (length f) ≡ t
    → 0 < length (records_from f at).items → Begins f at h
begins_of f at h e false t some =
    let none : 0 < 0 = rw (records_over f at (ltb-false at (length f) t)) at some in absurd (omega arith)
begins_of f at (Ok d) e true t some = (right f at _ e d refl).again
begins_of f at (Err x) e true t some =
    let none : 0 < 0 = rw (records_refused f at (ltb-true at (length f) t) _ e x refl) at some in omega arith

-- at a place from which a walk finds records
module _ (f : List ℕ) (at : ℕ) (some : 0 < length (records_from f at).items) where
  begins : Begins f at (record_at f at)
  begins = begins_of f at (record_at f at) refl (ltb at (length f)) refl some

  same : (h : Result Head Broken) → Begins f at h → stated_at f at ≡ h
  same (Ok d) k = k
  same (Err x) k = absurd k

  -- its numbers alone say what its leader and its directory said
  pub again : (h : Result Head Broken) → h ≡ stated_at f at → h ≡ record_at f at
  again h e = e ∙ same (record_at f at) begins

  -- they refuse nothing
  pub again_not : (h : Result Head Broken) → h ≡ stated_at f at → (y : Broken) → h ≡ Err y → ⊥
  again_not h e y x = let k : Begins f at h = rw (again h e) begins in rw x at k

-- a walk that ends well before the end of the file finds a record
some_of : (f : List ℕ) (at : ℕ) → at < length f → (h : Result Head Broken) → h ≡ record_at f at
    → (records_from f at).ending ≡ 0 → 0 < length (records_from f at).items
some_of f at l (Ok d) e z = rw (records_more f at l _ e d refl) (omega arith)
some_of f at l (Err x) e z =
    let w : number_of x ≡ 0 = rw (records_refused f at l _ e x refl) at z in
    let p = number_some x in
    absurd (omega arith)

pub records_some : (f : List ℕ) (at : ℕ) → at < length f → (records_from f at).ending ≡ 0 → 0 < length (records_from f at).items
records_some f at l z = some_of f at l (record_at f at) refl z
