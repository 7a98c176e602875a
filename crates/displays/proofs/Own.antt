-- A publisher's own files are what the cable may bring. Assumes nothing.
use Prim.Native.Nat.{ℕ}
use mathlib.Core.Path.{◌≡◌, sym, ◌∙◌}
use mathlib.Core.Option.{some}
use mathlib.Core.List.{List, [], ◌∷◌}
use Rattle.base.proofs.OptionLaws.{some_inj}
use Rattle.base.specs.Lists.{Each}
use Rattle.displays.specs.Display.{Handed, bears}
use Rattle.displays.specs.Publisher.{Publisher, Genuine, Cable}

module _ (P : Publisher) (bearing : (n : ℕ) (f : List ℕ) → P.issued n ≡ some f → bears f ≡ some n) where
  -- a file that was issued is genuine, where each file bears the number that it was issued under
  pub own_file : (n : ℕ) (f : List ℕ) → P.issued n ≡ some f → Genuine P f
  unfolding Genuine
  own_file n f e m b = let z : n ≡ m = some_inj (sym (bearing n f e) ∙ b) in rw (← z) e

  -- so any list of its files is one that the cable may bring
  pub own_files : (hs : List Handed) → Each (λ h. (n : ℕ) × (P.issued n ≡ some h.file)) hs → Cable P hs
  unfolding Each Cable
  own_files [] e = tt
  own_files (h ∷ hs) e = (own_file e.0.0 h.file e.0.1, own_files hs e.1)
