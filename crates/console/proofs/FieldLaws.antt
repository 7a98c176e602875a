-- Laws of what C sees of a field. Assumes nothing.
use Prim.Native.Nat.{ℕ}
use mathlib.Core.Path.{◌≡◌, sym, ap, ◌∙◌}
use mathlib.Core.List.{List}
use Rattle.std.specs.Prelude.{Option, Some, None}
use Rattle.fieldwise.specs.InFile.{field_in_file}
use Rattle.fieldwise.specs.declared.numbered.Found.{Found}
use Rattle.console.specs.Numbered.{three_of}
use Rattle.console.specs.Field.{there, field_numbers, SaysField}

pub field_found : (file : List ℕ) (m n : ℕ) (r : Option Found) (d : Found) (old new : List ℕ) → r ≡ Some d → r ≡ field_in_file file m n → new ≡ three_of d.tag d.start d.end old
    → SaysField file m n old 1 new
unfolding there field_numbers
field_found file m n r d old new x y z = let w : Some d ≡ field_in_file file m n = sym x ∙ y in record { result = ap there w; numbers = z ∙ ap (λ (f : Option Found). field_numbers f old) w }

pub field_none : (file : List ℕ) (m n : ℕ) (r : Option Found) (old : List ℕ) → r ≡ None → r ≡ field_in_file file m n → SaysField file m n old 0 old
unfolding there field_numbers
field_none file m n r old x y = let w : None ≡ field_in_file file m n = sym x ∙ y in record { result = ap there w; numbers = ap (λ (f : Option Found). field_numbers f old) w }
