-- Keys that are not above all earlier ones, counted: where there is none, each key stands once.
use Rattle.std.specs.Prelude.{ℕ, ◌≡◌, Bool, List, take}
use Rattle.base.specs.Check.{ok}
use Rattle.skeleton.specs.Place.{fields_at}
use Rattle.skeleton.specs.declared.directory.Shape.{Shape}
use Rattle.rules.specs.Tags.{INAS}
use Rattle.rules.specs.ByTag.{front, has}
use Rattle.contents.specs.Keys.{keys_in, seen_before, top_with, spas_from, field_once, once_from}
use Rattle.contents.specs.declared.strays.Strays.{Strays}

-- none is counted behind j tuples of the SPAS b: then none was before, and whatever fields stand before it, its keys stand once so far
unfoldable pub Risen : List ℕ → ℕ → ℕ → ℕ → ℕ → ℕ → Type 0
Risen b largest before j top count = count ≡ 0 → (before ≡ 0)
    × ((r : List ℕ) (h : Shape) (p n : ℕ) → largest ≡ top_with 0 (seen_before r h p n b 0)
    → (top ≡ top_with 0 (seen_before r h p n b j)) × (spas_from r h p n b j top ≡ spas_from r h p n b 0 largest))

-- none is counted in the SPAS b
unfoldable pub SpasRises : List ℕ → Strays → Strays → Type 0
SpasRises b s s' = s'.count ≡ 0 → (s.count ≡ 0)
    × ((r : List ℕ) (h : Shape) (p n : ℕ) → s.top ≡ top_with 0 (seen_before r h p n b 0) → ok s'.top ≡ spas_from r h p n b 0 s.top)

-- none is counted in the field at q, behind n fields from the entry at p on
unfoldable pub FieldRises : List ℕ → Shape → ℕ → ℕ → Bool → Strays → Strays → Type 0
FieldRises r h q tag informed s s' = s'.count ≡ 0 → (s.count ≡ 0)
    × ((p n : ℕ) → informed ≡ has INAS (take n (fields_at r h p)) → s.top ≡ top_with 0 (keys_in (take n (fields_at r h p)))
    → ok s'.top ≡ field_once r h p n tag (front (fields_at r h q)) s.top)

-- none is counted in the n fields from the entry at p on, the second of the record
unfoldable pub Level : List ℕ → Shape → ℕ → ℕ → Strays → Type 0
Level r h p n s = s.count ≡ 0 → (s.top ≡ top_with 0 (keys_in (take n (fields_at r h p)))) × (once_from r h p n ≡ once_from r h p 0)
