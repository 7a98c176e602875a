-- The bodies of a record's fields are bytes, as the record is. Assumes nothing.
use Prim.Native.Nat.{ℕ, zero, suc, ◌-◌, ◌≤◌, ◌<◌}
use mathlib.Core.Path.{◌≡◌, refl}
use mathlib.Core.List.{List}
use native.Mathlib.Omega.{arith}
use lib.ListN.{length, drop}
use Rattle.std.specs.Prelude.{Option, Some, None}
use Rattle.base.specs.Lists.{Each}
use Rattle.skeleton.specs.Place.{between, place_at, fields_at}
use Rattle.skeleton.specs.declared.directory.Shape.{Shape}
use Rattle.skeleton.specs.declared.place.Place.{Place}
use Rattle.skeleton.proofs.PlaceLaws.{place_falls, fields_more, fields_done}
use Rattle.fields.specs.Valid.{Bytes}
use Rattle.fields.proofs.ByteLaws.{bytes_drop, bytes_take}
use Rattle.writing.proofs.OrderedLaws.{BodiesBytes}

bytes_between : (r : List ℕ) (i j : ℕ) → Bytes r → Bytes (between r i j)
bytes_between r i j g = bytes_take (j - i) (drop i r) (bytes_drop r i g)

-- from p on, where it is so further on
bytes_by : (r : List ℕ) (h : Shape) → Bytes r → (p : ℕ) → ((q : ℕ) → length r - q < length r - p → BodiesBytes (fields_at r h q))
    → (e : Option Place) → e ≡ place_at r h p → BodiesBytes (fields_at r h p)
unfolding Each
bytes_by r h g p ih None en = rw (fields_done r h p None en refl) tt
bytes_by r h g p ih (Some d) en =
    rw (fields_more r h p _ en d refl) (bytes_between r d.start d.end g, ih d.next (place_falls r h p _ en d refl))

-- at most n bytes of the record stand behind p
bytes_from_lem : (r : List ℕ) (h : Shape) → Bytes r → (n p : ℕ) → length r - p ≤ n → BodiesBytes (fields_at r h p)
bytes_from_lem r h g zero p l = bytes_by r h g p (λ q f. absurd (omega arith)) (place_at r h p) refl
bytes_from_lem r h g (suc n) p l = bytes_by r h g p (λ q f. bytes_from_lem r h g n q (omega arith)) (place_at r h p) refl

pub bytes_fields : (r : List ℕ) (h : Shape) (p : ℕ) → Bytes r → BodiesBytes (fields_at r h p)
bytes_fields r h p g = bytes_from_lem r h g (length r - p) p (omega arith)
