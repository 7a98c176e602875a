-- The bytes between two places: how many they are, a part of them, and the fields of a record that they are. Assumes nothing.
use Prim.Native.Nat.{ℕ, ◌+◌, ◌-◌, ◌≤◌}
use mathlib.Core.Path.{◌≡◌, sym, ap, ◌∙◌}
use mathlib.Core.List.{List, ◌∷◌}
use native.Mathlib.Omega.{arith}
use lib.ListN.{length, take, drop, length-take, length-drop}
use lib.Seq.{take-take, drop-drop}
use Rattle.base.proofs.ListLaws.{drop_take}
use Rattle.skeleton.specs.File.{Field}
use Rattle.skeleton.specs.Place.{between, place_at, fields_at}
use Rattle.skeleton.specs.declared.directory.Shape.{Shape}
use Rattle.skeleton.specs.declared.place.Place.{Place}
use Rattle.std.specs.Prelude.{Option, Some}
use Rattle.skeleton.proofs.PlaceLaws.{fields_more}

-- how many they are
pub length_between : (s : List ℕ) (p end : ℕ) → end ≤ length s → length (between s p end) ≡ end - p
length_between s p end h = let x = length-take (end - p) (drop p s) in let y = length-drop p s in omega arith

-- a part of a part
pub between_between : (b : List ℕ) (at len start end : ℕ) → end ≤ len → between (between b at (at + len)) start end ≡ between b (at + start) (at + end)
between_between b at len start end l =
    let m : ℕ = at + len - at in
    let same : at + end - (at + start) ≡ end - start = omega arith in
    ap (take (end - start)) (drop_take start m (drop at b))
    ∙ take-take (end - start) (m - start) (drop start (drop at b)) (omega arith)
    ∙ ap (take (end - start)) (drop-drop start at b)
    ∙ ap (λ (n : ℕ). take n (drop (at + start) b)) (sym same)

-- the next field of a record that lies in a file, by its place in the file
pub fields_within : (u : List ℕ) (at len : ℕ) (h : Shape) (q : ℕ) (e : Option Place) → e ≡ place_at (between u at (at + len)) h q → (d : Place)
    → e ≡ Some d → d.end ≤ len
    → fields_at (between u at (at + len)) h q ≡ record { tag = d.tag; body = between u (at + d.start) (at + d.end) } ∷ fields_at (between u at (at + len)) h d.next
fields_within u at len h q e en d y within =
    let rest : List Field = fields_at (between u at (at + len)) h d.next in
    fields_more (between u at (at + len)) h q e en d y
    ∙ ap (λ (body : List ℕ). record { tag = d.tag; body = body } ∷ rest) (between_between u at len d.start d.end within)
