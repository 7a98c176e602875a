-- The first field of a record that is right begins at its base address. Assumes nothing.
use mathlib.Core.Path.{◌≡◌, refl, sym, ap, ◌∙◌}
use mathlib.Core.List.{List}
use mathlib.Core.Bool.{Bool, true, false}
use Prim.Native.Nat.{ℕ, ◌+◌, ◌-◌, ◌≤◌}
use native.Mathlib.Omega.{arith}
use native.Mathlib.Nat.{add-zero}
use lib.ListN.{length, take, drop, length-take, length-drop}
use Rattle.base.specs.Lists.{each}
use Rattle.skeleton.specs.Directory.{entry_at, lies, ended, fields_of}
use Rattle.skeleton.specs.File.{Field, cut_out}
use Rattle.skeleton.specs.Place.{between, fields_at}
use Rattle.skeleton.specs.declared.directory.Shape.{Shape}
use Rattle.skeleton.specs.declared.directory.Entry.{Entry}
use Rattle.skeleton.specs.declared.directory.Entry.TheVariants.{Field as FieldAt, End, Bad}
use Rattle.skeleton.proofs.DirectoryLaws.{lies_in, fields_step, dir_bad}
use Rattle.skeleton.proofs.PlaceLaws.{fields_same}
use Rattle.rules.specs.ByTag.{front}
use Rattle.keys.specs.Key.{key_at}
use Rattle.keys.specs.Listed.{key_of}
use Rattle.keys.proofs.KeyLaws.{key_room, key_part}

-- the first field's body is so many bytes from the base address on
pub record First (r : List ℕ) (base : ℕ) (fs : List Field) : Type 0 where
  pub bytes : ℕ
  pub body : front fs ≡ take bytes (drop base r)

first_of : (r : List ℕ) (base a b : ℕ) (e : Entry) → e ≡ entry_at r a b 24 → (fields_of r base a b).ending ≡ 0
    → First r base (each (cut_out r) (fields_of r base a b).items)
unfolding each front cut_out ended
first_of r base a b (FieldAt tag pos len next) en z = go (lies r base 0 pos len) refl
  where
    go : (t : Bool) → lies r base 0 pos len ≡ t → First r base (each (cut_out r) (fields_of r base a b).items)
    go true e =
        let zero-pos : pos ≡ 0 = (lies_in r base 0 pos len e).follows in
        let there : base + pos ≡ base = omega arith in
        record { bytes = len - 1; body = rw (fields_step r base a b 24 0, ← en) (simp (e, there)) }
    go false e = let w : ◌≡◌ {A = ℕ} 3 0 = simp e at (rw (fields_step r base a b 24 0, ← en) at z) in absurd (omega arith)
first_of r base a b End en z =
    let w : ◌≡◌ {A = ℕ} 3 0 = rw (fields_step r base a b 24 0, ← en) at z in absurd (omega arith)
first_of r base a b Bad en z =
    let w : ◌≡◌ {A = ℕ} 3 0 = dir_bad r base a b 24 0 0 z _ en refl in absurd (omega arith)

-- so the record's key, if it has one, stands at its base address
module _ (f : List ℕ) (p len : ℕ) (h : Shape) (z : (fields_of (between f p (p + len)) h.base h.a h.b).ending ≡ 0) where
  abbrev fields : List Field
  fields = fields_at (between f p (p + len)) h 24

  pub first_key : (key_of fields ≡ 0 → ⊥) → key_at f (p + h.base) ≡ key_of fields
  unfolding key_of
  first_key k =
      let r = between f p (p + len) in
      let s : First r h.base fields = rw (fields_same r h z) (first_of r h.base h.a h.b (entry_at r h.a h.b 24) refl z) in
      let e : key_of fields ≡ key_at (take s.bytes (drop h.base r)) 0 = ap (λ (x : List ℕ). key_at x 0) s.body in
      let t = key_room (take s.bytes (drop h.base r)) 0 (λ z. k (e ∙ z)) in
      let g : h.base + 5 ≤ length (take (p + len - p) (drop p f)) = omega (arith, length-take s.bytes (drop h.base r), length-drop h.base r) in
      key_part f (p + len - p) p h.base g ∙ ap (key_at r) (sym (add-zero h.base)) ∙ key_part r s.bytes h.base 0 t ∙ sym e
