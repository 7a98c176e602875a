-- Laws of the identifier as it is written. Assumes nothing.
use Prim.Native.Nat.{ℕ, ◌+◌, ◌≤◌}
use mathlib.Core.Path.{◌≡◌, refl, sym, ap, ◌∙◌}
use mathlib.Core.Bool.{Bool, true, false}
use mathlib.Core.List.{List, [], ◌∷◌}
use native.Mathlib.Omega.{arith}
use lib.ListN.{length, length-append}
use Rattle.memory.specs.Digits.{little_endian}
use Rattle.memory.specs.Wrote.{Wrote}
use Rattle.memory.proofs.DigitLaws.{length_little_endian}
use Rattle.memory.proofs.WroteLaws.{then, wrote_none, wrote_length}
use Rattle.skeleton.specs.Emit.{contents}
use Rattle.rules.specs.Kind.{rcnm, tag_of, coded}
use Rattle.rules.specs.Written.{field_as}
use Rattle.rules.specs.declared.Kind.{Kind}
use Rattle.version.specs.declared.Version.{Version}
use Rattle.emission.specs.Fields.{code_part, ident_part, ident_size}

-- ---- lengths

pub length_code : (c : Bool) (n : ℕ) → 8 + length (code_part c n) ≡ ident_size c
unfolding code_part ident_size
length_code true n = omega (arith, length_little_endian 2 n)
length_code false n = refl

pub length_ident : (v : Version) → length (ident_part v) ≡ ident_size (coded v.kind)
unfolding ident_part
length_ident v =
    let a = length_little_endian 4 v.rcid in
    let b = length_little_endian 2 v.rver in
    let k = length_code (coded v.kind) v.code in
    simp length-append (omega arith)

-- ---- `ident_size`

module _ (k : Kind) (b : Bool) (e : b ≡ coded k) where
  pub size_coded : b ≡ true → (10 ≡ ident_size (coded k)) × (10 ≤ 10)
  unfolding ident_size
  size_coded y = (ap ident_size (sym y ∙ e), omega arith)

  pub size_plain : b ≡ false → (8 ≡ ident_size (coded k)) × (8 ≤ 10)
  unfolding ident_size
  size_plain y = (ap ident_size (sym y ∙ e), omega arith)

  -- ---- `put_code`

  module _ (n at : ℕ) (d : List ℕ) where
    pub code_room : b ≡ true → at + length (code_part (coded k) n) ≤ length d → at + 2 ≤ length d
    unfolding ident_size
    code_room y h = omega (arith, length_code (coded k) n, (size_coded y).0)

    pub code_some : b ≡ true → (p : ℕ) (o : List ℕ) → (p ≡ at + 2) × Wrote at (little_endian 2 n) d p o → Wrote at (code_part (coded k) n) d p o
    unfolding code_part
    code_some y p o w = let q : coded k ≡ true = sym e ∙ y in rw q w.1

    pub code_none : b ≡ false → Wrote at (code_part (coded k) n) d at d
    unfolding code_part
    code_none y = let q : coded k ≡ false = sym e ∙ y in rw q (wrote_none at d)

pub ruleset code_ways = (code_room, code_some, code_none)

-- ---- `put_ident`

module _ (v : Version) (at : ℕ) (d : List ℕ) (g : at + length (ident_part v) ≤ length d) where
  -- the room in numbers
  ident_all : at + 8 + length (code_part (coded v.kind) v.code) ≤ length d
  ident_all = omega (arith, length_ident v, length_code (coded v.kind) v.code)

  pub name_room : at + 1 ≤ length d
  name_room = omega (arith, ident_all)

  module _ (x p₁ : ℕ) (o₁ : List ℕ) (w₁ : (p₁ ≡ at + 1) × Wrote at (x ∷ []) d p₁ o₁) where
    pub rcid_room : p₁ + 4 ≤ length o₁
    rcid_room = omega (arith, ident_all, w₁.0, wrote_length w₁.1)

    module _ (p₂ : ℕ) (o₂ : List ℕ) (w₂ : (p₂ ≡ p₁ + 4) × Wrote p₁ (little_endian 4 v.rcid) o₁ p₂ o₂) where
      pub code_left : p₂ + length (code_part (coded v.kind) v.code) ≤ length o₂
      code_left = omega (arith, ident_all, w₁.0, wrote_length w₁.1, w₂.0, wrote_length w₂.1)

      module _ (p₃ : ℕ) (o₃ : List ℕ) (w₃ : Wrote p₂ (code_part (coded v.kind) v.code) o₂ p₃ o₃) where
        pub rver_room : p₃ + 2 ≤ length o₃
        rver_room = omega (arith, ident_all, w₁.0, wrote_length w₁.1, w₂.0, wrote_length w₂.1, w₃.next, wrote_length w₃)

        module _ (p₄ : ℕ) (o₄ : List ℕ) (w₄ : (p₄ ≡ p₃ + 2) × Wrote p₃ (little_endian 2 v.rver) o₃ p₄ o₄) where
          pub ruin_room : p₄ + 1 ≤ length o₄
          ruin_room =
              omega (arith, ident_all, w₁.0, wrote_length w₁.1, w₂.0, wrote_length w₂.1, w₃.next, wrote_length w₃, w₄.0, wrote_length w₄.1)

          pub wrote_ident : x ≡ rcnm v.kind → (p₅ : ℕ) (o₅ : List ℕ) → (p₅ ≡ p₄ + 1) × Wrote p₄ (1 ∷ []) o₄ p₅ o₅ → Wrote at (ident_part v) d p₅ o₅
          unfolding ident_part
          wrote_ident y p₅ o₅ w₅ = rw (sym y) (then w₅.1 (then w₄.1 (then w₃ (then w₂.1 w₁.1))))

-- ---- `put_first`

module _ (v : Version) (at : ℕ) (d : List ℕ) (g : at + ident_size (coded v.kind) + 1 ≤ length d) where
  pub first_room : at + length (ident_part v) ≤ length d
  first_room = omega (arith, length_ident v)

  module _ (p : ℕ) (e : List ℕ) (w : Wrote at (ident_part v) d p e) where
    pub first_mark : p + 1 ≤ length e
    first_mark = omega (arith, length_ident v, w.next, wrote_length w)

    pub wrote_first : (q : ℕ) (o : List ℕ) → (q ≡ p + 1) × Wrote p (30 ∷ []) e q o
        → (q ≡ at + ident_size (coded v.kind) + 1) × Wrote at (contents (field_as (tag_of v.kind) (ident_part v) ∷ [])) d q o
    unfolding contents
    wrote_first q o m = (omega (arith, length_ident v, w.next, m.0), then m.1 w)

pub ruleset ident_ways = (name_room, rcid_room, code_left, rver_room, ruin_room, wrote_ident, first_room, first_mark)
