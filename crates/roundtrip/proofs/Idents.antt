-- The identifier and the FOID of a sound record are read again. Assumes nothing.
use Prim.Native.Nat.{ℕ}
use mathlib.Core.Path.{◌≡◌, refl, sym, ap, ◌∙◌}
use mathlib.Core.Bool.{true, false}
use mathlib.Core.List.{List, [], ◌∷◌}
use native.Mathlib.Omega.{arith}
use Rattle.base.specs.Lists.{each}
use Rattle.fields.specs.Table.{head_of}
use Rattle.fields.specs.Values.{values, num_at, puts}
use Rattle.fields.specs.Content.{Content, content}
use Rattle.fields.specs.Valid.{pass_all, Has}
use Rattle.fields.specs.declared.Format.TheVariants.{Foid}
use Rattle.fields.proofs.WiderLaws.{format_wider}
use Rattle.rules.specs.Kind.{coded}
use Rattle.rules.specs.Content.{ident_format}
use Rattle.rules.specs.Record.{Rec, ident_of, foid_of}
use Rattle.rules.specs.Written.{nums, ident_bytes}
use Rattle.sequence.proofs.Tests.{by_bool}
use Rattle.sound.specs.Sound.{ident_vals, SoundRec}
use Rattle.sound.proofs.Values.{all_length}
use Rattle.sound.proofs.Records.{ident_wider}
use Rattle.roundtrip.proofs.Heads.{head_back}

-- ---- the identifier

-- it has its format
pub ident_has : (r : Rec) → SoundRec r → Has (ident_format true r.kind) (ident_bytes r)
unfolding ident_bytes ident_vals
ident_has r s = (head_back (ident_format true r.kind) (ident_vals r) s.ident).0

-- its values, by the format of an update
ident_values : (r : Rec) → SoundRec r → values (head_of (ident_format false r.kind)) (ident_bytes r) ≡ ident_vals r
unfolding ident_bytes content ident_vals
ident_values r s =
    let k = ident_format true r.kind in
    let b = puts (head_of k) (ident_vals r) in
    let (x, y) = head_back k (ident_vals r) s.ident in
    let w = (format_wider (ident_wider r.kind) b x).1 in
    sym (ap (λ (c : Content). c.head) w) ∙ y

-- what it says
pub ident_again : (r : Rec) → SoundRec r → ident_of r.kind (ident_bytes r) ≡ record { rcid = r.rcid; code = r.code; rver = r.rver; ruin = 1 }
unfolding ident_of ident_vals nums each
ident_again r s =
    let v = ident_values r s in
    by_bool (coded r.kind)
    (λ h. rw (v, h))
    (λ h. rw (v, h) (let z = sym (s.code_none h) in λ i. record { rcid = r.rcid; code = z i; rver = r.rver; ruin = 1 }))

-- ---- FOID

-- the bytes of a FOID
abbrev pub foid_bytes : List ℕ → List ℕ
foid_bytes foid = puts (head_of Foid) (nums foid)

-- three numbers
three_numbers : (ks : List ℕ) → pass_all (head_of Foid) (nums ks) ≡ true → num_at (nums ks) 0 ∷ num_at (nums ks) 1 ∷ num_at (nums ks) 2 ∷ [] ≡ ks
unfolding nums each head_of
three_numbers [] p = absurd (omega (arith, all_length (head_of Foid) _ p))
three_numbers (a ∷ []) p = absurd (omega (arith, all_length (head_of Foid) _ p))
three_numbers (a ∷ b ∷ []) p = absurd (omega (arith, all_length (head_of Foid) _ p))
three_numbers (a ∷ b ∷ c ∷ []) p = refl
three_numbers (a ∷ b ∷ c ∷ d ∷ ks) p = absurd (omega (arith, all_length (head_of Foid) _ p))

-- it has its format
pub foid_has : (foid : List ℕ) → pass_all (head_of Foid) (nums foid) ≡ true → Has Foid (foid_bytes foid)
foid_has foid p = (head_back Foid (nums foid) p).0

-- and is read again
pub foid_again : (foid : List ℕ) → pass_all (head_of Foid) (nums foid) ≡ true → foid_of (foid_bytes foid) ≡ foid
unfolding foid_of
foid_again foid p = rw (head_back Foid (nums foid) p).1 (three_numbers foid p)
