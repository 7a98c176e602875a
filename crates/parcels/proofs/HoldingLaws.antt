-- A holding says what it was made of, and what follows it. Assumes nothing.
use mathlib.Core.Path.{◌≡◌, refl}
use mathlib.Core.Bool.{Bool, true, false}
use mathlib.Core.List.{List}
use Prim.Native.Nat.{ℕ, ◌+◌, ◌-◌, ◌≤◌}
use native.Mathlib.Omega.{arith}
use borrow.Author.Tests.{eq-eqb, le-leb, le-ltb, eqb-true}
use lib.Dec.{eqb}
use lib.ListN.{length, take, replicate}
use lib.Seq.{take-append_seam}
use Rattle.base.specs.Keys.{same}
use Rattle.base.proofs.ChoiceLaws.{both_hold, both_too}
use Rattle.base.proofs.KeysLaws.{same_refl}
use Rattle.fields.specs.Bytes.{bytes}
use Rattle.fields.proofs.ByteLaws.{le_bytes}
use Rattle.skeleton.specs.File.{Field}
use Rattle.rules.specs.General.{name_of, edition_of, number_of}
use Rattle.rules.specs.Outcome.{Outcome, done, refused, and_then}
use Rattle.rules.specs.Answers.{success, output_of}
use Rattle.rules.specs.declared.Mode.TheVariants.{InUpdate}
use Rattle.parcels.specs.Parcel.{whole_of, kind_of, fronts, is_parcel, tells_holding}
use Rattle.parcels.specs.Front.{general_in}
use Rattle.parcels.specs.Holding.{edition_told, number_told, name_told, follows_as, follows_by, follows, holding, told, told_in, tell}
use Rattle.parcels.proofs.GeneralLaws.{Named, edition_small, update_small, name_small}

module _ (fs : List Field) where
  pub holding_length : length (holding fs) ≡ 10 + length (name_of fs)
  unfolding holding bytes
  holding_length = omega arith

  pub holding_name : name_told (holding fs) ≡ name_of fs
  unfolding holding name_told bytes
  holding_name = refl

  module _ (n : Named fs) where
    holding_whole : whole_of (holding fs) ≡ 10 + length (name_of fs)
    unfolding holding whole_of
    holding_whole = le_bytes 4 (10 + length (name_of fs)) _ (omega (arith, name_small fs n))

    holding_kind_lem : kind_of (holding fs) ≡ 1
    unfolding holding kind_of bytes
    holding_kind_lem = le_bytes 2 1 _ (omega arith)

    pub holding_edition : edition_told (holding fs) ≡ edition_of fs
    unfolding holding edition_told bytes
    holding_edition = le_bytes 2 (edition_of fs) _ (omega (arith, edition_small fs n))

    pub holding_number : number_told (holding fs) ≡ number_of fs
    unfolding holding number_told bytes
    holding_number = le_bytes 2 (number_of fs) _ (omega (arith, update_small fs n))

    -- it is a right parcel
    pub holding_right : tells_holding (holding fs) ≡ true
    unfolding is_parcel fronts
    holding_right =
        let l = holding_length in
        let w = holding_whole in
        both_too
        (both_too (le-leb 6 (length (holding fs)) (omega arith))
        (both_too (le-leb 10 (whole_of (holding fs)) (omega arith))
        (both_too (le-leb (whole_of (holding fs)) (length (holding fs)) (omega arith)) (eq-eqb (kind_of (holding fs)) 1 holding_kind_lem))))
        (eq-eqb (whole_of (holding fs)) (length (holding fs)) (omega arith))

    -- a general record with its name and edition, and its number plus one, follows it
    pub follows_next : (gs : List Field) → name_of gs ≡ name_of fs → edition_of gs ≡ edition_of fs → number_of gs ≡ number_of fs + 1 → follows_as (holding fs) gs ≡ true
    unfolding follows_as
    follows_next gs a b c =
        rw (holding_name, holding_edition, holding_number, a)
        (both_too (same_refl (name_of fs)) (both_too (eq-eqb (edition_of gs) (edition_of fs) b) (eq-eqb (number_of gs) (number_of fs + 1) c)))

-- ---- a file that follows

-- its general record can be read, and has the number told plus one
pub follows_inv : (h f : List ℕ) → follows h f ≡ true → (fs : List Field) × (general_in InUpdate f ≡ done fs) × (number_of fs ≡ number_told h + 1)
unfolding follows
follows_inv h f e = go (general_in InUpdate f) refl e
  where
    go : (c : Outcome (List Field)) → general_in InUpdate f ≡ c → follows_by h c ≡ true → (fs : List Field) × (general_in InUpdate f ≡ done fs) × (number_of fs ≡ number_told h + 1)
    go (done fs) x y = unfold follows_by follows_as in
        (fs, x, eqb-true (number_of fs) (number_told h + 1) (both_hold (eqb (edition_of fs) (edition_told h)) _ (both_hold (same (name_of fs) (name_told h)) _ y).1).1)
    go (refused file n z) x y = unfold follows_by in absurd (let w : ◌≡◌ {A = Bool} false true = y in let v : ◌≡◌ {A = ℕ} 0 1 = cc in omega arith)

-- ---- a holding that is told in an output slice with room

pub tell_gives : (c h : List ℕ) (room : ℕ) → told c ≡ done h → length h ≤ room → ((tell c room).answer ≡ success (length h) 0) × (take (length h) (tell c room).out ≡ h)
unfolding tell told_in output_of and_then
tell_gives c h room e l = rw (e, le-ltb room (length h) l) (refl, take-append_seam h (replicate (room - length h) 0))
