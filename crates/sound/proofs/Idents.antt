-- Identifiers and FOID of fields that are made of bytes. Assumes nothing.
use Prim.Native.Nat.{ℕ}
use mathlib.Core.Path.{◌≡◌, refl, sym, ap, ◌∙◌}
use mathlib.Core.Bool.{true, false}
use mathlib.Core.List.{List, [], ◌∷◌}
use Rattle.base.specs.Choice.{pick}
use Rattle.base.specs.Lists.{each}
use Rattle.base.proofs.ChoiceLaws.{both_hold}
use Rattle.fields.specs.Table.{rcid, count, code, change, head_of, tuple_of}
use Rattle.fields.specs.Values.{Val, num, values, num_at}
use Rattle.fields.specs.Valid.{Bytes, passes, pass_all, Has}
use Rattle.fields.specs.declared.Format.{Format}
use Rattle.fields.specs.declared.Format.TheVariants.{Foid}
use Rattle.fields.specs.declared.Sub.TheVariants.{B11}
use Rattle.fields.proofs.FieldLaws.{filled}
use Rattle.fields.proofs.EncodeLaws.{pass_values}
use Rattle.rules.specs.Kind.{rcnm, coded}
use Rattle.rules.specs.Content.{ident_format}
use Rattle.rules.specs.Record.{Ident, ident_of, foid_of}
use Rattle.rules.specs.Written.{nums}
use Rattle.rules.specs.declared.Kind.{Kind}
use Rattle.rules.specs.declared.Kind.TheVariants.{Info, Point, Multi, Feature}
use Rattle.sound.proofs.Values.{nums_from, one_number, all_nums, insert_last}

-- the values of a head that is read pass
pub head_read : (k : Format) (b : List ℕ) → Bytes b → Has k b → pass_all (head_of k) (values (head_of k) b) ≡ true
head_read k b g e = let r = filled (head_of k) (tuple_of k) b e in pass_values (head_of k) b r.bytes g r.taken

-- an identifier as it is written: RCNM, RCID, the code if the kind has one, RVER, insert
unfoldable pub ident_nums : Kind → Ident → List ℕ
ident_nums k id = pick (coded k) (rcnm k ∷ id.rcid ∷ id.code ∷ id.rver ∷ 1 ∷ []) (rcnm k ∷ id.rcid ∷ id.rver ∷ 1 ∷ [])

module _ (n : ℕ) (v : List Val) where
  -- with a code
  with_code : pass_all (B11 n n ∷ rcid ∷ code ∷ count ∷ change ∷ []) v ≡ true
      → pass_all (B11 n n ∷ rcid ∷ code ∷ count ∷ B11 1 1 ∷ []) (num n ∷ num (num_at v 1) ∷ num (num_at v 2) ∷ num (num_at v 3) ∷ num 1 ∷ []) ≡ true
  unfolding nums_from pass_all
  with_code p =
      let q : pass_all (B11 n n ∷ rcid ∷ code ∷ count ∷ change ∷ []) (nums_from 0 5 v) ≡ true = ap (pass_all (B11 n n ∷ rcid ∷ code ∷ count ∷ change ∷ [])) (sym (all_nums (B11 n n ∷ rcid ∷ code ∷ count ∷ change ∷ []) v refl p)) ∙ p in
      let m : num_at v 0 ≡ n = one_number n (num_at v 0) (both_hold (passes (B11 n n) (num (num_at v 0))) _ q).0 in
      let r = insert_last (B11 n n ∷ rcid ∷ code ∷ count ∷ []) change (num (num_at v 0) ∷ num (num_at v 1) ∷ num (num_at v 2) ∷ num (num_at v 3) ∷ []) (num (num_at v 4)) q in
      rw m at r

  -- without one
  without : pass_all (B11 n n ∷ rcid ∷ count ∷ change ∷ []) v ≡ true
      → pass_all (B11 n n ∷ rcid ∷ count ∷ B11 1 1 ∷ []) (num n ∷ num (num_at v 1) ∷ num (num_at v 2) ∷ num 1 ∷ []) ≡ true
  unfolding nums_from pass_all
  without p =
      let q : pass_all (B11 n n ∷ rcid ∷ count ∷ change ∷ []) (nums_from 0 4 v) ≡ true = ap (pass_all (B11 n n ∷ rcid ∷ count ∷ change ∷ [])) (sym (all_nums (B11 n n ∷ rcid ∷ count ∷ change ∷ []) v refl p)) ∙ p in
      let m : num_at v 0 ≡ n = one_number n (num_at v 0) (both_hold (passes (B11 n n) (num (num_at v 0))) _ q).0 in
      let r = insert_last (B11 n n ∷ rcid ∷ count ∷ []) change (num (num_at v 0) ∷ num (num_at v 1) ∷ num (num_at v 2) ∷ []) (num (num_at v 3)) q in
      rw m at r

-- an identifier that is read can be written, with insert
pub ident_read : (k : Kind) (b : List ℕ) → Bytes b → Has (ident_format false k) b → pass_all (head_of (ident_format true k)) (nums (ident_nums k (ident_of k b))) ≡ true
unfolding ident_format head_of ident_nums ident_of nums each coded rcnm
ident_read Info b g e = with_code 150 _ (head_read (ident_format false Info) b g e)
ident_read Point b g e = without 110 _ (head_read (ident_format false Point) b g e)
ident_read Multi b g e = without 115 _ (head_read (ident_format false Multi) b g e)
ident_read Feature b g e = with_code 100 _ (head_read (ident_format false Feature) b g e)

-- a FOID that is read can be written
pub foid_read : (b : List ℕ) → Bytes b → Has Foid b → pass_all (head_of Foid) (nums (foid_of b)) ≡ true
unfolding head_of foid_of nums each nums_from
foid_read b g e =
    let p : pass_all (head_of Foid) (values (head_of Foid) b) ≡ true = head_read Foid b g e in
    ap (pass_all (head_of Foid)) (sym (all_nums (head_of Foid) (values (head_of Foid) b) refl p)) ∙ p
