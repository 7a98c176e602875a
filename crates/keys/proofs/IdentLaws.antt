-- What the key of a record, or of a reference, is, where its field has its format. Assumes nothing.
use mathlib.Core.Path.{◌≡◌, refl, sym, ap, ◌∙◌}
use mathlib.Core.List.{List, ◌∷◌}
use mathlib.Core.Bool.{Bool, true, false}
use mathlib.Core.Option.{some}
use Prim.Native.Nat.{ℕ, ◌+◌, ◌*◌, ◌≤◌, ◌<◌}
use native.Mathlib.Omega.{arith}
use lib.ListN.{length, get_or, drop, length-drop}
use Rattle.base.specs.Check.{ok}
use Rattle.base.proofs.CheckLaws.{bind_inv}
use Rattle.skeleton.specs.File.{Field}
use Rattle.fields.specs.Bytes.{le}
use Rattle.fields.specs.Sizes.{size, sizes, in_range}
use Rattle.fields.specs.Table.{head_of, tuple_of}
use Rattle.fields.specs.Values.{values}
use Rattle.fields.specs.Content.{fill}
use Rattle.fields.specs.declared.Sub.{Sub}
use Rattle.fields.specs.declared.Sub.TheVariants.{B11, B14}
use Rattle.fields.proofs.ByteLaws.{le1}
use Rattle.fields.proofs.SizeLaws.{num_some, sizes_cons, in_range_lem}
use Rattle.fields.proofs.FieldLaws.{filled}
use Rattle.fields.proofs.ValueLaws.{head_number}
use Rattle.rules.specs.ByTag.{front}
use Rattle.rules.specs.Kind.{rcnm, rank, coded}
use Rattle.rules.specs.Content.{ident_format, insert_only, stands, number5}
use Rattle.rules.specs.Record.{ident_of, key_named}
use Rattle.rules.specs.declared.Kind.{Kind}
use Rattle.rules.specs.declared.Kind.TheVariants.{Info, Point, Multi, Feature}
use Rattle.rules.specs.declared.Mode.{Mode}
use Rattle.rules.specs.declared.Mode.TheVariants.{InDataset}
use Rattle.rules.proofs.FilledLaws.{stands_fill}
use Rattle.keys.specs.Key.{rank_of, key_at}
use Rattle.keys.specs.Listed.{key_of}
use Rattle.keys.specs.Map.{kind_in}
use Rattle.keys.specs.Numbered.{number_of, Ranged}
use Rattle.keys.proofs.KeyLaws.{key_there}

-- ---- a number c, and then a number in its range

-- a body that begins with the number c and an RCID
pub record Opens (c : ℕ) (b : List ℕ) : Type 0 where
  pub room : 5 ≤ length b
  pub kind : get_or b 0 0 ≡ c
  pub small : le 4 (drop 1 b) < 4294967296

-- the number c, and the bytes behind it
pub first_is : (c : ℕ) (ds : List Sub) (b : List ℕ) (n : ℕ) → sizes (B11 c c ∷ ds) b ≡ some n → (get_or b 0 0 ≡ c) × (k : ℕ) × (sizes ds (drop 1 b) ≡ some k)
unfolding size
first_is c ds b n e =
    let r = sizes_cons (B11 c c) ds b n e in
    let p = num_some 1 (in_range c c) b r.0 r.2 in
    let v = in_range_lem c c (le 1 b) p.2 in
    let rest : sizes ds (drop 1 b) ≡ some r.1 = rw p.0 r.3 in
    (omega (arith, le1 b 0 p.1), r.1, rest)

opens_of : (c : ℕ) (ds : List Sub) (b : List ℕ) (n : ℕ) → sizes (B11 c c ∷ B14 1 4294967294 ∷ ds) b ≡ some n → Opens c b
unfolding size
opens_of c ds b n e =
    let r = first_is c (B14 1 4294967294 ∷ ds) b n e in
    let s = sizes_cons (B14 1 4294967294) ds (drop 1 b) r.1 r.2 in
    let q = num_some 4 (in_range 1 4294967294) (drop 1 b) s.0 s.2 in
    let w = in_range_lem 1 4294967294 (le 4 (drop 1 b)) q.2 in
    record { room = omega (arith, length-drop 1 b, q.1); kind = r.0; small = omega (arith, w.1) }

-- ---- identifiers

-- the identifier of each kind, in a dataset and in an update
ident_opens : (new : Bool) (k : Kind) (b : List ℕ) → fill (head_of (ident_format new k)) (tuple_of (ident_format new k)) b ≡ true → Opens (rcnm k) b
unfolding ident_format head_of rcnm
ident_opens true Info b e = opens_of 150 _ b _ (filled _ _ b e).taken
ident_opens true Point b e = opens_of 110 _ b _ (filled _ _ b e).taken
ident_opens true Multi b e = opens_of 115 _ b _ (filled _ _ b e).taken
ident_opens true Feature b e = opens_of 100 _ b _ (filled _ _ b e).taken
ident_opens false Info b e = opens_of 150 _ b _ (filled _ _ b e).taken
ident_opens false Point b e = opens_of 110 _ b _ (filled _ _ b e).taken
ident_opens false Multi b e = opens_of 115 _ b _ (filled _ _ b e).taken
ident_opens false Feature b e = opens_of 100 _ b _ (filled _ _ b e).taken

ident_rcid : (new : Bool) (k : Kind) (b : List ℕ) → fill (head_of (ident_format new k)) (tuple_of (ident_format new k)) b ≡ true
    → (ident_of k b).rcid ≡ le 4 (drop 1 b)
unfolding ident_of ident_format coded head_of values
ident_rcid true Info b e = (head_number _ _ b e 1 1 4 refl refl).1
ident_rcid true Point b e = (head_number _ _ b e 1 1 4 refl refl).1
ident_rcid true Multi b e = (head_number _ _ b e 1 1 4 refl refl).1
ident_rcid true Feature b e = (head_number _ _ b e 1 1 4 refl refl).1
ident_rcid false Info b e = (head_number _ _ b e 1 1 4 refl refl).1
ident_rcid false Point b e = (head_number _ _ b e 1 1 4 refl refl).1
ident_rcid false Multi b e = (head_number _ _ b e 1 1 4 refl refl).1
ident_rcid false Feature b e = (head_number _ _ b e 1 1 4 refl refl).1

rank_rcnm : (k : Kind) → rank_of (rcnm k) ≡ rank k
unfolding rank_of rcnm rank
rank_rcnm Info = refl
rank_rcnm Point = refl
rank_rcnm Multi = refl
rank_rcnm Feature = refl

rank_some : (k : Kind) → 0 < rank k
unfolding rank
rank_some Info = omega arith
rank_some Point = omega arith
rank_some Multi = omega arith
rank_some Feature = omega arith

-- ---- a record that has passed number 5

-- its key, as the rules have it and as a number
pub record Keyed (k : Kind) (fs : List Field) : Type 0 where
  pub ranged : Ranged (key_named k fs)
  pub number : key_of fs ≡ number_of (key_named k fs)
  pub kind : kind_in (key_of fs) ≡ rank k
  pub some : key_of fs ≡ 0 → ⊥

keyed_of : (new : Bool) (k : Kind) (fs : List Field) → fill (head_of (ident_format new k)) (tuple_of (ident_format new k)) (front fs) ≡ true → Keyed k fs
unfolding key_of key_named number_of
keyed_of new k fs e =
    let o = ident_opens new k (front fs) e in
    let i = ident_rcid new k (front fs) e in
    let s = o.small in
    let p = rank_some k in
    let r = rank_rcnm k in
    let n : key_at (front fs) 0 ≡ rank k * 4294967296 + le 4 (drop 1 (front fs))
    = sym (key_there (front fs) 0 o.room (rank k) (le 4 (drop 1 (front fs))) (sym r ∙ ap rank_of (sym o.kind)) refl) in
    record {
      ranged = record { rcnm = rcnm k; rcid = (ident_of k (front fs)).rcid; parts = refl; kind = omega arith; small = omega arith };
      number = n ∙ rw (i, r) refl;
      kind = omega arith;
      some = λ z. omega arith;
    }

pub keyed_by : (m : Mode) (k : Kind) (f : Field) (fs : List Field) (u : Unit {0}) → number5 m k (f ∷ fs) ≡ ok u → Keyed k (f ∷ fs)
unfolding number5 front
keyed_by m k f fs u e =
    let r = bind_inv (stands 1 (ident_format (insert_only m) k) f.body) _ u e in
    keyed_of (insert_only m) k (f ∷ fs) (stands_fill 1 (ident_format (insert_only m) k) f.body r.0 r.1)

pub keyed_passed : (k : Kind) (f : Field) (fs : List Field) (u : Unit {0}) → number5 InDataset k (f ∷ fs) ≡ ok u → Keyed k (f ∷ fs)
keyed_passed k f fs u e = keyed_by InDataset k f fs u e
