-- The keys that associations name, as numbers. Assumes nothing.
use mathlib.Core.Path.{◌≡◌, refl, sym, ap, ◌∙◌}
use mathlib.Core.List.{List, [], ◌∷◌}
use mathlib.Core.Bool.{Bool, true, false, true≢false}
use Prim.Native.Nat.{ℕ, ◌+◌, ◌≤◌, ◌<◌}
use native.Mathlib.Omega.{arith}
use borrow.Author.Tests.{eqb-true}
use lib.ListN.{length, get_or, take, drop}
use lib.Dec.{eqb}
use Rattle.base.specs.Choice.{pick, either}
use Rattle.fields.specs.Bytes.{le}
use Rattle.fields.specs.Sizes.{size, in_set}
use Rattle.fields.specs.Table.{head_of, tuple_of}
use Rattle.fields.specs.Values.{values, num_at}
use Rattle.fields.specs.Content.{fill}
use Rattle.fields.specs.declared.Format.TheVariants.{InasNew, InasGone, Spas}
use Rattle.fields.specs.declared.Sub.TheVariants.{Among}
use Rattle.fields.proofs.ByteLaws.{le1}
use Rattle.fields.proofs.SizeLaws.{num_some, sizes_cons}
use Rattle.fields.proofs.TupleLaws.{Next}
use Rattle.fields.proofs.FieldLaws.{filled}
use Rattle.fields.proofs.ValueLaws.{head_number, tuple_number}
use Rattle.rules.specs.Content.{inas_format}
use Rattle.rules.specs.Associations.{inas_key, spas_key}
use Rattle.keys.specs.Key.{rank_of, key_at, KeyFits}
use Rattle.keys.specs.Numbered.{number_of, Ranged}
use Rattle.keys.proofs.KeyLaws.{key_there}
use Rattle.keys.proofs.IdentLaws.{first_is}

-- a key that some bytes name at p: it is of a kind, and its number is the key there
pub record Names (b : List ℕ) (p : ℕ) (k : List ℕ) : Type 0 where
  pub room : p + 5 ≤ length b
  pub ranged : Ranged k
  pub number : key_at b p ≡ number_of k

names_of : (b : List ℕ) (p c r : ℕ) (k : List ℕ) → p + 5 ≤ length b → KeyFits b p → c ≡ get_or b p 0 → r ≡ le 4 (drop (p + 1) b) → 0 < rank_of c → k ≡ c ∷ r ∷ []
    → Names b p k
unfolding KeyFits number_of
names_of b p c r k h g ec er s e =
    let w = g h in
    record {
      room = h;
      ranged = record { rcnm = c; rcid = r; parts = e; kind = s; small = rw er w };
      number = sym (key_there b p h (rank_of c) r (ap rank_of ec) er) ∙ rw e refl;
    }

-- the kinds that are named
named_150 : 0 < rank_of 150
unfolding rank_of
named_150 = omega arith

named_110 : 0 < rank_of 110
unfolding rank_of
named_110 = omega arith

named_115 : 0 < rank_of 115
unfolding rank_of
named_115 = omega arith

-- ---- INAS

-- its first two values are the same, whether it is inserted or deleted
inas_first : (t : Bool) (b : List ℕ) → num_at (values (head_of (pick t InasGone InasNew)) b) 0 ≡ num_at (values (head_of InasNew) b) 0
unfolding head_of values
inas_first true b = refl
inas_first false b = refl

inas_second : (t : Bool) (b : List ℕ) → num_at (values (head_of (pick t InasGone InasNew)) b) 1 ≡ num_at (values (head_of InasNew) b) 1
unfolding head_of values
inas_second true b = refl
inas_second false b = refl

pub inas_names : (b : List ℕ) → fill (head_of InasNew) (tuple_of InasNew) b ≡ true → KeyFits b 0 → Names b 0 (take 2 (inas_key b))
unfolding inas_key inas_format head_of
inas_names b e g =
    let t = eqb (get_or b 9 0) 2 in
    let p = head_number (head_of InasNew) (tuple_of InasNew) b e 0 0 1 refl refl in
    let q = head_number (head_of InasNew) (tuple_of InasNew) b e 1 1 4 refl refl in
    let one = le1 b 0 p.0 in
    let c : get_or b 0 0 ≡ 150 = (first_is 150 _ b _ (filled (head_of InasNew) (tuple_of InasNew) b e).taken).0 in
    let ec : num_at (values (head_of (pick t InasGone InasNew)) b) 0 ≡ get_or b 0 0 = inas_first t b ∙ p.1 ∙ one in
    let er : num_at (values (head_of (pick t InasGone InasNew)) b) 1 ≡ le 4 (drop 1 b) = inas_second t b ∙ q.1 in
    names_of b 0 _ _ _ (omega (arith, q.0)) g ec er (rw (ec ∙ c) named_150) refl

-- ---- SPAS

-- RRNM is 110 or 115
spas_kind : (c : ℕ) (s t : Bool) → eqb c 110 ≡ s → eqb c 115 ≡ t → either s (either t (either t t)) ≡ true → 0 < rank_of c
spas_kind c true t x y e = rw (eqb-true c 110 x) named_110
spas_kind c false true x y e = rw (eqb-true c 115 y) named_115
spas_kind c false false x y e = absurd (true≢false (sym e))

-- the tuple from p to n names the key at p
pub spas_names : (b : List ℕ) (p n : ℕ) → Next (tuple_of Spas) b p n → KeyFits b p → Names b p (spas_key (values (tuple_of Spas) (drop p b)))
unfolding spas_key tuple_of size
spas_names b p n x g =
    let q = tuple_number (tuple_of Spas) b p n x 0 0 1 refl refl in
    let r = tuple_number (tuple_of Spas) b p n x 1 1 4 refl refl in
    let z : p + 0 ≡ p = omega arith in
    let ec : num_at (values (tuple_of Spas) (drop p b)) 0 ≡ le 1 (drop p b) = rw z at q.1 in
    let one = le1 b p (omega (arith, q.0)) in
    let s = sizes_cons (Among 110 115 115 115) _ (drop p b) _ x.taken in
    let v = (num_some 1 (in_set 110 115 115 115) (drop p b) s.0 s.2).2 in
    let k : 0 < rank_of (le 1 (drop p b)) = spas_kind (le 1 (drop p b)) (eqb (le 1 (drop p b)) 110) (eqb (le 1 (drop p b)) 115) refl refl v in
    names_of b p _ _ _ (omega (arith, r.0)) g (ec ∙ one) r.1 (rw ec k) refl
