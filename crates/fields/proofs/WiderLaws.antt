-- Formats with narrower ranges: what fills them fills the wider ones, with the same values. A dataset's formats take insert alone, an update's more.
-- Assumes nothing.
use Prim.Native.Nat.{ℕ, ◌≤◌, ◌<◌}
use mathlib.Core.Path.{◌≡◌, refl, sym, ap, ap₂, ◌∙◌}
use mathlib.Core.Bool.{Bool, true}
use mathlib.Core.Option.{Option, some}
use mathlib.Core.List.{List, [], ◌∷◌}
use native.Mathlib.Omega.{arith}
use lib.ListN.{length, drop}
use lib.Dec.{T, leb, lit≤}
use borrow.Author.Tests.{le-leb, leb-true}
use Rattle.base.specs.Walk.{Got, before}
use Rattle.base.proofs.ChoiceLaws.{both_hold}
use Rattle.fields.specs.Bytes.{le}
use Rattle.fields.specs.Table.{head_of, tuple_of}
use Rattle.fields.specs.Sizes.{in_range, num_size, size, sizes, amount}
use Rattle.fields.specs.Values.{Val, value, values}
use Rattle.fields.specs.Content.{tuples, many, fill, content}
use Rattle.fields.specs.Places.{ending_at}
use Rattle.fields.specs.declared.Format.{Format}
use Rattle.fields.specs.declared.Format.TheVariants.{Dsid, DsidUpdate, Irid, IridNew, Prid, PridNew, Mrid, MridNew, Frid, FridNew, Attr, AttrNew, Spas, SpasNew}
use Rattle.fields.specs.declared.Sub.{Sub}
use Rattle.fields.specs.declared.Sub.TheVariants.{B11, B12}
use Rattle.fields.proofs.SizeLaws.{num_some, sizes_cons, sizes_join}
use Rattle.fields.proofs.TupleLaws.{First, tuples_end, tuples_on, tuples_ind}
use Rattle.fields.proofs.FieldLaws.{filled, fills}
use Rattle.fields.proofs.ValueLaws.{values_first}

-- ---- subfields with narrower ranges

-- the same subfield, or one with a narrower range
pub data Narrow : Sub → Sub → Type 0 where
  same : {d : Sub} → Narrow d d
  b11 : {a b c d : ℕ} → T (leb c a) → T (leb b d) → Narrow (B11 a b) (B11 c d)
  b12 : {a b c d : ℕ} → T (leb c a) → T (leb b d) → Narrow (B12 a b) (B12 c d)

-- row by row
pub data Narrows : List Sub → List Sub → Type 0 where
  end : Narrows [] []
  row : {d e : Sub} {ds es : List Sub} → Narrow d e → Narrows ds es → Narrows (d ∷ ds) (e ∷ es)

in_wider : (a b c d v : ℕ) → c ≤ a → b ≤ d → in_range a b v ≡ true → in_range c d v ≡ true
in_wider a b c d v p q e =
    let r = both_hold (leb a v) (leb v b) e in
    simp (le-leb c v (omega (arith, leb-true a v r.0)), le-leb v d (omega (arith, leb-true v b r.1)))

num_wider : (w : ℕ) (ok wide : ℕ → Bool) (l : List ℕ) (n : ℕ) → ((v : ℕ) → ok v ≡ true → wide v ≡ true)
    → num_size w ok l ≡ some n → num_size w wide l ≡ some n
unfolding num_size
num_wider w ok wide l n f e =
    let r = num_some w ok l n e in
    simp (le-leb w (length l) r.1, f (le w l) r.2) (ap some r.0)

size_wider : {d e : Sub} → Narrow d e → (l : List ℕ) (n : ℕ) → size d l ≡ some n → size e l ≡ some n
unfolding size
size_wider same l n q = q
size_wider (b11 {a = a} {b = b} {c = c} {d = d} p r) l n q =
    num_wider 1 (in_range a b) (in_range c d) l n (λ v. in_wider a b c d v (lit≤ p) (lit≤ r)) q
size_wider (b12 {a = a} {b = b} {c = c} {d = d} p r) l n q =
    num_wider 2 (in_range a b) (in_range c d) l n (λ v. in_wider a b c d v (lit≤ p) (lit≤ r)) q

value_wider : {d e : Sub} → Narrow d e → (l : List ℕ) → value d l ≡ value e l
unfolding value
value_wider same l = refl
value_wider (b11 p r) l = refl
value_wider (b12 p r) l = refl

sizes_wider : {ds es : List Sub} → Narrows ds es → (l : List ℕ) (n : ℕ) → sizes ds l ≡ some n → (sizes es l ≡ some n) × (values ds l ≡ values es l)
sizes_wider end l n q = (q, refl)
sizes_wider (row {d = d} {e = e} {ds = ds} {es = es} w rs) l n q =
    let r = sizes_cons d ds l n q in
    let s = size_wider w l r.0 r.2 in
    let ih = sizes_wider rs (drop r.0 l) r.1 r.3 in (
      sizes_join e es l r.0 r.1 s ih.0 ∙ ap some r.4,
      values_first d ds l r.0 r.2
          ∙ ap₂ (λ (v : Val) (vs : List Val). v ∷ vs) (value_wider w l) ih.1
          ∙ sym (values_first e es l r.0 s),
    )

-- ---- tuples and fields

pub tuples_wider : {t u : List Sub} → Narrows t u → (l : List ℕ) → (tuples t l).ending ≡ 0 → tuples u l ≡ tuples t l
tuples_wider {t} {u} rs = tuples_ind t (λ l. tuples u l ≡ tuples t l) base turn
  where
    base : (l : List ℕ) → length l ≤ 0 → tuples u l ≡ tuples t l
    base l h = tuples_end u l h ∙ sym (tuples_end t l h)

    turn : (l : List ℕ) → 0 < length l → (f : First t l) → tuples u (drop f.bytes l) ≡ tuples t (drop f.bytes l) → tuples u l ≡ tuples t l
    turn l h f ih =
        let s = sizes_wider rs l f.bytes f.taken in
        tuples_on u l h f.bytes s.0 f.some_bytes ∙ ap₂ before (sym s.1) ih ∙ sym f.found

pub fill_wider : {h i t u : List Sub} → Narrows h i → Narrows t u → (b : List ℕ) → fill h t b ≡ true
    → (fill i u b ≡ true) × (content h t b ≡ content i u b)
unfolding content ending_at many
fill_wider {h} {i} {t} {u} rh rt b e =
    let r = filled h t b e in
    let s = sizes_wider rh b r.bytes r.taken in
    let g : tuples u (drop r.bytes b) ≡ tuples t (drop r.bytes b) = tuples_wider rt (drop r.bytes b) r.rest in
    let m : many t (drop (amount (sizes h b)) b) ≡ many u (drop (amount (sizes i b)) b) =
    ap (λ (o : Option ℕ). many t (drop (amount o) b)) r.taken
    ∙ ap (λ (x : Got (List Val)). x.items) (sym g)
    ∙ ap (λ (o : Option ℕ). many u (drop (amount o) b)) (sym s.0)
    in (
      fills i u b r.bytes s.0 (ap (λ (x : Got (List Val)). x.ending) g ∙ r.rest),
      λ k. record { head = s.1 k; tuples = m k },
    )

-- ---- the formats

narrows_same : (ds : List Sub) → Narrows ds ds
narrows_same [] = end
narrows_same (d ∷ ds) = row same (narrows_same ds)

-- the second is the format of the same field in which other instructions, or a first UPDN, may stand
pub data Wide : Format → Format → Type 0 where
  kept : {k : Format} → Wide k k
  dsid : Wide DsidUpdate Dsid
  irid : Wide IridNew Irid
  prid : Wide PridNew Prid
  mrid : Wide MridNew Mrid
  frid : Wide FridNew Frid
  attr : Wide AttrNew Attr
  spas : Wide SpasNew Spas

head_wider : {k w : Format} → Wide k w → Narrows (head_of k) (head_of w)
unfolding head_of
head_wider {k} kept = narrows_same (head_of k)
head_wider dsid = row same (row same (row same (row same (row same (row same (row same (row same (row same (row (b12 tt tt) (row same end))))))))))
head_wider irid = row same (row same (row same (row same (row (b11 tt tt) end))))
head_wider prid = row same (row same (row same (row (b11 tt tt) end)))
head_wider mrid = row same (row same (row same (row (b11 tt tt) end)))
head_wider frid = row same (row same (row same (row same (row (b11 tt tt) end))))
head_wider attr = end
head_wider spas = end

tuple_wider : {k w : Format} → Wide k w → Narrows (tuple_of k) (tuple_of w)
unfolding tuple_of
tuple_wider {k} kept = narrows_same (tuple_of k)
tuple_wider dsid = end
tuple_wider irid = end
tuple_wider prid = end
tuple_wider mrid = end
tuple_wider frid = end
tuple_wider attr = row same (row same (row same (row (b11 tt tt) (row same end))))
tuple_wider spas = row same (row same (row same (row same (row same (row (b11 tt tt) end)))))

-- a field has its wider format too, and the same content
pub format_wider : {k w : Format} → Wide k w → (b : List ℕ) → fill (head_of k) (tuple_of k) b ≡ true
    → (fill (head_of w) (tuple_of w) b ≡ true) × (content (head_of k) (tuple_of k) b ≡ content (head_of w) (tuple_of w) b)
format_wider x b e = fill_wider (head_wider x) (tuple_wider x) b e
