-- Texts that are read from bytes are made of bytes. Assumes nothing.
use Prim.Native.Nat.{ℕ, ◌<◌, ◌≤◌}
use mathlib.Core.Path.{◌≡◌, sym, subst}
use mathlib.Core.Bool.{true}
use mathlib.Core.List.{List, [], ◌∷◌}
use native.Mathlib.Omega.{arith}
use lib.ListN.{length, drop}
use Rattle.base.specs.Walk.{Got}
use Rattle.base.specs.Lists.{Each}
use Rattle.fields.specs.Bytes.{run}
use Rattle.fields.specs.Sizes.{size, amount}
use Rattle.fields.specs.Values.{Val, value, values, text_of}
use Rattle.fields.specs.Content.{tuples, many, content, fill}
use Rattle.fields.specs.Valid.{Bytes}
use Rattle.fields.specs.Places.{ending_at}
use Rattle.fields.specs.declared.Sub.{Sub}
use Rattle.fields.specs.declared.Sub.TheVariants.{B11, B12, B14, Among, Raw, Text, Fixed}
use Rattle.fields.proofs.ByteLaws.{bytes_drop, bytes_take}
use Rattle.fields.proofs.TupleLaws.{First, tuples_end, tuples_ind}
use Rattle.fields.proofs.FieldLaws.{filled}

-- the text of a value is made of bytes; a number has none
abbrev pub TextBytes : Val → Type 0
TextBytes v = Bytes (text_of v)

-- no bytes
pub bytes_none : Bytes []
bytes_none k = omega arith

-- one value
value_bytes : (d : Sub) (l : List ℕ) → Bytes l → TextBytes (value d l)
unfolding value
value_bytes (B11 lo hi) l g = bytes_none
value_bytes (B12 lo hi) l g = bytes_none
value_bytes (B14 lo hi) l g = bytes_none
value_bytes (Among p q s t) l g = bytes_none
value_bytes (Raw n) l g = bytes_none
value_bytes Text l g = bytes_take (run l) l g
value_bytes (Fixed n) l g = bytes_take n l g

-- values one after the other
values_bytes : (ds : List Sub) (l : List ℕ) → Bytes l → Each TextBytes (values ds l)
unfolding values Each
values_bytes [] l g = tt
values_bytes (d ∷ ds) l g = (value_bytes d l g, values_bytes ds (drop (amount (size d l)) l) (bytes_drop l (amount (size d l)) g))

-- tuples that fill bytes
pub many_bytes : (t : List Sub) (l : List ℕ) → (tuples t l).ending ≡ 0 → Bytes l → Each (Each TextBytes) (many t l)
unfolding many
many_bytes t = tuples_ind t (λ l. Bytes l → Each (Each TextBytes) (many t l)) base turn
  where
    base : (l : List ℕ) → length l ≤ 0 → Bytes l → Each (Each TextBytes) (tuples t l).items
    base l h g = subst (λ (x : Got (List Val)). Each (Each TextBytes) x.items) (sym (tuples_end t l h)) (unfold Each in tt)

    turn : (l : List ℕ) → 0 < length l → (f : First t l) → (Bytes (drop f.bytes l) → Each (Each TextBytes) (tuples t (drop f.bytes l)).items)
        → Bytes l → Each (Each TextBytes) (tuples t l).items
    turn l h f ih g =
        let first = values_bytes t l g in
        let rest = ih (bytes_drop l f.bytes g) in
        subst (λ (x : Got (List Val)). Each (Each TextBytes) x.items) (sym f.found) (unfold Each in (first, rest))

-- the tuples of a field
pub content_bytes : (h t : List Sub) (b : List ℕ) → Bytes b → fill h t b ≡ true → Each (Each TextBytes) (content h t b).tuples
unfolding ending_at
content_bytes h t b g e =
    let r = filled h t b e in
    rw r.found (many_bytes t (drop r.bytes b) r.rest (bytes_drop b r.bytes g))
