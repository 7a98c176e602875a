-- Lists of numbers below 256: what the skeleton writes around fields, and what formats write of values. Assumes nothing.
use Prim.Native.Nat.{ℕ, zero, suc, ◌+◌, ◌/◌, ◌%◌, ◌<◌}
use mathlib.Core.Path.{◌≡◌, refl}
use mathlib.Core.Bool.{Bool, true, false}
use mathlib.Core.List.{List, [], ◌∷◌, ◌++◌}
use native.Mathlib.Omega.{arith}
use Rattle.base.specs.Lists.{each, gather, Each}
use Rattle.base.proofs.EachLaws.{each_join}
use Rattle.skeleton.specs.Digits.{in_digits}
use Rattle.skeleton.specs.File.{Field}
use Rattle.skeleton.specs.Emit.{tag_bytes, size, middle, marks, leading, entry, entries, contents, base_of, length_of, emit, emits}
use Rattle.fields.specs.Bytes.{bytes}
use Rattle.fields.specs.Values.{Val, num, txt, width, mark, put, puts, put_all}
use Rattle.fields.specs.Valid.{Bytes}
use Rattle.fields.specs.declared.Sub.{Sub}
use Rattle.fields.specs.declared.Sub.TheVariants.{B11, B12, B14, Among, Raw, Text, Fixed}
use Rattle.fields.proofs.ByteLaws.{are_bytes, are_bytes_lem}
use Rattle.sound.proofs.Texts.{TextBytes}

-- each number is a byte
abbrev pub Low : List ℕ → Type 0
Low l = Each (λ x. x < 256) l

-- by place
pub low_bytes : (l : List ℕ) → Low l → Bytes l
unfolding Each
low_bytes [] e k = omega arith
low_bytes (x ∷ l) e zero = e.0
low_bytes (x ∷ l) e (suc k) = low_bytes l e.1 k

-- and back
pub bytes_low : (l : List ℕ) → Bytes l → Low l
unfolding Each
bytes_low [] g = tt
bytes_low (x ∷ l) g = (g 0, bytes_low l (λ k. g (suc k)))

-- lists joined
pub low_join : (a b : List ℕ) → Low a → Low b → Low (a ++ b)
low_join a b p q = each_join (λ x. x < 256) a b p q

-- a list that is known
low_known : (l : List ℕ) → are_bytes l ≡ true → Low l
low_known l e = bytes_low l (are_bytes_lem l e)

-- ---- values

-- a number's bytes
low_number : (w n : ℕ) → Low (bytes w n)
unfolding bytes Each
low_number zero n = tt
low_number (suc w) n = (omega arith, low_number w (n / 256))

-- what ends a subfield
low_mark : (d : Sub) → Low (mark d)
unfolding mark Each
low_mark (B11 lo hi) = tt
low_mark (B12 lo hi) = tt
low_mark (B14 lo hi) = tt
low_mark (Among p q s t) = tt
low_mark (Raw n) = tt
low_mark Text = (omega arith, tt)
low_mark (Fixed n) = tt

-- a value
low_put : (d : Sub) (v : Val) → TextBytes v → Low (put d v)
unfolding put
low_put d (num n) g = low_number (width d) n
low_put d (txt t) g = low_join t (mark d) (bytes_low t g) (low_mark d)

-- values one after the other
pub low_puts : (ds : List Sub) (vs : List Val) → Each TextBytes vs → Low (puts ds vs)
unfolding puts Each
low_puts [] vs e = tt
low_puts (d ∷ ds) [] e = tt
low_puts (d ∷ ds) (v ∷ vs) e = low_join (put d v) (puts ds vs) (low_put d v e.0) (low_puts ds vs e.1)

-- tuples
pub low_all : {A : Type 0} (t : List Sub) (f : A → List Val) (l : List A) → Each (λ a. Each TextBytes (f a)) l → Low (put_all t (each f l))
unfolding put_all gather each Each
low_all t f [] e = tt
low_all t f (a ∷ l) e = low_join (puts t (f a)) (put_all t (each f l)) (low_puts t (f a) e.0) (low_all t f l e.1)

-- ---- records

-- digits
low_digits : (w n : ℕ) → Low (in_digits w n)
unfolding in_digits Each
low_digits zero n = tt
low_digits (suc w) n = low_join (in_digits w (n / 10)) ((n % 10 + 48) ∷ []) (low_digits w (n / 10)) (omega arith, tt)

-- the leader's constant bytes
low_middle : (first : Bool) → Low (middle first) × Low (marks first)
unfolding are_bytes
low_middle true = (low_known (middle true) refl, low_known (marks true) refl)
low_middle false = (low_known (middle false) refl, low_known (marks false) refl)

-- a leader
low_leading : (a b : ℕ) (first : Bool) (len base : ℕ) → Low (leading a b first len base)
unfolding leading are_bytes
low_leading a b first len base =
    let (m, k) = low_middle first in
    low_join (in_digits 5 len) _ (low_digits 5 len)
    (low_join (middle first) _ m
    (low_join (in_digits 5 base) _ (low_digits 5 base)
    (low_join (marks first) _ k
    (low_join (in_digits 1 a) _ (low_digits 1 a)
    (low_join (in_digits 1 b) _ (low_digits 1 b) (low_known (48 ∷ 52 ∷ []) refl))))))

-- a tag
low_tag : (t : ℕ) → Low (tag_bytes t)
unfolding Each
low_tag t = (omega arith, (omega arith, (omega arith, (omega arith, tt))))

-- a directory
low_entries : (a b pos : ℕ) (fs : List Field) → Low (entries a b pos fs)
unfolding entries Each
low_entries a b pos [] = tt
low_entries a b pos (f ∷ fs) =
    low_join (entry a b f pos) (entries a b (pos + size f) fs)
    (low_join (tag_bytes f.tag) (in_digits a (size f) ++ in_digits b pos) (low_tag f.tag) (low_join (in_digits a (size f)) (in_digits b pos) (low_digits a (size f)) (low_digits b pos)))
    (low_entries a b (pos + size f) fs)

-- bodies
low_contents : (fs : List Field) → Each (λ f. Bytes f.body) fs → Low (contents fs)
unfolding contents Each
low_contents [] e = tt
low_contents (f ∷ fs) e = low_join f.body (30 ∷ contents fs) (bytes_low f.body e.0) (omega arith, low_contents fs e.1)

-- a record
low_emit : (a b : ℕ) (first : Bool) (fs : List Field) → Each (λ f. Bytes f.body) fs → Low (emit a b first fs)
unfolding emit Each
low_emit a b first fs e =
    low_join (leading a b first (length_of a b fs) (base_of a b fs)) _ (low_leading a b first (length_of a b fs) (base_of a b fs))
    (low_join (entries a b 0 fs) (30 ∷ contents fs) (low_entries a b 0 fs) (omega arith, low_contents fs e))

-- records one after the other
pub low_emits : (a b : ℕ) (first : Bool) (rs : List (List Field)) → Each (λ fs. Each (λ f. Bytes f.body) fs) rs → Low (emits a b first rs)
unfolding emits Each
low_emits a b first [] e = tt
low_emits a b first (fs ∷ rs) e = low_join (emit a b first fs) (emits a b false rs) (low_emit a b first fs e.0) (low_emits a b false rs e.1)
