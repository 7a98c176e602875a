-- Read, then written: over every head and tuple, what is read is written again as it was, and it can be written. Assumes nothing.
use Prim.Native.Nat.{ℕ, suc, ◌^◌, ◌≤◌, ◌<◌}
use mathlib.Core.Path.{◌≡◌, refl, sym, ap, ap₂, ◌∙◌}
use mathlib.Core.Bool.{Bool, true, false}
use mathlib.Core.Option.{none, some}
use mathlib.Core.List.{List, [], ◌∷◌, ◌++◌, append-nil}
use native.Mathlib.Omega.{arith}
use lib.ListN.{length, get_or, take, drop, take-append-drop}
use lib.Seq.{take-suc, take-add, length-take-le}
use borrow.Author.Tests.{eq-eqb, lt-ltb, eqb-true}
use Rattle.base.specs.Choice.{pick}
use Rattle.base.specs.Lists.{gather}
use Rattle.base.specs.Walk.{Got}
use Rattle.base.proofs.ChoiceLaws.{both_too}
use Rattle.base.proofs.OptionLaws.{some_inj}
use Rattle.base.proofs.ListLaws.{none_long}
use Rattle.fields.specs.Bytes.{le, run}
use Rattle.fields.specs.Sizes.{text_size, size, sizes, amount}
use Rattle.fields.specs.Values.{Val, value, values, width, mark, put, puts, put_all}
use Rattle.fields.specs.Content.{Content, tuples, many, fill, content, decode, encode}
use Rattle.fields.specs.Valid.{Bytes, allows, takes_text, passes, pass_all, pass_each, valid}
use Rattle.fields.specs.Places.{ending_at}
use Rattle.fields.specs.declared.Sub.{Sub}
use Rattle.fields.specs.declared.Sub.TheVariants.{B11, B12, B14, Among, Raw, Text, Fixed}
use Rattle.fields.proofs.ByteLaws.{bytes_drop, bytes_le, le_bound, clean_take, run_le}
use Rattle.fields.proofs.SizeLaws.{is_num, num_size_lem, num_some, text_some, fixed_some, sizes_cons, sizes_bound}
use Rattle.fields.proofs.TupleLaws.{First, tuples_end, tuples_ind}
use Rattle.fields.proofs.FieldLaws.{filled}
use Rattle.fields.proofs.ValueLaws.{num_value, values_first}

-- ---- written again

put_num : (d : Sub) (l : List ℕ) (n : ℕ) → is_num d ≡ true → Bytes l → size d l ≡ some n → put d (value d l) ≡ take n l
unfolding put
put_num d l n i h e =
    let r = num_some (width d) (allows d) l n (sym (num_size_lem d l i) ∙ e) in
    rw (num_value d l i) (bytes_le (width d) l h r.1 ∙ ap (λ (k : ℕ). take k l) r.0)

put_text : (l : List ℕ) (n : ℕ) → text_size l ≡ some n → take (run l) l ++ 31 ∷ [] ≡ take n l
put_text l n e =
    let r = text_some l n e in
    let s : suc (run l) ≡ n = omega (arith, r.0) in
    ap (λ (x : ℕ). take (run l) l ++ x ∷ []) (sym (eqb-true (get_or l (run l) 0) 31 r.2))
    ∙ sym (take-suc l (run l) 0 r.1)
    ∙ ap (λ (k : ℕ). take k l) s

put_value : (d : Sub) (l : List ℕ) (n : ℕ) → Bytes l → size d l ≡ some n → put d (value d l) ≡ take n l
unfolding size value put mark
put_value (B11 lo hi) l n h e = put_num (B11 lo hi) l n refl h e
put_value (B12 lo hi) l n h e = put_num (B12 lo hi) l n refl h e
put_value (B14 lo hi) l n h e = put_num (B14 lo hi) l n refl h e
put_value (Among p q s t) l n h e = put_num (Among p q s t) l n refl h e
put_value (Raw w) l n h e = put_num (Raw w) l n refl h e
put_value Text l n h e = put_text l n e
put_value (Fixed w) l n h e = append-nil (take w l) ∙ ap (λ (k : ℕ). take k l) (fixed_some w l n e).0

pub puts_values : (ds : List Sub) (l : List ℕ) (n : ℕ) → Bytes l → sizes ds l ≡ some n → puts ds (values ds l) ≡ take n l
unfolding sizes values puts
puts_values [] l n h e = ap (λ (k : ℕ). take k l) (some_inj e)
puts_values (d ∷ ds) l n h e =
    let r = sizes_cons d ds l n e in
    ap (puts (d ∷ ds)) (values_first d ds l r.0 r.2)
    ∙ ap₂ (λ (x y : List ℕ). x ++ y) (put_value d l r.0 h r.2) (puts_values ds (drop r.0 l) r.1 (bytes_drop l r.0 h) r.3)
    ∙ sym (take-add r.0 r.1 l)
    ∙ ap (λ (k : ℕ). take k l) r.4

pub put_many : (t : List Sub) (l : List ℕ) → (tuples t l).ending ≡ 0 → Bytes l → put_all t (many t l) ≡ l
unfolding put_all gather many
put_many t = tuples_ind t (λ l. Bytes l → put_all t (many t l) ≡ l) base turn
  where
    base : (l : List ℕ) → length l ≤ 0 → Bytes l → put_all t (many t l) ≡ l
    base l h g = ap (λ (x : Got (List Val)). put_all t x.items) (tuples_end t l h) ∙ sym (none_long l h)

    turn : (l : List ℕ) → 0 < length l → (f : First t l) → (Bytes (drop f.bytes l) → put_all t (many t (drop f.bytes l)) ≡ drop f.bytes l)
        → Bytes l → put_all t (many t l) ≡ l
    turn l h f ih g =
        ap (λ (x : Got (List Val)). put_all t x.items) f.found
        ∙ ap₂ (λ (x y : List ℕ). x ++ y) (puts_values t l f.bytes g f.taken) (ih (bytes_drop l f.bytes g))
        ∙ take-append-drop f.bytes l

pub encode_content : (h t : List Sub) (b : List ℕ) → Bytes b → fill h t b ≡ true → encode h t (content h t b) ≡ b
unfolding encode content ending_at
encode_content h t b g e =
    let r = filled h t b e in
    ap₂ (λ (x y : List ℕ). x ++ y) (puts_values h b r.bytes g r.taken)
    (ap (λ (k : ℕ). put_all t (many t (drop k b))) (ap amount r.taken) ∙ put_many t (drop r.bytes b) r.rest (bytes_drop b r.bytes g))
    ∙ take-append-drop r.bytes b

decoded : (h t : List Sub) (b : List ℕ) (c : Content) → decode h t b ≡ some c → (fill h t b ≡ true) × (c ≡ content h t b)
unfolding decode
decoded h t b c e = go (fill h t b) refl e
  where
    go : (u : Bool) → fill h t b ≡ u → pick u (some (content h t b)) none ≡ some c → (fill h t b ≡ true) × (c ≡ content h t b)
    go true k q = (k, cc)
    go false k q = absurd (let z : ◌≡◌ {A = ℕ} 0 1 = cc in omega arith)

-- what is read is written again as it was
pub encode_decode : (h t : List Sub) (b : List ℕ) (c : Content) → Bytes b → decode h t b ≡ some c → encode h t c ≡ b
encode_decode h t b c g e = let r = decoded h t b c e in ap (encode h t) r.1 ∙ encode_content h t b g r.0

-- ---- it can be written

pass_num : (d : Sub) (l : List ℕ) (n : ℕ) → is_num d ≡ true → Bytes l → size d l ≡ some n → passes d (value d l) ≡ true
unfolding passes
pass_num d l n i h e =
    let r = num_some (width d) (allows d) l n (sym (num_size_lem d l i) ∙ e) in
    rw (num_value d l i) (both_too (lt-ltb (le (width d) l) (256 ^ width d) (le_bound (width d) l h)) r.2)

pass_value : (d : Sub) (l : List ℕ) (n : ℕ) → Bytes l → size d l ≡ some n → passes d (value d l) ≡ true
unfolding size value passes takes_text
pass_value (B11 lo hi) l n h e = pass_num (B11 lo hi) l n refl h e
pass_value (B12 lo hi) l n h e = pass_num (B12 lo hi) l n refl h e
pass_value (B14 lo hi) l n h e = pass_num (B14 lo hi) l n refl h e
pass_value (Among p q s t) l n h e = pass_num (Among p q s t) l n refl h e
pass_value (Raw w) l n h e = pass_num (Raw w) l n refl h e
pass_value Text l n h e = both_too (clean_take (run l) l (omega arith)) refl
pass_value (Fixed w) l n h e =
    let r = fixed_some w l n e in
    let m : w ≤ length l = omega (arith, r.1, run_le l) in
    both_too (clean_take w l r.1) (eq-eqb (length (take w l)) w (length-take-le w l m))

pub pass_values : (ds : List Sub) (l : List ℕ) (n : ℕ) → Bytes l → sizes ds l ≡ some n → pass_all ds (values ds l) ≡ true
unfolding values pass_all
pass_values [] l n h e = refl
pass_values (d ∷ ds) l n h e =
    let r = sizes_cons d ds l n e in
    ap (pass_all (d ∷ ds)) (values_first d ds l r.0 r.2)
    ∙ both_too (pass_value d l r.0 h r.2) (pass_values ds (drop r.0 l) r.1 (bytes_drop l r.0 h) r.3)

-- a tuple that was read has as many bytes as it took
length_values : (ds : List Sub) (l : List ℕ) (n : ℕ) → Bytes l → sizes ds l ≡ some n → length (puts ds (values ds l)) ≡ n
length_values ds l n h e = ap length (puts_values ds l n h e) ∙ length-take-le n l (sizes_bound ds l n e)

pub pass_many : (t : List Sub) (l : List ℕ) → (tuples t l).ending ≡ 0 → Bytes l → pass_each t (many t l) ≡ true
unfolding pass_each many
pass_many t = tuples_ind t (λ l. Bytes l → pass_each t (many t l) ≡ true) base turn
  where
    base : (l : List ℕ) → length l ≤ 0 → Bytes l → pass_each t (many t l) ≡ true
    base l h g = ap (λ (x : Got (List Val)). pass_each t x.items) (tuples_end t l h)

    turn : (l : List ℕ) → 0 < length l → (f : First t l) → (Bytes (drop f.bytes l) → pass_each t (many t (drop f.bytes l)) ≡ true)
        → Bytes l → pass_each t (many t l) ≡ true
    turn l h f ih g =
        let q : 0 < f.bytes = f.some_bytes in
        let m : 0 < length (puts t (values t l)) = omega (arith, length_values t l f.bytes g f.taken) in
        ap (λ (x : Got (List Val)). pass_each t x.items) f.found
        ∙ both_too (pass_values t l f.bytes g f.taken) (both_too (lt-ltb 0 (length (puts t (values t l))) m) (ih (bytes_drop l f.bytes g)))

-- what was read can be written
pub fill_valid : (h t : List Sub) (b : List ℕ) → Bytes b → fill h t b ≡ true → valid h t (content h t b) ≡ true
unfolding valid content ending_at
fill_valid h t b g e =
    let r = filled h t b e in
    both_too (pass_values h b r.bytes g r.taken)
    (ap (λ (k : ℕ). pass_each t (many t (drop k b))) (ap amount r.taken) ∙ pass_many t (drop r.bytes b) r.rest (bytes_drop b r.bytes g))
