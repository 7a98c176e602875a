-- Laws of the bytes of tuples. Assumes nothing.
use mathlib.Core.Path.{◌≡◌, refl, sym, ap, ◌∙◌, subst}
use mathlib.Core.List.{List, [], ◌∷◌, ◌++◌, append_assoc, append-nil}
use Prim.Native.Nat.{ℕ, zero, suc, ◌+◌, ◌/◌, ◌%◌}
use native.Mathlib.Omega.{arith}
use lib.ListN.{length, length-append}
use Rattle.base.specs.Lists.{each, gather}
use Rattle.memory.specs.Digits.{digits, little_endian}
use Rattle.memory.specs.Wrote.{Wrote}
use Rattle.memory.proofs.WroteLaws.{then}
use Rattle.fields.specs.Bytes.{bytes}
use Rattle.fields.specs.Table.{tuple_of}
use Rattle.fields.specs.Values.{put, mark, puts, put_all}
use Rattle.fields.proofs.ByteLaws.{length_bytes}
use Rattle.forest.specs.Forest.{Forest, Tup, tuples_of}
use Rattle.rules.specs.Written.{tup_vals, tree_bytes}
use Rattle.items.specs.Items.{code_of, value_of}
use Rattle.numbering.specs.Tuples.{tuple_bytes, tuples_bytes, tuple_with}

-- a number that is written is the number that is read
same_bytes : (w x : ℕ) → little_endian w x ≡ bytes w x
unfolding little_endian digits bytes
same_bytes zero x = refl
same_bytes (suc w) x = ap (λ (l : List ℕ). x % 256 ∷ l) (same_bytes w (x / 256))

-- ---- one tuple

-- its subfields one after the other
tuple_is : (t : Tup) → tuple_bytes t ≡ bytes 2 t.natc ++ (bytes 2 t.atix ++ (bytes 2 t.paix ++ ((1 ∷ []) ++ (t.atvl ++ (31 ∷ [])))))
unfolding tuple_bytes puts tuple_of tup_vals put mark bytes
tuple_is t = rw (append-nil (t.atvl ++ (31 ∷ [])))

pub tuple_length : (t : Tup) → length (tuple_bytes t) ≡ length t.atvl + 8
tuple_length t =
    ap length (tuple_is t)
    ∙ omega (
      arith,
      length-append (bytes 2 t.natc) (bytes 2 t.atix ++ (bytes 2 t.paix ++ ((1 ∷ []) ++ (t.atvl ++ (31 ∷ []))))),
      length-append (bytes 2 t.atix) (bytes 2 t.paix ++ ((1 ∷ []) ++ (t.atvl ++ (31 ∷ [])))),
      length-append (bytes 2 t.paix) ((1 ∷ []) ++ (t.atvl ++ (31 ∷ []))),
      length-append t.atvl (31 ∷ []),
      length_bytes 2 t.natc,
      length_bytes 2 t.atix,
      length_bytes 2 t.paix,
    )

-- it was written subfield by subfield
pub tuple_written : (s u w : List ℕ) (i c x p : ℕ) → c ≡ code_of w i → {at p₁ p₂ p₃ p₄ r : ℕ} {d d₁ d₂ d₃ d₄ e : List ℕ}
    → Wrote p₄ (value_of s u w i ++ (31 ∷ [])) d₄ r e → Wrote p₃ (1 ∷ []) d₃ p₄ d₄ → Wrote p₂ (little_endian 2 p) d₂ p₃ d₃
    → Wrote p₁ (little_endian 2 x) d₁ p₂ d₂ → Wrote at (little_endian 2 c) d p₁ d₁
    → Wrote at (tuple_bytes (tuple_with s u w i x p)) d r e
unfolding tuple_with
tuple_written s u w i c x p ec {at} {r = r} {d = d} {e = e} q₅ q₄ q₃ q₂ q₁ =
    let v : List ℕ = value_of s u w i ++ (31 ∷ []) in
    let a : List ℕ = bytes 2 (code_of w i) in
    let same : little_endian 2 c ++ little_endian 2 x ++ little_endian 2 p ++ (1 ∷ []) ++ v ≡ a ++ (bytes 2 x ++ (bytes 2 p ++ ((1 ∷ []) ++ v))) =
    rw (ec, same_bytes 2 (code_of w i), same_bytes 2 x, same_bytes 2 p)
    (append_assoc (a ++ bytes 2 x ++ bytes 2 p) (1 ∷ []) v ∙ append_assoc (a ++ bytes 2 x) (bytes 2 p) ((1 ∷ []) ++ v) ∙ append_assoc a (bytes 2 x) (bytes 2 p ++ ((1 ∷ []) ++ v))) in
    subst (λ (l : List ℕ). Wrote at l d r e) (same ∙ sym (tuple_is (tuple_with s u w i x p))) (then q₅ (then q₄ (then q₃ (then q₂ q₁))))

-- ---- tuples

pub tuples_none : tuples_bytes [] ≡ []
unfolding tuples_bytes put_all gather each
tuples_none = refl

pub tuples_cons : (t : Tup) (ts : List Tup) → tuples_bytes (t ∷ ts) ≡ tuple_bytes t ++ tuples_bytes ts
unfolding tuples_bytes tuple_bytes put_all gather each
tuples_cons t ts = refl

pub tree_tuples : (f : Forest) → tree_bytes f ≡ tuples_bytes (tuples_of f)
unfolding tree_bytes tuples_bytes
tree_tuples f = refl
