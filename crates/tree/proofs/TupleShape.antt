-- What the bytes of a tuple that stands say: where it ends, and its values. Assumes nothing.
use mathlib.Core.Path.{◌≡◌, refl, sym, ap, ◌∙◌}
use mathlib.Core.List.{List, [], ◌∷◌}
use mathlib.Core.Option.{Option, some}
use mathlib.Core.Bool.{true}
use Prim.Native.Nat.{ℕ, zero, suc, ◌+◌, ◌≤◌, ◌<◌}
use native.Mathlib.Omega.{arith}
use lib.ListN.{length, get_or, take, drop, length-drop}
use lib.Seq.{get_or-drop, drop-drop}
use borrow.Author.Tests.{eqb-true}
use Rattle.base.specs.Walk.{Got}
use Rattle.base.proofs.OptionLaws.{some_inj}
use mathlib.Core.Logic.{⊎_elim}
use Rattle.forest.proofs.Numbers.{lt_or_le}
use Rattle.fields.specs.Bytes.{le, run}
use Rattle.fields.specs.Table.{code, count}
use Rattle.fields.specs.Sizes.{size, sizes, amount}
use Rattle.fields.specs.Values.{Val, num, txt, value, width, values}
use Rattle.fields.specs.Valid.{allows}
use Rattle.fields.specs.Content.{tuples, many}
use Rattle.fields.specs.Places.{ending_at}
use Rattle.fields.specs.declared.Sub.{Sub}
use Rattle.fields.specs.declared.Sub.TheVariants.{B11, Raw, Text}
use Rattle.fields.proofs.SizeLaws.{is_num, num_size_lem, num_some, text_some, sizes_cons}
use Rattle.fields.proofs.TupleLaws.{tuples_end, first_tuple}
use Rattle.fields.proofs.ValueLaws.{num_value}
use Rattle.tree.specs.Source.{two, past}
use Rattle.tree.specs.Known.{Whole, ended, onward}
use Rattle.tree.proofs.CountLaws.{past_above}

-- the subfields of a tuple whose instruction is from lo to hi
abbrev pub shape : ℕ → ℕ → List Sub
shape lo hi = code ∷ count ∷ Raw 2 ∷ B11 lo hi ∷ Text ∷ []

-- the values of the tuple at an offset
abbrev pub values_at : List ℕ → ℕ → List Val
values_at b at =
    num (two b at) ∷ num (two b (at + 2)) ∷ num (two b (at + 4)) ∷ num (le 1 (drop (at + 6) b)) ∷ txt (take (run (drop (at + 7) b)) (drop (at + 7) b)) ∷ []

-- what a tuple that stands at an offset says
pub record Stands (lo hi : ℕ) (b : List ℕ) (at : ℕ) : Type 0 where
  pub inside : past b at ≤ length b
  pub closing : get_or b (at + 7 + run (drop (at + 7) b)) 0 ≡ 31
  pub behind : ending_at (shape lo hi) b (past b at) ≡ 0
  pub found : many (shape lo hi) (drop at b) ≡ values_at b at ∷ many (shape lo hi) (drop (past b at) b)

-- ---- its subfields one after the other

-- a number at an offset, and the subfields behind it
pub record Numbered (d : Sub) (ds : List Sub) (b : List ℕ) (at next n : ℕ) : Type 0 where
  pub left : ℕ
  pub takes : sizes ds (drop next b) ≡ some left
  pub all : width d + left ≡ n
  pub vals : values (d ∷ ds) (drop at b) ≡ num (le (width d) (drop at b)) ∷ values ds (drop next b)

-- a number that stands
pub number_at : (d : Sub) (ds : List Sub) (b : List ℕ) (at next n : ℕ) → is_num d ≡ true → next ≡ at + width d → sizes (d ∷ ds) (drop at b) ≡ some n → Numbered d ds b at next n
unfolding values
number_at d ds b at next n i f e =
    let (m, k, s, r, a) = sizes_cons d ds (drop at b) n e in
    let w : width d ≡ m = (num_some (width d) (allows d) (drop at b) m (sym (num_size_lem d (drop at b) i) ∙ s)).0 in
    let same : at + m ≡ next = omega arith in
    let on : drop m (drop at b) ≡ drop next b = drop-drop m at b ∙ ap (λ (j : ℕ). drop j b) same in
    record {
      left = k;
      takes = ap (sizes ds) (sym on) ∙ r;
      all = omega arith;
      vals = ap (λ (v : Val). v ∷ values ds (drop (amount (size d (drop at b))) (drop at b))) (num_value d (drop at b) i)
          ∙ ap (λ (o : Option ℕ). num (le (width d) (drop at b)) ∷ values ds (drop (amount o) (drop at b))) s
          ∙ ap (λ (l : List ℕ). num (le (width d) (drop at b)) ∷ values ds l) on;
    }

-- a text at an offset, as the last subfield
record Closed (b : List ℕ) (at n : ℕ) : Type 0 where
  inside : at + run (drop at b) < length b
  closing : get_or b (at + run (drop at b)) 0 ≡ 31
  all : run (drop at b) + 1 ≡ n
  vals : values (Text ∷ []) (drop at b) ≡ txt (take (run (drop at b)) (drop at b)) ∷ []

-- a text that stands
text_at_lem : (b : List ℕ) (at n : ℕ) → sizes (Text ∷ []) (drop at b) ≡ some n → Closed b at n
unfolding size sizes value values
text_at_lem b at n e =
    let (m, k, s, r, a) = sizes_cons Text [] (drop at b) n e in
    let (w, h, c) = text_some (drop at b) m s in
    let none_left : 0 ≡ k = some_inj r in
    let byte : get_or b (at + run (drop at b)) 0 ≡ 31 = sym (get_or-drop at b (run (drop at b)) 0) ∙ eqb-true (get_or (drop at b) (run (drop at b)) 0) 31 c in
    record { inside = omega (arith, length-drop at b, h); closing = byte; all = omega arith; vals = refl }

-- ---- the tuple

-- the tuple at an offset, where tuples fill the bytes from there on
pub stands : (lo hi : ℕ) (b : List ℕ) (at : ℕ) → at < length b → ending_at (shape lo hi) b at ≡ 0 → Stands lo hi b at
unfolding ending_at many past
stands lo hi b at h e =
    let f = first_tuple (shape lo hi) (drop at b) (omega (arith, length-drop at b)) e in
    let natc = number_at code (count ∷ Raw 2 ∷ B11 lo hi ∷ Text ∷ []) b at (at + 2) f.bytes refl refl f.taken in
    let atix = number_at count (Raw 2 ∷ B11 lo hi ∷ Text ∷ []) b (at + 2) (at + 4) natc.left refl (omega arith) natc.takes in
    let paix = number_at (Raw 2) (B11 lo hi ∷ Text ∷ []) b (at + 4) (at + 6) atix.left refl (omega arith) atix.takes in
    let atin = number_at (B11 lo hi) (Text ∷ []) b (at + 6) (at + 7) paix.left refl (omega arith) paix.takes in
    let text = text_at_lem b (at + 7) atin.left atin.takes in
    let whole : at + f.bytes ≡ past b at = omega arith in
    let on : drop f.bytes (drop at b) ≡ drop (past b at) b = drop-drop f.bytes at b ∙ ap (λ (j : ℕ). drop j b) whole in
    let vals : values (shape lo hi) (drop at b) ≡ values_at b at =
    natc.vals
    ∙ ap (λ (v : List Val). num (two b at) ∷ v) atix.vals
    ∙ ap (λ (v : List Val). num (two b at) ∷ num (two b (at + 2)) ∷ v) paix.vals
    ∙ ap (λ (v : List Val). num (two b at) ∷ num (two b (at + 2)) ∷ num (two b (at + 4)) ∷ v) atin.vals
    ∙ ap (λ (v : List Val). num (two b at) ∷ num (two b (at + 2)) ∷ num (two b (at + 4)) ∷ num (le 1 (drop (at + 6) b)) ∷ v) text.vals in
    record {
      inside = omega (arith, text.inside);
      closing = text.closing;
      behind = ap (λ (l : List ℕ). (tuples (shape lo hi) l).ending) (sym on) ∙ f.rest;
      found = ap (λ (g : Got (List Val)). g.items) f.found
          ∙ ap (λ (v : List Val). v ∷ (tuples (shape lo hi) (drop f.bytes (drop at b))).items) vals
          ∙ ap (λ (l : List ℕ). values_at b at ∷ (tuples (shape lo hi) l).items) on;
    }

-- no tuple at the end of the bytes
pub stands_none : (lo hi : ℕ) (b : List ℕ) (at : ℕ) → length b ≤ at → many (shape lo hi) (drop at b) ≡ []
unfolding many
stands_none lo hi b at h = ap (λ (g : Got (List Val)). g.items) (tuples_end (shape lo hi) (drop at b) (omega (arith, length-drop at b)))

-- tuples that fill the bytes are whole
pub stands_whole : (lo hi : ℕ) (b : List ℕ) (at : ℕ) → at ≤ length b → ending_at (shape lo hi) b at ≡ 0 → Whole b at
stands_whole lo hi b at h e = go (length b) at (omega arith) h e
  where
    go : (n at : ℕ) → length b ≤ n + at → at ≤ length b → ending_at (shape lo hi) b at ≡ 0 → Whole b at
    go zero at l h e = ended {at = at} (omega arith)
    go (suc n) at l h e =
        ⊎_elim
        (λ (i : at < length b). let s = stands lo hi b at i e in onward s.inside (go n (past b at) (omega (arith, past_above b at)) s.inside s.behind))
        (λ (i : length b ≤ at). ended {at = at} (omega arith))
        (lt_or_le at (length b))
