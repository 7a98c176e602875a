-- Relations that stand in contracts of the layers: two outcomes that satisfy one of them are equal. Assumes nothing.
use Prim.Native.Nat.{ℕ, ◌+◌, ◌≤◌}
use mathlib.Core.Path.{◌≡◌, refl, sym, ap, ◌∙◌}
use mathlib.Core.Bool.{true, false}
use mathlib.Core.List.{List}
use native.Mathlib.Omega.{arith}
use borrow.Author.Tests.{ltb-true, ltb-false}
use lib.Dec.{ltb}
use lib.ListN.{length}
use Rattle.std.specs.Prelude.{Option, Some, None, Result, Ok, Err}
use Rattle.base.specs.Check.{ok, no, Passed}
use Rattle.rules.specs.declared.Kind.{Kind}
use Rattle.memory.specs.Hold.{zeros}
use Rattle.memory.specs.Wrote.{Wrote}
use Rattle.memory.proofs.HoldLaws.{length_zeros}
use Rattle.skeleton.specs.File.{Field}
use Rattle.skeleton.specs.Leader.{good}
use Rattle.skeleton.specs.declared.leader.Head.{Head}
use Rattle.sequence.proofs.Tests.{by_bool}
use Rattle.keys.specs.Look.{Sound}
use Rattle.sorting.specs.Numbers.{Stored, Swapped, Parted}
use Rattle.sorting.specs.Places.{Next}
use Rattle.sorting.proofs.PlaceLaws.{next_site}
use Rattle.writing.specs.Found.{Summed}
use Rattle.writing.specs.declared.measuring.Sum.{Sum}
use Rattle.numbering.specs.Tuples.{Sized}
use Rattle.following.specs.Merging.{Measured}
use Rattle.composing.specs.Emitted.{Emitted}
use Rattle.emission.specs.Fields.{ListEntry}
use Rattle.changing.specs.Given.{Says}
use Rattle.changing.specs.declared.identity.Said.{Said}
use Rattle.changing.specs.Foids.{foid_test}
use Rattle.writer.specs.Measured.{said_by}
use Rattle.history.specs.Flags.{Marked}
use Rattle.updater.specs.Pieces.{Cut}
use Rattle.updater.specs.declared.front.Piece.{Piece}

-- ---- bytes that are written

pub wrote_once : (at : ℕ) (ys d : List ℕ) (n m : ℕ) (e f : List ℕ) → Wrote at ys d n e → Wrote at ys d m f → (n ≡ m) × (e ≡ f)
wrote_once at ys d n m e f x y = (x.next ∙ sym y.next, x.is ∙ sym y.is)

-- an entry is the same for all lists of one length
pub list_entry_once : (tag n pos at : ℕ) (d : List ℕ) (p q : ℕ) (e f : List ℕ) → ListEntry tag n pos at d p e → ListEntry tag n pos at d q f → (p ≡ q) × (e ≡ f)
list_entry_once tag n pos at d p q e f x y = wrote_once _ _ _ _ _ _ _ (x.is (zeros n) (length_zeros n)) (y.is (zeros n) (length_zeros n))

-- numbers of an index
pub stored_once : (s : List ℕ) (i x : ℕ) (t v : List ℕ) → Stored s i x t → Stored s i x v → t ≡ v
stored_once s i x t v a b = a.is ∙ sym b.is

pub swapped_once : (s : List ℕ) (i j : ℕ) (t v : List ℕ) → Swapped s i j t → Swapped s i j v → t ≡ v
swapped_once s i j t v a b = a.is ∙ sym b.is

-- flags of keys
pub marked_once : (w : List ℕ) (key : ℕ) (v u : List ℕ) → Marked w key v → Marked w key u → v ≡ u
marked_once w key v u a b = a.is ∙ sym b.is

-- a record that has no room leaves the slice as it was
pub carried_once : (fs : List Field) (to : ℕ) (before : List ℕ) (n m : ℕ) (e f : List ℕ) → Emitted fs to before n e → Emitted fs to before m f → (n ≡ m) × (e ≡ f)
carried_once fs to before n m e f x y = (x.next ∙ sym y.next, by_bool (ltb (length before) n) none some)
  where
    same : n ≡ m
    same = x.next ∙ sym y.next

    none : ltb (length before) n ≡ true → e ≡ f
    none t = let h = ltb-true (length before) n t in x.kept h ∙ sym (y.kept (omega (arith, same)))

    some : ltb (length before) n ≡ false → e ≡ f
    some t = let h = ltb-false (length before) n t in (wrote_once _ _ _ _ _ _ _ (x.wrote h) (y.wrote (omega (arith, same)))).1

-- ---- sizes and places

pub summed_once : (fs : List Field) (s t : Sum) → Summed fs s → Summed fs t → s ≡ t
summed_once fs s t x y = λ i. record { fields = (x.fields_are ∙ sym y.fields_are) i; bytes = (x.bytes_are ∙ sym y.bytes_are) i }

pub sized_once : (s u w : List ℕ) (n r q : ℕ) → Sized s u w n r → Sized s u w n q → r ≡ q
sized_once s u w n r q x y = x.sum ∙ sym y.sum

pub measured_once : (t : ℕ) (fs : List Field) (n m : ℕ) → Measured t fs n → Measured t fs m → n ≡ m
measured_once t fs n m x y = x.size_is ∙ sym y.size_is

-- no number is both below w and not
pub parted_once : (n : ℕ) (s : List ℕ) (w r q : ℕ) → Parted n s w r → Parted n s w q → r ≡ q
parted_once n s w r q x y = omega (arith, least r q x y, least q r y x)
  where
    least : (i j : ℕ) → Parted n s w i → Parted n s w j → i ≤ j
    least i j a b = by_bool (ltb j i)
        (λ t. let h = ltb-true j i t in absurd (omega (arith, a.below j h, b.from_on j (omega arith) (omega (arith, h, a.inside)))))
        (λ t. ltb-false j i t)

-- where the records are right, as the contract's condition has it
pub next_once : (u : List ℕ) (key p r q : ℕ) → Sound u p → Next u key p r → Next u key p q → r ≡ q
next_once u key p r q s x y = next_site u key p r s x ∙ sym (next_site u key p q s y)

-- ---- what a record says

pub said_once : (k : Kind) (fs : List Field) (s t : Said) → Says k fs s → Says k fs t → s ≡ t
said_once k fs s t x y = λ i. record { code = (x.code ∙ sym y.code) i; rver = (x.rver ∙ sym y.rver) i; ruin = (x.ruin ∙ sym y.ruin) i }

pub cut_once : (f : List ℕ) (p : ℕ) (r q : Piece) → Cut f p r → Cut f p q → r ≡ q
cut_once f p r q x y = λ i. record { start = (x.start ∙ sym y.start) i; end = ends i; shape = (heads i).shape }
  where
    one : good x.long r.shape ≡ good y.long q.shape
    one = sym x.there ∙ y.there

    heads : ◌≡◌ {A = Head} (record { len = x.long; shape = r.shape }) (record { len = y.long; shape = q.shape })
    heads = let e = one in cc

    ends : r.end ≡ q.end
    ends = x.behind ∙ ap (λ (h : Head). p + h.len) heads ∙ sym y.behind

-- ---- what an answer says: no two say the same

pub measured_said : (a b : Result ℕ ℕ) → said_by a ≡ said_by b → a ≡ b
unfolding said_by
measured_said (Ok x) (Ok y) e = let z : x ≡ y = cc in ap Ok z
measured_said (Ok x) (Err m) e = absurd (let z : ◌≡◌ {A = ℕ} 0 1 = cc in omega arith)
measured_said (Err n) (Ok y) e = absurd (let z : ◌≡◌ {A = ℕ} 0 1 = cc in omega arith)
measured_said (Err n) (Err m) e = let z : n ≡ m = cc in ap Err z

pub foids_said : (a b : Option ℕ) → foid_test a ≡ foid_test b → a ≡ b
unfolding foid_test
foids_said None None e = refl
foids_said None (Some j) e = absurd (let z : ◌≡◌ {A = ℕ} 0 1 = cc in omega arith)
foids_said (Some i) None e = absurd (let z : ◌≡◌ {A = ℕ} 0 1 = cc in omega arith)
foids_said (Some i) (Some j) e = let z : i ≡ j = ap (λ (c : Passed). field_in c) e in ap Some z
  where
    field_in : Passed → ℕ
    field_in (ok u) = 0
    field_in (no x) = x.field
