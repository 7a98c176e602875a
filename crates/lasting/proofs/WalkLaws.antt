-- The records of a file, one after the other. Assumes nothing.
use Prim.Native.Nat.{ℕ, ◌+◌, ◌-◌, ◌<◌}
use mathlib.Core.Path.{◌≡◌, refl, sym, ap, subst}
use mathlib.Core.List.{List, [], ◌∷◌}
use native.Mathlib.Omega.{arith}
use borrow.Author.Tests.{ltb-true, ltb-false}
use lib.ListN.{length, take}
use lib.Seq.{take_all}
use lib.Dec.{ltb}
use Rattle.std.specs.Prelude.{Result, Ok, Err}
use Rattle.base.specs.Walk.{Got}
use Rattle.base.proofs.WalkLaws.{by_measure}
use Rattle.skeleton.specs.File.{Field, records_from}
use Rattle.skeleton.specs.Place.{between, fields_at}
use Rattle.skeleton.specs.Record.{record_at}
use Rattle.skeleton.specs.declared.leader.Head.{Head}
use Rattle.skeleton.specs.declared.leader.Broken.{Broken}
use Rattle.skeleton.proofs.RecordLaws.{right}
use Rattle.skeleton.proofs.FileLaws.{records_over, records_refused, records_more}
use Rattle.skeleton.proofs.ReadLaws.{few_records}
use Rattle.sequence.proofs.Tests.{by_bool}

-- what is so of no records, and of a record and those behind it where it is so of those, is so of the records from p on
module _ (f : List ℕ) (Q : ℕ → List (List Field) → Type 0) (none : (p : ℕ) → Q p [])
    (more : (p : ℕ) (head : Head) → record_at f p ≡ Ok head → Q (p + head.len) (records_from f (p + head.len)).items
    → Q p (fields_at (between f p (p + head.len)) head.shape 24 ∷ (records_from f (p + head.len)).items)) where
  at_record : (p : ℕ) → p < length f → (h : Result Head Broken) → h ≡ record_at f p → ((q : ℕ) → length f - q < length f - p → Q q (records_from f q).items) → Q p (records_from f p).items
  at_record p l (Ok head) e later =
      let k = right f p _ e head refl in
      subst (Q p) (sym (ap (λ (g : Got (List Field)). g.items) (records_more f p l _ e head refl))) (more p head (sym e) (later (p + head.len) (omega arith)))
  at_record p l (Err n) e later = subst (Q p) (sym (ap (λ (g : Got (List Field)). g.items) (records_refused f p l _ e n refl))) (none p)

  walk : (p : ℕ) → Q p (records_from f p).items
  walk p =
      by_measure (λ q. length f - q) (λ q. Q q (records_from f q).items)
      (λ q later. by_bool (ltb q (length f))
      (λ h. at_record q (ltb-true q (length f) h) (record_at f q) refl later)
      (λ h. subst (Q q) (sym (ap (λ (g : Got (List Field)). g.items) (records_over f q (ltb-false q (length f) h)))) (none q))) p

pub take_records : (f : List ℕ) (p : ℕ) → take (length f) (records_from f p).items ≡ (records_from f p).items
take_records f p = take_all (length f) (records_from f p).items (omega (arith, few_records f p))
