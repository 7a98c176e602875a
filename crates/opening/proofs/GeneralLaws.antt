-- Laws of the general record. Assumes nothing.
use mathlib.Core.Path.{◌≡◌, sym, ◌∙◌}
use mathlib.Core.Bool.{true, false}
use mathlib.Core.List.{List}
use Prim.Native.Nat.{ℕ, ◌≤◌}
use native.Mathlib.Omega.{arith}
use borrow.Author.Tests.{eq-eqb, ne_eqb}
use lib.ListN.{length}
use Rattle.std.specs.Prelude.{Option, Some, None, Result, Ok, Err}
use Rattle.base.specs.Check.{bind, fault}
use Rattle.base.specs.Verdict.{verdict_of, first_fault}
use Rattle.base.specs.declared.Fault.{Fault}
use Rattle.base.proofs.CheckLaws.{first_none, first_is, first_some}
use Rattle.skeleton.specs.Place.{between, place_at, fields_at}
use Rattle.skeleton.specs.RightFrom.{RightFrom}
use Rattle.skeleton.specs.declared.directory.Shape.{Shape}
use Rattle.skeleton.specs.declared.place.Place.{Place}
use Rattle.skeleton.proofs.PlaceLaws.{fields_more, fields_done, place_falls, place_runs, place_in_lem}
use Rattle.skeleton.proofs.RightLaws.{right_after}
use Rattle.fields.specs.declared.Format.{Format}
use Rattle.fields.specs.declared.Format.TheVariants.{Dsid, DsidUpdate}
use Rattle.rules.specs.Tags.{general_tags}
use Rattle.rules.specs.Kind.{general_rows}
use Rattle.rules.specs.Grammar.{in_order}
use Rattle.rules.specs.Content.{stands}
use Rattle.rules.specs.General.{general_record, general_format}
use Rattle.rules.specs.declared.Mode.{Mode}
use Rattle.rules.specs.declared.Mode.TheVariants.{InDataset, InUpdate}
use Rattle.records.specs.Order.{shut_out, faulty_field, order_from}
use Rattle.records.proofs.RowsLaws.{general_rows_lem}
use Rattle.records.proofs.GrammarLaws.{Said, order_says, pass_of, no_of}

module _ (m : Mode) where
  pub format_dataset : m ≡ InDataset → Dsid ≡ general_format m
  unfolding general_format
  format_dataset e = simp e

  pub format_update : m ≡ InUpdate → DsidUpdate ≡ general_format m
  unfolding general_format
  format_update e = simp e

pub ruleset format_ways = (format_dataset, format_update)

-- the tags that code hands over are those of the general record, and none is shut out
pub unread_order : (r : List ℕ) (h : Shape) (p : ℕ) (m : Mode) (a : Result (Unit {0}) ℕ)
    → a ≡ first_fault (order_from r h general_tags (record { general = true; mode = m; ruin = 0; coui = 0; controlled = false }) p 0 2)
    → a ≡ first_fault (faulty_field (in_order (λ t. false) general_rows 2 (fields_at r h p)))
unfolding order_from shut_out
unread_order r h p m a e = rw general_rows_lem e

module _ (r : List ℕ) (h : Shape) (m : Mode) (e : Option Place) (en : e ≡ place_at r h 24) where
  pub general_none : e ≡ None → Err (fault 4 1 0) ≡ verdict_of (general_record m (fields_at r h 24))
  unfolding general_record verdict_of
  general_none x = rw (fields_done r h 24 e en x)

  module _ (field : Place) (x : e ≡ Some field) where
    pub general_after : 2 ≤ field.next
    general_after = let f = place_falls r h 24 e en field x in omega arith

    pub general_right : RightFrom r h 24 → RightFrom r h field.next
    general_right k = right_after r h 24 k e en field x

    pub general_runs : field.start ≤ field.end
    general_runs = place_runs r h 24 e en field x

    pub general_in_lem : field.end ≤ length r
    general_in_lem = place_in_lem r h 24 e en field x

    pub general_other : (field.tag ≡ 0x44534944 → ⊥) → Err (fault 4 1 0) ≡ verdict_of (general_record m (fields_at r h 24))
    unfolding general_record verdict_of
    general_other n = rw (fields_more r h 24 e en field x) (simp (ne_eqb field.tag 0x44534944 n))

    module _ (d : field.tag ≡ 0x44534944) (o : Result (Unit {0}) ℕ) (eo : o ≡ first_fault (faulty_field (in_order (λ t. false) general_rows 2 (fields_at r h field.next)))) where
      says : Said (in_order (λ t. false) general_rows 2 (fields_at r h field.next))
      says = order_says (λ t. false) general_rows 2 (fields_at r h field.next) (omega arith)

      pub general_out : (i : ℕ) → o ≡ Err i → Err (fault 4 i 0) ≡ verdict_of (general_record m (fields_at r h 24))
      unfolding general_record verdict_of bind
      general_out i z =
          let y = sym z ∙ eo in
          rw (fields_more r h 24 e en field x)
          (simp (eq-eqb field.tag 0x44534944 d) (rw (no_of (in_order (λ t. false) general_rows 2 (fields_at r h field.next)) i says (first_is _ i y) (first_some _ i y))))

      pub general_dsid : (u : Unit {0}) → o ≡ Ok u → (k : Format) → k ≡ general_format m → (v : Result (Unit {0}) Fault) → v ≡ verdict_of (stands 1 k (between r field.start field.end))
          → v ≡ verdict_of (general_record m (fields_at r h 24))
      unfolding general_record bind
      general_dsid u z k ek v ev =
          rw (fields_more r h 24 e en field x)
          (simp (eq-eqb field.tag 0x44534944 d) (rw (pass_of (in_order (λ t. false) general_rows 2 (fields_at r h field.next)) says (first_none _ u (sym z ∙ eo))) (rw ek at ev)))

pub ruleset general_ways = (general_none, general_after, general_right, general_runs, general_in_lem, general_other, general_out, general_dsid, arith)
