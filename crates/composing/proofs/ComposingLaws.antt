-- A result made record by record is the result. Assumes nothing.
use Prim.Native.Nat.{ℕ, suc, ◌+◌, ◌-◌, ◌≤◌, ◌<◌}
use mathlib.Core.Path.{◌≡◌, refl, sym, ap, subst, ◌∙◌}
use mathlib.Core.List.{List, [], ◌∷◌, ◌++◌, append_assoc, append-nil}
use native.Mathlib.Omega.{arith}
use lib.ListN.{length, length-append}
use Rattle.base.specs.Check.{Passed, pass, no}
use Rattle.base.specs.Lists.{gather}
use Rattle.base.specs.declared.Fault.{Fault}
use Rattle.memory.specs.Wrote.{Wrote}
use Rattle.memory.proofs.WroteLaws.{wrote_none, then, wrote_length}
use Rattle.skeleton.specs.File.{Field}
use Rattle.rules.specs.Record.{Rec}
use Rattle.rules.specs.Outcome.{refused, and_then, at as at_record, every_record}
use Rattle.sequence.specs.Stream.{places, kept_of, kept, joined_of, joined, stream}
use Rattle.sequence.proofs.Gather.{gather_append}
use Rattle.updates.specs.Acts.{chart}
use Rattle.updates.specs.Streamed.{result_records, record_bytes, total, record_length}
use Rattle.composing.specs.Composing.{left_kinds, left_old, left_new, Composing, Complete}

-- ---- what is left

module _ (ds : List Rec) (us : List (List Field)) where
  -- at first all
  pub left_all : left_kinds ds us 1 ≡ result_records ds us
  unfolding left_kinds result_records places
  left_all = refl

  -- kind by kind
  pub left_kind : (q : ℕ) → q ≤ 4 → left_kinds ds us q ≡ left_old ds us q ds
  left_kind q h = go (5 - suc q) (let z : 5 - q ≡ suc (5 - suc q) = omega arith in z) refl
    where
      go : (m : ℕ) → 5 - q ≡ suc m → 5 - suc q ≡ m → left_kinds ds us q ≡ left_old ds us q ds
      go m a b = unfold left_kinds left_old stream gather places in rw (a, b) (append_assoc (kept chart q us ds) (joined chart q us) (stream chart (places (suc q) m) ds us))

  pub left_end : (q : ℕ) → 4 < q → left_kinds ds us q ≡ []
  unfolding left_kinds stream gather places
  left_end q h = let z : 5 - q ≡ 0 = omega arith in rw z

  -- old record by old record
  pub left_old_lem : (q : ℕ) (r : Rec) (old : List Rec) → left_old ds us q (r ∷ old) ≡ kept_of chart q us r ++ left_old ds us q old
  unfolding left_old kept gather
  left_old_lem q r old = append_assoc (kept_of chart q us r) (kept chart q us old) (joined chart q us ++ left_kinds ds us (suc q))

  pub left_turn : (q : ℕ) → left_old ds us q [] ≡ left_new ds us q us
  unfolding left_old left_new kept gather
  left_turn q = refl

  -- update record by update record
  pub left_new_lem : (q : ℕ) (u : List Field) (new : List (List Field)) → left_new ds us q (u ∷ new) ≡ joined_of chart q u new ++ left_new ds us q new
  unfolding left_new joined
  left_new_lem q u new = append_assoc (joined_of chart q u new) (joined chart q new) (left_kinds ds us (suc q))

  pub left_next : (q : ℕ) → left_new ds us q [] ≡ left_kinds ds us (suc q)
  unfolding left_new joined
  left_next q = refl

-- ---- what was made

total_more : (rs : List Rec) (r : Rec) → total record_length (rs ++ (r ∷ [])) ≡ total record_length rs + record_length r
unfolding total
total_more [] r = omega arith
total_more (x ∷ rs) r = let e = total_more rs r in omega arith

bytes_more : (rs : List Rec) (r : Rec) → gather record_bytes (rs ++ (r ∷ [])) ≡ gather record_bytes rs ++ record_bytes r
bytes_more rs r = gather_append record_bytes rs (r ∷ []) ∙ ap (λ (l : List ℕ). gather record_bytes rs ++ l) (unfold gather in append-nil (record_bytes r))

module _ (test : Rec → Passed) (whole : List Rec) (start : ℕ) (before : List ℕ) where
  -- nothing yet
  pub composing_start : Composing test whole whole start 0 start before before
  unfolding total gather
  composing_start =
      record { made = []; split = refl; count = refl; long = omega arith; passed = refl; same = refl; wrote = λ h. wrote_none start before }

  module _ (m len : ℕ) (out : List ℕ) where
    -- what is left, said otherwise
    pub composing_same : (left more : List Rec) → left ≡ more → Composing test whole left start m len before out → Composing test whole more start m len before out
    composing_same left more e c = subst (λ (l : List Rec). Composing test whole l start m len before out) e c

    -- nothing is left
    pub composing_over : Composing test whole [] start m len before out → Complete test whole start m len before out
    unfolding every_record
    composing_over c =
        let e : c.made ≡ whole = sym (append-nil c.made) ∙ c.split in
        record {
          passed = sym c.passed;
          count = c.count ∙ ap length e;
          long = c.long ∙ ap (λ (l : List Rec). start + total record_length l) e;
          wrote = λ h. subst (λ (l : List Rec). Wrote start (gather record_bytes l) before len out) e (c.wrote h);
        }

    module _ (r : Rec) (left : List Rec) (c : Composing test whole (r ∷ left) start m len before out) where
      -- a loose reference
      pub composing_loose : (x : Fault) → test r ≡ no x → every_record test 3 4 whole ≡ refused 3 (m + 4) x
      unfolding every_record and_then at_record
      composing_loose x e = sym c.passed ∙ rw e

      more_passed : test r ≡ pass → every_record test 3 (m + 1 + 4) left ≡ every_record test 3 4 whole
      unfolding every_record and_then at_record
      more_passed e = let z : m + 1 + 4 ≡ m + 4 + 1 = omega arith in rw z (rw e at c.passed)

      more_long : len + record_length r ≡ start + total record_length (c.made ++ (r ∷ []))
      more_long = omega (arith, c.long, total_more c.made r)

      more_split : (c.made ++ (r ∷ [])) ++ left ≡ whole
      more_split = append_assoc c.made (r ∷ []) left ∙ c.split

      more_count : m + 1 ≡ length (c.made ++ (r ∷ []))
      more_count = omega (arith, c.count, length-append c.made (r ∷ []))

      -- one more, written
      pub composing_written : test r ≡ pass → (n : ℕ) → n ≡ len + record_length r → (new : List ℕ) → Wrote len (record_bytes r) out n new
          → Composing test whole left start (m + 1) n before new
      composing_written e n en new w =
          record {
            made = c.made ++ (r ∷ []);
            split = more_split;
            count = more_count;
            long = en ∙ more_long;
            passed = more_passed e;
            same = wrote_length w ∙ c.same;
            wrote = λ h. subst (λ (l : List ℕ). Wrote start l before n new) (sym (bytes_more c.made r)) (then w (c.wrote (omega arith)));
          }

      -- one more, for which there is no room
      pub composing_counted : test r ≡ pass → (n : ℕ) → n ≡ len + record_length r → length out < n → Composing test whole left start (m + 1) n before out
      composing_counted e n en short =
          record {
            made = c.made ++ (r ∷ []);
            split = more_split;
            count = more_count;
            long = en ∙ more_long;
            passed = more_passed e;
            same = c.same;
            wrote = λ h. absurd (omega (arith, c.same));
          }
