-- How long the result of an update is, without a byte of it. Assumes nothing.
use Prim.Native.Nat.{ℕ, ◌+◌}
use mathlib.Core.Path.{◌≡◌, refl, ◌∙◌}
use mathlib.Core.Bool.{true, false}
use mathlib.Core.List.{List, [], ◌∷◌, ◌++◌}
use lib.ListN.{length, length-append}
use Rattle.base.specs.Lists.{gather}
use Rattle.skeleton.specs.File.{Field}
use Rattle.skeleton.specs.Emit.{emit}
use Rattle.skeleton.proofs.EmitFieldsLaws.{length_emit}
use Rattle.rules.specs.Record.{Rec}
use Rattle.rules.specs.Written.{Dataset, written_fields, field_width, written_length}
use Rattle.sequence.specs.Stream.{kept_of, joined_of}
use Rattle.updates.specs.Acts.{chart}
use Rattle.updates.specs.Streamed.{kinds, record_bytes, head_bytes, kept_bytes, joined_bytes, result_bytes, total, record_length, head_length, kept_length, joined_length, result_length}

-- lists that are gathered
pub length_gather : {A B : Type 0} (f : A → List B) (n : A → ℕ) → ((a : A) → length (f a) ≡ n a) → (l : List A) → length (gather f l) ≡ total n l
unfolding gather total
length_gather f n e [] = refl
length_gather f n e (x ∷ l) = rw (length-append (f x) (gather f l), e x, length_gather f n e l)

-- a record
pub length_record : (r : Rec) → length (record_bytes r) ≡ record_length r
unfolding record_bytes record_length written_length
length_record r = length_emit field_width field_width false (written_fields r)

-- the first three records
pub length_head : (d : Dataset) (g : List Field) → length (head_bytes d g) ≡ head_length d g
unfolding head_bytes head_length written_length
length_head d g =
    rw (
      length-append (emit field_width field_width true d.descriptive) (emit field_width field_width false g ++ emit field_width field_width false d.systems),
      length-append (emit field_width field_width false g) (emit field_width field_width false d.systems),
      length_emit field_width field_width true d.descriptive,
      length_emit field_width field_width false g,
      length_emit field_width field_width false d.systems,
    )

-- the old records of a kind
length_kept : (q : ℕ) (us : List (List Field)) (ds : List Rec) → length (kept_bytes q us ds) ≡ kept_length q us ds
unfolding kept_bytes kept_length
length_kept q us ds = length_gather _ _ (λ r. length_gather record_bytes record_length length_record (kept_of chart q us r)) ds

-- the inserted records of a kind
length_joined : (q : ℕ) (us : List (List Field)) → length (joined_bytes q us) ≡ joined_length q us
unfolding joined_bytes joined_length
length_joined q [] = refl
length_joined q (u ∷ us) =
    rw (
      length-append (gather record_bytes (joined_of chart q u us)) (joined_bytes q us),
      length_gather record_bytes record_length length_record (joined_of chart q u us),
      length_joined q us,
    )

-- all of the result
pub length_result : (d : Dataset) (g : List Field) (us : List (List Field)) → length (result_bytes d g us) ≡ result_length d g us
unfolding result_bytes result_length
length_result d g us =
    length-append (head_bytes d g) _
    ∙ rw (
      length_head d g,
      length_gather (λ q. kept_bytes q us d.records ++ joined_bytes q us) (λ q. kept_length q us d.records + joined_length q us)
          (λ q. length-append (kept_bytes q us d.records) (joined_bytes q us) ∙ rw (length_kept q us d.records, length_joined q us))
          kinds,
    )
