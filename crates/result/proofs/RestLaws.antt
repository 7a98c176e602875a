-- The bytes and the length of the records of a result behind the third, kind by kind. Assumes nothing.
use Prim.Native.Nat.{ℕ, ◌+◌}
use mathlib.Core.Path.{◌≡◌, refl, ap, fun_ext, ◌∙◌}
use mathlib.Core.List.{List, [], ◌∷◌, ◌++◌}
use native.Mathlib.Omega.{arith}
use Rattle.base.specs.Lists.{gather}
use Rattle.skeleton.specs.File.{Field}
use Rattle.rules.specs.Record.{Rec}
use Rattle.sequence.specs.Stream.{kept_of, kept, joined_of, joined, stream}
use Rattle.updates.specs.Acts.{chart}
use Rattle.updates.specs.Streamed.{kinds, result_records, record_bytes, total, record_length, kept_length, joined_length}
use Rattle.updates.proofs.Streams.{result_bytes_lem}
use Rattle.result.specs.Rest.{rest_bytes, rest_length}

-- ---- bytes

pub rest_bytes_lem : (ds : List Rec) (us : List (List Field)) → gather record_bytes (result_records ds us) ≡ rest_bytes ds us
rest_bytes_lem ds us = result_bytes_lem ds us

-- ---- lengths

total_append : {A : Type 0} (f : A → ℕ) (xs ys : List A) → total f (xs ++ ys) ≡ total f xs + total f ys
unfolding total
total_append f [] ys = omega arith
total_append f (x ∷ xs) ys = let e = total_append f xs ys in omega arith

total_gather : {A B : Type 0} (f : B → ℕ) (g : A → List B) (xs : List A) → total f (gather g xs) ≡ total (λ x. total f (g x)) xs
unfolding total gather
total_gather f g [] = refl
total_gather f g (x ∷ xs) = total_append f (g x) (gather g xs) ∙ ap (λ (n : ℕ). total f (g x) + n) (total_gather f g xs)

joined_long : (q : ℕ) (us : List (List Field)) → total record_length (joined chart q us) ≡ joined_length q us
unfolding joined joined_length total
joined_long q [] = refl
joined_long q (u ∷ us) =
    total_append record_length (joined_of chart q u us) (joined chart q us) ∙ ap (λ (n : ℕ). total record_length (joined_of chart q u us) + n) (joined_long q us)

kind_long : (q : ℕ) (ds : List Rec) (us : List (List Field)) → total record_length (kept chart q us ds ++ joined chart q us) ≡ kept_length q us ds + joined_length q us
unfolding kept kept_length
kind_long q ds us = total_append record_length (kept chart q us ds) (joined chart q us) ∙ rw (total_gather record_length (kept_of chart q us) ds, joined_long q us)

pub rest_long : (ds : List Rec) (us : List (List Field)) → total record_length (result_records ds us) ≡ rest_length ds us
unfolding result_records stream
rest_long ds us =
    total_gather record_length (λ q. kept chart q us ds ++ joined chart q us) kinds
    ∙ ap (λ (f : ℕ → ℕ). total f kinds) (fun_ext (λ q. kind_long q ds us))
