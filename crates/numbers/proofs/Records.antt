-- The tests of one record refuse with 4 to 8, 11 and 12, each with its own. Assumes nothing.
use Prim.Native.Nat.{ℕ, ◌+◌}
use mathlib.Core.Path.{◌≡◌, refl}
use mathlib.Core.Bool.{Bool, true, false, not}
use mathlib.Core.Option.{Option, some, none}
use mathlib.Core.List.{List, [], ◌∷◌}
use lib.ListN.{length, take}
use lib.Dec.{eqb, ltb}
use Rattle.std.specs.Prelude.{Result, Ok, Err}
use Rattle.base.specs.Choice.{both, either}
use Rattle.base.specs.Check.{Check}
use Rattle.base.specs.Lists.{empty, each}
use Rattle.base.specs.Keys.{among, same}
use Rattle.skeleton.specs.File.{Field}
use Rattle.fields.specs.Table.{head_of, tuple_of}
use Rattle.fields.specs.Content.{tally_field, many}
use Rattle.fields.specs.declared.Format.{Format}
use Rattle.fields.specs.declared.Format.TheVariants.{AttrNew, Attr}
use Rattle.rules.specs.Tags.{ATTR, INAS, COCC, DSID}
use Rattle.rules.specs.ByTag.{has, front}
use Rattle.rules.specs.Kind.{Row, kind_of, rank, rows_of, general_rows}
use Rattle.rules.specs.Grammar.{rows_after, on_rows, in_order, complete, ruin_byte, coui_byte, as_stored, forbidden, fields_stand, on_kind, number4}
use Rattle.rules.specs.Coordinates.{sent, place_in}
use Rattle.rules.specs.Content.{insert_only, ident_format, format_of, filled, stands, all_stand, miscounts, counted, number5}
use Rattle.rules.specs.Trees.{tup_of, utup_of, attr_tree, inas_tree, attr_acts, tree_stands, trees_stand, number6}
use Rattle.rules.specs.Associations.{Mark, marks, keys_once, number7, number11}
use Rattle.rules.specs.Record.{key_of, rec_of, dataset_record, update_record}
use Rattle.rules.specs.General.{general_format, general_record, name_of, edition_of, number_of, number8}
use Rattle.rules.specs.Written.{written_length, number12}
use Rattle.rules.specs.declared.Kind.{Kind}
use Rattle.rules.specs.declared.Mode.{Mode}
use Rattle.rules.specs.declared.Mode.TheVariants.{InDataset, InUpdate}
use Rattle.numbers.specs.Refusals.{is_in}
use Rattle.numbers.specs.Limited.{LimitedCheck, limited_ok, limited_no}
use Rattle.numbers.proofs.Lists.{all_in, each_passes}
use Rattle.numbers.proofs.Checks.{limited_wider, limited_pick, limited_bind, limited_field, limited_passed}
use Rattle.numbers.proofs.Trees.{limited_tree, limited_acts}

-- ---- 4

-- fields in order
limited_order : (out : ℕ → Bool) (rows : List Row) (i : ℕ) (fs : List Field) → LimitedCheck (4 ∷ []) (in_order out rows i fs)
unfolding in_order is_in
limited_order out rows i [] = limited_ok
limited_order out rows i (f ∷ fs) = limited_pick (out f.tag) _ _ (limited_no refl) (go (rows_after f.tag rows) (λ left. limited_order out left (i + 1) fs))
  where
    go : (o : Option (List Row)) → ((left : List Row) → LimitedCheck (4 ∷ []) (in_order out left (i + 1) fs)) → LimitedCheck (4 ∷ []) (on_rows o i (λ left. in_order out left (i + 1) fs))
    go none ih = limited_no (unfold is_in in refl)
    go (some rows) ih = ih rows

-- what is to be done with a record of a kind
pub limited_kind : {A : Type 0} (may : List ℕ) → is_in 4 may ≡ true → (m : Option Kind) (go : Kind → Check A) → ((k : Kind) → LimitedCheck may (go k)) → LimitedCheck may (on_kind m go)
limited_kind may h none go p = limited_no h
limited_kind may h (some k) go p = p k

-- the fields after the identifier
limited_fields : (m : Mode) (k : Kind) (b : List ℕ) (fs : List Field) → LimitedCheck (4 ∷ []) (fields_stand m k b fs)
unfolding fields_stand is_in
limited_fields m k b fs =
    limited_bind _ _ (limited_order (forbidden m (ruin_byte k b) (coui_byte fs) (has COCC fs)) (rows_of k) 2 fs) (λ _.
    limited_pick (either (not (as_stored m (ruin_byte k b))) (complete (rows_of k) fs)) _ _ limited_ok (limited_no refl))

-- tags
limited4 : (m : Mode) (least : ℕ) (fs : List Field) → LimitedCheck (4 ∷ []) (number4 m least fs)
unfolding number4 is_in
limited4 m least [] = limited_no refl
limited4 m least (f ∷ fs) =
    limited_kind _ refl (kind_of f.tag) _ (λ k. limited_pick (ltb (rank k) least) _ _ (limited_no refl) (limited_bind _ _ (limited_fields m k f.body fs) (λ _. limited_ok)))

-- ---- 5

-- a field that is filled
limited_filled : (i : ℕ) (tupled : Bool) (t : Result ℕ ℕ) → LimitedCheck (5 ∷ []) (filled i tupled t)
unfolding is_in
limited_filled i tupled (Ok n) = limited_ok
limited_filled i tupled (Err j) = limited_no refl

-- a field has its format
limited_stands : (i : ℕ) (k : Format) (b : List ℕ) → LimitedCheck (5 ∷ []) (stands i k b)
unfolding stands
limited_stands i k b = limited_filled i (not (empty (tuple_of k))) (tally_field (head_of k) (tuple_of k) b)

-- each has
limited_all : (new : Bool) (i : ℕ) (fs : List Field) → LimitedCheck (5 ∷ []) (all_stand new i fs)
unfolding all_stand
limited_all new i [] = limited_ok
limited_all new i (f ∷ fs) = limited_bind _ _ (limited_stands i (format_of new f.tag f.body) f.body) (λ _. limited_all new (i + 1) fs)

-- NCOR
limited_counted : (n i : ℕ) (fs : List Field) → LimitedCheck (5 ∷ []) (counted n i fs)
unfolding counted is_in
limited_counted n i [] = limited_ok
limited_counted n i (f ∷ fs) = limited_pick (both (eqb f.tag COCC) (miscounts n (place_in f.body))) _ _ (limited_no refl) (limited_counted n (i + 1) fs)

-- values
limited5 : (m : Mode) (k : Kind) (fs : List Field) → LimitedCheck (5 ∷ []) (number5 m k fs)
unfolding number5
limited5 m k [] = limited_ok
limited5 m k (f ∷ fs) =
    limited_bind _ _ (limited_stands 1 (ident_format (insert_only m) k) f.body) (λ _.
    limited_bind _ _ (limited_all (as_stored m (ruin_byte k f.body)) 2 fs) (λ _. limited_counted (length (sent fs)) 2 fs))

-- ---- 6

-- the acts of an ATTR field
pub limited_attr_acts : (b : List ℕ) → LimitedCheck (6 ∷ []) (attr_acts b)
unfolding attr_acts
limited_attr_acts b = limited_acts (each utup_of (many (tuple_of Attr) b))

-- a field's tree rule
limited_tree_stands : (new : Bool) (f : Field) → LimitedCheck (6 ∷ []) (tree_stands new f)
unfolding tree_stands attr_tree inas_tree
limited_tree_stands new f =
    limited_pick (eqb f.tag ATTR) _ _
    (limited_pick new _ _ (limited_passed _ (limited_tree (each tup_of (many (tuple_of AttrNew) f.body)))) (limited_passed _ (limited_attr_acts f.body)))
    (limited_pick (eqb f.tag INAS) _ _ (limited_passed _ (limited_tree _)) limited_ok)

-- that of each
limited_trees_stand : (new : Bool) (i : ℕ) (fs : List Field) → LimitedCheck (6 ∷ []) (trees_stand new i fs)
unfolding trees_stand
limited_trees_stand new i [] = limited_ok
limited_trees_stand new i (f ∷ fs) = limited_bind _ _ (limited_field i _ (limited_tree_stands new f)) (λ _. limited_trees_stand new (i + 1) fs)

-- trees
limited6 : (m : Mode) (k : Kind) (fs : List Field) → LimitedCheck (6 ∷ []) (number6 m k fs)
unfolding number6
limited6 m k [] = limited_ok
limited6 m k (f ∷ fs) = limited_trees_stand (as_stored m (ruin_byte k f.body)) 2 fs

-- ---- 7 and 11

-- keys once
limited_keys : (seen : List (List ℕ)) (ms : List Mark) → LimitedCheck (7 ∷ []) (keys_once seen ms)
unfolding keys_once is_in
limited_keys seen [] = limited_ok
limited_keys seen (m ∷ ms) = limited_pick (among m.key seen) _ _ (limited_no refl) (limited_keys (m.key ∷ seen) ms)

-- association keys
limited7 : (fs : List Field) → LimitedCheck (7 ∷ []) (number7 fs)
unfolding number7
limited7 fs = limited_keys [] (marks 1 fs)

-- references
pub limited11 : (keys : List (List ℕ)) (ms : List Mark) → LimitedCheck (11 ∷ []) (number11 keys ms)
unfolding number11 is_in
limited11 keys [] = limited_ok
limited11 keys (m ∷ ms) = limited_pick (among (take 2 m.key) keys) _ _ (limited11 keys ms) (limited_no refl)

-- ---- one record

-- of a dataset
pub limited_dataset_record : (least : ℕ) (keys : List (List ℕ)) (fs : List Field) → LimitedCheck (4 ∷ 5 ∷ 6 ∷ 7 ∷ []) (dataset_record least keys fs)
unfolding dataset_record is_in all_in each_passes
limited_dataset_record least keys fs =
    limited_bind _ _ (limited_wider _ _ _ refl (limited4 InDataset least fs)) (λ k.
    limited_bind _ _ (limited_wider _ _ _ refl (limited5 InDataset k fs)) (λ _.
    limited_bind _ _ (limited_wider _ _ _ refl (limited6 InDataset k fs)) (λ _.
    limited_pick (among (key_of (rec_of k fs)) keys) _ _ (limited_no refl) (limited_bind _ _ (limited_wider _ _ _ refl (limited7 fs)) (λ _. limited_ok)))))

-- of an update
pub limited_update_record : (fs : List Field) → LimitedCheck (4 ∷ 5 ∷ 6 ∷ 7 ∷ []) (update_record fs)
unfolding update_record is_in all_in each_passes
limited_update_record fs =
    limited_bind _ _ (limited_wider _ _ _ refl (limited4 InUpdate 0 fs)) (λ k.
    limited_bind _ _ (limited_wider _ _ _ refl (limited5 InUpdate k fs)) (λ _.
    limited_bind _ _ (limited_wider _ _ _ refl (limited6 InUpdate k fs)) (λ _.
    limited_pick (eqb (ruin_byte k (front fs)) 1) _ _ (limited_bind _ _ (limited_wider _ _ _ refl (limited7 fs)) (λ _. limited_ok)) limited_ok)))

-- the general record
pub limited_general : (m : Mode) (fs : List Field) → LimitedCheck (4 ∷ 5 ∷ []) (general_record m fs)
unfolding general_record is_in all_in each_passes
limited_general m [] = limited_no refl
limited_general m (f ∷ fs) =
    limited_pick (eqb f.tag DSID) _ _
    (limited_bind _ _ (limited_wider _ _ _ refl (limited_order (λ t. false) general_rows 2 fs)) (λ _. limited_wider _ _ _ refl (limited_stands 1 (general_format m) f.body)))
    (limited_no refl)

-- 8
pub limited8 : (old new : List Field) → LimitedCheck (8 ∷ []) (number8 old new)
unfolding number8 is_in
limited8 old new =
    limited_pick (both (same (name_of new) (name_of old)) (both (eqb (edition_of new) (edition_of old)) (eqb (number_of new) (number_of old + 1)))) _ _ limited_ok (limited_no refl)

-- 12
pub limited12 : (fs : List Field) → LimitedCheck (12 ∷ []) (number12 fs)
unfolding number12 is_in
limited12 fs = limited_pick (ltb 99999 (written_length fs)) _ _ (limited_no refl) limited_ok
