-- An update record on a version refuses with 6, 7, 9, 10 and 12. Assumes nothing.
use Prim.Native.Nat.{ℕ, ◌+◌, ◌-◌}
use mathlib.Core.Path.{refl}
use mathlib.Core.Bool.{false}
use mathlib.Core.Option.{Option, some, none}
use mathlib.Core.List.{List, [], ◌∷◌}
use lib.ListN.{length, get_or}
use lib.Dec.{eqb, leb}
use Rattle.base.specs.Choice.{both}
use Rattle.base.specs.Keys.{same}
use Rattle.skeleton.specs.File.{Field}
use Rattle.fields.specs.Table.{tuple_of}
use Rattle.fields.specs.Values.{Val, num_at}
use Rattle.fields.specs.Content.{many}
use Rattle.fields.specs.declared.Format.TheVariants.{Spas}
use Rattle.forest.specs.Forest.{Forest}
use Rattle.rules.specs.Tags.{FOID, ATTR, INAS, SPAS, COCC, C2IT}
use Rattle.rules.specs.ByTag.{front}
use Rattle.rules.specs.Place.{Place, placed}
use Rattle.rules.specs.Coordinates.{Coord, sent, place_in}
use Rattle.rules.specs.Associations.{inas_key}
use Rattle.rules.specs.Record.{Ident, ident_of, Parts, Assoc, Spatial, Rec, rec_of, foid_of, assoc_of, spatial_of}
use Rattle.rules.specs.Written.{written_fields}
use Rattle.rules.specs.Modify.{act_attr, assoc_key, spatial_key, act_inas, act_spas, act_field, act_fields}
use Rattle.rules.specs.Change.{follows, same_foid, fitting, revised, inserted, deleted, modified, change}
use Rattle.rules.specs.declared.Kind.{Kind}
use Rattle.numbers.specs.Refusals.{is_in}
use Rattle.numbers.specs.Limited.{LimitedCheck, limited_ok, limited_no}
use Rattle.numbers.proofs.Lists.{all_in, each_passes}
use Rattle.numbers.proofs.Checks.{limited_wider, limited_pick, limited_bind, limited_field, limited_join, limited_leave}
use Rattle.numbers.proofs.Trees.{limited_edit}
use Rattle.numbers.proofs.Records.{limited_attr_acts, limited12}

-- ---- the fields of a modify

-- COCC
limited_placed : {A : Type 0} (p : Place) (new xs : List A) → LimitedCheck (6 ∷ 7 ∷ 9 ∷ []) (placed p new xs)
unfolding placed is_in
limited_placed p new xs =
    limited_pick (eqb p.instruction 1) _ _
    (limited_pick (leb p.index (length xs + 1)) _ _ limited_ok (limited_no refl))
    (limited_pick (leb (p.index + p.count - 1) (length xs)) _ _ limited_ok (limited_no refl))

-- ATTR
limited_attr : (b : List ℕ) (f : Forest) → LimitedCheck (6 ∷ 7 ∷ 9 ∷ []) (act_attr b f)
unfolding act_attr is_in all_in each_passes
limited_attr b f = limited_bind _ _ (limited_wider _ _ _ refl (limited_attr_acts b)) (λ us. limited_wider _ _ _ refl (limited_edit false f us))

-- INAS
limited_inas : (b : List ℕ) (ls : List Assoc) → LimitedCheck (6 ∷ 7 ∷ 9 ∷ []) (act_inas b ls)
unfolding act_inas is_in all_in each_passes
limited_inas b ls = limited_pick (eqb (get_or b 9 0) 1) _ _ (limited_wider _ _ _ refl (limited_join assoc_key 0 (assoc_of b) ls)) (limited_wider _ _ _ refl (limited_leave assoc_key 0 (inas_key b) ls))

-- SPAS
limited_spas : (j : ℕ) (vs : List (List Val)) (ss : List Spatial) → LimitedCheck (6 ∷ 7 ∷ 9 ∷ []) (act_spas j vs ss)
unfolding act_spas is_in all_in each_passes
limited_spas j [] ss = limited_ok
limited_spas j (v ∷ vs) ss =
    limited_bind _ _
    (limited_pick (eqb (num_at v 5) 1) _ _ (limited_wider _ _ _ refl (limited_join spatial_key j (spatial_of v) ss)) (limited_wider _ _ _ refl (limited_leave spatial_key j (spatial_of v).key ss)))
    (λ ss'. limited_spas (j + 1) vs ss')

-- one field
limited_act : (new : List Coord) (f : Field) (p : Parts) → LimitedCheck (6 ∷ 7 ∷ 9 ∷ []) (act_field new f p)
unfolding act_field
limited_act new f p =
    limited_pick (eqb f.tag ATTR) _ _ (limited_bind _ _ (limited_attr f.body p.attributes) (λ t. limited_ok))
    (limited_pick (eqb f.tag INAS) _ _ (limited_bind _ _ (limited_inas f.body p.associations) (λ ls. limited_ok))
    (limited_pick (eqb f.tag COCC) _ _ (limited_bind _ _ (limited_placed (place_in f.body) new p.coordinates) (λ cs. limited_ok))
    (limited_pick (eqb f.tag C2IT) _ _ limited_ok
    (limited_pick (eqb f.tag SPAS) _ _ (limited_bind _ _ (limited_spas 1 (many (tuple_of Spas) f.body) p.spatial) (λ ss. limited_ok)) limited_ok))))

-- all of them
limited_acts : (new : List Coord) (i : ℕ) (fs : List Field) (p : Parts) → LimitedCheck (6 ∷ 7 ∷ 9 ∷ []) (act_fields new i fs p)
unfolding act_fields
limited_acts new i [] p = limited_ok
limited_acts new i (f ∷ fs) p = limited_bind _ _ (limited_field i _ (limited_act new f p)) (λ p'. limited_acts new (i + 1) fs p')

-- ---- on a version

-- RVER and code
limited_follows : (id : Ident) (old : Rec) → LimitedCheck (6 ∷ 7 ∷ 9 ∷ 10 ∷ 12 ∷ []) (follows id old)
unfolding follows is_in
limited_follows id old = limited_pick (both (eqb id.rver (old.rver + 1)) (eqb id.code old.code)) _ _ limited_ok (limited_no refl)

-- FOID
limited_foid : (i : ℕ) (fs : List Field) (old : Rec) → LimitedCheck (6 ∷ 7 ∷ 9 ∷ 10 ∷ 12 ∷ []) (same_foid i fs old)
unfolding same_foid is_in
limited_foid i [] old = limited_ok
limited_foid i (f ∷ fs) old =
    limited_pick (eqb f.tag FOID) _ _ (limited_pick (same (foid_of f.body) old.foid) _ _ (limited_foid (i + 1) fs old) (limited_no refl)) (limited_foid (i + 1) fs old)

-- 12
limited_fitting : (r : Rec) → LimitedCheck (6 ∷ 7 ∷ 9 ∷ 10 ∷ 12 ∷ []) (fitting r)
unfolding fitting is_in all_in each_passes
limited_fitting r = limited_bind _ _ (limited_wider _ _ _ refl (limited12 (written_fields r))) (λ _. limited_ok)

-- an insert
limited_inserted : (k : Kind) (fs : List Field) (o : Option Rec) → LimitedCheck (6 ∷ 7 ∷ 9 ∷ 10 ∷ 12 ∷ []) (inserted k fs o)
unfolding inserted is_in
limited_inserted k fs none = limited_pick (eqb (ident_of k (front fs)).rver 1) _ _ (limited_fitting (rec_of k fs)) (limited_no refl)
limited_inserted k fs (some r) = limited_no refl

-- a delete
limited_deleted : (k : Kind) (fs : List Field) (o : Option Rec) → LimitedCheck (6 ∷ 7 ∷ 9 ∷ 10 ∷ 12 ∷ []) (deleted k fs o)
unfolding deleted is_in
limited_deleted k fs none = limited_no refl
limited_deleted k fs (some r) = limited_bind _ _ (limited_follows (ident_of k (front fs)) r) (λ _. limited_ok)

-- a modify
limited_modified : (k : Kind) (fs : List Field) (o : Option Rec) → LimitedCheck (6 ∷ 7 ∷ 9 ∷ 10 ∷ 12 ∷ []) (modified k fs o)
unfolding modified is_in all_in each_passes
limited_modified k fs none = limited_no refl
limited_modified k fs (some r) =
    limited_bind _ _ (limited_follows (ident_of k (front fs)) r) (λ _.
    limited_bind _ _ (limited_foid 1 fs r) (λ _.
    limited_bind _ _ (limited_wider _ _ _ refl (limited_acts (sent fs) 1 fs r.parts)) (λ new. limited_fitting (revised (ident_of k (front fs)).rver new r))))

-- any of them
pub limited_change : (k : Kind) (fs : List Field) (o : Option Rec) → LimitedCheck (6 ∷ 7 ∷ 9 ∷ 10 ∷ 12 ∷ []) (change k fs o)
unfolding change
limited_change k fs o =
    limited_pick (eqb (ident_of k (front fs)).ruin 1) _ _ (limited_inserted k fs o)
    (limited_pick (eqb (ident_of k (front fs)).ruin 2) _ _ (limited_deleted k fs o) (limited_modified k fs o))
