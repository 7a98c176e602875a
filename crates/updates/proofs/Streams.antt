-- An update with no dataset in between is the update: refusals, references and bytes. Assumes nothing.
use Prim.Native.Nat.{ℕ, ◌+◌}
use mathlib.Core.Path.{◌≡◌, refl, sym, ap, fun_ext, ◌∙◌}
use mathlib.Core.Bool.{Bool, true, false}
use mathlib.Core.List.{List, [], ◌∷◌, ◌++◌, append_assoc}
use lib.ListN.{length, take}
use lib.Dec.{ltb}
use Rattle.base.specs.Choice.{pick}
use Rattle.base.specs.Check.{fault, Passed}
use Rattle.base.specs.Lists.{each, gather}
use Rattle.base.specs.Keys.{among}
use Rattle.skeleton.specs.File.{Field}
use Rattle.skeleton.specs.Emit.{emit, emits}
use Rattle.rules.specs.Associations.{Mark, marks, number11}
use Rattle.rules.specs.Record.{Rec, key_of}
use Rattle.rules.specs.Written.{Dataset, written_fields, field_width, number12, written, written_bytes, count}
use Rattle.rules.specs.Outcome.{Outcome, done, refused, and_then, at, every_record}
use Rattle.rules.specs.File.{Sent, references, read_dataset, writable, read_update}
use Rattle.rules.specs.Update.{general, steps, updated}
use Rattle.rules.specs.Answers.{not_too_long, room_for, enough_work, update_outcome}
use Rattle.rules.proofs.OutcomeLaws.{and_then_assoc, and_then_inv, done_inj}
use Rattle.sequence.specs.Stream.{kept_of, kept, joined_of, joined, stream, standing}
use Rattle.sequence.proofs.Gather.{gather_append, gather_gather}
use Rattle.updates.specs.Acts.{chart}
use Rattle.updates.specs.Sorted.{Sorted}
use Rattle.updates.specs.Streamed.{kinds, verdicts, result_records, refers_to, result_references, record_bytes, head_bytes, kept_bytes, joined_bytes, result_bytes, streamed_to, streamed_outcome}
use Rattle.updates.proofs.Results.{read_sorted, steps_judged, steps_standing, steps_stream}

-- ---- outcomes

-- one thing and then two that agree wherever it is done
pub alike : {A B : Type 0} (m : Outcome A) (k l : A → Outcome B) → ((a : A) → m ≡ done a → k a ≡ l a) → and_then m k ≡ and_then m l
unfolding and_then
alike (done a) k l e = e a refl
alike (refused file n x) k l e = refl

-- a thing of which only the refusal matters
judged_first : {A B : Type 0} (m : Outcome A) (k : A → Outcome B) (l : Outcome B) → ((a : A) → m ≡ done a → k a ≡ l) → and_then m k ≡ and_then (and_then {B = Unit {0}} m (λ _. done tt)) (λ _. l)
unfolding and_then
judged_first (done a) k l e = e a refl
judged_first (refused file n x) k l e = refl

-- ---- references

-- 11, by any test of keys that agrees with the list of keys
refers_same : (keys : List (List ℕ)) (stands : List ℕ → Bool) → ((k : List ℕ) → among k keys ≡ stands k) → (ms : List Mark) → number11 keys ms ≡ refers_to stands ms
unfolding number11 refers_to
refers_same keys stands e [] = refl
refers_same keys stands e (m ∷ ms) = rw (e (take 2 m.key), refers_same keys stands e ms)

-- a test of the fields of records is a test of the records
every_each : {A B : Type 0} (test : B → Passed) (same_test : A → Passed) (g : A → B) (file n : ℕ) (l : List A) → ((a : A) → test (g a) ≡ same_test a)
    → every_record test file n (each g l) ≡ every_record same_test file n l
unfolding every_record each
every_each test same_test g file n [] e = refl
every_each test same_test g file n (x ∷ l) e = rw (e x) (alike (at file n (same_test x)) _ _ (λ t h. every_each test same_test g file (n + 1) l e))

-- ---- bytes

-- records after the first
emits_records : (rs : List Rec) → emits field_width field_width false (each written_fields rs) ≡ gather record_bytes rs
unfolding emits each gather record_bytes
emits_records [] = refl
emits_records (r ∷ rs) = ap (λ (l : List ℕ). emit field_width field_width false (written_fields r) ++ l) (emits_records rs)

-- the inserted records
pub joined_bytes_lem : (q : ℕ) (us : List (List Field)) → gather record_bytes (joined chart q us) ≡ joined_bytes q us
unfolding joined joined_bytes gather
joined_bytes_lem q [] = refl
joined_bytes_lem q (u ∷ us) =
    gather_append record_bytes (joined_of chart q u us) (joined chart q us) ∙ ap (λ (l : List ℕ). gather record_bytes (joined_of chart q u us) ++ l) (joined_bytes_lem q us)

-- the records of one kind
pub kind_bytes : (q : ℕ) (ds : List Rec) (us : List (List Field)) → gather record_bytes (kept chart q us ds ++ joined chart q us) ≡ kept_bytes q us ds ++ joined_bytes q us
unfolding kept kept_bytes
kind_bytes q ds us =
    gather_append record_bytes (kept chart q us ds) (joined chart q us)
    ∙ rw (gather_gather record_bytes (kept_of chart q us) ds, joined_bytes_lem q us)

-- all of them
pub result_bytes_lem : (ds : List Rec) (us : List (List Field)) → gather record_bytes (result_records ds us) ≡ gather (λ q. kept_bytes q us ds ++ joined_bytes q us) kinds
unfolding result_records stream
result_bytes_lem ds us =
    gather_gather record_bytes (λ q. kept chart q us ds ++ joined chart q us) kinds
    ∙ ap (λ (f : ℕ → List ℕ). gather f kinds) (fun_ext (λ q. kind_bytes q ds us))

-- the result of an update, by its general record and its records
abbrev pub result_of : Dataset → List Field → List Rec → Dataset
result_of d g rs = record { descriptive = d.descriptive; general = g; systems = d.systems; records = rs }

-- its bytes
pub written_result : (d : Dataset) (g : List Field) (us : List (List Field)) → written_bytes (result_of d g (result_records d.records us)) ≡ result_bytes d g us
unfolding written_bytes written emits result_bytes head_bytes
written_result d g us =
    rw (emits_records (result_records d.records us), result_bytes_lem d.records us)
    (sym (append_assoc (emit 5 5 true d.descriptive) _ _ ∙ ap (λ (l : List ℕ). emit 5 5 true d.descriptive ++ l) (append_assoc (emit 5 5 false g) _ _)))

-- ---- the update

-- after the records: references, and then 14 and 13
after_steps : (room : ℕ) (d : Dataset) (g : List Field) (us : List (List Field)) (rs : List Rec) → Sorted d.records → steps 3 us d.records ≡ done rs
    → and_then (references 3 rs (each written_fields rs)) (λ _. room_for room (result_of d g rs))
    ≡ and_then (result_references d.records us) (λ _. room_for room (result_of d g (result_records d.records us)))
unfolding references result_references
after_steps room d g us rs s e =
    let z = steps_stream 3 us d.records s rs e in
    rw (
      every_each (λ fs. number11 (each key_of rs) (marks 1 fs)) (λ r. refers_to (standing chart d.records us) (marks 1 (written_fields r))) written_fields 3 4 rs
          (λ r. refers_same (each key_of rs) (standing chart d.records us) (steps_standing 3 us d.records s rs e) (marks 1 (written_fields r))),
      z,
    )

-- the room for the result, by its bytes
room_for_lem : (room : ℕ) (d : Dataset) (g : List Field) (us : List (List Field))
    → room_for room (result_of d g (result_records d.records us))
    ≡ and_then (not_too_long 3 (result_bytes d g us)) (λ _. pick (ltb room (length (result_bytes d g us))) (refused 3 0 (fault 13 0 0))
    (done (record { bytes = result_bytes d g us; records = 3 + length (result_records d.records us) })))
unfolding room_for count
room_for_lem room d g us =
    ap (λ (b : List ℕ). and_then (not_too_long 3 b) (λ _. pick (ltb room (length b)) (refused 3 0 (fault 13 0 0)) (done (record { bytes = b; records = 3 + length (result_records d.records us) }))))
    (written_result d g us)

-- an update of a dataset that was read
pub streamed : (room : ℕ) (d : Dataset) (u : Sent) → Sorted d.records → and_then (updated d u) (λ r. room_for room r) ≡ streamed_to room d u
unfolding updated streamed_to verdicts and_then room_for
streamed room d u s =
    and_then_assoc (at 2 2 (general d.general u.general)) _ _
    ∙ alike (at 2 2 (general d.general u.general)) _ _ (λ g _.
    and_then_assoc (steps 3 u.records d.records) _ _
    ∙ judged_first (steps 3 u.records d.records) _ _ (λ rs e.
    and_then_assoc (references 3 rs (each written_fields rs)) _ _ ∙ after_steps room d g u.records rs s e)
    ∙ rw (steps_judged 3 u.records d.records s, room_for_lem room d g u.records))

-- a dataset that can be written is the dataset
pub writable_same : (d w : Dataset) → writable d ≡ done w → d ≡ w
unfolding writable
writable_same d w e = let (t, x, y) = and_then_inv (every_record number12 1 1 (written d)) _ w e in done_inj d w y

-- what the updater finds and writes, for all bytes and every room
pub streams : (room work : ℕ) (f u : List ℕ) → update_outcome room work f u ≡ streamed_outcome room work f u
unfolding update_outcome streamed_outcome
streams room work f u =
    alike (enough_work work) _ _ (λ _ _.
    alike (not_too_long 1 f) _ _ (λ _ _.
    alike (not_too_long 2 u) _ _ (λ _ _.
    alike (read_dataset f) _ _ (λ d e.
    alike (writable d) _ _ (λ w c.
    alike (read_update u) _ _ (λ s _.
    streamed room w s (rw (← writable_same d w c) (read_sorted f d e))))))))
