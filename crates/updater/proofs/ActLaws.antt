-- From each way out behind the general records to the rules' outcome: verdicts, references, 14, 13, done. Assumes nothing.
use Prim.Native.Nat.{ℕ, ◌+◌, ◌≤◌, ◌<◌}
use mathlib.Core.Path.{◌≡◌, sym, ap, ap₂, ◌∙◌, subst}
use mathlib.Core.Bool.{Bool, true, false}
use mathlib.Core.List.{List, [], ◌∷◌, ◌++◌}
use native.Mathlib.Omega.{arith}
use borrow.Author.Tests.{lt-ltb, le-ltb}
use lib.ListN.{length, length-append}
use lib.Dec.{ltb}
use Rattle.base.specs.Choice.{pick}
use Rattle.base.specs.Check.{ok, fault}
use Rattle.base.specs.declared.Fault.{Fault}
use Rattle.base.proofs.ListLaws.{each_length}
use Rattle.memory.specs.Put.{put}
use Rattle.memory.specs.Wrote.{Wrote}
use Rattle.memory.proofs.PutLaws.{length_put, put_put_last_first}
use Rattle.memory.proofs.WroteLaws.{wrote_take}
use Rattle.skeleton.specs.File.{Field, records_of}
use Rattle.skeleton.specs.Emit.{emits}
use Rattle.skeleton.proofs.EmitFileLaws.{length_emits}
use Rattle.rules.specs.General.{merged}
use Rattle.rules.specs.Record.{Rec}
use Rattle.rules.specs.Written.{Dataset, written_fields, field_width, written, written_bytes}
use Rattle.rules.specs.Outcome.{Outcome, done, refused, and_then, at}
use Rattle.rules.specs.File.{Sent, sent_as}
use Rattle.rules.specs.Update.{general}
use Rattle.rules.specs.Answers.{Written, success, not_too_long, output_of, update}
use Rattle.rules.specs.declared.Answer.{Answer}
use Rattle.rules.proofs.OutcomeLaws.{and_then_inv, done_inj, refuses}
use Rattle.numbers.proofs.Answers.{zero_is_done}
use Rattle.sequence.specs.Keyed.{Ran, done as ran, stop}
use Rattle.sequence.specs.History.{judged}
use Rattle.sequence.proofs.Tests.{by_bool}
use Rattle.updates.specs.Acts.{chart, in_update}
use Rattle.updates.specs.Streamed.{verdicts, result_records, result_references, head_bytes, head_length, result_bytes, result_length, streamed_to, streamed_outcome}
use Rattle.updates.proofs.Lengths.{length_result, length_head}
use Rattle.updates.proofs.Streams.{streams, result_of, written_result}
use Rattle.stock.specs.Stock.{stock_from}
use Rattle.result.specs.Rest.{rest_bytes, rest_length}
use Rattle.updater.specs.Stages.{sent_general, sent_from, Begun, Acted, Built}
use Rattle.updater.proofs.StageLaws.{refusing, answer_refused, fits_on}

-- ---- what is left behind the general records

-- the result's bytes and the count of its records, in an output of so many bytes
abbrev sized : ℕ → List ℕ → ℕ → Outcome Written
sized room b n = and_then (not_too_long 3 b) (λ _. pick (ltb room (length b)) (refused 3 0 (fault 13 0 0)) (done (record { bytes = b; records = n })))

-- the verdicts, the references and then those
abbrev behind : ℕ → List ℕ → List Rec → List (List Field) → Outcome Written
behind room front ds us =
    and_then (verdicts ds us) (λ _. and_then (result_references ds us) (λ _. sized room (front ++ rest_bytes ds us) (3 + length (result_records ds us))))

streamed_behind : (room : ℕ) (d : Dataset) (s : Sent) (g : List Field) → general d.general s.general ≡ ok g
    → streamed_to room d s ≡ behind room (head_bytes d g) d.records s.records
unfolding streamed_to and_then at result_bytes
streamed_behind room d s g e = rw e

-- where it is done, its bytes
behind_bytes : (room : ℕ) (front : List ℕ) (ds : List Rec) (us : List (List Field)) (w : Written) → behind room front ds us ≡ done w → w.bytes ≡ front ++ rest_bytes ds us
behind_bytes room front ds us w e =
    let (_, a, b) = and_then_inv (verdicts ds us) _ w e in
    let (_, c, d) = and_then_inv (result_references ds us) _ w b in
    let (_, x, y) = and_then_inv (not_too_long 3 (front ++ rest_bytes ds us)) _ w d in
    by_bool (ltb room (length (front ++ rest_bytes ds us)))
    (λ h. refuses (rw h at y))
    (λ h. sym (ap (λ (z : Written). z.bytes) (done_inj _ w (rw h at y))))

-- ---- lengths

-- the records behind them
pub rest_length_lem : (d : Dataset) (g : List Field) (us : List (List Field)) → length (rest_bytes d.records us) ≡ rest_length d.records us
unfolding result_bytes result_length
rest_length_lem d g us =
    let a = length-append (head_bytes d g) (rest_bytes d.records us) in
    let b = length_result d g us in
    let c = length_head d g in
    omega arith

-- there are fewer records than bytes
emits_count : (first : Bool) (fss : List (List Field)) → length fss ≤ length (emits field_width field_width first fss)
emits_count first [] = omega arith
emits_count first (fs ∷ rest) =
    let a = length_emits field_width field_width first fs rest in
    let b = emits_count false rest in
    omega arith

pub count_few : (d : Dataset) (g : List Field) (us : List (List Field)) → 3 + length (result_records d.records us) ≤ head_length d g + rest_length d.records us
unfolding written_bytes written result_length
count_few d g us =
    let a = emits_count true (written (result_of d g (result_records d.records us))) in
    let b = ap length (written_result d g us) in
    let c = length_result d g us in
    let e = each_length written_fields (result_records d.records us) in
    omega arith

-- a verdict that refuses is the update's
pub verdict_file : (ds : List Rec) (us : List (List Field)) (file n : ℕ) (x : Fault) → verdicts ds us ≡ refused file n x → file ≡ 2
unfolding verdicts in_update
verdict_file ds us file n x e = go (judged chart 3 ds [] us) e
  where
    go : (r : Ran (Unit {0})) → in_update r ≡ refused file n x → file ≡ 2
    go (ran a) y = absurd (let w : ◌≡◌ {A = ℕ} 0 1 = cc in omega arith)
    go (stop m z) y = let w : 2 ≡ file = cc in sym w

-- ---- the ways out

-- an answer that says the same
pub acted_as : (f u : List ℕ) (ds us front room size : ℕ) (a b : Answer) (o : List ℕ) → a ≡ b → Acted f u ds us front room size b o → Acted f u ds us front room size a o
acted_as f u ds us front room size a b o same k = subst (λ (y : Answer). Acted f u ds us front room size y o) (sym same) k

-- an output and a workspace of the same lengths
pub acted_sizes : (f u : List ℕ) (ds us front n m room size : ℕ) (a : Answer) (o : List ℕ) → Acted f u ds us front n m a o → n ≡ room → m ≡ size → Acted f u ds us front room size a o
acted_sizes f u ds us front n m room size a o k e g = rw (← e, ← g) k

module _ (f u : List ℕ) (ds us front : ℕ) (k : Begun f u ds us front) where
  abbrev old : List Rec
  old = stock_from f ds

  abbrev new : List (List Field)
  new = sent_from u us

  abbrev opening : List ℕ
  opening = head_bytes k.fits.dataset (merged k.fits.dataset.general (sent_general u))

  opening_length : length opening ≡ front
  opening_length = length_head k.fits.dataset (merged k.fits.dataset.general (sent_general u)) ∙ sym k.long

  pub behind_length : length (rest_bytes old new) ≡ rest_length old new
  behind_length =
      ap (λ (l : List Rec). length (rest_bytes l new)) (sym k.opens.records)
      ∙ rest_length_lem k.fits.dataset (sent_general u) new
      ∙ ap (λ (l : List Rec). rest_length l new) k.opens.records

  pub behind_count : 3 + length (result_records old new) ≤ front + rest_length old new
  behind_count =
      rw (← k.opens.records, k.long) (count_few k.fits.dataset (merged k.fits.dataset.general (sent_general u)) new)

  module _ (room size : ℕ) (big : 400000 ≤ size) where
    begun_on : streamed_outcome room size f u ≡ behind room opening old new
    begun_on =
        fits_on f u us k.fits room size big
        ∙ streamed_behind room k.fits.dataset (sent_as (records_of u).items) (merged k.fits.dataset.general (sent_general u)) k.follows
        ∙ ap₂ (λ (a : List Rec) (b : List (List Field)). behind room opening a b) k.opens.records (sym k.fits.fitting.later)

    -- a refusal, whatever stands in the output
    acted_refused : (file n : ℕ) (x : Fault) → streamed_outcome room size f u ≡ refused file n x → (o : List ℕ) → Acted f u ds us front room size (refusing x.number file n) o
    acted_refused file n x e o =
        let said = answer_refused f u room size file n x e in
        let never : x.number ≡ 0 → ⊥ = λ z.
        let (w, y) = (zero_is_done.updates f u room size).0 (ap (λ (a : Answer). a.number) said ∙ z) in
        refuses (sym (streams room size f u ∙ e) ∙ y) in
        record { said = sym said; before = o; fits = λ z. absurd (never z); stands = λ z. absurd (never z) }

    pub acted_wrong : (n : ℕ) (x : Fault) → verdicts old new ≡ refused 2 n x → (o : List ℕ) → Acted f u ds us front room size (refusing x.number 2 n) o
    unfolding and_then
    acted_wrong n x e o = acted_refused 2 n x (begun_on ∙ rw e) o

    module _ (fine : verdicts old new ≡ done tt) where
      pub acted_loose : (n : ℕ) (x : Fault) → result_references old new ≡ refused 3 n x → (o : List ℕ)
          → Acted f u ds us front room size (refusing x.number 3 n) o
      unfolding and_then
      acted_loose n x e o = acted_refused 3 n x (begun_on ∙ rw (fine, e)) o

      module _ (linked : result_references old new ≡ done tt) (len : ℕ) (long : len ≡ front + rest_length old new) where
        result_length_lem : length (opening ++ rest_bytes old new) ≡ len
        result_length_lem = length-append opening (rest_bytes old new) ∙ omega (arith, opening_length, behind_length, long)

        sized_on : streamed_outcome room size f u ≡ sized room (opening ++ rest_bytes old new) (3 + length (result_records old new))
        unfolding and_then
        sized_on = begun_on ∙ rw (fine, linked)

        pub acted_long : 16777216 < len → (o : List ℕ) → Acted f u ds us front room size (refusing 14 3 0) o
        unfolding not_too_long and_then
        acted_long h o = acted_refused 3 0 (fault 14 0 0) (sized_on ∙ rw (result_length_lem, lt-ltb 16777216 len h)) o

        module _ (short : len ≤ 16777216) where
          pub acted_short : room < len → (o : List ℕ) → Acted f u ds us front room size (refusing 13 3 0) o
          unfolding not_too_long and_then
          acted_short h o = acted_refused 3 0 (fault 13 0 0) (sized_on ∙ rw (result_length_lem, le-ltb 16777216 len short, lt-ltb room len h)) o

          done_on : len ≤ room → streamed_outcome room size f u ≡ done (record { bytes = opening ++ rest_bytes old new; records = 3 + length (result_records old new) })
          unfolding not_too_long and_then
          done_on h = sized_on ∙ rw (result_length_lem, le-ltb 16777216 len short, le-ltb room len h)

          pub acted_done : (o o' : List ℕ) → room ≡ length o → len ≤ room → (c : ℕ) → c ≡ length (result_records old new) → o' ≡ put front (rest_bytes old new) o
              → Acted f u ds us front room size (record { number = 0; file = 0; rec = 0; length = len; count = 3 + c }) o'
          unfolding update output_of success
          acted_done o o' same h c counted e =
              let said = ap (λ (m : Outcome Written). (output_of room m).answer) (streams room size f u ∙ done_on h) in
              record { said = rw counted (sym (rw result_length_lem at said)); before = o; fits = λ _. omega (arith, behind_length, long, same); stands = λ _. e }

    -- ---- the whole result

    module _ (r : Answer) (o : List ℕ) (a : Acted f u ds us front room size r o) where
      pub built_not : (r.number ≡ 0 → ⊥) → (o' : List ℕ) → Built f u room size r o'
      built_not nz o' =
          record {
            said = a.said;
            stands = λ w z. absurd (nz (ap (λ (y : Answer). y.number) a.said ∙ (zero_is_done.updates f u room size).1 (w, z)));
          }

      module _ (z : r.number ≡ 0) where
        pub front_room : front ≤ length o
        front_room = omega (arith, a.fits z, ap length (a.stands z), length_put front (rest_bytes old new) a.before)

        pub built_whole : (n : ℕ) (o' : List ℕ) → Wrote 0 opening o n o' → Built f u room size r o'
        built_whole n o' w =
            let all : o' ≡ put 0 (opening ++ rest_bytes old new) a.before
            = w.is ∙ ap (put 0 opening) (a.stands z ∙ ap (λ (p : ℕ). put p (rest_bytes old new) a.before) (sym opening_length ∙ omega arith)) ∙ put_put_last_first 0 opening (rest_bytes old new) a.before in
            let whole : Wrote 0 (opening ++ rest_bytes old new) a.before (length (opening ++ rest_bytes old new)) o' = record { next = omega arith; is = all } in
            let long = length-append opening (rest_bytes old new) in
            let taken = wrote_take whole (omega (arith, long, opening_length, a.fits z)) in
            record {
              said = a.said;
              stands = λ v e.
                  let same = behind_bytes room opening old new v (sym begun_on ∙ sym (streams room size f u) ∙ e) in
                  rw same taken;
            }
