-- The laws of the run, of the rules' steps: locality, refusals, order, number. Assumes nothing.
use Prim.Native.Nat.{ℕ, ◌+◌}
use mathlib.Core.Path.{◌≡◌, refl, sym, ap, ◌∙◌}
use mathlib.Core.Logic.{◌↔◌}
use mathlib.Core.List.{List, [], ◌∷◌, ◌++◌}
use lib.ListN.{length}
use Rattle.base.specs.Check.{ok}
use Rattle.base.specs.Lists.{each}
use Rattle.base.specs.Keys.{among}
use Rattle.base.specs.declared.Fault.{Fault}
use Rattle.skeleton.specs.File.{Field}
use Rattle.rules.specs.Record.{Rec, key_of}
use Rattle.rules.specs.Written.{Dataset}
use Rattle.rules.specs.Outcome.{done, refused, and_then}
use Rattle.rules.specs.File.{last_rank, read_dataset}
use Rattle.rules.specs.Update.{find, steps}
use Rattle.rules.specs.Versions.{Once as RulesOnce, o_none, o_more}
use Rattle.rules.proofs.OutcomeLaws.{done_inj, refuses}
use Rattle.rules.proofs.ReadOnce.{dataset_once}
use Rattle.sequence.specs.Keyed.{Ran, done as ran, stop, run, Ordered, Once}
use Rattle.sequence.specs.History.{version, judged, Fine, First, verdict}
use Rattle.sequence.specs.Order.{of_kind, untouched, inserts, deletes}
use Rattle.sequence.specs.Stream.{places, kept, joined, standing}
use Rattle.sequence.proofs.Local.{run_judged, run_version}
use Rattle.sequence.proofs.Refusal.{run_refused, run_accepted}
use Rattle.sequence.proofs.Result.{run_once, run_ordered, run_count, run_untouched}
use Rattle.sequence.proofs.Stream.{run_kind, run_stream, run_standing}
use Rattle.updates.specs.Acts.{chart, in_update}
use Rattle.updates.specs.Sorted.{Sorted}
use Rattle.updates.specs.Streamed.{result_records}
use Rattle.updates.proofs.Acted.{lawful}
use Rattle.updates.proofs.Steps.{find_same, steps_run, low, high}
use Rattle.updates.proofs.Read.{is_read_lem}
use Rattle.updates.proofs.ReadOrdered.{through_ordered}

-- ---- what is read

-- each key once, as the rules say it
once_same : (rs : List Rec) → RulesOnce rs → Once chart rs
unfolding Once
once_same [] o_none = tt
once_same (r ∷ rs) (o_more f o) = (sym (find_same (key_of r) rs) ∙ f, once_same rs o)

-- no kind has place 0
from_one : (rs : List Rec) → Ordered chart 0 rs → Ordered chart 1 rs
unfolding Ordered
from_one [] o = tt
from_one (r ∷ rs) o = (low r, o.1)

-- a dataset that is read has its kinds in order and each key once
pub read_sorted : (f : List ℕ) (d : Dataset) → read_dataset f ≡ done d → Sorted d.records
unfolding last_rank
read_sorted f d e =
    let i = is_read_lem f d e in
    record { ordered = from_one d.records (through_ordered 1 [] i.items d.records i.tested); once = once_same d.records (dataset_once f d e) }

-- ---- how a run ended, as an outcome

-- it was done
ran_done : {A : Type 0} (r : Ran A) (a : A) → in_update r ≡ done a → r ≡ ran a
unfolding in_update
ran_done (ran b) a e = ap ran (done_inj b a e)
ran_done (stop j x) a e = refuses e

-- it was refused
ran_stop : {A : Type 0} (r : Ran A) (j : ℕ) (x : Fault) → in_update r ≡ refused 2 j x → r ≡ stop j x
unfolding in_update
ran_stop (ran b) j x e = refuses (sym e)
ran_stop (stop i y) j x e = cc

-- what it was refused with, and nothing of its result
ran_verdict : {A : Type 0} (r : Ran A) → and_then (in_update r) (λ _. done tt) ≡ in_update (verdict r)
unfolding in_update and_then verdict
ran_verdict (ran a) = refl
ran_verdict (stop j x) = refl

-- ---- of steps

module _ (n : ℕ) (us : List (List Field)) (ds rs : List Rec) (e : steps n us ds ≡ done rs) where
  -- the run that was done
  pub ran_so : run chart n ds us ≡ ran rs
  ran_so = ran_done (run chart n ds us) rs (sym (steps_run n us ds) ∙ e)

  -- the number of records: the old ones and the inserts, less the deletes
  pub steps_count : length rs + deletes chart us ≡ length ds + inserts chart us
  steps_count = run_count chart lawful n ds us rs ran_so

  -- a record that no update record names stands unchanged, in the same order among its like
  pub steps_untouched : untouched chart us rs ≡ untouched chart us ds
  steps_untouched = run_untouched chart lawful n ds us rs ran_so

module _ (n : ℕ) (us : List (List Field)) (ds : List Rec) (s : Sorted ds) where
  -- the first refused update record is the first whose change of its own version is refused
  pub steps_refused : (j : ℕ) (x : Fault) → (steps n us ds ≡ refused 2 j x) ↔ First chart n ds us j x
  unfolding in_update
  steps_refused j x = (
    λ e. (run_refused chart lawful n ds us s.once j x).0 (ran_stop (run chart n ds us) j x (sym (steps_run n us ds) ∙ e)),
    λ f. steps_run n us ds ∙ rw ((run_refused chart lawful n ds us s.once j x).1 f),
  )

  -- none is refused where no change of a version is
  pub steps_accepted : ((rs : List Rec) × (steps n us ds ≡ done rs)) ↔ Fine chart ds us
  unfolding in_update
  steps_accepted = (
    λ p. (run_accepted chart lawful n ds us s.once).0 (p.0, ran_done (run chart n ds us) p.0 (sym (steps_run n us ds) ∙ p.1)),
    λ f. let (rs, e) = (run_accepted chart lawful n ds us s.once).1 f in (rs, steps_run n us ds ∙ rw e),
  )

  -- both in one equation: the verdicts, each by the history of its own key
  pub steps_judged : and_then (steps n us ds) (λ _. done tt) ≡ in_update (judged chart n ds [] us)
  steps_judged = rw (steps_run n us ds, ran_verdict (run chart n ds us), run_judged chart lawful n ds us s.once)

  module _ (rs : List Rec) (e : steps n us ds ≡ done rs) where
    -- the kinds stay in order and each key stands once
    pub steps_sorted : Sorted rs
    steps_sorted = record { ordered = run_ordered chart lawful 1 low n ds us rs s.ordered (ran_so n us ds rs e); once = run_once chart lawful n ds us rs s.once (ran_so n us ds rs e) }

    -- what stands under a key is what the update records that name it make of what stood there
    pub steps_version : (k : List ℕ) → version chart ds us k ≡ ok (find k rs)
    steps_version k = rw (find_same k rs) (run_version chart lawful n ds us rs k s.once (ran_so n us ds rs e))

    -- a key is among the result's where a record stands at the end of its history
    pub steps_standing : (k : List ℕ) → among k (each key_of rs) ≡ standing chart ds us k
    steps_standing k = run_standing chart lawful n ds us rs k s.once (ran_so n us ds rs e)

    -- of each kind the old records not deleted, in their order, then the inserts not deleted later, in file order
    pub steps_kind : (q : ℕ) → of_kind chart q rs ≡ kept chart q us ds ++ joined chart q us
    steps_kind q = run_kind chart lawful 1 low q n ds us rs s.ordered s.once (ran_so n us ds rs e)

    -- the whole result
    pub steps_stream : rs ≡ result_records ds us
    unfolding result_records places
    steps_stream = run_stream chart lawful 1 low 4 n ds us rs high s.ordered s.once (ran_so n us ds rs e)
