-- What the rules accept, taken apart. Assumes nothing.
use Prim.Native.Nat.{ℕ}
use mathlib.Core.Path.{◌≡◌, sym, ap, ◌∙◌}
use mathlib.Core.List.{List}
use Rattle.rules.specs.Written.{Dataset, written_bytes}
use Rattle.rules.specs.Outcome.{Outcome, done, and_then}
use Rattle.rules.specs.File.{read_dataset, writable, Sent, read_update}
use Rattle.rules.specs.Update.{updated}
use Rattle.rules.specs.Answers.{not_too_long}
use Rattle.rules.proofs.OutcomeLaws.{and_then_inv, done_inj}
use Rattle.updates.proofs.Streams.{writable_same}
use Rattle.displays.specs.Display.{updated_by, ruled}

-- the dataset in the chart, the update in the file, and what each was tested for
pub record Ruled (c f : List ℕ) (r : Dataset) : Type 0 where
  pub dataset : Dataset
  pub sent : Sent
  pub is_read : read_dataset c ≡ done dataset
  pub is_writable : writable dataset ≡ done dataset
  pub is_sent : read_update f ≡ done sent
  pub is_updated : updated dataset sent ≡ done r
  pub short_chart : not_too_long 1 c ≡ done tt
  pub short_file : not_too_long 2 f ≡ done tt
  pub short_result : not_too_long 3 (written_bytes r) ≡ done tt

-- one after the other, and what comes of both
on : {A B X : Type 0} (m : Outcome A) (k : A → Outcome B) (b : B) → and_then m k ≡ done b → ((a : A) → m ≡ done a → k a ≡ done b → X) → X
on m k b e go = let (a, x, y) = and_then_inv m k b e in go a x y

-- a result of the rules
pub ruled_inv : (c f : List ℕ) (r : Dataset) → ruled c f ≡ done r → Ruled c f r
unfolding ruled
ruled_inv c f r e0 =
    on (not_too_long 1 c) _ r e0 λ _ x1 e1.
    on (not_too_long 2 f) _ r e1 λ _ x2 e2.
    on (read_dataset c) _ r e2 λ d x3 e3.
    on (writable d) _ r e3 λ w x4 e4.
    on (read_update f) _ r e4 λ u x5 e5.
    on (updated w u) _ r e5 λ s x6 e6.
    on (not_too_long 3 (written_bytes s)) _ r e6 λ _ x7 e7.
    parts d w u s x1 x2 x3 x4 x5 x6 x7 (done_inj s r e7)
  where
    parts : (d w : Dataset) (u : Sent) (s : Dataset) → not_too_long 1 c ≡ done tt → not_too_long 2 f ≡ done tt → read_dataset c ≡ done d → writable d ≡ done w → read_update f ≡ done u
        → updated w u ≡ done s → not_too_long 3 (written_bytes s) ≡ done tt → s ≡ r → Ruled c f r
    parts d w u s x1 x2 x3 x4 x5 x6 x7 e =
        let z = writable_same d w x4 in
        record {
          dataset = d;
          sent = u;
          is_read = x3;
          is_writable = x4 ∙ ap done (sym z);
          is_sent = x5;
          is_updated = ap (λ (v : Dataset). updated v u) z ∙ x6 ∙ ap done e;
          short_chart = x1;
          short_file = x2;
          short_result = rw (← e) x7;
        }

-- what the rules make of the dataset that a chart is
pub ruled_by : (c f : List ℕ) (r : Dataset) (q : Ruled c f r) → updated_by q.dataset f ≡ done r
unfolding updated_by and_then
ruled_by c f r q = rw (q.short_file, q.is_sent, q.is_updated, q.short_result)

-- and the other way round
pub by_ruled : (c f : List ℕ) (d r : Dataset) → not_too_long 1 c ≡ done tt → read_dataset c ≡ done d → writable d ≡ done d → updated_by d f ≡ done r → ruled c f ≡ done r
unfolding updated_by ruled and_then
by_ruled c f d r x y z e0 =
    on (not_too_long 2 f) _ r e0 λ _ a e1.
    rw (x, a, y, z) e1
