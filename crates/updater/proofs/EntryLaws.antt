-- Laws of the updater's functions over the verdicts and the result's records. Assumes nothing.
use Prim.Native.Nat.{ℕ, ◌+◌, ◌^◌, ◌≤◌, ◌<◌}
use mathlib.Core.Path.{◌≡◌, refl, sym, ap, subst, ◌∙◌}
use mathlib.Core.List.{List}
use native.Mathlib.Omega.{arith}
use lib.ListN.{length, replicate}
use Rattle.std.specs.Prelude.{Result, Ok, Err}
use Rattle.base.specs.Verdict.{refusal}
use Rattle.base.specs.declared.Refusal.{Refusal}
use Rattle.base.specs.Lists.{Each}
use Rattle.rules.specs.Outcome.{Outcome, done, refused}
use Rattle.rules.specs.declared.Answer.{Answer}
use Rattle.rules.specs.Record.{Rec}
use Rattle.fields.specs.Valid.{Bytes}
use Rattle.sequence.specs.Keyed.{Ordered}
use Rattle.updates.specs.Acts.{chart}
use Rattle.updates.specs.Streamed.{verdicts}
use Rattle.updates.proofs.Results.{read_sorted}
use Rattle.sound.specs.Sound.{SoundRec}
use Rattle.sound.proofs.Read.{read_sound}
use Rattle.keys.specs.Look.{Sound}
use Rattle.keys.specs.Listed.{keys_from}
use Rattle.keys.specs.Table.{Tails, Laid}
use Rattle.keys.proofs.TableLaws.{tails_same}
use Rattle.stock.specs.Stock.{stock_from}
use Rattle.version.specs.Areas.{flag_area}
use Rattle.sorting.specs.Indices.{Indices}
use Rattle.sorting.specs.declared.limits.Limits.{Limits}
use Rattle.composing.specs.Tied.{TiedFrom}
use Rattle.history.specs.Ready.{Ready}
use Rattle.history.specs.Judged.{judged_by, AllJudged}
use Rattle.history.specs.Flags.{Flags}
use Rattle.history.proofs.PlayingLaws.{rest_sound}
use Rattle.result.specs.Composed.{said_by, composed_of, ComposedBy}
use Rattle.result.specs.declared.Composed.{Composed}
use Rattle.result.proofs.ComposedLaws.{loose_said, whole_linked, whole_long, whole_counted}
use Rattle.updater.specs.Stages.{sent_from, Begun, Acted, Built}
use Rattle.updater.proofs.StageLaws.{refusing, built_as, little_work, long_dataset, long_update}
use Rattle.updater.proofs.PlacedLaws.{begun_once, begun_writable}
use Rattle.updater.proofs.ActLaws.{acted_as, verdict_file, behind_count, acted_wrong, acted_loose, acted_long, acted_short, acted_done}

-- ---- the verdicts

judged_fine : (c : Outcome (Unit {0})) → Ok tt ≡ judged_by c → c ≡ done tt
unfolding judged_by
judged_fine (done tt) e = refl
judged_fine (refused file n x) e = absurd (let y : ◌≡◌ {A = ℕ} 0 1 = cc in omega arith)

judged_stopped : (c : Outcome (Unit {0})) (r : Refusal) → Err r ≡ judged_by c → (file : ℕ) × (c ≡ refused file r.rec r.fault)
unfolding judged_by
judged_stopped (done a) r e = absurd (let y : ◌≡◌ {A = ℕ} 0 1 = cc in omega arith)
judged_stopped (refused file m x) r e =
    let a : r ≡ refusal m x = cc in
    (file, ap (λ (y : Refusal). refused file y.rec y.fault) (sym a))

module _ (f u : List ℕ) (ds us front : ℕ) (k : Begun f u ds us front) where
  -- what the verdicts stand on
  pub begun_ready : Ready f ds u us
  begun_ready =
      record {
        short = record { old = k.fits.old_short; new = k.fits.new_short };
        stock = k.opens.stock;
        once = begun_once f u ds us front k;
        writable = begun_writable f u ds us front k;
        inside = k.fits.fitting.inside;
        rest = k.fits.fitting.rest;
      }

  pub begun_sound : Sound f ds
  begun_sound = k.opens.sound k.fits.old_short

  pub begun_sent : Sound u us
  begun_sent = rest_sound u us k.fits.fitting.rest k.fits.fitting.inside k.fits.new_short

  pub begun_tied : TiedFrom f ds ds
  begun_tied = k.opens.tied

  pub begun_table : (n : ℕ) → Tails f ds (replicate n ds)
  begun_table n = tails_same f ds n begun_sound

  pub begun_in : ds ≤ length f
  begun_in = k.opens.inside

  pub begun_short : length f ≤ 16777216
  begun_short = k.fits.old_short

  pub begun_small : front ≤ 299997
  begun_small = k.small

  -- what the result's records stand on besides
  pub begun_records : Bytes f → Each SoundRec (stock_from f ds)
  begun_records b = subst (λ (l : List Rec). Each SoundRec l) k.opens.records (read_sound f k.fits.dataset b k.fits.is_read).records

  pub begun_ordered : Ordered chart 1 (stock_from f ds)
  begun_ordered = subst (λ (l : List Rec). Ordered chart 1 l) k.opens.records (read_sorted f k.fits.dataset k.fits.is_read).ordered

  module _ (w : List ℕ) (j : Result (Unit {0}) Refusal) (a : AllJudged f ds u us w j) where
    fine_verdicts : j ≡ Ok tt → verdicts (stock_from f ds) (sent_from u us) ≡ done tt
    fine_verdicts x = judged_fine (verdicts (stock_from f ds) (sent_from u us)) (sym x ∙ a.came)

    -- what `finish` stands on, in a workspace as long as it was before the verdicts
    pub fine_finish : j ≡ Ok tt → (t : List ℕ) (n : ℕ) (map : List ℕ) → Laid f ds t n map → (before : List ℕ) → length w ≡ length before → 400000 ≤ length before
        → (lim : Limits) (out : List ℕ) → Indices f ds u us lim out
        → (Begun f u ds us front × Laid f ds t n map × (400000 ≤ length w)) × ((verdicts (stock_from f ds) (sent_from u us) ≡ done tt) × Flags (keys_from u us) (flag_area w) × Indices f ds u us lim out)
    fine_finish x t n map laid before same big lim out i =
        ((k, laid, subst (λ (l : ℕ). 400000 ≤ l) (sym same) big), (fine_verdicts x, a.flags x, i))

    pub wrong_acted : (r : Refusal) → j ≡ Err r → (room size : ℕ) → 400000 ≤ size → (o : List ℕ) (b : Answer) → b ≡ refusing r.fault.number 2 r.rec → Acted f u ds us front room size b o
    wrong_acted r x room size big o b s =
        let (file, e) = judged_stopped (verdicts (stock_from f ds) (sent_from u us)) r (sym x ∙ a.came) in
        let same : file ≡ 2 = verdict_file (stock_from f ds) (sent_from u us) file r.rec r.fault e in
        acted_as f u ds us front room size b (refusing r.fault.number 2 r.rec) o s (acted_wrong f u ds us front k room size big r.rec r.fault (e ∙ ap (λ (z : ℕ). refused z r.rec r.fault) same) o)

  -- ---- the result's records

  module _ (size : ℕ) (big : 400000 ≤ size) (fine : verdicts (stock_from f ds) (sent_from u us) ≡ done tt) (o o' : List ℕ) (r : Result Composed ℕ)
      (c : ComposedBy (stock_from f ds) (sent_from u us) front o r o') where
    pub loose_acted : (n : ℕ) → r ≡ Err n → (a : Answer) → a ≡ refusing 11 3 n → Acted f u ds us front (length o) size a o'
    loose_acted n x b s =
        let (y, z, e) = loose_said _ _ front n (ap said_by (sym x) ∙ c.said) in
        let a = acted_loose f u ds us front k (length o) size big fine n y e o' in
        acted_as f u ds us front (length o) size b (refusing 11 3 n) o' s (rw z at a)

    module _ (made : Composed) (x : r ≡ Ok made) where
      whole : said_by (Ok made) ≡ composed_of (stock_from f ds) (sent_from u us) front
      whole = ap said_by (sym x) ∙ c.said

      pub long_acted : 16777216 < made.length → (a : Answer) → a ≡ refusing 14 3 0 → Acted f u ds us front (length o) size a o'
      long_acted h b s =
          let linked = whole_linked _ _ front made whole in
          let long = whole_long _ _ front made whole in
          acted_as f u ds us front (length o) size b (refusing 14 3 0) o' s (acted_long f u ds us front k (length o) size big fine linked made.length long h o')

      pub short_acted : made.length ≤ 16777216 → length o < made.length → (a : Answer) → a ≡ refusing 13 3 0 → Acted f u ds us front (length o) size a o'
      short_acted h g b s =
          let linked = whole_linked _ _ front made whole in
          let long = whole_long _ _ front made whole in
          acted_as f u ds us front (length o) size b (refusing 13 3 0) o' s (acted_short f u ds us front k (length o) size big fine linked made.length long h g o')

      pub count_word : made.length ≤ 16777216 → 3 + made.count < 2 ^ 64
      count_word h = omega (arith, behind_count f u ds us front k, whole_counted _ _ front made whole, whole_long _ _ front made whole)

      pub done_acted : made.length ≤ 16777216 → made.length ≤ length o
          → Acted f u ds us front (length o) size (record { number = 0; file = 0; rec = 0; length = made.length; count = 3 + made.count }) o'
      done_acted h g =
          let linked = whole_linked _ _ front made whole in
          let long = whole_long _ _ front made whole in
          let counted = whole_counted _ _ front made whole in
          acted_done f u ds us front k (length o) size big fine linked made.length long h o o' refl g made.count counted (c.stands made x g)

pub ruleset finish_ways = (begun_ready, begun_small, loose_acted, long_acted, short_acted, count_word, done_acted)

-- ---- the tests before the general records

module _ (f u : List ℕ) (room size : ℕ) (o : List ℕ) (a : Answer) where
  pub built_15 : size < 400000 → a ≡ refusing 15 0 0 → Built f u room size a o
  built_15 h s = built_as f u room size a (refusing 15 0 0) o s (little_work f u room size h o)

  module _ (big : 400000 ≤ size) where
    pub built_14 : 16777216 < length f → a ≡ refusing 14 1 0 → Built f u room size a o
    built_14 h s = built_as f u room size a (refusing 14 1 0) o s (long_dataset f u room size big h o)

    module _ (old : length f ≤ 16777216) where
      pub built_14_update : 16777216 < length u → a ≡ refusing 14 2 0 → Built f u room size a o
      built_14_update h s = built_as f u room size a (refusing 14 2 0) o s (long_update f u room size big old h o)
