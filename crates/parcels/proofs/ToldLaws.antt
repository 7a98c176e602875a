-- What a display in step tells, and that the file which the rules accept next follows it. Assumes nothing.
use mathlib.Core.Path.{◌≡◌, refl, sym, ap, ◌∙◌}
use mathlib.Core.Bool.{true}
use mathlib.Core.Option.{some}
use mathlib.Core.List.{List}
use Prim.Native.Nat.{ℕ, suc, ◌+◌, ◌-◌, ◌≤◌}
use native.Mathlib.Omega.{arith}
use lib.ListN.{length}
use Rattle.base.proofs.OptionLaws.{never}
use Rattle.fields.specs.Valid.{Bytes}
use Rattle.rules.specs.Written.{Dataset, written_bytes}
use Rattle.rules.specs.Outcome.{Outcome, done, refused, and_then}
use Rattle.rules.specs.File.{read_dataset, Sent, read_update}
use Rattle.rules.specs.Answers.{not_too_long, read_outcome, write_outcome}
use Rattle.rules.specs.declared.Mode.TheVariants.{InDataset}
use Rattle.rules.proofs.Follows.{number8_inv, general_inv}
use Rattle.rules.proofs.OutcomeLaws.{and_then_inv}
use Rattle.numbers.proofs.Answers.{zero_is_done}
use Rattle.updates.proofs.Accepted.{parted}
use Rattle.displays.specs.Display.{Handed, after, number_read, number_shown, number_sent, bears}
use Rattle.displays.specs.Publisher.{Publisher, first, Genuine, in_order}
use Rattle.displays.specs.Demand.{chart, HasRoom}
use Rattle.displays.proofs.Room.{Turn, stays, moves, turn}
use Rattle.displays.proofs.Ruled.{Ruled, ruled_inv}
use Rattle.demand.proofs.Trip.{demand_three}
use Rattle.parcels.specs.Parcel.{tells_holding}
use Rattle.parcels.specs.Holding.{number_told, follows_by, follows, holding, told}
use Rattle.parcels.specs.Cable.{number_in, Issued, TellsRight}
use Rattle.parcels.proofs.FrontLaws.{read_front, sent_front}
use Rattle.parcels.proofs.GeneralLaws.{Named, named}
use Rattle.parcels.proofs.HoldingLaws.{holding_number, holding_right, follows_next}
use Rattle.parcels.proofs.TakingLaws.{Charted}

-- ---- a chart that can be read

module _ (c : List ℕ) (d : Dataset) (e : read_dataset c ≡ done d) where
  pub told_as : told c ≡ done (holding d.general)
  unfolding told and_then
  told_as = rw (read_front c d e)

  chart_named : Named d.general
  chart_named = named InDataset c d.general (read_front c d e)

  pub told_number : number_told (holding d.general) ≡ number_shown c
  unfolding number_shown number_read
  told_number = holding_number d.general chart_named ∙ rw e

  pub told_right : tells_holding (holding d.general) ≡ true
  told_right = holding_right d.general chart_named

  pub tells_so : TellsRight c
  tells_so = record { holding = holding d.general; tells = told_as; right = told_right; number = told_number }

  -- an update that the rules accept follows what it tells
  pub follows_told : (f : List ℕ) (r : Dataset) (q : Ruled c f r) → q.dataset ≡ d → follows (holding d.general) f ≡ true
  unfolding follows follows_by
  follows_told f r q z =
      let p = parted q.dataset q.sent r q.is_updated in
      let ((t, eight), merged) = general_inv q.dataset.general q.sent.general r.general p.general in
      let (a, b, n) = number8_inv q.dataset.general q.sent.general t eight in
      let w : q.dataset.general ≡ d.general = ap (λ (x : Dataset). x.general) z in
      rw (sent_front f q.sent q.is_sent)
      (follows_next d.general chart_named q.sent.general (rw w at a) (rw w at b) (rw w at n))

-- ---- the charts of a publisher's displays

-- a file of the publisher, as demand 3 has it
pub issued_genuine : (P : Publisher) (f : List ℕ) → Issued P f → Genuine P f
unfolding Issued Genuine bears
issued_genuine P f i n e = go (read_update f) refl e
  where
    go : (m : Outcome Sent) → read_update f ≡ m → number_sent m ≡ some n → P.issued n ≡ some f
    go (done u) x y = unfold number_sent number_in in i n (ap number_in (sent_front f u x) ∙ y)
    go (refused file k z) x y = unfold number_sent in never (sym y)

module _ (P : Publisher) (c : List ℕ) (q : Charted P c) where
  -- such a chart can be read
  pub chart_read : (d : Dataset) × (read_dataset c ≡ done d)
  unfolding write_outcome read_outcome
  chart_read =
      let l : length (chart P q.files) ≤ length c = omega (arith, ap length q.is) in
      let w = (demand_three P).written_form q.files q.genuine (length c) l in
      let (o, x) = (zero_is_done.writes (chart P q.files) (length c)).0 w.0 in
      let (d, y, z) = and_then_inv (and_then (not_too_long 1 (chart P q.files)) (λ _. read_dataset (chart P q.files))) _ o x in
      let (t, a, b) = and_then_inv (not_too_long 1 (chart P q.files)) (λ _. read_dataset (chart P q.files)) d y in
      (d, ap read_dataset q.is ∙ b)

  -- the file issued next, where the updates in order go on by it, is accepted
  pub next_ruled : (f : List ℕ) (r : Dataset) → Bytes f → P.issued (number_shown c + 1) ≡ some f → in_order P (suc (number_shown c - first P)) ≡ some r → (s : Dataset) × Ruled c f s
  next_ruled f r b i o =
      let h : Handed = record { file = f; is_bytes = b; room = length (written_bytes r); work = 400000 } in
      let v : HasRoom h r = record { slice = omega arith; workspace = omega arith } in
      let m = (demand_three P).onward q.files q.genuine h r (rw q.is at i) (rw q.is at o) v in
      go h (rw (← q.is) at m.by_one) (turn c h)
    where
      go : (h : Handed) → number_shown (after c h) ≡ number_shown c + 1 → Turn c h → (s : Dataset) × Ruled c h.file s
      go h n (stays e) = absurd (omega (arith, ap number_shown e))
      go h n (moves s e z) = (s, ruled_inv c h.file s e)
