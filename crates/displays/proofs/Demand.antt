-- Demand 3: displays that take a publisher's files from a cable. Assumes of reading and writing what `RoundTrip` says, and nothing else.
use Prim.Native.Nat.{ℕ, suc, ◌+◌, ◌-◌}
use mathlib.Core.Path.{◌≡◌, refl, sym, ap, subst, ◌∙◌}
use mathlib.Core.Logic.{◌⊎◌, inl, inr}
use mathlib.Core.Option.{Option, some}
use mathlib.Core.List.{List, [], ◌∷◌}
use native.Mathlib.Omega.{arith}
use Rattle.base.proofs.OptionLaws.{never, some_inj}
use Rattle.fields.specs.Valid.{Bytes}
use Rattle.rules.specs.General.{number_of}
use Rattle.rules.specs.Written.{Dataset, written_bytes, count}
use Rattle.rules.specs.Outcome.{Outcome, done, refused}
use Rattle.rules.specs.File.{read_dataset, writable}
use Rattle.rules.specs.Answers.{not_too_long}
use Rattle.rules.proofs.OutcomeLaws.{done_inj}
use Rattle.updates.specs.Accepted.{Accepted}
use Rattle.updates.proofs.Accepted.{accepted as is_accepted}
use Rattle.updates.proofs.Kept.{result_writable}
use Rattle.displays.specs.Display.{Handed, taken, after, shown, number_read, number_shown, number_sent, bears, updated_by, ruled}
use Rattle.displays.specs.Publisher.{Publisher, accepted, next, start, first, Genuine, Cable, in_order}
use Rattle.displays.specs.Demand.{chart, InStep, HasRoom, MovedOn, Demand3}
use Rattle.displays.specs.RoundTrip.{Came, came_read, came_updated, RoundTrip}
use Rattle.displays.proofs.Room.{answer_done, takes, Turn, stays, moves, turn}
use Rattle.displays.proofs.Form.{short_file, written_as, gives_back}
use Rattle.displays.proofs.Ruled.{Ruled, ruled_inv, ruled_by, by_ruled}

-- ---- one file that the rules accept

-- the number that a chart shows is that of the dataset that it is
shows : (c : List ℕ) (d : Dataset) → read_dataset c ≡ done d → number_shown c ≡ number_of d.general
unfolding number_shown number_read
shows c d e = rw e

module _ (c f : List ℕ) (r : Dataset) (q : Ruled c f r) where
  -- it obeys the laws of an accepted update
  lawful : Accepted q.dataset q.sent r
  lawful = is_accepted c f q.dataset q.sent r q.is_read q.is_sent q.is_updated

  -- it bears the chart's number plus one
  follows : bears f ≡ some (number_shown c + 1)
  unfolding bears number_sent
  follows = rw (q.is_sent, shows c q.dataset q.is_read) (ap {B = Option ℕ} some lawful.follows)

  -- the result's number is the chart's plus one
  raised : number_of r.general ≡ number_shown c + 1
  raised = lawful.number ∙ ap (λ (n : ℕ). n + 1) (sym (shows c q.dataset q.is_read))

-- ---- the publisher's updates in order

module _ (P : Publisher) where
  -- the result of the next file is the next in order
  next_right : (k : ℕ) (d r : Dataset) (f : List ℕ) → in_order P k ≡ some d → P.issued (first P + suc k) ≡ some f → updated_by d f ≡ done r → in_order P (suc k) ≡ some r
  unfolding in_order next accepted
  next_right k d r f a b e = rw (a, b, e)

  -- and the next in order is the result of the next file
  next_inv : (k : ℕ) (d r : Dataset) (f : List ℕ) → in_order P k ≡ some d → P.issued (first P + suc k) ≡ some f → in_order P (suc k) ≡ some r → updated_by d f ≡ done r
  unfolding in_order next
  next_inv k d r f a b e = go (updated_by d f) (rw (a, b) at e)
    where
      go : (m : Outcome Dataset) → accepted m ≡ some r → m ≡ done r
      go (done d) x = unfold accepted in ap done (some_inj x)
      go (refused file n y) x = unfold accepted in never (sym x)

module _ (T : RoundTrip) (P : Publisher) where
  -- ---- any list of files

  -- a chart is the written result of the updates up to its own number
  record Right (c : List ℕ) : Type 0 where
    steps : ℕ
    dataset : Dataset
    counted : number_shown c ≡ first P + steps
    right : in_order P steps ≡ some dataset
    form : c ≡ written_bytes dataset
    came : Came dataset
    is_read : read_dataset c ≡ done dataset
    is_writable : writable dataset ≡ done dataset
    is_short : not_too_long 1 c ≡ done tt

  -- the written form of a dataset that came so far
  right_at : (k : ℕ) (d : Dataset) → in_order P k ≡ some d → number_of d.general ≡ first P + k → Came d → writable d ≡ done d → not_too_long 3 (written_bytes d) ≡ done tt → Right (written_bytes d)
  right_at k d o n a w s =
      let e = T.again d a in
      record {
        steps = k;
        dataset = d;
        counted = shows (written_bytes d) d e ∙ n;
        right = o;
        form = refl;
        came = a;
        is_read = e;
        is_writable = w;
        is_short = short_file 3 1 (written_bytes d) s;
      }

  -- the first chart
  started : Right (start P)
  unfolding start first in_order
  started = right_at 0 P.dataset refl (omega arith) (came_read P.source P.is_bytes P.is_read P.is_writable) P.is_writable P.is_short

  -- what the rules make of a chart that is right came from reading and updating
  came_on : (c f : List ℕ) (r : Dataset) → Bytes f → Right c → Ruled c f r → Came r
  came_on c f r b t q =
      let z : q.dataset ≡ t.dataset = done_inj q.dataset t.dataset (sym q.is_read ∙ t.is_read) in
      came_updated f q.sent t.dataset t.came b q.is_sent (rw z at q.is_updated)

  -- it shows the chart's number plus one
  moved_number : (c f : List ℕ) (r : Dataset) → Bytes f → Right c → Ruled c f r → number_shown (written_bytes r) ≡ number_shown c + 1
  moved_number c f r b t q = shows (written_bytes r) r (T.again r (came_on c f r b t q)) ∙ raised c f r q

  -- a chart after a file that the rules accept
  moved : (c f : List ℕ) (r : Dataset) → Bytes f → Genuine P f → Right c → Ruled c f r → Right (written_bytes r)
  unfolding Genuine
  moved c f r b g t q =
      let z : q.dataset ≡ t.dataset = done_inj q.dataset t.dataset (sym q.is_read ∙ t.is_read) in
      let n : bears f ≡ some (first P + suc t.steps) = follows c f r q ∙ ap {B = Option ℕ} some (omega (arith, t.counted)) in
      let u : updated_by t.dataset f ≡ done r = rw z at (ruled_by c f r q) in
      right_at (suc t.steps) r (next_right P t.steps t.dataset r f t.right (g (first P + suc t.steps) n) u)
      (omega (arith, raised c f r q, t.counted))
      (came_on c f r b t q)
      (result_writable q.dataset q.sent r q.is_writable q.is_updated)
      q.short_result

  -- a chart after any file
  stepped : (c : List ℕ) (h : Handed) → Genuine P h.file → Right c → Right (after c h)
  stepped c h g t = go (turn c h)
    where
      go : Turn c h → Right (after c h)
      go (stays e) = subst Right (sym e) t
      go (moves r e z) = subst Right (sym z) (moved c h.file r h.is_bytes g t (ruled_inv c h.file r e))

  -- a chart after any list of files
  walked : (c : List ℕ) (hs : List Handed) → Cable P hs → Right c → Right (shown c hs)
  unfolding shown Cable
  walked c [] t r = r
  walked c (h ∷ hs) t r = walked (after c h) hs t.1 (stepped c h t.0 r)

  -- the chart of a display of this publisher
  displayed : (hs : List Handed) → Cable P hs → Right (chart P hs)
  displayed hs t = walked (start P) hs t started

  -- (i)
  in_step : (hs : List Handed) → Cable P hs → InStep P (chart P hs)
  in_step hs t =
      let q = displayed hs t in
      let e : number_shown (chart P hs) - first P ≡ q.steps = omega (arith, q.counted) in
      record { result = q.dataset; reached = omega (arith, q.counted); made = rw e q.right; written = q.form }

  -- two charts in step that show one number
  one_chart : (b c : List ℕ) → InStep P b → InStep P c → number_shown b ≡ number_shown c → b ≡ c
  one_chart b c x y e =
      let z : some x.result ≡ some y.result = sym x.made ∙ ap (λ (n : ℕ). in_order P (n - first P)) e ∙ y.made in
      x.written ∙ ap written_bytes (some_inj z) ∙ sym y.written

  -- ---- the next file

  -- a chart that is right, and a file that the rules accept, with room for the result
  moves_right : (c : List ℕ) (h : Handed) (r : Dataset) → Right c → ruled c h.file ≡ done r → HasRoom h r → MovedOn c h r
  unfolding after
  moves_right c h r t e m =
      let z : after c h ≡ written_bytes r = ap (taken c) (answer_done h.room h.work c h.file r e m.slice m.workspace) ∙ takes c h.room _ in
      record { holds = z; by_one = ap number_shown z ∙ moved_number c h.file r h.is_bytes t (ruled_inv c h.file r e) }

  -- a chart that is right, and the file that was issued next
  goes_on : (c : List ℕ) (h : Handed) (r : Dataset) → Right c → P.issued (number_shown c + 1) ≡ some h.file → in_order P (suc (number_shown c - first P)) ≡ some r
      → HasRoom h r → MovedOn c h r
  goes_on c h r q i o m =
      let a : number_shown c + 1 ≡ first P + suc q.steps = omega (arith, q.counted) in
      let b : number_shown c - first P ≡ q.steps = omega (arith, q.counted) in
      let u : updated_by q.dataset h.file ≡ done r = next_inv P q.steps q.dataset r h.file q.right (rw a at i) (rw b at o) in
      moves_right c h r q (by_ruled c h.file q.dataset r q.is_short q.is_read q.is_writable u) m

  -- a chart that is right, and any file
  by_turn : (c : List ℕ) (h : Handed) → Right c → Turn c h → (after c h ≡ c) ⊎ (number_shown (after c h) ≡ number_shown c + 1)
  by_turn c h t (stays e) = inl e
  by_turn c h t (moves r e z) = inr (ap number_shown z ∙ moved_number c h.file r h.is_bytes t (ruled_inv c h.file r e))

  -- demand 3, of every publisher
  pub demand3 : Demand3 P
  demand3 =
      record {
        in_step = in_step;
        alike = λ hs ks t u. (λ e. ap number_shown e, λ e. one_chart (chart P hs) (chart P ks) (in_step hs t) (in_step ks u) e);
        moves_on = λ hs t h r e m. moves_right (chart P hs) h r (displayed hs t) e m;
        onward = λ hs t h r i o m. goes_on (chart P hs) h r (displayed hs t) i o m;
        stays = λ hs t h. by_turn (chart P hs) h (displayed hs t) (turn (chart P hs) h);
        written_form = λ hs t room l. let q = displayed hs t in
            gives_back room (chart P hs) (count q.dataset) (written_as room (chart P hs) q.dataset q.form l q.is_short q.is_read q.is_writable);
      }
