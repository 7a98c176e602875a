-- An accepted update: its number, name and edition, what it carries, and the RVER of each record. Assumes nothing.
use Prim.Native.Nat.{ℕ, suc, ◌+◌}
use mathlib.Core.Path.{◌≡◌, refl, sym, ap, ◌∙◌}
use mathlib.Core.Bool.{Bool, true, false}
use mathlib.Core.Option.{Option, some, none}
use mathlib.Core.List.{List, [], ◌∷◌}
use native.Mathlib.Omega.{arith}
use Rattle.base.specs.Choice.{both}
use Rattle.base.specs.Check.{Check, ok, pass}
use Rattle.base.specs.Lists.{each}
use Rattle.base.specs.Keys.{same}
use Rattle.base.proofs.CheckLaws.{bind_inv, ok_inj, refused}
use Rattle.base.proofs.ChoiceLaws.{neither}
use Rattle.skeleton.specs.File.{Field}
use Rattle.rules.specs.Record.{Rec}
use Rattle.rules.specs.General.{general_record}
use Rattle.rules.specs.Written.{Dataset, written_fields}
use Rattle.rules.specs.Outcome.{done, at}
use Rattle.rules.specs.File.{references, read_dataset, Sent, read_update}
use Rattle.rules.specs.Update.{general, steps, updated}
use Rattle.rules.specs.declared.Kind.{Kind}
use Rattle.rules.specs.declared.Mode.TheVariants.{InUpdate}
use Rattle.rules.proofs.OutcomeLaws.{and_then_inv, at_inv, done_inj}
use Rattle.rules.proofs.Follows.{number8_inv, general_inv, raises}
use Rattle.sequence.specs.History.{history, version}
use Rattle.sequence.specs.Order.{keep, is_delete, deleted}
use Rattle.sequence.proofs.Tests.{by_bool}
use Rattle.updates.specs.Acts.{kind_in, act_of, done_by, changed_by, chart}
use Rattle.updates.specs.Accepted.{rver_of, times, Accepted}
use Rattle.updates.proofs.Acted.{Acted, acted_insert, acted_delete, acted_modify, acted, acted_new}
use Rattle.updates.proofs.Steps.{find_same}
use Rattle.updates.proofs.Read.{general_sent}
use Rattle.updates.proofs.Streams.{result_of}
use Rattle.updates.proofs.Results.{read_sorted, steps_sorted, steps_version, steps_stream, steps_count, steps_untouched}

-- ---- RVER

-- an update record of kind k that is no delete leaves a record, with an RVER one more than it found
stays : (k : Kind) (fs : List Field) (o p : Option Rec) → is_delete (done_by (some k) fs) ≡ false → Acted k fs o p → (s : Rec) × (p ≡ some s) × (s.rver ≡ rver_of o + 1)
unfolding done_by act_of is_delete
stays k fs none (some s) n (acted_insert i v w) = (s, refl, acted_new k fs none s (acted_insert i v w))
stays k fs (some r) none n (acted_delete i f) = absurd (let z = rw i at n in let y : ◌≡◌ {A = ℕ} 0 1 = cc in omega arith)
stays k fs (some r) (some s) n (acted_modify i j f g a w) = (s, refl, acted_new k fs (some r) s (acted_modify i j f g a w))
stays k fs none none n x4 = elim x4 [ ]

-- the same of an update record
stays_as : (fs : List Field) (m : Option Kind) (o p : Option Rec) → is_delete (done_by m fs) ≡ false → changed_by m fs o ≡ ok p → (s : Rec) × (p ≡ some s) × (s.rver ≡ rver_of o + 1)
unfolding changed_by
stays_as fs none o p n e = refused e
stays_as fs (some k) o p n e = stays k fs o p n (acted k fs o p e)

-- one act more
one_more : (p : Option Rec) (t s : Rec) (a n : ℕ) → p ≡ some t → t.rver ≡ a + 1 → s.rver ≡ rver_of p + n → s.rver ≡ a + suc n
unfolding rver_of
one_more p t s a n q v e = omega (arith, rw q at e)

-- the RVER at the end of a history with no delete: the first one, and one more for each update record
pub history_rver : (k : List ℕ) (us : List (List Field)) (o : Option Rec) (s : Rec) → deleted chart k us ≡ false → history chart k us o ≡ ok (some s) → s.rver ≡ rver_of o + times k us
unfolding history deleted times keep rver_of
history_rver k [] o s n e = ap rver_of (sym (ok_inj o (some s) e)) ∙ omega arith
history_rver k (u ∷ us) o s n e =
    let (x, y) = neither (both (is_delete (chart.act u)) (same (chart.names u) k)) (deleted chart k us) n in
    by_bool (same (chart.names u) k)
    (λ h. let (p, c, z) = bind_inv (chart.change u o) (λ p. history chart k us p) (some s) (rw h at e) in
    let (t, q, v) = stays_as u (kind_in u) o p (not_both _ (rw h at x)) c in
    rw h (one_more p t s (rver_of o) (times k us) q v (history_rver k us p s y z)))
    (λ h. rw h (history_rver k us o s y (rw h at e)))
  where
    not_both : (b : Bool) → both b true ≡ false → b ≡ false
    not_both true f = f
    not_both false f = refl

-- ---- the general record, and what is carried

-- an accepted update taken apart
pub record Parted (d : Dataset) (u : Sent) (r : Dataset) : Type 0 where
  pub general : general d.general u.general ≡ ok r.general
  pub stepped : steps 3 u.records d.records ≡ done r.records
  pub referred : references 3 r.records (each written_fields r.records) ≡ done tt
  pub descriptive : r.descriptive ≡ d.descriptive
  pub systems : r.systems ≡ d.systems

-- its parts, where its result is given by them
parted_as : (d : Dataset) (u : Sent) (r : Dataset) (g : List Field) (rs : List Rec) → general d.general u.general ≡ ok g → steps 3 u.records d.records ≡ done rs
    → references 3 rs (each written_fields rs) ≡ done tt → result_of d g rs ≡ r → Parted d u r
parted_as d u r g rs a b c e =
    rw (← e) (record { general = a; stepped = b; referred = c; descriptive = refl; systems = refl })

-- every accepted update has them
pub parted : (d : Dataset) (u : Sent) (r : Dataset) → updated d u ≡ done r → Parted d u r
unfolding updated
parted d u r e =
    let (g, a, b) = and_then_inv (at 2 2 (general d.general u.general)) _ r e in
    let (rs, c, f) = and_then_inv (steps 3 u.records d.records) _ r b in
    let (t, h, i) = and_then_inv (references 3 rs (each written_fields rs)) _ r f in
    parted_as d u r g rs (at_inv 2 2 (general d.general u.general) g a) c h (done_inj _ r i)

-- a general record that stands is not empty
general_some : (fs : List Field) → general_record InUpdate fs ≡ pass → (f : Field) × (rest : List Field) × (fs ≡ f ∷ rest)
unfolding general_record
general_some [] e = refused e
general_some (f ∷ rest) e = (f, rest, refl)

-- the update of a dataset that was read, by an update that was read
pub accepted : (f g : List ℕ) (d : Dataset) (u : Sent) (r : Dataset) → read_dataset f ≡ done d → read_update g ≡ done u → updated d u ≡ done r → Accepted d u r
unfolding version
accepted f g d u r x y e =
    let p = parted d u r e in
    let s = read_sorted f d x in
    let (h, rest, z) = general_some u.general (general_sent g u y) in
    let (name, edition, number) = raises d r u h rest z e in
    let ((t, eight), merged) = general_inv d.general u.general r.general p.general in
    let v = steps_version 3 u.records d.records s r.records p.stepped in
    record {
      follows = (number8_inv d.general u.general t eight).2;
      number = number;
      name = name;
      edition = edition;
      descriptive = p.descriptive;
      systems = p.systems;
      sorted = steps_sorted 3 u.records d.records s r.records p.stepped;
      records = steps_stream 3 u.records d.records s r.records p.stepped;
      count = steps_count 3 u.records d.records r.records p.stepped;
      untouched_same = steps_untouched 3 u.records d.records r.records p.stepped;
      versions = v;
      raised = λ k q n w. rw (find_same k d.records) (history_rver k u.records _ q n (v k ∙ ap {B = Check (Option Rec)} ok w));
    }
