-- Laws of one update record. Assumes nothing.
use mathlib.Core.Path.{◌≡◌, sym, ap, ◌∙◌, subst}
use mathlib.Core.Option.{Option}
use mathlib.Core.List.{List}
use Prim.Native.Nat.{ℕ, ◌+◌, ◌/◌, ◌≤◌, ◌<◌}
use native.Mathlib.Omega.{arith}
use lib.ListN.{length}
use Rattle.std.specs.Prelude.{Option as StdOption, Result, Ok, Err}
use Rattle.base.specs.Check.{Check, ok}
use Rattle.base.specs.declared.Fault.{Fault}
use Rattle.skeleton.specs.File.{Field}
use Rattle.skeleton.specs.Place.{between, fields_at}
use Rattle.skeleton.specs.Record.{record_at}
use Rattle.skeleton.specs.declared.leader.Head.{Head}
use Rattle.skeleton.specs.declared.leader.Broken.{Broken}
use Rattle.rules.specs.Record.{Rec, key_named, update_record}
use Rattle.rules.specs.Change.{change as change_of}
use Rattle.rules.specs.declared.Kind.{Kind}
use Rattle.sequence.specs.Keyed.{Under}
use Rattle.updates.specs.Acts.{named_by, changed_by, chart}
use Rattle.incoming.specs.Fitting.{Rest}
use Rattle.incoming.proofs.FittingLaws.{rest_good, rest_here}
use Rattle.keys.specs.Key.{key_at, kind_ranked}
use Rattle.version.specs.Present.{HeldAs, ChangedTo, FlagsKept}
use Rattle.version.specs.declared.Version.{Version}
use Rattle.history.specs.Here.{record_here, named_in}
use Rattle.history.specs.Ready.{Short}
use Rattle.history.specs.Played.{Acting, Acted}
use Rattle.history.proofs.HereLaws.{here_is, here_word, here_fits, here_kind, Known, known_sent}

-- the key that a record of kind k names, and what it makes of a version
pub named_as : (k : Kind) (fs : List Field) → update_record fs ≡ ok k → named_in fs ≡ key_named k fs
unfolding named_by
named_as k fs r = ap (λ (m : Option Kind). named_by m fs) (known_sent k fs r).kind

changed_as : (k : Kind) (fs : List Field) → update_record fs ≡ ok k → (o : Option Rec) → chart.change fs o ≡ change_of k fs o
unfolding changed_by
changed_as k fs r o = ap (λ (m : Option Kind). changed_by m fs o) (known_sent k fs r).kind

module _ (u : List ℕ) (at : ℕ) (s : Rest u at) (h : at < length u) (q : Result Head Broken) (e : q ≡ record_at u at) where
  pub act_refused : {X : Type 0} → (n : Broken) → q ≡ Err n → X
  act_refused n x = absurd (rest_good u at s h q e n x)

  module _ (head : Head) (x : q ≡ Ok head) where
    abbrev fields : List Field
    fields = fields_at (between u at (at + head.len)) head.shape 24

    pub act_right : (key : ℕ) → key ≡ key_at u (at + head.shape.base) → (k : Kind) → k ≡ kind_ranked (key / 4294967296) → update_record fields ≡ ok k
    act_right key ek k e2 =
        let t = rest_here u at s h q e head x in
        let z : k ≡ t.kind = here_kind u at q e head x t.kind (known_sent t.kind _ t.right) key ek k e2 in
        rw z t.right

    module _ (k : Kind) (r : update_record fields ≡ ok k) where
      name_is : named_in (record_here u at) ≡ key_named k fields
      name_is = ap named_in (here_is u at h q e head x) ∙ named_as k fields r

      change_is : (o : Option Rec) → chart.change (record_here u at) o ≡ change_of k fields o
      change_is o = ap (λ (fs : List Field). chart.change fs o) (here_is u at h q e head x) ∙ changed_as k fields r o

      pub act_on_lem : (d w : List ℕ) (p : StdOption Version) → Acting d u w p (record_here u at) → (o : Option Rec) × HeldAs d u w p o × Under chart (key_named k fields) o
      act_on_lem d w p t = (t.what, t.held, subst (λ (n : List ℕ). Under chart n t.what) name_is t.under)

      pub act_done : (d w w' : List ℕ) (p : StdOption Version) (c : Result (StdOption Version) Fault)
          → ((o : Option Rec) → HeldAs d u w p o → Under chart (key_named k fields) o → ChangedTo d u w' (change_of k fields o) c) → FlagsKept w w'
          → Acted d u w p (record_here u at) w' c
      act_done d w w' p c g f = record {
        came = λ o y z. subst (λ (m : Check (Option Rec)). ChangedTo d u w' m c) (sym (change_is o)) (g o y (subst (λ (n : List ℕ). Under chart n o) name_is z));
        kept = f;
      }

pub act_short : (d u : List ℕ) → Short d u → length u ≤ 16777216
act_short d u s = s.new

pub ruleset act_ways = (here_word, here_fits, act_short, arith)
