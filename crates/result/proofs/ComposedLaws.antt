-- Laws of what is answered of all records of a result. Assumes nothing.
use Prim.Native.Nat.{ℕ, ◌+◌}
use mathlib.Core.Path.{◌≡◌, refl, sym, ap}
use mathlib.Core.List.{List}
use lib.ListN.{length}
use Rattle.std.specs.Prelude.{Ok, Err}
use Rattle.base.specs.Check.{fault}
use Rattle.base.specs.declared.Fault.{Fault}
use Rattle.skeleton.specs.File.{Field}
use Rattle.rules.specs.Record.{Rec}
use Rattle.rules.specs.Outcome.{Outcome, done, refused, and_then}
use Rattle.rules.proofs.OutcomeLaws.{refuses, done_inj}
use Rattle.updates.specs.Streamed.{result_records, result_references}
use Rattle.result.specs.Rest.{rest_length}
use Rattle.result.specs.Composed.{said_by, unplaced, composed_of}
use Rattle.result.specs.declared.Composed.{Composed}

module _ (ds : List Rec) (us : List (List Field)) (at : ℕ) where
  -- ---- to an answer

  pub said_loose : (k : ℕ) (x : Fault) → x.number ≡ 11 → result_references ds us ≡ refused 3 k x → said_by (Err k) ≡ composed_of ds us at
  unfolding said_by composed_of unplaced and_then
  said_loose k x n e = rw (e, n)

  pub said_whole : (c : Composed) → result_references ds us ≡ done tt → c.length ≡ at + rest_length ds us → c.count ≡ length (result_records ds us)
      → said_by (Ok c) ≡ composed_of ds us at
  unfolding said_by composed_of unplaced and_then
  said_whole c e l n = rw (e, l, n)

  -- ---- from an answer

  pub loose_said : (k : ℕ) → said_by (Err k) ≡ composed_of ds us at → (x : Fault) × (x.number ≡ 11) × (result_references ds us ≡ refused 3 k x)
  unfolding said_by composed_of unplaced and_then
  loose_said k e = go (result_references ds us) refl
    where
      go : (c : Outcome (Unit {0})) → result_references ds us ≡ c → (x : Fault) × (x.number ≡ 11) × (c ≡ refused 3 k x)
      go (done u) h = refuses (rw h at e)
      go (refused file n x) h =
          let z : ◌≡◌ {A = Outcome (ℕ × ℕ)} (refused 3 k (fault 11 0 0)) (refused file n (fault x.number 0 0)) = rw h at e in
          let a : file ≡ 3 = cc in
          let b : n ≡ k = cc in
          let c : fault x.number 0 0 ≡ fault 11 0 0 = cc in
          (x, ap (λ (y : Fault). y.number) c, rw (a, b))

  module _ (c : Composed) (e : said_by (Ok c) ≡ composed_of ds us at) where
    sums : (result_references ds us ≡ done tt) × ◌≡◌ {A = Outcome (ℕ × ℕ)} (done (c.length, c.count)) (done (at + rest_length ds us, length (result_records ds us)))
    unfolding said_by composed_of unplaced and_then
    sums = go (result_references ds us) refl
      where
        go : (o : Outcome (Unit {0})) → result_references ds us ≡ o → (o ≡ done tt) × ◌≡◌ {A = Outcome (ℕ × ℕ)} (done (c.length, c.count)) (done (at + rest_length ds us, length (result_records ds us)))
        go (done tt) h = (refl, rw h at e)
        go (refused file n x) h = refuses (sym (rw h at e))

    pub whole_linked : result_references ds us ≡ done tt
    whole_linked = sums.0

    pub whole_long : c.length ≡ at + rest_length ds us
    whole_long = ap (λ (p : ℕ × ℕ). p.0) (done_inj _ _ sums.1)

    pub whole_counted : c.count ≡ length (result_records ds us)
    whole_counted = ap (λ (p : ℕ × ℕ). p.1) (done_inj _ _ sums.1)
