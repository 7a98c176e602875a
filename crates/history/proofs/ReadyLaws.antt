-- A dataset and an update that have passed are ready. Assumes nothing.
use mathlib.Core.Path.{◌≡◌, subst}
use mathlib.Core.List.{List}
use Prim.Native.Nat.{ℕ, ◌≤◌}
use lib.ListN.{length}
use Rattle.base.specs.Check.{pass}
use Rattle.base.specs.Lists.{Each}
use Rattle.rules.specs.Written.{Dataset, written_fields, number12, written}
use Rattle.rules.specs.Outcome.{done, every_record}
use Rattle.rules.specs.File.{read_dataset, writable}
use Rattle.rules.proofs.OutcomeLaws.{and_then_inv}
use Rattle.sequence.specs.Keyed.{Once}
use Rattle.updates.specs.Acts.{chart}
use Rattle.updates.specs.Accepted.{Writable}
use Rattle.updates.proofs.Results.{read_sorted}
use Rattle.updates.proofs.Kept.{every_inv, each_of}
use Rattle.stock.specs.Stock.{stock_from, Stock}
use Rattle.incoming.specs.Fitting.{Fitting}
use Rattle.history.specs.Ready.{Ready}

-- each record of a dataset that can be written can be
pub writable_each : (a : Dataset) → writable a ≡ done a → Each Writable a.records
unfolding writable written Each
writable_each a e =
    let p = and_then_inv (every_record number12 1 1 (written a)) (λ _. done a) a e in
    let q = every_inv number12 1 1 (written a) p.1 in
    each_of (λ fs. number12 fs ≡ pass) written_fields a.records q.1.1.1

pub ready : (d : List ℕ) (a : Dataset) (ds : ℕ) (u : List ℕ) (us : ℕ) → read_dataset d ≡ done a → writable a ≡ done a → Stock d ds → a.records ≡ stock_from d ds
    → Fitting u us → length d ≤ 16777216 → length u ≤ 16777216 → Ready d ds u us
ready d a ds u us r w s e f l m = record {
  short = record { old = l; new = m };
  stock = s;
  once = subst (Once chart) e (read_sorted d a r).once;
  writable = subst (Each Writable) e (writable_each a w);
  inside = f.inside;
  rest = f.rest;
}
