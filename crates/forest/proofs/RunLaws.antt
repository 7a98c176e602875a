-- The tree rule and the test of an update's acts, each as a rule that reads tuples: with it come the laws of proofs/TupleReader, one for
-- each case of a run, none of which speaks of a bound. Assumes nothing.
use mathlib.Core.Path.{refl}
use mathlib.Core.List.{List, ◌∷◌}
use mathlib.Core.Bool.{true}
use Prim.Native.Nat.{ℕ, suc}
use lib.ListN.{length}
use Rattle.forest.specs.Forest.{Forest, nil, tree, Tup, valued}
use Rattle.forest.specs.Rule.{indexed, Run, entry_of, run_up_to}
use Rattle.forest.specs.Acts.{UTup, Acts, done, act, deletes, ActRun, act_of, acts_up_to}
use Rattle.forest.proofs.TupleReader.{TupleRule}

-- the whole tree rule
unfoldable pub whole_rule : TupleRule (List Tup) Tup Forest Run
unfolding run_up_to entry_of
whole_rule = record {
  parent = λ t. t.paix;
  place = λ e. suc (length e);
  right = indexed;
  shuts = λ t. valued t.atvl;
  keep = λ t e. t ∷ e;
  none = nil;
  one = λ e t f g. tree t.natc t.atvl f g;
  up_to = run_up_to;
  entry = λ e t kids rest. entry_of t kids rest;
  past_of = λ r. r.earlier;
  left_of = λ r. r.left;
  joined = λ e t r q. record { entries = tree t.natc t.atvl r.entries q.entries; earlier = q.earlier; left = q.left };
  in_words = λ r. record { entries = r.found; earlier = r.end.past; left = r.end.left };
  at_zero = λ h p b ts. refl;
  at_none = λ n h p b. refl;
  at_tuple = λ n h p b t ts. refl;
  at_entry = λ h t kids k. refl;
  past_as = λ r. refl;
  left_as = λ r. refl;
  joined_as = λ h t r q. refl;
}

-- PAIX and delete parents only
unfoldable pub acts_rule : TupleRule ℕ UTup Acts ActRun
unfolding acts_up_to act_of
acts_rule = record {
  parent = λ t. t.paix;
  place = λ k. k;
  right = λ k t. true;
  shuts = λ t. deletes t.atin;
  keep = λ t k. suc k;
  none = done;
  one = λ k t f g. act k t.atin t.natc t.atix t.atvl f g;
  up_to = acts_up_to;
  entry = λ k t kids rest. act_of t k kids rest;
  past_of = λ r. r.place;
  left_of = λ r. r.left;
  joined = λ k t r q. record { acts = act k t.atin t.natc t.atix t.atvl r.acts q.acts; place = q.place; left = q.left };
  in_words = λ r. record { acts = r.found; place = r.end.past; left = r.end.left };
  at_zero = λ h p b ts. refl;
  at_none = λ n h p b. refl;
  at_tuple = λ n h p b t ts. refl;
  at_entry = λ h t kids k. refl;
  past_as = λ r. refl;
  left_as = λ r. refl;
  joined_as = λ h t r q. refl;
}
