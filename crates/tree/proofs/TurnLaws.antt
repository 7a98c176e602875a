-- One turn of the code's loop over the entries of a run, and the two ways through an entry. Assumes nothing.
use mathlib.Core.Path.{◌≡◌, refl, sym, ap, ◌∙◌}
use mathlib.Core.List.{List}
use mathlib.Core.Bool.{Bool, true, false, not}
use Prim.Native.Nat.{ℕ, ◌+◌, ◌-◌, ◌<◌}
use native.Mathlib.Omega.{arith}
use lib.ListN.{length}
use lib.Dec.{ltb, eqb}
use Rattle.base.specs.Choice.{pick, either}
use Rattle.base.specs.Check.{Check}
use Rattle.forest.specs.Reader.{faulty}
use Rattle.std.specs.Prelude.{Result, Ok, Err}
use Rattle.tree.specs.Source.{two, past, count, numbered, closed, Spot, spot, tuples_in, said_by, run_at, entry_at}
use Rattle.tree.specs.Due.{due_for}
use Rattle.tree.specs.Known.{Reach, there, Fresh, Known, Seen}
use Rattle.tree.proofs.KnownLaws.{seen_none, seen_next}
use Rattle.tree.proofs.TestLaws.{due_whole}
use Rattle.tree.proofs.WalkLaws.{run_bad, run_go, entry_known, entry_count, entry_reach, entry_on, entry_bad, entry_run}

-- ---- an entry: the code's test is the one of the source, where the index is the one that is due
module _ (b : List ℕ) (whole : Bool) (at k due : ℕ) (shut r : Bool) (told : r ≡ either shut (not (either (not whole) (eqb (two b (at + 2)) due))))
    (dued : whole ≡ true → due ≡ count b 0 at (two b at) (two b (at + 4)) + 1) where
  -- so it finds the faulty tuples
  test_faulty : faulty (tuples_in b whole) shut (spot at k) ≡ r
  unfolding numbered
  test_faulty = go whole refl told dued
    where
      go : (w : Bool) → whole ≡ w → r ≡ either shut (not (either (not w) (eqb (two b (at + 2)) due))) → (w ≡ true → due ≡ count b 0 at (two b at) (two b (at + 4)) + 1)
          → faulty (tuples_in b whole) shut (spot at k) ≡ r
      go true e f d = rw e (sym (f ∙ ap (λ (n : ℕ). either shut (not (eqb (two b (at + 2)) n))) (d refl)))
      go false e f d = rw e (sym f)

  -- a tuple that breaks the rule
  pub entry_breaks : r ≡ true → said_by (Err k) ≡ entry_at b whole at k shut
  entry_breaks e = sym (entry_bad b whole at k shut (test_faulty ∙ e))

  -- its children
  pub entry_goes : (first : ℕ) (shuts : Bool) (w : Check Spot) → r ≡ false → first ≡ past b at → shuts ≡ closed b whole at → w ≡ run_at b whole first k (k + 1) shuts → w ≡ entry_at b whole at k shut
  entry_goes first shuts w e f g h = rw (f, g) at h ∙ sym (entry_run b whole at k shut (test_faulty ∙ e))

-- ---- the loop of a run

-- what is known in the loop of a run of parent p, from offset at and place k on, at the entry of place q at offset a
pub record Going (b : List ℕ) (whole : Bool) (at p k : ℕ) (shut : Bool) (a q top many : ℕ) : Type 0 where
  pub same : run_at b whole a p q shut ≡ run_at b whole at p k shut
  pub known : Known b p a q
  pub reached : Reach b at a
  pub seen : whole ≡ true → Seen b p a top many

-- where the loop starts
pub going_start : (b : List ℕ) (whole : Bool) (at p k : ℕ) (shut : Bool) → Known b p at k → Fresh b at p → Going b whole at p k shut at k 0 0
going_start b whole at p k shut i f = record { same = refl; known = i; reached = there refl; seen = λ w. seen_none b p at f }

-- at an entry of the run, with its code and the index that is due to it
module _ {b : List ℕ} {whole : Bool} {at p k : ℕ} {shut : Bool} {a q top many : ℕ} (go : Going b whole at p k shut a q top many) (n code due : ℕ) (sure : Bool)
    (inside : a < length b) (parent : n ≡ two b (a + 4)) (mine : n ≡ p) (coded : code ≡ two b a) (is : due ≡ due_for sure whole (count b 0 a (two b a) p + 1)) where
  -- the index is the one that is due, where the whole rule is asked for
  dued : whole ≡ true → due ≡ count b 0 a (two b a) p + 1
  dued w = due_whole sure whole (count b 0 a (two b a) p + 1) due is w

  -- its parent is the run's
  own : two b (a + 4) ≡ p
  own = sym parent ∙ mine

  -- what the entry asks for
  pub turn_asks : Known b (two b (a + 4)) a q × (a < length b) × (whole ≡ true → due ≡ count b 0 a (two b a) (two b (a + 4)) + 1)
  turn_asks = (rw own go.known, inside, λ x. rw own (dued x))

  module _ (w : Result (ℕ × ℕ) ℕ) (went : said_by w ≡ entry_at b whole a q shut) where
    -- a tuple that breaks the rule
    pub turn_bad : (j : ℕ) → w ≡ Err j → said_by (Err j) ≡ run_at b whole at p k shut
    turn_bad j e = sym (run_bad b whole a p q shut inside own j (sym went ∙ ap said_by e)) ∙ go.same

    -- the run goes forward
    pub turn_less : (x y : ℕ) → w ≡ Ok (x, y) → length b - x < length b - a
    turn_less x y e = omega (arith, entry_on b whole a p q shut inside own x y (sym went ∙ ap said_by e))

    -- the same is known behind the entry
    pub turn_again : (x y top' many' : ℕ) → w ≡ Ok (x, y) → many' ≡ pick (ltb code top) many due → top' ≡ pick (ltb top code) code top
        → Going b whole at p k shut x y top' many'
    turn_again x y top' many' e f g =
        let step : entry_at b whole a q shut ≡ said_by (Ok (x, y)) = sym went ∙ ap said_by e in
        record {
          same = run_go b whole a p q shut inside own x y step ∙ go.same;
          known = entry_known b whole a p q shut inside own x y step go.known;
          reached = entry_reach b whole a p q shut inside own x y step at go.reached;
          seen = λ o. rw (f, g) (seen_next b p a x code due top many (entry_count b whole a p q shut inside own x y step go.known) (sym coded) own (rw coded (dued o)) (go.seen o));
        }
