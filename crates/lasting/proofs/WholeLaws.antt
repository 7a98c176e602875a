-- What is known of a dataset and an update none of whose records is refused. Assumes nothing.
use Prim.Native.Nat.{ℕ, ◌≤◌}
use mathlib.Core.Path.{◌≡◌, refl, sym, subst}
use mathlib.Core.List.{List, [], ◌∷◌}
use native.Mathlib.Omega.{arith}
use lib.ListN.{length}
use Rattle.base.specs.Lists.{each, Each}
use Rattle.skeleton.specs.File.{Field, records_from}
use Rattle.fields.specs.Valid.{Bytes}
use Rattle.rules.specs.Outcome.{done}
use Rattle.sequence.specs.Keyed.{Ran, done as ran, stop}
use Rattle.sequence.specs.History.{judged}
use Rattle.updates.specs.Acts.{chart, in_update}
use Rattle.updates.specs.Streamed.{verdicts}
use Rattle.sound.proofs.FileBytes.{Bodies, records_bytes}
use Rattle.sound.proofs.Changed.{Sendable}
use Rattle.stock.specs.Stock.{rec_in, AnyStored, stock_from}
use Rattle.incoming.specs.Fitting.{Single, Rest}
use Rattle.keys.specs.Listed.{key_of, keys_from}
use Rattle.keys.specs.Look.{Sound}
use Rattle.keys.specs.Numbered.{Numbered}
use Rattle.keys.proofs.NumberLaws.{numbered_none, numbered_front}
use Rattle.sorting.specs.Indices.{Indices}
use Rattle.sorting.specs.declared.limits.Limits.{Limits}
use Rattle.version.specs.Areas.{flag_area}
use Rattle.version.specs.Present.{FlagsKept}
use Rattle.composing.specs.Acts.{Known}
use Rattle.composing.specs.Settled.{Asks, Settled}
use Rattle.composing.specs.Tied.{Noted}
use Rattle.composing.proofs.KnownLaws.{known_right}
use Rattle.history.specs.Flags.{Flags}
use Rattle.history.proofs.FlagLaws.{flags_kept, area_long}
use Rattle.history.proofs.FindingLaws.{said}
use Rattle.history.proofs.PlayingLaws.{rest_sound}
use Rattle.lasting.specs.Whole.{Whole}

-- ---- the records of each

stored_numbered : (items : List (List Field)) → Each AnyStored items → Numbered (each rec_in items) (each key_of items)
unfolding Each each
stored_numbered [] s = numbered_none
stored_numbered (fs ∷ items) s =
    let t = said s.0.0 fs s.0.1 in
    numbered_front (rec_in fs) (each rec_in items) (each key_of items) (key_of fs) (stored_numbered items s.1) t.ranged t.number

pub singles_known : (items : List (List Field)) → Each Single items → Each Known items
unfolding Each
singles_known [] s = tt
singles_known (fs ∷ items) s = (known_right fs s.0.kind s.0.right, singles_known items s.1)

singles_sendable : (items : List (List Field)) → Each Single items → Each Bodies items → Each Sendable items
unfolding Each
singles_sendable [] s b = tt
singles_sendable (fs ∷ items) s b = (record { bytes = b.0; kind = s.0.kind; tested = s.0.right }, singles_sendable items s.1 b.1)

pub rest_sendable : (u : List ℕ) (p : ℕ) → Rest u p → Bytes u → Each Sendable (records_from u p).items
rest_sendable u p r b = singles_sendable (records_from u p).items r.singles (records_bytes u b p)

-- verdicts that refuse none
ran_done : (r : Ran (Unit {0})) → in_update r ≡ done tt → r ≡ ran tt
unfolding in_update
ran_done (ran tt) e = refl
ran_done (stop n x) e = absurd (let y : ◌≡◌ {A = ℕ} 0 1 = cc in omega arith)

-- ---- all of it

module _ (d : List ℕ) (ds : ℕ) (t : List ℕ) (n : ℕ) (map u : List ℕ) (us : ℕ) (w : List ℕ) (x : Whole d ds t n map u us w) where
  pub whole_sound : Sound u us
  whole_sound = rest_sound u us x.ready.rest x.ready.inside x.ready.short.new

  -- f is the workspace's flags
  pub flags_room : (f : List ℕ) → f ≡ flag_area w → 14000 ≤ length f
  flags_room f e = subst (λ (g : List ℕ). 14000 ≤ length g) (sym e) (let l = area_long w x.wide in omega arith)

  module _ (lim : Limits) (out : List ℕ) (i : Indices d ds u us lim out) where
    pub whole_noted : Noted u us lim out
    whole_noted = record { sound = whole_sound; inside = i.inside; new = i.new }

    pub whole_asks : (f : List ℕ) → f ≡ flag_area w → Asks d ds t n map u us f lim out
    whole_asks f e = record { laid = x.laid; sound = whole_sound; room = flags_room f e; indices = i }

  pub whole_known : Each Known (records_from u us).items
  whole_known = singles_known (records_from u us).items x.ready.rest.singles

  pub whole_fine : judged chart 3 (stock_from d ds) [] (records_from u us).items ≡ ran tt
  whole_fine = ran_done _ (unfold verdicts in x.fine)

  whole_numbered : Numbered (stock_from d ds) (keys_from d ds)
  unfolding stock_from keys_from
  whole_numbered = stored_numbered (records_from d ds).items x.ready.stock.right

  pub whole_settled : Settled (stock_from d ds) d ds u us (flag_area w)
  unfolding Flags
  whole_settled = record { numbered = whole_numbered; once = x.ready.once; known = whole_known; fine = whole_fine; flagged = λ k e. x.flags k e }

  -- and of a workspace that is changed before the flags only
  pub whole_kept : (v : List ℕ) → FlagsKept w v → length v ≡ length w → Whole d ds t n map u us v
  whole_kept v k l = record {
    ready = x.ready;
    laid = x.laid;
    wide = subst (λ (m : ℕ). 400000 ≤ m) (sym l) x.wide;
    sound = x.sound;
    fine = x.fine;
    flags = subst (Flags (keys_from u us)) (sym (flags_kept w v k)) x.flags;
    tied = x.tied;
  }
