-- Laws of the sources of the result's general fields. Assumes nothing.
use mathlib.Core.Path.{◌≡◌, refl, sym, ◌∙◌, ap}
use mathlib.Core.List.{List, [], ◌∷◌}
use Prim.Native.Nat.{ℕ, suc, ◌+◌, ◌-◌, ◌^◌, ◌≤◌, ◌<◌}
use native.Mathlib.Omega.{arith}
use borrow.Author.Tests.{eq-eqb}
use lib.ListN.{length}
use Rattle.std.specs.Prelude.{Option, Some, None}
use Rattle.base.specs.Lists.{empty}
use Rattle.base.proofs.ListLaws.{none_long}
use Rattle.memory.specs.Put.{part}
use Rattle.memory.specs.Wrote.{Wrote}
use Rattle.memory.proofs.WroteLaws.{then, wrote_none, wrote_length}
use Rattle.skeleton.specs.File.{Field}
use Rattle.skeleton.specs.Emit.{sizes, contents}
use Rattle.skeleton.specs.Place.{between, fields_at, find_from}
use Rattle.skeleton.specs.declared.directory.Shape.{Shape}
use Rattle.skeleton.specs.declared.place.Place.{Place}
use Rattle.skeleton.proofs.FindLaws.{found_none, found_first, found_tag, found_runs, found_in}
use Rattle.skeleton.proofs.BetweenLaws.{length_between}
use Rattle.rules.specs.ByTag.{with_tag}
use Rattle.rules.specs.General.{newer}
use Rattle.rules.specs.Written.{field_as}
use Rattle.rules.proofs.ByTagLaws.{with_from}
use Rattle.writing.proofs.PartsLaws.{wrote_as}
use Rattle.following.specs.Merging.{AtMostOne, newer_at, OneIn, Sourced, Measured}
use Rattle.following.specs.declared.sources.Source.{Source}
use Rattle.following.specs.declared.sources.Source.TheVariants.{Sent, Kept, Neither}

-- ---- the only field with a tag

module _ (r : List ℕ) (h : Shape) (t : ℕ) (e : Option Place) (en : e ≡ find_from r h t 24) where
  absent : e ≡ None → with_tag t (fields_at r h 24) ≡ []
  unfolding with_tag
  absent x = with_from t (fields_at r h 24) ∙ ap (with_tag t) (found_none r h t 24 e en x)

  module _ (d : Place) (x : e ≡ Some d) (one : AtMostOne r h t) where
    only : with_tag t (fields_at r h 24) ≡ field_as t (between r d.start d.end) ∷ []
    unfolding with_tag
    only =
        let z : d.tag ≡ t = found_tag r h t 24 e en d x in
        let a : with_tag t (fields_at r h 24) ≡ field_as d.tag (between r d.start d.end) ∷ with_tag t (fields_at r h d.next) =
        with_from t (fields_at r h 24) ∙ ap (with_tag t) (found_first r h t 24 e en d x) ∙ simp (eq-eqb d.tag t z) in
        let n : length (with_tag t (fields_at r h 24)) ≡ suc (length (with_tag t (fields_at r h d.next))) = ap length a in
        a ∙ rw (z, none_long (with_tag t (fields_at r h d.next)) (omega arith))

-- ---- `source_of`

module _ (old : List ℕ) (ho : Shape) (new : List ℕ) (hn : Shape) (t : ℕ) (oo : AtMostOne old ho t) (on : AtMostOne new hn t)
    (e : Option Place) (en : e ≡ find_from new hn t 24) where
  pub source_sent : (d : Place) → e ≡ Some d → Sourced old ho new hn t (Sent d.start d.end)
  unfolding Sourced newer empty
  source_sent d x = record {
    is = rw (only new hn t e en d x on);
    runs = found_runs new hn t 24 e en d x;
    inside = found_in new hn t 24 e en d x;
  }

  module _ (x : e ≡ None) (o : Option Place) (eo : o ≡ find_from old ho t 24) where
    pub source_kept : (d : Place) → o ≡ Some d → Sourced old ho new hn t (Kept d.start d.end)
    unfolding Sourced newer empty
    source_kept d y = record {
      is = rw (absent new hn t e en x) (only old ho t o eo d y oo);
      runs = found_runs old ho t 24 o eo d y;
      inside = found_in old ho t 24 o eo d y;
    }

    pub source_neither : o ≡ None → Sourced old ho new hn t Neither
    unfolding Sourced newer empty
    source_neither y = rw (absent new hn t e en x) (absent old ho t o eo y)

pub ruleset source_ways = (source_sent, source_kept, source_neither)

-- ---- one field of a slice r

module _ {fs : List Field} {t : ℕ} {r : List ℕ} {i j : ℕ} (one : OneIn fs t r i j) where
  one_runs : i ≤ j
  one_runs = one.runs

  one_word : length r ≤ 16777216 → j - i + 1 < 2 ^ 64
  one_word s = let g = one.inside in omega arith

  one_size : sizes fs ≡ j - i + 1
  unfolding sizes
  one_size = rw one.is (ap (λ (n : ℕ). n + 1 + 0) (length_between r i j one.inside) ∙ omega arith)

  one_measured : length r ≤ 16777216 → Measured t fs (j - i + 1)
  one_measured s = let g = one.inside in record { size_is = sym one_size; alone = rw one.is refl; small = omega arith }

  one_in : i + (j - i) ≤ length r
  one_in = let l = one.runs in let g = one.inside in omega arith

  module _ (at : ℕ) (o : List ℕ) (room : at + sizes fs ≤ length o) where
    one_room : at + (j - i) ≤ length o
    one_room = omega (arith, one_size)

    module _ (p : ℕ) (o' : List ℕ) (w : Wrote at (part i (j - i) r) o p o') where
      one_long : length (part i (j - i) r) ≡ j - i
      unfolding part
      one_long = length_between r i j one.inside

      one_mark : p + 1 ≤ length o'
      one_mark = omega (arith, one_size, one_long, w.next, wrote_length w)

      one_wrote : (q : ℕ) (o'' : List ℕ) → Wrote p (30 ∷ []) o' q o'' → Wrote at (contents fs) o q o''
      unfolding contents part
      one_wrote q o'' v = wrote_as (ap contents (sym one.is)) (then v w)

-- ---- `part_size` and `put_body`, by the source s

module _ (old : List ℕ) (ho : Shape) (new : List ℕ) (hn : Shape) (t : ℕ) (s : Source) (es : Sourced old ho new hn t s) where
  pub none_measured : s ≡ Neither → Measured t (newer_at old ho new hn t) 0
  unfolding Sourced sizes
  none_measured x = let z : newer_at old ho new hn t ≡ [] = rw x at es in record { size_is = rw z; alone = rw z tt; small = omega arith }

  pub none_wrote : s ≡ Neither → (at : ℕ) (o : List ℕ) → Wrote at (contents (newer_at old ho new hn t)) o at o
  unfolding Sourced contents
  none_wrote x at o = let z : newer_at old ho new hn t ≡ [] = rw x at es in rw z (wrote_none at o)

  module _ (i j : ℕ) (x : s ≡ Sent i j) where
    sent : OneIn (newer_at old ho new hn t) t new i j
    unfolding Sourced
    sent = rw x at es

    pub sent_runs : i ≤ j
    sent_runs = one_runs sent

    pub sent_word : length new ≤ 16777216 → j - i + 1 < 2 ^ 64
    sent_word = one_word sent

    pub sent_measured : length new ≤ 16777216 → Measured t (newer_at old ho new hn t) (j - i + 1)
    sent_measured = one_measured sent

    pub sent_in_lem : i + (j - i) ≤ length new
    sent_in_lem = one_in sent

    module _ (at : ℕ) (o : List ℕ) (room : at + sizes (newer_at old ho new hn t) ≤ length o) where
      pub sent_room : at + (j - i) ≤ length o
      sent_room = one_room sent at o room

      module _ (p : ℕ) (o' : List ℕ) (w : Wrote at (part i (j - i) new) o p o') where
        pub sent_mark : p + 1 ≤ length o'
        sent_mark = one_mark sent at o room p o' w

        pub sent_wrote : (q : ℕ) (o'' : List ℕ) → Wrote p (30 ∷ []) o' q o'' → Wrote at (contents (newer_at old ho new hn t)) o q o''
        sent_wrote = one_wrote sent at o room p o' w

  module _ (i j : ℕ) (x : s ≡ Kept i j) where
    kept : OneIn (newer_at old ho new hn t) t old i j
    unfolding Sourced
    kept = rw x at es

    pub kept_runs : i ≤ j
    kept_runs = one_runs kept

    pub kept_word : length old ≤ 16777216 → j - i + 1 < 2 ^ 64
    kept_word = one_word kept

    pub kept_measured : length old ≤ 16777216 → Measured t (newer_at old ho new hn t) (j - i + 1)
    kept_measured = one_measured kept

    pub kept_in : i + (j - i) ≤ length old
    kept_in = one_in kept

    module _ (at : ℕ) (o : List ℕ) (room : at + sizes (newer_at old ho new hn t) ≤ length o) where
      pub kept_room : at + (j - i) ≤ length o
      kept_room = one_room kept at o room

      module _ (p : ℕ) (o' : List ℕ) (w : Wrote at (part i (j - i) old) o p o') where
        pub kept_mark : p + 1 ≤ length o'
        kept_mark = one_mark kept at o room p o' w

        pub kept_wrote : (q : ℕ) (o'' : List ℕ) → Wrote p (30 ∷ []) o' q o'' → Wrote at (contents (newer_at old ho new hn t)) o q o''
        kept_wrote = one_wrote kept at o room p o' w

pub ruleset size_ways = (none_measured, sent_runs, sent_word, sent_measured, kept_runs, kept_word, kept_measured)

pub ruleset body_ways =
    (none_wrote, sent_runs, sent_in_lem, sent_room, sent_mark, sent_wrote, kept_runs, kept_in, kept_room, kept_mark, kept_wrote)
