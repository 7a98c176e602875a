-- Laws of the walks over the dataset's records and the update's, for one kind of the result. Assumes nothing.
use Prim.Native.Nat.{ℕ, suc, ◌+◌, ◌/◌, ◌≤◌, ◌<◌}
use mathlib.Core.Path.{◌≡◌, refl, sym, ap, subst, ◌∙◌}
use mathlib.Core.List.{List, [], ◌∷◌, ◌++◌, append_assoc}
use native.Mathlib.Omega.{arith}
use borrow.Author.Tests.{ne_eqb}
use lib.ListN.{length}
use Rattle.std.specs.Prelude.{Result, Ok}
use Rattle.base.specs.Lists.{gather, Each}
use Rattle.base.specs.Walk.{Got}
use Rattle.base.proofs.EachLaws.{each_map, each_join}
use Rattle.skeleton.specs.File.{Field, records_from}
use Rattle.skeleton.specs.Place.{between, fields_at}
use Rattle.skeleton.specs.Record.{record_at, stated_at}
use Rattle.skeleton.specs.declared.leader.Head.{Head}
use Rattle.skeleton.specs.declared.leader.Broken.{Broken}
use Rattle.skeleton.proofs.AgainLaws.{again, records_some}
use Rattle.skeleton.proofs.FileLaws.{records_over, records_more}
use Rattle.skeleton.proofs.RecordLaws.{right}
use Rattle.rules.specs.Record.{Rec}
use Rattle.sequence.specs.Keyed.{rank, Ordered}
use Rattle.sequence.specs.Stream.{kept_of, kept, joined_of, joined}
use Rattle.sequence.proofs.Lists.{ordered_from}
use Rattle.sequence.proofs.Stream.{kept_beyond}
use Rattle.updates.specs.Acts.{chart}
use Rattle.keys.specs.Key.{key_at}
use Rattle.keys.specs.Look.{Sound}
use Rattle.keys.proofs.FirstLaws.{first_key}
use Rattle.keys.proofs.LookLaws.{look_good}
use Rattle.keys.specs.Places.{Leads, here, over}
use Rattle.keys.proofs.PlaceLaws.{leads_then}
use Rattle.stock.specs.Stock.{rec_in, stock_from, Stock}
use Rattle.stock.proofs.StockLaws.{stock_over, stock_here, stock_more, stock_next}
use Rattle.incoming.proofs.FittingLaws.{rest_more}
use Rattle.history.proofs.FindingLaws.{said}
use Rattle.history.proofs.HereLaws.{known_stored}
use Rattle.history.proofs.PlayingLaws.{rest_sound}
use Rattle.composing.specs.Composing.{left_kinds, left_old, left_new}
use Rattle.composing.proofs.ActsLaws.{turn_sound}
use Rattle.composing.proofs.ComposingLaws.{left_old_lem, left_turn, left_new_lem, left_next}
use Rattle.lasting.specs.Whole.{Whole, Old, New}
use Rattle.lasting.proofs.NamingLaws.{place_is}
use Rattle.result.specs.Side.{Reached, NewAt}
use Rattle.result.specs.Pass.{kinds_left, old_left, new_left}

-- the first record of the dataset
pub old_start : (d : List ℕ) (ds : ℕ) → Sound d ds → Stock d ds → Reached d ds 1 ds
unfolding Each
old_start d ds s k = record { sound = s; stock = k; before = []; split = refl; passed = tt; leads = here }

module _ (d : List ℕ) (ds : ℕ) (t : List ℕ) (n : ℕ) (map u : List ℕ) (us : ℕ) (w : List ℕ) (y : Whole d ds t n map u us w) where
  pub new_start : NewAt u us us
  new_start = record { sound = rest_sound u us y.ready.rest y.ready.inside y.ready.short.new; rest = y.ready.rest; before = []; split = refl; leads = here }

-- the record at p, by the numbers of its leader
module _ (f : List ℕ) (p : ℕ) (s : Sound f p) (l : p < length f) (h : Result Head Broken) (eh : h ≡ stated_at f p) where
  found : h ≡ record_at f p
  found = again f p (records_some f p l s.clean) h eh

  -- the records that lead to it lead on to what is behind it
  further : (start : ℕ) (head : Head) → h ≡ Ok head → Leads f start p → Leads f start (p + head.len)
  further start head x g = leads_then g (over (sym (look_good f p h eh head x (key_at f (p + head.shape.base)) refl)) here)

-- one element of a list more is before the others
more_before : {A : Type 0} (before later whole : List A) (x : A) (rest : List A) → later ≡ x ∷ rest → before ++ later ≡ whole → (before ++ (x ∷ [])) ++ rest ≡ whole
more_before before later whole x rest e g = append_assoc before (x ∷ []) rest ∙ ap (λ l. before ++ l) (sym e) ∙ g

-- ---- old records

-- those of earlier kinds
kept_before : (q : ℕ) (us : List (List Field)) (before later : List Rec) → Each (λ r. rank chart r < q) before → kept chart q us (before ++ later) ≡ kept chart q us later
unfolding kept gather kept_of Each
kept_before q us [] later e = refl
kept_before q us (r ∷ before) later e = rw (ne_eqb (rank chart r) q (λ z. omega (arith, e.0))) (kept_before q us before later e.1)

ordered_behind : (n : ℕ) (before later : List Rec) → Ordered chart n (before ++ later) → Ordered chart n later
unfolding Ordered
ordered_behind n [] later o = o
ordered_behind n (r ∷ before) later o = ordered_from chart n (rank chart r) later o.0 (ordered_behind (rank chart r) before later o.1)

module _ (d : List ℕ) (ds q p : ℕ) (g : Reached d ds q p) where
  -- a kind later
  pub old_later : Reached d ds (suc q) p
  old_later = record {
    sound = g.sound;
    stock = g.stock;
    before = g.before;
    split = g.split;
    passed = each_map g.before (λ r h. let z : rank chart r < suc q = omega arith in z) g.passed;
    leads = g.leads;
  }

  -- the records before the place are not of kind q
  pub old_from : (u : List ℕ) (us : ℕ) → old_left d ds u us q ds ≡ old_left d ds u us q p
  unfolding left_old
  old_from u us =
      ap (λ (l : List Rec). l ++ (joined chart q (records_from u us).items ++ left_kinds (stock_from d ds) (records_from u us).items (suc q)))
      (ap (kept chart q (records_from u us).items) (sym g.split) ∙ kept_before q (records_from u us).items g.before (stock_from d p) g.passed)

module _ (d : List ℕ) (ds m p : ℕ) (g : Reached d ds m p) where
  pub old_over : length d ≤ p → (u : List ℕ) (us q : ℕ) → old_left d ds u us q p ≡ new_left d ds u us q us
  old_over h u us q =
      ap (left_old (stock_from d ds) (records_from u us).items q) (stock_over d p g.stock h)
      ∙ left_turn (stock_from d ds) (records_from u us).items q

  module _ (l : p < length d) (h : Result Head Broken) (eh : h ≡ stated_at d p) (head : Head) (x : h ≡ Ok head) where
    abbrev rec : Rec
    rec = rec_in (fields_at (between d p (p + head.len)) head.shape 24)

    next_old : stock_from d p ≡ rec ∷ stock_from d (p + head.len)
    next_old = stock_next d p g.stock l h (found d p g.sound l h eh) head x

    pub old_split : (u : List ℕ) (us q : ℕ) → old_left d ds u us q p ≡ kept_of chart q (records_from u us).items rec ++ old_left d ds u us q (p + head.len)
    old_split u us q =
        ap (left_old (stock_from d ds) (records_from u us).items q) next_old
        ∙ left_old_lem (stock_from d ds) (records_from u us).items q _ (stock_from d (p + head.len))

    module _ (key : ℕ) (e : key ≡ key_at d (p + head.shape.base)) where
      pub old_here : Old d ds p head.len head.shape key
      old_here = record {
        stock = g.stock;
        inside = l;
        there = sym (found d p g.sound l h eh) ∙ x;
        number = sym e;
        before = g.before;
        split = g.split;
        leads = g.leads;
      }

      -- its kind, by its key
      ranked : rank chart rec ≡ key / 4294967296
      ranked =
          let s = stock_here d p g.stock l h (found d p g.sound l h eh) head x in
          let t = said s.0 _ s.1 in
          let k = (known_stored s.0 _ s.1).keyed in
          let r = right d p h (found d p g.sound l h eh) head x in
          place_is _ t.ranged ∙ ap (λ (n : ℕ). n / 4294967296) (sym t.number ∙ sym (first_key d p head.len head.shape r.walked k.some) ∙ sym e)

      -- it is of a later kind
      pub old_stop : (q : ℕ) → q < key / 4294967296 → Ordered chart 1 (stock_from d ds) → (u : List ℕ) (us : ℕ) → old_left d ds u us q p ≡ new_left d ds u us q us
      unfolding left_old left_new Ordered
      old_stop q f o u us =
          let a : Ordered chart 1 (g.before ++ stock_from d p) = subst (λ (i : List Rec). Ordered chart 1 i) (sym g.split) o in
          let b : Ordered chart 1 (rec ∷ stock_from d (p + head.len)) = subst (λ (i : List Rec). Ordered chart 1 i) next_old (ordered_behind 1 g.before (stock_from d p) a) in
          let z : kept chart q (records_from u us).items (stock_from d p) ≡ []
          = ap (kept chart q (records_from u us).items) next_old
          ∙ kept_beyond chart q (rank chart rec) (records_from u us).items (rec ∷ stock_from d (p + head.len)) (omega (arith, ranked)) (omega arith, b.1) in
          ap (λ (i : List Rec). i ++ (joined chart q (records_from u us).items ++ left_kinds (stock_from d ds) (records_from u us).items (suc q))) z

      -- or it is passed
      pub old_next : (q : ℕ) → m ≡ suc q → key / 4294967296 ≤ q → Reached d ds m (p + head.len)
      old_next q em f = record {
        sound = turn_sound d p g.sound l h eh head x;
        stock = stock_more d p g.stock l h (found d p g.sound l h eh) head x;
        before = g.before ++ (rec ∷ []);
        split = more_before g.before (stock_from d p) (stock_from d ds) _ (stock_from d (p + head.len)) next_old g.split;
        passed = each_join (λ r. rank chart r < m) g.before (rec ∷ []) g.passed (unfold Each in (omega (arith, ranked), tt));
        leads = further d p g.sound l h eh ds head x g.leads;
      }

-- ---- update records

module _ (u : List ℕ) (us p : ℕ) (g : NewAt u us p) where
  pub new_over : length u ≤ p → (d : List ℕ) (ds q : ℕ) → new_left d ds u us q p ≡ kinds_left d ds u us (suc q)
  new_over h d ds q =
      ap (λ (i : Got (List Field)). left_new (stock_from d ds) (records_from u us).items q i.items) (records_over u p h)
      ∙ left_next (stock_from d ds) (records_from u us).items q

  module _ (l : p < length u) (h : Result Head Broken) (eh : h ≡ stated_at u p) (head : Head) (x : h ≡ Ok head) where
    pub new_here : (key : ℕ) → key ≡ key_at u (p + head.shape.base) → New u us p head.len head.shape key
    new_here key e = record {
      rest = g.rest;
      inside = l;
      there = sym (found u p g.sound l h eh) ∙ x;
      number = sym e;
      before = g.before;
      split = g.split;
      leads = g.leads;
    }

    next_new : (records_from u p).items ≡ fields_at (between u p (p + head.len)) head.shape 24 ∷ (records_from u (p + head.len)).items
    next_new = ap (λ (i : Got (List Field)). i.items) (records_more u p l h (found u p g.sound l h eh) head x)

    pub new_next : NewAt u us (p + head.len)
    new_next = record {
      sound = turn_sound u p g.sound l h eh head x;
      rest = rest_more u p g.rest l h (found u p g.sound l h eh) head x;
      before = g.before ++ (fields_at (between u p (p + head.len)) head.shape 24 ∷ []);
      split = more_before g.before (records_from u p).items (records_from u us).items _ (records_from u (p + head.len)).items next_new g.split;
      leads = further u p g.sound l h eh us head x g.leads;
    }

    pub new_split : (d : List ℕ) (ds q : ℕ) → new_left d ds u us q p
        ≡ joined_of chart q (fields_at (between u p (p + head.len)) head.shape 24) (records_from u (p + head.len)).items ++ new_left d ds u us q (p + head.len)
    new_split d ds q =
        ap (left_new (stock_from d ds) (records_from u us).items q) next_new
        ∙ left_new_lem (stock_from d ds) (records_from u us).items q _ (records_from u (p + head.len)).items
